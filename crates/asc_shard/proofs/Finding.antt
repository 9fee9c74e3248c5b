-- What is found.
use Rattle.std.proofs.Common.{◌≡◌, ◌≤◌, ℕ, true, List, get_or, Some, sym, ap, subst, ◌∙◌}
use Rattle.asc_model.specs.State.{State}
use Rattle.asc_model.specs.Entry.{Entry}
use Rattle.asc_traj.specs.Content.{longest, matches}
use Rattle.asc_shard.specs.Content.{IsFound}

-- the entry at the position that was found
pub record Fits (held : List Entry) (s : State) (left : ℕ) (e : Entry) : Type 0 where
  pub longest : longest held s left ≡ Some e.steps
  pub matched : matches s e ≡ true
  pub enough : e.steps ≤ left

pub found-fits : (held : List Entry) (s : State) (left i : ℕ) (a e : Entry) → IsFound held s left i → a ≡ get_or held i a → e ≡ a → Fits held s left e
found-fits held s left i a e found at value = record {
  longest = found.steps_are_longest a ∙ ap (λ (x : Entry). Some x.steps) (sym at ∙ sym value);
  matched = ap (matches s) (value ∙ at) ∙ found.is_match a;
  enough = subst (λ (x : Entry). x.steps ≤ left) (sym at ∙ sym value) (found.is_within_left a);
}
