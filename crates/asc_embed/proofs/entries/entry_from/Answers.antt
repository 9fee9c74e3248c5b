-- The entry has the steps that were traced from the state.
use Rattle.std.proofs.Common.{◌≡◌, ℕ, Some, None, refl, sym, ap, subst, ◌∙◌}
use Rattle.std.specs.Arc.{arc_value}
use Rattle.asc_model.specs.State.{State}
use Rattle.asc_model.specs.Entry.{Entry, entry_of}
use Rattle.asc_model.specs.Step.{Next, Went, Call, Faulted}
use Rattle.asc_model.specs.Plain.{plain}
use Rattle.asc_model.proofs.Entries.{entry_of-is, made}
use Rattle.asc_embed.proofs.entries.entry_from.Goals as goal

-- the entry of n steps has n steps
own_steps : (n : ℕ) (s : State) (e : Entry) (x : Next) → plain n s ≡ x → entry_of n s ≡ Some e → entry_of e.steps s ≡ Some e
own_steps n s e (Went after) goes is =
    let same : Some e ≡ Some (made n s after) = sym is ∙ entry_of-is n s (Went after) goes in
    let alike : e ≡ made n s after = cc in
    ap (λ entry. entry_of entry.steps s) alike ∙ is
own_steps n s e Call goes is = let none : None ≡ Some e = sym (entry_of-is n s Call goes) ∙ is in absurd (cc)
own_steps n s e (Faulted fault) goes is = let none : None ≡ Some e = sym (entry_of-is n s (Faulted fault) goes) ∙ is in absurd (cc)

pub returns-in-One-clause-some : goal.returns-in-One-clause-some
returns-in-One-clause-some c =
    let entry = arc_value c.in-One.entry in
    let began = c.last-guess.ensures ∙ c.in_ok-of.ensures in
    subst (λ (s : State). entry_of entry.steps s ≡ Some entry) began (own_steps _ _ entry _ refl c.in-One.ensures.made.1)
