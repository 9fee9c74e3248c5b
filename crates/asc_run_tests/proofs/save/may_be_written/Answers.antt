use Rattle.std.proofs.Common.{◌≡◌, ◌≤◌, ◌<◌, ◌+◌, ℕ, List, length, get_or, sym, ap, subst, ◌∙◌, inl, inr, arith, rules}
use Rattle.std.specs.Prelude.{IfOk}
use Rattle.std.specs.Arc.{arc_value}
use Rattle.std.proofs.lemmas.Bool.{cases_lt}
use Rattle.std.proofs.lemmas.List.{get_or_default}
use Rattle.std.proofs.lemmas.Bool.Decides.{nat_tests}
use Rattle.asc_model.specs.Shape.{Shape}
use Rattle.asc_model.specs.Entry.{Entry, IsEntry}
use Rattle.asc_model.specs.EntryFile.{IsSavable}
use Rattle.asc_traj.specs.Parts.{all_cells}
use Rattle.asc_run_tests.proofs.save.may_be_written.Goals as goal

-- an entry that is one more
one_more : (shape : Shape) (held : List Entry) (i : ℕ) (e : Entry) → i < length held → e ≡ get_or held i e → IsSavable shape e → ((k : ℕ) (d : Entry) → k < i → IsSavable shape (get_or held k d))
    → (k : ℕ) (d : Entry) → k < i + 1 → IsSavable shape (get_or held k d)
one_more shape held i e lt is here before k d le = elim (cases_lt k i) [
  | inl below ↦ before k d below
  | inr past ↦
      let same : i ≡ k = omega arith in
      subst (λ j. IsSavable shape (get_or held j d)) same (subst (IsSavable shape) (is ∙ get_or_default held i e d lt) here)
]

pub loop-i-preserved : goal.loop-i-preserved
loop-i-preserved g c =
    let shape : c.shape.result ≡ c.args.shape = search rules in
    let e = arc_value c.entry-entry.result.now in
    let reads = subst (λ r. IfOk r (λ cells. cells.items ≡ all_cells c.reads.result.now)) c.expect-reads.ensures c.cells_of.ensures in
    let writes = subst (λ r. IfOk r (λ cells. cells.items ≡ all_cells c.writes.result.now)) c.expect-writes.ensures c.cells_of-in-loop-i.ensures in
    let few : length e.reads ≤ 4096 = let same = ap length (reads ∙ c.reads.ensures.cells ∙ ap (λ (x : Entry). x.reads) c.deref-in-loop-i.ensures) in omega (arith, c.expect-reads.result.ok.0) in
    let few_writes : length e.writes ≤ 4096 = let same = ap length (writes ∙ c.writes.ensures.cells ∙ ap (λ (x : Entry). x.writes) c.deref-in-loop-i-2.ensures) in omega (arith, c.expect-writes.result.ok.0) in
    let steps : e.steps ≤ 1000000000 = let same = c.steps.ensures ∙ ap (λ (x : Entry). x.steps) c.deref-else-ne.ensures in omega arith in
    one_more c.args.shape c.args.content.now.held c.loop-i.i e (omega arith) c.entry-entry.ensures
    (record {
      same = sym (ap (λ (x : Entry). x.shape) c.deref-in-loop-i-3.ensures) ∙ sym c.shape.ensures ∙ shape;
      entry = subst IsEntry c.deref.ensures c.truth.ensures.entry;
      steps = steps;
      reads = few;
      writes = few_writes;
    })
    c.loop-i.invariant

pub returns : goal.returns
returns g c = λ yes. record {
  good = c.base.ensures.good;
  count = let size = c.len-2.ensures in grind (arith, nat_tests);
  each = λ k d lt. c.loop-i.invariant k d (omega arith);
}
