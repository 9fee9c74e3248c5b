-- The parts of the touched words make the entry of the steps.
use Rattle.std.proofs.Common.{◌≡◌, ℕ, ◌+◌, ◌*◌, ◌^◌, ◌<◌, ◌≤◌, List, Some, length, sym, ap, subst, ◌∙◌, arith}
use Rattle.std.specs.Prelude.{All}
use Rattle.std.proofs.lemmas.Bool.Decides.{nat_tests}
use Rattle.std.proofs.lemmas.Grind.{common_steps}
use Rattle.asc_model.specs.Shape.{Shape, length_of}
use Rattle.asc_model.specs.State.{IsState}
use Rattle.asc_model.specs.Entry.{IsTrueEntry}
use Rattle.asc_depvec.specs.Bits.{words_of_blocks}
use Rattle.asc_depvec.specs.Tracer.{Tracing}
use Rattle.asc_traj.specs.Inside.{places_of_words, read_first, started, written}
use Rattle.asc_traj.specs.Parts.{all_cells}
use Rattle.asc_traj.proofs.Entries.{Makes, entry_is, entry_true, words-few, words-within}
use Rattle.asc_traj.proofs.entry.Entry.of.Goals.{After-shape-2}
use Rattle.asc_traj.proofs.entry.Entry.of.Goals as goal

pub split-requires-clause-words : goal.split-requires-clause-words
split-requires-clause-words c = grind (arith, common_steps, nat_tests, words-within)

pub split-requires-clause-few : goal.split-requires-clause-few
split-requires-clause-few c = grind (arith, common_steps, nat_tests, words-few)

pub split-requires-clause-low : goal.split-requires-clause-low
split-requires-clause-low c = subst (All (λ block. block.first < 2 ^ 30)) (sym c.deref.ensures.value) c.in_ok-blocks.ensures.low

-- what the parts have makes an entry
makes : (c : After-shape-2) → Makes c.args.steps c.args.tracer.now (all_cells c.in_ok-halves.halves.reads.items) (all_cells c.in_ok-halves.halves.writes.items)
makes c =
    let same = c.touched_blocks.ensures.tracer in
    let words = ap words_of_blocks c.deref.ensures.value ∙ c.in_ok-blocks.ensures.words in
    record {
      least = c.requires.steps;
      stands = c.requires.stands;
      good = c.known.ensures.state;
      begin = subst IsState c.started.ensures c.shape.ensures.state;
      read = c.in_ok-halves.ensures.reads ∙ λ i. read_first (same i) (started (same i) (places_of_words (words i)));
      written = c.in_ok-halves.ensures.writes ∙ λ i. written (same i) (started (same i) (places_of_words (words i)));
    }

shape-is : (c : After-shape-2) → c.args.tracer.now.state.shape ≡ c.shape-2.result
shape-is c = sym (c.shape-2.ensures.shape ∙ ap (λ (v : Tracing). v.state.shape) c.touched_blocks.ensures.tracer)

pub invariant_of-new : goal.invariant_of-new
invariant_of-new c =
    let here = (goal.at.invariant_of-new c).After-shape-2 in
    let halves = c.in_ok-halves.halves in (
      subst (λ (s : Shape). IsTrueEntry (record { shape = s; reads = all_cells halves.reads.items; writes = all_cells halves.writes.items; steps = c.args.steps })) (shape-is here)
          (entry_true c.args.steps c.args.tracer.now _ _ (makes here)),
      c.in_ok-halves.ensures.parts.reads,
      c.in_ok-halves.ensures.parts.writes,
    )

pub returns-clause-entry : goal.returns-clause-entry
returns-clause-entry c = grind (arith, common_steps, nat_tests, entry_is)
