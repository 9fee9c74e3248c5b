use Rattle.std.proofs.Common.{◌∙◌, arith, subst}
use Rattle.asc_model.specs.State.{IsState}
use Rattle.asc_shape.proofs.Snapshots.{front_tells, pages_tell, word_front, word_behind, word_inside}
use Rattle.asc_shape.proofs.snapshot.Snapshot.word.Goals as goal

pub returns-then-at-lt-FRONT : goal.returns-then-at-lt-FRONT
returns-then-at-lt-FRONT c =
    let inside = c.self.inside in
    c.word_in.ensures
    ∙ word_front c.args.self.now inside.front c.args.place
    (λ i below. front_tells c.args.self.now inside.shape inside.front inside.pages c.self.view_is i (omega (arith, below, c.self.invariant.shape.size.least)) below)
    (omega (arith, c.requires.aligned))

pub returns-else-at-lt-FRONT : goal.returns-else-at-lt-FRONT
returns-else-at-lt-FRONT c =
    let inside = c.self.inside in
    let good = subst IsState c.self.view_is c.self.invariant in
    c.word.ensures
    ∙ word_behind c.args.self.now inside.pages c.args.place (pages_tell c.args.self.now inside.shape inside.front inside.pages c.self.view_is) (omega arith)
    (omega (arith, good.length, word_inside c.args.self.now.shape c.args.place good.shape c.requires.aligned c.requires.within))
