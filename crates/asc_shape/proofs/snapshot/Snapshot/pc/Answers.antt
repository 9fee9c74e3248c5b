use Rattle.std.proofs.Common.{sym, ◌∙◌, arith}
use Rattle.asc_model.proofs.Views.{view_of-pc}
use Rattle.asc_shape.proofs.Snapshots.{front_tells, word_front}
use Rattle.asc_shape.proofs.snapshot.Snapshot.pc.Goals as goal

pub returns : goal.returns
returns c =
    let inside = c.self.inside in
    c.word_in.ensures
    ∙ word_front c.args.self.now inside.front 0 (λ i below. front_tells c.args.self.now inside.shape inside.front inside.pages c.self.view_is i (omega (arith, below, c.self.invariant.shape.size.least)) below) (omega arith)
    ∙ sym (view_of-pc c.args.self.now)
