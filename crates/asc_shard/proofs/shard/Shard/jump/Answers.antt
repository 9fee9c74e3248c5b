use Rattle.std.proofs.Common.{sym, ap, ◌∙◌, Some}
use Rattle.asc_shard.proofs.Finding.{found-fits}
use Rattle.asc_shard.proofs.shard.Shard.jump.Goals as goal

pub jump_by-requires : goal.jump_by-requires
jump_by-requires c =
    (found-fits c.args.self.now.held c.args.state.now c.args.left c.in-Some.i _ c.deref.result.now c.in-Some.ensures.some c.entry.ensures c.deref.ensures).matched

pub returns-in-Some-clause-longest : goal.returns-in-Some-clause-longest
returns-in-Some-clause-longest c =
    ap Some c.jump_by.ensures.steps
    ∙ sym (found-fits c.args.self.now.held c.args.state.now c.args.left c.in-Some.i _ c.deref.result.now c.in-Some.ensures.some c.entry.ensures c.deref.ensures).longest

pub returns-in-Some-clause-jump : goal.returns-in-Some-clause-jump
returns-in-Some-clause-jump c =
    let fits = found-fits c.args.self.now.held c.args.state.now c.args.left c.in-Some.i _ c.deref.result.now c.in-Some.ensures.some c.entry.ensures c.deref.ensures in
    rw c.jump_by.ensures.steps (record { least = c.jump_by.ensures.least; most = fits.enough; goes = c.jump_by.ensures.goes })
