use Rattle.std.proofs.Common.{◌-◌, sym, ◌∙◌, arith}
use Rattle.asc_save.proofs.Parsing.{entries_turn_fault, entries_turn}
use Rattle.asc_save.proofs.faults.entries_fault.Goals as goal

pub returns-then-is_some : goal.returns-then-is_some
returns-then-is_some c =
    entries_turn_fault c.args.shape c.loop-index.index (c.args.count - c.loop-index.index) c.loop-index.rest.now _ (omega arith) c.entry_fault-fault.ensures (sym c.is_some.ensures ∙ c.if-is_some.true)
    ∙ c.loop-index.invariant

pub loop-index-preserved : goal.loop-index-preserved
loop-index-preserved c =
    entries_turn c.args.shape c.loop-index.index c.args.count c.loop-index.rest.now _ _ (omega arith) c.entry_fault-fault.ensures (sym c.is_some.ensures ∙ c.if-is_some.false) c.writes_end.ensures
    ∙ c.loop-index.invariant
