-- The inputs of the first names were read.
use Rattle.std.proofs.Common.{take}
use Rattle.asc_top.proofs.BatchReads.{ReadSoFar}
use Rattle.asc_top.proofs.batch_files.read_inputs.Given as goal

abbrev pub invariant-loop-number : goal.invariant-loop-number
invariant-loop-number g l = ReadSoFar (take l.number l.names) l.inputs.items
    (g.F.Store.files l.fn.store) (g.F.Store.asked l.fn.store) (g.F.Store.faults l.fn.store)
    (g.F.Store.files l.store) (g.F.Store.asked l.store) (g.F.Store.faults l.store)
