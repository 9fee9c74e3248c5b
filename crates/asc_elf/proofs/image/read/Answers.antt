use Rattle.std.proofs.Common.{sym}
use Rattle.asc_elf.proofs.Faults.{image_of-header, image_of-table, image_of-segments}
use Rattle.asc_elf.proofs.image.read.Goals as goal

pub returns-in-Some : goal.returns-in-Some
returns-in-Some c = sym (image_of-header _ _ _ _ (sym c.in-Some.ensures))

pub returns-in-Some-table_fault : goal.returns-in-Some-table_fault
returns-in-Some-table_fault c = sym (image_of-table _ _ _ _ (sym c.in_default.ensures) (sym c.in-Some-table_fault.ensures))

pub returns-in-Some-segment_fault : goal.returns-in-Some-segment_fault
returns-in-Some-segment_fault c =
    sym (image_of-segments _ _ _ _ (sym c.in_default.ensures) (sym c.in_default-table_fault.ensures) (sym c.in-Some-segment_fault.ensures))
