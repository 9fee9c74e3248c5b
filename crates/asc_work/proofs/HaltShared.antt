-- Threads may look at a halter and at a flag, as they may at what these own.
use denote.RattleType.{RattleType}
use denote.Param.Send.{IsSend, IsSync, part_keyless, sendable, view_sync}
use Rattle.std.proofs.Crossing.{crosses}
use Rattle.atomic_table.specs.contracts.shared.Seat.{the_row}
use Rattle.atomic_table.proofs.shared.Seat.TheSendSync as seat
use Rattle.atomic_table.proofs.owned.Table.TheSendSync as table
use Rattle.asc_work.specs.contracts.halter.Halter as halter
use Rattle.asc_work.specs.contracts.halter.Flag as flag

seat_sync : (S V : RattleType) → IsSend S → IsSync (the_row S V)
seat_sync S V s = record { shared = λ d b o κ q. part_keyless (the_row S V) (seat.the_send S V s) q d b o }

halter_parts : IsSync halter.TheInside.the_row
halter_parts = search (sendable, crosses, seat_sync, table.the_sync, table.the_send) depth 30

pub halter_sync : IsSync halter.the_row
halter_sync = view_sync halter.TheInside.the_row _ _ _ _ halter_parts

flag_parts : IsSync flag.TheInside.the_row
flag_parts = search (sendable, crosses, seat_sync, table.the_sync, table.the_send) depth 30

pub flag_sync : IsSync flag.the_row
flag_sync = view_sync flag.TheInside.the_row _ _ _ _ flag_parts
