-- Threads may look at a giver and at a taker, as they may at what these own.
use denote.RattleType.{RattleType}
use denote.Param.Send.{IsSend, IsSync, part_keyless, sendable, view_sync}
use Rattle.std.proofs.Crossing.{crosses}
use Rattle.atomic_table.specs.contracts.shared.Seat.{the_row}
use Rattle.atomic_table.proofs.shared.Seat.TheSendSync as seat
use Rattle.crossbeam_queue.proofs.array_queue.Slotted.TheSendSync as slotted
use Rattle.asc_jobs.specs.contracts.jobs.Giver as giver
use Rattle.asc_jobs.specs.contracts.jobs.Taker as taker
use Rattle.asc_jobs.proofs.job.Job.TheSendSync as job

seat_sync : (S V : RattleType) → IsSend S → IsSync (the_row S V)
seat_sync S V s = record { shared = λ d b o κ q. part_keyless (the_row S V) (seat.the_send S V s) q d b o }

giver_parts : IsSync giver.TheInside.the_row
giver_parts = search (sendable, crosses, seat_sync, slotted.the_sync, slotted.the_send, job.the_send) depth 30

pub giver_sync : IsSync giver.the_row
giver_sync = view_sync giver.TheInside.the_row _ _ _ _ giver_parts

taker_parts : IsSync taker.TheInside.the_row
taker_parts = search (sendable, crosses, seat_sync, slotted.the_sync, slotted.the_send, job.the_send) depth 30

pub taker_sync : IsSync taker.the_row
taker_sync = view_sync taker.TheInside.the_row _ _ _ _ taker_parts
