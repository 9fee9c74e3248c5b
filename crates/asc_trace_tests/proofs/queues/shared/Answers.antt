use Rattle.asc_jobs.proofs.Shared.{giver_sync, taker_sync}
use Rattle.asc_trace_tests.proofs.queues.shared.Goals as goal

pub is_shared-requires-sync-T : goal.is_shared-requires-sync-T
is_shared-requires-sync-T g c κs = record { shared = giver_sync.shared }

pub is_shared-requires-2-sync-T : goal.is_shared-requires-2-sync-T
is_shared-requires-2-sync-T g c κs = record { shared = taker_sync.shared }
