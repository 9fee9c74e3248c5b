use Rattle.asc_work.proofs.HaltShared.{halter_sync, flag_sync}
use Rattle.asc_worker_tests.proofs.halter.shared.Goals as goal

pub is_shared-requires-sync-T : goal.is_shared-requires-sync-T
is_shared-requires-sync-T g c κs = record { shared = halter_sync.shared }

pub is_shared-requires-2-sync-T : goal.is_shared-requires-2-sync-T
is_shared-requires-2-sync-T g c κs = record { shared = flag_sync.shared }
