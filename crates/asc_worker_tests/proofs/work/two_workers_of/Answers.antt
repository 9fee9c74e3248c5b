use Rattle.std.proofs.Common.{Bool, true, false, if◌then◌else◌, List, [], ◌∷◌, ◌++◌, All, ◌≡◌, sym, subst}
use Rattle.std.specs.Result.{is_ok}
use Rattle.std.proofs.lemmas.List.Elements.{All-nil, All-push}
use Rattle.asc_cache.specs.declared.writer.ShardWriter.{ShardWriter}
use Rattle.asc_work.specs.declared.halter.Flag.{Flag}
use Rattle.asc_model.specs.Tally.{no_jobs}
use Rattle.asc_work.specs.declared.worker.Worker.{Worker}
use Rattle.asc_worker_tests.proofs.work.two_workers_of.Goals as goal

pushed : {X : Type 0} (P : X → Type 0) (b : Bool) (xs ys : List X) (x : X) → ys ≡ (if b then xs ++ x ∷ [] else xs) → All P xs → P x → All P ys
pushed P true xs ys x e h p = subst (All P) (sym e) (All-push P xs x h p)
pushed P false xs ys x e h p = subst (All P) (sym e) h

pub returns-clause-new : goal.returns-clause-new
returns-clause-new g c =
    let New : Worker (ShardWriter g.row.R.Denot) Flag → Type 0 = λ w. w.tally ≡ no_jobs in
    let none = subst (All New) (sym c.new-workers.ensures.items) (All-nil New) in
    let one = pushed New (is_ok c.push.result) c.new-workers.result.items c.push.new.self.items c.next_worker-first.result c.push.ensures.items none c.next_worker-first.ensures in
    pushed New (is_ok c.push-2.result) c.push.new.self.items c.push-2.new.self.items c.next_worker-second.result c.push-2.ensures.items one c.next_worker-second.ensures
