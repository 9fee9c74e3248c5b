-- Of the others that were tried there is none that the newest entry may follow.
use Rattle.std.proofs.Common.{◌≡◌, ◌++◌, ◌∷◌, [], List, None, drop}
use Rattle.asc_model.specs.Entry.{Entry}
use Rattle.asc_find.specs.Serial.{newest_join}
use Rattle.asc_run.proofs.joining.join_newest.Given as goal

abbrev pub invariant-loop-i : goal.invariant-loop-i
invariant-loop-i l = (others : List Entry) (e : Entry) → l.shard.held ≡ others ++ e ∷ [] → newest_join (drop l.i others) e ≡ None
