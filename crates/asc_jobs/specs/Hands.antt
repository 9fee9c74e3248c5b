-- What a pass of the queue knows, and what becomes of that.
use Rattle.std.specs.Prelude.{ℕ, ◌+◌, ◌||◌, Bool, true, false, List, [], ◌∷◌, ◌++◌, nat_lt, if◌then◌else◌}
use Rattle.asc_jobs.specs.declared.job.Job.{Job}
use Rattle.asc_jobs.specs.declared.hand.Hand.{Hand}

abbrev pub hand : (gives : Bool) → (pushed : List Job) → (opened parts : ℕ) → (popped : List Job) → Hand
hand gives pushed opened parts popped = record { gives = gives; pushed = pushed; opened = opened; parts = parts; popped = popped }

-- the giver's at first
abbrev pub first_hand : Hand
first_hand = hand true [] 1 1 []

-- a new taker's
abbrev pub new_hand : Hand
new_hand = hand false [] 0 1 []

-- what is left of one that was joined into another
abbrev pub spent_hand : Hand
spent_hand = hand false [] 0 0 []

-- the giver's, once there is one taker more
abbrev pub one_part_more : Hand → Hand
one_part_more v = hand v.gives v.pushed (v.opened + 1) v.parts v.popped

abbrev pub pushed_by : Hand → Job → Hand
pushed_by v job = hand v.gives (v.pushed ++ job ∷ []) v.opened v.parts v.popped

abbrev pub popped_by : Hand → Job → Hand
popped_by v job = hand v.gives v.pushed v.opened v.parts (v.popped ++ job ∷ [])

-- a job put into a list that rises by ticket
abbrev pub insert_job : Job → List Job → List Job
insert_job x [] = x ∷ []
insert_job x (y ∷ ys) = if nat_lt x.ticket y.ticket then x ∷ y ∷ ys else (y ∷ insert_job x ys)

-- two lists that rise by ticket, as one
abbrev pub merge_jobs : List Job → List Job → List Job
merge_jobs xs [] = xs
merge_jobs xs (y ∷ ys) = insert_job y (merge_jobs xs ys)

-- what two know together
abbrev pub join_hands : Hand → Hand → Hand
join_hands v w = hand (v.gives || w.gives) (v.pushed ++ w.pushed) (v.opened + w.opened) (v.parts + w.parts) (merge_jobs v.popped w.popped)
