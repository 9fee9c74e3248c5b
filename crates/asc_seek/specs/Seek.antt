-- A run that seeks the address at which it is visited.
use Rattle.std.specs.Prelude.{ℕ, zero, suc, ◌+◌, ◌-◌, ◌*◌, ◌/◌, ◌^◌, ◌≤◌, max, Bool, true, false, nat_lt, nat_le, ◌==◌, ◌&&◌, List, [], ◌∷◌, filter, fold, Option, Some, None, if◌then◌else◌}
use Rattle.std.specs.List.{flat_map}
use Rattle.asc_seek.specs.declared.heads.Head.{Head}
use Rattle.asc_seek.specs.declared.seeker.Seeking.{Seeking}
use Rattle.asc_seek.specs.declared.seeker.Scored.{Scored}
use Rattle.asc_seek.specs.declared.seeker.Trial.{Trial}
use Rattle.asc_seek.specs.declared.seeker.Service.{Service}
use Rattle.asc_seek.specs.declared.seeker.Phase.{Phase}
use Rattle.asc_seek.specs.declared.seeker.Phase.TheVariants as phase
use Rattle.asc_seek.specs.Heads.{Path, comes_before, heads_of, lap_of, no_heads}

-- what is sought has bounds
pub record IsSeeking (s : Seeking) : Type 0 where
  pub least : 2 ≤ s.least
  pub most : s.least ≤ 65536
  pub lap : 1 ≤ s.least_lap
  pub long : s.least_lap ≤ 2 ^ 40
  pub ahead : 1 ≤ s.ahead
  pub far : s.ahead ≤ 64

-- the steps of the first stretch
abbrev pub first_stretch : ℕ
first_stretch = 65536

-- the least steps that an address is kept, or that a rest lasts
abbrev pub least_kept : ℕ
least_kept = 65536

-- no further head is tried once so many stretches have passed behind that of the search
abbrev pub tried_stretches : ℕ
tried_stretches = 8

-- of a thousand steps, how many have to be jumped over for an address to be kept, and for one to be kept at once
abbrev pub kept_score : ℕ
kept_score = 250

abbrev pub sure_score : ℕ
sure_score = 900

-- how many times as many steps as all searches took a run has to have come, before it searches anew
abbrev pub rest_ratio : ℕ
rest_ratio = 8

-- how long the first visit of a head is waited for: four laps, and a quarter of the stretch at least
abbrev pub waited_steps : (lap stretch : ℕ) → ℕ
waited_steps lap stretch = max (4 * lap) (stretch / 4)

-- how long a trial is scored: twelve laps, and a quarter of the stretch at least
abbrev pub scored_steps : (lap stretch : ℕ) → ℕ
scored_steps lap stretch = max (12 * lap) (stretch / 4)

-- how long it is scored where no step is jumped over
abbrev pub hopeless_steps : (lap stretch : ℕ) → ℕ
hopeless_steps lap stretch = max (4 * lap) (stretch / 16)

-- how long an address is kept, from where each visit can have been guessed, before it is looked at
abbrev pub looked_steps : (lap : ℕ) → ℕ
looked_steps lap = max (64 * lap) least_kept

-- the count from which on each visit can have been guessed, where an address was new at this count
abbrev pub reached_from : Seeking → (from lap : ℕ) → ℕ
reached_from s from lap = from + (s.ahead + 1) * lap

pub record Seek : Type 0 where
  pub seeking : Seeking
  -- since which count it searches, and how long its stretch is
  pub since : ℕ
  pub stretch : ℕ
  -- how many steps all searches took that have ended
  pub spent : ℕ
  -- the heads of the stretch
  pub table : List (Option Head)
  -- the best that was tried of those that may be kept
  pub best : Option Scored
  pub phase : Phase

-- before the first step
abbrev pub new_seek : Seeking → Seek
new_seek seeking = record {
  seeking = seeking;
  since = 0;
  stretch = first_stretch;
  spent = 0;
  table = no_heads;
  best = None;
  phase = phase.Profile;
}

-- the address at which the run is visited
abbrev pub watched_in : Phase → Option ℕ
watched_in phase.Profile = None
watched_in (phase.Trial t) = Some t.head.address
watched_in (phase.Service v) = Some v.address
watched_in (phase.Rest until) = None

-- ---- visits

-- the steps that a visit jumped over
abbrev pub reply_steps : (reply : Option ℕ) → ℕ
reply_steps None = 0
reply_steps (Some n) = n

-- what counts of a visit: the steps that it jumped over from that count on
abbrev pub given_at : (reached at : ℕ) → (reply : Option ℕ) → ℕ
given_at reached at reply = at + reply_steps reply - max at reached

-- a trial at a visit: its first one begins it
abbrev pub begun_at : (at : ℕ) → Trial → Trial
begun_at at t = if t.begun then t else record { head = t.head; begun = true; from = at; given = 0 }

-- a trial that has begun, behind a visit
abbrev pub tried_at : Seeking → (at : ℕ) → (reply : Option ℕ) → Trial → Trial
tried_at s at reply t = record t { given = t.given + given_at (reached_from s t.from (lap_of t.head)) at reply }

abbrev pub visit_in : Seeking → (at : ℕ) → (reply : Option ℕ) → Phase → Phase
visit_in s at reply phase.Profile = phase.Profile
visit_in s at reply (phase.Trial t) = phase.Trial (tried_at s at reply (begun_at at t))
visit_in s at reply (phase.Service v) =
    phase.Service (record v { given = v.given + given_at (reached_from s v.from v.lap) at reply })
visit_in s at reply (phase.Rest until) = phase.Rest until

-- behind a visit at a count
unfoldable pub seek_visit : (at : ℕ) → (reply : Option ℕ) → Seek → Seek
seek_visit at reply m = record m { phase = visit_in m.seeking at reply m.phase }

-- ---- what is tried next

-- whether a head may be tried: it was met often enough, and its laps are long enough
abbrev pub is_candidate : Seeking → Head → Bool
is_candidate s h = nat_le s.least h.times && nat_le s.least_lap (lap_of h)

-- whether a head comes behind one that was tried
abbrev pub is_behind : (tried : Option Head) → Head → Bool
is_behind None h = true
is_behind (Some t) h = comes_before t h

-- the heads of a table
abbrev pub heads_in : List (Option Head) → List Head
heads_in table = flat_map (λ met. elim met [ Some h ↦ h ∷ [] | None ↦ [] ]) table

-- the candidates of a table that come behind one that was tried
abbrev pub candidates_behind : Seeking → (tried : Option Head) → List (Option Head) → List Head
candidates_behind s tried table = filter (λ h. is_candidate s h && is_behind tried h) (heads_in table)

-- the first of a head and of another, where there is one
abbrev pub first_with : Option Head → Head → Head
first_with None h = h
first_with (Some other) h = if comes_before h other then h else other

-- the first of some heads
abbrev pub first_head : List Head → Option Head
first_head heads = fold (λ first h. Some (first_with first h)) None heads

-- the first of the candidates in a table that come behind one that was tried
abbrev pub candidate_behind : Seeking → (tried : Option Head) → List (Option Head) → Option Head
candidate_behind s tried table = first_head (candidates_behind s tried table)

-- the same, at a count up to which heads are tried
abbrev pub next_candidate : (count : ℕ) → (tried : Option Head) → Seek → Option Head
next_candidate count tried m =
    if nat_lt count (m.since + (1 + tried_stretches) * m.stretch) then candidate_behind m.seeking tried m.table else None

-- a head has its turn: from a count on its first visit is waited for
abbrev pub trying : (count : ℕ) → Head → Seek → Seek
trying count h m = record m { phase = phase.Trial (record { head = h; begun = false; from = count; given = 0 }) }

-- a search ended at a count, and all searches took so many steps: the best address is kept from there on, or there is a rest
abbrev pub serving : Seeking → (count : ℕ) → Option Scored → (spent : ℕ) → Phase
serving s count (Some b) spent = phase.Service (record {
  address = b.address;
  lap = b.lap;
  from = count;
  given = 0;
  until = max (rest_ratio * spent) (reached_from s count b.lap + looked_steps b.lap);
})
serving s count None spent = phase.Rest (max (rest_ratio * spent) (count + least_kept))

-- a search ends at a count
abbrev pub settled : (count : ℕ) → Seek → Seek
settled count m =
    let spent = m.spent + (count - m.since) in record m { spent = spent; phase = serving m.seeking count m.best spent }

-- the candidate behind one that was tried is tried, if there is one
abbrev pub try_next : (count : ℕ) → (tried : Option Head) → Seek → Seek
try_next count tried m = elim (next_candidate count tried m) [
  | Some h ↦ trying count h m
  | None ↦ settled count m
]

-- ---- the end of a phase

-- at which count a trial is over
abbrev pub trial_end : Seeking → (stretch : ℕ) → Trial → ℕ
trial_end s stretch t = let lap = lap_of t.head in if t.begun
    then reached_from s t.from lap + (if t.given == 0 then hopeless_steps lap stretch else scored_steps lap stretch)
    else t.from + waited_steps lap stretch

-- at which count a phase is over
abbrev pub end_in : Seek → Phase → ℕ
end_in m phase.Profile = m.since + m.stretch
end_in m (phase.Trial t) = trial_end m.seeking m.stretch t
end_in m (phase.Service v) = v.until
end_in m (phase.Rest until) = until

abbrev pub is_over : (count : ℕ) → Seek → Bool
is_over count m = nat_le (end_in m m.phase) count

-- How many of a thousand steps a trial that ends at a count jumped over, from where each visit can have been guessed: none
-- where it has not begun. Else it ends behind there.
abbrev pub score_at : Seeking → (count : ℕ) → Trial → ℕ
score_at s count t = if t.begun then 1000 * t.given / (count - reached_from s t.from (lap_of t.head)) else 0

-- whether a score is good enough to be kept, and better than the best so far
abbrev pub is_best_yet : (score : ℕ) → (best : Option Scored) → Bool
is_best_yet score None = nat_le kept_score score
is_best_yet score (Some b) = nat_lt b.score score

-- the best with a head of this score
abbrev pub best_with : Head → (score : ℕ) → Option Scored → Option Scored
best_with h score best =
    if is_best_yet score best then Some (record { address = h.address; lap = lap_of h; score = score }) else best

-- Whether a kept address pays at a count: of all steps since it was kept, from where each visit can have been guessed, at
-- least three quarters were jumped over.
abbrev pub pays : Seeking → (count : ℕ) → Service → Bool
pays s count v = nat_le (3 * (count - reached_from s v.from v.lap)) (4 * v.given)

-- a search begins at a count, with a stretch that is twice as long
abbrev pub searching : (count : ℕ) → Seek → Seek
searching count m =
    record m { since = count; stretch = 2 * m.stretch; table = no_heads; best = None; phase = phase.Profile }

-- the phase behind one that ends at a count
abbrev pub advanced_from : (count : ℕ) → Seek → Phase → Seek
advanced_from count m phase.Profile = try_next count None m
advanced_from count m (phase.Trial t) = let score = score_at m.seeking count t in
    let scored = record m { best = best_with t.head score m.best } in
    if nat_le sure_score score then settled count scored else try_next count (Some t.head) scored
advanced_from count m (phase.Service v) = if pays m.seeking count v
    then record m { phase = phase.Service (record v { until = count + looked_steps v.lap }) }
    else searching count m
advanced_from count m (phase.Rest until) = searching count m

-- at a count: where its phase is over, it goes on to the next
unfoldable pub advanced : (count : ℕ) → Seek → Seek
advanced count m = if is_over count m then advanced_from count m m.phase else m

-- ---- along a path

-- with the heads of the path since the search began, while they are noted
abbrev pub profiled : Path → (count : ℕ) → Seek → Phase → Seek
profiled path count m phase.Profile = record m { table = heads_of path m.since (count - m.since) }
profiled path count m (phase.Trial t) = m
profiled path count m (phase.Service v) = m
profiled path count m (phase.Rest until) = m

-- So many steps behind a count, none of which is a visit. At each count a phase that is over ends.
unfoldable pub seek_along : Path → (from steps : ℕ) → Seek → Seek
seek_along path from zero m = advanced from (profiled path from m m.phase)
seek_along path from (suc n) m =
    let before = seek_along path from n m in
    let count = from + suc n in
    advanced count (profiled path count before before.phase)

-- ---- at which counts a search may go on

-- a count is not before a phase began, nor before what was jumped over in it
abbrev pub IsBehindIn : (count : ℕ) → Seek → Phase → Type 0
IsBehindIn count m phase.Profile = m.since ≤ count
IsBehindIn count m (phase.Trial t) = t.from + t.given ≤ count
IsBehindIn count m (phase.Service v) = v.from + v.given ≤ count
IsBehindIn count m (phase.Rest until) = Unit {0}

abbrev pub IsBehind : (count : ℕ) → Seek → Type 0
IsBehind count m = IsBehindIn count m m.phase
