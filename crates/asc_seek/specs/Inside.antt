-- What holds of every search, and words of private contracts.
use Rattle.std.specs.Prelude.{◌≡◌, ℕ, ◌+◌, ◌*◌, ◌^◌, ◌≤◌, ◌<◌, true, ◌&&◌, length, List, slice_index_or, Option, Some, None, if◌then◌else◌}
use Rattle.asc_seek.specs.declared.heads.Head.{Head}
use Rattle.asc_seek.specs.declared.seeker.Scored.{Scored}
use Rattle.asc_seek.specs.declared.seeker.Seeking.{Seeking}
use Rattle.asc_seek.specs.declared.seeker.Phase.{Phase}
use Rattle.asc_seek.specs.declared.seeker.Phase.TheVariants as phase
use Rattle.asc_seek.specs.Heads.{AreEarlier, table_slots}
use Rattle.asc_seek.specs.Seek.{IsSeeking, Seek, first_stretch, first_with, is_behind, is_candidate, rest_ratio}

-- each head of a table was met no more often than there were counts
abbrev pub AreMetSeldom : List (Option Head) → Type 0
AreMetSeldom table = (k : ℕ) (h : Head) → slice_index_or table k None ≡ Some h → h.times ≤ h.last

-- what holds of a phase
abbrev pub IsPhase : Seek → Phase → Type 0
IsPhase m phase.Profile = rest_ratio * m.spent ≤ m.since
IsPhase m (phase.Trial t) = (is_candidate m.seeking t.head ≡ true) × (t.head.last ≤ 2 ^ 41) × (rest_ratio * m.spent ≤ m.since)
    × (m.since + m.stretch ≤ t.from) × (t.from ≤ 2 ^ 41) × (t.given ≤ 2 ^ 41)
IsPhase m (phase.Service v) = (rest_ratio * m.spent ≤ v.until) × (m.since + m.stretch ≤ v.from) × (v.from ≤ 2 ^ 41)
    × (v.lap ≤ 2 ^ 41) × (v.given ≤ 2 ^ 41) × (v.from < v.until) × (v.until ≤ 2 ^ 56)
IsPhase m (phase.Rest until) = (rest_ratio * m.spent ≤ until) × (m.since + m.stretch ≤ until) × (until ≤ 2 ^ 56)

-- the best has laps of a head
abbrev pub HasShortLap : Option Scored → Type 0
HasShortLap None = Unit {0}
HasShortLap (Some b) = b.lap ≤ 2 ^ 41

pub record IsSeek (m : Seek) : Type 0 where
  pub seeking : IsSeeking m.seeking
  pub since : m.since ≤ 2 ^ 41
  -- each search took its stretch, so these are no longer than the run so far
  pub stretch : m.stretch ≤ first_stretch + m.since
  pub some : 1 ≤ m.stretch
  pub slots : length m.table ≡ table_slots
  pub seldom : AreMetSeldom m.table
  pub early : AreEarlier (2 ^ 41 + 1) m.table
  pub best : HasShortLap m.best
  pub phase : IsPhase m m.phase

-- a head was met twice at least, so that it has laps
abbrev pub HasLaps : Option Head → Type 0
HasLaps None = Unit {0}
HasLaps (Some h) = 2 ≤ h.times

-- a head may be tried next, if there is one: it is a candidate, and was met by the last count
abbrev pub MayFollow : Seek → Option Head → Type 0
MayFollow m None = Unit {0}
MayFollow m (Some h) = (is_candidate m.seeking h ≡ true) × (h.last ≤ 2 ^ 41)

-- the first candidate so far, with what stands at one more slot of a table
abbrev pub first_candidate : Seeking → (tried : Option Head) → (so_far met : Option Head) → Option Head
first_candidate s tried so_far None = so_far
first_candidate s tried so_far (Some h) =
    if is_candidate s h && is_behind tried h then Some (first_with so_far h) else so_far
