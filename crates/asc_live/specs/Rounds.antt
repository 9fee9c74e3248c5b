-- A helper that has lanes do what it guesses, and waits for them at each visit.
use Rattle.std.specs.Prelude.{◌≡◌, ℕ, ◌<◌, ◌≤◌, true, List, length, slice_index_or, Option, Some, None}
use Rattle.std.specs.Option.{is_some}
use Rattle.asc_model.specs.State.{State}
use Rattle.asc_traj.specs.declared.made.Made.{Made}
use Rattle.asc_guess.specs.Guess.{Task}
use Rattle.asc_find.specs.Finder.{Aid}
use Rattle.asc_run.specs.SerialHelper.{SerialHelper, aid_of}
use Rattle.asc_work.specs.Lanes.{Lanes, IsDone}

-- the helper of a run without workers, and the lanes that do its jobs
pub record Rounds : Type 0 where
  pub helper : SerialHelper
  pub lanes : Lanes

-- what it tells: what the helper tells
abbrev pub told_by : Rounds → Aid
told_by r = aid_of r.helper

-- lanes trace a helper's guesses as the helper itself does
pub record AreFor (h : SerialHelper) (l : Lanes) : Type 0 where
  pub shape : l.shape ≡ h.machine.shape
  pub laps : l.laps ≡ h.machine.guessing.laps
  pub span : l.span ≡ h.machine.guessing.span

-- ---- words of private contracts

-- what became of the jobs of a helper's last plan, from job `from` on, is there
abbrev pub AreThere : SerialHelper → List (Option Made) → (from : ℕ) → Type 0
AreThere h results from =
    (i : ℕ) → from ≤ i → i < length h.jobs → is_some (slice_index_or results i None) ≡ true

-- it is what becomes of their guesses, or memory was wanting
abbrev pub AreDone : SerialHelper → List (Option Made) → (from : ℕ) → Type 0
AreDone h results from = (prev last : State) → h.machine.prev ≡ Some prev → h.machine.last ≡ Some last
    → (i : ℕ) (d : Task) → from ≤ i → i < length h.jobs
    → IsDone h.machine.guessing.laps h.machine.guessing.span prev last
    (slice_index_or h.jobs i d) (slice_index_or results i None)

-- lanes have run the jobs of a helper's last plan, and each result is there
pub record HaveRun (h : SerialHelper) (old new : Lanes) : Type 0 where
  pub there : AreThere h new.results 0
  pub done : AreDone h new.results 0
  pub same : new ≡ record old { results = new.results; ran = new.ran }
