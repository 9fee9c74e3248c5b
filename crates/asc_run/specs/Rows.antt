-- Values that are computed from the definitions: the visits of a loop that counts x5 from 0 to 4, two steps a lap, in a
-- small memory, and what the machine makes of them.
use Rattle.std.specs.Prelude.{◌≡◌, ℕ, zero, suc, ◌+◌, true, false, List, [], ◌∷◌, ◌++◌, map, replicate, Option, Some, None}
use Rattle.std.specs.List.{flat_map}
use Rattle.asc_model.specs.declared.version.Version.TheVariants.{One}
use Rattle.asc_model.specs.Number.{bytes_of}
use Rattle.asc_model.specs.Shape.{Shape}
use Rattle.asc_model.specs.State.{State}
use Rattle.asc_model.specs.Step.{Went}
use Rattle.asc_model.specs.Plain.{plain}
use Rattle.asc_model.specs.Entry.{Entry}
use Rattle.asc_guess.specs.declared.kind.Kind.TheVariants.{Stride}
use Rattle.asc_guess.specs.Guess.{guess_of, targets_of}
use Rattle.asc_find.specs.declared.guessing.Guessing.{Guessing}
use Rattle.asc_find.specs.Serial.{Serial, serial_reply, visited, made_at}
use Rattle.asc_run.specs.declared.recognised.Recognised.TheVariants as recognised
use Rattle.asc_run.specs.Execution.{progress, first_position}
use Rattle.asc_run.specs.Visits.{Course, Visit, visit_rule, AreVisits, replies_of, jumps_of}
use Rattle.asc_run.specs.Walk.{jumps}

abbrev pub code : List ℕ
code = 0x00000293 ∷ 0x00400313 ∷ 0x00128293 ∷ 0xFE629EE3 ∷ 0x05D00893 ∷ 0x00000513 ∷ 0x00000073 ∷ []

abbrev pub small : Shape
small = record { base = 0x10000; size = 64; version = One }

-- with this pc, x5 and x6
abbrev pub loop_state : (pc x5 x6 : ℕ) → State
loop_state pc x5 x6 = record {
  shape = small;
  bytes = bytes_of 4 pc ++ replicate 16 0 ++ bytes_of 4 x5 ++ bytes_of 4 x6 ++ replicate 100 0
      ++ flat_map (bytes_of 4) code ++ replicate 36 0;
}

-- at the first instruction of the loop
abbrev pub at_loop : ℕ → State
at_loop x5 = loop_state 0x10008 x5 4

-- guesses of two visits ahead, of one kind or of both
abbrev pub stride_two : Guessing
stride_two = record { last = false; stride = true; laps = 1; span = 1000000; ahead = 2; join = false }

abbrev pub both_two : Guessing
both_two = record { last = true; stride = true; laps = 1; span = 1000000; ahead = 2; join = false }

-- strides, and joined entries
abbrev pub joined_two : Guessing
joined_two = record stride_two { join = true }

-- the machine after its first n visits of the loop
abbrev pub machine_after : ℕ → Guessing → Serial
machine_after zero g =
    record { shape = small; guessing = g; prev = None; last = None; issued = 0; content = [] }
machine_after (suc n) g = visited (n + 1) (at_loop n) (machine_after n g)

-- how many steps each of these entries stands for
abbrev pub entry_steps : List Entry → List ℕ
entry_steps l = map (λ e. e.steps) l

-- two steps lead to the loop, and two more to the next lap; a stride goes on by as much as from the lap before
pub record Laps : Type 0 where
  pub enters : plain 2 (loop_state 0x10000 0 0) ≡ Went (at_loop 0)
  pub laps : plain 2 (at_loop 0) ≡ Went (at_loop 1)
  pub guess : guess_of Stride 2 (at_loop 0) (at_loop 1) ≡ at_loop 3

-- none at the first visit, and later those that were not guessed yet
pub record Targets : Type 0 where
  pub first : targets_of 0 1 4 ≡ []
  pub second : targets_of 0 2 2 ≡ 3 ∷ 4 ∷ []
  pub third : targets_of 5 4 2 ≡ 6 ∷ []
  pub none : targets_of 9 4 2 ≡ []

-- With strides alone, at the visits 2 to 4. With 3 steps left the entry of 4 isn't taken.
pub record Strides : Type 0 where
  pub made2 : made_at 2 (machine_after 1 stride_two) ≡ 2
  pub made3 : made_at 3 (machine_after 2 stride_two) ≡ 1
  pub content2 : entry_steps (machine_after 2 stride_two).content ≡ 2 ∷ 4 ∷ []
  pub reply2 : serial_reply (machine_after 2 stride_two) (at_loop 1) 100 ≡ None
  pub reply3 : serial_reply (machine_after 3 stride_two) (at_loop 2) 100 ≡ Some 2
  pub content4 : entry_steps (machine_after 4 stride_two).content ≡ 2 ∷ 4 ∷ 2 ∷ 2 ∷ []
  pub made4 : made_at 4 (machine_after 3 stride_two) ≡ 1
  pub reply4 : serial_reply (machine_after 4 stride_two) (at_loop 3) 100 ≡ Some 4
  pub reply4_of_3 : serial_reply (machine_after 4 stride_two) (at_loop 3) 3 ≡ None

-- with both kinds
pub record Both : Type 0 where
  pub made2 : made_at 2 (machine_after 1 both_two) ≡ 4
  pub reply2 : serial_reply (machine_after 2 both_two) (at_loop 1) 100 ≡ Some 2
  pub reply3 : serial_reply (machine_after 3 both_two) (at_loop 2) 100 ≡ Some 2
  pub reply4 : serial_reply (machine_after 4 both_two) (at_loop 3) 100 ≡ Some 4

-- With strides alone, and joined entries, at the visits 2 to 5. The entry of 4 steps leaves the loop, and follows the one
-- before it. At visit 5 the entry for x5 = 6 follows two others: of these the newest, which is a join itself, goes with it.
pub record Joins : Type 0 where
  pub made2 : made_at 2 (machine_after 1 joined_two) ≡ 2
  pub content2 : entry_steps (machine_after 2 joined_two).content ≡ 2 ∷ 4 ∷ 6 ∷ []
  pub reply2 : serial_reply (machine_after 2 joined_two) (at_loop 1) 100 ≡ None
  pub made3 : made_at 3 (machine_after 2 joined_two) ≡ 1
  pub content3 : entry_steps (machine_after 3 joined_two).content ≡ 2 ∷ 4 ∷ 6 ∷ 2 ∷ []
  pub reply3 : serial_reply (machine_after 3 joined_two) (at_loop 2) 100 ≡ Some 6
  pub reply3_of_5 : serial_reply (machine_after 3 joined_two) (at_loop 2) 5 ≡ Some 2
  pub made4 : made_at 4 (machine_after 3 joined_two) ≡ 1
  pub content4 : entry_steps (machine_after 4 joined_two).content ≡ 2 ∷ 4 ∷ 6 ∷ 2 ∷ 2 ∷ 4 ∷ []
  pub reply4 : serial_reply (machine_after 4 joined_two) (at_loop 3) 100 ≡ Some 4
  pub content5 : entry_steps (machine_after 5 joined_two).content ≡ 2 ∷ 4 ∷ 6 ∷ 2 ∷ 2 ∷ 4 ∷ 2 ∷ 6 ∷ []
  pub reply5 : serial_reply (machine_after 5 joined_two) (at_loop 4) 100 ≡ Some 6

-- ---- visits

-- how the program goes, with no input
abbrev pub loop_run : Course
loop_run = progress 0x11000 0x20000 (first_position (loop_state 0x10000 0 0) 0x11000 [])

abbrev pub visit : ℕ → Option ℕ → Visit
visit at reply = record { at = at; reply = reply }

-- two visits without a jump, and then two with one; with 11 steps at most the last of these isn't taken
abbrev pub four_visits : List Visit
four_visits = visit 8 (Some 4) ∷ visit 6 (Some 2) ∷ visit 4 None ∷ visit 2 None ∷ []

abbrev pub limited_visits : List Visit
limited_visits = visit 8 None ∷ visit 6 (Some 2) ∷ visit 4 None ∷ visit 2 None ∷ []

-- with joined entries there are three visits, and only the last one has a jump, to the call with which the program ends
abbrev pub joined_visits : List Visit
joined_visits = visit 6 (Some 6) ∷ visit 4 None ∷ visit 2 None ∷ []

pub record LoopVisits : Type 0 where
  pub four : AreVisits 20 loop_run (visit_rule (recognised.At 0x10008) loop_run) four_visits 20
  pub limited : AreVisits 11 loop_run (visit_rule (recognised.At 0x10008) loop_run) limited_visits 11
  pub replies : replies_of four_visits ≡ None ∷ None ∷ Some 2 ∷ Some 4 ∷ []
  pub counts : jumps_of four_visits (jumps 0 0 0) ≡ jumps 4 6 2
  pub joined : AreVisits 20 loop_run (visit_rule (recognised.At 0x10008) loop_run) joined_visits 20
  pub joined_counts : jumps_of joined_visits (jumps 0 0 0) ≡ jumps 3 6 1
