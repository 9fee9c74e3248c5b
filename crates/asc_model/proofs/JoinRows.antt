-- Rows of joins, computed: a counting loop of two steps a lap, x5 counting up to x6 at 4, and what stands at the bounds.
use Rattle.std.proofs.Common.{◌≡◌, ℕ, ◌+◌, true, false, List, [], ◌∷◌, ◌++◌, replicate, Some, None, refl}
use Rattle.asc_model.specs.declared.version.Version.TheVariants.{One, Two}
use Rattle.asc_model.specs.Shape.{Shape}
use Rattle.asc_model.specs.Places.{cells}
use Rattle.asc_model.specs.Entry.{Entry}
use Rattle.asc_model.specs.Join.{can_join, join_of}

-- no shape of a state, but small enough to go through its places
abbrev small : Shape
small = record { base = 0x10000; size = 24; version = One }

-- ADDI x5, x5, 1; BNE x5, x6, -4, from place 136 on, and behind them ADDI x17, x0, 93; ADDI x10, x0, 0
abbrev lap_code : List ℕ
lap_code = 0x93 ∷ 0x82 ∷ 0x12 ∷ 0x00 ∷ 0xE3 ∷ 0x9E ∷ 0x62 ∷ 0xFE ∷ []

abbrev end_code : List ℕ
end_code = 0x93 ∷ 0x08 ∷ 0xD0 ∷ 0x05 ∷ 0x13 ∷ 0x05 ∷ 0x00 ∷ 0x00 ∷ []

-- the cells of a word with this lowest byte
abbrev low : (place byte : ℕ) → List (ℕ × ℕ)
low place byte = cells place (byte ∷ 0 ∷ 0 ∷ 0 ∷ [])

abbrev pc : ℕ → List (ℕ × ℕ)
pc byte = cells 0 (byte ∷ 0x00 ∷ 0x01 ∷ 0x00 ∷ [])

-- a lap from this x5 on
abbrev lap : ℕ → Entry
lap x5 = record {
  shape = small;
  reads = pc 0x08 ++ low 20 x5 ++ low 24 4 ++ cells 136 lap_code;
  writes = pc 0x08 ++ low 20 (x5 + 1);
  steps = 2;
}

-- the last lap, and two steps behind it
abbrev last_lap : Entry
last_lap = record {
  shape = small;
  reads = pc 0x08 ++ low 20 3 ++ low 24 4 ++ cells 136 (lap_code ++ end_code);
  writes = pc 0x18 ++ low 20 4 ++ low 40 0 ++ low 68 93;
  steps = 4;
}

both_laps : join_of (lap 2) last_lap ≡ Some (record {
  shape = small;
  reads = pc 0x08 ++ low 20 2 ++ low 24 4 ++ cells 136 (lap_code ++ end_code);
  writes = pc 0x18 ++ low 20 4 ++ low 40 0 ++ low 68 93;
  steps = 6;
})
unfolding join_of
both_laps = refl

-- a lap is left out
lap_left_out : join_of (lap 2) (lap 4) ≡ None
unfolding join_of
lap_left_out = refl

-- ---- bounds

-- an entry of so many steps that writes so many places
abbrev writing : (steps count : ℕ) → Entry
writing steps count = record { shape = small; reads = []; writes = cells 0 (replicate count 7); steps = steps }

-- all cells together, and one more
most_cells_together : can_join (writing 1 96) (writing 1 4000) ≡ true
most_cells_together = refl

one_cell_more : can_join (writing 1 96) (writing 1 4001) ≡ false
one_cell_more = refl

-- what is read counts as what is written does
abbrev reading : (count : ℕ) → Entry
reading count = record { shape = small; reads = cells 0 (replicate count 7); writes = []; steps = 1 }

most_with_reads : can_join (reading 46) (writing 1 4050) ≡ true
most_with_reads = refl

one_more_with_reads : can_join (reading 46) (writing 1 4051) ≡ false
one_more_with_reads = refl

-- all steps together, and one more
most_steps_together : join_of (writing 1 0) (writing 999999999 0) ≡ Some (writing 1000000000 0)
unfolding join_of
most_steps_together = refl

one_step_more : join_of (writing 1 0) (writing 1000000000 0) ≡ None
unfolding join_of
one_step_more = refl

-- ---- places of both

-- an entry of one step with at most one read and one write
abbrev touching : (shape : Shape) → (reads writes : List (ℕ × ℕ)) → Entry
touching shape reads writes = record { shape = shape; reads = reads; writes = writes; steps = 1 }

-- of a place that both write the second one's byte stays
both_write : join_of (touching small [] ((8, 1) ∷ [])) (touching small [] ((8, 2) ∷ [])) ≡ Some (record {
  shape = small;
  reads = [];
  writes = (8, 2) ∷ [];
  steps = 2;
})
unfolding join_of
both_write = refl

-- what the first one writes is read by the second one with this byte, or there is no join
written_then_read : join_of (touching small [] ((8, 1) ∷ [])) (touching small ((8, 1) ∷ []) []) ≡ Some (record {
  shape = small;
  reads = [];
  writes = (8, 1) ∷ [];
  steps = 2;
})
unfolding join_of
written_then_read = refl

written_and_read_otherwise : join_of (touching small [] ((8, 1) ∷ [])) (touching small ((8, 2) ∷ []) []) ≡ None
unfolding join_of
written_and_read_otherwise = refl

-- what the first one reads and leaves is read by the second one with this byte
read_otherwise : join_of (touching small ((8, 1) ∷ []) []) (touching small ((8, 2) ∷ []) []) ≡ None
unfolding join_of
read_otherwise = refl

-- a byte that was read and is written is read as it was written
read_written_read : join_of (touching small ((8, 1) ∷ []) ((8, 2) ∷ [])) (touching small ((8, 2) ∷ []) []) ≡ Some (record {
  shape = small;
  reads = (8, 1) ∷ [];
  writes = (8, 2) ∷ [];
  steps = 2;
})
unfolding join_of
read_written_read = refl

-- what the second one writes, and the first one reads, is read
read_then_written : join_of (touching small ((9, 1) ∷ []) []) (touching small ((8, 3) ∷ []) ((9, 2) ∷ [])) ≡ Some (record {
  shape = small;
  reads = (8, 3) ∷ (9, 1) ∷ [];
  writes = (9, 2) ∷ [];
  steps = 2;
})
unfolding join_of
read_then_written = refl

-- ---- other shapes

other_base : join_of (touching small [] []) (touching (record small { base = 0x11000 }) [] []) ≡ None
unfolding join_of
other_base = refl

other_size : join_of (touching small [] []) (touching (record small { size = 28 }) [] []) ≡ None
unfolding join_of
other_size = refl

other_version : join_of (touching small [] []) (touching (record small { version = Two }) [] []) ≡ None
unfolding join_of
other_version = refl
