-- Memory of a tracer that is taken and not filled yet.
use Rattle.std.specs.Prelude.{◌≡◌, ℕ, ◌+◌, ◌/◌, ◌*◌, ◌≤◌, [], length, replicate, vec_capacity}
use Rattle.asc_depvec.specs.declared.tracer.TheConstants.{MOST_CAP}
use Rattle.asc_model.specs.Shape.{Shape, length_of}
use Rattle.asc_model.specs.State.{IsState}
use Rattle.asc_shape.specs.State.{zero_state}
use Rattle.asc_depvec.specs.declared.unfilled.Unfilled.TheInside.{Inside}

-- The shape of the tracer's state, at most how many places it may touch, and for how many places its memory is filled.
pub record Filling : Type 0 where
  pub shape : Shape
  pub cap : ℕ
  pub filled : ℕ

-- for how many places memory is filled in one piece
abbrev pub piece : ℕ
piece = 65536

abbrev pub filling_of : Inside → Filling
filling_of u = record { shape = u.shape; cap = u.cap; filled = length u.bytes.items }

-- Bytes and marks are filled alike, and there is room for those of all places.
pub record IsUnfilled (u : Inside) : Type 0 where
  pub cap : u.cap ≤ MOST_CAP
  pub state : IsState u.start
  pub start : u.start ≡ zero_state u.shape
  pub most : length u.bytes.items ≤ length_of u.shape
  pub same : length u.marks.items ≡ length u.bytes.items
  pub bytes : u.bytes.items ≡ replicate (length u.bytes.items) 0
  pub marks : u.marks.items ≡ replicate (length u.marks.items) 3
  pub room_bytes : length_of u.shape ≤ vec_capacity u.bytes
  pub room_marks : length_of u.shape ≤ vec_capacity u.marks
  pub none_touched : u.touched.items ≡ []
  pub room_touched : u.touched.cap ≡ u.cap
  pub blocks : u.blocks.items ≡ []
  pub room_blocks : 64 * (length_of u.shape / 16384 + 1) ≤ vec_capacity u.blocks
  pub groups : u.groups.items ≡ replicate (length_of u.shape / 16384 + 1) 0
  pub none_used : u.used.items ≡ []
  pub room_used : length_of u.shape / 16384 + 1 ≤ vec_capacity u.used
