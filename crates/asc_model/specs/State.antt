-- A state: a shape, and one byte for each place.
use Rattle.std.specs.Prelude.{◌≡◌, ℕ, List, length}
use Rattle.asc_model.specs.Shape.{Shape, IsShape, length_of}
use Rattle.asc_model.specs.Number.{AreBytes}

-- Places 0 to 3 are the pc and 4k to 4k + 3 register k, for k from 1 to 31. Memory follows from place 128 on, in
-- version Two from place 136 on. There places 128 to 131 are the reserved address and 132 is 1 where it is valid; no
-- step touches 133 to 135. All eight are 0 at first, and any bytes may stand in them.
pub record State : Type 0 where
  pub shape : Shape
  pub bytes : List ℕ

pub record IsState (s : State) : Type 0 where
  pub shape : IsShape s.shape
  pub length : length s.bytes ≡ length_of s.shape
  pub bytes : AreBytes s.bytes
