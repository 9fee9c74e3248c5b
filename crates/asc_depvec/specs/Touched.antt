-- What the list of touched places is to private contracts.
use Rattle.std.specs.Prelude.{◌≡◌, ℕ, ◌+◌, ◌≤◌, List, length, take}
use Rattle.asc_depvec.specs.Tracer.{places_of}
use Rattle.asc_depvec.specs.declared.touched.Touched.TheInside.{Inside}

-- the items, and how many places they may have
pub record Listing : Type 0 where
  pub items : List ℕ
  pub cap : ℕ

-- how the list's fields stand for it: so many items are in use, and so many places more may be
pub record IsTouched (t : Inside) : Type 0 where
  pub count : t.count ≤ length t.items.items
  pub left : t.left + length (places_of (take t.count t.items.items)) ≡ length t.items.items
