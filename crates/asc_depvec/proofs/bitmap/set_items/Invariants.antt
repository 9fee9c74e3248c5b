-- The bits of so many items are set.
use Rattle.std.proofs.Common.{◌≡◌, ℕ, ◌-◌, ◌/◌, ◌≤◌, ◌==◌, length, take}
use Rattle.std.specs.Prelude.{vec_capacity}
use Rattle.std.specs.List.{list_any}
use Rattle.asc_depvec.specs.Bits.{AreNoted, has_word}
use Rattle.asc_depvec.specs.Tracer.{places_of}
use Rattle.asc_depvec.proofs.bitmap.set_items.Given as goal

abbrev pub invariant-loop-at : goal.invariant-loop-at
invariant-loop-at l = record {
  most : l.at ≤ length l.fn.items;
  bits : (word : ℕ) → has_word l.blocks word ≡ list_any (λ place. place / 4 == word) (places_of (take l.at l.fn.items));
  noted : AreNoted l.blocks l.groups l.used.items;
  capacity : vec_capacity l.used ≡ vec_capacity l.fn.used;
}

abbrev pub decreases-loop-at : goal.decreases-loop-at
decreases-loop-at l = length l.fn.items - l.at
