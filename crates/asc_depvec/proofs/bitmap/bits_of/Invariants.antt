-- The bits of the items so far are those of words of the block.
use Rattle.std.proofs.Common.{◌≡◌, ℕ, ◌-◌, ◌/◌, ◌≤◌, ◌==◌, ◌||◌, length, take}
use Rattle.std.specs.List.{list_any}
use Rattle.asc_depvec.specs.Inside.{is_bit_of}
use Rattle.asc_depvec.specs.Tracer.{places_of}
use Rattle.asc_depvec.proofs.bitmap.bits_of.Given as goal

abbrev pub invariant-loop-at : goal.invariant-loop-at
invariant-loop-at l = record {
  least : l.fn.from ≤ l.at;
  most : l.at ≤ length l.fn.items;
  bits : (word : ℕ) → list_any (λ place. place / 4 == word) (places_of (take l.at l.fn.items))
      ≡ (list_any (λ place. place / 4 == word) (places_of (take l.fn.from l.fn.items)) || is_bit_of (l.fn.first / 512) l.bits word);
}

abbrev pub decreases-loop-at : goal.decreases-loop-at
decreases-loop-at l = length l.fn.items - l.at
