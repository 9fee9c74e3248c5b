-- A search of the tests, and how far the run has come.
use Rattle.std.proofs.Common.{◌≡◌, ℕ, ◌+◌, ◌^◌, ◌≤◌, false, Option, None, refl, sym, subst, arith}
use Rattle.asc_seek.specs.declared.seeker.Seeking.{Seeking}
use Rattle.asc_seek.specs.Heads.{AreEarlier, Path, no_heads}
use Rattle.asc_seek.specs.Seek.{IsBehind, Seek, is_over, new_seek, advanced, seek_visit}
use Rattle.asc_seek.proofs.Along.{heads_of-zero, AreEarlier-heads_of, AreEarlier-later, AreEarlier-advanced, seek_visit-is}

abbrev pub IsSearched : ℕ → Seek → Type 0
IsSearched count m = (IsBehind count m) × (is_over count m ≡ false) × (AreEarlier (count + 1) m.table) × (count ≤ 2 ^ 41)

none_early : AreEarlier 1 no_heads
none_early = let path : Path = λ count. None in subst (AreEarlier 1) (heads_of-zero path 0) (AreEarlier-heads_of path 0 0)

pub IsSearched-new_seek : (s : Seeking) (m : Seek) → m ≡ new_seek s → IsSearched 0 m
IsSearched-new_seek s m is = subst (IsSearched 0) (sym is) (omega arith, refl, none_early, omega arith)

pub IsSearched-advanced : (before count : ℕ) (m now : Seek) → now ≡ advanced count m → AreEarlier (before + 1) m.table
    → before ≤ count → count ≤ 2 ^ 41 → IsBehind count now → is_over count now ≡ false → IsSearched count now
IsSearched-advanced before count m now is early le most behind goes_on = (
  behind,
  goes_on,
  subst (λ (n : Seek). AreEarlier (count + 1) n.table) (sym is)
      (AreEarlier-later (before + 1) (count + 1) (advanced count m).table (omega arith) (AreEarlier-advanced (before + 1) count m early)),
  most,
)

pub AreEarlier-seek_visit : (bound at : ℕ) (reply : Option ℕ) (m now : Seek) → now ≡ seek_visit at reply m → AreEarlier bound m.table
    → AreEarlier bound now.table
AreEarlier-seek_visit bound at reply m now is early =
    subst (λ (n : Seek). AreEarlier bound n.table) (sym is)
    (subst (λ (n : Seek). AreEarlier bound n.table) (sym (seek_visit-is at reply m)) early)
