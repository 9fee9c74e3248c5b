-- Lemmas on the sources, sinks and stores in memory.
use Rattle.std.proofs.Common.{◌≡◌, ℕ, ◌+◌, ◌-◌, ◌≤◌, List, ◌++◌, length, take, drop, ap, ◌∙◌, arith}
use Rattle.std.proofs.lemmas.List.{take_at, drop-drop, take-append-drop, length-take-le, length-drop}

-- the n bytes at a place, copied to the front of a buffer, and what is behind them
pub take_part-append-drop : (n at : ℕ) (xs part rest : List ℕ) → part ≡ take n (drop at xs) → n ≤ length xs - at → take n (part ++ rest) ++ drop (at + n) xs ≡ drop at xs
take_part-append-drop n at xs part rest e h =
    let long : length part ≡ n = ap length e ∙ length-take-le n (drop at xs) (omega (arith, length-drop at xs)) in
    rw (take_at part rest n long, e, ← drop-drop n at xs) (take-append-drop n (drop at xs))
