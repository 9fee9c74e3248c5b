use Rattle.std.proofs.Common.{◌≡◌, ◌+◌, ◌-◌, ◌<◌, ◌≤◌, ◌*◌, ℕ, length}
use Rattle.asc_pages.specs.Pages.{ArePages, group_in}
use Rattle.asc_pages.proofs.pages.groups_of.Given as goal

-- the groups so far
abbrev pub invariant-loop-k : goal.invariant-loop-k
invariant-loop-k l = record {
  size : length l.list.items ≡ l.used;
  low : (k : ℕ) → k < l.k → k < l.low → ArePages l.bytes (32 * k) (group_in l.list.items k);
  high : (k : ℕ) → k < l.k → l.low ≤ k → ArePages l.bytes (32 * (k + (l.end - l.low))) (group_in l.list.items k);
}
