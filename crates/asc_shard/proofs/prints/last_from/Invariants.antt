-- The last place of at most the fingerprint, or else the first, is one of those that are left.
use Rattle.std.proofs.Common.{◌+◌, ◌<◌, ◌≤◌, ℕ, get_or}
use Rattle.asc_shard.proofs.prints.last_from.Given as goal

abbrev pub invariant-loop-count : goal.invariant-loop-count
invariant-loop-count l = record {
  some : 0 < l.count;
  least : l.from ≤ l.last;
  range : l.last + l.count ≤ l.next;
  most : l.from < l.last → get_or l.index.prints.items l.last 0 ≤ l.print;
  behind : (i : ℕ) → l.last + l.count ≤ i → i < l.next → l.print < get_or l.index.prints.items i 0;
}

abbrev pub decreases-loop-count : goal.decreases-loop-count
decreases-loop-count l = l.count
