use Rattle.std.proofs.Common.{◌≡◌, ◌≢◌, ◌/◌, ◌<◌, ◌≤◌, ℕ, true, false, length, slice_index, slice_index_or}
use Rattle.asc_pages.proofs.dirty.clean_listed.Given as goal

-- what is not among the listed pages that are left is clean
abbrev pub invariant-loop-p : goal.invariant-loop-p
invariant-loop-p l = record {
  pages : length l.pages ≡ length l.fn.pages;
  groups : length l.groups ≡ length l.fn.groups;
  page : (q : ℕ) → q < length l.fn.pages → ((j : ℕ) → l.p-index ≤ j → j < length l.listed → slice_index l.listed j ≢ q) → slice_index_or l.pages q true ≡ false;
  group : (h : ℕ) → ((j : ℕ) → l.p-index ≤ j → j < length l.listed → slice_index l.listed j / 32 ≢ h) → slice_index l.groups h ≡ 0;
}
