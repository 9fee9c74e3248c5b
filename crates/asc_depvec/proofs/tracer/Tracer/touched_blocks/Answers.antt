use Rattle.std.proofs.Common.{◌≡◌, ℕ, ◌*◌, ◌/◌, ◌^◌, ◌<◌, ◌==◌, ◌∙◌, List, length, not, sym, ap, arith}
use Rattle.std.specs.Prelude.{filter}
use Rattle.std.proofs.lemmas.List.Sorted.{IsNonDecreasingBy-from_sort}
use Rattle.std.proofs.lemmas.List.Sums.{count_by-le-length}
use Rattle.asc_model.specs.Places.{places_from}
use Rattle.asc_depvec.specs.Bits.{block_at, has_word, words_of_blocks}
use Rattle.asc_depvec.specs.Inside.{statuses_of}
use Rattle.asc_depvec.specs.Tracer.{is_touched_word, places_of, touched_words}
use Rattle.asc_depvec.proofs.Bits.{AreNoted-moved, found-all, found-words, words_are}
use Rattle.asc_depvec.proofs.Insides.{IsShape-inside, items_is, low_shape, places_within, whole_shape}
use Rattle.asc_depvec.proofs.tracer.Tracer.touched_blocks.Goals as goal
use Rattle.asc_depvec.proofs.tracer.Tracer.touched_blocks.Goals.{After-deref}

-- the maps that `take_blocks` is passed
blocks_are : (c : After-deref) → c.deref_mut-3.result.now ≡ c.set_items.new.blocks
blocks_are c = c.deref_mut-3.ensures.value ∙ items_is c.self.inside.blocks c.deref_mut.result.now c.set_items.new.blocks c.deref_mut.ensures.value c.set_items.auto.blocks

groups_are : (c : After-deref) → c.deref_mut-4.result.now ≡ c.set_items.new.groups
groups_are c = c.deref_mut-4.ensures.value ∙ items_is c.self.inside.groups c.deref_mut-2.result.now c.set_items.new.groups c.deref_mut-2.ensures.value c.set_items.auto.groups

size_groups : (c : After-deref) → length c.set_items.new.groups ≡ length c.self.inside.groups.items
size_groups c = c.set_items.auto.groups ∙ ap (λ (l : List ℕ). length l) c.deref_mut-2.ensures.value

pub set_items-requires-clause-within : goal.set_items-requires-clause-within
set_items-requires-clause-within c =
    let size = ap (λ (l : List ℕ). length l) c.deref_mut.ensures.value in
    rw c.all-items.ensures (λ k d lt. let h = places_within c.self.inside c.self.invariant k d lt in omega (arith, h, c.self.invariant.blocks, size))

pub set_items-requires-clause-low : goal.set_items-requires-clause-low
set_items-requires-clause-low c =
    let t = c.self.inside in
    rw c.all-items.ensures (λ k d lt. let h = places_within t c.self.invariant k d lt in omega (arith, h, low_shape t.shape (IsShape-inside t c.self.invariant)))

pub take_blocks-found-requires-clause-few : goal.take_blocks-found-requires-clause-few
take_blocks-found-requires-clause-few c =
    omega (
      arith,
      ap (λ (l : List ℕ). length l) c.deref.ensures.value,
      c.sort_unstable.new.self.ok.0,
      c.sort_unstable.ensures.len,
      c.set_items.new.used.ok.0,
      c.set_items.ensures.noted.few,
      count_by-le-length (λ (group : ℕ). not (group == 0)) c.set_items.new.groups,
      size_groups c,
      c.self.invariant.groups,
      c.self.invariant.few_blocks,
    )

pub take_blocks-found-requires-clause-noted : goal.take_blocks-found-requires-clause-noted
take_blocks-found-requires-clause-noted c =
    let new = c.set_items.new in
    let size : length c.sort_unstable.new.self.items ≡ length new.used.items = omega (arith, c.sort_unstable.new.self.ok.0, c.sort_unstable.ensures.len, new.used.ok.0) in
    rw (blocks_are c, groups_are c, c.deref.ensures.value)
    (AreNoted-moved new.blocks new.groups new.used.items c.sort_unstable.new.self.items c.sort_unstable.ensures.permutation size c.set_items.ensures.noted)

pub take_blocks-found-requires-clause-rising : goal.take_blocks-found-requires-clause-rising
take_blocks-found-requires-clause-rising c =
    rw c.deref.ensures.value (IsNonDecreasingBy-from_sort (λ k. k) c.sort_unstable.new.self.items c.sort_unstable.ensures.sorted)

pub returns-clause-words : goal.returns-clause-words
returns-clause-words c =
    let t = c.self.inside in
    let d = (goal.at.returns-clause-words c).After-deref in
    let new = c.set_items.new in
    let m = 64 * length new.groups in
    let words = words_are _ m (statuses_of t.marks.items) t.start.bytes (places_of t.touched.items) new.blocks c.self.invariant.places (rw c.all-items.ensures at c.set_items.ensures.bits)
    (omega (arith, size_groups d, c.self.invariant.groups, c.self.invariant.blocks)) (whole_shape t.shape (IsShape-inside t c.self.invariant)) in
    ap words_of_blocks c.in_ok-found.ensures.blocks
    ∙ rw (blocks_are d, groups_are d) (found-words new.blocks new.groups c.set_items.ensures.noted.marked m 0)
    ∙ words
    ∙ ap (λ (n : ℕ). filter (is_touched_word (statuses_of t.marks.items)) (places_from 0 (n / 4))) (sym c.self.invariant.places.0)
    ∙ ap touched_words c.self.view_is

pub returns-clause-low : goal.returns-clause-low
returns-clause-low c =
    let d = (goal.at.returns-clause-low c).After-deref in
    let held = c.deref_mut-4.result.now in
    let size : length held ≡ length c.self.inside.groups.items = ap (λ (l : List ℕ). length l) (groups_are d) ∙ size_groups d in
    rw c.in_ok-found.ensures.blocks
    (found-all (λ block. block.first < 2 ^ 30) (block_at c.deref_mut-3.result.now) (has_word held) (64 * length held) 0 (λ p lt. omega (arith, lt, size, c.self.invariant.groups, c.self.invariant.few_blocks)))
