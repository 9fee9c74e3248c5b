-- Lemmas on pages of a state and their dirty.
use Rattle.std.proofs.Common.{refl, ◌≡◌, ◌≢◌, ◌⊎◌, inl, inr, ℕ, ◌+◌, ◌*◌, ◌-◌, ◌/◌, ◌%◌, ◌≤◌, ◌<◌, Bool, true, false, Option, List, ◌++◌, length, [], ◌∷◌, replicate, take, drop, length-drop, sym, ap, ◌∙◌, arith, slice_index, slice_index_or, slice_set, min, length-append, length-take}
use Rattle.std.proofs.lemmas.List.{get_or-set_same, get_or-set_other, set_past, get_or_past, get_or-take, get_or-drop, get_or_append_left, get_or-append_right, length-take-le, get_or-replicate, length-replicate}
use Rattle.std.proofs.lemmas.Bool.{cases_eq, cases_lt, false≢true}
use Rattle.std.specs.Vec.{with_items, with_items_from}
use Rattle.std.specs.Global.{Vec}
use borrow.Rule.Slice.PartMut.{put_mid}
use Rattle.asc_model.specs.Machine.{splice}
use Rattle.asc_model.specs.Shape.{Shape}
use Rattle.asc_model.proofs.Changes.{length-splice}
use Rattle.asc_pages.specs.Pages.{Keeps, base_bytes}
use Rattle.asc_shape.specs.Inside.{IsInside, Dirties}
use Rattle.asc_shape.proofs.States.{items-splice, items-with_items_from, length-splice_least, put_mid-splice}

-- what is clean after one page became dirty was clean before, and is another page
pub clean : (dirty : List Bool) (page k : ℕ) → slice_index_or (slice_set dirty page true) k true ≡ false → (slice_index_or dirty k true ≡ false) × (k ≢ page)
clean dirty page k free = elim (cases_lt page (length dirty)) [
  | inl within ↦ elim (cases_eq k page) [
    | inl same ↦ absurd (false≢true (sym free ∙ ap (λ j. slice_index_or (slice_set dirty page true) j true) same ∙ get_or-set_same dirty page true true within))
    | inr other ↦ (sym (get_or-set_other dirty page k true true other) ∙ free, other)
  ]
  | inr past ↦ let still : slice_index_or dirty k true ≡ false = sym (ap (λ (m : List Bool). slice_index_or m k true) (set_past dirty page true past)) ∙ free in
      (still, λ same. false≢true (sym still ∙ ap (λ j. slice_index_or dirty j true) same ∙ get_or_past dirty page true past))
]

-- what is beside n places that were written, and whose pages became dirty, is kept
pub kept_after : (dirty after : List Bool) (base bytes new : List ℕ) (from n : ℕ) → Keeps dirty base bytes → Dirties from n dirty after → length new ≡ length bytes
    → ((i : ℕ) → (i < from) ⊎ (from + n ≤ i) → slice_index new i ≡ slice_index bytes i) → Keeps after base new
kept_after dirty after base bytes new from n kept dirtied size beside i far inside free =
    let outside : (i < from) ⊎ (from + n ≤ i) = elim (cases_lt i from) [
      | inl below ↦ inl below
      | inr above ↦ inr (dirtied.within i far free above)
    ] in
    beside i outside ∙ kept i far (omega arith) (dirtied.others i free)

-- a byte beside a splice
pub splice_beside : (bytes new : List ℕ) (at i : ℕ) → at ≤ length bytes → (i < at) ⊎ (at + length new ≤ i) → slice_index (splice bytes at new) i ≡ slice_index bytes i
splice_beside bytes new at i within outside =
    let front : length (take at bytes) ≡ at = omega (arith, length-take at bytes) in
    let both : length (take at bytes ++ new) ≡ at + length new = omega (arith, length-append (take at bytes) new) in
    elim outside [
      | inl below ↦ get_or_append_left (take at bytes ++ new) (drop (at + length new) bytes) 0 i (omega arith)
          ∙ get_or_append_left (take at bytes) new 0 i (omega arith)
          ∙ get_or-take at bytes i 0 below
      | inr above ↦ get_or-append_right (take at bytes ++ new) (drop (at + length new) bytes) (at + length new) i 0 both above
          ∙ get_or-drop (at + length new) bytes (i - (at + length new)) 0
          ∙ ap (λ j. slice_index bytes j) (omega arith)
    ]

-- the fields of a state after a write of n bytes whose pages were dirtied
pub inside_after : (shape : Shape) (base : Option (List ℕ)) (bytes new : Vec ℕ) (changed dirty : List Bool) (from n : ℕ)
    → IsInside (record { shape = shape; bytes = bytes; base = base; changed = changed })
    → Dirties from n changed dirty
    → length new.items ≡ length bytes.items
    → ((i : ℕ) → (i < from) ⊎ (from + n ≤ i) → slice_index new.items i ≡ slice_index bytes.items i)
    → IsInside (record { shape = shape; bytes = new; base = base; changed = dirty })
inside_after shape base bytes new changed dirty from n inside dirtied same beside = record {
  shape = inside.shape;
  size = same ∙ inside.size;
  pages = dirtied.length ∙ inside.pages;
  kept = kept_after changed dirty (base_bytes base) bytes.items new.items from n inside.kept dirtied same beside;
}

-- the same where the bytes are a part that was written over
pub inside_written : (shape : Shape) (base : Option (List ℕ)) (bytes : Vec ℕ) (changed dirty : List Bool) (from n k : ℕ) (xs ys : List ℕ)
    → IsInside (record { shape = shape; bytes = bytes; base = base; changed = changed })
    → Dirties from n changed dirty
    → xs ≡ bytes.items → length ys ≡ k → k ≡ n → from + n ≤ length bytes.items
    → IsInside (record { shape = shape; bytes = with_items bytes (put_mid from k xs ys); base = base; changed = dirty })
inside_written shape base bytes changed dirty from n k xs ys inside dirtied e size count within =
    let new = with_items bytes (put_mid from k xs ys) in
    let whole : length ys ≡ n = size ∙ count in
    let spliced : new.items ≡ splice bytes.items from ys = items-splice bytes from k xs ys e size (omega arith) in
    inside_after shape base bytes new changed dirty from n inside dirtied
    (ap (λ (l : List ℕ). length l) spliced ∙ length-splice bytes.items from ys (omega arith))
    (λ i outside. ap (λ (l : List ℕ). slice_index l i) spliced ∙ splice_beside bytes.items ys from i (omega arith) (rw whole outside))

-- the fields of a state while memory from a place on is lent, whatever is left there; all pages from there on are dirtied
pub inside_lent : (shape : Shape) (base : Option (List ℕ)) (bytes : Vec ℕ) (changed dirty : List Bool) (from n : ℕ) (new : List ℕ)
    → IsInside (record { shape = shape; bytes = bytes; base = base; changed = changed })
    → Dirties from n changed dirty
    → from + n ≡ length bytes.items
    → IsInside (record { shape = shape; bytes = with_items_from bytes from new; base = base; changed = dirty })
inside_lent shape base bytes changed dirty from n new inside dirtied whole =
    let spliced : (with_items_from bytes from new).items ≡ take (length bytes.items) (splice bytes.items from new) = items-with_items_from bytes from new (omega arith) in
    let least : length bytes.items ≤ length (splice bytes.items from new) = length-splice_least bytes.items from new (omega arith) in
    let size : length (with_items_from bytes from new).items ≡ length bytes.items =
    ap (λ (l : List ℕ). length l) spliced ∙ length-take-le (length bytes.items) (splice bytes.items from new) least in
    inside_after shape base bytes (with_items_from bytes from new) changed dirty from n inside dirtied size
    (λ i outside. elim outside [
      | inl below ↦ ap (λ (l : List ℕ). slice_index l i) spliced
          ∙ get_or-take (length bytes.items) (splice bytes.items from new) i 0 (omega arith)
          ∙ splice_beside bytes.items new from i (omega arith) (inl below)
      | inr above ↦ get_or_past (with_items_from bytes from new).items i 0 (omega arith) ∙ sym (get_or_past bytes.items i 0 (omega arith))
    ])

-- a byte of a part that was written over
pub put_within : (bytes new : List ℕ) (at k i : ℕ) → length new ≡ k → at + k ≤ length bytes → at ≤ i → i < at + k → slice_index (put_mid at k bytes new) i ≡ slice_index new (i - at)
put_within bytes new at k i size within least most =
    let front : length (take at bytes) ≡ at = omega (arith, length-take at bytes) in
    get_or-append_right (take at bytes) _ at i 0 front least ∙ get_or_append_left new _ 0 (i - at) (omega arith)

-- where a page was written over, it is that page; one that is left out is written as zeros
pub put_there : (bytes page new : List ℕ) (p from to : ℕ) → from ≡ 1024 * p → to ≡ min (1024 * p + 1024) (length bytes) → p < length bytes / 1024 + 1 → length new ≡ to - from
    → ((j : ℕ) → j < to - from → slice_index new j ≡ slice_index page j)
    → (i : ℕ) → i / 1024 ≡ p → i < length bytes → slice_index (put_mid from (to - from) bytes new) i ≡ slice_index page (i % 1024)
put_there bytes page new p from to start end within size each i here inside =
    put_within bytes new from (to - from) i size (omega arith) (omega arith) (omega arith)
    ∙ each (i - from) (omega arith)
    ∙ ap (λ k. slice_index page k) (omega arith)

-- other pages stay
pub put_elsewhere : (bytes new : List ℕ) (p from to : ℕ) → from ≡ 1024 * p → to ≡ min (1024 * p + 1024) (length bytes) → p < length bytes / 1024 + 1
    → length new ≡ to - from → (i : ℕ) → i / 1024 ≢ p → slice_index (put_mid from (to - from) bytes new) i ≡ slice_index bytes i
put_elsewhere bytes new p from to start end within size i other =
    ap (λ (l : List ℕ). slice_index l i) (put_mid-splice from (to - from) bytes new size)
    ∙ elim (cases_lt i (length bytes)) [
      | inl inside ↦ splice_beside bytes new from i (omega arith) (elim (cases_lt i from) [ inl below ↦ inl below | inr above ↦ inr (omega arith) ])
      | inr past ↦ splice_beside bytes new from i (omega arith) (inr (omega arith))
    ]

-- how many bytes a page has
pub length-page : (p from to : ℕ) (bytes : List ℕ) → from ≡ 1024 * p → to ≡ min (1024 * p + 1024) (length bytes) → p < length bytes / 1024 + 1 → length (take (to - from) (drop from bytes)) ≡ to - from
length-page p from to bytes start end within = omega (arith, length-take (to - from) (drop from bytes), length-drop from bytes)

-- a byte of zeros
pub zero_at : (n j : ℕ) (list page : List ℕ) → list ≡ replicate n 0 → page ≡ [] → slice_index list j ≡ slice_index page j
zero_at n j list page all none = ap (λ (l : List ℕ). slice_index l j) all
    ∙ (elim (cases_lt j n) [
      | inl within ↦ get_or-replicate n j 0 0 within
      | inr past ↦ get_or_past (replicate n 0) j 0 (omega (arith, length-replicate {A = ℕ} n 0))
    ])
    ∙ sym (ap (λ (l : List ℕ). slice_index l j) none ∙ get_or_past [] j 0 (omega arith))

-- a list with nothing in it
pub no_bytes : (list : List ℕ) → length list ≡ 0 → list ≡ []
no_bytes [] none = refl
no_bytes (byte ∷ list) none = absurd (let h : ⊥ = omega arith in h)
