-- The entry of the steps that a tracer stands for.
use Rattle.std.proofs.Common.{◌≡◌, ℕ, zero, suc, ◌+◌, ◌*◌, ◌/◌, ◌%◌, ◌^◌, ◌<◌, ◌≤◌, Bool, false, List, ◌∷◌, ◌++◌, length, Some, refl, sym, ap, ◌∙◌, inl, inr, arith}
use Rattle.std.specs.Prelude.{All, filter}
use Rattle.std.specs.List.{list_any}
use Rattle.std.proofs.lemmas.Bool.{cases_Bool, cases_eq, cond-false, cond-true, not-false, or_parts}
use Rattle.std.proofs.lemmas.List.Elements.{All-cons, All-filter, All-nil, filter-append}
use Rattle.std.proofs.lemmas.List.Sums.{count_by-le-length, length-filter}
use Rattle.std.proofs.lemmas.Bool.Decides.{nat_tests}
use Rattle.asc_model.specs.declared.status.Status.{Status}
use Rattle.asc_model.specs.declared.status.Status.TheVariants.{Untouched}
use Rattle.asc_model.specs.Shape.{length_of}
use Rattle.asc_model.specs.State.{State, IsState}
use Rattle.asc_model.specs.Step.{Went}
use Rattle.asc_model.specs.Places.{places_from}
use Rattle.asc_model.specs.DependencyVector.{is_among, first_reads, written_in}
use Rattle.asc_model.specs.Entry.{Entry, IsTrueEntry, cells_among, entry_of}
use Rattle.asc_model.proofs.Numbers.{length-bytes_after}
use Rattle.asc_model.proofs.Entries.{entry_of-is, entries_are_true}
use Rattle.asc_shape.specs.Face.{status_at}
use Rattle.asc_depvec.specs.Dependency.{status_by}
use Rattle.asc_depvec.specs.Tracer.{Tracing, is_touched_word, touched_words}
use Rattle.asc_depvec.proofs.Bits.{filter-alike, filter-none, filter-parts}
use Rattle.asc_depvec.proofs.Insides.{low_shape}
use Rattle.asc_depvec.proofs.Marking.{untouched_is}
use Rattle.asc_traj.specs.Trace.{StandsFor, origin_of}
use Rattle.asc_traj.specs.Inside.{is_read_first, is_written, now_at, places_of_words, read_first, started, written}
use Rattle.asc_traj.proofs.Matching.{length_whole}
use Rattle.asc_traj.proofs.Splits.{read_first-is, written-is}

-- ---- statuses

read_by : (read written : Bool) → is_read_first (status_by read written) ≡ read
read_by read written = grind arith

written_by : (read written : Bool) → is_written (status_by read written) ≡ written
written_by read written = grind arith

-- ---- the places of touched words

-- a test that passes none of places in a row fails at each
any_none : (f : ℕ → Bool) (n place p : ℕ) → list_any f (places_from place n) ≡ false → place ≤ p → p < place + n → f p ≡ false
any_none f zero place p none least most = absurd (omega arith)
any_none f (suc n) place p none least most =
    let parts = or_parts (f place) (list_any f (places_from (place + 1) n)) none in
    elim (cases_eq p place) [
      | inl same ↦ ap f same ∙ parts.0
      | inr other ↦ any_none f n (place + 1) p parts.1 (omega (arith, least, other)) (omega (arith, most))
    ]

-- a test that fails at all places of the words that another one fails at passes as many in the words that that one passes
words-cover : (g h : ℕ → Bool) → ((word p : ℕ) → h word ≡ false → 4 * word ≤ p → p < 4 * word + 4 → g p ≡ false) → (m from : ℕ)
    → filter g (places_of_words (filter h (places_from from m))) ≡ filter g (places_from (4 * from) (4 * m))
words-cover g h fails zero from = refl
words-cover g h fails (suc m) from =
    let rest = filter h (places_from (from + 1) m) in
    let four : 4 + 4 * m ≡ 4 * suc m = omega arith in
    let next : 4 * (from + 1) ≡ 4 * from + 4 = omega arith in
    let whole : filter g (places_from (4 * from) 4) ++ filter g (places_from (4 * (from + 1)) (4 * m)) ≡ filter g (places_from (4 * from) (4 * suc m)) =
    ap (λ (k : ℕ). filter g (places_from (4 * from) 4) ++ filter g (places_from k (4 * m))) next
    ∙ sym (filter-parts g 4 (4 * m) (4 * from)) ∙ ap (λ (k : ℕ). filter g (places_from (4 * from) k)) four in
    let later = words-cover g h fails m (from + 1) in
    elim (cases_Bool (h from)) [
      | inl e ↦
          ap (λ (list : List ℕ). filter g (places_of_words list)) (cond-true (h from) (from ∷ rest) rest e)
          ∙ filter-append g (places_from (4 * from) 4) (places_of_words rest)
          ∙ ap (λ (list : List ℕ). filter g (places_from (4 * from) 4) ++ list) later ∙ whole
      | inr e ↦
          ap (λ (list : List ℕ). filter g (places_of_words list)) (cond-false (h from) (from ∷ rest) rest e) ∙ later
          ∙ sym (ap (λ (list : List ℕ). list ++ filter g (places_from (4 * (from + 1)) (4 * m))) (filter-none g (4 * from) 4 (λ p least most. fails from p e least most))) ∙ whole
    ]

-- a test of statuses that an untouched place does not pass
touched-cover : (t : Tracing) (q : Status → Bool) → q Untouched ≡ false → length t.statuses % 4 ≡ 0
    → filter (λ p. q (status_at t.statuses p)) (places_of_words (touched_words t)) ≡ filter (λ p. q (status_at t.statuses p)) (places_from 0 (length t.statuses))
touched-cover t q none whole = grind (arith, nat_tests, any_none, not-false, untouched_is, words-cover)

-- ---- the entry

-- What makes an entry: a tracer that stands for some steps, the places of its touched words that were read first, and
-- those that were written with their bytes.
pub record Makes (n : ℕ) (t : Tracing) (reads writes : List (ℕ × ℕ)) : Type 0 where
  pub least : 1 ≤ n
  pub stands : StandsFor n t
  pub good : IsState t.state
  pub begin : IsState (origin_of t)
  pub read : reads ≡ read_first t (started t (places_of_words (touched_words t)))
  pub written : writes ≡ written t (started t (places_of_words (touched_words t)))

-- a tracer's statuses are whole words
whole_words : (t : Tracing) (n : ℕ) → StandsFor n t → IsState t.state → length t.statuses % 4 ≡ 0
whole_words t n stands good = ap (λ (k : ℕ). k % 4) (stands.touched.0 ∙ good.length) ∙ length_whole t.state.shape good.shape

module _ (n : ℕ) (t : Tracing) (reads writes : List (ℕ × ℕ)) (makes : Makes n t reads writes) where
  abbrev start : State
  start = origin_of t

  size : length t.statuses ≡ length t.state.bytes
  size = makes.stands.touched.0

  reads-are : reads ≡ cells_among (first_reads n start) start
  reads-are =
      makes.read ∙ read_first-is t (places_of_words (touched_words t))
      ∙ ap (started t) (touched-cover t is_read_first refl (whole_words t n makes.stands makes.good)
      ∙ filter-alike (λ p. is_read_first (status_at t.statuses p)) (λ p. is_among p (first_reads n start)) 0 (length t.statuses)
      (λ p least most. ap is_read_first (makes.stands.statuses p (omega (arith, most, size))) ∙ read_by (is_among p (first_reads n start)) (is_among p (written_in n start)))
      ∙ ap (λ m. filter (λ p. is_among p (first_reads n start)) (places_from 0 m)) (size ∙ sym (length-bytes_after t.state.bytes t.touched)))

  writes-are : writes ≡ cells_among (written_in n start) t.state
  writes-are =
      makes.written ∙ written-is t (places_of_words (touched_words t))
      ∙ ap (now_at t) (touched-cover t is_written refl (whole_words t n makes.stands makes.good)
      ∙ filter-alike (λ p. is_written (status_at t.statuses p)) (λ p. is_among p (written_in n start)) 0 (length t.statuses)
      (λ p least most. ap is_written (makes.stands.statuses p (omega (arith, most, size))) ∙ written_by (is_among p (first_reads n start)) (is_among p (written_in n start)))
      ∙ ap (λ m. filter (λ p. is_among p (written_in n start)) (places_from 0 m)) size)

  abbrev pub entry : Entry
  entry = record { shape = t.state.shape; reads = reads; writes = writes; steps = n }

  -- it is the entry of the steps from the start
  pub entry_is : entry_of n start ≡ Some entry
  entry_is =
      entry_of-is n start (Went t.state) makes.stands.goes
      ∙ ap (λ list. Some (record { shape = t.state.shape; reads = list; writes = cells_among (written_in n start) t.state; steps = n })) (sym reads-are)
      ∙ ap (λ list. Some (record { shape = t.state.shape; reads = reads; writes = list; steps = n })) (sym writes-are)

  -- and so it is true
  pub entry_true : IsTrueEntry entry
  entry_true = entries_are_true n start entry makes.begin makes.least entry_is

-- ---- words

All-places : (n place : ℕ) → All (λ p. p < place + n) (places_from place n)
All-places zero place = All-nil (λ p. p < place + 0)
All-places (suc n) place = grind (arith, nat_tests, All-cons, All-places n (place + 1))

-- each touched word stands in the state
pub words-within : (t : Tracing) (n : ℕ) → StandsFor n t → IsState t.state → All (λ word. 4 * word + 4 ≤ length_of t.state.shape) (touched_words t)
words-within t n stands good =
    let size = stands.touched.0 ∙ good.length in
    λ k d lt. let h = All-filter (is_touched_word t.statuses) (λ p. p < 0 + length t.statuses / 4) (places_from 0 (length t.statuses / 4)) (All-places (length t.statuses / 4) 0) k d lt in omega (arith, h, size, whole_words t n stands good)

-- and they are few
length-places : (n place : ℕ) → length (places_from place n) ≡ n
length-places zero place = refl
length-places (suc n) place = ap (λ (k : ℕ). suc k) (length-places n (place + 1))

pub words-few : (t : Tracing) (n : ℕ) → StandsFor n t → IsState t.state → length (touched_words t) ≤ 2 ^ 32
words-few t n stands good = grind (arith, nat_tests, count_by-le-length, good, length-filter, length-places, low_shape, size, stands)
