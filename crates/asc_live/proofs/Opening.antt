-- What entries leave in the first shard of a cache, and what its readers then have seen.
use Rattle.std.proofs.Common.{◌≡◌, ℕ, ◌<◌, Bool, true, false, List, [], ◌∷◌, ◌++◌, All, fold, get_or, set, refl, sym, ap, subst, ◌∙◌, arith}
use Rattle.std.specs.Prelude.{if◌then◌else◌}
use Rattle.std.specs.List.{list_any}
use Rattle.std.proofs.lemmas.List.Elements.{All-set}
use Rattle.std.proofs.lemmas.List.Sums.{fold-append}
use mathlib.Core.List.{IsPrefix}
use Rattle.asc_model.specs.declared.limits.TheConstants.{MOST_ENTRIES}
use Rattle.asc_model.specs.Entry.{Entry}
use Rattle.asc_shard.specs.Content.{add, content_of, is_same_entry, last_of, inserted_in}
use Rattle.asc_shard.specs.declared.shard.Inserted.{Inserted}
use Rattle.asc_shard.specs.declared.shard.Inserted.TheVariants.{Known, Stored}
use Rattle.asc_cache.specs.Cache.{AreLater, AreOpened, IsOwnReader, ShardReader, ShardReaders, ShardWriter, stored_after}
use Rattle.asc_live.specs.Crew.{HasLearnt, IsWriterOf}

-- ---- one insertion

module _ (capacity : ℕ) (stored : List Entry) (e : Entry) where
  added_where : (b : Bool) → list_any (is_same_entry e) (content_of capacity stored) ≡ b
      → content_of capacity (stored_after stored (if b then Known else Stored) e) ≡ add capacity (content_of capacity stored) e
  added_where true any = ap (λ b. if b then content_of capacity stored else last_of capacity (content_of capacity stored ++ e ∷ [])) (sym any)
  added_where false any = fold-append (add capacity) [] stored (e ∷ [])

  -- an insertion that is answered so adds the entry
  pub one_added : (i : Inserted) → i ≡ inserted_in (content_of capacity stored) e
      → content_of capacity (stored_after stored i e) ≡ add capacity (content_of capacity stored) e
  one_added i is = ap (λ i. content_of capacity (stored_after stored i e)) is ∙ added_where (list_any (is_same_entry e) (content_of capacity stored)) refl

-- ---- writers, and readers that have learnt

-- a writer stays that of its reader, once the readers have learnt
pub stays_own : (old new : List ShardReader) → AreLater old new → (w : ShardWriter) → IsOwnReader w old → IsOwnReader w new
stays_own old new later w own = record {
  there = omega (arith, own.there, later.count);
  shard = λ d. (later.each w.index d own.there).shard ∙ own.shard d;
}

pub stays_writer : (old new : List ShardReader) → AreLater old new → (w : ShardWriter) → IsWriterOf old w → IsWriterOf new w
stays_writer old new later w is = record { own = stays_own old new later w is.own; capacity = is.capacity }

-- ---- shards that were opened, and the first writer once it has stored

-- the reader of a shard that was opened with others is its writer's own
own_readers : (shards : ℕ) (writers : List ShardWriter) (readers : List ShardReader) → AreOpened shards MOST_ENTRIES writers readers
    → All (IsWriterOf readers) writers
own_readers shards writers readers o =
    λ k d l.
    let w = get_or writers k d in
    let within : k < shards = omega (arith, l, o.writer_count) in
    let none : ShardReader = record { shard = w.shard; capacity = 0; seen = [] } in
    let opened = (o.each k d none within).writer in
    let index : w.index ≡ k = ap (λ (w : ShardWriter). w.index) opened in record {
      own = record {
        there = omega (arith, within, index, o.reader_count);
        shard = λ e. ap (λ i. (get_or readers i e).shard) index ∙ ap (λ (r : ShardReader). r.shard) (o.each k d e within).reader;
      };
      capacity = ap (λ (w : ShardWriter). w.capacity) opened;
    }

-- a writer that has stored is the writer of the same shard
pub stored_writer : (readers : List ShardReader) (w v : ShardWriter) → v ≡ record w { stored = v.stored; refused = v.refused } → IsWriterOf readers w → IsWriterOf readers v
stored_writer readers w v rest is =
    let index : v.index ≡ w.index = ap (λ (w : ShardWriter). w.index) rest in record {
      own = record {
        there = omega (arith, index, is.own.there);
        shard = λ d. ap (λ i. (get_or readers i d).shard) index ∙ is.own.shard d ∙ sym (ap (λ (w : ShardWriter). w.shard) rest);
      };
      capacity = ap (λ (w : ShardWriter). w.capacity) rest ∙ is.capacity;
    }

-- the first writer is that of its reader
pub first_writer : (shards : ℕ) (writers : List ShardWriter) (readers : List ShardReader) (w : ShardWriter) → AreOpened shards MOST_ENTRIES writers readers → 0 < shards
    → get_or writers 0 w ≡ w → IsWriterOf readers w
first_writer shards writers readers w o some here =
    subst (IsWriterOf readers) here (own_readers shards writers readers o 0 w (omega (arith, some, o.writer_count)))

-- all are, once the first has stored and the readers have learnt
pub all_writers : (shards : ℕ) (writers : List ShardWriter) (readers new : List ShardReader) (w v : ShardWriter) → AreOpened shards MOST_ENTRIES writers readers → 0 < shards
    → get_or writers 0 w ≡ w → v ≡ record w { stored = v.stored; refused = v.refused } → AreLater readers new → All (IsWriterOf new) (set writers 0 v)
all_writers shards writers readers new w v o some here rest later =
    All-set (IsWriterOf new) writers 0 v
    (stays_writer readers new later v (stored_writer readers w v rest (first_writer shards writers readers w o some here)))
    (λ k d l. stays_writer readers new later (get_or writers k d) (own_readers shards writers readers o k d l))

-- the reader of the first has learnt what its writer has stored
pub has_learnt : (shards : ℕ) (writers : List ShardWriter) (readers new : List ShardReader) (w v : ShardWriter) (entries : List Entry) → AreOpened shards MOST_ENTRIES writers readers → 0 < shards
    → get_or writers 0 w ≡ w → content_of v.capacity v.stored ≡ fold (add w.capacity) (content_of w.capacity w.stored) entries
    → v ≡ record w { stored = v.stored; refused = v.refused } → AreLater readers new → ((d : ShardReader) → IsPrefix v.stored (get_or new v.index d).seen) → HasLearnt entries new
has_learnt shards writers readers new w v entries o some here held rest later seen =
    let none : ShardReader = record { shard = w.shard; capacity = 0; seen = [] } in
    let fresh : get_or writers 0 w ≡ record { shard = (get_or writers 0 w).shard; index = 0; capacity = MOST_ENTRIES; stored = []; refused = false } = (o.each 0 w none some).writer in
    let capacity : w.capacity ≡ MOST_ENTRIES = ap (λ (w : ShardWriter). w.capacity) (sym here) ∙ ap (λ (w : ShardWriter). w.capacity) fresh in
    let stored : w.stored ≡ [] = ap (λ (w : ShardWriter). w.stored) (sym here) ∙ ap (λ (w : ShardWriter). w.stored) fresh in
    let index : v.index ≡ 0 = ap (λ (w : ShardWriter). w.index) rest ∙ ap (λ (w : ShardWriter). w.index) (sym here) ∙ ap (λ (w : ShardWriter). w.index) fresh in
    let same : v.capacity ≡ MOST_ENTRIES = ap (λ (w : ShardWriter). w.capacity) rest ∙ capacity in record {
      learnt = v.stored;
      content =
          ap (λ n. content_of n v.stored) (sym same) ∙ held
          ∙ ap (λ l. fold (add w.capacity) (content_of w.capacity l) entries) stored
          ∙ ap (λ n. fold (add n) [] entries) capacity;
      capacity = λ d. (later.each 0 d (omega (arith, some, o.reader_count))).capacity ∙ ap (λ (r : ShardReader). r.capacity) (o.each 0 w d some).reader;
      seen = λ d. subst (λ i. IsPrefix v.stored (get_or new i d).seen) index (seen d);
    }

-- so it is with what was split of a cache
pub opened_of : {ws : List ShardWriter} {rs : ShardReaders} (shards : ℕ) (writers : List ShardWriter) (readers : ShardReaders)
    → writers ≡ ws → readers ≡ rs → AreOpened shards MOST_ENTRIES ws rs.readers → AreOpened shards MOST_ENTRIES writers readers.readers
opened_of {ws = ws} {rs = rs} shards writers readers e f o =
    subst (λ ws. AreOpened shards MOST_ENTRIES ws readers.readers) (sym e)
    (subst (λ (r : ShardReaders). AreOpened shards MOST_ENTRIES ws r.readers) (sym f) o)
