-- One more shard that was just opened.
use Rattle.std.proofs.Common.{◌≡◌, ℕ, zero, suc, ◌+◌, ◌<◌, ◌≤◌, true, false, Result, Ok, Err, OnOk, drop, List, [], ◌∷◌, ◌++◌, length, get_or, refl, ap, sym, ◌∙◌, subst, arith, ⊎_elim, length-append}
use Rattle.std.proofs.lemmas.Bool.{cases_lt}
use Rattle.std.specs.Result.{is_err}
use Rattle.asc_shard.specs.Content.{content_of}
use Rattle.asc_cache.specs.History.{stored_in, tried_in}
use Rattle.asc_cache.specs.ShardRule.{Front, IsAlike, IsLogged, IsWritten}
use Rattle.asc_cache.specs.declared.instance.Instance.{Instance}
use Rattle.asc_cache.specs.declared.instance.Operation.{Operation}
use Rattle.asc_cache.specs.Cache.{Cache, ShardWriter, ShardReader, ShardReaders, AreOpened, IsOpened, IsOwnReader}

-- a list with one element more, at its old places and at the new one
old-place : {X : Type 0} (xs : List X) (x d : X) (k : ℕ) → k < length xs → get_or (xs ++ x ∷ []) k d ≡ get_or xs k d
old-place [] x d k h = absurd (let y : ⊥ = omega arith in y)
old-place (z ∷ xs) x d zero h = refl
old-place (z ∷ xs) x d (suc k) h = old-place xs x d k (omega arith)

new-place : {X : Type 0} (xs : List X) (x d : X) → get_or (xs ++ x ∷ []) (length xs) d ≡ x
new-place [] x d = refl
new-place (z ∷ xs) x d = new-place xs x d

pub opened-more : (n capacity : ℕ) (ws : List ShardWriter) (rs : List ShardReader) (w : ShardWriter) (r : ShardReader) → AreOpened n capacity ws rs → IsOpened capacity n w r
    → AreOpened (n + 1) capacity (ws ++ w ∷ []) (rs ++ r ∷ [])
opened-more n capacity ws rs w r all one = record {
  writer_count = omega (arith, length-append ws (w ∷ []), all.writer_count);
  reader_count = omega (arith, length-append rs (r ∷ []), all.reader_count);
  each = λ i dw dr small. ⊎_elim
      (λ (h : i < n).
      subst (λ x. IsOpened capacity i x (get_or (rs ++ r ∷ []) i dr)) (sym (old-place ws w dw i (omega (arith, all.writer_count))))
      (subst (λ y. IsOpened capacity i (get_or ws i dw) y) (sym (old-place rs r dr i (omega (arith, all.reader_count)))) (all.each i dw dr h)))
      (λ (h : n ≤ i).
      let e : i ≡ n = omega arith in
      let x : get_or (ws ++ w ∷ []) i dw ≡ w = ap (λ k. get_or (ws ++ w ∷ []) k dw) (e ∙ sym all.writer_count) ∙ new-place ws w dw in
      let y : get_or (rs ++ r ∷ []) i dr ≡ r = ap (λ k. get_or (rs ++ r ∷ []) k dr) (e ∙ sym all.reader_count) ∙ new-place rs r dr in
      subst (λ v. IsOpened capacity i v (get_or (rs ++ r ∷ []) i dr)) (sym x)
      (subst (λ v. IsOpened capacity i w v) (sym y) (subst (λ k. IsOpened capacity k w r) (sym e) one)))
      (cases_lt i n);
}

-- each writer's own reader is at its number
pub own-reader : (shards capacity : ℕ) (ws : List ShardWriter) (rs : List ShardReader) → AreOpened shards capacity ws rs
    → (i : ℕ) → i < shards → (w : ShardWriter) → IsOwnReader (get_or ws i w) rs
own-reader shards capacity ws rs all i small w =
    let at = all.each i w in
    let there : (get_or ws i w).index ≡ i = ap (λ (x : ShardWriter). x.index) (at (record { shard = w.shard; capacity = 0; seen = [] }) small).writer in
    record {
      there = omega (arith, there, small, all.reader_count);
      shard = λ d. ap (λ k. (get_or rs k d).shard) there ∙ ap (λ (r : ShardReader). r.shard) (at d small).reader;
    }

-- so it is in a cache that was opened and split
pub own-of-split : (shards capacity : ℕ) (cache : Cache) (ws : List ShardWriter) (rs : ShardReaders) → AreOpened shards capacity cache.writers cache.readers.readers
    → ws ≡ cache.writers → rs ≡ cache.readers → (i : ℕ) → i < shards → (w : ShardWriter) → get_or ws i w ≡ w → IsOwnReader w rs.readers
own-of-split shards capacity cache ws rs all writers readers i small w here =
    subst (λ (r : ShardReaders). IsOwnReader w r.readers) (sym readers)
    (subst (λ (x : ShardWriter). IsOwnReader x cache.readers.readers) (ap (λ l. get_or l i w) (sym writers) ∙ here)
    (own-reader shards capacity cache.writers cache.readers.readers all i small w))

-- what holds where there is a value, and it is known that there is one
clash : true ≡ false → ⊥
clash e = cc

pub no-error : {T E P : Type 0} (r : Result T E) → OnOk r P → is_err r ≡ false → P
no-error (Ok x) holds none = holds
no-error (Err x) holds none = absurd (clash none)

-- what a writer has of a shard that was empty, and of one like it
pub begun : (whole : Front) (first shown after : Instance) (pending : List Operation) → whole.log ≡ [] → first.shard.held ≡ [] → first.front ≡ whole → shown ≡ first → IsAlike shown after
    → pending ≡ [] → IsWritten after pending whole whole 0
begun whole first shown after pending none empty front is alike idle =
    let same : after.front ≡ whole = alike.1 ∙ ap (λ (x : Instance). x.front) is ∙ front in
    let held : after.shard.held ≡ [] = ap (λ s. s.held) (alike.0 ∙ ap (λ (x : Instance). x.shard) is) ∙ empty in
    let list : tried_in after.front.log ≡ [] = ap (λ (f : Front). tried_in f.log) same ∙ ap tried_in none in
    let book : whole.book ≡ after.front.book = sym (ap (λ (f : Front). f.book) same) in
    let stored : stored_in whole.log ≡ tried_in after.front.log = ap stored_in none ∙ sym list in
    record {
      folded = held ∙ sym (ap (content_of after.shard.capacity) list);
      book = book;
      logged = subst (λ p. IsLogged after p whole) (sym idle) stored;
      told_book = book;
      told_list = stored;
      counted = ap length none;
    }

-- a shard that is the same is as like it
pub told : (shown after now : Instance) → now ≡ after → IsAlike shown after → IsAlike shown now
told shown after now is alike = (ap (λ (x : Instance). x.shard) is ∙ alike.0, ap (λ (x : Instance). x.front) is ∙ alike.1)

pub none-behind : {X : Type 0} (n m : ℕ) (xs ys : List X) → n ≡ m → xs ≡ ys → drop m ys ≡ [] → drop n xs ≡ []
none-behind n m xs ys count same none = ap (λ k. drop k xs) count ∙ ap (drop m) same ∙ none
