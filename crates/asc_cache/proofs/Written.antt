-- What a writer has of its doubled shard, once an insertion is published.
use Rattle.std.proofs.Common.{◌≡◌, ℕ, true, Option, Some, None, List, [], ◌∷◌, ◌++◌, length, refl, sym, ◌∙◌, ap, subst}
use Rattle.std.specs.Prelude.{is_some}
use Rattle.std.specs.Arc.{arc_value}
use Rattle.logbook.specs.Pages.{Book}
use Rattle.asc_model.specs.Entry.{Entry}
use Rattle.asc_cache.specs.declared.instance.Instance.{Instance}
use Rattle.asc_cache.specs.declared.instance.Operation.{Operation}
use Rattle.asc_cache.specs.declared.log.Note.TheVariants.{Stores}
use Rattle.asc_cache.specs.History.{stored_in, tried_in}
use Rattle.asc_cache.specs.ShardRule.{Doubled, Front, IsLogged, IsNext, IsWritten, absorbed, entry_in, state_of}
use Rattle.asc_cache.proofs.History.{stores}
use Rattle.asc_cache.proofs.Steps.{kept_on, longer}

-- where an entry is pending, that is one operation, which comes next
pub one_pending : (x : Instance) (whole : Front) (pending : List Operation) → IsLogged x pending whole → is_some (entry_in pending) ≡ true
    → (o : Operation) × (pending ≡ o ∷ []) × IsNext x o
one_pending x whole [] logged some = absurd cc
one_pending x whole (o ∷ []) logged some = (o, refl, logged.0)
one_pending x whole (o ∷ p ∷ rest) logged some = absurd logged

-- what was noted as stored is published, and told from then on
pub published : (x y : Instance) (whole after again told : Front) (o : Operation) (old new : List Operation) (notes n : ℕ) → IsWritten x old whole told notes → old ≡ o ∷ [] → new ≡ []
    → again ≡ after → after.book ≡ whole.book → after.log ≡ whole.log ++ Stores ∷ [] → state_of y ≡ absorbed (state_of x) o → length after.log ≡ n → IsWritten y new after again n
published x y whole after again told o old new notes n w one none same book log is count =
    let logged : IsLogged x (o ∷ []) whole = subst (λ p. IsLogged x p whole) one w.logged in
    let next = logged.0 in
    let front : o.front ≡ y.front = sym (ap (λ s. s.1) is) in
    let shard : after.book ≡ y.front.book = book ∙ w.book ∙ sym next.0 ∙ ap (λ (f : Front). f.book) front in
    let list : stored_in after.log ≡ tried_in y.front.log = ap stored_in log ∙ stores whole.log ∙ logged.1 ∙ ap (λ (f : Front). tried_in f.log) front in
    record {
      folded = kept_on x y o next is w.folded;
      book = shard;
      logged = subst (λ p. IsLogged y p after) (sym none) list;
      told_book = ap (λ (f : Front). f.book) same ∙ shard;
      told_list = ap (λ (f : Front). stored_in f.log) same ∙ list;
      counted = ap (λ (f : Front). length f.log) same ∙ count;
    }

abbrev seen : Book → ℕ → List Entry → Option Entry → Doubled
seen shard capacity stored pending = record { shard = shard; capacity = capacity; stored = stored; pending = pending }

alike : (a b : Book) (c d : ℕ) (s t : List Entry) (p q : Option Entry) → a ≡ b → c ≡ d → s ≡ t → p ≡ q → seen a c s p ≡ seen b d t q
alike a b c d s t p q book capacity list entry = rw (book, capacity, list, entry) refl

-- what a writer sees once an operation is published that came next
pub shows : (x y : Instance) (o : Operation) (old new : List Operation) (d : Doubled) (e : Entry) → IsNext x o → old ≡ o ∷ [] → new ≡ [] → state_of y ≡ absorbed (state_of x) o
    → seen x.front.book x.shard.capacity (tried_in x.front.log) (entry_in old) ≡ d → d.pending ≡ Some e
    → seen y.front.book y.shard.capacity (tried_in y.front.log) (entry_in new) ≡ seen d.shard d.capacity (d.stored ++ e ∷ []) None
shows x y o old new d e next one none is view pending =
    let entry : arc_value o.entry ≡ e = cc (ap entry_in one, ap (λ (d : Doubled). d.pending) view, pending) in
    let list : tried_in y.front.log ≡ d.stored ++ e ∷ [] = longer x y o next is ∙ ap (λ v. tried_in x.front.log ++ v ∷ []) entry ∙ ap (λ (d : Doubled). d.stored ++ e ∷ []) view in
    let book : y.front.book ≡ d.shard = ap (λ s. s.1.book) is ∙ next.0 ∙ ap (λ (d : Doubled). d.shard) view in
    let capacity : y.shard.capacity ≡ d.capacity = ap (λ s. s.0.capacity) is ∙ ap (λ (d : Doubled). d.capacity) view in
    alike y.front.book d.shard y.shard.capacity d.capacity (tried_in y.front.log) (d.stored ++ e ∷ []) (entry_in new) None book capacity list (ap entry_in none)
