-- What was stored begins all that is tried later.
use Rattle.std.proofs.Common.{◌≡◌, ◌+◌, ◌<◌, ◌≤◌, List, [], ◌∷◌, ◌++◌, length, fold, refl, sym, ◌∙◌, ap, subst, arith, ⊎_elim, length-append}
use Rattle.std.proofs.lemmas.Bool.{cases_lt}
use Rattle.std.proofs.lemmas.List.{append-nil}
use Rattle.std.proofs.lemmas.List.Sums.{fold-append}
use Rattle.std.specs.declared.snapshot.Snapshot.{Snapshot}
use mathlib.Core.List.{IsPrefix}
use Rattle.asc_model.specs.Entry.{Entry}
use Rattle.asc_cache.specs.declared.log.Note.{Note}
use Rattle.asc_cache.specs.declared.log.Note.TheVariants.{Tries, Stores}
use Rattle.asc_cache.specs.History.{History, noted, history, stored_in, tried_in}
use Rattle.asc_cache.specs.LogRule.{AreOfOneList}
use Rattle.asc_cache.proofs.Fronts.{prefix_self, prefix_trans}

-- one note more
one_more : (log : List Note) (n : Note) → history (log ++ n ∷ []) ≡ noted (history log) n
one_more log n = fold-append noted (record { stored = []; tried = [] }) log (n ∷ [])

-- a try leaves what is stored
tries : (log : List Note) (e : Snapshot Entry) → stored_in (log ++ Tries e ∷ []) ≡ stored_in log
tries log e = ap (λ h. h.stored) (one_more log (Tries e))

-- what was tried last is stored
pub stores : (log : List Note) → stored_in (log ++ Stores ∷ []) ≡ tried_in log
stores log = ap (λ h. h.stored) (one_more log Stores)

goes_on : (h : History) → IsPrefix h.stored h.tried → (rest : List Note)
    → IsPrefix h.stored (fold noted h rest).stored × IsPrefix (fold noted h rest).stored (fold noted h rest).tried
goes_on h p [] = (prefix_self h.stored, p)
goes_on h p (Tries e ∷ rest) = goes_on (noted h (Tries e)) (e.value ∷ [], refl) rest
goes_on h p (Stores ∷ rest) =
    let r = goes_on (noted h Stores) (prefix_self h.tried) rest in
    (prefix_trans h.stored h.tried (fold noted (noted h Stores) rest).stored p r.0, r.1)

stored_first : (log : List Note) → IsPrefix (stored_in log) (tried_in log)
stored_first log = (goes_on (record { stored = []; tried = [] }) ([], refl) log).1

-- what was stored by then begins what is tried last in any longer log
begins_later : (told seen : List Note) → IsPrefix told seen → IsPrefix (stored_in told) (tried_in seen)
begins_later told seen p =
    let after : History = fold noted (history told) p.0 in
    let r = goes_on (history told) (stored_first told) p.0 in
    let same : after ≡ history seen = sym (fold-append noted (record { stored = []; tried = [] }) told p.0) ∙ ap history p.1 in
    subst (λ (h : History). IsPrefix (stored_in told) h.tried) same (prefix_trans (stored_in told) after.stored after.tried r.0 r.1)

-- and what is tried last in a log that lacks one note, or none
begins_behind : (told seen rest : List Note) → seen ++ rest ≡ told → length rest ≤ 1 → IsPrefix (stored_in told) (tried_in seen)
begins_behind told seen [] is short =
    subst (λ l. IsPrefix (stored_in l) (tried_in seen)) (sym (append-nil seen) ∙ is) (stored_first seen)
begins_behind told seen (Tries e ∷ []) is short =
    subst (λ l. IsPrefix (stored_in l) (tried_in seen)) is (subst (λ l. IsPrefix l (tried_in seen)) (sym (tries seen e)) (stored_first seen))
begins_behind told seen (Stores ∷ []) is short =
    subst (λ l. IsPrefix (stored_in l) (tried_in seen)) is (subst (λ l. IsPrefix l (tried_in seen)) (sym (stores seen)) (prefix_self (tried_in seen)))
begins_behind told seen (n ∷ m ∷ rest) is short = absurd (omega arith)

-- Of two beginnings of one log: what the one says is stored begins what the other tried last, if it lacks one note at most.
pub begins : (told seen : List Note) → AreOfOneList told seen → length told ≤ length seen + 1 → IsPrefix (stored_in told) (tried_in seen)
begins told seen one near =
    ⊎_elim
    (λ (h : length seen < length told).
    let p = one.1 (omega arith) in
    begins_behind told seen p.0 p.1 (omega (arith, near, length-append seen p.0, ap length p.1)))
    (λ (h : length told ≤ length seen). begins_later told seen (one.0 h))
    (cases_lt (length seen) (length told))
