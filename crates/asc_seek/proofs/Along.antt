-- A search along a path: what is left of it where nothing happens, and the table of heads.
use Rattle.std.proofs.Common.{◌≡◌, ◌≢◌, ◌⊎◌, inl, inr, ℕ, zero, suc, ◌+◌, ◌-◌, ◌<◌, ◌≤◌, Bool, true, false, ◌==◌, nat_le, if◌then◌else◌, List, [], ◌∷◌, set, Option, Some, None, refl, sym, ap, ◌∙◌, subst, arith}
use Rattle.std.specs.Prelude.{slice_index_or}
use Rattle.std.proofs.Math.Nat.{add-suc, add-zero}
use Rattle.std.proofs.lemmas.Bool.Decides.{nat_tests}
use Rattle.asc_seek.specs.declared.heads.Head.{Head}
use Rattle.asc_seek.specs.declared.seeker.Phase.{Phase}
use Rattle.asc_seek.specs.declared.seeker.Scored.{Scored}
use Rattle.asc_seek.specs.declared.seeker.Seeking.{Seeking}
use Rattle.asc_seek.specs.declared.seeker.Service.{Service}
use Rattle.asc_seek.specs.declared.seeker.Trial.{Trial}
use Rattle.asc_seek.specs.declared.seeker.Phase.TheVariants as phase
use Rattle.asc_seek.specs.Heads.{AreEarlier, Path, head_at, heads_of, meet, no_heads, note, slot_of}
use Rattle.asc_seek.specs.Seek.{IsBehindIn, Seek, best_with, end_in, is_over, looked_steps, next_candidate, pays, profiled, score_at, searching, serving, seek_along, advanced, seek_visit, settled, sure_score, try_next, trying, advanced_from, visit_in}
use Rattle.asc_seek.proofs.Tables.{empty}

-- ---- what the definitions say

pub seek_visit-is : (at : ℕ) (reply : Option ℕ) (m : Seek)
    → seek_visit at reply m ≡ record m { phase = visit_in m.seeking at reply m.phase }
unfolding seek_visit
seek_visit-is at reply m = refl

-- another goes on
pub advanced-same : (count : ℕ) (m : Seek) → is_over count m ≡ false → advanced count m ≡ m
unfolding advanced
advanced-same count m goes_on = ap (λ (b : Bool). if b then advanced_from count m m.phase else m) goes_on

-- a count is before its end
pub is_over-early : (count : ℕ) (m : Seek) → count < end_in m m.phase → is_over count m ≡ false
is_over-early count m early = grind (arith, nat_tests)

pub seek_along-zero : (path : Path) (from : ℕ) (m : Seek) → seek_along path from zero m ≡ advanced from (profiled path from m m.phase)
unfolding seek_along
seek_along-zero path from m = refl

pub seek_along-suc : (path : Path) (from n : ℕ) (m now : Seek) → seek_along path from n m ≡ now
    → seek_along path from (suc n) m ≡ advanced (from + suc n) (profiled path (from + suc n) now now.phase)
unfolding seek_along
seek_along-suc path from n m now is =
    ap (λ (before : Seek). advanced (from + suc n) (profiled path (from + suc n) before before.phase)) is

pub heads_of-zero : (path : Path) (from : ℕ) → heads_of path from zero ≡ no_heads
unfolding heads_of
heads_of-zero path from = refl

pub heads_of-suc : (path : Path) (from n : ℕ)
    → heads_of path from (suc n) ≡ note (from + suc n) (head_at path (from + suc n)) (heads_of path from n)
unfolding heads_of
heads_of-suc path from n = refl

-- ---- while an address is tried or kept

-- no heads are noted
pub profiled-same : (path : Path) (count : ℕ) (m : Seek) (p : Phase) → p ≢ phase.Profile → profiled path count m p ≡ m
profiled-same path count m phase.Profile other = absurd (other refl)
profiled-same path count m (phase.Trial t) other = refl
profiled-same path count m (phase.Service v) other = refl
profiled-same path count m (phase.Rest until) other = refl

-- one step more
seek_along-suc_same : (path : Path) (from n k : ℕ) (m now : Seek) → seek_along path from (n + k) m ≡ now → now.phase ≢ phase.Profile
    → seek_along path from (n + suc k) m ≡ advanced (from + n + suc k) now
seek_along-suc_same path from n k m now is other =
    let count : from + suc (n + k) ≡ from + n + suc k = omega arith in
    ap (λ steps. seek_along path from steps m) (add-suc n k)
    ∙ seek_along-suc path from (n + k) m now is
    ∙ ap (advanced (from + suc (n + k))) (profiled-same path (from + suc (n + k)) now now.phase other)
    ∙ ap (λ at. advanced at now) count

-- a search behind so many steps tries or keeps an address, and so many more stay before the end of that: it is the same
pub seek_along-same : (path : Path) (from n k : ℕ) (m now : Seek) → seek_along path from n m ≡ now → now.phase ≢ phase.Profile
    → from + n + k < end_in now now.phase → seek_along path from (n + k) m ≡ now
seek_along-same path from n zero m now is other early = rw (add-zero n) is
seek_along-same path from n (suc k) m now is other early =
    seek_along-suc_same path from n k m now (seek_along-same path from n k m now is other (omega arith)) other
    ∙ advanced-same (from + n + suc k) now (is_over-early (from + n + suc k) now early)

-- so many more reach the end
pub seek_along-turn : (path : Path) (from n k : ℕ) (m now : Seek) → seek_along path from n m ≡ now → now.phase ≢ phase.Profile
    → 0 < k → from + n + k ≤ end_in now now.phase
    → seek_along path from (n + k) m ≡ advanced (from + n + k) now
seek_along-turn path from n zero m now is other some early = absurd (omega arith)
seek_along-turn path from n (suc k) m now is other some early =
    seek_along-suc_same path from n k m now (seek_along-same path from n k m now is other (omega arith)) other

-- ---- a search that notes heads has those of the path

-- the table is that of the path up to a count, if heads are noted
abbrev HasHeads : Path → (count : ℕ) → Seek → Type 0
HasHeads path count m = m.phase ≡ phase.Profile → m.table ≡ heads_of path m.since (count - m.since)

-- a candidate is tried, or the best is kept, or there is a rest
abbrev chosen : (count : ℕ) (m : Seek) → Option Head → Seek
chosen count m next = elim next [ Some h ↦ trying count h m | None ↦ settled count m ]

-- behind a search heads are not noted
serving-other : (s : Seeking) (count : ℕ) (best : Option Scored) (spent : ℕ) → serving s count best spent ≢ phase.Profile
serving-other s count None spent is = cc
serving-other s count (Some b) spent is = cc

pub settled-other : (count : ℕ) (m : Seek) → (settled count m).phase ≢ phase.Profile
settled-other count m = serving-other m.seeking count m.best (m.spent + (count - m.since))

chosen-other : (count : ℕ) (m : Seek) (next : Option Head) → (chosen count m next).phase ≢ phase.Profile
chosen-other count m None = settled-other count m
chosen-other count m (Some h) = λ is. cc

pub try_next-other : (count : ℕ) (tried : Option Head) (m : Seek) → (try_next count tried m).phase ≢ phase.Profile
try_next-other count tried m =
    chosen-other count m (next_candidate count tried m)

either-other : (b : Bool) (m n : Seek) → m.phase ≢ phase.Profile → n.phase ≢ phase.Profile → (if b then m else n).phase ≢ phase.Profile
either-other true m n a b = a
either-other false m n a b = b

pub advanced_from-other : (count : ℕ) (m : Seek) (t : Trial) → (advanced_from count m (phase.Trial t)).phase ≢ phase.Profile
advanced_from-other count m t =
    let score = score_at m.seeking count t in
    let scored = record m { best = best_with t.head score m.best } in
    either-other (nat_le sure_score score) (settled count scored) (try_next count (Some t.head) scored)
    (chosen-other count scored None) (try_next-other count (Some t.head) scored)

-- a search begins
begun : (path : Path) (count : ℕ) (m : Seek) → HasHeads path count (searching count m)
begun path count m = λ notes.
    let none : count - count ≡ 0 = omega arith in
    sym (ap (heads_of path count) none ∙ heads_of-zero path count)

-- a kept address goes on, or a search begins
looked : (path : Path) (count : ℕ) (b : Bool) (m : Seek) (v : Service)
    → HasHeads path count (if b then record m { phase = phase.Service (record v { until = count + looked_steps v.lap }) } else searching count m)
looked path count true m v = λ notes. absurd (cc)
looked path count false m v = begun path count m

turned : (path : Path) (count : ℕ) (over : Bool) (m : Seek) (p : Phase) → HasHeads path count m
    → HasHeads path count (if over then advanced_from count m p else m)
turned path count false m p heads = heads
turned path count true m phase.Profile heads = λ notes. absurd (try_next-other count None m notes)
turned path count true m (phase.Trial t) heads = λ notes. absurd (advanced_from-other count m t notes)
turned path count true m (phase.Service v) heads = looked path count (pays m.seeking count v) m v
turned path count true m (phase.Rest until) heads = begun path count m

noted : (path : Path) (count : ℕ) (m : Seek) (p : Phase) → m.phase ≡ p → HasHeads path count (profiled path count m p)
noted path count m phase.Profile is = λ notes. refl
noted path count m (phase.Trial t) is = λ notes. absurd (cc)
noted path count m (phase.Service v) is = λ notes. absurd (cc)
noted path count m (phase.Rest until) is = λ notes. absurd (cc)

has_heads : (path : Path) (count : ℕ) (m : Seek) → HasHeads path count (advanced count (profiled path count m m.phase))
unfolding advanced
has_heads path count m =
    let with = profiled path count m m.phase in
    turned path count (is_over count with) with with.phase (noted path count m m.phase refl)

pub table-seek_along : (path : Path) (from n : ℕ) (m now : Seek) → seek_along path from n m ≡ now → now.phase ≡ phase.Profile
    → now.table ≡ heads_of path now.since (from + n - now.since)
table-seek_along path from zero m now is =
    let at = subst (λ c. HasHeads path c (advanced from (profiled path from m m.phase))) (sym (add-zero from)) (has_heads path from m) in
    subst (HasHeads path (from + zero)) (sym (seek_along-zero path from m) ∙ is) at
table-seek_along path from (suc n) m now is =
    let before = seek_along path from n m in
    subst (HasHeads path (from + suc n)) (sym (seek_along-suc path from n m before refl) ∙ is) (has_heads path (from + suc n) before)

-- ---- while heads are noted

-- a search with the heads of a path up to a count
abbrev pub with_heads : Path → (count : ℕ) → Seek → Seek
with_heads path count m = record m { table = heads_of path m.since (count - m.since) }

pub profiled-heads : (path : Path) (count : ℕ) (m : Seek) (p : Phase) → p ≡ phase.Profile
    → profiled path count m p ≡ with_heads path count m
profiled-heads path count m p is = ap (profiled path count m) is

-- one step more
seek_along-suc_heads : (path : Path) (from n k : ℕ) (m now : Seek)
    → seek_along path from (n + k) m ≡ with_heads path (from + n + k) now → now.phase ≡ phase.Profile
    → seek_along path from (n + suc k) m ≡ advanced (from + n + suc k) (with_heads path (from + n + suc k) now)
seek_along-suc_heads path from n k m now is notes =
    let count : from + suc (n + k) ≡ from + n + suc k = omega arith in
    let before = with_heads path (from + n + k) now in
    ap (λ steps. seek_along path from steps m) (add-suc n k)
    ∙ seek_along-suc path from (n + k) m before is
    ∙ ap (advanced (from + suc (n + k))) (profiled-heads path (from + suc (n + k)) before now.phase notes)
    ∙ ap (λ at. advanced at (with_heads path at now)) count

is_over-profile : (count : ℕ) (m : Seek) → m.phase ≡ phase.Profile → count < m.since + m.stretch → is_over count m ≡ false
is_over-profile count m notes early =
    let end : end_in m m.phase ≡ m.since + m.stretch = ap (end_in m) notes in
    is_over-early count m (omega (arith, early, end))

-- a search behind so many steps notes heads, and so many more stay before the end of that: it has the heads of these too
pub seek_along-heads : (path : Path) (from n k : ℕ) (m now : Seek) → seek_along path from n m ≡ now → now.phase ≡ phase.Profile
    → from + n + k < now.since + now.stretch
    → seek_along path from (n + k) m ≡ with_heads path (from + n + k) now
seek_along-heads path from n zero m now is notes early =
    ap (λ steps. seek_along path from steps m) (add-zero n) ∙ is
    ∙ ap (λ (t : List (Option Head)). record now { table = t }) (table-seek_along path from n m now is notes)
    ∙ ap (λ at. with_heads path at now) (sym (add-zero (from + n)))
seek_along-heads path from n (suc k) m now is notes early =
    let goes_on : is_over (from + n + suc k) (with_heads path (from + n + suc k) now) ≡ false =
    is_over-profile (from + n + suc k) (with_heads path (from + n + suc k) now) notes early in
    seek_along-suc_heads path from n k m now (seek_along-heads path from n k m now is notes (omega arith)) notes
    ∙ advanced-same (from + n + suc k) (with_heads path (from + n + suc k) now) goes_on

-- so many more reach the end
pub seek_along-profiled : (path : Path) (from n k : ℕ) (m now : Seek) → seek_along path from n m ≡ now → now.phase ≡ phase.Profile
    → 0 < k → from + n + k ≤ now.since + now.stretch
    → seek_along path from (n + k) m ≡ advanced (from + n + k) (with_heads path (from + n + k) now)
seek_along-profiled path from n zero m now is notes some early = absurd (omega arith)
seek_along-profiled path from n (suc k) m now is notes some early =
    seek_along-suc_heads path from n k m now (seek_along-heads path from n k m now is notes (omega arith)) notes

-- ---- the table of heads

-- steps that lead nowhere back
pub heads_of-same : (path : Path) (from n k : ℕ) → ((i : ℕ) → 0 < i → i ≤ k → head_at path (from + n + i) ≡ None)
    → heads_of path from (n + k) ≡ heads_of path from n
heads_of-same path from n zero nowhere = ap (heads_of path from) (add-zero n)
heads_of-same path from n (suc k) nowhere =
    let count : from + suc (n + k) ≡ from + n + suc k = omega arith in
    let none = ap (head_at path) count ∙ nowhere (suc k) (omega arith) (omega arith) in
    ap (heads_of path from) (add-suc n k) ∙ heads_of-suc path from (n + k)
    ∙ ap (λ (met : Option ℕ). note (from + suc (n + k)) met (heads_of path from (n + k))) none
    ∙ heads_of-same path from n k (λ i some most. nowhere i some (omega arith))

-- and one more that may lead back
pub heads_of-next : (path : Path) (from n k : ℕ) → ((i : ℕ) → 0 < i → i ≤ k → head_at path (from + n + i) ≡ None)
    → heads_of path from (n + k + 1) ≡ note (from + n + k + 1) (head_at path (from + n + k + 1)) (heads_of path from n)
heads_of-next path from n k nowhere =
    let steps : n + k + 1 ≡ suc (n + k) = omega arith in
    let count : from + suc (n + k) ≡ from + n + k + 1 = omega arith in
    ap (heads_of path from) steps ∙ heads_of-suc path from (n + k)
    ∙ ap (λ at. note at (head_at path at) (heads_of path from (n + k))) count
    ∙ ap (note (from + n + k + 1) (head_at path (from + n + k + 1))) (heads_of-same path from n k nowhere)

pub AreEarlier-later : (a b : ℕ) (table : List (Option Head)) → a ≤ b → AreEarlier a table → AreEarlier b table
AreEarlier-later a b table le early k h there = let lt = early k h there in omega arith

-- what stands at a slot once one was written
written : (table : List (Option Head)) (slot k : ℕ) (y : Option Head)
    → (slice_index_or (set table slot y) k None ≡ slice_index_or table k None) ⊎ (slice_index_or (set table slot y) k None ≡ y)
written [] slot k y = inl refl
written (x ∷ xs) zero zero y = inr refl
written (x ∷ xs) zero (suc k) y = inl refl
written (x ∷ xs) (suc slot) zero y = inl refl
written (x ∷ xs) (suc slot) (suc k) y = written xs slot k y

same_early : (b : Bool) (count : ℕ) (g h : Head) → g.last < count
    → Some (if b then record g { times = g.times + 1; last = count } else g) ≡ Some h → h.last < count + 1
same_early true count g h early is =
    let last : count ≡ h.last = ap (λ (o : Option Head). elim o [ Some g ↦ g.last | None ↦ 0 ]) is in omega arith
same_early false count g h early is =
    let last : g.last ≡ h.last = ap (λ (o : Option Head). elim o [ Some g ↦ g.last | None ↦ 0 ]) is in omega arith

met_early : (address count : ℕ) (before : Option Head) (h : Head) → ((g : Head) → before ≡ Some g → g.last < count)
    → meet address count before ≡ Some h → h.last < count + 1
met_early address count None h early is =
    let last : count ≡ h.last = ap (λ (o : Option Head). elim o [ Some g ↦ g.last | None ↦ 0 ]) is in omega arith
met_early address count (Some g) h early is = same_early (g.address == address) count g h (early g refl) is

pub AreEarlier-note : (count : ℕ) (met : Option ℕ) (table : List (Option Head)) → AreEarlier count table
    → AreEarlier (count + 1) (note count met table)
AreEarlier-note count None table early = AreEarlier-later count (count + 1) table (omega arith) early
AreEarlier-note count (Some address) table early = λ k h there.
    let slot = slot_of address in
    let before = slice_index_or table slot None in
    elim (written table slot k (meet address count before)) [
      | inl old ↦ let lt = early k h (sym old ∙ there) in omega arith
      | inr new ↦ met_early address count before h (early slot) (sym new ∙ there)
    ]

-- each was met no later than at the last count
pub AreEarlier-heads_of : (path : Path) (from n : ℕ) → AreEarlier (from + n + 1) (heads_of path from n)
AreEarlier-heads_of path from zero = (empty (heads_of path from zero) (heads_of-zero path from)).early (from + zero + 1)
AreEarlier-heads_of path from (suc n) =
    let count : from + suc n ≡ from + n + 1 = omega arith in
    let before = subst (λ at. AreEarlier at (heads_of path from n)) (sym count) (AreEarlier-heads_of path from n) in
    let after = AreEarlier-note (from + suc n) (head_at path (from + suc n)) (heads_of path from n) before in
    subst (AreEarlier (from + suc n + 1)) (sym (heads_of-suc path from n)) after

-- where it is advanced a search keeps the table, or empties it
chosen-early : (bound count : ℕ) (m : Seek) (next : Option Head) → AreEarlier bound m.table → AreEarlier bound (chosen count m next).table
chosen-early bound count m None early = early
chosen-early bound count m (Some h) early = early

try_next-early : (bound count : ℕ) (tried : Option Head) (m : Seek) → AreEarlier bound m.table
    → AreEarlier bound (try_next count tried m).table
try_next-early bound count tried m =
    chosen-early bound count m (next_candidate count tried m)

either-early : (bound : ℕ) (b : Bool) (m n : Seek) → AreEarlier bound m.table → AreEarlier bound n.table
    → AreEarlier bound (if b then m else n).table
either-early bound true m n a b = a
either-early bound false m n a b = b

advanced_from-early : (bound count : ℕ) (m : Seek) (p : Phase) → AreEarlier bound m.table → AreEarlier bound (advanced_from count m p).table
advanced_from-early bound count m phase.Profile early = try_next-early bound count None m early
advanced_from-early bound count m (phase.Trial t) early =
    let score = score_at m.seeking count t in
    let scored = record m { best = best_with t.head score m.best } in
    either-early bound (nat_le sure_score score) (settled count scored) (try_next count (Some t.head) scored)
    (chosen-early bound count scored None early) (try_next-early bound count (Some t.head) scored early)
advanced_from-early bound count m (phase.Service v) early =
    either-early bound (pays m.seeking count v) (record m { phase = phase.Service (record v { until = count + looked_steps v.lap }) })
    (searching count m) early ((empty no_heads refl).early bound)
advanced_from-early bound count m (phase.Rest until) early = (empty no_heads refl).early bound

pub AreEarlier-advanced : (bound count : ℕ) (m : Seek) → AreEarlier bound m.table → AreEarlier bound (advanced count m).table
unfolding advanced
AreEarlier-advanced bound count m early =
    either-early bound (is_over count m) (advanced_from count m m.phase) m (advanced_from-early bound count m m.phase early) early

-- ---- what is sought stays

chosen-seeking : (count : ℕ) (m : Seek) (next : Option Head) → (chosen count m next).seeking ≡ m.seeking
chosen-seeking count m None = refl
chosen-seeking count m (Some h) = refl

try_next-seeking : (count : ℕ) (tried : Option Head) (m : Seek) → (try_next count tried m).seeking ≡ m.seeking
try_next-seeking count tried m = chosen-seeking count m (next_candidate count tried m)

either-seeking : (b : Bool) (m n : Seek) (s : Seeking) → m.seeking ≡ s → n.seeking ≡ s → (if b then m else n).seeking ≡ s
either-seeking true m n s a b = a
either-seeking false m n s a b = b

advanced_from-seeking : (count : ℕ) (m : Seek) (p : Phase) → (advanced_from count m p).seeking ≡ m.seeking
advanced_from-seeking count m phase.Profile = try_next-seeking count None m
advanced_from-seeking count m (phase.Trial t) =
    let score = score_at m.seeking count t in
    let scored = record m { best = best_with t.head score m.best } in
    either-seeking (nat_le sure_score score) (settled count scored) (try_next count (Some t.head) scored) m.seeking refl
    (try_next-seeking count (Some t.head) scored)
advanced_from-seeking count m (phase.Service v) =
    either-seeking (pays m.seeking count v) (record m { phase = phase.Service (record v { until = count + looked_steps v.lap }) })
    (searching count m) m.seeking refl refl
advanced_from-seeking count m (phase.Rest until) = refl

pub advanced-seeking : (count : ℕ) (m : Seek) → (advanced count m).seeking ≡ m.seeking
unfolding advanced
advanced-seeking count m =
    either-seeking (is_over count m) (advanced_from count m m.phase) m m.seeking (advanced_from-seeking count m m.phase) refl

-- ---- counts

later : (a b : ℕ) (m : Seek) (p : Phase) → a ≤ b → IsBehindIn a m p → IsBehindIn b m p
later a b m phase.Profile le behind = omega arith
later a b m (phase.Trial t) le behind = omega arith
later a b m (phase.Service v) le behind = omega arith
later a b m (phase.Rest until) le behind = tt
