-- Laws on readers and writers that tell in each state or in none.
use lib.Seq.{take-append_seam}
use Rattle.std.proofs.Common.{◌≡◌, ℕ, ◌+◌, ◌-◌, ◌^◌, ◌<◌, ◌≤◌, min, List, [], ◌++◌, length, take, Option, Some, None, is_some, IfSome, IfOk, OnOk, Result, Ok, Err, refl, ap, sym, ◌∙◌, subst, arith, length-append, length-take, option_map}
use Rattle.std.proofs.lemmas.List.{append-nil, take-append-le, take_all}
use Rattle.std.specs.Io.KnownBytes.{Keeps, Appends, Consumes}
use Rattle.asc_outside.specs.Outside.{given_after, Takes}
use Rattle.asc_streams.specs.Told.{given_of, Remains}

-- what is kept is the same
pub kept : (before now : Option (List ℕ)) → is_some before ≡ is_some now → Keeps before now → now ≡ before
kept (Some before) (Some now) steady keeps = ap (λ l. Some l) keeps
kept (Some before) None steady keeps = absurd keeps
kept None (Some now) steady keeps = cc
kept None None steady keeps = refl

-- what was consumed was taken
pub taken : (before now : Option (List ℕ)) (bytes : List ℕ) → is_some before ≡ is_some now → Consumes before now bytes → Takes before now bytes
taken (Some before) (Some now) bytes steady consumes = consumes
taken (Some before) None bytes steady consumes = consumes
taken None (Some now) bytes steady consumes = cc
taken None None bytes steady consumes = tt

whole : (l : List ℕ) → take (length l - 0) l ≡ l
whole l = take_all (length l - 0) l (omega arith)

front_of : (before bytes : List ℕ) → take (length before) (before ++ bytes) ≡ before
front_of before bytes = take-append_seam before bytes

-- where nothing was appended, all is the same
pub kept_none : (before now : Option (List ℕ)) (bytes : List ℕ) (k : ℕ) → is_some before ≡ is_some now → Appends before now (take k bytes) → k ≡ 0 → now ≡ before
kept_none (Some before) (Some now) bytes k steady appends none =
    ap (λ l. Some l) (appends ∙ ap (λ n. before ++ take n bytes) none ∙ append-nil before)
kept_none (Some before) None bytes k steady appends none = absurd appends
kept_none None (Some now) bytes k steady appends none = cc
kept_none None None bytes k steady appends none = refl

-- what was appended was given
pub given_more : (before now : Option (List ℕ)) (bytes : List ℕ) → is_some before ≡ is_some now → Appends before now bytes
    → given_of now 0 ≡ given_after (given_of before 0) bytes
given_more (Some before) (Some now) bytes steady appends =
    let size : length now ≡ length before + length bytes = ap (λ (l : List ℕ). length l) appends ∙ length-append before bytes in
    let all : take (length now - 0) now ≡ take (length before - 0) before ++ bytes = whole now ∙ appends ∙ ap (λ l. l ++ bytes) (sym (whole before)) in
    let number : min (length now - 0) (2 ^ 64 - 1) ≡ min (length before - 0) (2 ^ 64 - 1) + min (length bytes) (2 ^ 64 - 1 - min (length before - 0) (2 ^ 64 - 1)) = omega arith in
    λ i. record { bytes = Some (all i); number = Some (number i) }
given_more (Some before) None bytes steady appends = absurd appends
given_more None (Some now) bytes steady appends = cc
given_more None None bytes steady appends = refl

-- what was appended and not flushed was not given
pub given_same : (before now : Option (List ℕ)) (bytes : List ℕ) (k : ℕ) → is_some before ≡ is_some now → Appends before now bytes → length bytes ≡ k
    → given_of now k ≡ given_of before 0
given_same (Some before) (Some now) bytes k steady appends size =
    let grown : length now ≡ length before + length bytes = ap (λ (l : List ℕ). length l) appends ∙ length-append before bytes in
    let same : length now - k ≡ length before = omega arith in
    let front : take (length now - k) now ≡ take (length before - 0) before =
    ap (λ n. take n now) same ∙ ap (take (length before)) appends ∙ front_of before bytes ∙ sym (whole before) in
    let number : min (length now - k) (2 ^ 64 - 1) ≡ min (length before - 0) (2 ^ 64 - 1) = omega arith in
    λ i. record { bytes = Some (front i); number = Some (number i) }
given_same (Some before) None bytes k steady appends size = absurd appends
given_same None (Some now) bytes k steady appends size = cc
given_same None None bytes k steady appends size = refl

-- all that remains of a reader is read where a reader of its front ends before the front's limit
pub read_all : (told : Option (List ℕ)) (limit : ℕ) (bytes : List ℕ) → IfSome (option_map (take limit) told) (λ front. bytes ≡ [] ++ front) → length bytes < limit → Remains told bytes
read_all (Some left) limit bytes all below =
    let size : length left ≤ limit = omega (arith, ap (λ (l : List ℕ). length l) all, length-take limit left) in
    all ∙ take_all limit left size
read_all None limit bytes all below = tt

-- the same of how that front was read into an empty buffer
pub read_front : {E : Type 0} (result : Result ℕ E) (told : Option (List ℕ)) (limit most before now : ℕ) (old new : List ℕ)
    → OnOk result (IfSome (option_map (take limit) told) (λ front. new ≡ old ++ front)) → IfOk result (λ n. now ≡ before + n)
    → before ≡ 0 → now ≡ length new → old ≡ [] → (length new ≤ most → length new < limit) → IfOk result (λ n. n ≤ most → Remains told new)
read_front (Ok n) told limit most before now old new all count none size empty past =
    λ within. read_all told limit new (subst (λ l. IfSome (option_map (take limit) told) (λ front. new ≡ l ++ front)) empty all) (past (omega arith))
read_front (Err error) told limit most before now old new all count none size empty past = tt

-- the front of a list that begins with the front of another one is that front
pub take_copied : (k : ℕ) (copied buffer rest behind : List ℕ) → copied ≡ take k (buffer ++ rest) → k ≤ length buffer → take k (copied ++ behind) ≡ take k buffer
take_copied k copied buffer rest behind after within =
    let part : copied ≡ take k buffer = after ∙ take-append-le k buffer rest within in
    let size : k ≤ length copied = omega (arith, ap (λ (l : List ℕ). length l) part, length-take k buffer) in
    take-append-le k copied behind size ∙ ap (take k) part ∙ take_all k (take k buffer) (omega (arith, length-take k buffer))
