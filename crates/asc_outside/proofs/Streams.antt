-- Laws on what sources and sinks were given, and on their counts of faults.
use Rattle.std.proofs.Common.{◌≡◌, ℕ, ◌+◌, ◌-◌, ◌^◌, min, List, [], ◌++◌, length, Option, Some, None, option_map, refl, ap, sym, arith, length-append, take, drop, take-add, ◌∙◌}
use Rattle.std.proofs.lemmas.List.{append-nil, append_assoc}
use Rattle.asc_outside.specs.Outside.{Given, given_after, Takes}

-- a number that stops at 2 ^ 64 - 1 rises twice as it rises once by both
stopped : (n x y : ℕ) → n + min x (2 ^ 64 - 1 - n) + min y (2 ^ 64 - 1 - (n + min x (2 ^ 64 - 1 - n))) ≡ n + min (x + y) (2 ^ 64 - 1 - n)
stopped n x y = omega arith

-- bytes with none behind
bytes_nil : (bytes : Option (List ℕ)) → option_map (λ b. b ++ []) bytes ≡ bytes
bytes_nil (Some bytes) = ap (λ b. Some b) (append-nil bytes)
bytes_nil None = refl

-- a number that does not rise
number_zero : (number : Option ℕ) → option_map (λ n. n + min 0 (2 ^ 64 - 1 - n)) number ≡ number
number_zero (Some n) = let e : n + min 0 (2 ^ 64 - 1 - n) ≡ n = omega arith in ap (λ m. Some m) e
number_zero None = refl

-- nothing more changes nothing
pub given_after-nil : (given : Given) → given_after given [] ≡ given
given_after-nil given = λ i. record { bytes = bytes_nil given.bytes i; number = number_zero given.number i }

-- bytes with two pieces behind
bytes_append : (bytes : Option (List ℕ)) (x y : List ℕ) → option_map (λ b. b ++ y) (option_map (λ b. b ++ x) bytes) ≡ option_map (λ b. b ++ (x ++ y)) bytes
bytes_append (Some bytes) x y = ap (λ b. Some b) (append_assoc bytes x y)
bytes_append None x y = refl

-- a number that rises twice
number_append : (number : Option ℕ) (x y : List ℕ) → option_map (λ n. n + min (length y) (2 ^ 64 - 1 - n)) (option_map (λ n. n + min (length x) (2 ^ 64 - 1 - n)) number) ≡ option_map (λ n. n + min (length (x ++ y)) (2 ^ 64 - 1 - n)) number
number_append (Some n) x y = ap (λ m. Some m) (rw length-append (stopped n (length x) (length y)))
number_append None x y = refl

-- one piece after another is both
pub given_after-given_after : (given : Given) (x y : List ℕ) → given_after (given_after given x) y ≡ given_after given (x ++ y)
given_after-given_after given x y = λ i. record { bytes = bytes_append given.bytes x y i; number = number_append given.number x y i }

-- bytes put behind those that a sink was given of a piece
pub given_more : (before mid after : Given) (piece rest : List ℕ) (m k : ℕ) → mid ≡ given_after before (take m piece) → rest ≡ drop m piece
    → after ≡ given_after mid (take k rest) → after ≡ given_after before (take (m + k) piece)
given_more before mid after piece rest m k was is now =
    now ∙ ap (λ g. given_after g (take k rest)) was
    ∙ ap (λ l. given_after (given_after before (take m piece)) (take k l)) is
    ∙ given_after-given_after before (take m piece) (take k (drop m piece))
    ∙ ap (given_after before) (sym (take-add m k piece))

-- taking nothing leaves all
pub Takes-nil : (left : Option (List ℕ)) → Takes left left []
Takes-nil (Some left) = refl
Takes-nil None = tt

-- bytes taken, and then more
pub Takes-append : (a b c : Option (List ℕ)) (x y : List ℕ) → Takes a b x → Takes b c y → Takes a c (x ++ y)
Takes-append (Some a) (Some b) (Some c) x y p q = rw (p, q) (sym (append_assoc x y c))
Takes-append None None None x y p q = tt
Takes-append (Some a) (Some b) None x y p q = q
Takes-append (Some a) None c x y p q = absurd p
Takes-append None (Some b) c x y p q = absurd p
Takes-append None None (Some c) x y p q = q

-- these laws, for the attribute of a function
pub ruleset streams = (given_after-nil, given_after-given_after, Takes-nil, Takes-append)
