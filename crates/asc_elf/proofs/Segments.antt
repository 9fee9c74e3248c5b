-- Lemmas on the lowest address and the greatest end of segments.
use Rattle.std.proofs.Common.{◌≡◌, ℕ, zero, suc, ◌+◌, ◌^◌, ◌<◌, Bool, true, false, cond, ◌||◌, nat_lt, min, max, List, [], ◌∷◌, map, length, refl, sym, arith}
use Rattle.std.proofs.lemmas.Bool.{lt-ltb}
use Rattle.std.specs.List.{filter, list_any, fold, reduce}
use Rattle.std.specs.Option.{unwrap_or}
use Rattle.asc_model.specs.Number.{AreBytes}
use Rattle.asc_model.proofs.Numbers.{word_at-below}
use Rattle.asc_elf.specs.File.{e_phoff, e_phnum, Header, header_at, headers_from, headers, is_segment, segments}
use Rattle.asc_elf.specs.Image.{lowest_address, highest_end}

-- an address is below 2 ^ 32
p_vaddr-below : (file : List ℕ) (at : ℕ) → AreBytes file → (header_at file at).p_vaddr < 2 ^ 32
unfolding header_at
p_vaddr-below file at bytes = word_at-below file (at + 8) bytes

-- the least of an address and those of segments
fold-lowest : (n : ℕ) (list : List Header) → n < 2 ^ 32 → fold min n (map (λ h. h.p_vaddr) list) ≡ min n (lowest_address list)
fold-lowest n [] below = omega arith
fold-lowest n (h ∷ list) below = omega (arith, fold-lowest (min n h.p_vaddr) list (omega arith))

-- the greatest of a number and the ends of segments
fold-highest : (n : ℕ) (list : List Header) → fold max n (map (λ h. h.p_vaddr + h.p_memsz) list) ≡ max n (highest_end list)
fold-highest n [] = omega arith
fold-highest n (h ∷ list) = omega (arith, fold-highest (max n (h.p_vaddr + h.p_memsz)) list)

-- the least address, where there is one
abbrev least : List Header → ℕ
least list = unwrap_or (reduce min (map (λ h. h.p_vaddr) list)) 4294967295

-- one more header
least_step : (b : Bool) (h : Header) (rest : List Header) → h.p_vaddr < 2 ^ 32 → (0 < length rest → least rest ≡ lowest_address rest)
    → 0 < length (cond b (h ∷ rest) rest) → least (cond b (h ∷ rest) rest) ≡ lowest_address (cond b (h ∷ rest) rest)
least_step true h rest address later some = fold-lowest h.p_vaddr rest address
least_step false h rest address later some = later some

-- the least address of headers one after another
least-headers_from : (file : List ℕ) (at n : ℕ) → AreBytes file → 0 < length (filter is_segment (headers_from file at n))
    → least (filter is_segment (headers_from file at n)) ≡ lowest_address (filter is_segment (headers_from file at n))
least-headers_from file at zero bytes some = absurd (omega arith)
least-headers_from file at (suc n) bytes some =
    least_step (is_segment (header_at file at)) (header_at file at) (filter is_segment (headers_from file (at + 32) n))
    (p_vaddr-below file at bytes) (least-headers_from file (at + 32) n bytes) some

-- the least address of a file's segments
pub least-segments : (file : List ℕ) → AreBytes file → 0 < length (segments file) → least (segments file) ≡ lowest_address (segments file)
unfolding segments headers
least-segments file bytes some = least-headers_from file (e_phoff file) (e_phnum file) bytes some

-- the greatest end of segments
pub greatest-end : (list : List Header) → unwrap_or (reduce max (map (λ h. h.p_vaddr + h.p_memsz) list)) 0 ≡ highest_end list
greatest-end [] = refl
greatest-end (h ∷ list) = fold-highest (h.p_vaddr + h.p_memsz) list

-- a test that gives true somewhere
any-filter : {X : Type 0} (p : X → Bool) → (xs : List X) → list_any p xs ≡ nat_lt 0 (length (filter p xs))
any-filter p [] = refl
any-filter p (x ∷ xs) = elim (p x) as (λ v. (v || list_any p xs) ≡ nat_lt 0 (length (cond v (x ∷ filter p xs) (filter p xs)))) [
  | true ↦ sym (lt-ltb 0 (suc (length (filter p xs))) (omega arith))
  | false ↦ any-filter p xs
]

-- a header loads something where there is a segment
pub any_segment : (file : List ℕ) → list_any is_segment (headers file) ≡ nat_lt 0 (length (segments file))
unfolding segments
any_segment file = any-filter is_segment (headers file)
