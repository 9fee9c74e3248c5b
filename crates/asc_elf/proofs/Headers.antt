-- Lemmas on the program headers of a file.
use Rattle.std.proofs.Common.{◌≡◌, ℕ, zero, suc, ◌+◌, ◌*◌, ◌<◌, ◌≤◌, Bool, Option, List, [], ◌∷◌, length, take, drop, refl, ap, ◌∙◌, add-one, arith}
use Rattle.std.proofs.lemmas.List.{drop_all}
use Rattle.std.proofs.lemmas.Iterator.{YieldsList}
use Rattle.std.proofs.lemmas.Iterator.Consumers.{YieldsList-from_shown, YieldsList-from_filter, YieldsList-at}
use denote.Ref.{Bor}
use denote.Param.Members.{Mut}
use Rattle.std.specs.Fn.{CalledAt}
use Rattle.std.specs.Iterator.{YieldsFirst}
use Rattle.std.specs.Iterator.Adapters.{filter_source, filter_callee, filter_steps}
use Rattle.asc_model.specs.Number.{number_of, AreBytes}
use Rattle.asc_model.proofs.Numbers.{AreBytes-drop}
use Rattle.asc_elf.specs.File.{Header, e_phoff, e_phnum, header_at, headers_from, headers, is_segment, segments}

-- there are as many headers as there should be
length-headers_from : (file : List ℕ) (at n : ℕ) → length (headers_from file at n) ≡ n
length-headers_from file at zero = refl
length-headers_from file at (suc n) = ap suc (length-headers_from file (at + 32) n)

-- a file's program headers are as many as it says
pub length-headers : (file : List ℕ) → length (headers file) ≡ e_phnum file
unfolding headers
length-headers file = length-headers_from file (e_phoff file) (e_phnum file)

-- the header of an index, and those behind it
drop-headers_from : (file : List ℕ) (at n i : ℕ) → i < n → drop i (headers_from file at n) ≡ header_at file (at + 32 * i) ∷ drop (suc i) (headers_from file at n)
drop-headers_from file at zero i h = absurd (omega arith)
drop-headers_from file at (suc n) zero h = let e : at ≡ at + 32 * 0 = omega arith in ap (λ a. header_at file a ∷ headers_from file (at + 32) n) e
drop-headers_from file at (suc n) (suc i) h =
    let e : at + 32 + 32 * i ≡ at + 32 * suc i = omega arith in
    drop-headers_from file (at + 32) n i (omega arith) ∙ ap (λ a. header_at file a ∷ drop (suc i) (headers_from file (at + 32) n)) e

-- the program header of an index, and those behind it
pub drop-headers : (file : List ℕ) (i : ℕ) → i < e_phnum file → drop i (headers file) ≡ header_at file (e_phoff file + 32 * i) ∷ drop (i + 1) (headers file)
unfolding headers
drop-headers file i h = rw (add-one i) (drop-headers_from file (e_phoff file) (e_phnum file) i h)

-- behind the last header there is none
pub headers_end : (file : List ℕ) (i : ℕ) → e_phnum file ≤ i → drop i (headers file) ≡ []
headers_end file i h = drop_all i (headers file) (omega (arith, length-headers file))

-- two bytes spell a number below 2 ^ 16
two_bytes-below : (bytes : List ℕ) → AreBytes bytes → number_of (take 2 bytes) < 65536
two_bytes-below [] h = omega arith
two_bytes-below (a ∷ []) h = omega (arith, h 0)
two_bytes-below (a ∷ b ∷ bytes) h = omega (arith, h 0, h 1)

-- there are fewer than 2 ^ 16 headers
pub headers-few : (file : List ℕ) → AreBytes file → length (headers file) < 65536
headers-few file bytes = omega (arith, length-headers file, two_bytes-below (drop 44 file) (AreBytes-drop 44 file bytes))

-- a step of an iterator over headers
abbrev gives : List Header → Option Header → List Header → Type 0
gives = YieldsFirst {A = Header} (λ left. left)

-- an iterator over a file's headers yields them
pub YieldsList-headers : {s : List Header} (file : List ℕ) → s ≡ headers file → YieldsList gives (λ h. h) s (headers file)
YieldsList-headers {s} file same =
    YieldsList-at same (YieldsList-from_shown gives (λ h. h) (λ left. left) (λ s t h. ap length h.0) (λ s x t h. h) (headers file))

-- with a filter that keeps segments, it yields the file's segments
pub YieldsList-segments : {F : Type 0} {s : _} (g : Mut F (Bor Header × Unit {0}) Bool) {f : F} (file : List ℕ) → filter_source s ≡ headers file → filter_callee s ≡ f
    → ((h : Header) (b : Bool) (q : F) → CalledAt g f h b q → (q ≡ f) × (b ≡ is_segment h)) → YieldsList (filter_steps gives g) (λ h. h) s (segments file)
unfolding segments
YieldsList-segments g file source callee keeps = YieldsList-from_filter g is_segment (YieldsList-headers file source) callee keeps
