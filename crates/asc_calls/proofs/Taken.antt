-- Bytes that were taken into a buffer or put from a piece, one call of the device after another, and what they leave in a
-- state's memory.
use Rattle.std.proofs.Common.{◌≡◌, ℕ, ◌+◌, ◌-◌, ◌≤◌, List, [], ◌++◌, length, take, drop, Option, Bool, true, false, IsTrue, Result, Ok, Err, OnErr, refl, sym, ap, ◌∙◌, subst, arith, append_assoc, length-take, length-drop, length-append}
use Rattle.std.proofs.lemmas.List.{take_at, drop_at, drop-drop, drop-append-le, take-append-drop, take_all, length-take-le}
use Rattle.std.proofs.lemmas.Bool.Decides.{nat_tests}
use Rattle.std.proofs.lemmas.Bool.{false≢true}
use Rattle.std.proofs.Math.Seq.{drop-append-add}
use Rattle.asc_model.specs.Shape.{Shape, holds, place_of}
use Rattle.asc_model.specs.Number.{AreBytes}
use Rattle.asc_model.specs.State.{State, IsState}
use Rattle.asc_model.specs.Machine.{Machine, Memory, splice, after_change, view_of, state_of}
use Rattle.asc_model.proofs.Numbers.{bytes_after-cells, AreBytes-take, AreBytes-drop, AreBytes-append}
use Rattle.asc_model.proofs.Changes.{holds-parts, length-splice, IsMachine-view_of, IsMachine-after_change, view_of-state_of}
use Rattle.asc_model.proofs.Views.{view_of-memory}
use Rattle.asc_shape.specs.State.{state_after, memory_at, with_memory}
use Rattle.asc_outside.specs.declared.outside.Failed.{Failed}
use Rattle.asc_shape.specs.TakesIn.{TakesIn}
use Rattle.asc_shape.proofs.States.{changed_is, shape-state_after}
use Rattle.asc_outside.proofs.Streams.{Takes-nil, Takes-append}
use Rattle.asc_calls.specs.World.{CallState}
use Rattle.asc_calls.specs.Filling.{Fills, TakesInto, Reads}

-- a test that is true
pub is_true : (b : Bool) → IsTrue b → b ≡ true
is_true true e = refl
is_true false e = absurd (false≢true e)

-- bytes in memory are a splice of the state's bytes
state_after-memory : (s : State) (a : ℕ) (bytes : List ℕ) → IsState s → IsTrue (holds s.shape a (length bytes)) → AreBytes bytes
    → state_after s (Memory a bytes) ≡ record s { bytes = splice s.bytes (place_of s.shape a) bytes }
state_after-memory s a bytes good held are =
    let parts = holds-parts s.shape a (length bytes) held in
    changed_is s (Memory a bytes) good (held, are)
    ∙ ap (λ l. let t : State = record s { bytes = l } in t) (bytes_after-cells s.bytes (place_of s.shape a) bytes (omega (arith, good.length, parts.0, parts.1)))

-- fewer bytes are in memory too
holds-fewer : (s : State) (a n m : ℕ) → IsTrue (holds s.shape a n) → m ≤ n → IsTrue (holds s.shape a m)
holds-fewer s a n m held few = let parts = holds-parts s.shape a n held in grind (arith, nat_tests)

-- no bytes in memory change nothing
pub state_after-none : (s : State) (a n : ℕ) → IsState s → IsTrue (holds s.shape a n) → s ≡ state_after s (Memory a [])
state_after-none s a n good held =
    let parts = holds-parts s.shape a n held in
    let none : AreBytes [] = λ i. omega arith in
    sym (changed_is s (Memory a []) good (holds-fewer s a n 0 held (omega arith), none))

-- the first bytes of a part of a list, behind its own first ones, and what is behind the part
drop-take-append : (count n : ℕ) (xs : List ℕ) → count ≤ n → n ≤ length xs → drop count (take n xs) ++ drop n xs ≡ drop count xs
drop-take-append count n xs few within =
    let size : length (take n xs) ≡ n = length-take-le n xs within in
    sym (drop-append-le count (take n xs) (drop n xs) (omega arith)) ∙ ap (λ l. drop count l) (take-append-drop n xs)

-- A part of a list, written over with bytes that are the list's own behind their first count, is the list with those
-- spliced in.
splice-taken : (xs w : List ℕ) (p n count : ℕ) → p + n ≤ length xs → length w ≡ n → count ≤ n → drop count w ≡ drop count (take n (drop p xs))
    → splice xs p w ≡ splice xs p (take count w)
splice-taken xs w p n count within size few behind =
    let part : n ≤ length (drop p xs) = omega (arith, length-drop p xs) in
    let took : length (take count w) ≡ count = length-take-le count w (omega arith) in
    ap (λ l. take p xs ++ l ++ drop (p + length w) xs) (sym (take-append-drop count w))
    ∙ ap (λ k. take p xs ++ (take count w ++ drop count w) ++ drop (p + k) xs) size
    ∙ ap (λ l. take p xs ++ (take count w ++ l) ++ drop (p + n) xs) behind
    ∙ ap (λ l. l ++ drop (p + n) xs) (sym (append_assoc (take p xs) (take count w) (drop count (take n (drop p xs)))))
    ∙ append_assoc (take p xs ++ take count w) (drop count (take n (drop p xs))) (drop (p + n) xs)
    ∙ ap (λ l. take p xs ++ take count w ++ (drop count (take n (drop p xs)) ++ l)) (sym (drop-drop n p xs))
    ∙ ap (λ l. take p xs ++ take count w ++ l) (drop-take-append count n (drop p xs) few part)
    ∙ ap (λ l. take p xs ++ take count w ++ l) (drop-drop count p xs)
    ∙ ap (λ k. take p xs ++ take count w ++ drop (p + k) xs) (sym took)

-- what a buffer is left with, in the state
pub with_memory-taken : (s : State) (a n count : ℕ) (w : List ℕ) → IsState s → IsTrue (holds s.shape a n) → length w ≡ n → count ≤ n → AreBytes w
    → drop count w ≡ drop count (memory_at s a n) → with_memory s a w ≡ state_after s (Memory a (take count w))
with_memory-taken s a n count w good held size few are behind =
    let parts = holds-parts s.shape a n held in
    let p = place_of s.shape a in
    let inside : p + n ≤ length s.bytes = omega (arith, good.length, parts.0, parts.1) in
    let took : length (take count w) ≡ count = length-take-le count w (omega arith) in
    let full : length (splice s.bytes p w) ≡ length s.bytes = length-splice s.bytes p w (omega arith) in
    let own : drop count w ≡ drop count (take n (drop p s.bytes)) = behind ∙ ap (λ l. drop count l) (view_of-memory s n a) in
    ap (λ l. let t : State = record s { bytes = l } in t) (take_all (length s.bytes) (splice s.bytes p w) (omega arith) ∙ splice-taken s.bytes w p n count inside size few own)
    ∙ sym (state_after-memory s a (take count w) good (holds-fewer s a n (length (take count w)) held (omega arith)) (AreBytes-take count w are))

-- nothing was taken into a buffer
pub TakesInto-none : (s : State) (a n : ℕ) (left : Option (List ℕ)) → IsState s → IsTrue (holds s.shape a n) → TakesInto left left s s a n []
TakesInto-none s a n left good held =
    record { takes = Takes-nil left; bytes = λ i. omega arith; state = state_after-none s a n good held; within = omega arith }

-- the bytes that memory was left with are bytes, since the state is one
AreBytes-with_memory : (s u : State) (a n : ℕ) (w : List ℕ) → IsState s → IsState u → IsTrue (holds s.shape a n) → length w ≡ n → u ≡ with_memory s a w → AreBytes w
AreBytes-with_memory s u a n w good after held size is =
    let parts = holds-parts s.shape a n held in
    let p = place_of s.shape a in
    let inside : p + n ≤ length s.bytes = omega (arith, good.length, parts.0, parts.1) in
    let full : length (splice s.bytes p w) ≡ length s.bytes = length-splice s.bytes p w (omega arith) in
    let all : u.bytes ≡ take p s.bytes ++ (w ++ drop (p + length w) s.bytes) =
    ap (λ (t : State). t.bytes) is ∙ take_all (length s.bytes) (splice s.bytes p w) (omega arith) ∙ append_assoc (take p s.bytes) w (drop (p + length w) s.bytes) in
    let own : take n (drop p u.bytes) ≡ w =
    ap (λ l. take n (drop p l)) all
    ∙ ap (λ l. take n l) (drop_at (take p s.bytes) (w ++ drop (p + length w) s.bytes) p (length-take-le p s.bytes (omega arith)))
    ∙ take_at w (drop (p + length w) s.bytes) n size in
    subst AreBytes own (AreBytes-take n (drop p u.bytes) (AreBytes-drop p u.bytes after.bytes))

-- no byte was taken into a buffer
pub Fills-none : (s : State) (a n : ℕ) (left : Option (List ℕ)) → IsState s → IsTrue (holds s.shape a n) → Fills left left s s a n 0
Fills-none s a n left good held = record { taken = []; into = TakesInto-none s a n left good held; count_is = refl }

-- what one call of a source took into memory
pub Fills-takes_in : (before after : Option (List ℕ)) (s t : State) (a n count : ℕ) (w : List ℕ) (result : Result ℕ Failed) → result ≡ Ok count → IsState s → IsState t → IsTrue (holds s.shape a n)
    → TakesIn before after s t a n result w → Fills before after s t a n count
Fills-takes_in before after s t a n count w result is good after_good held takes =
    let h : TakesIn before after s t a n (Ok count) w = subst (λ r. TakesIn before after s t a n r w) is takes in
    let are : AreBytes w = AreBytes-with_memory s t a n w good after_good held h.size h.state in
    let few : count ≤ n = h.count in
    record {
      taken = take count w;
      into = record {
        takes = h.taken;
        bytes = AreBytes-take count w are;
        state = h.state ∙ with_memory-taken s a n count w good held h.size few are h.behind;
        within = omega (arith, length-take count w);
      };
      count_is = length-take-le count w (omega (arith, h.size));
    }

-- a splice behind a splice is one of both
splice-splice : (list xs ys : List ℕ) (p : ℕ) → p ≤ length list → splice (splice list p xs) (p + length xs) ys ≡ splice list p (xs ++ ys)
splice-splice list xs ys p within =
    let front = take p list ++ xs in
    let behind = drop (p + length xs) list in
    let size : length front ≡ p + length xs = length-append (take p list) xs ∙ ap (λ k. k + length xs) (length-take-le p list within) in
    ap (λ l. l ++ ys ++ drop (p + length xs + length ys) (front ++ behind)) (take_at front behind (p + length xs) size)
    ∙ ap (λ k. front ++ ys ++ drop (k + length ys) (front ++ behind)) (sym size)
    ∙ ap (λ l. front ++ ys ++ l) (drop-append-add front behind (length ys))
    ∙ ap (λ l. front ++ ys ++ l) (drop-drop (length ys) (p + length xs) list)
    ∙ ap (λ l. l ++ drop (p + length xs + length ys) list) (append_assoc (take p list) xs ys)
    ∙ ap (λ k. take p list ++ (xs ++ ys) ++ drop k list) (let e : p + length xs + length ys ≡ p + length (xs ++ ys) = omega (arith, length-append xs ys) in e)

-- bytes put into memory behind others are both put there
state_after-append : (s : State) (a : ℕ) (xs ys : List ℕ) → IsState s → IsTrue (holds s.shape a (length xs)) → AreBytes xs
    → state_after (state_after s (Memory a xs)) (Memory (a + length xs) ys) ≡ state_after s (Memory a (xs ++ ys))
unfolding state_after state_of
state_after-append s a xs ys good held are =
    let parts = holds-parts s.shape a (length xs) held in
    let machine = view_of s in
    let is_machine = IsMachine-view_of s good in
    let same = view_of-state_of s.shape (after_change s.shape machine (Memory a xs)) (IsMachine-after_change s.shape machine (Memory a xs) is_machine (held, are)) in
    let place : a + length xs - s.shape.base ≡ (a - s.shape.base) + length xs = omega (arith, parts.0) in
    let both = splice-splice machine.memory xs ys (a - s.shape.base) (omega (arith, is_machine.memory, parts.0, parts.1)) in
    ap (λ (m : Machine). state_of s.shape (after_change s.shape m (Memory (a + length xs) ys))) same
    ∙ ap (λ p. state_of s.shape (record machine { memory = splice (splice machine.memory (a - s.shape.base) xs) p ys })) place
    ∙ ap (λ l. state_of s.shape (record machine { memory = l })) both

-- memory written over with its own bytes is as it was
with_memory-own : (s : State) (a n : ℕ) (w : List ℕ) → IsState s → IsTrue (holds s.shape a n) → length w ≡ n → w ≡ memory_at s a n → with_memory s a w ≡ s
with_memory-own s a n w good held size own =
    let are : AreBytes w = subst AreBytes (sym (own ∙ view_of-memory s n a)) (AreBytes-take n (drop (place_of s.shape a) s.bytes) (AreBytes-drop (place_of s.shape a) s.bytes good.bytes)) in
    with_memory-taken s a n 0 w good held size (omega arith) are own ∙ sym (state_after-none s a n good held)

-- one call of a source that fails takes nothing, and leaves memory as it was
pub nothing-takes_in : (before after : Option (List ℕ)) (s t : State) (a n : ℕ) (w : List ℕ) (result : Result ℕ Failed) (fault : Failed) → result ≡ Err fault
    → TakesIn before after s t a n result w → after ≡ before
nothing-takes_in before after s t a n w result fault is takes = (subst (λ r. TakesIn before after s t a n r w) is takes).nothing

pub stays-takes_in : (before after : Option (List ℕ)) (s t : State) (a n : ℕ) (w : List ℕ) (result : Result ℕ Failed) (fault : Failed) → result ≡ Err fault → IsState s
    → IsTrue (holds s.shape a n) → TakesIn before after s t a n result w → t ≡ s
stays-takes_in before after s t a n w result fault is good held takes =
    let h : TakesIn before after s t a n (Err fault) w = subst (λ r. TakesIn before after s t a n r w) is takes in
    h.state ∙ with_memory-own s a n w good held h.size h.buffer

-- bytes taken behind those that a buffer begins with
pub Fills-more : (before mid after : Option (List ℕ)) (s t u : State) (a n m k sum : ℕ) → IsState s → IsTrue (holds s.shape a n) → Fills before mid s t a n m
    → Fills mid after t u (a + m) (n - m) k → sum ≡ m + k → Fills before after s u a n sum
Fills-more before mid after s t u a n m k sum good held f g is =
    let xs = f.taken in
    let ys = g.taken in
    let fewer : IsTrue (holds s.shape a (length xs)) = holds-fewer s a n (length xs) held f.into.within in
    record {
      taken = xs ++ ys;
      into = record {
        takes = Takes-append before mid after xs ys f.into.takes g.into.takes;
        bytes = AreBytes-append xs ys f.into.bytes g.into.bytes;
        state = g.into.state
            ∙ ap (λ (v : State). state_after v (Memory (a + m) ys)) f.into.state
            ∙ ap (λ k. state_after (state_after s (Memory a xs)) (Memory (a + k) ys)) (sym f.count_is)
            ∙ state_after-append s a xs ys good fewer f.into.bytes;
        within = omega (arith, length-append xs ys, f.into.within, g.into.within, f.count_is);
      };
      count_is = length-append xs ys ∙ omega (arith, f.count_is, g.count_is);
    }

-- what is taken into memory leaves the shape
pub shape-into : (before after : Option (List ℕ)) (s t : State) (a n : ℕ) (taken : List ℕ) → TakesInto before after s t a n taken → t.shape ≡ s.shape
shape-into before after s t a n taken into = ap (λ (v : State). v.shape) into.state ∙ shape-state_after s (Memory a taken)

-- what is left of a buffer is in memory too
pub holds-rest : (before after : Option (List ℕ)) (s t : State) (a n m : ℕ) → Fills before after s t a n m → m ≤ n → IsTrue (holds s.shape a n) → IsTrue (holds t.shape (a + m) (n - m))
holds-rest before after s t a n m f few held =
    let parts = holds-parts s.shape a n held in
    let same : s.shape ≡ t.shape = sym (shape-into before after s t a n f.taken f.into) in
    let rest : IsTrue (holds s.shape (a + m) (n - m)) = grind (arith, nat_tests) in
    subst (λ (h : Shape). IsTrue (holds h (a + m) (n - m))) same rest

-- a read after the end was found takes nothing
pub Reads-none : (s : State) (a n : ℕ) (calls : CallState) (left : Option (List ℕ)) → IsState s → IsTrue (holds s.shape a n) → calls.ended ≡ true → Reads left left s s a n calls calls 0
Reads-none s a n calls left good held found = record {
  taken = [];
  into = TakesInto-none s a n left good held;
  count_is = refl;
  all = λ going. absurd (false≢true (sym going ∙ found));
  known = λ known e. known e;
  ended = λ e. (e, refl);
  calls = refl;
}

-- what holds holds of an error
pub OnErr-any : {T E : Type 0} (r : Result T E) (P : Type 0) → P → OnErr r P
OnErr-any (Ok value) P p = tt
OnErr-any (Err error) P p = p
