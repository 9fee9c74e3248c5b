-- A word that was carried out before in a trace.
use Rattle.std.proofs.Common.{◌≡◌, ℕ, zero, suc, ◌+◌, ◌<◌, Bool, true, false, not, ◌&&◌, ◌||◌, List, ◌++◌, refl, sym, ap, ◌∙◌, subst, arith}
use Rattle.std.proofs.lemmas.Bool.{eqb-true}
use Rattle.std.proofs.lemmas.Map.Views.{any-filter_same}
use Rattle.std.specs.Prelude.{◌==◌}
use Rattle.asc_model.specs.declared.version.Version.{Version}
use Rattle.asc_model.specs.Shape.{Shape}
use Rattle.asc_model.specs.State.{State, IsState}
use Rattle.asc_model.specs.Machine.{view_of}
use Rattle.asc_model.specs.Step.{Went, next, fetch}
use Rattle.asc_model.specs.Plain.{plain}
use Rattle.asc_model.specs.Places.{places_read, places_written}
use Rattle.asc_model.specs.DependencyVector.{is_among, without, first_reads, written_in}
use Rattle.asc_model.specs.Laws.{GoesOnAfter, RepeatedWordsTouchNoNewRegister}
use Rattle.asc_model.proofs.Frames.{first_reads-suc, written_in-suc}
use Rattle.asc_model.proofs.PlainSteps.{plain-none, plain-first, plain_steps_keep_states}
use Rattle.asc_model.proofs.Registers.{among-append, registers_follow_words}

or-left : (a b : Bool) → a ≡ true → (a || b) ≡ true
or-left true b e = refl
or-left false b e = absurd (cc)

or-right : (a b : Bool) → b ≡ true → (a || b) ≡ true
or-right true b e = refl
or-right false b e = e

-- a place that is taken away is not there, and each other one stands as before
pub among-without : (place : ℕ) (others places : List ℕ) → is_among place (without others places) ≡ (not (is_among place others) && is_among place places)
among-without place others places =
    any-filter_same (λ other. other == place) (λ p. not (is_among p others)) (not (is_among place others)) (λ k e. ap (λ p. not (is_among p others)) (eqb-true k place e)) places

later-read : (read written reads writes : Bool) → (reads || writes) ≡ true → ((read || (not written && reads)) || (written || writes)) ≡ true
later-read read true reads writes e = or-right (read || false) true refl
later-read read false true writes e = or-left (read || true) writes (or-right read true refl)
later-read read false false true e = or-right (read || false) true refl
later-read read false false false e = absurd (cc)

-- what a step of a trace touches, the trace does
record Carried (n : ℕ) (s then : State) (place : ℕ) : Type 0 where
  read : is_among place (places_read then) ≡ true → (is_among place (first_reads n s) || is_among place (written_in n s)) ≡ true
  written : is_among place (places_written then) ≡ true → is_among place (written_in n s) ≡ true

carried : (k n : ℕ) (s then now : State) → k < n → plain k s ≡ Went then → plain n s ≡ Went now → (place : ℕ) → Carried n s then place
carried k zero s then now few at end place = absurd (let x : ⊥ = omega (arith, few) in x)
carried zero (suc n) s then now few at end place =
    let first = plain-first n s now end in
    let reads = ap (is_among place) (first_reads-suc n s first.0 first.1) ∙ among-append place (places_read s) (without (places_written s) (first_reads n first.0)) in
    let writes = ap (is_among place) (written_in-suc n s first.0 first.1) ∙ among-append place (places_written s) (written_in n first.0) in
    subst (λ t. Carried (suc n) s t place) (plain-none s then at) (record {
      read = λ e. or-left _ _ (reads ∙ or-left _ _ e);
      written = λ e. writes ∙ or-left _ _ e;
    })
carried (suc k) (suc n) s then now few at end place =
    let first = plain-first n s now end in
    let begun = plain-first k s then at in
    let same : begun.0 ≡ first.0 = (let e : Went begun.0 ≡ Went first.0 = sym begun.1 ∙ first.1 in cc) in
    let rest = carried k n first.0 then now (omega (arith, few)) (subst (λ x. plain k x ≡ Went then) same begun.2) first.2 place in
    let reads = ap (is_among place) (first_reads-suc n s first.0 first.1) ∙ among-append place (places_read s) (without (places_written s) (first_reads n first.0))
    ∙ ap (λ (b : Bool). is_among place (places_read s) || b) (among-without place (places_written s) (first_reads n first.0)) in
    let writes = ap (is_among place) (written_in-suc n s first.0 first.1) ∙ among-append place (places_written s) (written_in n first.0) in
    record {
      read = λ e. (λ i. reads i || writes i) ∙ later-read (is_among place (places_read s)) (is_among place (places_written s)) _ _ (rest.read e);
      written = λ e. writes ∙ or-right (is_among place (places_written s)) _ (rest.written e);
    }

pub repeated_words_touch_no_new_register : RepeatedWordsTouchNoNewRegister
repeated_words_touch_no_new_register k n s then now good few was is word =
    let kept_then = plain_steps_keep_states k s then good was.reached in
    let kept_now = plain_steps_keep_states n s now good is.reached in
    let version : now.shape.version ≡ then.shape.version = ap (λ (x : Shape). x.version) (kept_now.1 ∙ sym kept_then.1) in
    let alike = registers_follow_words then now was.after is.after version (sym word) was.goes is.goes in
    record {
      read = λ place low e. (carried k n s then now few was.reached is.reached place).read (alike.read place low ∙ e);
      written = λ place low e. (carried k n s then now few was.reached is.reached place).written (alike.written place low ∙ e);
    }
