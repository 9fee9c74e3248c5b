use Rattle.std.proofs.Common.{◌≡◌, ℕ, ◌+◌, ◌-◌, ◌/◌, ◌%◌, ◌∙◌, Bool, List, sym, ap, arith}
use Rattle.std.proofs.lemmas.Bool.{eq-eqb, ne_eqb}
use Rattle.asc_model.specs.State.{State}
use Rattle.asc_model.specs.Places.{bytes_after}
use Rattle.asc_traj.specs.Parts.{masked}
use Rattle.asc_traj.proofs.Parts.{here, masked-zero, put-more}
use Rattle.asc_traj.proofs.part.put_bytes.Goals.{then-rest-eq1, else-rest-eq1}
use Rattle.asc_traj.proofs.part.put_bytes.Goals as goal

pub loop-k-preserved : goal.loop-k-preserved
loop-k-preserved c =
    let k = c.loop-k.k in
    let rest = c.loop-k.rest in
    let left = c.loop-k.left in
    let place = c.args.place + k in
    let more = put-more (4 - k) (4 - (k + 1)) rest place (c.args.place + (k + 1)) left c.loop-k.state.bytes (omega (arith, c.loop-k-test.true)) (omega arith) in
    let after : List ℕ → List ℕ = λ bytes. bytes_after bytes (masked (4 - (k + 1)) (rest / 2) (c.args.place + (k + 1)) (left / 256)) in
    elim c.if-rest-eq1.branch [
      | then-rest-eq1 w ↦
          let is = w.state-is ∙ w.set.ensures in
          record {
            shape = ap (λ (s : State). s.shape) is ∙ c.loop-k.invariant.shape;
            bytes = ap (λ (s : State). after s.bytes) is
                ∙ ap (λ (t : Bool). after (bytes_after c.loop-k.state.bytes (here t (place, left % 256)))) (sym (eq-eqb (rest % 2) 1 w.if-rest-eq1.true))
                ∙ sym more ∙ c.loop-k.invariant.bytes;
          }
      | else-rest-eq1 w ↦
          record {
            shape = ap (λ (s : State). s.shape) w.state-is ∙ c.loop-k.invariant.shape;
            bytes = ap (λ (s : State). after s.bytes) w.state-is
                ∙ ap (λ (t : Bool). after (bytes_after c.loop-k.state.bytes (here t (place, left % 256)))) (sym (ne_eqb (rest % 2) 1 w.if-rest-eq1.false))
                ∙ sym more ∙ c.loop-k.invariant.bytes;
          }
    ]

pub returns : goal.returns
returns c =
    let none : 4 - c.loop-k.k ≡ 0 = omega (arith, c.loop-k-test.false) in
    let made : State → List ℕ → State = λ s bytes. record s { bytes = bytes } in
    let bytes : c.loop-k.state.bytes ≡ bytes_after c.args.state.now.bytes (masked 4 c.args.mask c.args.place c.args.word) =
    ap (bytes_after c.loop-k.state.bytes) (sym (ap (λ (n : ℕ). masked n c.loop-k.rest (c.args.place + c.loop-k.k) c.loop-k.left) none ∙ masked-zero c.loop-k.rest (c.args.place + c.loop-k.k) c.loop-k.left))
    ∙ c.loop-k.invariant.bytes in
    let shaped : (a b : State) → a.shape ≡ b.shape → a ≡ record b { bytes = a.bytes } = λ a b e. ap (λ shape. record a { shape = shape }) e in
    shaped c.loop-k.state c.args.state.now c.loop-k.invariant.shape ∙ ap (made c.args.state.now) bytes
