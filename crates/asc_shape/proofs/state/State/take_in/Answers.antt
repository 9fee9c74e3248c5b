use Rattle.std.proofs.Common.{◌≡◌, ◌+◌, ◌-◌, ◌≤◌, List, ℕ, length, take, drop, sym, ap, subst, ◌∙◌, arith, length-take, length-drop, IfOk, OnErr}
use Rattle.std.proofs.lemmas.List.{take_all}
use Rattle.asc_model.specs.Shape.{length_of}
use Rattle.asc_model.specs.State.{State}
use Rattle.asc_model.specs.Machine.{splice}
use Rattle.asc_model.proofs.Changes.{holds-parts, length-splice}
use Rattle.asc_shape.specs.State.{memory_at}
use Rattle.asc_shape.proofs.States.{memory_is, items-splice}
use Rattle.asc_shape.proofs.Pages.{inside_written}
use Rattle.asc_shape.proofs.state.State.take_in.Goals as goal

-- how many bytes a part has
length-part : (from n m : ℕ) (list : List ℕ) → m ≡ n → from + n ≤ length list → length (take m (drop from list)) ≡ n
length-part from n m list same within = omega (arith, length-take m (drop from list), length-drop from list)

pub invariant_of-self : goal.invariant_of-self
invariant_of-self g c =
    let s = c.args.self.now in
    let parts = holds-parts s.shape c.args.at c.args.n c.requires.within in
    let start = c.place-from.result in
    let size : length c.self.inside.bytes.items ≡ length_of s.shape = c.self.invariant.size ∙ ap (λ (t : State). length_of t.shape) c.self.view_is in
    let place = c.place-from.ensures in
    let within : start + c.args.n ≤ length c.self.inside.bytes.items = omega (arith, place) in
    let listed : length c.deref_mut.result.now ≡ length c.self.inside.bytes.items = ap (λ (l : List ℕ). length l) c.deref_mut.ensures.value in
    inside_written c.self.inside.shape c.self.inside.base c.self.inside.bytes c.self.inside.changed c.add_pages.new.changed start c.args.n
    (start + c.args.n - start) _ c.take.new.into c.self.invariant c.add_pages.ensures c.deref_mut.ensures.value
    (c.take.auto.into ∙ length-part start c.args.n (start + c.args.n - start) c.deref_mut.result.now (omega arith) (omega arith) ∙ omega arith) (omega arith) within

pub returns-clause-takes : goal.returns-clause-takes
returns-clause-takes g c =
    let s = c.args.self.now in
    let at = c.args.at in
    let n = c.args.n in
    let parts = holds-parts s.shape at n c.requires.within in
    let start = c.place-from.result in
    let bytes = c.self.inside.bytes.items in
    let held = c.take.new.into in
    let size : length bytes ≡ length_of s.shape = c.self.invariant.size ∙ ap (λ (t : State). length_of t.shape) c.self.view_is in
    let place = c.place-from.ensures in
    let within : start + n ≤ length bytes = omega (arith, place) in
    let listed : length c.deref_mut.result.now ≡ length bytes = ap (λ (l : List ℕ). length l) c.deref_mut.ensures.value in
    let part : length (take (start + n - start) (drop start c.deref_mut.result.now)) ≡ n = length-part start n (start + n - start) c.deref_mut.result.now (omega arith) (omega arith) in
    let long : length held ≡ n = c.take.auto.into ∙ part in
    let was : take (start + n - start) (drop start c.deref_mut.result.now) ≡ memory_at s at n =
    memory_is s start at (start + n - start) n c.deref_mut.result.now (c.deref_mut.ensures.value ∙ ap (λ (t : State). t.bytes) c.self.view_is) place (omega arith) in
    let spliced = items-splice c.self.inside.bytes start (start + n - start) c.deref_mut.result.now held c.deref_mut.ensures.value (long ∙ omega arith) (omega arith) in
    let full : length (splice bytes start held) ≡ length bytes = length-splice bytes start held (omega arith) in (
      held,
      record {
        size = long;
        state = ap (λ (l : List ℕ). let t : State = record { shape = c.self.inside.shape; bytes = l } in t)
            (spliced ∙ sym (take_all (length bytes) (splice bytes start held) (omega arith)))
            ∙ ap (λ (t : State). record t { bytes = take (length t.bytes) (splice t.bytes start held) }) c.self.view_is
            ∙ ap (λ p. record s { bytes = take (length s.bytes) (splice s.bytes p held) }) place;
        count = subst (λ m. IfOk c.take.result (λ k. k ≤ m)) part c.take.ensures.count;
        taken = c.take.ensures.taken;
        behind = subst (λ (l : List ℕ). IfOk c.take.result (λ k. drop k held ≡ drop k l)) was c.take.ensures.behind;
        nothing = c.take.ensures.nothing;
        buffer = subst (λ (l : List ℕ). OnErr c.take.result (held ≡ l)) was c.take.ensures.buffer;
      },
    )
