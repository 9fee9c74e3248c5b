use Rattle.std.proofs.Common.{ℕ, ◌<◌, sym, ap, subst, ◌∙◌}
use Rattle.asc_model.specs.Number.{word_at}
use Rattle.asc_model.specs.Shape.{length_of}
use Rattle.asc_model.specs.State.{State, IsState}
use Rattle.asc_shape.proofs.Guesses.{shape-guess, word-guess}
use Rattle.asc_shape.proofs.guess.Guess.aligned.Goals as goal

pub returns-in-Some : goal.returns-in-Some
returns-in-Some c =
    let s = c.self.inside in
    let within : c.args.place < length_of s.last.value.shape =
    subst (λ (n : ℕ). c.args.place < n) (ap (λ (x : State). length_of x.shape) (sym c.self.view_is) ∙ ap length_of (shape-guess s.ahead s.prev s.last.value)) c.requires.within in
    word-guess s.ahead s.prev c.in-Some.prev s.last.value c.args.place c.strided.result c.word-last.result c.word.result c.in-Some.is (subst IsState c.deref.ensures c.shape.ensures.state)
    c.requires.aligned within c.strided.ensures
    (c.word-last.ensures ∙ ap (λ (x : State). word_at x.bytes c.args.place) c.deref-2.ensures)
    (c.word.ensures ∙ ap (λ (x : State). word_at x.bytes c.args.place) c.deref-in-Some.ensures)
    ∙ ap (λ (x : State). word_at x.bytes c.args.place) c.self.view_is
