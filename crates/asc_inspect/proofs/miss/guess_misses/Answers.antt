-- The entry has the shape of the guess.
use Rattle.std.proofs.Common.{ap, ◌∙◌}
use Rattle.asc_model.specs.State.{State}
use Rattle.asc_inspect.proofs.Missing.{guess-shape, lap-shape}
use Rattle.asc_inspect.proofs.miss.guess_misses.Goals as goal

pub put_guess-requires : goal.put_guess-requires
put_guess-requires c =
    let guess = ap (λ (s : State). s.shape) c.in_ok-guess.ensures ∙ guess-shape c.args.kind 1 c.args.prev.now.value c.args.last.now.value ∙ c.requires.last in
    lap-shape _ _ c.in_ok-lap.lap c.args.now.now.shape c.in_ok-lap.ensures guess
