use Rattle.std.proofs.Common.{ap, ◌∙◌}
use Rattle.asc_model.specs.Number.{word_at}
use Rattle.asc_model.specs.State.{State}
use Rattle.asc_depvec.proofs.Insides.{read_told, started}
use Rattle.asc_depvec.proofs.tracer.Tracer.read_word.Goals as goal

pub returns : goal.returns
returns c =
    read_told c.self.inside _ c.deref.result.now c.args.place c.word_of.result c.self.view_is c.self.invariant c.deref.ensures.value c.requires.read c.word_of.ensures
    ∙ ap (λ (s : State). word_at s.bytes c.args.place) (started c.self.inside _ c.self.view_is c.self.invariant)
