-- The table is the one that is lent.
use Rattle.std.proofs.Common.{◌≡◌, List, Option, ap, sym, ◌∙◌, subst}
use Rattle.asc_seek.specs.declared.heads.Head.{Head}
use Rattle.asc_seek.specs.Heads.{AreEarlier}
use Rattle.asc_seek.specs.Seek.{Seek}
use Rattle.asc_seek.proofs.seeker.Seeker.note.Goals as goal

pub note-requires-clause-earlier : goal.note-requires-clause-earlier
note-requires-clause-earlier c =
    let same : c.as_mut_slice.result.now ≡ c.args.self.now.table =
    c.as_mut_slice.ensures.value ∙ ap (λ (m : Seek). m.table) c.self.view_is in
    subst (λ (table : List (Option Head)). AreEarlier c.args.count table) (sym same) c.requires.earlier
