-- All slots were seen at the end.
use Rattle.std.proofs.Common.{List, Option, None, fold, sym, ap, ◌∙◌}
use Rattle.std.proofs.lemmas.List.{take_all}
use Rattle.asc_seek.specs.declared.heads.Head.{Head}
use Rattle.asc_seek.specs.Inside.{first_candidate}
use Rattle.asc_seek.specs.Seek.{Seek}
use Rattle.asc_seek.proofs.Candidates.{candidate_behind-is}
use Rattle.asc_seek.proofs.seeker.Seeker.candidate_behind.Goals as goal

pub returns : goal.returns
returns c =
    let m = c.args.self.now in
    let past = c.loop-met-test.false in
    let all = take_all c.loop-met.met-index c.deref-met-items.result.now past in
    let table = c.deref-met-items.ensures.value ∙ ap (λ (n : Seek). n.table) c.self.view_is in record {
      first = c.loop-met.invariant.first
          ∙ ap (λ (t : List (Option Head)). fold (first_candidate m.seeking c.args.tried) None t) (all ∙ table)
          ∙ sym (candidate_behind-is m.seeking c.args.tried m.table);
    }
