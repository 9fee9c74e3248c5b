use Rattle.std.proofs.Common.{◌≡◌, [], ◌∷◌, ◌++◌, All, sym, subst, arith}
use Rattle.std.proofs.lemmas.List.Elements.{All-push}
use Rattle.asc_work.proofs.Posts.{one_less}
use Rattle.asc_live.specs.Crew.{IsForRun}
use Rattle.asc_live.proofs.open_crew.parts_of.Goals as goal

pub loop-preserved : goal.loop-preserved
loop-preserved c =
    let old = c.loop.parts.items in let new = c.push.new.self.items in let part = c.in_ok-open.field-0 in
    let pushed : new ≡ old ++ part ∷ [] = c.in_ok-push.ensures.items in
    let more = one_less new old part pushed in record {
      count = omega (arith, more, c.loop.invariant.count);
      each = subst (All (IsForRun c.args.guessing c.args.crew)) (sym pushed)
          (All-push (IsForRun c.args.guessing c.args.crew) old part c.loop.invariant.each c.in_ok-open.ensures);
    }
