use Rattle.std.proofs.Common.{rules, ◌≡◌, None, sym, ◌∙◌, get_or, subst}
use Rattle.asc_cache.specs.Cache.{ShardReader}
use Rattle.asc_traj.specs.Jump.{IsJump}
use Rattle.asc_cache.specs.Cache.{IsLater, found_by}
use Rattle.asc_cache.proofs.Firsts.{unchanged}
use Rattle.asc_cache.proofs.Rows.{any_default, rest_after, done_after, all_after, each_after}
use Rattle.asc_cache.proofs.readers.jump_all.Goals as goal

pub returns-in-Some-clause-later : goal.returns-in-Some-clause-later
returns-in-Some-clause-later g c k d small =
    let inv = c.loop-i.invariant in
    all_after IsLater unchanged c.args.readers.now c.loop-i.readers c.loop-i.i (get_or c.loop-i.readers c.loop-i.i c.index-readers-i.result) c.jump.new.self (search rules) (λ d. any_default c.loop-i.readers c.loop-i.i d c.index-readers-i.result (search rules)) c.jump.ensures.later inv.rest inv.done k d

pub loop-i-preserved : goal.loop-i-preserved
loop-i-preserved g c =
    let inv = c.loop-i.invariant in
    let gone : c.jump.result ≡ None = search rules in
    let none : found_by c.loop-i.state c.args.left c.jump.new.self ≡ c.jump.result = sym c.jump.ensures.longest in
    record {
      rest = rest_after IsLater unchanged c.args.readers.now c.loop-i.readers c.loop-i.i (get_or c.loop-i.readers c.loop-i.i c.index-readers-i.result) c.jump.new.self (search rules) (λ d. any_default c.loop-i.readers c.loop-i.i d c.index-readers-i.result (search rules)) c.jump.ensures.later inv.rest inv.done;
      done = done_after IsLater unchanged c.args.readers.now c.loop-i.readers c.loop-i.i (get_or c.loop-i.readers c.loop-i.i c.index-readers-i.result) c.jump.new.self (search rules) (λ d. any_default c.loop-i.readers c.loop-i.i d c.index-readers-i.result (search rules)) c.jump.ensures.later inv.rest inv.done;
      none = each_after (λ (r : ShardReader). found_by c.args.state.now c.args.left r ≡ None) c.loop-i.readers c.loop-i.i c.jump.new.self (search rules) (subst (λ s. found_by s c.args.left c.jump.new.self ≡ None) inv.state (none ∙ gone)) inv.none;
      state = subst (λ r. IsJump r c.args.left c.loop-i.state c.jump.new.state) gone c.jump.ensures.jump ∙ inv.state;
    }
