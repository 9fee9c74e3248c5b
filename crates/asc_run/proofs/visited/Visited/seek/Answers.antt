-- The program comes as far as plain execution, landing by landing and turn by turn, and its search goes along.
use Rattle.std.proofs.Common.{Some, None, refl, sym, ap, ◌∙◌, arith, ◌+◌}
use Rattle.asc_seek.specs.Seek.{reply_steps}
use Rattle.asc_run.specs.Visits.{is_at}
use Rattle.asc_run.proofs.Shapes.{jump-shape, plain-shape}
use Rattle.asc_run.proofs.Landings.{asked-more, given-more, hits-more, landing-small}
use Rattle.asc_run.proofs.Walking.{Plans-more}
use Rattle.asc_run.proofs.Seeings.{SeesAll-none, SeesAll-more}
use Rattle.asc_run.proofs.Seeking.{IsEarly-later, IsEarly-learnt, IsEarly-new, MayGo-learnt, behind-first, learnt-is, learnt-seeking, visit-told}
use Rattle.asc_run.proofs.SeekingWalk.{seeks-end, seeks-first, seeks-jump, seeks-limit, seeks-plain, seeks-step, seeks-still, seeks-turn}
use Rattle.asc_run.proofs.visited.Visited.seek.Goals as goal

pub loop-limit-init : goal.loop-limit-init
loop-limit-init g c =
    let told = c.requires.none_told in
    let asked = ap (λ t. t.asked) told in
    let given = ap (λ t. t.given) told in
    let hits = ap (λ t. t.hits) told in
    let none = c.requires.start.none in
    record {
      walk = seeks-first c.args.limit c.args.seeker.now.seeking _ _ _ _ c.args.seeker.now _ c.requires.start given asked c.requires.new;
      behind = behind-first c.args.self.now.process.count c.args.seeker.now c.requires.new;
      early = IsEarly-new c.args.self.now.process.count c.args.seeker.now c.requires.new;
      seeking = refl;
      shape = refl;
      within = omega (arith, none);
      given = omega (arith, given);
      asked = omega (arith, asked);
      hits = omega (arith, hits);
      plans = record { made = omega arith; full = omega arith; few = omega arith; refused = omega arith; queue = refl };
      seen = rw asked (SeesAll-none (g.H.Finder.aid c.args.helper.now).plan);
      visits = omega (arith, asked);
      skips = omega (arith, given);
      hit = omega (arith, hits);
      faults = refl;
    }

pub returns-then-at-limit-clause-run : goal.returns-then-at-limit-clause-run
returns-then-at-limit-clause-run g c = seeks-limit c.args.limit c.args.seeker.now.seeking _ _ _ _ _ c.loop-limit.seeker _ _ c.loop-limit.invariant.walk c.if-at-limit.true

pub loop-limit-preserved-in-Some : goal.loop-limit-preserved-in-Some
loop-limit-preserved-in-Some g c =
    let v = c.loop-limit.invariant in let e = c.in-Some.ensures in let l = c.learn-most.ensures in let u = c.advance.ensures in
    let n = c.in-Some.n in
    let at = c.loop-limit.self.process.count in
    let within = v.within in let not_limit = c.if-at-limit.false in
    let count = ap (λ p. p.process.count) e.kept in
    let skipped = ap (λ p. p.skipped) e.kept in
    let same_hits = ap (λ p. p.hits) e.kept in
    let b = is_at c.watched-pc.result c.loop-limit.self.process.state in
    let small = landing-small b at (Some n) in
    let asked = asked-more b at (Some n) _ _ e.helped in
    let given = given-more b at (Some n) _ _ e.passed e.helped in
    let hits = hits-more b at (Some n) _ _ e.passed e.helped in
    let least = e.jump.least in let most = e.jump.most in
    let is = visit-told b at (Some n) _ _ e.number in
    record {
      walk = seeks-jump c.args.limit c.args.seeker.now.seeking _ _ _ _ _ _ _ _ _ _ _ _ _ _ _ _ c.loop-limit.seeker c.advance.new.self c.learn-most.new.seeker c.watched-pc.result _ _ _ (ap (λ p. p.process.calls) e.kept) count skipped u.seek u.going c.watched-pc.ensures (omega (arith, within, not_limit)) n
          (learnt-is _ b at _ (Some n) _ _ l.seek is c.in-Some.is) e.jump e.passed v.walk e.number e.helped e.machine;
      behind = (let told = ap reply_steps c.in-Some.is in l.behind _ (omega (arith, count, least, told)));
      early = IsEarly-later (c.land-reply.new.self.process.count + 1) _ c.learn-most.new.seeker (omega arith) (IsEarly-learnt _ at c.land-reply.new.self.process.count _ c.loop-limit.seeker c.advance.new.self c.learn-most.new.seeker u.seek l.seek count v.early);
      seeking = learnt-seeking _ at _ c.loop-limit.seeker c.advance.new.self c.learn-most.new.seeker u.seek l.seek ∙ v.seeking;
      shape = jump-shape (Some n) _ _ _ e.jump ∙ v.shape;
      within = omega (arith, count, most, within);
      given = (let x = v.given in omega (arith, x, given, skipped));
      asked = (let x = v.asked in omega (arith, x, asked, e.number));
      hits = (let x = v.hits in omega (arith, x, hits, same_hits));
      plans = Plans-more b at (Some n) c.loop-limit.self.asked _ _ _ _ e.helped e.number v.plans;
      seen = SeesAll-more b at (Some n) c.loop-limit.self.asked _ _ _ _ _ _ e.machine e.seen e.helped e.number v.plans v.seen;
      visits = (let x = v.visits in omega (arith, x, e.number, small, least, count));
      skips = (let x = v.skips in omega (arith, x, skipped, count));
      hit = (let x = v.hit in omega (arith, x, same_hits, count, least));
      faults = v.faults;
    }

pub go_noting-stopped-requires-clause-earlier : goal.go_noting-stopped-requires-clause-earlier
go_noting-stopped-requires-clause-earlier g c =
    let v = c.loop-limit.invariant in let e = c.in_default.ensures in
    IsEarly-learnt _ c.loop-limit.self.process.count c.land-reply.new.self.process.count _ c.loop-limit.seeker c.advance.new.self c.learn-most.new.seeker c.advance.ensures.seek c.learn-most.ensures.seek (ap (λ p. p.process.count) e.kept) v.early

pub returns-in-Some-stop_noting-clause-run : goal.returns-in-Some-stop_noting-clause-run
returns-in-Some-stop_noting-clause-run g c =
    let v = c.loop-limit.invariant in let e = c.in_default.ensures in let l = c.learn-most.ensures in let u = c.advance.ensures in let p = c.go_noting-stopped.ensures in let t = c.in-Some-stop_noting.ensures in
    let at = c.loop-limit.self.process.count in
    let within = v.within in let not_limit = c.if-at-limit.false in let count = ap (λ p. p.process.count) e.kept in let still = c.if-self-at.true in
    let b = is_at c.watched-pc.result c.loop-limit.self.process.state in
    let is = visit-told b at None _ _ e.number in
    let may = MayGo-learnt _ b at c.land-reply.new.self.process.count c.learn-most.result _ c.watched-pc.result c.advance.new.self c.learn-most.new.seeker l.seek is count l.some l.visit l.phase u.behind c.watched-pc.ensures in
    let step = seeks-step c.args.limit c.args.seeker.now.seeking _ _ _ _ _ _ _ _ _ _ _ _ _ _ _ _ c.loop-limit.seeker c.advance.new.self c.learn-most.new.seeker c.watched-pc.result _ _ _ (ap (λ p. p.process.calls) e.kept) count (ap (λ p. p.skipped) e.kept) u.seek u.going c.watched-pc.ensures (omega (arith, within, not_limit))
    (learnt-is _ b at _ None _ _ l.seek is c.in_default.is) e.jump v.walk e.number e.helped e.machine in
    let mid = seeks-still c.args.limit c.args.seeker.now.seeking _ b _ _ _ _ _ _ _ _ _ _ _ _ _ _ c.learn-most.result c.learn-most.new.seeker c.go_noting-stopped.new.seeker c.watched-pc.result _ _ may (ap (λ p. p.calls) p.kept) p.counter p.goes p.noted p.other (still ∙ sym count) step in
    seeks-end c.args.limit c.args.seeker.now.seeking _ b _ _ _ _ _ _ c.go_noting-stopped.new.seeker _ _ c.in-Some-stop_noting.ended mid.0 (omega (arith, within, not_limit, still)) t.turn t.fails t.count

pub returns-in-Some-stop_noting-clause-shape : goal.returns-in-Some-stop_noting-clause-shape
returns-in-Some-stop_noting-clause-shape g c = λ none.
    let v = c.loop-limit.invariant in let e = c.in_default.ensures in let p = c.go_noting-stopped.ensures in let t = c.in-Some-stop_noting.ensures in
    (t.turn none).shape ∙ plain-shape _ _ _ p.goes ∙ jump-shape None 0 _ _ e.jump ∙ v.shape

pub returns-in-Some-stop_noting-clause-seen : goal.returns-in-Some-stop_noting-clause-seen
returns-in-Some-stop_noting-clause-seen g c =
    let v = c.loop-limit.invariant in let e = c.in_default.ensures in
    SeesAll-more (is_at c.watched-pc.result c.loop-limit.self.process.state) c.loop-limit.self.process.count None c.loop-limit.self.asked _ _ _ _ _ _ e.machine e.seen e.helped e.number v.plans v.seen

pub returns-in-Some-stop_noting-clause-seeking : goal.returns-in-Some-stop_noting-clause-seeking
returns-in-Some-stop_noting-clause-seeking g c =
    c.in-Some-stop_noting.ensures.seeking ∙ c.go_noting-stopped.ensures.seeking
    ∙ learnt-seeking _ c.loop-limit.self.process.count _ c.loop-limit.seeker c.advance.new.self c.learn-most.new.seeker c.advance.ensures.seek c.learn-most.ensures.seek ∙ c.loop-limit.invariant.seeking

pub loop-limit-preserved-in_default-stop_noting : goal.loop-limit-preserved-in_default-stop_noting
loop-limit-preserved-in_default-stop_noting g c =
    let v = c.loop-limit.invariant in let e = c.in_default.ensures in let l = c.learn-most.ensures in let u = c.advance.ensures in let p = c.go_noting-stopped.ensures in let t = c.in_default-stop_noting.ensures in
    let at = c.loop-limit.self.process.count in
    let turn = t.turn refl in
    let one = turn.one refl in
    let within = v.within in let not_limit = c.if-at-limit.false in let count = ap (λ p. p.process.count) e.kept in let still = c.if-self-at.true in
    let same_given = ap (λ p. p.skipped) e.kept in
    let same_hits = ap (λ p. p.hits) e.kept in
    let b = is_at c.watched-pc.result c.loop-limit.self.process.state in
    let is = visit-told b at None _ _ e.number in
    let small = landing-small b at None in
    let asked = asked-more b at None _ _ e.helped in
    let given = given-more b at None _ _ (λ _. refl) e.helped in
    let hits = hits-more b at None _ _ (λ _. refl) e.helped in
    record {
      walk =
          let may = MayGo-learnt _ b at c.land-reply.new.self.process.count c.learn-most.result _ c.watched-pc.result c.advance.new.self c.learn-most.new.seeker l.seek is count l.some l.visit l.phase u.behind c.watched-pc.ensures in
          let step = seeks-step c.args.limit c.args.seeker.now.seeking _ _ _ _ _ _ _ _ _ _ _ _ _ _ _ _ c.loop-limit.seeker c.advance.new.self c.learn-most.new.seeker c.watched-pc.result _ _ _ (ap (λ p. p.process.calls) e.kept) count same_given u.seek u.going c.watched-pc.ensures (omega (arith, within, not_limit))
          (learnt-is _ b at _ None _ _ l.seek is c.in_default.is) e.jump v.walk e.number e.helped e.machine in
          let mid = seeks-still c.args.limit c.args.seeker.now.seeking _ b _ _ _ _ _ _ _ _ _ _ _ _ _ _ c.learn-most.result c.learn-most.new.seeker c.go_noting-stopped.new.seeker c.watched-pc.result _ _ may (ap (λ p. p.calls) p.kept) p.counter p.goes p.noted p.other (still ∙ sym count) step in
          seeks-turn c.args.limit c.args.seeker.now.seeking _ b _ _ _ _ _ _ c.learn-most.result c.go_noting-stopped.new.seeker c.stop_noting.new.seeker c.watched-pc.result _ _ mid.1 mid.0 turn (t.noted refl) t.other;
      behind = (let told = ap reply_steps c.in_default.is in t.behind _ (p.behind _ (l.behind _ (omega (arith, one, still, told)))));
      early = t.earlier refl;
      seeking = t.seeking ∙ p.seeking ∙ learnt-seeking _ at _ c.loop-limit.seeker c.advance.new.self c.learn-most.new.seeker u.seek l.seek ∙ v.seeking;
      shape = turn.shape ∙ plain-shape _ _ _ p.goes ∙ jump-shape None 0 _ _ e.jump ∙ v.shape;
      within = omega (arith, within, not_limit, one, still);
      given = (let x = v.given in omega (arith, x, given, same_given));
      asked = (let x = v.asked in omega (arith, x, asked, e.number));
      hits = (let x = v.hits in omega (arith, x, hits, same_hits));
      plans = Plans-more b at None c.loop-limit.self.asked _ _ _ _ e.helped e.number v.plans;
      seen = SeesAll-more b at None c.loop-limit.self.asked _ _ _ _ _ _ e.machine e.seen e.helped e.number v.plans v.seen;
      visits = (let x = v.visits in omega (arith, x, e.number, small, one, still));
      skips = (let x = v.skips in omega (arith, x, same_given, one, still));
      hit = (let x = v.hit in omega (arith, x, same_hits, one, still));
      faults = t.faults ∙ v.faults;
    }

pub loop-limit-preserved : goal.loop-limit-preserved
loop-limit-preserved g c =
    let v = c.loop-limit.invariant in let e = c.in_default.ensures in let l = c.learn-most.ensures in let u = c.advance.ensures in let p = c.go_noting-stopped.ensures in
    let at = c.loop-limit.self.process.count in
    let within = v.within in let more = p.grows in let most = p.most in let fits = l.limit in let not_limit = c.if-at-limit.false in let moved = c.if-self-at.false in
    let count = ap (λ p. p.process.count) e.kept in
    let same_given = ap (λ p. p.skipped) e.kept in
    let same_hits = ap (λ p. p.hits) e.kept in
    let b = is_at c.watched-pc.result c.loop-limit.self.process.state in
    let is = visit-told b at None _ _ e.number in
    let small = landing-small b at None in
    let asked = asked-more b at None _ _ e.helped in
    let given = given-more b at None _ _ (λ _. refl) e.helped in
    let hits = hits-more b at None _ _ (λ _. refl) e.helped in
    record {
      walk =
          let may = MayGo-learnt _ b at c.land-reply.new.self.process.count c.learn-most.result _ c.watched-pc.result c.advance.new.self c.learn-most.new.seeker l.seek is count l.some l.visit l.phase u.behind c.watched-pc.ensures in
          let step = seeks-step c.args.limit c.args.seeker.now.seeking _ _ _ _ _ _ _ _ _ _ _ _ _ _ _ _ c.loop-limit.seeker c.advance.new.self c.learn-most.new.seeker c.watched-pc.result _ _ _ (ap (λ p. p.process.calls) e.kept) count same_given u.seek u.going c.watched-pc.ensures (omega (arith, within, not_limit))
          (learnt-is _ b at _ None _ _ l.seek is c.in_default.is) e.jump v.walk e.number e.helped e.machine in
          seeks-plain c.args.limit c.args.seeker.now.seeking _ b _ _ _ _ _ _ _ _ _ _ _ _ _ _ c.learn-most.result c.learn-most.new.seeker c.go_noting-stopped.new.seeker c.watched-pc.result _ _ may (ap (λ p. p.calls) p.kept) p.counter p.goes p.noted p.other (omega (arith, more, moved, count)) most p.passes step;
      behind = (let told = ap reply_steps c.in_default.is in p.behind _ (l.behind _ (omega (arith, more, moved, count, told))));
      early = p.earlier;
      seeking = p.seeking ∙ learnt-seeking _ at _ c.loop-limit.seeker c.advance.new.self c.learn-most.new.seeker u.seek l.seek ∙ v.seeking;
      shape = plain-shape _ _ _ p.goes ∙ jump-shape None 0 _ _ e.jump ∙ v.shape;
      within = omega (arith, within, count, most, fits);
      given = (let x = v.given in omega (arith, x, given, same_given));
      asked = (let x = v.asked in omega (arith, x, asked, e.number));
      hits = (let x = v.hits in omega (arith, x, hits, same_hits));
      plans = Plans-more b at None c.loop-limit.self.asked _ _ _ _ e.helped e.number v.plans;
      seen = SeesAll-more b at None c.loop-limit.self.asked _ _ _ _ _ _ e.machine e.seen e.helped e.number v.plans v.seen;
      visits = (let x = v.visits in omega (arith, x, e.number, small, count, more, moved));
      skips = (let x = v.skips in omega (arith, x, same_given, count, more));
      hit = (let x = v.hit in omega (arith, x, same_hits, count, more));
      faults = v.faults;
    }
