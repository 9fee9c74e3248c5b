-- The program comes as far as plain execution, landing by landing and turn by turn, and ends where it does.
use Rattle.std.proofs.Common.{Some, None, refl, sym, ap, ◌∙◌, arith}
use Rattle.asc_run.specs.Visits.{is_at}
use Rattle.asc_run.proofs.Shapes.{jump-shape, plain-shape}
use Rattle.asc_run.proofs.Landings.{asked-more, given-more, hits-more, landing-small}
use Rattle.asc_run.proofs.Walking.{walk-first, walk-jump, walk-step, walk-plain, walk-still, walk-turn, walk-end, walk-limit, room-now, Plans-more}
use Rattle.asc_run.proofs.Seeings.{SeesAll-none, SeesAll-more}
use Rattle.asc_run.proofs.visited.Visited.run.Goals as goal

pub loop-self-init : goal.loop-self-init
loop-self-init g c =
    let told = c.requires.none_told in
    let asked = ap (λ t. t.asked) told in
    let given = ap (λ t. t.given) told in
    let hits = ap (λ t. t.hits) told in
    record {
      walk = λ rule start way. walk-first c.args.limit rule c.args.pc c.args.self.now.process.count start _ _ _ _ given asked way;
      shape = refl;
      grows = omega arith;
      within = c.requires.count;
      given = omega (arith, given);
      asked = omega (arith, asked);
      hits = omega (arith, hits);
      plans = record { made = omega arith; full = omega arith; few = omega arith; refused = omega arith; queue = refl };
      seen = rw asked (SeesAll-none (g.H.Finder.aid c.args.helper.now).plan);
      visits = omega (arith, asked);
      skips = omega (arith, given);
      hit = omega (arith, hits);
      unset = λ _. refl;
      faults = refl;
    }

pub returns-then-self-limit-clause-run : goal.returns-then-self-limit-clause-run
returns-then-self-limit-clause-run g c = λ rule start way.
    walk-limit c.args.limit rule c.args.pc c.args.self.now.process.count start _ _ _ _ _ _ (c.loop-self.invariant.walk rule start way) c.if-self-limit.true

pub land-requires-clause-room : goal.land-requires-clause-room
land-requires-clause-room g c =
    let v = c.loop-self.invariant in
    let visits = v.visits in let skips = v.skips in let within = v.within in let limit = c.requires.limit in
    room-now c.loop-self.self.asked c.loop-self.self.skipped _ _ c.requires.room v.asked v.given (omega (arith, visits, within, limit)) (omega (arith, skips, within, limit)) v.plans

pub loop-self-preserved-in-Some : goal.loop-self-preserved-in-Some
loop-self-preserved-in-Some g c =
    let v = c.loop-self.invariant in let e = c.in-Some.ensures in
    let grows = v.grows in let within = v.within in let not_limit = c.if-self-limit.false in
    let count = ap (λ p. p.process.count) e.kept in
    let skipped = ap (λ p. p.skipped) e.kept in
    let same_hits = ap (λ p. p.hits) e.kept in
    let b = is_at c.args.pc c.loop-self.self.process.state in
    let small = landing-small b c.loop-self.self.process.count (Some c.in-Some.n) in
    let asked = asked-more b c.loop-self.self.process.count (Some c.in-Some.n) _ _ e.helped in
    let given = given-more b c.loop-self.self.process.count (Some c.in-Some.n) _ _ e.passed e.helped in
    let hits = hits-more b c.loop-self.self.process.count (Some c.in-Some.n) _ _ e.passed e.helped in
    let least = e.jump.least in let most = e.jump.most in
    record {
      walk = λ rule start way. walk-jump c.args.limit rule c.args.pc c.args.self.now.process.count start _ _ _ _ _ _ _ _ _ _ _ _ _ _ _ _ _ _ v.grows (omega (arith, within, not_limit)) (ap (λ p. p.process.calls) e.kept) count skipped c.in-Some.n e.jump e.passed
          (v.walk rule start way) e.number e.helped e.machine;
      shape = jump-shape (Some c.in-Some.n) _ _ _ e.jump ∙ v.shape;
      grows = omega (arith, grows, count);
      within = omega (arith, count, most, within);
      given = (let x = v.given in omega (arith, x, given, skipped));
      asked = (let x = v.asked in omega (arith, x, asked, e.number));
      hits = (let x = v.hits in omega (arith, x, hits, same_hits));
      plans = Plans-more b c.loop-self.self.process.count (Some c.in-Some.n) c.loop-self.self.asked _ _ _ _ e.helped e.number v.plans;
      seen = SeesAll-more b c.loop-self.self.process.count (Some c.in-Some.n) c.loop-self.self.asked _ _ _ _ _ _ e.machine e.seen e.helped e.number v.plans v.seen;
      visits = (let x = v.visits in omega (arith, x, e.number, small, least, count));
      skips = (let x = v.skips in omega (arith, x, skipped, count));
      hit = (let x = v.hit in omega (arith, x, same_hits, count, least));
      unset = λ none. e.unset none ∙ v.unset none;
      faults = v.faults;
    }

pub returns-in-Some-stop-clause-run : goal.returns-in-Some-stop-clause-run
returns-in-Some-stop-clause-run g c = λ rule start way.
    let v = c.loop-self.invariant in let e = c.in_default.ensures in let s = c.go_on-stopped.ensures in let t = c.in-Some-stop.ensures in
    let grows = v.grows in let within = v.within in let not_limit = c.if-self-limit.false in let count = ap (λ p. p.process.count) e.kept in let landed = c.if-self-landed.true in
    let mid = walk-still c.args.limit rule c.args.pc c.args.self.now.process.count start _ _ _ _ _ _ _ _ _ _ _ _ _ _ _ _ _ _ (ap (λ p. p.calls) s.kept) refl refl s.counter (c.if-self-landed.true ∙ sym (ap (λ p. p.process.count) e.kept)) s.goes (walk-step c.args.limit rule c.args.pc c.args.self.now.process.count start _ _ _ _ _ _ _ _ _ _ _ _ _ _ _ _ _ _ v.grows (omega (arith, within, not_limit)) (ap (λ p. p.process.calls) e.kept) (ap (λ p. p.process.count) e.kept) (ap (λ p. p.skipped) e.kept) e.jump (v.walk rule start way) e.number e.helped e.machine) in
    (walk-end c.args.limit rule c.args.pc c.args.self.now.process.count start _ _ _ _ _ _ _ _ c.in-Some-stop.ended (omega (arith, grows, count, landed)) mid (omega (arith, within, not_limit, count, landed)) t.turn t.fails t.count)

pub returns-in-Some-stop-clause-shape : goal.returns-in-Some-stop-clause-shape
returns-in-Some-stop-clause-shape g c = λ none.
    let v = c.loop-self.invariant in let e = c.in_default.ensures in let s = c.go_on-stopped.ensures in let t = c.in-Some-stop.ensures in
    (t.turn none).shape ∙ plain-shape _ _ _ s.goes ∙ jump-shape None 0 _ _ e.jump ∙ v.shape

pub returns-in-Some-stop-clause-seen : goal.returns-in-Some-stop-clause-seen
returns-in-Some-stop-clause-seen g c =
    let v = c.loop-self.invariant in let e = c.in_default.ensures in let s = c.go_on-stopped.ensures in let t = c.in-Some-stop.ensures in
    let b = is_at c.args.pc c.loop-self.self.process.state in
    SeesAll-more b c.loop-self.self.process.count None c.loop-self.self.asked _ _ _ _ _ _ e.machine e.seen e.helped e.number v.plans v.seen

pub loop-self-preserved-in_default-stop : goal.loop-self-preserved-in_default-stop
loop-self-preserved-in_default-stop g c =
    let v = c.loop-self.invariant in let e = c.in_default.ensures in let s = c.go_on-stopped.ensures in let t = c.in_default-stop.ensures in
    let turn = t.turn refl in
    let one = turn.one refl in
    let grows = v.grows in let within = v.within in let not_limit = c.if-self-limit.false in let count = ap (λ p. p.process.count) e.kept in let landed = c.if-self-landed.true in
    let same_given = ap (λ p. p.skipped) e.kept in
    let same_hits = ap (λ p. p.hits) e.kept in
    let b = is_at c.args.pc c.loop-self.self.process.state in
    let small = landing-small b c.loop-self.self.process.count None in
    let asked = asked-more b c.loop-self.self.process.count None _ _ e.helped in
    let given = given-more b c.loop-self.self.process.count None _ _ (λ _. refl) e.helped in
    let hits = hits-more b c.loop-self.self.process.count None _ _ (λ _. refl) e.helped in
    record {
      walk = λ rule start way.
          let mid = walk-still c.args.limit rule c.args.pc c.args.self.now.process.count start _ _ _ _ _ _ _ _ _ _ _ _ _ _ _ _ _ _ (ap (λ p. p.calls) s.kept) refl refl s.counter (c.if-self-landed.true ∙ sym (ap (λ p. p.process.count) e.kept)) s.goes (walk-step c.args.limit rule c.args.pc c.args.self.now.process.count start _ _ _ _ _ _ _ _ _ _ _ _ _ _ _ _ _ _ v.grows (omega (arith, within, not_limit)) (ap (λ p. p.process.calls) e.kept) (ap (λ p. p.process.count) e.kept) (ap (λ p. p.skipped) e.kept) e.jump (v.walk rule start way) e.number e.helped e.machine) in
          (walk-turn c.args.limit rule c.args.pc c.args.self.now.process.count start _ _ _ _ _ _ _ _ _ mid turn (omega (arith, one)));
      shape = turn.shape ∙ plain-shape _ _ _ s.goes ∙ jump-shape None 0 _ _ e.jump ∙ v.shape;
      grows = omega (arith, grows, one, count, landed);
      within = omega (arith, within, not_limit, one, count, landed);
      given = (let x = v.given in omega (arith, x, given, same_given));
      asked = (let x = v.asked in omega (arith, x, asked, e.number));
      hits = (let x = v.hits in omega (arith, x, hits, same_hits));
      plans = Plans-more b c.loop-self.self.process.count None c.loop-self.self.asked _ _ _ _ e.helped e.number v.plans;
      seen = SeesAll-more b c.loop-self.self.process.count None c.loop-self.self.asked _ _ _ _ _ _ e.machine e.seen e.helped e.number v.plans v.seen;
      visits = (let x = v.visits in omega (arith, x, e.number, small, one, count, landed));
      skips = (let x = v.skips in omega (arith, x, same_given, one, count, landed));
      hit = (let x = v.hit in omega (arith, x, same_hits, one, count, landed));
      unset = λ none. e.unset none ∙ v.unset none;
      faults = t.faults ∙ v.faults;
    }

pub loop-self-preserved : goal.loop-self-preserved
loop-self-preserved g c =
    let v = c.loop-self.invariant in let e = c.in_default.ensures in let s = c.go_on-stopped.ensures in
    let grows = v.grows in let within = v.within in let more = s.grows in let most = s.most in let not_limit = c.if-self-limit.false in let moved = c.if-self-landed.false in
    let count = ap (λ p. p.process.count) e.kept in
    let same_given = ap (λ p. p.skipped) e.kept in
    let same_hits = ap (λ p. p.hits) e.kept in
    let b = is_at c.args.pc c.loop-self.self.process.state in
    let small = landing-small b c.loop-self.self.process.count None in
    let asked = asked-more b c.loop-self.self.process.count None _ _ e.helped in
    let given = given-more b c.loop-self.self.process.count None _ _ (λ _. refl) e.helped in
    let hits = hits-more b c.loop-self.self.process.count None _ _ (λ _. refl) e.helped in
    record {
      walk = λ rule start way. walk-plain c.args.limit rule c.args.pc c.args.self.now.process.count start _ _ _ _ _ _ _ _ _ _ _ _ _ _ _ _ _ _ (omega (arith, grows, count)) (omega (arith, within, count, most)) (ap (λ p. p.calls) s.kept) refl refl s.counter (omega (arith, more, moved)) s.goes s.passes
          (walk-step c.args.limit rule c.args.pc c.args.self.now.process.count start _ _ _ _ _ _ _ _ _ _ _ _ _ _ _ _ _ _ v.grows (omega (arith, within, not_limit)) (ap (λ p. p.process.calls) e.kept) (ap (λ p. p.process.count) e.kept) (ap (λ p. p.skipped) e.kept) e.jump (v.walk rule start way) e.number e.helped e.machine);
      shape = plain-shape _ _ _ s.goes ∙ jump-shape None 0 _ _ e.jump ∙ v.shape;
      grows = omega (arith, grows, count, more);
      within = omega (arith, within, count, most);
      given = (let x = v.given in omega (arith, x, given, same_given));
      asked = (let x = v.asked in omega (arith, x, asked, e.number));
      hits = (let x = v.hits in omega (arith, x, hits, same_hits));
      plans = Plans-more b c.loop-self.self.process.count None c.loop-self.self.asked _ _ _ _ e.helped e.number v.plans;
      seen = SeesAll-more b c.loop-self.self.process.count None c.loop-self.self.asked _ _ _ _ _ _ e.machine e.seen e.helped e.number v.plans v.seen;
      visits = (let x = v.visits in omega (arith, x, e.number, small, count, more, moved));
      skips = (let x = v.skips in omega (arith, x, same_given, count, more));
      hit = (let x = v.hit in omega (arith, x, same_hits, count, more));
      unset = λ none. e.unset none ∙ v.unset none;
      faults = v.faults;
    }
