-- One address more is noted, and the program comes one step or call further.
use Rattle.std.proofs.Common.{◌+◌, length, refl, ap, ◌∙◌, arith}
use Rattle.asc_run.proofs.Reach.{Reaches-turn}
use Rattle.asc_run.proofs.Shapes.{plain-shape}
use Rattle.asc_run.proofs.Profiled.{noted-none, noted-plain, noted-counts, numbered-none, numbered-more, long-more, ends-early}
use Rattle.asc_run.proofs.process.Process.note.Goals as goal

pub loop-self-init : goal.loop-self-init
loop-self-init g c =
    let start = c.requires.start in
    record {
      way = noted-none _ c.args.self.now.count _ c.requires.none_noted start.going start.brk start.none;
      within = omega (arith, start.none);
      long = omega (arith, start.none, ap length c.requires.none_noted);
      numbered = numbered-none _ c.requires.none_noted;
      capacity = c.requires.room;
      kept = refl;
      faults = refl;
    }

pub returns-in-Some-clause-ended : goal.returns-in-Some-clause-ended
returns-in-Some-clause-ended g c = λ limit profile least a within_limit within_profile.
    let v = c.loop-self.invariant in let s = c.go_on-stopped.ensures in let t = c.in-Some.ensures in
    let below = c.loop-self-test.true in let here = c.if-self-noted.true in
    ends-early limit profile least _ _ _ _ c.go_on-stopped.new.self.count _ c.in-Some.ended a (omega (arith, within_limit, below, here)) (omega (arith, within_profile, below, here))
    (noted-plain c.loop-self.notes.items _ c.pc.result _ _ _ _ _ _ _ _ _ _ _ _ _ _ c.loop-self.self.count c.go_on-stopped.new.self.count c.push_reserved.ensures.items c.pc.ensures (ap (λ p. p.calls) s.kept) s.counter s.grows s.goes v.way) t.turn t.fails t.count

pub returns-in-Some-clause-shape : goal.returns-in-Some-clause-shape
returns-in-Some-clause-shape g c = λ none.
    (c.in-Some.ensures.turn none).shape ∙ plain-shape _ _ _ c.go_on-stopped.ensures.goes ∙ c.loop-self.invariant.way.shape

pub loop-self-preserved-in_default : goal.loop-self-preserved-in_default
loop-self-preserved-in_default g c =
    let v = c.loop-self.invariant in let s = c.go_on-stopped.ensures in let t = c.in_default.ensures in
    let turn = t.turn refl in let one = turn.one refl in
    let below = c.loop-self-test.true in let here = c.if-self-noted.true in
    record {
      way = noted-counts _ _ _ _ _ _ (c.loop-self.self.count + 1) c.stop.new.self.count (omega (arith, one, here))
          (Reaches-turn _ _ _ _ _ _ _ _ _ _ (noted-plain c.loop-self.notes.items _ c.pc.result _ _ _ _ _ _ _ _ _ _ _ _ _ _ c.loop-self.self.count c.go_on-stopped.new.self.count c.push_reserved.ensures.items c.pc.ensures (ap (λ p. p.calls) s.kept) s.counter s.grows s.goes v.way) turn);
      within = omega (arith, one, here, below);
      long = long-more c.loop-self.notes.items _ (c.pc.result, c.loop-self.self.count) _ _ c.push_reserved.ensures.items v.long (omega (arith, one, here));
      numbered = numbered-more c.loop-self.notes.items _ c.pc.result c.loop-self.self.count c.push_reserved.ensures.items v.long v.numbered;
      capacity = (let x = v.capacity in omega (arith, x, c.push_reserved.ensures.capacity));
      kept = c.push_reserved.ensures.capacity ∙ v.kept;
      faults = t.faults ∙ v.faults;
    }

pub loop-self-preserved : goal.loop-self-preserved
loop-self-preserved g c =
    let v = c.loop-self.invariant in let s = c.go_on-stopped.ensures in
    let below = c.loop-self-test.true in let moved = c.if-self-noted.false in let grows = s.grows in let most = s.most in
    record {
      way = noted-counts _ _ _ _ _ _ (c.loop-self.self.count + 1) c.go_on-stopped.new.self.count (omega (arith, grows, most, moved)) (noted-plain c.loop-self.notes.items _ c.pc.result _ _ _ _ _ _ _ _ _ _ _ _ _ _ c.loop-self.self.count c.go_on-stopped.new.self.count c.push_reserved.ensures.items c.pc.ensures (ap (λ p. p.calls) s.kept) s.counter s.grows s.goes v.way);
      within = omega (arith, most, below);
      long = long-more c.loop-self.notes.items _ (c.pc.result, c.loop-self.self.count) _ _ c.push_reserved.ensures.items v.long (omega (arith, grows, most, moved));
      numbered = numbered-more c.loop-self.notes.items _ c.pc.result c.loop-self.self.count c.push_reserved.ensures.items v.long v.numbered;
      capacity = (let x = v.capacity in omega (arith, x, c.push_reserved.ensures.capacity));
      kept = c.push_reserved.ensures.capacity ∙ v.kept;
      faults = v.faults;
    }
