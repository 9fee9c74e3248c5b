-- One count more is noted, and the program comes one step or call further.
use Rattle.std.proofs.Common.{refl, ap, ◌∙◌, arith, length}
use Rattle.asc_run.proofs.Profiled.{numbered-none}
use Rattle.asc_inspect.proofs.Profiling.{few-more, left-way, list-long, list-numbered, watched-end, watched-first, watched-limit, watched-turn}
use Rattle.asc_inspect.proofs.profile.run.Goals as goal

pub loop-process-init : goal.loop-process-init
loop-process-init g c =
    let start = c.requires.start in
    record {
      way = watched-first _ _ _ _ _ _ c.args.process.now.count start c.requires.unmet c.requires.none_listed refl;
      within = omega (arith, start.none);
      base = refl;
      profile = refl;
      words = refl;
      few = λ k below. omega (arith, ap (λ m. m.times) (c.requires.unmet k below));
      long = omega (arith, start.none, ap length c.requires.none_listed);
      numbered = numbered-none _ c.requires.none_listed;
      room = c.requires.room;
      faults = refl;
    }

pub loop-process-preserved : goal.loop-process-preserved
loop-process-preserved g c =
    let v = c.loop-process.invariant in let e = c.note.ensures in let t = c.in_default.ensures in
    let turn = t.turn refl in let one = turn.one refl in let below = c.loop-process-test.true in
    let left = left-way _ _ _ _ _ _ _ _ _ _ _ _ _ v.base v.profile c.pc-pc.ensures e.words e.table e.list v.way in
    record {
      way = watched-turn _ _ _ _ _ _ _ _ left _ _ _ _ turn c.pc.ensures refl;
      within = omega (arith, one, below);
      base = ap (λ x. x.base) e.kept ∙ v.base;
      profile = ap (λ x. x.profile) e.kept ∙ v.profile;
      words = e.words ∙ v.words;
      few = few-more _ _ _ _ _ _ _ one e.words e.table v.few;
      long = list-long _ _ _ _ _ _ _ v.profile one e.list v.long;
      numbered = list-numbered _ _ _ _ _ _ v.profile e.list v.long v.numbered;
      room = (let x = v.room in omega (arith, x, e.room));
      faults = t.faults ∙ v.faults;
    }

pub returns-in-Some-clause-goes : goal.returns-in-Some-clause-goes
returns-in-Some-clause-goes g c =
    let v = c.loop-process.invariant in let e = c.note.ensures in let t = c.in-Some.ensures in
    let left = left-way _ _ _ _ _ _ _ _ _ _ _ _ _ v.base v.profile c.pc-pc.ensures e.words e.table e.list v.way in
    watched-end _ _ _ _ _ _ _ _ _ _ _ c.in-Some.ended left c.loop-process-test.true t.turn t.fails t.count

pub returns-clause-goes : goal.returns-clause-goes
returns-clause-goes g c =
    let v = c.loop-process.invariant in let within = v.within in let past = c.loop-process-test.false in
    watched-limit _ _ _ _ _ _ _ _ _ v.way (omega (arith, within, past))
