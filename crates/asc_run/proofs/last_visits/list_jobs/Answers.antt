-- One target more is one job more for each kind that is on.
use Rattle.std.proofs.Common.{◌≡◌, ◌≤◌, ◌+◌, ◌-◌, ◌++◌, ap, ◌∙◌, arith, vec_len, vec_capacity}
use Rattle.asc_guess.specs.declared.kind.Kind.TheVariants.{Last, Stride}
use Rattle.asc_run.proofs.Jobs.{jobs-more, one_if, pushed-on, pushed-off}
use Rattle.asc_run.proofs.last_visits.list_jobs.Goals as goal
use Rattle.asc_run.proofs.last_visits.list_jobs.Goals.{then-guessing, else-guessing, then-guessing-2, else-guessing-2}

pub loop-target-preserved : goal.loop-target-preserved
loop-target-preserved c = record {
  items =
      let ys : c.if-guessing.jobs.items ≡ c.loop-target.jobs.items ++ one_if c.args.guessing.now.last (Last, c.loop-target.target - c.args.number) =
      elim c.if-guessing.branch [
        | then-guessing w ↦ pushed-on _ _ _ _ w.if-guessing.true (ap (λ v. v.items) w.jobs-is ∙ w.push_reserved.ensures.items)
        | else-guessing w ↦ pushed-off _ _ _ _ w.if-guessing.false (ap (λ v. v.items) w.jobs-is)
      ] in
      let zs : c.if-guessing-2.jobs.items ≡ c.if-guessing.jobs.items ++ one_if c.args.guessing.now.stride (Stride, c.loop-target.target - c.args.number) =
      elim c.if-guessing-2.branch [
        | then-guessing-2 w ↦ pushed-on _ _ _ _ w.if-guessing-2.true (ap (λ v. v.items) w.jobs-is ∙ w.push_reserved-then-guessing-2.ensures.items)
        | else-guessing-2 w ↦ pushed-off _ _ _ _ w.if-guessing-2.false (ap (λ v. v.items) w.jobs-is)
      ] in
      jobs-more c.args.guessing.now c.args.number c.args.start c.loop-target.target _ _ _ c.loop-target.auto.target c.loop-target.invariant.items ys zs;
  few =
      let f : vec_len c.if-guessing.jobs ≤ vec_len c.loop-target.jobs + 1 = elim c.if-guessing.branch [
        | then-guessing w ↦ let e = ap vec_len w.jobs-is ∙ w.push_reserved.ensures.len in omega (arith, e)
        | else-guessing w ↦ let e = ap vec_len w.jobs-is in omega (arith, e)
      ] in
      let g : vec_len c.if-guessing-2.jobs ≤ vec_len c.if-guessing.jobs + 1 = elim c.if-guessing-2.branch [
        | then-guessing-2 w ↦ let e = ap vec_len w.jobs-is ∙ w.push_reserved-then-guessing-2.ensures.len in omega (arith, e)
        | else-guessing-2 w ↦ let e = ap vec_len w.jobs-is in omega (arith, e)
      ] in
      let h = c.loop-target.invariant.few in
      let k = c.loop-target.auto.target in
      omega (arith, f, g, h, k);
  room =
      let f : vec_capacity c.if-guessing.jobs ≡ vec_capacity c.loop-target.jobs = elim c.if-guessing.branch [
        | then-guessing w ↦ ap vec_capacity w.jobs-is ∙ w.push_reserved.ensures.capacity
        | else-guessing w ↦ ap vec_capacity w.jobs-is
      ] in
      let g : vec_capacity c.if-guessing-2.jobs ≡ vec_capacity c.if-guessing.jobs = elim c.if-guessing-2.branch [
        | then-guessing-2 w ↦ ap vec_capacity w.jobs-is ∙ w.push_reserved-then-guessing-2.ensures.capacity
        | else-guessing-2 w ↦ ap vec_capacity w.jobs-is
      ] in
      g ∙ f ∙ c.loop-target.invariant.room;
}
