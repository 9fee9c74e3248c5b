-- One that is offered settles it, and else one more is not.
use Rattle.std.proofs.Common.{◌≡◌, ◌+◌, ◌-◌, Bool, true, false, [], ◌∷◌, ◌||◌, not, get_or, refl, sym, ap, ◌∙◌, subst, arith}
use Rattle.std.specs.List.{list_any, range_with_len}
use Rattle.std.proofs.lemmas.List.Folds.{list_any-append, list_any_at}
use Rattle.std.proofs.lemmas.List.FromFn.{length-range_with_len, get_or-range_with_len}
use Rattle.asc_live.specs.Due.{is_for_workers}
use Rattle.asc_live.proofs.Tasks.{range-more}
use Rattle.asc_live.proofs.share.Share.offers_none.Goals as goal

offered-then : (filled shared : Bool) → filled ≡ true → not filled || shared ≡ shared
offered-then true shared e = refl
offered-then false shared e = absurd (cc)

-- neither of two
neither : (a b : Bool) → a ≡ false → b ≡ false → (a || (b || false)) ≡ false
neither false false p q = refl
neither true b p q = absurd (cc)
neither false true p q = absurd (cc)

pub loop-target-init : goal.loop-target-init
loop-target-init c = let none : c.args.start - c.args.start ≡ 0 = omega arith in rw none refl

pub loop-target-preserved : goal.loop-target-preserved
loop-target-preserved c =
    let p = is_for_workers c.args.self.workers in
    let start = c.args.start in let target = c.loop-target.target in
    let a = c.loop-target.auto in
    let n = target - start in
    let one : target + 1 - start ≡ n + 1 = omega (arith, a.target) in
    let here : p target ≡ false = sym (c.offers.ensures ∙ offered-then c.args.self.filled (p target) c.requires.filled) ∙ c.if-offers.false in
    ap (λ k. list_any p (range_with_len start k)) one
    ∙ ap (list_any p) (range-more start n target (omega (arith, a.target)))
    ∙ list_any-append p (range_with_len start n) (target ∷ [])
    ∙ neither _ _ c.loop-target.invariant here

pub returns-then-offers : goal.returns-then-offers
returns-then-offers c =
    let p = is_for_workers c.args.self.workers in
    let start = c.args.start in let end = c.args.end in let target = c.loop-target.target in
    let a = c.loop-target.auto in
    let here : p target ≡ true = sym (c.offers.ensures ∙ offered-then c.args.self.filled (p target) c.requires.filled) ∙ c.if-offers.true in
    let at : get_or (range_with_len start (end - start)) (target - start) 0 ≡ target = get_or-range_with_len start (end - start) (target - start) 0 (omega (arith, c.loop-target-test.true, a.target)) ∙ (let e : start + (target - start) ≡ target = omega (arith, a.target) in e) in
    sym (ap not (list_any_at p (range_with_len start (end - start)) (target - start) 0 (omega (arith, length-range_with_len start (end - start), c.loop-target-test.true, a.target)) (ap p at ∙ here)))

pub returns : goal.returns
returns c =
    let a = c.loop-target.auto in
    let end : c.loop-target.target ≡ c.args.end = omega (arith, c.loop-target-test.false, a.target-end c.requires.rises) in
    sym (ap not (subst (λ t. list_any (is_for_workers c.args.self.workers) (range_with_len c.args.start (t - c.args.start)) ≡ false) end c.loop-target.invariant))
