use Rattle.std.proofs.Common.{◌<◌, ◌/◌, ◌∙◌, ap, inl, inr, true, false, length, slice_index, slice_index_or, slice_set, arith}
use Rattle.std.proofs.lemmas.Bool.{cases_eq}
use Rattle.std.proofs.lemmas.List.{length-set, get_or-set_same, get_or-set_other}
use Rattle.asc_pages.proofs.Counts.{all_same, one_less, one_less_group}
use Rattle.asc_pages.proofs.dirty.clean_listed.Goals as goal

pub loop-p-preserved : goal.loop-p-preserved
loop-p-preserved c =
    let so = c.loop-p.invariant in
    let dirty = c.requires.dirty in
    let k = c.loop-p.p-index in
    let p = slice_index c.args.listed.now k in
    let known : p < length c.args.pages.now = dirty.within c.if-all.false k c.loop-p-test.true in
    record {
      pages = length-set c.loop-p.pages p false ∙ so.pages;
      groups = length-set c.loop-p.groups (p / 32) 0 ∙ so.groups;
      page = λ q inside other. elim (cases_eq q p) [
        | inl here ↦ ap (λ j. slice_index_or (slice_set c.loop-p.pages p false) j true) here ∙ get_or-set_same c.loop-p.pages p false true (omega (arith, known, so.pages))
        | inr apart ↦ get_or-set_other c.loop-p.pages p q false true apart ∙ so.page q inside (one_less c.args.listed.now k q apart other)
      ];
      group = λ h other. elim (cases_eq h (p / 32)) [
        | inl here ↦ ap (λ j. slice_index (slice_set c.loop-p.groups (p / 32) 0) j) here
            ∙ get_or-set_same c.loop-p.groups (p / 32) 0 0 (omega (arith, known, so.groups, dirty.least))
        | inr apart ↦ get_or-set_other c.loop-p.groups (p / 32) h 0 0 apart ∙ so.group h (one_less_group c.args.listed.now k h apart other)
      ];
    }

pub returns-clause-pages : goal.returns-clause-pages
returns-clause-pages c =
    let done = c.loop-p.invariant in
    all_same c.loop-p.pages false true (length c.args.pages.now) done.pages (λ p inside. done.page p inside (λ j least below same. absurd (omega arith)))

pub returns-clause-groups : goal.returns-clause-groups
returns-clause-groups c =
    let done = c.loop-p.invariant in
    all_same c.loop-p.groups 0 0 (length c.args.groups.now) done.groups (λ g inside. done.group g (λ j least below same. absurd (omega arith)))
