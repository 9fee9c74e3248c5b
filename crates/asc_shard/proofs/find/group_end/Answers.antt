use Rattle.std.proofs.Common.{◌≡◌, ◌+◌, ◌-◌, ◌/◌, ◌<◌, ◌≤◌, ◌∙◌, ℕ, Bool, map, refl, sym, ap, arith, true, false}
use Rattle.std.specs.Arc.{arc_value}
use Rattle.std.specs.Ordering.{is_eq, is_le, is_ne}
use Rattle.std.specs.declared.cmp.Ordering.{Ordering}
use Rattle.std.specs.declared.cmp.Ordering.TheVariants.{Equal}
use Rattle.asc_model.specs.Entry.{Entry}
use Rattle.asc_shard.specs.Inside.{by_group, positions_of, sorted_in}
use Rattle.asc_shard.proofs.Orders.{groups_total, equal-below, is-equal, less-above, other-not-equal}
use Rattle.asc_shard.proofs.Slots.{group-self, nth, range-up}
use Rattle.asc_shard.proofs.find.group_end.Goals.{After-entry-first}
use Rattle.asc_shard.proofs.find.group_end.Goals as goal

abbrev at : After-entry-first → ℕ → Entry
at c = nth (sorted_in (map arc_value c.args.entries.now) c.args.index.now)

-- what was read and compared tells whether the entry there is of the first one's group
compared : (c : After-entry-first) (m : ℕ) {e : Entry} {o : Ordering} {r b : Bool} → e ≡ at c m → o ≡ by_group c.entry-first.result.now e → r ≡ is_eq o → r ≡ b
    → is_eq (by_group (at c c.args.from) (at c m)) ≡ b
compared c m read order result is =
    (λ i. is_eq (by_group (sym c.entry-first.ensures i) (sym read i))) ∙ ap is_eq (sym order) ∙ sym result ∙ is

-- then all before are of it, or all behind are not
up : (c : After-entry-first) → (i j : ℕ) → c.args.from ≤ i → i ≤ j → j < c.args.high → is_le (by_group (at c i) (at c j)) ≡ true
up c = range-up (map arc_value c.args.entries.now) (positions_of c.args.index.now) c.args.from c.args.high c.requires.index.entries c.requires.range c.requires.keys

same-to : (c : After-entry-first) (m : ℕ) → m < c.args.high → is_eq (by_group (at c c.args.from) (at c m)) ≡ true
    → (i : ℕ) → c.args.from ≤ i → i ≤ m → by_group (at c c.args.from) (at c i) ≡ Equal
same-to c m lt is i least le = equal-below groups_total (at c) c.args.from c.args.high (up c) m i least le lt (is-equal (by_group (at c c.args.from) (at c m)) is)

pub returns-then-is_eq-clause-same : goal.returns-then-is_eq-clause-same
returns-then-is_eq-clause-same c = λ i least lt.
    let k = (goal.at.returns-then-is_eq-clause-same c).After-entry-first in
    same-to k (c.args.high - 1) (omega arith) (compared k (c.args.high - 1) c.entry-2.ensures c.compare_groups-2.ensures c.is_eq.ensures c.if-is_eq.true) i least (omega arith)

-- where the next one is of another group
alone : (c : After-entry-first) {e : Entry} {o : Ordering} {r : Bool} → e ≡ at c (c.args.from + 1) → o ≡ by_group c.entry-first.result.now e → r ≡ is_ne o → r ≡ true
    → is_eq (by_group (at c c.args.from) (at c (c.args.from + 1))) ≡ false
alone c {o = o} read order result is = compared c (c.args.from + 1) read order refl (other-not-equal o (sym result ∙ is))

pub returns-then-is_ne-clause-same : goal.returns-then-is_ne-clause-same
returns-then-is_ne-clause-same c = λ i least lt.
    group-self (sorted_in (map arc_value c.args.entries.now) c.args.index.now) c.args.from i (omega (arith, least, lt))

pub returns-then-is_ne-clause-rest : goal.returns-then-is_ne-clause-rest
returns-then-is_ne-clause-rest c = λ i least lt.
    let k = (goal.at.returns-then-is_ne-clause-rest c).After-entry-first in
    let apart = alone k c.entry.ensures c.compare_groups.ensures c.is_ne.ensures c.if-is_ne.true in
    less-above groups_total (at k) c.args.from c.args.high (up k) (c.args.from + 1) i (omega arith) least lt apart

pub loop-low-init : goal.loop-low-init
loop-low-init c =
    let k = (goal.at.loop-low-init c).After-entry-first in
    let apart = compared k (c.args.high - 1) c.entry-2.ensures c.compare_groups-2.ensures c.is_eq.ensures c.if-is_eq.false in
    record {
      some = omega arith;
      range = omega (arith, c.requires.some, c.if-from-high.false);
      most = omega arith;
      same = λ i least lt. group-self (sorted_in (map arc_value c.args.entries.now) c.args.index.now) c.args.from i (omega arith);
      rest = λ i least lt. less-above groups_total (at k) c.args.from c.args.high (up k) (c.args.high - 1) i (omega arith) least lt apart;
    }

pub loop-low-preserved-then-is_eq-2 : goal.loop-low-preserved-then-is_eq-2
loop-low-preserved-then-is_eq-2 c =
    let v = c.loop-low.invariant in
    let m = c.loop-low.low + (c.loop-low.end - c.loop-low.low) / 2 in
    let k = (goal.at.loop-low-preserved-then-is_eq-2 c).After-entry-first in
    let equal = compared k m c.entry-in-loop-low.ensures c.compare_groups-in-loop-low.ensures c.is_eq-in-loop-low.ensures c.if-is_eq-2.true in
    record {
      some = omega arith;
      range = omega arith;
      most = v.most;
      same = λ i least lt. same-to k m (omega (arith, v.most)) equal i least (omega arith);
      rest = v.rest;
    }

pub loop-low-preserved : goal.loop-low-preserved
loop-low-preserved c =
    let v = c.loop-low.invariant in
    let m = c.loop-low.low + (c.loop-low.end - c.loop-low.low) / 2 in
    let k = (goal.at.loop-low-preserved c).After-entry-first in
    let apart = compared k m c.entry-in-loop-low.ensures c.compare_groups-in-loop-low.ensures c.is_eq-in-loop-low.ensures c.if-is_eq-2.false in
    record {
      some = v.some;
      range = omega arith;
      most = omega arith;
      same = v.same;
      rest = λ i least lt. less-above groups_total (at k) c.args.from c.args.high (up k) m i (omega (arith, v.some)) least lt apart;
    }

pub returns-then-from-high-clause-same : goal.returns-then-from-high-clause-same
returns-then-from-high-clause-same c = λ i least lt.
    group-self (sorted_in (map arc_value c.args.entries.now) c.args.index.now) c.args.from i (omega (arith, least, lt, c.if-from-high.true))
