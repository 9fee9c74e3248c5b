use Rattle.std.proofs.Common.{◌≡◌, ◌+◌, ◌-◌, ◌/◌, ◌∙◌, map, sym, ap, arith}
use Rattle.std.specs.Arc.{arc_value}
use Rattle.std.specs.Ordering.{is_lt}
use Rattle.asc_model.specs.Entry.{Entry}
use Rattle.asc_shard.specs.Inside.{by_all, key_of, sorted_in}
use Rattle.asc_shard.proofs.Orders.{all_total, is-less, less-below, not-less-above}
use Rattle.asc_shard.proofs.Slots.{nth, index-up}
use Rattle.asc_shard.proofs.Placing.{size}
use Rattle.asc_shard.proofs.index.place_among.Goals.{After-compare_alike}
use Rattle.asc_shard.proofs.index.place_among.Goals as goal

-- the entry that was compared is the one in the middle
compared : (c : After-compare_alike) → let m = c.loop-low.low + (c.loop-low.high - c.loop-low.low) / 2 in
    c.compare_alike.result ≡ by_all (nth (sorted_in (map arc_value c.args.entries.now) c.args.index.now) m) c.args.entry.now
compared c = c.compare_alike.ensures ∙ ap (λ (e : Entry). by_all e c.args.entry.now) c.entry.ensures

pub loop-low-preserved-then-is_lt : goal.loop-low-preserved-then-is_lt
loop-low-preserved-then-is_lt c =
    let v = c.loop-low.invariant in
    let m = c.loop-low.low + (c.loop-low.high - c.loop-low.low) / 2 in
    let is = c.requires.index in
    let less = sym (compared (goal.at.loop-low-preserved-then-is_lt c).After-compare_alike) ∙ is-less c.compare_alike.result (sym c.is_lt.ensures ∙ c.if-is_lt.true) in
    record {
      least = omega (arith, v.least);
      range = omega arith;
      most = v.most;
      before = λ i least lt. less-below all_total (nth (sorted_in _ c.args.index.now)) 0 _ (index-up _ _ is.entries) c.args.entry.now m i
          (omega arith) (omega arith) (omega (arith, v.most, c.requires.range.1, is.entries.size, size is)) less;
      rest = v.rest;
    }

pub loop-low-preserved : goal.loop-low-preserved
loop-low-preserved c =
    let v = c.loop-low.invariant in
    let m = c.loop-low.low + (c.loop-low.high - c.loop-low.low) / 2 in
    let is = c.requires.index in
    let rest = ap is_lt (sym (compared (goal.at.loop-low-preserved c).After-compare_alike)) ∙ sym c.is_lt.ensures ∙ c.if-is_lt.false in
    record {
      least = v.least;
      range = omega arith;
      most = omega (arith, v.most);
      before = v.before;
      rest = λ i least lt. not-less-above all_total (nth (sorted_in _ c.args.index.now)) 0 _ (index-up _ _ is.entries) c.args.entry.now m i
          (omega arith) (omega arith) (omega (arith, lt, c.requires.range.1, is.entries.size, size is)) rest;
    }

pub compare_alike-requires : goal.compare_alike-requires
compare_alike-requires c = ap key_of c.entry.ensures ∙ c.requires.keys (c.loop-low.low + (c.loop-low.high - c.loop-low.low) / 2) (omega (arith, c.loop-low.invariant.least)) (omega (arith, c.loop-low.invariant.most))

pub returns-clause-rest : goal.returns-clause-rest
returns-clause-rest c = λ i least lt. c.loop-low.invariant.rest i (omega arith) lt
