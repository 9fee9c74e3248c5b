use Rattle.std.proofs.Common.{◌≡◌, ◌-◌, ◌++◌, Some, None, map, refl, sym, ap, ◌∙◌, subst, arith}
use Rattle.std.proofs.lemmas.List.{append-nil}
use Rattle.std.specs.Arc.{arc_value}
use Rattle.asc_model.specs.Case.{first_fault}
use Rattle.asc_model.specs.EntryFile.{entries_cases, entries_in, entry_in, own_cases, writes_end}
use Rattle.asc_shape.specs.State.{zero_state}
use Rattle.asc_depvec.specs.Tracer.{Tracing}
use Rattle.asc_save.specs.Listed.{IsListed}
use Rattle.asc_save.specs.Traced.{IsRetraced}
use Rattle.asc_save.proofs.Parsing.{entries_next, entries_none, first-IsListed, made_more, no_fault_next, own_fault, own_more}
use Rattle.asc_save.proofs.trace.retraced.Goals as goal

pub loop-index-init : goal.loop-index-init
loop-index-init c =
    let all : c.args.count - 0 ≡ c.args.count = omega arith in
    record {
      shape = ap (λ (t : Tracing). t.shape) c.in_ok-tracer.ensures;
      cap = ap (λ (t : Tracing). t.cap) c.in_ok-tracer.ensures;
      zeros = c.in_ok-zeros.ensures;
      no_fault = ap (λ n. first_fault (entries_cases c.args.shape 0 n c.args.bytes.now)) all ∙ c.requires;
      entries = ap (λ list. map arc_value list ++ entries_in c.args.shape (c.args.count - 0) c.args.bytes.now) c.in_ok-entries.ensures.items
          ∙ ap (λ n. entries_in c.args.shape n c.args.bytes.now) all;
      own = ap (λ n. first_fault (own_cases 0 (entries_in c.args.shape n c.args.bytes.now))) all;
    }

pub retrace-requires-clause-listed : goal.retrace-requires-clause-listed
retrace-requires-clause-listed c =
    subst (λ s. IsListed s c.loop-index.rest.now) (sym c.loop-index.invariant.shape)
    (first-IsListed c.args.shape c.loop-index.index (c.args.count - c.loop-index.index) c.loop-index.rest.now (omega arith) c.loop-index.invariant.no_fault)

pub retrace-requires-clause-zeros : goal.retrace-requires-clause-zeros
retrace-requires-clause-zeros c = c.loop-index.invariant.zeros ∙ ap zero_state (sym c.loop-index.invariant.shape)

pub retrace-requires-clause-cap : goal.retrace-requires-clause-cap
retrace-requires-clause-cap c = c.loop-index.invariant.cap

pub returns-in_default : goal.returns-in_default
returns-in_default c =
    let e = entry_in c.args.shape c.loop-index.rest.now in
    let next = entries_next c.args.shape c.args.count c.loop-index.index c.loop-index.rest.now (writes_end c.loop-index.rest.now) (omega arith) refl in
    let none = subst (λ s. IsRetraced (entry_in s c.loop-index.rest.now) None) c.loop-index.invariant.shape
    (subst (IsRetraced (entry_in c.loop-index.tracer.shape c.loop-index.rest.now)) c.in_default.is c.in_ok-entry.ensures.entry) in
    sym c.loop-index.invariant.own ∙ ap (λ list. first_fault (own_cases c.loop-index.index list)) next ∙ own_fault c.loop-index.index e _ none

pub writes_end-requires : goal.writes_end-requires
writes_end-requires c =
    let listed = first-IsListed c.args.shape c.loop-index.index (c.args.count - c.loop-index.index) c.loop-index.rest.now (omega arith) c.loop-index.invariant.no_fault in
    let whole = listed.whole in
    omega arith

pub slice_bounds-rest-count : goal.slice_bounds-rest-count
slice_bounds-rest-count c =
    let listed = first-IsListed c.args.shape c.loop-index.index (c.args.count - c.loop-index.index) c.loop-index.rest.now (omega arith) c.loop-index.invariant.no_fault in
    let whole = listed.whole in
    let at = c.writes_end.ensures in
    omega arith

pub loop-index-preserved : goal.loop-index-preserved
loop-index-preserved c =
    let rest = c.loop-index.rest.now in
    let e = entry_in c.args.shape rest in
    let next = entries_next c.args.shape c.args.count c.loop-index.index rest c.writes_end.result (omega arith) c.writes_end.ensures in
    let made = subst (λ s. IsRetraced (entry_in s rest) (Some c.in-Some.entry)) c.loop-index.invariant.shape
    (subst (IsRetraced (entry_in c.loop-index.tracer.shape rest)) c.in-Some.is c.in_ok-entry.ensures.entry) in
    record {
      shape = c.in_ok-entry.ensures.shape ∙ c.loop-index.invariant.shape;
      cap = c.in_ok-entry.ensures.cap ∙ c.loop-index.invariant.cap;
      zeros = c.in_ok-entry.ensures.zeros ∙ c.loop-index.invariant.zeros;
      no_fault = no_fault_next c.args.shape c.args.count c.loop-index.index rest c.writes_end.result (omega arith) c.writes_end.ensures c.loop-index.invariant.no_fault;
      entries = made_more c.loop-index.entries.items c.push.new.self.items c.in-Some.entry e _ _ _ c.in_ok-push.ensures.items made.0 next c.loop-index.invariant.entries;
      own = sym (ap (λ list. first_fault (own_cases c.loop-index.index list)) next ∙ own_more c.loop-index.index e _ made.1) ∙ c.loop-index.invariant.own;
    }

pub returns : goal.returns
returns c =
    let end : c.args.count - c.loop-index.index ≡ 0 = omega arith in
    let none = entries_none c.args.shape (c.args.count - c.loop-index.index) c.loop-index.rest.now end in (
      sym (append-nil (map arc_value c.loop-index.entries.items)) ∙ ap (λ list. map arc_value c.loop-index.entries.items ++ list) (sym none) ∙ c.loop-index.invariant.entries,
      sym c.loop-index.invariant.own ∙ ap (λ list. first_fault (own_cases c.loop-index.index list)) none,
    )

pub slice_bounds-rest-start : goal.slice_bounds-rest-start
slice_bounds-rest-start c =
    let listed = first-IsListed c.args.shape c.loop-index.index (c.args.count - c.loop-index.index) c.loop-index.rest.now (omega arith) c.loop-index.invariant.no_fault in
    let whole = listed.whole in
    let at = c.writes_end.ensures in
    omega arith
