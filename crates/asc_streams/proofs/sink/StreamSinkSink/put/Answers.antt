use Rattle.std.proofs.Common.{◌≡◌, ◌≤◌, take, length, arith, ap, sym, ◌∙◌, length-take}
use Rattle.asc_outside.specs.Outside.{given_after}
use Rattle.std.proofs.KnownBytes.{Appends-kept}
use Rattle.asc_streams.specs.Told.{given_of}
use Rattle.asc_streams.proofs.Told.{kept, kept_none, given_more, given_same}
use Rattle.asc_streams.proofs.sink.StreamSinkSink.put.Goals as goal

pub returns-in_default-clause-nothing : goal.returns-in_default-clause-nothing
returns-in_default-clause-nothing g c =
    ap (λ s. given_of (g.W.Write.contents s.writer) s.unflushed) c.fail-in_default.ensures
    ∙ ap (λ held. given_of held c.args.self.now.unflushed)
    (kept _ _ (g.met.W.SteadyWrite.steady c.args.self.now.writer c.write.new.self) c.in_default.ensures.bytes)

pub returns-then-count-eq0-clause-nothing : goal.returns-then-count-eq0-clause-nothing
returns-then-count-eq0-clause-nothing g c =
    ap (λ s. given_of (g.W.Write.contents s.writer) s.unflushed) c.fail-then-count-eq0.ensures
    ∙ ap (λ held. given_of held c.args.self.now.unflushed)
    (kept_none _ _ c.args.piece.now c.in-Ok.count (g.met.W.SteadyWrite.steady c.args.self.now.writer c.write.new.self) c.in-Ok.ensures.bytes c.if-count-eq0.true)

-- the bytes that were not flushed are behind those that were given
pub returns-then-is_err-clause-nothing : goal.returns-then-is_err-clause-nothing
returns-then-is_err-clause-nothing g c =
    let held = g.W.Write.contents c.args.self.now.writer in
    let bytes = take c.in-Ok.count c.args.piece.now in
    let none : c.args.self.now.unflushed ≡ 0 = omega arith in
    let bound : c.in-Ok.count ≤ length c.args.piece.now = c.in-Ok.ensures.bound in
    let size : length bytes ≡ c.in-Ok.count = omega (arith, length-take c.in-Ok.count c.args.piece.now) in
    ap (λ s. given_of (g.W.Write.contents s.writer) s.unflushed) c.fail-then-is_err.ensures
    ∙ given_same held _ bytes c.in-Ok.count (g.met.W.SteadyWrite.steady c.args.self.now.writer c.flush.new.self)
    (Appends-kept held _ _ bytes c.in-Ok.ensures.bytes c.flush.ensures.bytes) size
    ∙ ap (given_of held) (sym none)

pub returns-clause-given : goal.returns-clause-given
returns-clause-given g c =
    let held = g.W.Write.contents c.args.self.now.writer in
    let bytes = take c.in-Ok.count c.args.piece.now in
    let none : c.args.self.now.unflushed ≡ 0 = omega arith in
    ap (given_of (g.W.Write.contents c.flush.new.self)) none
    ∙ given_more held _ bytes (g.met.W.SteadyWrite.steady c.args.self.now.writer c.flush.new.self)
    (Appends-kept held _ _ bytes c.in-Ok.ensures.bytes c.flush.ensures.bytes)
    ∙ ap (λ n. given_after (given_of held n) bytes) (sym none)
