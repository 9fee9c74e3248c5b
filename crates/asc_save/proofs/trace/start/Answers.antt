use Rattle.std.proofs.Common.{◌<◌, ℕ, All, refl, sym, ap, subst, ◌∙◌}
use Rattle.asc_model.specs.Shape.{Shape, length_of}
use Rattle.asc_model.specs.State.{State}
use Rattle.asc_model.specs.Places.{bytes_after}
use Rattle.asc_model.specs.EntryFile.{entry_in}
use Rattle.asc_save.proofs.Tracing.{listing_within, start_is, zeros_again, zeros_of}
use Rattle.asc_save.proofs.trace.start.Goals as goal

pub put-requires : goal.put-requires
put-requires c = subst (All (λ (cell : ℕ × ℕ). cell.0 < length_of c.args.zeros.now.shape)) (sym c.reads.ensures) (listing_within c.args.zeros.now.shape _ c.requires.listed.reads)

pub clear-requires : goal.clear-requires
clear-requires c =
    let same = ap (λ (s : State). s.shape) (c.freeze-frozen.ensures.stays ∙ c.put.ensures) in
    subst (λ (s : Shape). All (λ (cell : ℕ × ℕ). cell.0 < length_of s) c.reads-2.result) (sym same)
    (subst (All (λ (cell : ℕ × ℕ). cell.0 < length_of c.args.zeros.now.shape)) (sym c.reads-2.ensures) (listing_within c.args.zeros.now.shape _ c.requires.listed.reads))

pub returns-clause-start : goal.returns-clause-start
returns-clause-start c =
    c.last.ensures ∙ c.in_ok-frozen.ensures.frozen
    ∙ start_is c.args.zeros.now.shape (entry_in c.args.zeros.now.shape c.args.bytes.now) c.reads.result c.args.zeros.now c.put.new.state c.requires.zeros refl (sym c.reads.ensures) c.put.ensures

pub returns-clause-zeros : goal.returns-clause-zeros
returns-clause-zeros c =
    zeros_again c.args.zeros.now.shape c.reads.result c.args.zeros.now c.put.new.state c.freeze-frozen.new.self c.clear.new.state c.requires.zeros c.put.ensures c.freeze-frozen.ensures.stays
    (c.clear.ensures ∙ ap (λ cells. record { shape = c.freeze-frozen.new.self.shape; bytes = bytes_after c.freeze-frozen.new.self.bytes (zeros_of cells) }) (c.reads-2.ensures ∙ sym c.reads.ensures))

pub returns-in_err-frozen-clause-zeros : goal.returns-in_err-frozen-clause-zeros
returns-in_err-frozen-clause-zeros c =
    zeros_again c.args.zeros.now.shape c.reads.result c.args.zeros.now c.put.new.state c.freeze-frozen.new.self c.clear.new.state c.requires.zeros c.put.ensures c.freeze-frozen.ensures.stays
    (c.clear.ensures ∙ ap (λ cells. record { shape = c.freeze-frozen.new.self.shape; bytes = bytes_after c.freeze-frozen.new.self.bytes (zeros_of cells) }) (c.reads-2.ensures ∙ sym c.reads.ensures))
