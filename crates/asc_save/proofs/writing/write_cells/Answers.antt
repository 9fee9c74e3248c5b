use Rattle.std.proofs.Common.{◌++◌, [], take, refl, sym, ap, ◌∙◌, append_assoc, arith}
use Rattle.std.specs.List.{flat_map}
use Rattle.std.proofs.lemmas.List.{append-nil}
use Rattle.asc_model.specs.EntryFile.{cell_bytes}
use Rattle.asc_outside.specs.Outside.{given_after, one_more}
use Rattle.asc_outside.proofs.Streams.{given_after-nil}
use Rattle.asc_traj.specs.Parts.{all_cells, cells_from}
use Rattle.asc_traj.proofs.Parts.{cells-all}
use Rattle.asc_save.proofs.Putting.{failed_put, given_both, part_first, part_same, part_then}
use Rattle.asc_save.proofs.writing.write_cells.Goals as goal

pub loop-room-init : goal.loop-room-init
loop-room-init g c = record {
  from = omega arith;
  faults = refl;
  given = ([], sym (given_after-nil (g.O.Sink.given c.args.out.now)), ap (flat_map cell_bytes) (sym (cells-all c.args.parts.now)));
}

pub loop-room-preserved : goal.loop-room-preserved
loop-room-preserved g c =
    let inv = c.loop-room.invariant in
    let piece = take c.fill-filled.result.length c.fill-filled.new.room in
    let rest = flat_map cell_bytes (cells_from c.args.parts.now c.fill-filled.result.next) in
    record {
      from = c.fill-filled.ensures.next;
      faults = c.in_ok-put_all.ensures.cause.stays ∙ inv.faults;
      given = (
        inv.given.0 ++ piece,
        given_both (g.O.Sink.given c.args.out.now) (g.O.Sink.given c.loop-room.out) (g.O.Sink.given c.put_all.new.sink) inv.given.0 piece inv.given.1 c.in_ok-put_all.ensures.all,
        inv.given.2 ∙ ap (λ list. inv.given.0 ++ list) c.fill-filled.ensures.filled ∙ sym (append_assoc inv.given.0 piece rest),
      );
    }

pub returns-then-filled-eq0 : goal.returns-then-filled-eq0
returns-then-filled-eq0 g c =
    let inv = c.loop-room.invariant in
    let none = c.fill-filled.ensures.goes.1 c.if-filled-eq0.true in
    record {
      all = inv.given.1
          ∙ ap (given_after (g.O.Sink.given c.args.out.now)) (sym (inv.given.2 ∙ ap (λ list. inv.given.0 ++ flat_map cell_bytes list) none ∙ append-nil inv.given.0));
      part = tt;
      cause = record { stays = inv.faults; rose = tt };
    }

pub returns-in_err-put_all : goal.returns-in_err-put_all
returns-in_err-put_all g c =
    let inv = c.loop-room.invariant in
    let before = g.O.Sink.given c.args.out.now in
    let between = g.O.Sink.given c.loop-room.out in
    let after = g.O.Sink.given c.put_all.new.sink in
    let piece = take c.fill-filled.result.length c.fill-filled.new.room in
    let rest = flat_map cell_bytes (cells_from c.args.parts.now c.fill-filled.result.next) in
    let all = flat_map cell_bytes (all_cells c.args.parts.now) in
    let put = failed_put before after (g.O.Sink.faults c.args.out.now) (g.O.Sink.faults c.put_all.new.sink) c.from_residual.result all c.from_residual.ensures.0
    (part_same before after (inv.given.0 ++ (piece ++ rest)) all (sym (inv.given.2 ∙ ap (λ list. inv.given.0 ++ list) c.fill-filled.ensures.filled))
    (part_then before between after inv.given.0 (piece ++ rest) inv.given.1 (part_first between after piece rest c.in_err-put_all.ensures.part)))
    (c.in_err-put_all.ensures.cause.rose ∙ ap one_more inv.faults) in
    record { all = put.all; part = put.part; cause = put.cause }
