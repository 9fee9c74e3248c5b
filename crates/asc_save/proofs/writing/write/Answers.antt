use Rattle.std.proofs.Common.{◌≡◌, ◌+◌, ◌++◌, length, take, drop, sym, ap, ◌∙◌, append_assoc, arith}
use Rattle.std.specs.List.{flat_map}
use Rattle.std.proofs.lemmas.List.{take_all}
use Rattle.std.specs.Arc.{arc_value}
use Rattle.asc_model.specs.Entry.{Entry}
use Rattle.asc_model.specs.EntryFile.{entry_bytes, entry_file, header_bytes}
use Rattle.asc_outside.specs.Outside.{given_after, one_more}
use Rattle.asc_save.proofs.Putting.{entry_file-is, failed_put, given_both, held_more, held_savable, held_split, part_first, part_same, part_then}
use Rattle.asc_save.proofs.writing.write.Goals as goal

pub loop-i-init : goal.loop-i-init
loop-i-init g c = record {
  faults = c.in_ok-put_all.ensures.cause.stays;
  given = c.in_ok-put_all.ensures.all ∙ ap (given_after (g.O.Sink.given c.args.out.now)) (c.header.ensures ∙ ap (header_bytes c.args.shape) c.len.ensures);
}

pub cell_count-requires : goal.cell_count-requires
cell_count-requires g c =
    let held = c.args.content.now.held in
    let e = arc_value c.entry-entry.result.now in
    let fits = held_savable c.args.shape held c.loop-i.i e c.requires.each (omega arith) c.entry-entry.ensures in
    let few = fits.reads in
    let same = ap length c.reads.ensures.cells ∙ ap (λ (x : Entry). length x.reads) c.deref-in-loop-i.ensures in
    omega arith

pub cell_count-requires-in-loop-i : goal.cell_count-requires-in-loop-i
cell_count-requires-in-loop-i g c =
    let held = c.args.content.now.held in
    let e = arc_value c.entry-entry.result.now in
    let fits = held_savable c.args.shape held c.loop-i.i e c.requires.each (omega arith) c.entry-entry.ensures in
    let few = fits.writes in
    let same = ap length c.writes.ensures.cells ∙ ap (λ (x : Entry). length x.writes) c.deref-in-loop-i-2.ensures in
    omega arith

pub write_entry-requires : goal.write_entry-requires
write_entry-requires g c = record {
  reads = c.cell_count.ensures ∙ ap length c.reads.ensures.cells ∙ ap (λ (x : Entry). length x.reads) (c.deref-in-loop-i.ensures ∙ sym c.deref.ensures);
  writes = c.cell_count-in-loop-i.ensures ∙ ap length c.writes.ensures.cells ∙ ap (λ (x : Entry). length x.writes) (c.deref-in-loop-i-2.ensures ∙ sym c.deref.ensures);
}

pub loop-i-preserved : goal.loop-i-preserved
loop-i-preserved g c =
    let held = c.args.content.now.held in
    let e = arc_value c.entry-entry.result.now in
    let header = header_bytes c.args.shape (length held) in
    let first = flat_map entry_bytes (take c.loop-i.i held) in
    let more = held_more held c.loop-i.i e (omega arith) c.entry-entry.ensures in
    record {
      faults = c.in_ok-write_entry.ensures.cause.stays ∙ c.loop-i.invariant.faults;
      given = given_both (g.O.Sink.given c.args.out.now) (g.O.Sink.given c.loop-i.out) (g.O.Sink.given c.write_entry.new.out) (header ++ first) (entry_bytes e)
          c.loop-i.invariant.given (c.in_ok-write_entry.ensures.all ∙ ap (λ x. given_after (g.O.Sink.given c.loop-i.out) (entry_bytes x)) c.deref.ensures)
          ∙ ap (given_after (g.O.Sink.given c.args.out.now)) (append_assoc header first (entry_bytes e) ∙ ap (λ list. header ++ list) (sym more));
    }

pub returns-in_err-put_all : goal.returns-in_err-put_all
returns-in_err-put_all g c =
    let held = c.args.content.now.held in
    let before = g.O.Sink.given c.args.out.now in
    let after = g.O.Sink.given c.put_all.new.sink in
    let header = c.header.ensures ∙ ap (header_bytes c.args.shape) c.len.ensures in
    let file = entry_file c.args.shape held in
    let put = failed_put before after (g.O.Sink.faults c.args.out.now) (g.O.Sink.faults c.put_all.new.sink) c.from_residual.result file c.from_residual.ensures.0
    (part_same before after (c.header.result ++ flat_map entry_bytes held) file
    (ap (λ list. list ++ flat_map entry_bytes held) header ∙ sym (entry_file-is c.args.shape held))
    (part_first before after c.header.result (flat_map entry_bytes held) c.in_err-put_all.ensures.part))
    c.in_err-put_all.ensures.cause.rose in
    record { all = put.all; part = put.part; cause = put.cause }

pub returns-in_err-write_entry : goal.returns-in_err-write_entry
returns-in_err-write_entry g c =
    let held = c.args.content.now.held in
    let e = arc_value c.entry-entry.result.now in
    let before = g.O.Sink.given c.args.out.now in
    let between = g.O.Sink.given c.loop-i.out in
    let after = g.O.Sink.given c.write_entry.new.out in
    let header = header_bytes c.args.shape (length held) in
    let first = flat_map entry_bytes (take c.loop-i.i held) in
    let rest = flat_map entry_bytes (drop (c.loop-i.i + 1) held) in
    let file = entry_file c.args.shape held in
    let whole : header ++ first ++ (entry_bytes e ++ rest) ≡ file =
    append_assoc header first (entry_bytes e ++ rest)
    ∙ ap (λ list. header ++ list) (sym (held_split held c.loop-i.i e (omega arith) c.entry-entry.ensures)) ∙ sym (entry_file-is c.args.shape held) in
    let part = part_same between after (entry_bytes c.deref.result.now) (entry_bytes e) (ap entry_bytes c.deref.ensures) c.in_err-write_entry.ensures.part in
    let put = failed_put before after (g.O.Sink.faults c.args.out.now) (g.O.Sink.faults c.write_entry.new.out) c.from_residual-in_err-write_entry.result file c.from_residual-in_err-write_entry.ensures.0
    (part_same before after (header ++ first ++ (entry_bytes e ++ rest)) file whole
    (part_then before between after (header ++ first) (entry_bytes e ++ rest) c.loop-i.invariant.given (part_first between after (entry_bytes e) rest part)))
    (c.in_err-write_entry.ensures.cause.rose ∙ ap one_more c.loop-i.invariant.faults) in
    record { all = put.all; part = put.part; cause = put.cause }

pub returns : goal.returns
returns g c =
    let held = c.args.content.now.held in
    let all : take c.loop-i.i held ≡ held = take_all c.loop-i.i held (omega arith) in
    record {
      all = c.loop-i.invariant.given
          ∙ ap (given_after (g.O.Sink.given c.args.out.now)) (ap (λ list. header_bytes c.args.shape (length held) ++ flat_map entry_bytes list) all ∙ sym (entry_file-is c.args.shape held));
      part = tt;
      cause = record { stays = c.loop-i.invariant.faults; rose = tt };
    }
