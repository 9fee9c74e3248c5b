use Rattle.std.proofs.Common.{◌≡◌, ◌++◌, length, ap, ◌∙◌}
use Rattle.std.specs.List.{flat_map}
use Rattle.asc_model.specs.Number.{bytes_of}
use Rattle.asc_model.specs.EntryFile.{cell_bytes, entry_bytes}
use Rattle.asc_outside.specs.Outside.{one_more}
use Rattle.asc_traj.specs.Parts.{all_cells}
use Rattle.asc_save.proofs.Putting.{failed_put, given_both, last_put, part_first, part_same, part_then, piece_same}
use Rattle.asc_save.proofs.writing.write_entry.Goals as goal

pub returns-in_err-put_all : goal.returns-in_err-put_all
returns-in_err-put_all g c =
    let before = g.O.Sink.given c.args.out.now in
    let after = g.O.Sink.given c.put_all.new.sink in
    let e = c.args.entry.now in
    let r = flat_map cell_bytes e.reads in
    let w = flat_map cell_bytes e.writes in
    let steps = c.steps.ensures in
    let reads = c.requires.reads in
    let writes = c.requires.writes in
    let same : c.counts.result ++ r ++ w ≡ entry_bytes e = ap (λ list. list ++ r ++ w) (c.counts.ensures ∙ λ i. bytes_of 8 (steps i) ++ bytes_of 4 (reads i) ++ bytes_of 4 (writes i)) in
    let put = failed_put before after (g.O.Sink.faults c.args.out.now) (g.O.Sink.faults c.put_all.new.sink) c.from_residual.result (entry_bytes e) c.from_residual.ensures.0
    (part_same before after (c.counts.result ++ r ++ w) (entry_bytes e) same (part_first before after (c.counts.result ++ r) w (part_first before after c.counts.result r c.in_err-put_all.ensures.part)))
    c.in_err-put_all.ensures.cause.rose in
    record { all = put.all; part = put.part; cause = put.cause }

pub returns-in_err-write_cells : goal.returns-in_err-write_cells
returns-in_err-write_cells g c =
    let before = g.O.Sink.given c.args.out.now in
    let between = g.O.Sink.given c.put_all.new.sink in
    let after = g.O.Sink.given c.write_cells.new.out in
    let e = c.args.entry.now in
    let r = flat_map cell_bytes (all_cells c.reads.result.now) in
    let w = flat_map cell_bytes e.writes in
    let steps = c.steps.ensures in
    let reads = c.requires.reads in
    let writes = c.requires.writes in
    let cells = c.reads.ensures.cells in
    let counted : c.counts.result ≡ bytes_of 8 e.steps ++ bytes_of 4 (length e.reads) ++ bytes_of 4 (length e.writes) = c.counts.ensures ∙ λ i. bytes_of 8 (steps i) ++ bytes_of 4 (reads i) ++ bytes_of 4 (writes i) in
    let same : c.counts.result ++ r ++ w ≡ entry_bytes e = λ i. counted i ++ flat_map cell_bytes (cells i) ++ w in
    let put = failed_put before after (g.O.Sink.faults c.args.out.now) (g.O.Sink.faults c.write_cells.new.out) c.from_residual-in_err-write_cells.result (entry_bytes e) c.from_residual-in_err-write_cells.ensures.0
    (part_same before after (c.counts.result ++ r ++ w) (entry_bytes e) same
    (part_first before after (c.counts.result ++ r) w (part_then before between after c.counts.result r c.in_ok-put_all.ensures.all c.in_err-write_cells.ensures.part)))
    (c.in_err-write_cells.ensures.cause.rose ∙ ap one_more c.in_ok-put_all.ensures.cause.stays) in
    record { all = put.all; part = put.part; cause = put.cause }

pub returns : goal.returns
returns g c =
    let before = g.O.Sink.given c.args.out.now in
    let first = g.O.Sink.given c.put_all.new.sink in
    let second = g.O.Sink.given c.write_cells.new.out in
    let after = g.O.Sink.given c.write_cells-2.new.out in
    let e = c.args.entry.now in
    let r = flat_map cell_bytes (all_cells c.reads.result.now) in
    let w = flat_map cell_bytes (all_cells c.writes.result.now) in
    let steps = c.steps.ensures in
    let reads = c.requires.reads in
    let writes = c.requires.writes in
    let cells = c.reads.ensures.cells in
    let others = c.writes.ensures.cells in
    let counted : c.counts.result ≡ bytes_of 8 e.steps ++ bytes_of 4 (length e.reads) ++ bytes_of 4 (length e.writes) = c.counts.ensures ∙ λ i. bytes_of 8 (steps i) ++ bytes_of 4 (reads i) ++ bytes_of 4 (writes i) in
    let same : c.counts.result ++ r ++ w ≡ entry_bytes e = λ i. counted i ++ flat_map cell_bytes (cells i) ++ flat_map cell_bytes (others i) in
    let put = piece_same same
    (last_put before second after (g.O.Sink.faults c.args.out.now) (g.O.Sink.faults c.write_cells.new.out) (g.O.Sink.faults c.write_cells-2.new.out) c.write_cells-2.result (c.counts.result ++ r) w
    (given_both before first second c.counts.result r c.in_ok-put_all.ensures.all c.in_ok-write_cells.ensures.all)
    (c.in_ok-write_cells.ensures.cause.stays ∙ c.in_ok-put_all.ensures.cause.stays)
    (record { all = c.write_cells-2.ensures.all; part = c.write_cells-2.ensures.part; cause = c.write_cells-2.ensures.cause })) in
    record { all = put.all; part = put.part; cause = put.cause }
