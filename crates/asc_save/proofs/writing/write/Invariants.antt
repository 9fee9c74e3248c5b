use Rattle.std.proofs.Common.{◌≡◌, ◌++◌, length, take}
use Rattle.std.specs.List.{flat_map}
use Rattle.asc_model.specs.EntryFile.{entry_bytes, header_bytes}
use Rattle.asc_outside.specs.Outside.{given_after}
use Rattle.asc_save.proofs.writing.write.Given as goal

-- the header and the first entries were put
abbrev pub invariant-loop-i : goal.invariant-loop-i
invariant-loop-i g l = record {
  faults : g.O.Sink.faults l.out ≡ g.O.Sink.faults l.fn.out;
  given : g.O.Sink.given l.out
      ≡ given_after (g.O.Sink.given l.fn.out) (header_bytes l.fn.shape (length l.content.held) ++ flat_map entry_bytes (take l.i l.content.held));
}
