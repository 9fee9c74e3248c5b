-- So many of the first places are listed, and those behind them are untouched.
use Rattle.std.proofs.Common.{◌≡◌, ◌≤◌, length, take, drop}
use Rattle.asc_depvec.specs.Tracer.{places_of}
use Rattle.asc_depvec.specs.Inside.{TellNoMore, given, statuses_of, without}
use Rattle.asc_depvec.proofs.tracer.take_back.Given as goal

abbrev pub invariant-loop-touched : goal.invariant-loop-touched
invariant-loop-touched l = record {
  least : l.count ≤ length (places_of l.touched.items);
  listed : places_of l.touched.items ≡ take (length (places_of l.touched.items)) (places_of l.fn.touched.items);
  statuses : statuses_of l.marks ≡ without (statuses_of l.fn.marks) (drop (length (places_of l.touched.items)) (places_of l.fn.touched.items));
  less : TellNoMore l.fn.marks l.marks;
  bytes : l.bytes ≡ given l.fn.start.bytes l.fn.bytes (drop (length (places_of l.touched.items)) (places_of l.fn.touched.items));
  cap : l.touched.cap ≡ l.fn.touched.cap;
}

abbrev pub decreases-loop-touched : goal.decreases-loop-touched
decreases-loop-touched l = length (places_of l.touched.items)
