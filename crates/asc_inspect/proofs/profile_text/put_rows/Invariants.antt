-- The lines so far are those of the first words.
use Rattle.std.proofs.Common.{◌≡◌, ◌++◌, slice_index_or}
use Rattle.asc_inspect.specs.Profile.{no_meetings, rows_text}
use Rattle.asc_inspect.proofs.profile_text.put_rows.Given as goal

abbrev pub invariant-loop-k : goal.invariant-loop-k
invariant-loop-k l = l.text.items ≡ l.fn.text.items ++ rows_text l.addresses l.base l.k (λ k. slice_index_or l.table k no_meetings)
