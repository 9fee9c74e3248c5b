-- Tallies of jobs that were run.
use Rattle.std.specs.Prelude.{ℕ, ◌+◌}
use Rattle.asc_model.specs.declared.tally.Tally.{Tally}
use Rattle.asc_model.specs.declared.tally.Column.{Column}
use Rattle.asc_model.specs.declared.tally.Column.TheVariants.{Stored, Known, Empty, Dropped, Stopped}

-- the numbers of a tally
pub record JobCounts : Type 0 where
  pub ran : ℕ
  pub stored : ℕ
  pub known : ℕ
  pub empty : ℕ
  pub dropped : ℕ
  pub stopped : ℕ

abbrev pub job_counts : Tally → JobCounts
job_counts t = record {
  ran = t.ran;
  stored = t.stored;
  known = t.known;
  empty = t.empty;
  dropped = t.dropped;
  stopped = t.stopped;
}

abbrev pub no_jobs : JobCounts
no_jobs = record { ran = 0; stored = 0; known = 0; empty = 0; dropped = 0; stopped = 0 }

-- one job more, in a column
abbrev pub noted : Column → JobCounts → JobCounts
noted Stored c = record c { ran = c.ran + 1; stored = c.stored + 1 }
noted Known c = record c { ran = c.ran + 1; known = c.known + 1 }
noted Empty c = record c { ran = c.ran + 1; empty = c.empty + 1 }
noted Dropped c = record c { ran = c.ran + 1; dropped = c.dropped + 1 }
noted Stopped c = record c { ran = c.ran + 1; stopped = c.stopped + 1 }

-- the jobs of both, column by column
abbrev pub added : JobCounts → JobCounts → JobCounts
added c d = record {
  ran = c.ran + d.ran;
  stored = c.stored + d.stored;
  known = c.known + d.known;
  empty = c.empty + d.empty;
  dropped = c.dropped + d.dropped;
  stopped = c.stopped + d.stopped;
}
