-- Workers beside a walk: those that a line asks for, and their numbers.
use Rattle.asc_live.specs.declared.crew.Worked.{Worked}
use Rattle.asc_live.specs.declared.crew.Crew.{Crew}
use Rattle.asc_words.specs.declared.line.RunLine.{RunLine}
use Rattle.asc_words.specs.declared.answer.WorkerCounts.{WorkerCounts}

-- the workers that a line asks for
abbrev pub crew_of : RunLine → Crew
crew_of line = record { workers = line.workers; queue = line.queue }

-- the numbers of workers that ran beside a walk
abbrev pub workers_of : Worked → WorkerCounts
workers_of worked = record { tally = worked.taken.tally; left = worked.taken.left; full = worked.full }
