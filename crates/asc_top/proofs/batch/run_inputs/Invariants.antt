-- The inputs so far were run.
use Rattle.asc_top.specs.Reported.{report_with}
use Rattle.asc_top.specs.Runner.{outputs}
use Rattle.asc_top.proofs.BatchLoops.{At}
use Rattle.asc_top.proofs.batch.run_inputs.Given as goal

abbrev pub invariant-loop-number : goal.invariant-loop-number
invariant-loop-number g l =
    At g.row.T.Denot l.line l.image l.initial.inputs
    (outputs l.initial.devices l.initial.steps)
    (report_with (g.R.Sink.given l.initial.report) (g.R.Sink.faults l.initial.report))
    l.number l.inputs l.walk l.runner
    (outputs l.devices l.steps)
    (report_with (g.R.Sink.given l.report) (g.R.Sink.faults l.report))
