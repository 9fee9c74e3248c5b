use Rattle.std.proofs.Common.{sym, ◌∙◌}
use Rattle.asc_depvec.proofs.Insides.{IsTracing-view, count_told}
use Rattle.asc_depvec.proofs.tracer.Tracer.touched_count.Goals as goal

pub returns-clause-count : goal.returns-clause-count
returns-clause-count c = c.len.ensures ∙ sym (count_told c.self.inside _ c.self.view_is)

pub returns-clause-tracer : goal.returns-clause-tracer
returns-clause-tracer c = IsTracing-view c.self.inside _ c.self.view_is c.self.invariant
