use Rattle.std.proofs.Common.{◌∙◌}
use Rattle.std.specs.Prelude.{sum_by}
use Rattle.asc_shard.specs.Groups.{Asked}
use Rattle.asc_shard.proofs.Ranges.{raised-by-one}
use Rattle.asc_shard.proofs.shard.Shard.find.Goals as goal

pub returns-clause-probes : goal.returns-clause-probes
returns-clause-probes g c =
    let p = c.find_by.ensures.probes in
    (p.0, p.1, p.2 ∙ raised-by-one (sum_by (λ (a : Asked). a.probes) p.0) c.args.probes.now)
