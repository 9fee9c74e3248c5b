use Rattle.std.proofs.Common.{true, slice_index, ◌==◌, refl}
use Rattle.std.proofs.lemmas.Bool.{agree_below_at, eqb-true}
use Rattle.asc_shard.specs.declared.key.TheConstants.{FACTORS}
use Rattle.asc_shard.specs.Fingerprints.{factor}
use Rattle.asc_shard.proofs.key.factor.Goals as goal

-- each of the table is what its place says
pub returns : goal.returns
unfolding factor
returns c =
    eqb-true (slice_index FACTORS c.args.word) (factor c.args.word) (agree_below_at (λ w. slice_index FACTORS w == factor w) (λ w. true) 32 c.args.word refl c.requires)
