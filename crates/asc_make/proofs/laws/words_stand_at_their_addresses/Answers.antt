use Rattle.std.proofs.Common.{refl}
use Rattle.asc_make.proofs.laws.words_stand_at_their_addresses.Goals as goal

pub returns : goal.returns
returns c = λ n. (refl, (refl, (refl, (refl, (refl, (refl, (refl, (refl, (refl, (refl, (refl, (refl, (refl, (refl, (refl, (refl, (refl, (refl, (refl, (refl, (refl, (refl, (refl, (refl, tt))))))))))))))))))))))))
