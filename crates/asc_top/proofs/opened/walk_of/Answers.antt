-- What the walk of a file is, or why there is none.
use Rattle.std.proofs.Common.{◌∙◌, sym, inl, inr, refl}
use Rattle.asc_top.proofs.opened.walk_of.Goals as goal

pub returns-in-Ok-new-clause-walk : goal.returns-in-Ok-new-clause-walk
returns-in-Ok-new-clause-walk c = record {
  image = c.in-Ok.image;
  loads = sym c.read.ensures ∙ c.in-Ok.is;
  good = c.shape.ensures.good;
  walk_is = c.in-Ok-new.ensures.walk;
}

pub returns-in-Err-clause-none : goal.returns-in-Err-clause-none
returns-in-Err-clause-none c = inl (c.in-Err.fault, refl, sym c.read.ensures ∙ c.in-Err.is)

pub returns-in-Err-new-clause-none : goal.returns-in-Err-new-clause-none
returns-in-Err-new-clause-none c = inr (c.in-Ok.image, refl, sym c.read.ensures ∙ c.in-Ok.is, c.shape.ensures.good)
