-- How many pages a state has at most.
use Rattle.std.proofs.Common.{◌+◌, ◌/◌, ◌^◌, ◌≤◌, ◌<◌, arith}
use Rattle.asc_model.specs.declared.version.Version.{Version}
use Rattle.asc_model.specs.declared.version.Version.TheVariants.{One, Two}
use Rattle.asc_model.specs.Shape.{Shape, IsShape, length_of, start_of}

start-most : (version : Version) → start_of version ≤ 136
start-most One = omega arith
start-most Two = omega arith

pub pages-few : (shape : Shape) → IsShape shape → length_of shape / 1024 + 1 < 2 ^ 23
pages-few shape good = let start = start-most shape.version in let most = good.size.most in omega (arith, start, most)
