use Rattle.std.proofs.Common.{◌≡◌, ℕ, ◌+◌, ◌^◌, ◌≤◌, List, length, subst, sym, arith}
use Rattle.std.proofs.lemmas.Bool.Decides.{nat_tests}
use Rattle.std.proofs.lemmas.Grind.{common_steps}
use Rattle.asc_model.specs.Entry.{IsListing}
use Rattle.asc_model.specs.Shape.{IsShape, Shape}
use Rattle.asc_traj.specs.declared.part.Part.{Part}
use Rattle.asc_traj.specs.Parts.{all_cells}
use Rattle.asc_traj.proofs.Taking.{cells-few}
use Rattle.asc_traj.proofs.join.cell_count.Goals.{After-count-2}
use Rattle.asc_traj.proofs.join.cell_count.Goals as goal

-- parts of an entry's cells have few
few : (shape : Shape) (cells : List (ℕ × ℕ)) (parts : List Part) → IsShape shape → IsListing shape cells → all_cells parts ≡ cells → length (all_cells parts) ≤ 2 ^ 30
few shape cells parts good listing is = subst (λ (list : List (ℕ × ℕ)). length list ≤ 2 ^ 30) (sym is) (cells-few shape cells good listing)

pub count-requires : goal.count-requires
count-requires c =
    let truth = c.truth.ensures.entry in
    omega (arith, few c.args.entry.now.shape _ _ truth.shape truth.reads c.reads.ensures.cells)

pub count-requires-2 : goal.count-requires-2
count-requires-2 c =
    let truth = c.truth.ensures.entry in
    omega (arith, few c.args.entry.now.shape _ _ truth.shape truth.writes c.writes.ensures.cells)

-- and both lists of them
few-all : (c : After-count-2) → c.count.result + c.count-2.result ≤ 2 ^ 31
few-all c =
    let truth = c.truth.ensures.entry in
    let reads = few c.args.entry.now.shape _ _ truth.shape truth.reads c.reads.ensures.cells in
    let writes = few c.args.entry.now.shape _ _ truth.shape truth.writes c.writes.ensures.cells in
    omega (arith, reads, writes, c.count.ensures, c.count-2.ensures)

pub overflow_add-result : goal.overflow_add-result
overflow_add-result c = omega (arith, few-all (goal.at.overflow_add-result c).After-count-2)

pub returns-clause-exact : goal.returns-clause-exact
returns-clause-exact c = grind (arith, common_steps, nat_tests)

pub returns-clause-few : goal.returns-clause-few
returns-clause-few c = omega (arith, few-all (goal.at.returns-clause-few c).After-count-2)
