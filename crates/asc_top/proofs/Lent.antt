-- What holds over devices, by what they tell.
use Rattle.std.proofs.Common.{◌≡◌, ℕ, List, [], Some, ap, subst, sym}
use Rattle.asc_outside.specs.Outside.{Given}
use Rattle.asc_outside.specs.Lists.{given_number}
use Rattle.asc_calls.specs.World.{Devices, Outside, Told, faults, outside, outside_of, with_input}
use Rattle.asc_top.specs.Runner.{outputs}

pub over_devices : {I O E : Type 0} (d : Devices I O E) (given : Given) (out_faults steps : ℕ) (P : Outside → Type 0)
    → d.told.out ≡ given → d.told.faults.out ≡ out_faults
    → P (outside d.told.left given d.told.err steps (faults d.told.faults.input out_faults d.told.faults.err)) → P (outside_of d steps)
over_devices d given out_faults steps P told failed holds =
    subst P (sym (λ i. outside d.told.left (told i) d.told.err steps (faults d.told.faults.input (failed i) d.told.faults.err))) holds

-- over devices that took an input which never fails, it holds over what a batch tells of them, with that input
pub over_input : {O E : Type 0} (d taken left : Devices (List ℕ) O E) (input : List ℕ) (before after : ℕ) (P : (old new : Outside) → Type 0)
    → taken ≡ with_input d input (Some input) 0 → left.told.faults.input ≡ 0 → P (outside_of taken before) (outside_of left after)
    → P (record (outputs d before) { left = Some input }) (record (outputs left after) { left = left.told.left })
over_input {O} {E} d taken left input before after P is sound holds =
    subst (λ (new : Outside). P (record (outputs d before) { left = Some input }) new)
    (λ i. outside left.told.left left.told.out left.told.err after (faults (sound i) left.told.faults.out left.told.faults.err))
    (subst (λ (old : Outside). P old (outside_of left after)) (ap (λ (x : Devices (List ℕ) O E). outside_of x before) is) holds)

-- what devices tell that have no input, count what they are given, and never fail
abbrev pub counting : Devices (List ℕ) ℕ ℕ → Told
counting d = record { left = Some d.input; out = given_number d.out; err = given_number d.err; faults = faults 0 0 0 }

pub over_counts : (d left : Devices (List ℕ) ℕ ℕ) (before after : ℕ) (P : (old new : Outside) → Type 0)
    → d ≡ record { input = []; out = 0; err = 0; told = record { left = Some []; out = given_number 0; err = given_number 0; faults = faults 0 0 0 } }
    → left.told ≡ counting left → P (outside_of d before) (outside_of left after)
    → P (outside (Some []) (given_number 0) (given_number 0) before (faults 0 0 0))
    (outside (Some left.input) (given_number left.out) (given_number left.err) after (faults 0 0 0))
over_counts d left before after P is told holds =
    subst (λ (new : Outside). P (outside (Some []) (given_number 0) (given_number 0) before (faults 0 0 0)) new)
    (ap (λ (t : Told). outside t.left t.out t.err after t.faults) told)
    (subst (λ (old : Outside). P old (outside_of left after)) (ap (λ (x : Devices (List ℕ) ℕ ℕ). outside_of x before) is) holds)
