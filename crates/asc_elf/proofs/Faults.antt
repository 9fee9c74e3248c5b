-- Lemmas on the first fault of a file.
use Rattle.std.proofs.Common.{◌≡◌, ◌≢◌, ℕ, ◌+◌, ◌-◌, ◌%◌, ◌^◌, ◌<◌, ◌≤◌, true, false, cond, List, [], ◌∷◌, ◌++◌, Option, Some, None, Result, Ok, Err, IsTrue, ◌⊎◌, refl, sym, ap, ◌∙◌, subst, arith}
use Rattle.std.specs.Option.{option_or}
use Rattle.std.proofs.lemmas.Bool.Decides.{nat_tests}
use Rattle.asc_model.specs.declared.version.Version.{Version}
use Rattle.asc_model.specs.Shape.{Shape, holds, is_size}
use Rattle.asc_shape.specs.declared.shape.ShapeFault.{ShapeFault}
use Rattle.asc_shape.specs.Shape.{shape_of}
use Rattle.asc_elf.specs.declared.fault.ElfFault.{ElfFault}
use Rattle.asc_elf.specs.declared.fault.ElfFault.TheVariants.{TooLarge, Entry}
use Rattle.asc_elf.specs.File.{e_entry, segments}
use Rattle.asc_model.specs.Case.{Case, first_fault}
use Rattle.asc_model.proofs.Cases.{first_fault-append}
use Rattle.asc_elf.specs.Image.{header_cases, table_cases, segment_cases, layout_cases, cases, lowest_address, highest_end, base_of, shape_for, stack_of, Image, image_for, image_of}
use Rattle.asc_elf.specs.Checked.{IsWhole}

-- the first fault of four
first_fault-append_4 : (a b c d : List (Case ElfFault)) → first_fault (a ++ b ++ c ++ d) ≡ option_or (option_or (option_or (first_fault a) (first_fault b)) (first_fault c)) (first_fault d)
first_fault-append_4 a b c d =
    first_fault-append (a ++ b ++ c) d
    ∙ ap (λ o. option_or o (first_fault d)) (first_fault-append (a ++ b) c ∙ ap (λ o. option_or o (first_fault c)) (first_fault-append a b))

-- where the first of four lists has a fault
fault_1 : (a b c d : List (Case ElfFault)) (fault : ElfFault) → first_fault a ≡ Some fault → first_fault (a ++ b ++ c ++ d) ≡ Some fault
fault_1 a b c d fault e = first_fault-append_4 a b c d ∙ ap (λ o. option_or (option_or (option_or o (first_fault b)) (first_fault c)) (first_fault d)) e

-- where the second has
fault_2 : (a b c d : List (Case ElfFault)) (fault : ElfFault) → first_fault a ≡ None → first_fault b ≡ Some fault → first_fault (a ++ b ++ c ++ d) ≡ Some fault
fault_2 a b c d fault p e =
    first_fault-append_4 a b c d
    ∙ ap (λ o. option_or (option_or (option_or o (first_fault b)) (first_fault c)) (first_fault d)) p
    ∙ ap (λ o. option_or (option_or o (first_fault c)) (first_fault d)) e

-- where the third has
fault_3 : (a b c d : List (Case ElfFault)) (fault : ElfFault) → first_fault a ≡ None → first_fault b ≡ None → first_fault c ≡ Some fault → first_fault (a ++ b ++ c ++ d) ≡ Some fault
fault_3 a b c d fault p q e =
    first_fault-append_4 a b c d
    ∙ ap (λ o. option_or (option_or (option_or o (first_fault b)) (first_fault c)) (first_fault d)) p
    ∙ ap (λ o. option_or (option_or o (first_fault c)) (first_fault d)) q
    ∙ ap (λ o. option_or o (first_fault d)) e

-- where the first three have none
fault_4 : (a b c d : List (Case ElfFault)) → first_fault a ≡ None → first_fault b ≡ None → first_fault c ≡ None → first_fault (a ++ b ++ c ++ d) ≡ first_fault d
fault_4 a b c d p q r =
    first_fault-append_4 a b c d
    ∙ ap (λ o. option_or (option_or (option_or o (first_fault b)) (first_fault c)) (first_fault d)) p
    ∙ ap (λ o. option_or (option_or o (first_fault c)) (first_fault d)) q
    ∙ ap (λ o. option_or o (first_fault d)) r

-- a fault or an image as a result
abbrev answer : Option ElfFault → Image → Result Image ElfFault
answer fault image = elim fault [ Some first ↦ Err first | None ↦ Ok image ]

-- the image by the first fault
image_of-answer : (file : List ℕ) (size : ℕ) (version : Version) → image_of file size version ≡ answer (first_fault (cases file (shape_for file size version))) (image_for file (shape_for file size version))
unfolding image_of
image_of-answer file size version = refl

-- a file with a fault in its header
pub image_of-header : (file : List ℕ) (size : ℕ) (version : Version) (fault : ElfFault) → first_fault (header_cases file) ≡ Some fault → image_of file size version ≡ Err fault
image_of-header file size version fault e =
    let shape = shape_for file size version in
    image_of-answer file size version
    ∙ ap (λ o. answer o (image_for file shape)) (fault_1 (header_cases file) (table_cases file) (segment_cases file) (layout_cases file shape) fault e)

-- a file with a fault in its table of program headers
pub image_of-table : (file : List ℕ) (size : ℕ) (version : Version) (fault : ElfFault) → first_fault (header_cases file) ≡ None
    → first_fault (table_cases file) ≡ Some fault → image_of file size version ≡ Err fault
image_of-table file size version fault p e =
    let shape = shape_for file size version in
    image_of-answer file size version
    ∙ ap (λ o. answer o (image_for file shape)) (fault_2 (header_cases file) (table_cases file) (segment_cases file) (layout_cases file shape) fault p e)

-- a file with a fault in its program headers
pub image_of-segments : (file : List ℕ) (size : ℕ) (version : Version) (fault : ElfFault) → first_fault (header_cases file) ≡ None
    → first_fault (table_cases file) ≡ None → first_fault (segment_cases file) ≡ Some fault → image_of file size version ≡ Err fault
image_of-segments file size version fault p q e =
    let shape = shape_for file size version in
    image_of-answer file size version
    ∙ ap (λ o. answer o (image_for file shape)) (fault_3 (header_cases file) (table_cases file) (segment_cases file) (layout_cases file shape) fault p q e)

-- the first fault of a file that has none but maybe one of its place in memory
pub first_fault-cases : (file : List ℕ) (shape : Shape) → IsWhole file → first_fault (cases file shape) ≡ first_fault (layout_cases file shape)
first_fault-cases file shape whole =
    fault_4 (header_cases file) (table_cases file) (segment_cases file) (layout_cases file shape) whole.header whole.table whole.segments

-- a file with a fault of its place in memory
pub image_of-layout : (file : List ℕ) (size : ℕ) (version : Version) (fault : ElfFault) → IsWhole file
    → first_fault (layout_cases file (shape_for file size version)) ≡ Some fault → image_of file size version ≡ Err fault
image_of-layout file size version fault whole e =
    let shape = shape_for file size version in
    image_of-answer file size version ∙ ap (λ o. answer o (image_for file shape)) (first_fault-cases file shape whole ∙ e)

-- a file with no fault
pub image_of-Ok : (file : List ℕ) (size : ℕ) (version : Version) → first_fault (cases file (shape_for file size version)) ≡ None
    → image_of file size version ≡ Ok (image_for file (shape_for file size version))
image_of-Ok file size version e =
    image_of-answer file size version ∙ ap (λ o. answer o (image_for file (shape_for file size version))) e

-- an image is an answer only where there is no fault
answer_Ok : (o : Option ElfFault) (first image : Image) → answer o first ≡ Ok image → (o ≡ None) × (image ≡ first)
answer_Ok None first image e = (refl, cc)
answer_Ok (Some fault) first image e = cc

-- what an image says
pub image_of-Ok_parts : (file : List ℕ) (size : ℕ) (version : Version) (image : Image) → image_of file size version ≡ Ok image
    → (first_fault (cases file (shape_for file size version)) ≡ None) × (image ≡ image_for file (shape_for file size version))
image_of-Ok_parts file size version image e =
    answer_Ok (first_fault (cases file (shape_for file size version))) (image_for file (shape_for file size version)) image (sym (image_of-answer file size version) ∙ e)

-- the only fault of a shape with a good size at a page
pub shape_of-Err : (base size : ℕ) (version : Version) (fault : ShapeFault) → base % 4096 ≡ 0 → IsTrue (is_size size) → Err fault ≡ shape_of base size version → 2 ^ 32 < base + size
shape_of-Err base size version fault page good e = grind (arith, nat_tests)

-- a shape
pub shape_of-Ok : (base size : ℕ) (version : Version) (shape : Shape) → Ok shape ≡ shape_of base size version
    → (shape ≡ record { base = base; size = size; version = version }) × (base + size ≤ 2 ^ 32)
shape_of-Ok base size version shape e = grind (arith, nat_tests)

-- no shape at the page of the lowest segment
pub laid_out-Err : (file : List ℕ) (low size : ℕ) (version : Version) (fault : ShapeFault) → low ≡ lowest_address (segments file) → IsTrue (is_size size)
    → Err fault ≡ shape_of (low - low % 4096) size version → 2 ^ 32 < base_of file + size
laid_out-Err file low size version fault same good e =
    let past = shape_of-Err (low - low % 4096) size version fault (omega arith) good e in
    subst (λ n. 2 ^ 32 < n - n % 4096 + size) same past

-- the shape at the page of the lowest segment
pub laid_out-Ok : (file : List ℕ) (low size : ℕ) (version : Version) (shape : Shape) → low ≡ lowest_address (segments file)
    → Ok shape ≡ shape_of (low - low % 4096) size version → (shape ≡ shape_for file size version) × (base_of file + size ≤ 2 ^ 32)
laid_out-Ok file low size version shape same e =
    shape_of-Ok (base_of file) size version shape (e ∙ ap (λ n. shape_of (n - n % 4096) size version) same)

-- memory passes the last address
pub layout-TooLarge_memory : (file : List ℕ) (shape : Shape) → 2 ^ 32 < shape.base + shape.size → first_fault (layout_cases file shape) ≡ Some TooLarge
layout-TooLarge_memory file shape past = grind (arith, nat_tests)

-- a segment passes the end that is left to it
pub layout-TooLarge_segment : (file : List ℕ) (shape : Shape) → stack_of shape < highest_end (segments file) → first_fault (layout_cases file shape) ≡ Some TooLarge
layout-TooLarge_segment file shape past = grind (arith, nat_tests)

-- the entry is not a multiple of 4, or not in memory
pub layout-Entry : (file : List ℕ) (shape : Shape) → shape.base + shape.size ≤ 2 ^ 32 → highest_end (segments file) ≤ stack_of shape
    → (e_entry file % 4 ≢ 0) ⊎ (holds shape (e_entry file) 4 ≡ false) → first_fault (layout_cases file shape) ≡ Some Entry
layout-Entry file shape within room entry = grind (arith, nat_tests)

-- no fault of its place in memory
layout-None : (file : List ℕ) (shape : Shape) → shape.base + shape.size ≤ 2 ^ 32 → highest_end (segments file) ≤ stack_of shape
    → e_entry file % 4 ≡ 0 → holds shape (e_entry file) 4 ≡ true → first_fault (layout_cases file shape) ≡ None
layout-None file shape within room aligned held = grind (arith, nat_tests)

-- no fault
pub cases-None : (file : List ℕ) (shape : Shape) → IsWhole file → shape.base + shape.size ≤ 2 ^ 32 → highest_end (segments file) ≤ stack_of shape
    → e_entry file % 4 ≡ 0 → holds shape (e_entry file) 4 ≡ true → first_fault (cases file shape) ≡ None
cases-None file shape whole within room aligned held =
    first_fault-cases file shape whole ∙ layout-None file shape within room aligned held
