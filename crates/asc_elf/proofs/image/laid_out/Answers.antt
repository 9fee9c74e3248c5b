use Rattle.std.proofs.Common.{◌≡◌, ℕ, Bool, ◌*◌, ◌/◌, ◌+◌, ◌%◌, Ok, refl, sym, ap, ◌∙◌, arith, inl, inr}
use Rattle.asc_model.specs.Shape.{Shape, holds}
use Rattle.asc_elf.specs.Image.{shape_for, image_for}
use Rattle.asc_elf.proofs.Faults.{image_of-layout, image_of-Ok, laid_out-Err, laid_out-Ok, layout-TooLarge_memory, layout-TooLarge_segment, layout-Entry, cases-None}
use Rattle.asc_elf.proofs.image.laid_out.Goals as goal
use Rattle.asc_elf.proofs.image.laid_out.Goals.{then-not-is_multiple_of-via-then-not-is_multiple_of, then-not-is_multiple_of-via-else-not-is_multiple_of+then-not-holds}

-- whether an entry is in memory, for the shape and the entry that a file says
held-entry : (shape other : Shape) (entry same : ℕ) (answer : Bool) → shape ≡ other → entry ≡ same → holds shape entry 4 ≡ answer → holds other same 4 ≡ answer
held-entry shape other entry same answer e f h = rw (sym e) (rw (sym f) h)

pub returns-in_default : goal.returns-in_default
returns-in_default c =
    let file = c.args.file.now in
    let past = laid_out-Err file _ _ _ c.in_default.field-0 c.lowest-lowest.ensures c.requires.size (sym c.in_default.is ∙ c.of.ensures) in
    sym (image_of-layout _ _ _ _ c.requires.whole (layout-TooLarge_memory file (shape_for file c.args.size c.args.version) past))

pub returns-then-stack-highest : goal.returns-then-stack-highest
returns-then-stack-highest c =
    let file = c.args.file.now in
    let place = laid_out-Ok file _ _ _ c.in-Ok.shape c.lowest-lowest.ensures (sym c.in-Ok.is ∙ c.of.ensures) in
    let base = ap (λ (s : Shape). s.base) place.0 in
    sym (image_of-layout _ _ _ _ c.requires.whole (layout-TooLarge_segment file (shape_for file c.args.size c.args.version) (omega (arith, base))))

pub returns-then-not-is_multiple_of : goal.returns-then-not-is_multiple_of
returns-then-not-is_multiple_of c =
    let file = c.args.file.now in
    let place = laid_out-Ok file _ _ _ c.in-Ok.shape c.lowest-lowest.ensures (sym c.in-Ok.is ∙ c.of.ensures) in
    let base = ap (λ (s : Shape). s.base) place.0 in
    sym (image_of-layout _ _ _ _ c.requires.whole (layout-Entry file (shape_for file c.args.size c.args.version) place.1 (omega (arith, base))
    (elim c.then-not-is_multiple_of.branch [
      | then-not-is_multiple_of-via-then-not-is_multiple_of w ↦ inl (λ e. let aligned = sym w.if-not-is_multiple_of.true ∙ c.is_multiple_of.ensures.1 (ap (λ n. n % 4) c.e_entry-entry.ensures ∙ e) in cc)
      | then-not-is_multiple_of-via-else-not-is_multiple_of+then-not-holds w ↦ inr (held-entry _ _ _ _ _ place.0 c.e_entry-entry.ensures (sym w.holds.ensures ∙ w.if-not-holds.true))
    ])))

pub invariant_of-result : goal.invariant_of-result
invariant_of-result c =
    let file = c.args.file.now in
    let place = laid_out-Ok file _ _ _ c.in-Ok.shape c.lowest-lowest.ensures (sym c.in-Ok.is ∙ c.of.ensures) in
    let base = ap (λ (s : Shape). s.base) place.0 in
    let aligned = c.is_multiple_of.ensures.0 c.if-not-is_multiple_of.false in
    record {
      laid_out = rw (place.0) refl;
      no_fault = rw (place.0) (cases-None file (shape_for file c.args.size c.args.version) c.requires.whole place.1 (omega (arith, base)) (omega (arith, aligned)) (held-entry _ _ _ _ _ place.0 c.e_entry-entry.ensures (sym c.holds.ensures ∙ c.if-not-holds.false)));
      begins = c.e_entry-entry.ensures;
      breaks = ap (λ n. (n + 15) / 16 * 16) c.highest-highest.ensures;
    }

pub returns : goal.returns
returns c =
    let file = c.args.file.now in
    let place = laid_out-Ok file _ _ _ c.in-Ok.shape c.lowest-lowest.ensures (sym c.in-Ok.is ∙ c.of.ensures) in
    let base = ap (λ (s : Shape). s.base) place.0 in
    let aligned = c.is_multiple_of.ensures.0 c.if-not-is_multiple_of.false in
    ap (λ (s : Shape). Ok (image_for file s)) place.0
    ∙ sym (image_of-Ok file c.args.size c.args.version (cases-None file (shape_for file c.args.size c.args.version) c.requires.whole place.1 (omega (arith, base)) (omega (arith, aligned)) (held-entry _ _ _ _ _ place.0 c.e_entry-entry.ensures (sym c.holds.ensures ∙ c.if-not-holds.false))))
