use Rattle.std.proofs.Common.{◌≡◌, ◌≢◌, ◌∙◌, ◌*◌, ◌/◌, inl, inr, arith}
use Rattle.std.proofs.lemmas.Bool.{cases_lt}
use Rattle.asc_shape.proofs.Eights.{strided_after}
use Rattle.asc_shape.proofs.page.stride_pages.Goals as goal

pub loop-p-preserved : goal.loop-p-preserved
loop-p-preserved c =
    let p = c.loop-p.p in
    let so = c.loop-p.invariant in
    record {
      size = c.stride_page.auto.bytes ∙ so.size;
      done = λ i below inside. elim (cases_lt (i / 1024) p) [
        | inl before ↦ let other : i / 1024 ≢ p = omega arith in c.stride_page.ensures.others i other ∙ so.done i before inside
        | inr least ↦
            let here : i / 1024 ≡ p = omega arith in
            c.stride_page.ensures.page c.args.pages.now c.page.ensures.page i here (omega (arith, inside, so.size))
            ∙ strided_after c.args.ahead c.args.bytes.now c.args.pages.now c.loop-p.bytes (1024 * p) i (omega arith) (omega arith) (λ j far. so.left j (omega arith))
      ];
      left = λ i above. let other : i / 1024 ≢ p = omega arith in c.stride_page.ensures.others i other ∙ so.left i (omega arith);
    }
