use Rattle.std.proofs.Common.{◌∙◌, ◌%◌, sym}
use Rattle.asc_shape.proofs.Pages.{put_elsewhere, length-page}
use Rattle.asc_shape.proofs.Strides.{page_strided}
use Rattle.asc_shape.proofs.page.stride_page.Goals as goal

pub returns-clause-page : goal.returns-clause-page
returns-clause-page c target same =
    let bytes = c.args.bytes.now in
    page_strided c.args.ahead bytes target c.stride.new.words c.whole_page.result.now c.args.p c.ends-from.result.0 c.ends-from.result.1 c.ends-from.ensures.from c.ends-from.ensures.to c.requires.page c.requires.whole
    (c.stride.auto.words ∙ length-page c.args.p c.ends-from.result.0 c.ends-from.result.1 bytes c.ends-from.ensures.from c.ends-from.ensures.to c.requires.page) c.stride.ensures
    (λ i here. same i here ∙ sym (c.whole_page.ensures.same (i % 1024)))

pub returns-clause-others : goal.returns-clause-others
returns-clause-others c =
    let bytes = c.args.bytes.now in
    put_elsewhere bytes c.stride.new.words c.args.p c.ends-from.result.0 c.ends-from.result.1 c.ends-from.ensures.from c.ends-from.ensures.to c.requires.page
    (c.stride.auto.words ∙ length-page c.args.p c.ends-from.result.0 c.ends-from.result.1 bytes c.ends-from.ensures.from c.ends-from.ensures.to c.requires.page)
