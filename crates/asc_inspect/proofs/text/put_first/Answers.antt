-- The line of a word, and of a byte.
use Rattle.std.proofs.Common.{ap, sym, ◌∙◌, option_map}
use Rattle.asc_inspect.proofs.Texts.{word-put, byte-put}
use Rattle.asc_inspect.proofs.text.put_first.Goals as goal

pub returns-in_ok-put_line-clause-text : goal.returns-in_ok-put_line-clause-text
returns-in_ok-put_line-clause-text c =
    word-put c.args.shape c.args.cells.now c.in-Some.bytes _ _ (sym c.word_of.ensures ∙ ap (option_map (λ bytes. bytes)) c.in-Some.is) (c.in_ok-put_line.ensures)

pub returns-in_ok-put_line-2-clause-text : goal.returns-in_ok-put_line-2-clause-text
returns-in_ok-put_line-2-clause-text c =
    byte-put c.args.shape c.args.cells.now _ _ c.requires.some (sym c.word_of.ensures ∙ ap (option_map (λ bytes. bytes)) c.in_default.is) (c.in_ok-put_line-2.ensures)
