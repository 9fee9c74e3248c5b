use Rattle.std.proofs.Common.{sym, ◌∙◌}
use Rattle.asc_save.proofs.Parsing.{has_shape}
use Rattle.asc_save.proofs.loading.shape.Goals as goal

pub unreachable-requires : goal.unreachable-requires
unreachable-requires c = has_shape c.args.file.now c.word.result c.word-2.result c.if-file-eq1.version c.in-Err.field-0 c.requires c.word.ensures c.word-2.ensures (sym c.in-Err.is ∙ c.of.ensures)
