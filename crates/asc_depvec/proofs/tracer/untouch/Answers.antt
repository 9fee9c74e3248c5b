use Rattle.std.proofs.Common.{arith}
use Rattle.asc_depvec.specs.Inside.{statuses_of}
use Rattle.asc_depvec.proofs.Items.{place_within, without_place, without_word, word_within}
use Rattle.asc_depvec.proofs.tracer.untouch.Goals as goal

pub mark_word-requires : goal.mark_word-requires
mark_word-requires c = word_within _ c.args.item c.if-item-eq1.true c.requires

pub bounds-marks-place : goal.bounds-marks-place
bounds-marks-place c = place_within _ c.args.item (omega (arith, c.if-item-eq1.false)) c.requires

pub returns-then-item-eq1 : goal.returns-then-item-eq1
returns-then-item-eq1 c = without_word (statuses_of c.args.marks.now) _ c.args.item c.if-item-eq1.true c.mark_word.ensures.statuses

pub returns-else-item-eq1 : goal.returns-else-item-eq1
returns-else-item-eq1 c = without_place c.args.marks.now c.args.item (omega (arith, c.if-item-eq1.false))
