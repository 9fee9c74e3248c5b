use Rattle.std.proofs.Common.{◌∙◌, ◌/◌, ◌<◌, get_or, length, refl, arith}
use Rattle.std.proofs.lemmas.List.{length-set}
use Rattle.asc_traj.proofs.Parts.{part}
use Rattle.asc_shard.proofs.Words.{low-more, words-more}
use Rattle.asc_shard.proofs.heads.words_of.Goals as goal

pub loop-len-init : goal.loop-len-init
loop-len-init c = record { room = refl; most = omega arith; fit = omega arith; low = λ k d lt. absurd (omega arith); places = refl }

pub loop-len-preserved : goal.loop-len-preserved
loop-len-preserved c =
    let v = c.loop-len.invariant in
    let parts = c.args.parts.now in
    let i = c.loop-len.len in
    let word = (get_or parts i (part 0 0)).at / 16 in
    let room : i < length c.loop-len.words = omega (arith, v.room, v.fit, c.if-len-eq32.false) in
    let low = c.requires i (part 0 0) c.loop-len-test.true in
    record {
      room = length-set c.loop-len.words i word ∙ v.room;
      most = omega arith;
      fit = omega (arith, v.fit, c.if-len-eq32.false);
      low = low-more c.loop-len.words i word room (omega (arith, low)) v.low;
      places = words-more parts c.loop-len.words i word c.loop-len-test.true room (omega (arith, c.if-parts-len-ne15.false)) refl v.places;
    }
