use Rattle.std.proofs.Common.{ℕ, List, [], ◌∷◌, ◌++◌, ◌∙◌}
use borrow.Rule.Slice.PartMut.{put_mid}
use Rattle.asc_save.proofs.Putting.{eight_bytes, word_put}
use Rattle.asc_save.proofs.writing.counts.Goals as goal

-- three numbers, put over zeros
abbrev put_over : (steps reads writes : List ℕ) → List ℕ
put_over steps reads writes = put_mid 12 4 (put_mid 8 4 (steps ++ 0 ∷ 0 ∷ 0 ∷ 0 ∷ 0 ∷ 0 ∷ 0 ∷ 0 ∷ []) reads) writes

pub returns : goal.returns
returns c =
    let steps = c.write_u64.ensures ∙ eight_bytes c.args.steps in
    let reads = word_put c.write_u32.new.buf _ c.args.reads c.write_u32.ensures in
    let writes = word_put c.write_u32-2.new.buf _ c.args.writes c.write_u32-2.ensures in
    λ i. put_over (steps i) (reads i) (writes i)
