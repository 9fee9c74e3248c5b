use Rattle.std.proofs.Common.{ℕ, List, [], ◌∷◌, ◌++◌, slice_set, ap, ◌∙◌}
use borrow.Rule.Slice.PartMut.{put_mid}
use Rattle.asc_model.specs.Number.{bytes_of}
use Rattle.asc_model.specs.EntryFile.{machine_number}
use Rattle.asc_save.proofs.Putting.{word_put}
use Rattle.asc_save.proofs.writing.header.Goals as goal

-- the parts of a header, put over zeros
abbrev put_over : List ℕ → ℕ → (base size count : List ℕ) → List ℕ
put_over first version base size count =
    put_mid 16 4 (put_mid 12 4 (put_mid 8 4 (slice_set (slice_set (first ++ 0 ∷ 0 ∷ 0 ∷ 0 ∷ 0 ∷ 0 ∷ 0 ∷ 0 ∷ 0 ∷ 0 ∷ 0 ∷ 0 ∷ 0 ∷ 0 ∷ 0 ∷ 0 ∷ []) 4 1) 5 version) base) size) count

pub returns : goal.returns
returns c =
    let first = c.copy_from_slice.ensures.after in
    let version = c.machine_number.ensures ∙ ap machine_number c.version.ensures in
    let base = word_put c.write_u32.new.buf _ c.base.result c.write_u32.ensures ∙ ap (bytes_of 4) c.base.ensures.base in
    let size = word_put c.write_u32-2.new.buf _ c.size.result c.write_u32-2.ensures ∙ ap (bytes_of 4) c.size.ensures in
    let count = word_put c.write_u32-3.new.buf _ c.args.count c.write_u32-3.ensures in
    λ i. put_over (first i) (version i) (base i) (size i) (count i)
