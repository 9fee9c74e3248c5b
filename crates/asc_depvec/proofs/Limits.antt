-- The cap and the shape of a tracer, from the cap that its face tells.
use Rattle.std.proofs.Common.{◌≡◌, ℕ, ◌≤◌, List, [], ◌∷◌, refl, sym, ap, ◌∙◌, arith}
use Rattle.asc_model.proofs.Shapes.{is_same_shape-true}
use Rattle.asc_shape.specs.Face.{Face, Marks, Untold, Told, face_after_read, face_after_put, face_after_reads, face_after_puts}
use Rattle.asc_shape.proofs.Faces.{state-reads, state-puts}
use Rattle.asc_depvec.specs.Tracer.{Tracing, cap_of, face_of}
use Rattle.asc_depvec.specs.Laws.{LimitsStay}

-- the cap that marks tell
abbrev told_cap : Marks → ℕ
told_cap Untold = 0
told_cap (Told cap statuses touched) = cap

told_cap-read : (f : Face) (place : ℕ) → told_cap (face_after_read f place).marks ≡ told_cap f.marks
unfolding face_after_read
told_cap-read f place = grind arith

told_cap-put : (f : Face) (place byte : ℕ) → told_cap (face_after_put f place byte).marks ≡ told_cap f.marks
unfolding face_after_put
told_cap-put f place byte = grind arith

-- the cap in the marks stays through reads and through puts
told_cap-reads : (f : Face) (places : List ℕ) → told_cap (face_after_reads f places).marks ≡ told_cap f.marks
unfolding face_after_reads
told_cap-reads f [] = refl
told_cap-reads f (place ∷ places) = told_cap-reads (face_after_read f place) places ∙ told_cap-read f place

told_cap-puts : (f : Face) (cells : List (ℕ × ℕ)) → told_cap (face_after_puts f cells).marks ≡ told_cap f.marks
unfolding face_after_puts
told_cap-puts f [] = refl
told_cap-puts f (cell ∷ cells) = told_cap-puts (face_after_put f cell.0 cell.1) cells ∙ told_cap-put f cell.0 cell.1

-- a tracer that may touch a place has a state of its shape, and its face tells its cap
limits_told : (t : Tracing) → 1 ≤ cap_of t → (t.state.shape ≡ t.shape) × (cap_of t ≡ t.cap)
limits_told t some = grind (arith, is_same_shape-true)

pub limits_stay : LimitsStay
limits_stay before now places cells some is =
    let read = face_after_reads (face_of before) places in
    let cap : cap_of now ≡ cap_of before =
    ap (λ (f : Face). told_cap f.marks) is ∙ told_cap-puts read cells ∙ told_cap-reads (face_of before) places in
    let shape : now.state.shape ≡ before.state.shape = ap (λ (f : Face). f.state.shape) is ∙ rw (state-puts, state-reads) in
    let first = limits_told before some in
    let second = limits_told now (omega (arith, cap)) in
    (sym second.0 ∙ shape ∙ first.0, sym second.1 ∙ cap ∙ first.1)
