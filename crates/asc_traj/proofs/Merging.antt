-- Two entries merged, word by word.
use Rattle.std.proofs.Common.{◌≡◌, ℕ, zero, suc, ◌+◌, ◌-◌, ◌*◌, ◌/◌, ◌%◌, ◌^◌, ◌<◌, ◌≤◌, ◌==◌, Bool, true, false, List, [], ◌++◌, length, min, Option, Some, None, if◌then◌else◌, refl, sym, ap, subst, ◌∙◌, inl, inr, arith, append-nil}
use Rattle.std.specs.Prelude.{All, vec_capacity, vec_len}
use Rattle.std.specs.List.{cons_option}
use Rattle.std.specs.Option.{is_some, option_map, option_or}
use Rattle.std.proofs.lemmas.Bool.{and_from, and_parts, cases_lt, cond-false, cond-true, false_from_ne_true, false≢true}
use Rattle.std.proofs.lemmas.List.Elements.{filter_map-append}
use Rattle.std.proofs.lemmas.List.Sums.{list_all-from_AllPass}
use Rattle.std.proofs.lemmas.Option.{none-some, same_Some}
use Rattle.std.proofs.lemmas.Bool.Decides.{nat_tests}
use Rattle.asc_model.specs.Shape.{Shape, length_of}
use Rattle.asc_model.specs.Entry.{Entry, IsListing, IsTrueEntry}
use Rattle.asc_model.specs.Join.{agrees, byte_in, can_join, join_of, known_after, left_by_both, read_by_both, reads_agree}
use Rattle.asc_model.proofs.Joins.{all_cells as cells_all, cells_from, each_cell, join_of-is, joined, listing-rises, none_some, tested}
use Rattle.asc_depvec.proofs.Bits.{places_from-append}
use Rattle.asc_depvec.proofs.Insides.{low_shape}
use Rattle.asc_traj.specs.declared.part.Part.{Part}
use Rattle.asc_traj.specs.declared.entry.Halves.{Halves}
use Rattle.asc_traj.specs.declared.join.WordBytes.{WordBytes}
use Rattle.asc_traj.specs.Parts.{all_cells, masked}
use Rattle.asc_traj.specs.Inside.{AreHalves}
use Rattle.asc_traj.specs.Joining.{HasHalves, HasTaken, Rises, byte_of, first_of, meets, meets_all, next_of}
use Rattle.asc_traj.proofs.Parts.{div-one, here}
use Rattle.asc_traj.proofs.Masks.{shift-down}
use Rattle.asc_traj.proofs.Taking.{none-before}

-- ---- the cells of a map, in parts

-- a place with its byte, where it has one
abbrev cell_at : ℕ → Option ℕ → Option (ℕ × ℕ)
cell_at place o = option_map (λ byte. (place, byte)) o

cells_from-append : (R : ℕ → Option ℕ) (place m n : ℕ) → cells_from R place (m + n) ≡ cells_from R place m ++ cells_from R (place + m) n
cells_from-append R place m n = grind (arith, nat_tests, filter_map-append, places_from-append)

cells_from-none : (R : ℕ → Option ℕ) (place n : ℕ) → ((p : ℕ) → place ≤ p → p < place + n → R p ≡ None) → cells_from R place n ≡ []
cells_from-none R place zero h = refl
cells_from-none R place (suc n) h =
    ap (λ (o : Option ℕ). cons_option (cell_at place o) (cells_from R (place + 1) n)) (h place (omega arith) (omega arith))
    ∙ cells_from-none R (place + 1) n (λ p least most. h p (omega (arith, least)) (omega (arith, most)))

-- places behind which there is no byte
cells_from-more : (R : ℕ → Option ℕ) (m n : ℕ) → m ≤ n → ((p : ℕ) → m ≤ p → p < n → R p ≡ None) → cells_from R 0 m ≡ cells_from R 0 n
cells_from-more R m n le h =
    let all : m + (n - m) ≡ n = omega (arith, le) in
    sym (ap (cells_from R 0) (sym all) ∙ cells_from-append R 0 m (n - m)
    ∙ ap (λ (list : List (ℕ × ℕ)). cells_from R 0 m ++ list) (cells_from-none R (0 + m) (n - m) (λ p least most. h p (omega (arith, least)) (omega (arith, most, le))))
    ∙ append-nil (cells_from R 0 m))

here-cons : (b : Bool) (place byte : ℕ) (rest : List (ℕ × ℕ)) → here b (place, byte) ++ rest ≡ cons_option (cell_at place (if b then Some byte else None)) rest
here-cons b place byte rest = grind arith

-- the bytes of a mask, where a map has just them
masked-is : (R : ℕ → Option ℕ) (n mask place word : ℕ) → ((k : ℕ) → k < n → (if mask / 2 ^ k % 2 == 1 then Some (word / 256 ^ k % 256) else None) ≡ R (place + k))
    → masked n mask place word ≡ cells_from R place n
unfolding masked
masked-is R zero mask place word h = refl
masked-is R (suc n) mask place word h =
    let begin : place + 0 ≡ place = omega arith in
    let first : (if mask % 2 == 1 then Some (word % 256) else None) ≡ R place =
    sym (λ i. if div-one mask i % 2 == 1 then Some (div-one word i % 256) else None) ∙ h 0 (omega arith) ∙ ap R begin in
    let later = masked-is R n (mask / 2) (place + 1) (word / 256) (λ k lt.
    let next : place + suc k ≡ place + 1 + k = omega arith in
    (λ i. if shift-down mask 2 k i % 2 == 1 then Some (shift-down word 256 k i % 256) else None) ∙ h (suc k) (omega (arith, lt)) ∙ ap R next) in
    here-cons (mask % 2 == 1) place (word % 256) (masked n (mask / 2) (place + 1) (word / 256)) ∙ λ i. cons_option (cell_at place (first i)) (later i)

-- ---- bytes of one place

if-none : (b : Bool) (x y : Option ℕ) → x ≡ None → y ≡ None → (if b then x else y) ≡ None
if-none b x y e f = grind arith

-- what a reads, and what b reads where a tells nothing
read-is : (aw ar br : Option ℕ) → option_or ar (if is_some (option_or aw ar) then None else br) ≡ (if is_some (option_or aw ar) then ar else br)
read-is aw ar br = grind arith

meets-agrees : (told read : Option ℕ) (byte : ℕ) → meets told read ≡ true → read ≡ Some byte → agrees told byte ≡ true
meets-agrees told None byte h e = absurd (none-some byte e)
meets-agrees told (Some x) byte h e = subst (λ (v : ℕ). agrees told v ≡ true) (same_Some x byte e) h

agrees-meets : (told read : Option ℕ) → ((byte : ℕ) → read ≡ Some byte → agrees told byte ≡ true) → meets told read ≡ true
agrees-meets told None h = refl
agrees-meets told (Some x) h = h x refl

meets-each : (told read : WordBytes) → meets_all told read ≡ true → (k : ℕ) → k < 4 → meets (byte_of told k) (byte_of read k) ≡ true
meets-each told read h zero lt = (and_parts _ _ (and_parts _ _ (and_parts _ _ h).0).0).0
meets-each told read h (suc zero) lt = (and_parts _ _ (and_parts _ _ (and_parts _ _ h).0).0).1
meets-each told read h (suc (suc zero)) lt = (and_parts _ _ (and_parts _ _ h).0).1
meets-each told read h (suc (suc (suc zero))) lt = (and_parts _ _ h).1
meets-each told read h (suc (suc (suc (suc k)))) lt = absurd (omega arith)

each-meets : (told read : WordBytes) → ((k : ℕ) → k < 4 → meets (byte_of told k) (byte_of read k) ≡ true) → meets_all told read ≡ true
each-meets told read h =
    and_from _ _ (and_from _ _ (and_from _ _ (h 0 (omega arith)) (h 1 (omega arith))) (h 2 (omega arith))) (h 3 (omega arith))

-- ---- on the way

-- of cells those from a place on are left
pub record IsLeft (from : ℕ) (cells : List (ℕ × ℕ)) (rest : List Part) : Type 0 where
  pub rises : Rises rest
  pub others : (place : ℕ) → from ≤ place → byte_in (all_cells rest) place ≡ byte_in cells place

-- The words below one are compared of what a reads and leaves and of what b reads, and the others are left.
pub record IsTelling (a b : Entry) (next : ℕ) (ar aw br : List Part) : Type 0 where
  pub a_reads : IsLeft (4 * next) a.reads ar
  pub a_writes : IsLeft (4 * next) a.writes aw
  pub b_reads : IsLeft (4 * next) b.reads br
  pub told : (place byte : ℕ) → place < 4 * next → byte_in b.reads place ≡ Some byte → agrees (known_after a place) byte ≡ true

-- The words below one of two entries are merged, and of all their cells the others are left.
pub record IsMerging (a b : Entry) (next : ℕ) (ar aw br bw : List Part) (joined : Halves) : Type 0 where
  pub a_reads : IsLeft (4 * next) a.reads ar
  pub a_writes : IsLeft (4 * next) a.writes aw
  pub b_reads : IsLeft (4 * next) b.reads br
  pub b_writes : IsLeft (4 * next) b.writes bw
  pub reads : all_cells joined.reads.items ≡ cells_from (read_by_both a b) 0 (4 * next)
  pub writes : all_cells joined.writes.items ≡ cells_from (left_by_both a b) 0 (4 * next)
  pub parts : AreHalves joined
  pub room_reads : vec_len joined.reads + (length ar + length br) ≤ vec_capacity joined.reads
  pub room_writes : vec_len joined.writes + (length aw + length bw) ≤ vec_capacity joined.writes

-- the first word of which one of four lists has a part
abbrev pub next_of_all : (ar aw br bw : List Part) → ℕ
next_of_all ar aw br bw = min (next_of ar aw br) (first_of bw)

-- nothing of these cells is between
left-none : (from to : ℕ) (cells : List (ℕ × ℕ)) (rest : List Part) → IsLeft from cells rest → to ≤ first_of rest → (place : ℕ) → from ≤ place → place < 4 * to → byte_in cells place ≡ None
left-none from to cells rest h le place least most = sym (h.others place least) ∙ none-before rest place h.rises (omega (arith, le, most))

left-later : (from to : ℕ) (cells : List (ℕ × ℕ)) (rest : List Part) → from ≤ to → IsLeft from cells rest → IsLeft to cells rest
left-later from to cells rest le h = record { rises = h.rises; others = λ place least. h.others place (omega (arith, le, least)) }

-- words of which nothing is left are passed over
tell-on : (a b : Entry) (next : ℕ) (ar aw br : List Part) → IsTelling a b next ar aw br → next ≤ next_of ar aw br → IsTelling a b (next_of ar aw br) ar aw br
tell-on a b next ar aw br h le =
    let to = next_of ar aw br in
    let far : 4 * next ≤ 4 * to = omega (arith, le) in
    let no-br = left-none (4 * next) to b.reads br h.b_reads (omega arith) in
    record {
      a_reads = left-later (4 * next) (4 * to) a.reads ar far h.a_reads;
      a_writes = left-later (4 * next) (4 * to) a.writes aw far h.a_writes;
      b_reads = left-later (4 * next) (4 * to) b.reads br far h.b_reads;
      told = λ place byte lt is. elim (cases_lt place (4 * next)) [
        | inl below ↦ h.told place byte below is
        | inr past ↦ absurd (none_some (byte_in b.reads place) byte (no-br place past lt) is)
      ];
    }

merge-on : (a b : Entry) (next : ℕ) (ar aw br bw : List Part) (joined : Halves) → IsMerging a b next ar aw br bw joined → next ≤ next_of_all ar aw br bw
    → IsMerging a b (next_of_all ar aw br bw) ar aw br bw joined
merge-on a b next ar aw br bw joined h le =
    let to = next_of_all ar aw br bw in
    let far : 4 * next ≤ 4 * to = omega (arith, le) in
    let no-ar = left-none (4 * next) to a.reads ar h.a_reads (omega arith) in
    let no-aw = left-none (4 * next) to a.writes aw h.a_writes (omega arith) in
    let no-br = left-none (4 * next) to b.reads br h.b_reads (omega arith) in
    let no-bw = left-none (4 * next) to b.writes bw h.b_writes (omega arith) in
    record {
      a_reads = left-later (4 * next) (4 * to) a.reads ar far h.a_reads;
      a_writes = left-later (4 * next) (4 * to) a.writes aw far h.a_writes;
      b_reads = left-later (4 * next) (4 * to) b.reads br far h.b_reads;
      b_writes = left-later (4 * next) (4 * to) b.writes bw far h.b_writes;
      reads = h.reads ∙ cells_from-more (read_by_both a b) (4 * next) (4 * to) far
          (λ p least most. if-none (is_some (known_after a p)) (byte_in a.reads p) (byte_in b.reads p) (no-ar p least most) (no-br p least most));
      writes = h.writes ∙ cells_from-more (left_by_both a b) (4 * next) (4 * to) far
          (λ p least most i. option_or (no-bw p least most i) (no-aw p least most i));
      parts = h.parts;
      room_reads = h.room_reads;
      room_writes = h.room_writes;
    }

-- ---- one word

-- what was taken of those that are left
taken-bytes : (index : ℕ) (cells : List (ℕ × ℕ)) (parts rest : List Part) (found : WordBytes) → IsLeft (4 * index) cells parts → HasTaken index parts found rest
    → (k : ℕ) → k < 4 → byte_of found k ≡ byte_in cells (4 * index + k)
taken-bytes index cells parts rest found h taken k lt = taken.bytes k lt ∙ h.others (4 * index + k) (omega arith)

taken-left : (index : ℕ) (cells : List (ℕ × ℕ)) (parts rest : List Part) (found : WordBytes) → IsLeft (4 * index) cells parts → HasTaken index parts found rest
    → IsLeft (4 * (index + 1)) cells rest
taken-left index cells parts rest found h taken = record {
  rises = taken.rises;
  others = λ place least. taken.others place (omega (arith, least)) ∙ h.others place (omega (arith, least));
}

-- what a tells of a word is what was taken of its writes over what was taken of its reads
told-at : (a : Entry) (index : ℕ) (read written told : WordBytes) → ((k : ℕ) → k < 4 → byte_of read k ≡ byte_in a.reads (4 * index + k))
    → ((k : ℕ) → k < 4 → byte_of written k ≡ byte_in a.writes (4 * index + k)) → ((k : ℕ) → k < 4 → byte_of told k ≡ option_or (byte_of written k) (byte_of read k))
    → (k : ℕ) → k < 4 → byte_of told k ≡ known_after a (4 * index + k)
told-at a index read written told reads writes tells k lt = tells k lt ∙ λ i. option_or (writes k lt i) (reads k lt i)

module _ {a b : Entry} {index : ℕ} {ar aw br ar' aw' br' : List Part} {read written later : WordBytes} (told : WordBytes)
    (h : IsTelling a b index ar aw br) (t : HasTaken index ar read ar') (u : HasTaken index aw written aw') (v : HasTaken index br later br')
    (tells : (k : ℕ) → k < 4 → byte_of told k ≡ option_or (byte_of written k) (byte_of read k)) where
  told-is : (k : ℕ) → k < 4 → byte_of told k ≡ known_after a (4 * index + k)
  told-is = told-at a index read written told (taken-bytes index a.reads ar ar' read h.a_reads t) (taken-bytes index a.writes aw aw' written h.a_writes u) tells

  later-is : (k : ℕ) → k < 4 → byte_of later k ≡ byte_in b.reads (4 * index + k)
  later-is = taken-bytes index b.reads br br' later h.b_reads v

  -- where b reads a byte otherwise than a tells it, not all are told
  pub refused : meets_all told later ≡ false → reads_agree a b ≡ false
  refused differs = false_from_ne_true (reads_agree a b) (λ all. false≢true (sym differs ∙ each-meets told later (λ k lt.
      (λ i. meets (told-is k lt i) (later-is k lt i))
      ∙ agrees-meets (known_after a (4 * index + k)) (byte_in b.reads (4 * index + k)) (tested (λ cell. agrees (known_after a cell.0) cell.1) b.reads all (4 * index + k)))))

  -- where it reads each as a tells it, the words behind it of which something is left are next
  pub told-on : meets_all told later ≡ true → IsTelling a b (next_of ar' aw' br') ar' aw' br'
  told-on all = tell-on a b (index + 1) ar' aw' br' (record {
    a_reads = taken-left index a.reads ar ar' read h.a_reads t;
    a_writes = taken-left index a.writes aw aw' written h.a_writes u;
    b_reads = taken-left index b.reads br br' later h.b_reads v;
    told = λ place byte lt is. elim (cases_lt place (4 * index)) [
      | inl below ↦ h.told place byte below is
      | inr past ↦
          let k = place - 4 * index in
          let few : k < 4 = omega (arith, past, lt) in
          let there : 4 * index + k ≡ place = omega (arith, past) in
          let p = told-is k few ∙ ap (known_after a) there in
          let q = later-is k few ∙ ap (byte_in b.reads) there in
          meets-agrees (known_after a place) (byte_in b.reads place) byte (sym (λ i. meets (p i) (q i)) ∙ meets-each told later all k few) is
    ];
  }) (omega (arith, t.later, u.later, v.later))

-- ---- a word that is merged

-- what is taken of a word from all four, and what is made of it
pub record HasMerged (index : ℕ) (read written later later_written told reads writes : WordBytes) (joined after : Halves) : Type 0 where
  pub tells : (k : ℕ) → k < 4 → byte_of told k ≡ option_or (byte_of written k) (byte_of read k)
  pub picks : (k : ℕ) → k < 4 → byte_of reads k ≡ option_or (byte_of read k) (if is_some (byte_of told k) then None else byte_of later k)
  pub leaves : (k : ℕ) → k < 4 → byte_of writes k ≡ option_or (byte_of later_written k) (byte_of written k)
  pub pushed_reads : all_cells after.reads.items ≡ all_cells joined.reads.items ++ masked 4 reads.mask (4 * index) reads.word
  pub pushed_writes : all_cells after.writes.items ≡ all_cells joined.writes.items ++ masked 4 writes.mask (4 * index) writes.word
  pub parts : AreHalves after

module _ {a b : Entry} {index : ℕ} {ar aw br bw ar' aw' br' bw' : List Part} {joined after : Halves} {read written later later_written told reads writes : WordBytes}
    (h : IsMerging a b index ar aw br bw joined) (t : HasTaken index ar read ar') (u : HasTaken index aw written aw')
    (v : HasTaken index br later br') (w : HasTaken index bw later_written bw') (m : HasMerged index read written later later_written told reads writes joined after) where
  reads-at : (k : ℕ) → k < 4 → byte_of reads k ≡ read_by_both a b (4 * index + k)
  reads-at k lt =
      let p = taken-bytes index a.reads ar ar' read h.a_reads t k lt in
      let q = told-at a index read written told (taken-bytes index a.reads ar ar' read h.a_reads t) (taken-bytes index a.writes aw aw' written h.a_writes u) m.tells k lt in
      let s = taken-bytes index b.reads br br' later h.b_reads v k lt in
      m.picks k lt ∙ (λ i. option_or (p i) (if is_some (q i) then None else s i))
      ∙ read-is (byte_in a.writes (4 * index + k)) (byte_in a.reads (4 * index + k)) (byte_in b.reads (4 * index + k))

  writes-at : (k : ℕ) → k < 4 → byte_of writes k ≡ left_by_both a b (4 * index + k)
  writes-at k lt = grind (arith, nat_tests, taken-bytes)

  -- the cells of the words below, and of this one
  grown : (R : ℕ → Option ℕ) (bytes : WordBytes) (old new : List (ℕ × ℕ)) → new ≡ old ++ masked 4 bytes.mask (4 * index) bytes.word → old ≡ cells_from R 0 (4 * index)
      → ((k : ℕ) → k < 4 → byte_of bytes k ≡ R (4 * index + k)) → new ≡ cells_from R 0 (4 * (index + 1))
  grown R bytes old new push is at =
      let begin : 4 * index ≡ 0 + 4 * index = omega arith in
      let four : 4 * index + 4 ≡ 4 * (index + 1) = omega arith in
      push ∙ (λ i. is i ++ masked-is R 4 bytes.mask (4 * index) bytes.word at i)
      ∙ ap (λ (p : ℕ). cells_from R 0 (4 * index) ++ cells_from R p 4) begin ∙ sym (cells_from-append R 0 (4 * index) 4) ∙ ap (cells_from R 0) four

  -- and the words behind it of which nothing is left are passed over
  pub merged-on : vec_len after.reads + (length ar' + length br') ≤ vec_capacity after.reads → vec_len after.writes + (length aw' + length bw') ≤ vec_capacity after.writes
      → IsMerging a b (next_of_all ar' aw' br' bw') ar' aw' br' bw' after
  merged-on room_reads room_writes = merge-on a b (index + 1) ar' aw' br' bw' after (record {
    a_reads = taken-left index a.reads ar ar' read h.a_reads t;
    a_writes = taken-left index a.writes aw aw' written h.a_writes u;
    b_reads = taken-left index b.reads br br' later h.b_reads v;
    b_writes = taken-left index b.writes bw bw' later_written h.b_writes w;
    reads = grown (read_by_both a b) reads (all_cells joined.reads.items) (all_cells after.reads.items) m.pushed_reads h.reads reads-at;
    writes = grown (left_by_both a b) writes (all_cells joined.writes.items) (all_cells after.writes.items) m.pushed_writes h.writes writes-at;
    parts = m.parts;
    room_reads = room_reads;
    room_writes = room_writes;
  }) (omega (arith, t.later, u.later, v.later, w.later))

-- ---- begin and end

left-all : (cells : List (ℕ × ℕ)) (parts : List Part) → Rises parts → all_cells parts ≡ cells → IsLeft (4 * 0) cells parts
left-all cells parts rises is = record { rises = rises; others = λ place least. ap (λ (list : List (ℕ × ℕ)). byte_in list place) is }

-- nothing is compared
pub tell-start : (a b : Entry) (ar aw br : List Part) → Rises ar → Rises aw → Rises br → all_cells ar ≡ a.reads → all_cells aw ≡ a.writes → all_cells br ≡ b.reads
    → IsTelling a b (next_of ar aw br) ar aw br
tell-start a b ar aw br p q r ar-is aw-is br-is =
    tell-on a b 0 ar aw br (record {
      a_reads = left-all a.reads ar p ar-is;
      a_writes = left-all a.writes aw q aw-is;
      b_reads = left-all b.reads br r br-is;
      told = λ place byte lt is. absurd (omega (arith, lt));
    }) (omega arith)

-- nothing is merged
pub merge-start : (a b : Entry) (ar aw br bw : List Part) (joined : Halves) → Rises ar → Rises aw → Rises br → Rises bw
    → all_cells ar ≡ a.reads → all_cells aw ≡ a.writes → all_cells br ≡ b.reads → all_cells bw ≡ b.writes
    → all_cells joined.reads.items ≡ [] → all_cells joined.writes.items ≡ [] → AreHalves joined
    → vec_len joined.reads + (length ar + length br) ≤ vec_capacity joined.reads → vec_len joined.writes + (length aw + length bw) ≤ vec_capacity joined.writes
    → IsMerging a b (next_of_all ar aw br bw) ar aw br bw joined
merge-start a b ar aw br bw joined p q r s ar-is aw-is br-is bw-is none none' parts room room' =
    merge-on a b 0 ar aw br bw joined (record {
      a_reads = left-all a.reads ar p ar-is;
      a_writes = left-all a.writes aw q aw-is;
      b_reads = left-all b.reads br r br-is;
      b_writes = left-all b.writes bw s bw-is;
      reads = none;
      writes = none';
      parts = parts;
      room_reads = room;
      room_writes = room';
    }) (omega arith)

-- cells of a shape have no byte past it
past-none : (n : ℕ) (cells : List (ℕ × ℕ)) → All (λ cell. cell.0 < n) cells → (place : ℕ) → n ≤ place → byte_in cells place ≡ None
past-none n cells below place le = by (byte_in cells place) refl
  where
    by : (o : Option ℕ) → byte_in cells place ≡ o → byte_in cells place ≡ None
    by None e = e
    by (Some byte) e = absurd (let lt = cells_all (λ cell. cell.0 < n) cells below place byte e in omega (arith, lt, le))

-- all is compared
pub tell-end : (a b : Entry) (next : ℕ) (ar aw br : List Part) → IsTrueEntry b → IsTelling a b next ar aw br → 2 ^ 28 ≤ next → reads_agree a b ≡ true
tell-end a b next ar aw br second h all =
    let n = length_of b.shape in
    let small : n ≤ 4 * next = omega (arith, low_shape b.shape second.entry.shape, all) in
    list_all-from_AllPass (λ cell. agrees (known_after a cell.0) cell.1) b.reads
    (each_cell (λ cell. agrees (known_after a cell.0) cell.1 ≡ true) 0 b.reads (listing-rises b.shape b.reads second.entry.reads) (λ place byte is.
    let lt = cells_all (λ cell. cell.0 < n) b.reads second.entry.reads.places place byte is in
    h.told place byte (omega (arith, lt, small)) is))

-- all is merged
pub merge-end : (a b : Entry) (next : ℕ) (ar aw br bw : List Part) (joined : Halves) → IsTrueEntry a → IsTrueEntry b → a.shape ≡ b.shape
    → IsMerging a b next ar aw br bw joined → 2 ^ 28 ≤ next → HasHalves a b joined
merge-end a b next ar aw br bw joined first second same h all =
    let n = length_of a.shape in
    let small : n ≤ 4 * next = omega (arith, low_shape a.shape first.entry.shape, all) in
    let b_reads = subst (λ (shape : Shape). IsListing shape b.reads) (sym same) second.entry.reads in
    let b_writes = subst (λ (shape : Shape). IsListing shape b.writes) (sym same) second.entry.writes in
    record {
      parts = h.parts;
      reads = h.reads ∙ sym (cells_from-more (read_by_both a b) n (4 * next) small (λ p least most.
          if-none (is_some (known_after a p)) (byte_in a.reads p) (byte_in b.reads p) (past-none n a.reads first.entry.reads.places p least) (past-none n b.reads b_reads.places p least)));
      writes = h.writes ∙ sym (cells_from-more (left_by_both a b) n (4 * next) small (λ p least most.
          λ i. option_or (past-none n b.writes b_writes.places p least i) (past-none n a.writes first.entry.writes.places p least i)));
    }

-- ---- room

-- some part was taken where a mask has bytes, so there is room for one more
pub room-before : (old cap la la' lb lb' m ma mb : ℕ) → old + (la + lb) ≤ cap → la' ≤ la → lb' ≤ lb → (la' ≡ la → ma ≡ 0) → (lb' ≡ lb → mb ≡ 0) → (ma ≡ 0 → mb ≡ 0 → m ≡ 0)
    → 0 < m → old < cap
room-before old cap la la' lb lb' m ma mb fits le le' none none' both some = grind arith

pub room-after : (old new cap la la' lb lb' m ma mb : ℕ) → old + (la + lb) ≤ cap → la' ≤ la → lb' ≤ lb → (la' ≡ la → ma ≡ 0) → (lb' ≡ lb → mb ≡ 0) → (ma ≡ 0 → mb ≡ 0 → m ≡ 0)
    → new ≤ old + 1 → (m ≡ 0 → new ≡ old) → new + (la' + lb') ≤ cap
room-after old new cap la la' lb lb' m ma mb fits le le' none none' both more stays = grind arith

-- ---- the join

pub unjoined : (a b : Entry) → can_join a b ≡ false → join_of a b ≡ None
unjoined a b e = join_of-is a b ∙ cond-false (can_join a b) (Some (joined a b)) None e

pub join-is : (a b : Entry) → can_join a b ≡ true → join_of a b ≡ Some (joined a b)
join-is a b e = join_of-is a b ∙ cond-true (can_join a b) (Some (joined a b)) None e

-- the entry that has the parts of both
pub made-is : (a b : Entry) (halves : Halves) (shape : Shape) (steps : ℕ) → HasHalves a b halves → shape ≡ a.shape → steps ≡ a.steps + b.steps
    → (let e : Entry = record { shape = shape; reads = all_cells halves.reads.items; writes = all_cells halves.writes.items; steps = steps } in e ≡ joined a b)
made-is a b halves shape steps has same count = λ i. record { shape = same i; reads = has.reads i; writes = has.writes i; steps = count i }
