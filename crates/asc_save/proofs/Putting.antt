-- Lemmas on a file that is put to a sink piece by piece.
use Rattle.std.proofs.Common.{◌≡◌, ℕ, suc, ◌+◌, ◌-◌, ◌/◌, ◌%◌, ◌<◌, ◌≤◌, List, [], ◌∷◌, ◌++◌, length, take, drop, slice_set, refl, sym, ap, subst, ◌∙◌, arith, append_assoc, length-append, length-take, length-drop}
use Rattle.std.specs.Prelude.{All, OnOk, OnErr, IsErr, Result, Ok, Err, slice_index_or}
use Rattle.std.specs.List.{flat_map}
use Rattle.std.proofs.lemmas.Grind.{flat_map-append}
use Rattle.std.proofs.lemmas.List.{take_more, drop_more, take-append-drop, take_more_set, take-append-le, append-nil, drop_all}
use Rattle.std.proofs.lemmas.Slice.{take-put_mid}
use borrow.Rule.Slice.PartMut.{put_mid, mid_of, same_len_mid}
use Rattle.asc_model.specs.Number.{bytes_of}
use Rattle.asc_model.specs.EntryFile.{cell_bytes, entry_bytes, entry_file, header_bytes, IsSavable}
use Rattle.asc_model.specs.Shape.{Shape}
use Rattle.asc_model.specs.Entry.{Entry}
use Rattle.asc_model.proofs.Numbers.{bytes_of-to_le_bytes}
use Rattle.std.proofs.Math.Nat.{div-div-eq-div-mul}
use Rattle.asc_outside.specs.Outside.{Given, HasCause, PutsPart, given_after, one_more}
use Rattle.asc_outside.specs.declared.outside.Failed.{Failed}
use Rattle.asc_outside.proofs.Streams.{given_after-given_after}

-- four bytes as they are written, and eight
pub four_bytes : (v : ℕ) (rest : List ℕ) → v % 256 ∷ v / 256 % 256 ∷ v / 65536 % 256 ∷ v / 16777216 % 256 ∷ rest ≡ bytes_of 4 v ++ rest
four_bytes v rest = ap (λ list. list ++ rest) (sym (bytes_of-to_le_bytes v))

pub word_put : (buf room : List ℕ) (v : ℕ) → buf ≡ v % 256 ∷ v / 256 % 256 ∷ v / 65536 % 256 ∷ v / 16777216 % 256 ∷ drop 4 (take 4 room) → buf ≡ bytes_of 4 v
word_put buf room v is =
    is ∙ four_bytes v (drop 4 (take 4 room)) ∙ ap (λ list. bytes_of 4 v ++ list) (drop_all 4 (take 4 room) (omega (arith, length-take 4 room))) ∙ append-nil (bytes_of 4 v)

pub eight_bytes : (v : ℕ) → v % 256 ∷ v / 256 % 256 ∷ v / 65536 % 256 ∷ v / 16777216 % 256 ∷ v / 4294967296 % 256 ∷ v / 1099511627776 % 256 ∷ v / 281474976710656 % 256
    ∷ v / 72057594037927936 % 256 ∷ [] ≡ bytes_of 8 v
eight_bytes v =
    let a : v / 256 / 256 ≡ v / 65536 = div-div-eq-div-mul v 256 256 in
    let b : v / 256 / 256 / 256 ≡ v / 16777216 = ap (λ x. x / 256) a ∙ div-div-eq-div-mul v 65536 256 in
    let c : v / 256 / 256 / 256 / 256 ≡ v / 4294967296 = ap (λ x. x / 256) b ∙ div-div-eq-div-mul v 16777216 256 in
    let d : v / 256 / 256 / 256 / 256 / 256 ≡ v / 1099511627776 = ap (λ x. x / 256) c ∙ div-div-eq-div-mul v 4294967296 256 in
    let e : v / 256 / 256 / 256 / 256 / 256 / 256 ≡ v / 281474976710656 = ap (λ x. x / 256) d ∙ div-div-eq-div-mul v 1099511627776 256 in
    let f : v / 256 / 256 / 256 / 256 / 256 / 256 / 256 ≡ v / 72057594037927936 = ap (λ x. x / 256) e ∙ div-div-eq-div-mul v 281474976710656 256 in
    λ i. v % 256 ∷ v / 256 % 256 ∷ sym a i % 256 ∷ sym b i % 256 ∷ sym c i % 256 ∷ sym d i % 256 ∷ sym e i % 256 ∷ sym f i % 256 ∷ []

-- one place more in the room
pub room_more : (room buf : List ℕ) (at place byte : ℕ) → at + 5 ≤ length room → buf ≡ bytes_of 4 place ++ drop 4 (mid_of at (at + 4 - at) room)
    → take (at + 5) (slice_set (put_mid at (at + 4 - at) room buf) (at + 4) byte) ≡ take at room ++ cell_bytes (place, byte)
room_more room buf at place byte fits is =
    let k : at + 4 - at ≡ 4 = omega arith in
    let mid : length (mid_of at (at + 4 - at) room) ≡ 4 = omega (arith, length-take (at + 4 - at) (drop at room), length-drop at room) in
    let same : buf ≡ bytes_of 4 place = is ∙ ap (λ list. bytes_of 4 place ++ list) (drop_all 4 (mid_of at (at + 4 - at) room) (omega arith)) ∙ append-nil (bytes_of 4 place) in
    let four : length buf ≡ 4 = ap length same in
    let size = same_len_mid at (at + 4 - at) room buf (four ∙ sym mid) in
    let e : at + 4 + 1 ≡ at + 5 = omega arith in
    ap (λ n. take n (slice_set (put_mid at (at + 4 - at) room buf) (at + 4) byte)) (sym e)
    ∙ take_more_set (put_mid at (at + 4 - at) room buf) (at + 4) byte (omega arith)
    ∙ ap (λ list. list ++ byte ∷ []) (take-put_mid at (at + 4 - at) room buf (at + 4) (omega arith) (omega arith) ∙ ap (λ list. take at room ++ list) same)
    ∙ append_assoc (take at room) (bytes_of 4 place) (byte ∷ [])

-- and the places that are then filled in
pub filled_more : (room buf : List ℕ) (at place byte : ℕ) (all left rest : List (ℕ × ℕ)) → at + 5 ≤ length room → buf ≡ bytes_of 4 place ++ drop 4 (mid_of at (at + 4 - at) room)
    → left ≡ (place, byte) ∷ rest → flat_map cell_bytes all ≡ take at room ++ flat_map cell_bytes left
    → flat_map cell_bytes all ≡ take (at + 5) (slice_set (put_mid at (at + 4 - at) room buf) (at + 4) byte) ++ flat_map cell_bytes rest
filled_more room buf at place byte all left rest fits is next before =
    before ∙ ap (λ list. take at room ++ flat_map cell_bytes list) next
    ∙ sym (append_assoc (take at room) (cell_bytes (place, byte)) (flat_map cell_bytes rest))
    ∙ ap (λ list. list ++ flat_map cell_bytes rest) (sym (room_more room buf at place byte fits is))

-- ---- what a sink was given

-- the first piece, and then the next one
pub given_both : (before between after : Given) (a b : List ℕ) → between ≡ given_after before a → after ≡ given_after between b → after ≡ given_after before (a ++ b)
given_both before between after a b p q = q ∙ ap (λ g. given_after g b) p ∙ given_after-given_after before a b

-- a part of the first piece is a part of both
pub part_first : (before after : Given) (a b : List ℕ) → PutsPart before after a → PutsPart before after (a ++ b)
part_first before after a b part = let fewer = part.fewer in record {
  count = part.count;
  fewer = omega (arith, length-append a b);
  given = part.given ∙ ap (given_after before) (sym (take-append-le part.count a b (omega arith)));
}

take_behind : (a b : List ℕ) (k : ℕ) → take (length a + k) (a ++ b) ≡ a ++ take k b
take_behind [] b k = ap (λ n. take n b) (let e : 0 + k ≡ k = omega arith in e)
take_behind (x ∷ a) b k = ap (λ n. take n (x ∷ a ++ b)) (let e : suc (length a) + k ≡ suc (length a + k) = omega arith in e) ∙ ap (λ list. x ∷ list) (take_behind a b k)

-- the first piece and a part of the next one are a part of both
pub part_then : (before between after : Given) (a b : List ℕ) → between ≡ given_after before a → PutsPart between after b → PutsPart before after (a ++ b)
part_then before between after a b p part = let fewer = part.fewer in record {
  count = length a + part.count;
  fewer = omega (arith, length-append a b);
  given = part.given ∙ ap (λ g. given_after g (take part.count b)) p ∙ given_after-given_after before a (take part.count b)
      ∙ ap (given_after before) (sym (take_behind a b part.count));
}

-- the same for a piece that is told otherwise
pub part_same : (before after : Given) (a b : List ℕ) → a ≡ b → PutsPart before after a → PutsPart before after b
part_same before after a b e part = subst (PutsPart before after) e part

-- what a sink was given of a piece, and whether it failed
pub record IsPut (before after : Given) (old new : ℕ) (result : Result (Unit {0}) Failed) (piece : List ℕ) : Type 0 where
  pub all : OnOk result (after ≡ given_after before piece)
  pub part : OnErr result (PutsPart before after piece)
  pub cause : HasCause old new result

-- where it failed
pub failed_put : (before after : Given) (old new : ℕ) (result : Result (Unit {0}) Failed) (piece : List ℕ) → IsErr result → PutsPart before after piece → new ≡ one_more old
    → IsPut before after old new result piece
failed_put before after old new (Err failed) piece is part rose = record { all = tt; part = part; cause = record { stays = tt; rose = rose } }
failed_put before after old new (Ok done) piece is part rose = absurd (cc)

-- the last piece, behind what was put
pub last_put : (before between after : Given) (old mid new : ℕ) (result : Result (Unit {0}) Failed) (a b : List ℕ) → between ≡ given_after before a → mid ≡ old → IsPut between after mid new result b
    → IsPut before after old new result (a ++ b)
last_put before between after old mid new (Ok done) a b given same put = record {
  all = given_both before between after a b given put.all;
  part = tt;
  cause = record { stays = put.cause.stays ∙ same; rose = tt };
}
last_put before between after old mid new (Err failed) a b given same put = record {
  all = tt;
  part = part_then before between after a b given put.part;
  cause = record { stays = tt; rose = put.cause.rose ∙ ap one_more same };
}

-- the bytes of entries up to one, of it, and of the others
pub held_split : (held : List Entry) (i : ℕ) (e : Entry) → i < length held → e ≡ slice_index_or held i e
    → flat_map entry_bytes held ≡ flat_map entry_bytes (take i held) ++ (entry_bytes e ++ flat_map entry_bytes (drop (i + 1) held))
held_split held i e lt is =
    ap (flat_map entry_bytes) (sym (take-append-drop i held))
    ∙ flat_map-append entry_bytes (take i held) (drop i held)
    ∙ ap (λ list. flat_map entry_bytes (take i held) ++ flat_map entry_bytes list)
    (drop_more held i e lt ∙ ap (λ x. x ∷ drop (i + 1) held) (sym is))

pub held_more : (held : List Entry) (i : ℕ) (e : Entry) → i < length held → e ≡ slice_index_or held i e
    → flat_map entry_bytes (take (i + 1) held) ≡ flat_map entry_bytes (take i held) ++ entry_bytes e
held_more held i e lt is =
    ap (flat_map entry_bytes) (take_more held i e lt ∙ ap (λ x. take i held ++ x ∷ []) (sym is))
    ∙ flat_map-append entry_bytes (take i held) (e ∷ [])
    ∙ ap (λ list. flat_map entry_bytes (take i held) ++ list) (append-nil (entry_bytes e))

pub entry_file-is : (shape : Shape) (entries : List Entry) → entry_file shape entries ≡ header_bytes shape (length entries) ++ flat_map entry_bytes entries
unfolding entry_file
entry_file-is shape entries = refl

-- a piece that is told otherwise
pub piece_same : {before after : Given} {old new : ℕ} {result : Result (Unit {0}) Failed} {a b : List ℕ} → a ≡ b → IsPut before after old new result a → IsPut before after old new result b
piece_same {before} {after} {old} {new} {result} e put = subst (IsPut before after old new result) e put

-- an entry of those that a file may hold
pub held_savable : (shape : Shape) (held : List Entry) (i : ℕ) (e : Entry) → All (IsSavable shape) held → i < length held → e ≡ slice_index_or held i e → IsSavable shape e
held_savable shape held i e h lt is = subst (IsSavable shape) (sym is) (h i e lt)
