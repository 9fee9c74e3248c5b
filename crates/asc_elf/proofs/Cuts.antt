-- Lemmas on the first bytes of an image.
use Rattle.std.proofs.Common.{◌≡◌, ℕ, zero, suc, ◌+◌, ◌-◌, ◌*◌, ◌/◌, ◌%◌, ◌^◌, ◌<◌, ◌≤◌, Bool, true, false, not, cond, ◌&&◌, ◌||◌, nat_lt, nat_eq, List, [], ◌∷◌, ◌++◌, length, take, drop, replicate, Option, Some, None, is_some, Ok, ◌⊎◌, inl, inr, refl, sym, ap, ◌∙◌, subst, arith, length-take}
use lib.Pointwise.{pointwise}
use Rattle.std.specs.Option.{unwrap_or}
use Rattle.std.specs.Bool.{◌==◌}
use Rattle.std.specs.List.{filter, flat_map, list_any, starts_with}
use Rattle.std.proofs.lemmas.Bool.{cases_lt, cases_Bool, cond-true, cond-false, le-ltb, lt-ltb}
use Rattle.std.proofs.lemmas.Bool.Decides.{nat_tests}
use Rattle.std.proofs.lemmas.List.{drop-take, take-take, get_or-take}
use Rattle.asc_model.specs.declared.version.Version.{Version}
use Rattle.asc_model.specs.Shape.{Shape, holds}
use Rattle.asc_model.specs.Machine.{Pc, Register, Memory}
use Rattle.asc_model.specs.Number.{number_of}
use Rattle.asc_shape.specs.State.{zero_state, state_after_all}
use Rattle.asc_elf.specs.declared.fault.ElfFault.{ElfFault}
use Rattle.asc_elf.specs.declared.fault.ElfFault.TheVariants as faults
use Rattle.asc_elf.specs.File.{ei_class, ei_data, ei_version, e_type, e_machine, e_entry, e_phoff, e_flags, e_phentsize, e_phnum, half, word, Header, header_at, headers_from, headers, is_load, is_segment, segments}
use Rattle.asc_model.specs.Case.{first_fault}
use Rattle.asc_elf.specs.Image.{magic, header_cases, table_cases, segment_cases, layout_cases, cases, is_interp, is_cut, cut_header, lowest_address, highest_end, shape_for, stack_of, segment_changes, start_state, Image, image_for, image_of}
use Rattle.asc_elf.specs.Checked.{IsWhole}
use Rattle.asc_elf.specs.Laws.{IsCutOrSame, PrefixesAreCut}
use Rattle.asc_elf.proofs.Accepted.{NoFault-cases, or_first, or_second, not_cut}
use Rattle.asc_elf.proofs.Faults.{first_fault-cases, image_of-header, image_of-table, image_of-segments, image_of-Ok, image_of-Ok_parts}

-- a part of the first k bytes
take-drop-take : (n at k : ℕ) (file : List ℕ) → at + n ≤ k → take n (drop at (take k file)) ≡ take n (drop at file)
take-drop-take n at k file within =
    let split : at + (k - at) ≡ k = omega arith in
    ap (λ m. take n (drop at (take m file))) (sym split)
    ∙ ap (take n) (drop-take at (k - at) file)
    ∙ take-take n (k - at) (drop at file) (omega arith)

-- a half in the first k bytes
half-take : (at k : ℕ) (file : List ℕ) → at + 2 ≤ k → half (take k file) at ≡ half file at
half-take at k file within = ap number_of (take-drop-take 2 at k file within)

-- a word in the first k bytes
word-take : (at k : ℕ) (file : List ℕ) → at + 4 ≤ k → word (take k file) at ≡ word file at
word-take at k file within = ap number_of (take-drop-take 4 at k file within)

-- the fault of a header that is not too short, by its fields
abbrev header_fault : Bool → (class data_ version type machine flags : ℕ) → Option ElfFault
header_fault magical class data_ version type machine flags =
    cond (not magical) (Some faults.Magic) (cond (not (class == 1)) (Some faults.Class) (cond (not (data_ == 1)) (Some faults.Data)
    (cond (not (version == 1)) (Some faults.Version) (cond (not (type == 2)) (Some faults.FileType) (cond (not (machine == 243)) (Some faults.Machine)
    (cond (not ((flags == 0) || (flags == 0x10))) (Some faults.Flags) None))))))

-- the fault of a file's header that is not too short
header_fault_of : List ℕ → Option ElfFault
header_fault_of file = header_fault (starts_with nat_eq file magic) (ei_class file) (ei_data file) (ei_version file) (e_type file) (e_machine file) (e_flags file)

-- a header that is not too short
header-long : (file : List ℕ) → 52 ≤ length file → first_fault (header_cases file) ≡ header_fault_of file
unfolding header_fault_of
header-long file long = cond-false (nat_lt (length file) 52) (Some faults.Short) (header_fault_of file) (le-ltb (length file) 52 long)

-- a header that is too short
header-short : (file : List ℕ) → length file < 52 → first_fault (header_cases file) ≡ Some faults.Short
unfolding header_fault_of
header-short file short = cond-true (nat_lt (length file) 52) (Some faults.Short) (header_fault_of file) (lt-ltb (length file) 52 short)

-- the fields are those of the file
header_fault_of-take : (k : ℕ) (file : List ℕ) → 52 ≤ k → header_fault_of (take k file) ≡ header_fault_of file
unfolding header_fault_of
header_fault_of-take k file long =
    let magical : starts_with nat_eq (take k file) magic ≡ starts_with nat_eq file magic = ap (λ (front : List ℕ). pointwise nat_eq magic front) (take-take 4 k file (omega arith)) in
    let class : ei_class (take k file) ≡ ei_class file = get_or-take k file 4 0 (omega arith) in
    let data_ : ei_data (take k file) ≡ ei_data file = get_or-take k file 5 0 (omega arith) in
    let version : ei_version (take k file) ≡ ei_version file = get_or-take k file 6 0 (omega arith) in
    let type : e_type (take k file) ≡ e_type file = half-take 16 k file (omega arith) in
    let machine : e_machine (take k file) ≡ e_machine file = half-take 18 k file (omega arith) in
    let flags : e_flags (take k file) ≡ e_flags file = word-take 36 k file (omega arith) in
    λ i. header_fault (magical i) (class i) (data_ i) (version i) (type i) (machine i) (flags i)

-- the fault of a table, by its fields and the length of the file
abbrev table_fault : (size n at length : ℕ) → Option ElfFault
table_fault size n at long =
    cond (nat_lt 0 n && not (size == 32)) (Some faults.HeaderSize) (cond (nat_lt 0 n && nat_lt long (at + 32 * n)) (Some faults.Table) None)

-- a table that was whole is whole, or is cut
table_fault_cut : (size n at long cut : ℕ) → table_fault size n at long ≡ None
    → (table_fault size n at cut ≡ Some faults.Table) ⊎ ((table_fault size n at cut ≡ None) × ((0 < n) → (at + 32 * n ≤ cut)))
table_fault_cut size n at long cut e = elim (cases_lt 0 n) [
  | inl some ↦ elim (cases_lt cut (at + 32 * n)) [
    | inl past ↦ inl (grind (arith, nat_tests))
    | inr within ↦ inr (grind (arith, nat_tests), λ _. within)
  ]
  | inr none ↦ inr (grind (arith, nat_tests), λ some. absurd (omega arith))
]

-- program headers in the first k bytes
header_at-take : (at k : ℕ) (file : List ℕ) → at + 32 ≤ k → header_at (take k file) at ≡ header_at file at
unfolding header_at
header_at-take at k file within =
    let a = word-take at k file (omega arith) in
    let b = word-take (at + 4) k file (omega arith) in
    let c = word-take (at + 8) k file (omega arith) in
    let d = word-take (at + 16) k file (omega arith) in
    let e = word-take (at + 20) k file (omega arith) in
    λ i. record { p_type = a i; p_offset = b i; p_vaddr = c i; p_filesz = d i; p_memsz = e i }

-- program headers one after another in the first k bytes
headers_from-take : (at n k : ℕ) (file : List ℕ) → (0 < n → at + 32 * n ≤ k) → headers_from (take k file) at n ≡ headers_from file at n
headers_from-take at zero k file within = refl
headers_from-take at (suc n) k file within =
    let first = header_at-take at k file (omega (arith, within (omega arith))) in
    let rest = headers_from-take (at + 32) n k file (λ some. omega (arith, within (omega arith))) in
    λ i. first i ∷ rest i

-- the program headers in the first k bytes
headers-take : (k : ℕ) (file : List ℕ) → 52 ≤ k → (0 < e_phnum file → e_phoff file + 32 * e_phnum file ≤ k) → headers (take k file) ≡ headers file
unfolding headers
headers-take k file long within =
    let n : e_phnum (take k file) ≡ e_phnum file = half-take 44 k file (omega arith) in
    let at : e_phoff (take k file) ≡ e_phoff file = word-take 28 k file (omega arith) in
    ap (λ m. headers_from (take k file) (e_phoff (take k file)) m) n
    ∙ ap (λ m. headers_from (take k file) m (e_phnum file)) at
    ∙ headers_from-take (e_phoff file) (e_phnum file) k file within

-- the fault of program headers, by what is asked of them
abbrev segment_fault : Bool → Option ℕ → (some : Bool) → Option ElfFault
segment_fault interp cut some =
    cond interp (Some faults.Interp) (cond (is_some cut) (Some (faults.Segment (unwrap_or cut 0))) (cond (not some) (Some faults.NoLoad) None))

-- program headers that were whole are whole, or one is cut
segment_fault_cut : (interp some : Bool) (before after : Option ℕ) → segment_fault interp before some ≡ None
    → ((i : ℕ) × (segment_fault interp after some ≡ Some (faults.Segment i))) ⊎ (segment_fault interp after some ≡ None)
segment_fault_cut false true before None e = inr refl
segment_fault_cut false true before (Some i) e = inl (i, refl)
segment_fault_cut true some before after e = cc
segment_fault_cut false false None after e = cc
segment_fault_cut false false (Some i) after e = cc

-- a segment that a file does not cut has no bytes there, or they are within it
uncut : (load : Bool) (offset size memory long : ℕ) → (load && nat_lt 0 memory) ≡ true
    → (load && (nat_lt memory size || (nat_lt 0 size && nat_lt long (offset + size)))) ≡ false → (size ≡ 0) ⊎ (offset + size ≤ long)
uncut load offset size memory long segment whole = elim (cases_lt 0 size) [
  | inr none ↦ inl (omega arith)
  | inl some ↦ elim (cases_lt long (offset + size)) [
    | inl past ↦ absurd (grind (arith, nat_tests))
    | inr within ↦ inr within
  ]
]

-- what is loaded from the first k bytes, of a header that they do not cut
segment_changes-take : (k : ℕ) (file : List ℕ) (h : Header) → is_segment h ≡ true → is_cut (take k file) h ≡ false → segment_changes (take k file) h ≡ segment_changes file h
segment_changes-take k file h segment whole =
    let bytes : take h.p_filesz (drop h.p_offset (take k file)) ≡ take h.p_filesz (drop h.p_offset file) =
    elim (uncut (is_load h) h.p_offset h.p_filesz h.p_memsz (length (take k file)) segment whole) [
      | inl none ↦ ap (λ n. take n (drop h.p_offset (take k file))) none ∙ sym (ap (λ n. take n (drop h.p_offset file)) none)
      | inr within ↦ take-drop-take h.p_filesz h.p_offset k file (omega (arith, length-take k file))
    ] in
    λ i. Memory h.p_vaddr (bytes i) ∷ Memory (h.p_vaddr + h.p_filesz) (replicate (h.p_memsz - h.p_filesz) 0) ∷ []

-- the same of each segment
segments-take : (k : ℕ) (file : List ℕ) (list : List Header) → list_any (is_cut (take k file)) list ≡ false
    → flat_map (segment_changes (take k file)) (filter is_segment list) ≡ flat_map (segment_changes file) (filter is_segment list)
segments-take k file [] whole = refl
segments-take k file (h ∷ rest) whole =
    let first = or_first (is_cut (take k file) h) (list_any (is_cut (take k file)) rest) whole in
    let later = segments-take k file rest (or_second (is_cut (take k file) h) (list_any (is_cut (take k file)) rest) whole) in
    elim (cases_Bool (is_segment h)) [
      | inl segment ↦ rw segment (λ i. segment_changes-take k file h segment first i ++ later i)
      | inr other ↦ rw other later
    ]

-- the fault of a layout, by the entry and the segments
abbrev layout_fault : (entry : ℕ) → List Header → Shape → Option ElfFault
layout_fault entry list shape =
    cond (nat_lt (2 ^ 32) (shape.base + shape.size) || nat_lt (stack_of shape) (highest_end list)) (Some faults.TooLarge)
    (cond (not (entry % 4 == 0) || not (holds shape entry 4)) (Some faults.Entry) None)

-- the shape of the segments
abbrev shape_by : List Header → ℕ → Version → Shape
shape_by list size version = record { base = lowest_address list - lowest_address list % 4096; size = size; version = version }

-- the state of the same loads and the same entry
start_state-same : (a b : List ℕ) (shape other : Shape) → shape ≡ other → e_entry a ≡ e_entry b
    → flat_map (segment_changes a) (segments a) ≡ flat_map (segment_changes b) (segments b) → start_state a shape ≡ start_state b other
unfolding start_state
start_state-same a b shape other same entry loads =
    λ i. state_after_all (zero_state (same i)) (loads i ++ Pc (entry i) ∷ Register 2 (stack_of (same i)) ∷ [])

-- a prefix with the same segments, none of them cut
image-whole : (file : List ℕ) (size : ℕ) (version : Version) (k : ℕ) → 52 ≤ k → IsWhole (take k file) → headers (take k file) ≡ headers file
    → first_fault (layout_cases file (shape_for file size version)) ≡ None → image_of (take k file) size version ≡ Ok (image_for file (shape_for file size version))
unfolding segments
image-whole file size version k long whole same none =
    let prefix : List ℕ = take k file in
    let list : segments prefix ≡ segments file = ap (λ (l : List Header). filter is_segment l) same in
    let shape : shape_for prefix size version ≡ shape_for file size version = ap (λ (l : List Header). shape_by l size version) list in
    let entry : e_entry prefix ≡ e_entry file = word-take 24 k file (omega arith) in
    let uncut_by : list_any (is_cut prefix) (headers file) ≡ false = subst (λ (l : List Header). list_any (is_cut prefix) l ≡ false) same (not_cut prefix whole.segments) in
    let loads : flat_map (segment_changes prefix) (segments prefix) ≡ flat_map (segment_changes file) (segments file) =
    ap (λ (l : List Header). flat_map (segment_changes prefix) l) list ∙ segments-take k file (headers file) uncut_by in
    let layout : first_fault (layout_cases prefix (shape_for prefix size version)) ≡ None =
    (let same_fault : layout_fault (e_entry prefix) (segments prefix) (shape_for prefix size version) ≡ layout_fault (e_entry file) (segments file) (shape_for file size version) =
    λ i. layout_fault (entry i) (list i) (shape i) in same_fault ∙ none) in
    let state = start_state-same prefix file (shape_for prefix size version) (shape_for file size version) shape entry loads in
    image_of-Ok prefix size version (first_fault-cases prefix (shape_for prefix size version) whole ∙ layout)
    ∙ (λ i. Ok (record { start = state i; low = (highest_end (list i) + 15) / 16 * 16 }))

-- a prefix with the whole table
prefix-table : (file : List ℕ) (size : ℕ) (version : Version) (k : ℕ) → 52 ≤ k → first_fault (header_cases (take k file)) ≡ None → first_fault (table_cases (take k file)) ≡ None
    → headers (take k file) ≡ headers file → first_fault (cases file (shape_for file size version)) ≡ None
    → IsCutOrSame (image_for file (shape_for file size version)) (image_of (take k file) size version)
unfolding segments
prefix-table file size version k long header table same e =
    let prefix : List ℕ = take k file in
    let image = image_for file (shape_for file size version) in
    let none = NoFault-cases file (shape_for file size version) e in
    let segment : first_fault (segment_cases prefix) ≡ segment_fault (list_any is_interp (headers file)) (cut_header prefix) (nat_lt 0 (length (filter is_segment (headers file)))) =
    λ i. segment_fault (list_any is_interp (same i)) (cut_header prefix) (nat_lt 0 (length (filter is_segment (same i)))) in
    elim (segment_fault_cut (list_any is_interp (headers file)) (nat_lt 0 (length (filter is_segment (headers file)))) (cut_header file) (cut_header prefix) none.third) [
      | inl cut ↦ subst (IsCutOrSame image) (sym (image_of-segments prefix size version (faults.Segment cut.0) header table (segment ∙ cut.1))) tt
      | inr whole ↦ subst (IsCutOrSame image) (sym (image-whole file size version k long (record { header = header; table = table; segments = segment ∙ whole }) same none.fourth)) refl
    ]

-- a prefix with the whole header
prefix-header : (file : List ℕ) (size : ℕ) (version : Version) (k : ℕ) → 52 ≤ length (take k file) → first_fault (cases file (shape_for file size version)) ≡ None
    → IsCutOrSame (image_for file (shape_for file size version)) (image_of (take k file) size version)
prefix-header file size version k long e =
    let prefix : List ℕ = take k file in
    let image = image_for file (shape_for file size version) in
    let none = NoFault-cases file (shape_for file size version) e in
    let enough : 52 ≤ k = omega (arith, length-take k file) in
    let header : first_fault (header_cases prefix) ≡ None =
    header-long prefix long ∙ header_fault_of-take k file enough ∙ sym (header-long file (omega (arith, length-take k file))) ∙ none.first in
    let size_is : e_phentsize prefix ≡ e_phentsize file = half-take 42 k file (omega arith) in
    let n : e_phnum prefix ≡ e_phnum file = half-take 44 k file (omega arith) in
    let at : e_phoff prefix ≡ e_phoff file = word-take 28 k file (omega arith) in
    let table : first_fault (table_cases prefix) ≡ table_fault (e_phentsize file) (e_phnum file) (e_phoff file) (length prefix) =
    λ i. table_fault (size_is i) (n i) (at i) (length prefix) in
    elim (table_fault_cut (e_phentsize file) (e_phnum file) (e_phoff file) (length file) (length prefix) none.second) [
      | inl cut ↦ subst (IsCutOrSame image) (sym (image_of-table prefix size version faults.Table header (table ∙ cut))) tt
      | inr whole ↦ prefix-table file size version k enough header (table ∙ whole.0)
          (headers-take k file enough (λ some. omega (arith, whole.1 some, length-take k file))) e
    ]

-- the first k bytes of an image
pub prefixes_are_cut : PrefixesAreCut
prefixes_are_cut file size version k image e =
    let parts = image_of-Ok_parts file size version image e in
    subst (λ (i : Image). IsCutOrSame i (image_of (take k file) size version)) (sym parts.1)
    (elim (cases_lt (length (take k file)) 52) [
      | inl short ↦ subst (IsCutOrSame (image_for file (shape_for file size version)))
          (sym (image_of-header (take k file) size version faults.Short (header-short (take k file) short))) tt
      | inr long ↦ prefix-header file size version k long parts.0
    ])
