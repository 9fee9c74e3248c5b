-- The fields of an ELF32 file (System V ABI, edition 4.1, chapter 4 "ELF Header" and chapter 5 "Program Header").
-- All numbers are little-endian. A field past the end of the file reads as if zeros followed.
use Rattle.std.specs.Prelude.{ℕ, zero, suc, ◌+◌, Bool, ◌==◌, ◌&&◌, nat_lt, List, [], ◌∷◌, slice_index}
use Rattle.std.specs.List.{filter}
use Rattle.asc_model.specs.Number.{number_at}

-- the sizes of an ELF header and of a program header, in bytes
abbrev pub elf_header_size : ℕ
elf_header_size = 52

abbrev pub program_header_size : ℕ
program_header_size = 32

-- an Elf32_Half and an Elf32_Word, which Elf32_Addr and Elf32_Off are too
abbrev pub half : List ℕ → ℕ → ℕ
half file at = number_at 2 file at

abbrev pub word : List ℕ → ℕ → ℕ
word file at = number_at 4 file at

-- e_ident: the class, the byte order and the file version
abbrev pub ei_class : List ℕ → ℕ
ei_class file = slice_index file 4

abbrev pub ei_data : List ℕ → ℕ
ei_data file = slice_index file 5

abbrev pub ei_version : List ℕ → ℕ
ei_version file = slice_index file 6

abbrev pub e_type : List ℕ → ℕ
e_type file = half file 16

abbrev pub e_machine : List ℕ → ℕ
e_machine file = half file 18

abbrev pub e_entry : List ℕ → ℕ
e_entry file = word file 24

abbrev pub e_phoff : List ℕ → ℕ
e_phoff file = word file 28

abbrev pub e_flags : List ℕ → ℕ
e_flags file = word file 36

abbrev pub e_phentsize : List ℕ → ℕ
e_phentsize file = half file 42

abbrev pub e_phnum : List ℕ → ℕ
e_phnum file = half file 44

-- a program header, without the fields that are passed over
pub record Header : Type 0 where
  pub p_type : ℕ
  pub p_offset : ℕ
  pub p_vaddr : ℕ
  pub p_filesz : ℕ
  pub p_memsz : ℕ

unfoldable pub header_at : List ℕ → ℕ → Header
header_at file at = record {
  p_type = word file at;
  p_offset = word file (at + 4);
  p_vaddr = word file (at + 8);
  p_filesz = word file (at + 16);
  p_memsz = word file (at + 20);
}

-- n headers, one after another
abbrev pub headers_from : List ℕ → ℕ → ℕ → List Header
headers_from file at zero = []
headers_from file at (suc n) = header_at file at ∷ headers_from file (at + program_header_size) n

unfoldable pub headers : List ℕ → List Header
headers file = headers_from file (e_phoff file) (e_phnum file)

-- PT_LOAD
abbrev pub is_load : Header → Bool
is_load header = header.p_type == 1

-- a segment: what is loaded, and takes memory
abbrev pub is_segment : Header → Bool
is_segment header = is_load header && nat_lt 0 header.p_memsz

-- the segments in the order of their headers
unfoldable pub segments : List ℕ → List Header
segments file = filter is_segment (headers file)
