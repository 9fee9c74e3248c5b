-- The smallest executable around some words of code (System V ABI, edition 4.1, chapter 4 "ELF Header" and chapter 5
-- "Program Header"). All numbers are little-endian.
use Rattle.std.specs.Prelude.{ℕ, ◌*◌, codes, List, ◌∷◌, ◌++◌, length, replicate}
use Rattle.std.specs.Int.{to_le_bytes, w16, w32}
use Rattle.std.specs.List.{flat_map}
use Rattle.asc_make.specs.Table.{words_of}

-- an Elf32_Half as bytes
abbrev pub half : ℕ → List ℕ
half = to_le_bytes w16

-- an Elf32_Word, Elf32_Addr or Elf32_Off as bytes
abbrev pub word : ℕ → List ℕ
word = to_le_bytes w32

-- where the code is in memory, and where the program is entered
abbrev pub code_address : ℕ
code_address = 0x10000

-- e_ident: the magic number, ELFCLASS32, ELFDATA2LSB, EV_CURRENT, and padding
abbrev pub e_ident : List ℕ
e_ident = 0x7F ∷ codes "ELF" ++ 1 ∷ 1 ∷ 1 ∷ replicate 9 0

-- an Elf32_Ehdr of 52 bytes
abbrev pub elf_header : List ℕ
elf_header =
    e_ident
    ++ half 2  -- e_type: ET_EXEC
    ++ half 243  -- e_machine: EM_RISCV
    ++ word 1  -- e_version: EV_CURRENT
    ++ word code_address  -- e_entry
    ++ word 52  -- e_phoff: right behind this header
    ++ word 0  -- e_shoff: there are no sections
    ++ word 0  -- e_flags
    ++ half 52  -- e_ehsize
    ++ half 32  -- e_phentsize
    ++ half 1  -- e_phnum
    ++ half 0  -- e_shentsize
    ++ half 0  -- e_shnum
    ++ half 0  -- e_shstrndx

-- an Elf32_Phdr of 32 bytes, of a segment of this size
abbrev pub program_header : ℕ → List ℕ
program_header size =
    word 1  -- p_type: PT_LOAD
    ++ word 84  -- p_offset: right behind the headers
    ++ word code_address  -- p_vaddr
    ++ word code_address  -- p_paddr
    ++ word size  -- p_filesz
    ++ word size  -- p_memsz
    ++ word 7  -- p_flags: PF_X, PF_W and PF_R
    ++ word 4  -- p_align

-- an executable whose only segment is this code
abbrev pub wrap : List ℕ → List ℕ
wrap code = elf_header ++ program_header (4 * length code) ++ flat_map word code

-- the generated image of a number
abbrev pub image_of : ℕ → List ℕ
image_of n = wrap (words_of n)
