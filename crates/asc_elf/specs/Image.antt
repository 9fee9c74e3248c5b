-- What an executable file means for a machine: its first fault, or the image (System V ABI, edition 4.1, chapters 4
-- and 5; RISC-V ELF psABI, chapter "ELF Object Files").
use Rattle.std.specs.Prelude.{ℕ, ◌+◌, ◌-◌, ◌*◌, ◌/◌, ◌%◌, ◌^◌, min, max, nat_eq, Bool, not, ◌==◌, ◌&&◌, ◌||◌, nat_lt, List, [], ◌∷◌, ◌++◌, length, take, drop, replicate, position, Option, Some, None, is_some, unwrap_or, Result, Ok, Err, if◌then◌else◌}
use Rattle.std.specs.List.{flat_map, list_any, starts_with}
use Rattle.asc_model.specs.declared.limits.TheConstants.{PAGE_SIZE}
use Rattle.asc_model.specs.declared.version.Version.{Version}
use Rattle.asc_model.specs.Case.{Case, ◌if◌, first_fault}
use Rattle.asc_model.specs.Shape.{Shape, holds}
use Rattle.asc_model.specs.State.{State}
use Rattle.asc_model.specs.Machine.{Change, Pc, Register, Memory}
use Rattle.asc_shape.specs.State.{zero_state, state_after_all}
use Rattle.asc_elf.specs.declared.fault.ElfFault.{ElfFault}
use Rattle.asc_elf.specs.declared.fault.ElfFault.TheVariants as faults
use Rattle.asc_elf.specs.File.{elf_header_size, program_header_size, ei_class, ei_data, ei_version, e_type, e_machine, e_entry, e_phoff, e_flags, e_phentsize, e_phnum, Header, headers, is_load, segments}

-- ELFMAG0 to ELFMAG3
abbrev pub magic : List ℕ
magic = 0x7F ∷ 0x45 ∷ 0x4C ∷ 0x46 ∷ []

-- the header: ELFCLASS32, ELFDATA2LSB, EV_CURRENT, ET_EXEC, EM_RISCV, and no flag but EF_RISCV_TSO
abbrev pub header_cases : List ℕ → List (Case ElfFault)
header_cases file =
    (faults.Short if nat_lt (length file) elf_header_size)
    ∷ (faults.Magic if not (starts_with nat_eq file magic))
    ∷ (faults.Class if not (ei_class file == 1))
    ∷ (faults.Data if not (ei_data file == 1))
    ∷ (faults.Version if not (ei_version file == 1))
    ∷ (faults.FileType if not (e_type file == 2))
    ∷ (faults.Machine if not (e_machine file == 243))
    ∷ (faults.Flags if not ((e_flags file == 0) || (e_flags file == 0x10)))
    ∷ []

-- the table of program headers, where there are any
abbrev pub table_cases : List ℕ → List (Case ElfFault)
table_cases file =
    (faults.HeaderSize if nat_lt 0 (e_phnum file) && not (e_phentsize file == program_header_size))
    ∷ (faults.Table if nat_lt 0 (e_phnum file)
    && nat_lt (length file) (e_phoff file + program_header_size * e_phnum file))
    ∷ []

-- PT_INTERP
abbrev pub is_interp : Header → Bool
is_interp header = header.p_type == 3

-- a header to load has more bytes in the file than in memory, or bytes past the end of the file
abbrev pub is_cut : List ℕ → Header → Bool
is_cut file header = is_load header
    && (nat_lt header.p_memsz header.p_filesz
    || (nat_lt 0 header.p_filesz && nat_lt (length file) (header.p_offset + header.p_filesz)))

-- the first such header
abbrev pub cut_header : List ℕ → Option ℕ
cut_header file = position (is_cut file) (headers file)

abbrev pub segment_cases : List ℕ → List (Case ElfFault)
segment_cases file =
    (faults.Interp if list_any is_interp (headers file))
    ∷ (faults.Segment (unwrap_or (cut_header file) 0) if is_some (cut_header file))
    ∷ (faults.NoLoad if not (nat_lt 0 (length (segments file))))
    ∷ []

-- the lowest address of segments, where there are any
abbrev pub lowest_address : List Header → ℕ
lowest_address [] = 2 ^ 32
lowest_address (first ∷ rest) = min first.p_vaddr (lowest_address rest)

-- the greatest end of segments
abbrev pub highest_end : List Header → ℕ
highest_end [] = 0
highest_end (first ∷ rest) = max (first.p_vaddr + first.p_memsz) (highest_end rest)

-- memory begins at the page of the lowest segment
abbrev pub base_of : List ℕ → ℕ
base_of file = let low = lowest_address (segments file) in low - low % PAGE_SIZE

abbrev pub shape_for : List ℕ → ℕ → Version → Shape
shape_for file size version = record { base = base_of file; size = size; version = version }

-- the bytes from the first stack pointer to the end of memory
abbrev pub below_top : ℕ
below_top = 64

-- the first stack pointer, which no segment passes
abbrev pub stack_of : Shape → ℕ
stack_of shape = shape.base + shape.size - below_top

abbrev pub layout_cases : List ℕ → Shape → List (Case ElfFault)
layout_cases file shape =
    (faults.TooLarge if nat_lt (2 ^ 32) (shape.base + shape.size)
    || nat_lt (stack_of shape) (highest_end (segments file)))
    ∷ (faults.Entry if not (e_entry file % 4 == 0) || not (holds shape (e_entry file) 4))
    ∷ []

abbrev pub cases : List ℕ → Shape → List (Case ElfFault)
cases file shape = header_cases file ++ table_cases file ++ segment_cases file ++ layout_cases file shape

-- a segment in memory: its bytes of the file, and zeros up to its size
abbrev pub segment_changes : List ℕ → Header → List Change
segment_changes file header =
    Memory header.p_vaddr (take header.p_filesz (drop header.p_offset file))
    ∷ Memory (header.p_vaddr + header.p_filesz) (replicate (header.p_memsz - header.p_filesz) 0)
    ∷ []

-- The state in which a program begins: all bytes 0, then the segments in the order of their headers, the pc and the
-- stack pointer x2.
unfoldable pub start_state : List ℕ → Shape → State
start_state file shape =
    state_after_all (zero_state shape)
    (flat_map (segment_changes file) (segments file) ++ Pc (e_entry file) ∷ Register 2 (stack_of shape) ∷ [])

-- an image: the state in which it begins, and where its program's break is at first
pub record Image : Type 0 where
  pub start : State
  pub low : ℕ

-- the greatest end of a segment, rounded up to a multiple of 16
abbrev pub low_of : List ℕ → ℕ
low_of file = (highest_end (segments file) + 15) / 16 * 16

-- the bytes at the end of memory that are kept for the stack: 64 KiB
abbrev pub stack_reserve : ℕ
stack_reserve = 65536

-- The break may rise to where the stack's bytes begin; where low lies above that, it may not rise.
abbrev pub high_of : Image → ℕ
high_of image = max image.low (image.start.shape.base + image.start.shape.size - stack_reserve)

abbrev pub image_for : List ℕ → Shape → Image
image_for file shape = record { start = start_state file shape; low = low_of file }

-- the image, or the first fault
unfoldable pub image_of : List ℕ → ℕ → Version → Result Image ElfFault
image_of file size version = let shape = shape_for file size version in
    elim (first_fault (cases file shape)) [ Some fault ↦ Err fault | None ↦ Ok (image_for file shape) ]
