-- What is known of a file once some of its faults are ruled out.
use Rattle.std.specs.Prelude.{◌≡◌, ℕ, ◌+◌, ◌*◌, ◌<◌, ◌≤◌, List, length, None, true, false}
use Rattle.asc_model.specs.Shape.{Shape}
use Rattle.asc_elf.specs.File.{elf_header_size, program_header_size, e_entry, e_phoff, e_phnum, Header, is_segment}
use Rattle.asc_model.specs.Case.{first_fault}
use Rattle.asc_elf.specs.Image.{header_cases, table_cases, segment_cases, cases, is_cut, stack_of, shape_for, low_of}

-- the header and the table of program headers are within the file
pub record HasTable (file : List ℕ) : Type 0 where
  pub header : elf_header_size ≤ length file
  pub table : 0 < e_phnum file → e_phoff file + program_header_size * e_phnum file ≤ length file

-- no fault but maybe one of its place in memory
pub record IsWhole (file : List ℕ) : Type 0 where
  pub header : first_fault (header_cases file) ≡ None
  pub table : first_fault (table_cases file) ≡ None
  pub segments : first_fault (segment_cases file) ≡ None

-- an image of this shape, its entry and its first break
pub record IsAccepted (file : List ℕ) (shape : Shape) (entry low : ℕ) : Type 0 where
  pub laid_out : shape ≡ shape_for file shape.size shape.version
  pub no_fault : first_fault (cases file shape) ≡ None
  pub begins : entry ≡ e_entry file
  pub breaks : low ≡ low_of file

-- a segment that the file does not cut off, and that has a place in memory below the first stack pointer
pub record HasPlace (file : List ℕ) (shape : Shape) (header : Header) : Type 0 where
  pub segment : is_segment header ≡ true
  pub whole : is_cut file header ≡ false
  pub above : shape.base ≤ header.p_vaddr
  pub below : header.p_vaddr + header.p_memsz ≤ stack_of shape
