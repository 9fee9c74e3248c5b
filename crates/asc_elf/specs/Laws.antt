-- A law on executable files.
use Rattle.std.specs.Prelude.{◌≡◌, ℕ, List, take, Result, Ok, Err}
use Rattle.asc_model.specs.declared.version.Version.{Version}
use Rattle.asc_elf.specs.declared.fault.ElfFault.{ElfFault}
use Rattle.asc_elf.specs.declared.fault.ElfFault.TheVariants.{Short, Magic, Class, Data, FileType, Machine, Flags, HeaderSize, Table, Interp, Segment, NoLoad, TooLarge, Entry}
use Rattle.asc_elf.specs.declared.fault.ElfFault.TheVariants as faults
use Rattle.asc_elf.specs.Image.{Image, image_of}

-- the faults of a file whose end is missing
abbrev pub IsCutFault : ElfFault → Type 0
IsCutFault Short = Unit {0}
IsCutFault Table = Unit {0}
IsCutFault (Segment index) = Unit {0}
IsCutFault Magic = ⊥
IsCutFault Class = ⊥
IsCutFault Data = ⊥
IsCutFault faults.Version = ⊥
IsCutFault FileType = ⊥
IsCutFault Machine = ⊥
IsCutFault Flags = ⊥
IsCutFault HeaderSize = ⊥
IsCutFault Interp = ⊥
IsCutFault NoLoad = ⊥
IsCutFault TooLarge = ⊥
IsCutFault Entry = ⊥

-- such a fault, or this image
abbrev pub IsCutOrSame : Image → Result Image ElfFault → Type 0
IsCutOrSame image (Ok other) = other ≡ image
IsCutOrSame image (Err fault) = IsCutFault fault

-- the first k bytes of an image are never another image: they are cut short, or the image itself
abbrev pub PrefixesAreCut : Type 0
PrefixesAreCut = (file : List ℕ) (size : ℕ) (version : Version) (k : ℕ) (image : Image)
    → image_of file size version ≡ Ok image → IsCutOrSame image (image_of (take k file) size version)
