-- A law on files of entries.
use Rattle.std.specs.Prelude.{◌≡◌, ◌↔◌, ℕ, List, All, Ok}
use Rattle.asc_model.specs.Number.{AreBytes}
use Rattle.asc_model.specs.Entry.{IsCanonical}
use Rattle.asc_model.specs.EntryFile.{AreSavable, Saved, entry_file, saved_of}

-- bytes are the file of entries, which are within the bounds of files and each its own
pub record IsFileOf (saved : Saved) (file : List ℕ) : Type 0 where
  pub bytes : file ≡ entry_file saved.shape saved.entries
  pub savable : AreSavable saved.shape saved.entries
  pub own : All IsCanonical saved.entries

-- Bytes mean entries exactly where they are their file.
abbrev pub FilesMeanTheirEntries : Type 0
FilesMeanTheirEntries = (file : List ℕ) (saved : Saved) → AreBytes file
    → (saved_of file ≡ Ok saved) ↔ IsFileOf saved file
