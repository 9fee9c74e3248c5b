-- The rule of the log of a shard, which is kept in a book of the kit, and what its one step tells.
use Rattle.std.specs.Prelude.{ℕ, ◌≡◌, ◌≤◌, ◌==◌, true, List, [], ◌∷◌, ◌++◌, length, MatchBool}
use mathlib.Core.List.{IsPrefix}
use Rattle.logbook.specs.Pages.{Cell, Step, View, Book, Named}

-- The rule: the first word is the length of the log. A book has two words; the other one is 0 and not used.
abbrev pub LogRule : {E : Type 0} → List Cell → List E → Type 0
LogRule cells log = cells ≡ (length log, true) ∷ (0, true) ∷ []

-- of two beginnings of one list the shorter begins the longer
abbrev pub AreOfOneList : {X : Type 0} → List X → List X → Type 0
AreOfOneList xs ys = (length xs ≤ length ys → IsPrefix xs ys) × (length ys ≤ length xs → IsPrefix ys xs)

-- the first word of a book
abbrev pub head_of : Book → Named
head_of book = record { tracked = true; key = 0; book = book }

-- Where the number was found, the note was put behind all that had been seen.
abbrev pub Appends : {E A : Type 0} → Step E → View E A → (found : ℕ) → View E A → Type 0
Appends s v found w = MatchBool (found == s.old) (w.0 ≡ v.0 ++ s.ask ∷ []) (Unit {0})
