-- How the files of a batch are read. These are words of private contracts.
use Rattle.std.specs.Prelude.{◌≡◌, ◌⊎◌, ℕ, ◌+◌, ◌≤◌, List, ◌∷◌, ◌++◌, length, Option, Some, None, Ok}
use Rattle.asc_outside.specs.Outside.{Blames, File, MayHold}
use Rattle.asc_elf.specs.Image as loader
use Rattle.asc_model.specs.Shape.{IsShape}
use Rattle.asc_words.specs.Batch.{BatchLine}
use Rattle.asc_words.specs.Line.{file_limit}
use Rattle.asc_words.specs.declared.answer.Answer.{Answer}
use Rattle.asc_words.specs.declared.answer.Answer.TheVariants as answers
use Rattle.asc_top.specs.Program.{load_of, refusal}
use Rattle.asc_top.specs.Endings.{BadFile, ending_of}
use Rattle.asc_top.specs.Batch.{AreBatchFiles, AreInputs, BatchFiles, batch_meaning, first_long}
use Rattle.asc_top.specs.BatchAnswer.{AsksForBatch, AsksForEach}

-- The inputs of these names were read, none of which is too long. The store's files stay. It was asked for these names, and
-- did not fail.
pub record ReadsInputs (names inputs : List (List ℕ)) (files : Option (List File)) (asked : Option (List (List ℕ)))
    (faults : ℕ) (files_after : Option (List File)) (asked_after : Option (List (List ℕ))) (faults_after : ℕ) : Type 0 where
  pub held : AreInputs (MayHold files) names inputs
  pub short : first_long 0 inputs ≡ None
  pub stay : files_after ≡ files
  pub names_are : AsksForEach names asked asked_after
  pub no_fault : faults_after ≡ faults

-- one of the inputs that the store may hold is too long, and this tells its number; it was the last of so many asked for
pub record IsLongInput (names : List (List ℕ)) (files : Option (List File)) (asked : ℕ) (answered : Answer) : Type 0 where
  pub inputs : List (List ℕ)
  pub held : AreInputs (MayHold files) names inputs
  pub number : ℕ
  pub long : first_long 0 inputs ≡ Some number
  pub answer : answered ≡ answers.InputTooLong number
  pub last : asked ≡ number + 1

-- The inputs of these names were not all read. The store was asked for the first of them. It failed, memory was wanting, or
-- an input is too long.
pub record FailsAtInput (names : List (List ℕ)) (answered : Answer) (files : Option (List File))
    (asked : Option (List (List ℕ))) (faults : ℕ) (files_after : Option (List File)) (asked_after : Option (List (List ℕ)))
    (faults_after : ℕ) : Type 0 where
  pub front : List (List ℕ)
  pub rest : List (List ℕ)
  pub split : names ≡ front ++ rest
  pub stay : files_after ≡ files
  pub names_are : AsksForEach front asked asked_after
  pub store_fault : Blames (answered ≡ answers.StoreFault) faults faults_after
  pub cause : ((answered ≡ answers.StoreFault) ⊎ (answered ≡ answers.Memory))
      ⊎ IsLongInput names files (length front) answered

-- All files of a batch were read, and none is refused.
pub record ReadsBatch (line : BatchLine) (read : BatchFiles) (files : Option (List File)) (asked : Option (List (List ℕ)))
    (faults : ℕ) (files_after : Option (List File)) (asked_after : Option (List (List ℕ))) (faults_after : ℕ) : Type 0 where
  pub held : AreBatchFiles (MayHold files) line read
  pub within : length read.image ≤ file_limit
  pub image : loader.Image
  pub loads : load_of line.run read.image ≡ Ok image
  pub good : IsShape image.start.shape
  pub short : first_long 0 read.inputs ≡ None
  pub stay : files_after ≡ files
  pub names_are : AsksForEach (line.run.image ∷ line.inputs) asked asked_after
  pub no_fault : faults_after ≡ faults

-- They were not all read, or one is refused.
pub record RefusesBatch (line : BatchLine) (answered : Answer) (files : Option (List File))
    (asked : Option (List (List ℕ))) (faults : ℕ) (files_after : Option (List File)) (asked_after : Option (List (List ℕ)))
    (faults_after : ℕ) : Type 0 where
  pub stay : files_after ≡ files
  pub names : AsksForBatch line answered asked asked_after
  pub store_fault : Blames (answered ≡ answers.StoreFault) faults faults_after
  pub cause : ((answered ≡ answers.StoreFault) ⊎ (answered ≡ answers.Memory))
      ⊎ ((read : BatchFiles) × AreBatchFiles (MayHold files) line read × (ending_of answered ≡ BadFile)
      × (batch_meaning line read ≡ refusal answered))
