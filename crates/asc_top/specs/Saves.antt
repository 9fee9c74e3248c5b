-- What a save comes to.
use Rattle.std.specs.Prelude.{◌≡◌, ◌⊎◌, ℕ, ◌+◌}
use Rattle.asc_model.specs.EntryFile.{entry_file}
use Rattle.asc_outside.specs.Outside.{Given, PutsPart, given_after, one_more}
use Rattle.asc_elf.specs.Image as loader
use Rattle.asc_words.specs.declared.line.RunLine.{RunLine}
use Rattle.asc_words.specs.declared.answer.Answer.{Answer}
use Rattle.asc_words.specs.declared.answer.Answer.TheVariants.{Done, Memory, WriteFault}
use Rattle.asc_top.specs.Numbers.{SaveRun, entries_of_save}
use Rattle.asc_top.specs.Answered.{RisesWithin}

-- a save's run of an image was made, and the counter rose by the steps that it executed
pub record RunsToSave (line : RunLine) (image : loader.Image) (before after : ℕ) : Type 0 where
  pub run : SaveRun line image
  pub steps : after ≡ before + run.numbers.run.executed

-- The file of the entries was put to a sink, or the sink failed, and once. Or memory was wanting, and nothing was put: then
-- the counter rose by no more than the line's limit.
abbrev pub EndsSave : RunLine → loader.Image → (steps steps_after : ℕ) → (before after : Given) → (faults now : ℕ)
    → Answer → Type 0
EndsSave line image steps steps_after before after faults now answered =
    ((answered ≡ Memory) × RisesWithin line.limit steps steps_after × (after ≡ before) × (now ≡ faults))
    ⊎ ((made : RunsToSave line image steps steps_after)
    × (((answered ≡ Done 0) × (after ≡ given_after before (entry_file image.start.shape (entries_of_save made.run))) × (now ≡ faults))
    ⊎ ((answered ≡ WriteFault) × PutsPart before after (entry_file image.start.shape (entries_of_save made.run))
    × (now ≡ one_more faults))))
