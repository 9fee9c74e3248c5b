use Rattle.std.proofs.Common.{◌≡◌, drop}
use Rattle.asc_outside.specs.Outside.{content_of}
use Rattle.asc_outside.specs.Lists.{files_of}
use Rattle.asc_outside.proofs.list_store.content.Given as goal

-- the files from here on give the content that all of them give
abbrev pub invariant-loop-file : goal.invariant-loop-file
invariant-loop-file l = content_of (files_of (drop l.file-index l.files)) l.name ≡ content_of (files_of l.files) l.name
