-- The words so far are the first ones, with the options that were copied.
use Rattle.std.proofs.Common.{◌≡◌, ◌++◌, map, take}
use Rattle.std.specs.String.{string_bytes}
use Rattle.asc_inspect.proofs.request.line_with.Given as goal

abbrev pub invariant-loop-word : goal.invariant-loop-word
invariant-loop-word l = map string_bytes l.asked.items
    ≡ map string_bytes l.fn.asked.items ++ map string_bytes (take l.word-index l.options)
