use Rattle.std.proofs.Common.{◌≡◌, ◌∙◌, ap, sym, codes, List, Result, Ok}
use Rattle.std.specs.Result.{result_map_both}
use Rattle.clap.specs.Words.{found_of, rows_of}
use Rattle.clap.specs.Walk.{Row, first_of}
use Rattle.clap.proofs.WalkLemmas.{first_value-rows}
use Rattle.asc_words.specs.declared.answer.Bad.{Bad}
use Rattle.asc_words.specs.declared.line.Line.{Line}
use Rattle.asc_words.specs.declared.line.Line.TheVariants.{Run}
use Rattle.asc_words.specs.declared.line.RunLine.{RunLine}
use Rattle.asc_words.specs.Line.{run_with}
use Rattle.asc_words.proofs.line.run_line.Goals as goal

pub shared_line-requires : goal.shared_line-requires
shared_line-requires c = c.requires.shared

pub flag-requires : goal.flag-requires
flag-requires c = c.requires.report

-- with what only `asc run` is asked for
abbrev ran : List Row → Result RunLine Bad → Result Line Bad
ran rows = result_map_both (λ line. Run (run_with rows line)) (λ bad. bad)

pub returns-clause-line : goal.returns-clause-line
returns-clause-line c =
    let found = found_of c.args.found.now in
    let line = c.in_ok-line.line in
    let load : c.in_ok-load.load ≡ first_of (codes "load") (rows_of found) = c.in_ok-load.ensures ∙ c.get_str.ensures ∙ first_value-rows found (codes "load") in
    ap (ran (rows_of found)) c.in_ok-line.ensures.line
    ∙ (λ i. Ok (Run (record line { workers = (sym c.workers_of-workers.ensures i).0; lanes = (sym c.workers_of-workers.ensures i).1; report = sym c.flag.ensures i; load = sym load i })))
