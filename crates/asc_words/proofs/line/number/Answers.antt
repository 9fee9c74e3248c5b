use Rattle.std.proofs.Common.{◌∙◌, ℕ, rules, sym, subst, Option, IsSome}
use Rattle.clap.specs.Words.{found_of, rows_of}
use Rattle.clap.proofs.WalkLemmas.{one_text-rows}
use Rattle.asc_words.proofs.Numbers.{reads_number}
use Rattle.asc_words.proofs.line.number.Goals as goal

pub unwrap-requires : goal.unwrap-requires
unwrap-requires c =
    let found = found_of c.args.found.now in
    let id = c.args.id.now in
    let got = reads_number id c.requires.0 c.requires.1 (rows_of found) c.get_one.result c.requires.2
    (λ text is. c.get_one.ensures.value text (one_text-rows found id ∙ is)) in
    subst (λ (o : Option ℕ). IsSome o) (sym got) (search rules)

pub returns : goal.returns
returns c =
    let found = found_of c.args.found.now in
    let id = c.args.id.now in
    let got = reads_number id c.requires.0 c.requires.1 (rows_of found) c.get_one.result c.requires.2
    (λ text is. c.get_one.ensures.value text (one_text-rows found id ∙ is)) in
    cc (got, c.unwrap.ensures)
