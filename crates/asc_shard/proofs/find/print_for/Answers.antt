use Rattle.std.proofs.Common.{rules, ◌*◌, ◌∙◌, arith}
use Rattle.asc_model.proofs.Numbers.{word_at-below}
use Rattle.asc_shard.specs.Inside.{AreProducts}
use Rattle.asc_shard.proofs.Searching.{true-at}
use Rattle.asc_shard.proofs.Words.{state-print, words-print}
use Rattle.asc_shard.proofs.find.print_for.Goals as goal

pub returns-in-Some : goal.returns-in-Some
returns-in-Some c =
    let s = c.args.state.now in
    let fine = c.shape.ensures.state.bytes in
    let true_e = true-at _ _ c.args.from c.requires.index.entries c.requires.within in
    let are : AreProducts s c.in-Some.products.now = search rules in
    c.print_of_words.ensures ∙ words-print s _ c.args.head.now c.in-Some.products.now fine (λ w. word_at-below s.bytes (w * 4) fine) true_e c.requires.head
    (omega (arith, c.if-head-eq0.false)) c.requires.entry are

pub returns-in-None : goal.returns-in-None
returns-in-None c =
    let s = c.args.state.now in
    let fine = c.shape.ensures.state.bytes in
    let true_e = true-at _ _ c.args.from c.requires.index.entries c.requires.within in
    c.print_of_state.ensures ∙ state-print s _ c.args.head.now fine (λ w. word_at-below s.bytes (w * 4) fine) true_e c.requires.head (omega (arith, c.if-head-eq0.false)) c.requires.entry
