-- A file that is too long.
use Rattle.std.proofs.Common.{◌≡◌, ℕ, List, Ok, ap, subst}
use Rattle.asc_outside.specs.Outside.{AsksFor, MayHoldLonger}
use Rattle.asc_words.specs.Line.{file_limit}
use Rattle.asc_top.proofs.ReadFiles.{is_longer}
use Rattle.asc_top.proofs.opened.file_of.Goals as goal

pub returns-in-Ok-Longer-clause-unread : goal.returns-in-Ok-Longer-clause-unread
returns-in-Ok-Longer-clause-unread g c =
    let name : c.as_str.result.now ≡ c.args.name.now = c.as_str.ensures in
    let longer = subst (λ (n : List ℕ). MayHoldLonger (g.F.Store.files c.args.store.now) n file_limit) name
    (c.in-Ok-Longer.ensures.longer (ap (λ x. Ok x) c.in-Ok-Longer.field-0-is)) in
    let names = subst (λ (n : List ℕ). AsksFor n (g.F.Store.asked c.args.store.now) (g.F.Store.asked c.read.new.self)) name c.in-Ok-Longer.ensures.asked in
    is_longer c.args.name.now c.args.too_long _ _ _ _ _ _ longer c.in-Ok-Longer.ensures.files names c.requires c.in-Ok-Longer.ensures.cause.stays
