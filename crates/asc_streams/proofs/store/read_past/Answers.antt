use Rattle.std.proofs.Common.{◌≡◌, ℕ, ◌<◌, ◌≤◌, List, length, IfOk, subst, ap, arith}
use Rattle.asc_streams.specs.Told.{Remains}
use Rattle.asc_streams.proofs.Told.{read_front}
use Rattle.asc_streams.proofs.store.read_past.Goals as goal

pub returns-clause-whole : goal.returns-clause-whole
returns-clause-whole g c =
    let empty = c.requires in
    let old = c.args.into.now in
    let new = c.read_to_end.new.buf in
    let none : old.len ≡ 0 = omega (arith, ap (λ (l : List ℕ). length l) empty) in
    let past : length new.items ≤ c.args.most → length new.items < c.take.result.limit = omega arith in
    subst (λ reader. IfOk c.read_to_end.result (λ n. n ≤ c.args.most → Remains (g.R.Read.remaining reader) new.items)) c.take.ensures.inner
    (read_front c.read_to_end.result (g.R.Read.remaining c.take.result.inner) c.take.result.limit c.args.most old.len new.len old.items new.items
    c.read_to_end.ensures.bytes c.read_to_end.ensures.ok none new.ok.0 empty past)
