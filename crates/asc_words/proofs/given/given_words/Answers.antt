-- All words that were given are taken, in order.
use Rattle.std.proofs.Common.{refl, sym, ◌∙◌, map-id}
use Rattle.std.specs.Vec.Iter.{into_iter_items}
use Rattle.std.proofs.lemmas.Iterator.{items_from_drains}
use Rattle.std.proofs.lemmas.Iterator.Adapters.{YieldsList-from_vec}
use Rattle.asc_words.proofs.given.given_words.Goals as goal

pub returns-in_ok-collect-in-Ok-clause-given : goal.returns-in_ok-collect-in-Ok-clause-given
returns-in_ok-collect-in-Ok-clause-given c =
    let given = c.in-Ok.words in
    let ran = c.in_ok-collect-in-Ok.ensures.ran in
    let drained = items_from_drains ran.0 ran.1 (YieldsList-from_vec {s = given} (into_iter_items given) refl given.rest.ok.0) in
    rw c.in-Ok.is (ran.2.0 ∙ sym (map-id ran.0) ∙ drained)
