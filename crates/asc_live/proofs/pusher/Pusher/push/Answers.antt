-- The job was pushed, found no room, or memory was wanting.
use Rattle.std.proofs.Common.{[], ◌∷◌, ◌+◌, subst}
use Rattle.std.specs.Arc.{arc_value}
use Rattle.asc_live.specs.Due.{Due, Pusher, Pushes}
use Rattle.asc_live.proofs.Pushing.{each, Pushes-refused, Pushes-full, Pushes-one, asks-same}
use Rattle.asc_live.proofs.pusher.Pusher.push.Goals as goal

pub returns-in_default : goal.returns-in_default
returns-in_default g c = Pushes-refused _ _ _ c.refuse.ensures

pub returns-in-Ok : goal.returns-in-Ok
returns-in-Ok g c =
    let i = c.self.inside in
    let d : Due = record { prev = arc_value c.args.prev.now; last = arc_value c.args.last.now; ahead = c.args.ahead; kind = c.args.kind } in
    let p : Pusher = record { giver = i.giver; lacked = i.lacked; left = i.left; passed = i.passed; refused = i.refused } in
    let q : Pusher = record p { giver = c.push.new.self } in
    subst (λ x. Pushes each (d ∷ []) x q) c.self.view_is
    (Pushes-one d p c.push.new.self _ (asks-same _ _ c.args.ahead c.args.kind c.in-Ok.field-0 c.in-Ok-Ok.prev c.in-Ok-Ok.last c.in-Ok-Ok.ensures c.in-Ok-Ok.ensures') c.in-Ok.ensures.ticket c.in-Ok.ensures.pushed)

pub returns-in-Err : goal.returns-in-Err
returns-in-Err g c =
    let i = c.self.inside in
    let d : Due = record { prev = arc_value c.args.prev.now; last = arc_value c.args.last.now; ahead = c.args.ahead; kind = c.args.kind } in
    let p : Pusher = record { giver = i.giver; lacked = i.lacked; left = i.left; passed = i.passed; refused = i.refused } in
    let q : Pusher = record p { giver = c.push.new.self; lacked = i.lacked + 1 } in
    subst (λ x. Pushes each (d ∷ []) x q) c.self.view_is (Pushes-full d p c.push.new.self c.in-Err.ensures.same c.in-Err.ensures.full)
