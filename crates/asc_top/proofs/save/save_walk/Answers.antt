-- What a save puts to out, of what its walk leaves.
use Rattle.std.proofs.Common.{◌≡◌, ◌∙◌, ℕ, List, [], None, false, refl, sym, ap, subst, inl, inr}
use Rattle.asc_model.specs.Shape.{Shape}
use Rattle.asc_model.specs.State.{IsState}
use Rattle.asc_model.specs.Entry.{Entry}
use Rattle.asc_model.specs.EntryFile.{AreSavable, entry_file}
use Rattle.asc_outside.specs.Outside.{PutsPart, given_after}
use Rattle.asc_shard.specs.Shard.{Shard}
use Rattle.asc_calls.specs.World.{Outside}
use Rattle.asc_run.specs.SerialHelper.{aid_of, first_helper}
use Rattle.asc_run.specs.Walk.{Walk}
use Rattle.asc_top.specs.Numbers.{entries_of_save, guessing_of}
use Rattle.asc_top.specs.Ran.{Walked}
use Rattle.asc_top.proofs.Lent.{over_counts}
use Rattle.asc_top.proofs.Leaving.{helper_left, helper_rises, left_savable}
use Rattle.asc_top.proofs.save.save_walk.Goals as goal

pub write-requires : goal.write-requires
write-requires g c =
    let line = c.args.line.now in
    let own = c.requires.walk.1 in
    let shape_is = c.shape-shape.ensures.shape ∙ ap (λ (walk : Walk). walk.state.shape) own.walk_is in
    let new_is : c.in-Ok.helper ≡ first_helper own.image.start.shape (guessing_of line) = c.in-Ok.ensures ∙ (λ i. first_helper (shape_is i) (c.guessing_of.ensures i)) in
    let walked = over_counts c.no_devices-guest.result c.run_with.new.devices c.args.steps.now c.run_with.new.steps
    (λ (old new : Outside). Walked false c.args.walk.now c.run_with.new.walk old new (aid_of c.in-Ok.helper) (aid_of c.run_with.new.helper) None c.run_with.result)
    c.no_devices-guest.ensures c.into_parts.ensures.told c.run_with.ensures in
    let left = helper_left line c.requires.walk.0 c.args.walk.now own c.run_with.new.walk [] 0 0 _ _ _ _ _ c.in-Ok.helper c.run_with.new.helper c.run_with.result walked new_is
    refl (sym c.refused.ensures ∙ c.if-refused-ne0.false) in
    let state : IsState own.image.start = subst (λ (walk : Walk). IsState walk.state) own.walk_is c.shape-shape.ensures.state in
    let held : c.content.result.now.held ≡ entries_of_save left.0.run = ap (λ (s : Shard). s.held) c.content.ensures ∙ left.1 in
    subst (λ (entries : List Entry). AreSavable c.shape-shape.result entries) (sym held)
    (subst (λ (shape : Shape). AreSavable shape (entries_of_save left.0.run)) (sym shape_is) (left_savable line own.image _ _ left.0 c.requires.line state))

pub returns-then-refused-ne0 : goal.returns-then-refused-ne0
returns-then-refused-ne0 g c = λ content own.
    let line = c.args.line.now in
    let shape_is = c.shape-shape.ensures.shape ∙ ap (λ (walk : Walk). walk.state.shape) own.walk_is in
    let new_is : c.in-Ok.helper ≡ first_helper own.image.start.shape (guessing_of line) = c.in-Ok.ensures ∙ (λ i. first_helper (shape_is i) (c.guessing_of.ensures i)) in
    let walked = over_counts c.no_devices-guest.result c.run_with.new.devices c.args.steps.now c.run_with.new.steps
    (λ (old new : Outside). Walked false c.args.walk.now c.run_with.new.walk old new (aid_of c.in-Ok.helper) (aid_of c.run_with.new.helper) None c.run_with.result)
    c.no_devices-guest.ensures c.into_parts.ensures.told c.run_with.ensures in
    inl (
      refl,
      helper_rises line content c.args.walk.now own c.run_with.new.walk [] 0 0 _ _ _ _ _ c.in-Ok.helper c.run_with.new.helper c.run_with.result walked new_is,
      refl,
      refl,
    )

pub returns-in-Ok-write : goal.returns-in-Ok-write
returns-in-Ok-write g c = λ content own.
    let line = c.args.line.now in
    let shape_is = c.shape-shape.ensures.shape ∙ ap (λ (walk : Walk). walk.state.shape) own.walk_is in
    let new_is : c.in-Ok.helper ≡ first_helper own.image.start.shape (guessing_of line) = c.in-Ok.ensures ∙ (λ i. first_helper (shape_is i) (c.guessing_of.ensures i)) in
    let walked = over_counts c.no_devices-guest.result c.run_with.new.devices c.args.steps.now c.run_with.new.steps
    (λ (old new : Outside). Walked false c.args.walk.now c.run_with.new.walk old new (aid_of c.in-Ok.helper) (aid_of c.run_with.new.helper) None c.run_with.result)
    c.no_devices-guest.ensures c.into_parts.ensures.told c.run_with.ensures in
    let left = helper_left line content c.args.walk.now own c.run_with.new.walk [] 0 0 _ _ _ _ _ c.in-Ok.helper c.run_with.new.helper c.run_with.result walked new_is
    refl (sym c.refused.ensures ∙ c.if-refused-ne0.false) in
    let held : c.content.result.now.held ≡ entries_of_save left.0.run = ap (λ (s : Shard). s.held) c.content.ensures ∙ left.1 in
    let put : g.O.Sink.given c.write.new.out ≡ given_after (g.O.Sink.given c.args.out.now) (entry_file own.image.start.shape (entries_of_save left.0.run)) =
    c.in-Ok-write.ensures.all ∙ (λ i. given_after (g.O.Sink.given c.args.out.now) (entry_file (shape_is i) (held i))) in
    inr (left.0, inl (refl, put, c.in-Ok-write.ensures.cause.stays))

pub returns : goal.returns
returns g c = λ content own.
    let line = c.args.line.now in
    let shape_is = c.shape-shape.ensures.shape ∙ ap (λ (walk : Walk). walk.state.shape) own.walk_is in
    let new_is : c.in-Ok.helper ≡ first_helper own.image.start.shape (guessing_of line) = c.in-Ok.ensures ∙ (λ i. first_helper (shape_is i) (c.guessing_of.ensures i)) in
    let walked = over_counts c.no_devices-guest.result c.run_with.new.devices c.args.steps.now c.run_with.new.steps
    (λ (old new : Outside). Walked false c.args.walk.now c.run_with.new.walk old new (aid_of c.in-Ok.helper) (aid_of c.run_with.new.helper) None c.run_with.result)
    c.no_devices-guest.ensures c.into_parts.ensures.told c.run_with.ensures in
    let left = helper_left line content c.args.walk.now own c.run_with.new.walk [] 0 0 _ _ _ _ _ c.in-Ok.helper c.run_with.new.helper c.run_with.result walked new_is
    refl (sym c.refused.ensures ∙ c.if-refused-ne0.false) in
    let held : c.content.result.now.held ≡ entries_of_save left.0.run = ap (λ (s : Shard). s.held) c.content.ensures ∙ left.1 in
    let part : PutsPart (g.O.Sink.given c.args.out.now) (g.O.Sink.given c.write.new.out) (entry_file own.image.start.shape (entries_of_save left.0.run)) =
    subst (λ (file : List ℕ). PutsPart (g.O.Sink.given c.args.out.now) (g.O.Sink.given c.write.new.out) file) (λ i. entry_file (shape_is i) (held i)) c.in-Err.ensures.part in
    inr (left.0, inr (refl, part, c.in-Err.ensures.cause.rose))
