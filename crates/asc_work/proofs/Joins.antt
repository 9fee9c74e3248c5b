-- Entries that were inserted and joined, told of the worker as it was before its job.
use Rattle.std.proofs.Common.{◌≡◌, ◌≤◌, ◌&&◌, true, false, Option, Some, None, Result, Ok, Err, refl, sym, ap, subst, ◌∙◌, if◌then◌else◌}
use Rattle.std.specs.Option.{is_some}
use Rattle.std.specs.Prelude.{OnErr}
use Rattle.std.proofs.lemmas.Bool.{false≢true}
use Rattle.asc_model.specs.Entry.{Entry}
use Rattle.asc_outside.specs.Outside.{one_more}
use Rattle.asc_shard.specs.Shard.{Shard}
use Rattle.asc_shard.specs.declared.shard.Inserted.{Inserted}
use Rattle.asc_shard.specs.declared.shard.Inserted.TheVariants as answers
use Rattle.asc_shard.specs.Content.{inserted_in}
use Rattle.asc_cache.specs.Insert.{shard_after}
use Rattle.asc_jobs.specs.declared.job.Job.{Job}
use Rattle.asc_model.specs.declared.tally.Column.{Column}
use Rattle.asc_model.specs.declared.tally.Column.TheVariants.{Stored, Known, Empty, Dropped, Stopped}
use Rattle.asc_work.specs.Worker.{Worker, IsOfShape, HasJoined, HasStored, HasInserted, Ends, entry_for, join_behind, shard_with, steps_for}

pub on_err : {A E P : Type 0} (r : Result A E) → P → OnErr r P
on_err (Ok x) p = tt
on_err (Err e) p = p

-- memory was wanting for an entry to keep
pub none_kept : {W H : Type 0} (w v : Worker W H) (e : Entry) (between new : Shard) → v.kept ≡ None → v.left_out ≡ one_more w.left_out → new ≡ between → HasJoined w v e between new
none_kept w v e between new kept left_out same = by (join_behind w.kept e) refl
  where
    by : (o : Option Entry) → join_behind w.kept e ≡ o → HasJoined w v e between new
    by None is = record {
      keeps = false;
      joins = true;
      kept = kept;
      content = same ∙ ap (shard_with between) (sym is);
      left_out = left_out;
      due = λ no. absurd (false≢true (sym no));
    }
    by (Some j) is = record { keeps = false; joins = false; kept = kept; content = same; left_out = left_out; due = λ _. ap is_some is }

-- told of the same worker
pub of_same : {W H : Type 0} (content : W → Shard) (x w v : Worker W H) (e : Entry) (new : Shard) → x ≡ w → HasJoined x v e (content x.writer) new → HasJoined w v e (content w.writer) new
of_same content x w v e new same h = subst (λ y. HasJoined y v e (content y.writer) new) same h

-- two workers that keep the same for joins
as_before : {W H : Type 0} (w x v : Worker W H) (e : Entry) (old new : Shard) → x.kept ≡ w.kept → x.left_out ≡ w.left_out → HasJoined x v e old new → HasJoined w v e old new
as_before w x v e old new kept left_out h = record {
  keeps = h.keeps;
  joins = h.joins;
  kept = h.kept;
  content = subst (λ k. new ≡ (if h.joins then shard_with old (join_behind k e) else old)) kept h.content;
  left_out = subst (λ n. v.left_out ≡ (if h.keeps && h.joins then n else one_more n)) left_out h.left_out;
  due = λ no. subst (λ k. is_some (join_behind k e) ≡ true) kept (h.due no);
}

-- an entry was stored, and then joined
pub was_stored : {W H : Type 0} (w x v : Worker W H) (e : Entry) (answer : Inserted) (old between new : Shard)
    → (answer ≡ inserted_in old.held e) × (between ≡ shard_after old e) → answer ≡ answers.Stored → w.join ≡ true → x.kept ≡ w.kept → x.left_out ≡ w.left_out
    → HasJoined x v e between new → HasStored w v (Some e) old new
was_stored w x v e answer old between new inserted stored joins kept left_out h = record {
  e = e;
  is = refl;
  stored = sym inserted.0 ∙ stored;
  alone = λ alone. absurd (cc);
  joined = λ _. as_before w x v e (shard_after old e) new kept left_out (subst (λ s. HasJoined x v e s new) inserted.1 h);
}

-- what became of the entry of a job, whose halt was asked before
pub was_inserted : {W H : Type 0} (column : Column) (w v : Worker W H) (halt : H) (job : Job) (e : Entry) (old new : Shard) → IsOfShape w.shape job
    → 1 ≤ steps_for w.laps w.span job → entry_for w.laps w.span job ≡ Some e → Ends column (record w { halt = halt }) v (Some e) old new → HasInserted column w v job old new
was_inserted Stored w v halt job e old new shape steps is h = (
  shape,
  record {
    e = h.e;
    is = is ∙ h.is;
    stored = h.stored;
    alone = h.alone;
    joined = λ joins. as_before w (record w { halt = halt }) v h.e (shard_after old h.e) new refl refl (h.joined joins);
  },
)
was_inserted Known w v halt job e old new shape steps is h = (shape, (h.0.0, is ∙ h.0.1, h.0.2, h.0.3), h.1)
was_inserted Empty w v halt job e old new shape steps is h = absurd h
was_inserted Dropped w v halt job e old new shape steps is h = (shape, steps, h.0, h.1)
was_inserted Stopped w v halt job e old new shape steps is h = absurd h
