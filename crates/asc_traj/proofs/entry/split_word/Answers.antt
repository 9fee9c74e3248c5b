use Rattle.std.proofs.Common.{ℕ, ◌*◌, Bool, sym, subst}
use Rattle.asc_model.specs.declared.status.Status.{Status}
use Rattle.asc_model.specs.declared.status.Status.TheVariants.{Read, Written, ReadWritten}
use Rattle.asc_shape.specs.Face.{status_at}
use Rattle.asc_depvec.specs.Tracer.{HaveStatus}
use Rattle.asc_traj.specs.Inside.{is_read_first, is_written}
use Rattle.asc_traj.proofs.Splits.{HasBits, mask-bits, no-reads, no-writes, one-status, pushed-reads, pushed-writes}
use Rattle.asc_traj.proofs.entry.split_word.Goals as goal

pub returns-in-Some-Read-clause-split : goal.returns-in-Some-Read-clause-split
returns-in-Some-Read-clause-split c =
    let t = c.args.tracer.now in
    let place = 4 * c.args.word in
    let have = subst (λ (s : Status). HaveStatus t.statuses s place 4) c.in-Some-Read.field-0-is c.in-Some-Read.ensures.one in
    record {
      reads = pushed-reads t place 15 c.kept_word.result _ _ (one-status is_read_first t.statuses Read place have) c.kept_word.ensures c.push.ensures.cells;
      writes = no-writes t place _ (one-status is_written t.statuses Read place have) c.known.ensures.state.bytes;
    }

pub returns-in-Some-Written-clause-split : goal.returns-in-Some-Written-clause-split
returns-in-Some-Written-clause-split c =
    let t = c.args.tracer.now in
    let place = 4 * c.args.word in
    let have = subst (λ (s : Status). HaveStatus t.statuses s place 4) c.in-Some-Written.field-0-is c.in-Some-Written.ensures.one in
    record {
      reads = no-reads t place _ (one-status is_read_first t.statuses Written place have) c.requires.start.bytes;
      writes = pushed-writes t place 15 c.last_word.result _ _ (one-status is_written t.statuses Written place have) c.last_word.ensures c.push-in-Some-Written.ensures.cells;
    }

pub returns-in-Some-ReadWritten-clause-split : goal.returns-in-Some-ReadWritten-clause-split
returns-in-Some-ReadWritten-clause-split c =
    let t = c.args.tracer.now in
    let place = 4 * c.args.word in
    let have = subst (λ (s : Status). HaveStatus t.statuses s place 4) c.in-Some-ReadWritten.field-0-is c.in-Some-ReadWritten.ensures.one in
    record {
      reads = pushed-reads t place 15 c.first_word.result _ _ (one-status is_read_first t.statuses ReadWritten place have) c.first_word.ensures c.push-in-Some-ReadWritten.ensures.cells;
      writes = pushed-writes t place 15 _ _ _ (one-status is_written t.statuses ReadWritten place have) c.last_word-in-Some-ReadWritten.ensures c.push-in-Some-ReadWritten-2.ensures.cells;
    }

pub returns-in-Some-Untouched-clause-split : goal.returns-in-Some-Untouched-clause-split
returns-in-Some-Untouched-clause-split c =
    let t = c.args.tracer.now in
    let place = 4 * c.args.word in
    let has = λ (q : Status → Bool) (m : ℕ). HasBits 4 m place (λ p. q (status_at t.statuses p)) in
    let read = subst (has is_read_first) (sym c.read_mask-read.ensures.mask) (mask-bits is_read_first t.statuses place) in
    let written = subst (has is_written) (sym c.written_mask-written.ensures.mask) (mask-bits is_written t.statuses place) in
    record {
      reads = pushed-reads t place c.read_mask-read.result _ _ _ read c.first_word-in-Some-Untouched.ensures c.push-in-Some-Untouched.ensures.cells;
      writes = pushed-writes t place c.written_mask-written.result _ _ _ written c.last_word-in-Some-Untouched.ensures c.push-in-Some-Untouched-2.ensures.cells;
    }
