use Rattle.std.proofs.Common.{rules, map}
use Rattle.std.specs.Arc.{arc_value}
use Rattle.asc_live.proofs.Opening.{all_writers, first_writer, has_learnt, opened_of, stored_writer}
use Rattle.asc_live.proofs.shards.open_shards.Goals as goal

pub meet-requires : goal.meet-requires
meet-requires g c =
    let readers = c.split-writers.result.1.readers in let w = c.index_mut-writer.result.now in
    let opened = opened_of c.args.shards c.split-writers.result.0.items c.split-writers.result.1 c.split-writers.ensures.writers c.split-writers.ensures.readers c.in_ok-open.ensures.opened in
    (stored_writer readers w c.insert_all.new.writer c.insert_all.ensures.rest
    (first_writer c.args.shards c.split-writers.result.0.items readers w opened (search rules) (search rules))).own

pub returns-clause-own : goal.returns-clause-own
returns-clause-own g c =
    let readers = c.split-writers.result.1.readers in let w = c.index_mut-writer.result.now in
    let opened = opened_of c.args.shards c.split-writers.result.0.items c.split-writers.result.1 c.split-writers.ensures.writers c.split-writers.ensures.readers c.in_ok-open.ensures.opened in
    all_writers c.args.shards c.split-writers.result.0.items readers c.meet.new.self.readers w c.insert_all.new.writer opened (search rules) (search rules) c.insert_all.ensures.rest c.meet.ensures.later

pub returns-clause-learnt : goal.returns-clause-learnt
returns-clause-learnt g c =
    let readers = c.split-writers.result.1.readers in let w = c.index_mut-writer.result.now in
    let opened = opened_of c.args.shards c.split-writers.result.0.items c.split-writers.result.1 c.split-writers.ensures.writers c.split-writers.ensures.readers c.in_ok-open.ensures.opened in
    has_learnt c.args.shards c.split-writers.result.0.items readers c.meet.new.self.readers w c.insert_all.new.writer (map arc_value c.args.first.now) opened (search rules) (search rules)
    c.in_ok-insert_all.ensures.held c.insert_all.ensures.rest c.meet.ensures.later c.meet.ensures.seen
