-- The parts of a run are popped, and the crew is one still after it.
use Rattle.std.proofs.Common.{◌≡◌, ◌≤◌, List, Some, sym, ap, subst, ◌∙◌}
use Rattle.asc_find.specs.declared.guessing.Guessing.{Guessing}
use Rattle.asc_cache.specs.Cache.{AreLater, ShardReader, ShardReaders, ShardWriter}
use Rattle.asc_run.specs.LastVisits.{LastVisits}
use Rattle.asc_work.proofs.Posts.{all_popped, is_popped}
use Rattle.asc_live.specs.Crew.{AreOfSameShards, HasMet, IsForRun, OpenCrew, readers_in, writers_of}
use Rattle.asc_live.proofs.Meeting.{later_twice}
use Rattle.asc_live.proofs.Runs.{all_writers_of, crew_after, same_shards, went_as}
use Rattle.asc_live.proofs.open_crew.OpenCrew.go.Goals as goal

pub go_lent-readers-requires-clause-ahead : goal.go_lent-readers-requires-clause-ahead
go_lent-readers-requires-clause-ahead g c κs within =
    let i = c.self.inside in let part = c.in-Some-pop.parts in
    let popped = all_popped (IsForRun i.guessing i.crew) i.parts.items c.pop.new.self.items part (is_popped i.parts.items c.pop.new.self.items _ part c.pop.ensures.items c.in-Some-pop.is) c.self.invariant.parts in
    let e : part.visits.guessing ≡ i.guessing = ap (λ (v : LastVisits). v.guessing) popped.1.visits in
    subst (λ (x : Guessing). (1 ≤ x.ahead) × (x.ahead ≤ 64)) (sym e) (c.self.invariant.least, c.self.invariant.most)

pub go_lent-readers-requires-clause-parts : goal.go_lent-readers-requires-clause-parts
go_lent-readers-requires-clause-parts g c κs within =
    let i = c.self.inside in let part = c.in-Some-pop.parts in
    let popped = all_popped (IsForRun i.guessing i.crew) i.parts.items c.pop.new.self.items part (is_popped i.parts.items c.pop.new.self.items _ part c.pop.ensures.items c.in-Some-pop.is) c.self.invariant.parts in
    let e : part.visits.guessing ≡ i.guessing = ap (λ (v : LastVisits). v.guessing) popped.1.visits in
    subst (λ (x : Guessing). IsForRun x i.crew part) (sym e) popped.1

pub invariant_of-self : goal.invariant_of-self
invariant_of-self g c =
    let i = c.self.inside in let part = c.in-Some-pop.parts in
    let popped = all_popped (IsForRun i.guessing i.crew) i.parts.items c.pop.new.self.items part (is_popped i.parts.items c.pop.new.self.items _ part c.pop.ensures.items c.in-Some-pop.is) c.self.invariant.parts in
    let lent = c.go_lent-readers.result.1.readers in let now = c.meet_all.new.readers in
    let there : i.readers ≡ Some c.in-Some.readers = sym c.take.ensures.value ∙ c.in-Some.is in
    let same : c.begin.new.self.readers ≡ readers_in i.readers = ap (λ (r : ShardReaders). r.readers) c.begin.ensures ∙ sym (ap readers_in there) in
    let later : AreLater (readers_in i.readers) now.readers =
    later_twice (readers_in i.readers) lent now.readers (subst (λ (xs : List ShardReader). AreLater xs lent) same c.go_lent-readers.ensures.readers) c.meet_all.ensures.later in
    crew_after i.shape i.guessing i.crew i.readers now i.team c.go_lent-readers.new.team _ i.parts.items c.pop.new.self.items
    c.self.invariant later c.go_lent-readers.ensures.idle c.go_lent-readers.ensures.team popped.0

pub returns-clause-went : goal.returns-clause-went
returns-clause-went g c =
    let i = c.self.inside in let part = c.in-Some-pop.parts in
    let popped = all_popped (IsForRun i.guessing i.crew) i.parts.items c.pop.new.self.items part (is_popped i.parts.items c.pop.new.self.items _ part c.pop.ensures.items c.in-Some-pop.is) c.self.invariant.parts in
    went_as part.visits.guessing c.args.self.now.guessing i.crew c.args.self.now.crew
    (ap (λ (v : LastVisits). v.guessing) popped.1.visits ∙ ap (λ (c : OpenCrew). c.guessing) c.self.view_is)
    (ap (λ (c : OpenCrew). c.crew) c.self.view_is) c.go_lent-readers.ensures.went

pub returns-clause-readers : goal.returns-clause-readers
returns-clause-readers g c =
    let i = c.self.inside in
    let lent = c.go_lent-readers.result.1.readers in let now = c.meet_all.new.readers in
    let there : i.readers ≡ Some c.in-Some.readers = sym c.take.ensures.value ∙ c.in-Some.is in
    let same : c.begin.new.self.readers ≡ readers_in i.readers = ap (λ (r : ShardReaders). r.readers) c.begin.ensures ∙ sym (ap readers_in there) in
    let later : AreLater (readers_in i.readers) now.readers =
    later_twice (readers_in i.readers) lent now.readers (subst (λ (xs : List ShardReader). AreLater xs lent) same c.go_lent-readers.ensures.readers) c.meet_all.ensures.later in
    subst (λ (xs : List ShardReader). AreLater xs now.readers) (ap (λ (c : OpenCrew). c.readers) c.self.view_is) later

pub returns-clause-writers : goal.returns-clause-writers
returns-clause-writers g c =
    let i = c.self.inside in
    subst (λ (xs : List ShardWriter). AreOfSameShards xs (writers_of c.go_lent-readers.new.team.posts)) (ap (λ (c : OpenCrew). c.writers) c.self.view_is)
    (same_shards i.team.posts c.go_lent-readers.new.team.posts c.go_lent-readers.ensures.team)

pub returns-clause-met : goal.returns-clause-met
returns-clause-met g c = all_writers_of (HasMet c.meet_all.new.readers.readers) c.go_lent-readers.new.team.posts c.meet_all.ensures.met
