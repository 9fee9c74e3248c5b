-- A machine with no kind of guess on keeps no entry, and gives no jump.
use Rattle.std.proofs.Common.{◌≡◌, ◌∙◌, ℕ, ◌+◌, ◌-◌, ◌&&◌, nat_le, Bool, true, false, List, [], ◌∷◌, ◌++◌, length, map, Option, Some, None, refl, sym, ap, subst, arith}
use Rattle.std.specs.Prelude.{fold}
use Rattle.std.specs.List.{flat_map}
use Rattle.asc_model.specs.State.{State}
use Rattle.asc_guess.specs.Guess.{Task}
use Rattle.asc_find.specs.declared.guessing.Guessing.{Guessing}
use Rattle.asc_find.specs.Finder.{Jumps, hits_of}
use Rattle.asc_find.specs.Serial.{Serial, serial_reply, add_guess, after_tasks, kinds_of, made_at, tasks_of, visited}
use Rattle.asc_guess.specs.Choice.{chosen_address}
use Rattle.asc_run.specs.declared.walk.Ended.{Ended}
use Rattle.asc_run.specs.declared.recognised.Recognised.{Recognised}
use Rattle.asc_run.specs.declared.recognised.Recognised.TheVariants as recognised
use Rattle.asc_run.specs.Execution.{Position, Progress, On, Off}
use Rattle.asc_seek.specs.Seek.{watched_in}
use Rattle.asc_run.specs.Visits.{AreVisits, Course, Visit, goes_on_at, visit_rule, profile_of, jumps_of, seek_at}
use Rattle.asc_run.specs.Helped.{IsSerial, SerialAt}

-- none of these visits was given a jump
abbrev pub NoneGiven : List Visit → Type 0
NoneGiven [] = Unit {0}
NoneGiven (v ∷ before) = (v.reply ≡ None) × NoneGiven before

-- a jumps that rises by no jump
pub none_given : (visits : List Visit) (t : Jumps) → (jumps_of visits t).hits ≡ 0 → NoneGiven visits
none_given [] t none = tt
none_given (v ∷ before) t none = go v.reply refl none (none_given before t)
  where
    go : (reply : Option ℕ) → v.reply ≡ reply → (jumps_of (v ∷ before) t).hits ≡ 0 → ((jumps_of before t).hits ≡ 0 → NoneGiven before) → NoneGiven (v ∷ before)
    go None is no_hit earlier = (is, earlier (omega (arith, no_hit)))
    go (Some n) is no_hit earlier =
        let one : hits_of v.reply ≡ 1 = ap hits_of is in
        absurd (let no : ⊥ = omega (arith, one, no_hit) in no)

-- without a kind nothing is guessed
no_tasks : (g : Guessing) (issued number : ℕ) → kinds_of g ≡ [] → tasks_of g issued number ≡ []
no_tasks g issued number none = go _
  where
    tasks : ℕ → List Task
    tasks target = map (λ kind. (kind, target - number)) (kinds_of g)

    no : (target : ℕ) → tasks target ≡ []
    no target = ap (map (λ kind. (kind, target - number))) none

    go : (targets : List ℕ) → flat_map tasks targets ≡ []
    go [] = refl
    go (target ∷ targets) = (λ i. no target i ++ flat_map tasks targets) ∙ go targets

-- it keeps no entry, and has no kind on
pub record IsIdle (m : Serial) : Type 0 where
  pub kinds : kinds_of m.guessing ≡ []
  pub content : m.content ≡ []

idle_visited : (number : ℕ) (now : State) (m : Serial) → IsIdle m → IsIdle (visited number now m)
unfolding visited
idle_visited number now m idle = go m.last refl
  where
    go : (last : Option State) → m.last ≡ last → IsIdle (visited number now m)
    go None is = subst (λ (l : Option State). IsIdle (after_tasks m number l now)) (sym is) (record { kinds = idle.kinds; content = idle.content })
    go (Some last) is = subst (λ (l : Option State). IsIdle (after_tasks m number l now)) (sym is) (record {
      kinds = idle.kinds;
      content = (λ i. fold (add_guess m.guessing last now) m.content (no_tasks m.guessing m.issued number idle.kinds i)) ∙ idle.content;
    })

none_made : (number : ℕ) (m : Serial) → IsIdle m → made_at number m ≡ 0
none_made number m idle = go m.last
  where
    go : (last : Option State) → made_at number (record m { last = last }) ≡ 0
    go None = refl
    go (Some s) = ap (λ (tasks : List Task). length tasks) (no_tasks m.guessing m.issued number idle.kinds)

no_reply : (m : Serial) (s : State) (left : ℕ) → IsIdle m → serial_reply m s left ≡ None
no_reply m s left idle = ap (λ content. serial_reply (record m { content = content }) s left) idle.content

-- the machine went through these visits
pub record Idles (limit : ℕ) (run : Course) (first : Serial) (visits : List Visit) : Type 0 where
  pub now : Serial
  pub serial : IsSerial limit run first visits now 0
  pub idle : IsIdle now

and_false : (b : Bool) → (b && false) ≡ false
and_false true = refl
and_false false = refl

-- where a run has ended there is no visit
off_unvisited : (r : Recognised) (run : Course) (visits : List Visit) (count n : ℕ) (ended : Ended) (last : Position) → run count ≡ Off n ended last → visit_rule r run visits count ≡ false
off_unvisited recognised.Nowhere run visits count n ended last is = refl
off_unvisited (recognised.At address) run visits count n ended last is = ap (λ (p : Progress). goes_on_at (Some address) p) is
off_unvisited (recognised.Chosen profile least) run visits count n ended last is =
    ap (λ (p : Progress). nat_le profile count && goes_on_at (chosen_address (profile_of run profile) least) p) is ∙ and_false (nat_le profile count)
off_unvisited (recognised.Sought seeking) run visits count n ended last is =
    ap (λ (p : Progress). goes_on_at (watched_in (seek_at seeking run visits count).phase) p) is

module _ (limit : ℕ) (run : Course) (address : Recognised) (first : Serial) (idle : IsIdle first) where
  pub idles : (visits : List Visit) (to : ℕ) → AreVisits limit run (visit_rule address run) visits to → NoneGiven visits → Idles limit run first visits
  idles [] to are none = record { now = first; serial = (refl, refl); idle = idle }
  idles (v ∷ before) to are none = at (run v.at) refl are.1.0 (idles before v.at are.0 none.1)
    where
      at : (stands : Progress) → run v.at ≡ stands → visit_rule address run before v.at ≡ true → Idles limit run first before → Idles limit run first (v ∷ before)
      at (On p) is ruled earlier =
          let number = length before + 1 in
          let now = visited number p.state earlier.now in
          let idle_now = idle_visited number p.state earlier.now earlier.idle in
          let here : SerialAt limit number v (On p) earlier.now now = (refl, none.0 ∙ sym (no_reply now p.state (limit - v.at) idle_now)) in
          record {
            now = now;
            serial = (earlier.now, 0, earlier.serial, (subst (λ (s : Progress). SerialAt limit number v s earlier.now now) (sym is) here, omega (arith, none_made number earlier.now earlier.idle)));
            idle = idle_now;
          }
      at (Off count ended last) is ruled earlier = let no : false ≡ true = sym (off_unvisited address run before v.at count ended last is) ∙ ruled in absurd (cc)
