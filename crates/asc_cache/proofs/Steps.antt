-- Each step keeps the rule of a shard.
use Rattle.std.proofs.Common.{◌≡◌, ◌≢◌, ℕ, List, [], ◌∷◌, ◌++◌, fold, slice_set, sym, refl, ap, ◌∙◌, subst, ⊎_elim, arith}
use Rattle.std.specs.Arc.{arc_value}
use Rattle.std.proofs.Common.{Result, Ok, Err, MatchResult, OnOk}
use mathlib.Core.Option.{some}
use mathlib.Core.List.{IsPrefix}
use lib.ListN.{get_elem?}
use Rattle.left_right.specs.Register.{Admits, TurnsAt, Turns, Forks, Merges}
use Rattle.atomic_table.proofs.Lists.{at_set, at_snoc, set_again}
use Rattle.std.proofs.lemmas.List.Sums.{fold-append}
use Rattle.asc_model.specs.Entry.{Entry}
use Rattle.asc_shard.specs.Shard.{Shard}
use Rattle.asc_cache.specs.declared.instance.Instance.{Instance}
use Rattle.asc_cache.specs.declared.instance.Operation.{Operation}
use Rattle.asc_cache.specs.declared.sight.Sight.{Sight}
use Rattle.asc_shard.specs.Content.{add, content_of}
use Rattle.asc_cache.specs.History.{tried_in}
use Rattle.asc_cache.specs.ShardRule.{sight, first_sight, IsFolded, IsSighted, ShardRule, Looks, IsNext, IsAlike, Front, state_of, absorbed}
use Rattle.asc_cache.proofs.Fronts.{prefix_self, prefix_trans}

fresh : (h : Instance) → IsSighted h first_sight
fresh h looked = absurd (omega arith)

-- a seat that has seen what is shown
sees : (x : Instance) → IsSighted x (sight x.shard.capacity x.front)
sees x looked = (refl, refl, prefix_self (tried_in x.front.log))

pub admits : Admits ShardRule first_sight
admits x views h = (h.0, λ j u at. ⊎_elim (h.1 j u) (λ (e : first_sight ≡ u). subst (IsSighted x) e (fresh x)) (at_snoc views first_sight u j at))

-- each seat knows what holds, where one was changed
changed : (F : Sight → Type 0) (views : List Sight) (seat : ℕ) (w : Sight) → F w → ((j : ℕ) (u : Sight) → get_elem? views j ≡ some u → F u) → (j : ℕ) (u : Sight) → get_elem? (slice_set views seat w) j ≡ some u → F u
changed F views seat w mine others j u at = ⊎_elim (λ (t : (j ≡ seat) × (w ≡ u)). subst F t.1 mine) (λ (t : (j ≢ seat) × (get_elem? views j ≡ some u)). others j u t.1) (at_set views seat j w u at)

pub enters : (seat : ℕ) (v : Sight) → Turns ShardRule seat v (λ x. x) (λ v x y w. Looks v y w)
enters seat v x views h at =
    let w = sight x.shard.capacity x.front in
    (w, (h.0, changed (IsSighted x) views seat w (sees x) h.1), (refl, h.0, h.1 seat v at))

content_more : (capacity : ℕ) (list : List Entry) (e : Entry) → content_of capacity (list ++ e ∷ []) ≡ add capacity (content_of capacity list) e
content_more capacity list e = fold-append (add capacity) [] list (e ∷ [])

-- The shard y is what an operation leaves of x, which came next.
module _ (x y : Instance) (o : Operation) (next : IsNext x o) (is : state_of y ≡ absorbed (state_of x) o) where
  -- its list has the entry more
  pub longer : tried_in y.front.log ≡ tried_in x.front.log ++ arc_value o.entry ∷ []
  longer = ap (λ s. tried_in s.1.log) is ∙ next.1

  later : (v : Sight) → IsSighted x v → IsSighted y v
  later v of looked =
      let s = of looked in
      (s.0 ∙ sym (ap (λ s. s.0.capacity) is), s.1 ∙ sym next.0 ∙ sym (ap (λ s. s.1.book) is), prefix_trans (tried_in v.front.log) (tried_in x.front.log) (tried_in y.front.log) s.2 (arc_value o.entry ∷ [], sym longer))

  pub kept_on : IsFolded x → IsFolded y
  kept_on kept =
      let capacity : y.shard.capacity ≡ x.shard.capacity = ap (λ s. s.0.capacity) is in
      ap (λ s. s.0.held) is ∙ ap (λ l. add x.shard.capacity l (arc_value o.entry)) kept ∙ sym (content_more x.shard.capacity (tried_in x.front.log) (arc_value o.entry)) ∙ ap (content_of x.shard.capacity) (sym longer) ∙ ap (λ c. content_of c (tried_in y.front.log)) (sym capacity)

  pub publishes : (seat : ℕ) (v : Sight) → TurnsAt ShardRule seat v x y (λ v x y w. w ≡ v)
  publishes seat v views h at = (
    v,
    (kept_on h.0, λ j u there. later u (h.1 j u (ap (λ (l : List Sight). get_elem? l j) (sym (set_again views seat v at)) ∙ there))),
    refl,
  )

-- the writer begins
module _ (x y : Instance) (a : IsAlike x y) where
  pub alike_kept : IsFolded x → IsFolded y
  alike_kept kept = ap (λ (s : Shard). s.held) a.0 ∙ kept ∙ ap (λ (f : Front). content_of x.shard.capacity (tried_in f.log)) (sym a.1) ∙ ap (λ (s : Shard). content_of s.capacity (tried_in y.front.log)) (sym a.0)

  alike_of : (v : Sight) → IsSighted x v → IsSighted y v
  alike_of v of looked =
      let o = of looked in
      (o.0 ∙ sym (ap (λ (s : Shard). s.capacity) a.0), o.1 ∙ sym (ap (λ (s : Front). s.book) a.1), subst (λ (f : Front). IsPrefix (tried_in v.front.log) (tried_in f.log)) (sym a.1) o.2)

  pub opens : (seat : ℕ) (v : Sight) → TurnsAt ShardRule seat v x y (λ v x y w. w ≡ sight y.shard.capacity y.front)
  opens seat v views h at =
      let w = sight y.shard.capacity y.front in
      (w, (alike_kept h.0, changed (IsSighted y) views seat w (sees y) (λ j u there. alike_of u (h.1 j u there))), refl)

pub tells : (seat : ℕ) (v : Sight) → Forks ShardRule seat v v v
tells seat v x views h at = (
  h.0,
  λ j u there. ⊎_elim (λ old. h.1 j u (ap (λ (l : List Sight). get_elem? l j) (sym (set_again views seat v at)) ∙ old)) (λ (e : v ≡ u). subst (IsSighted x) e (h.1 seat v at)) (at_snoc (slice_set views seat v) v u j there),
)

pub learns : (seat : ℕ) (v : Sight) (other : ℕ) (w : Sight) → Merges ShardRule seat v other w w first_sight
learns seat v other w x views h at apart at' =
    let was : get_elem? views other ≡ some w = ⊎_elim (λ t. absurd (apart t.0)) (λ t. t.1) (at_set views seat other w w at') in
    (h.0, changed (IsSighted x) (slice_set views seat w) other first_sight (fresh x) (changed (IsSighted x) views seat w (h.1 other w was) h.1))

-- what no operation, or one, leaves
pub alike : (x y : Instance) (pending : List Operation) → pending ≡ [] → state_of y ≡ fold absorbed (state_of x) pending → IsAlike x y
alike x y pending none is =
    let at : state_of y ≡ state_of x = subst (λ (l : List Operation). state_of y ≡ fold absorbed (state_of x) l) none is in
    (ap (λ s. s.0) at, ap (λ s. s.1) at)

pub published : (x y : Instance) (o : Operation) (pending : List Operation) → pending ≡ o ∷ [] → state_of y ≡ fold absorbed (state_of x) pending → state_of y ≡ absorbed (state_of x) o
published x y o pending one is = subst (λ (l : List Operation). state_of y ≡ fold absorbed (state_of x) l) one is

pub if_ok : {X Y : Type 0} (r : Result X Y) (A B C : Type 0) → MatchResult r (λ _. A) (λ _. B) → (A → C) → OnOk r C
if_ok (Ok x) A B C a f = f a
if_ok (Err y) A B C a f = tt

pub both_ok : {X Y : Type 0} (r : Result X Y) (A B C D E : Type 0) → MatchResult r (λ _. A) (λ _. B) → MatchResult r (λ _. C) (λ _. D) → (A → C → E) → OnOk r E
both_ok (Ok x) A B C D E a c f = f a c
both_ok (Err y) A B C D E a c f = tt
