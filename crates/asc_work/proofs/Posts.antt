-- Posts before and after workers have served, and the last of several.
use Rattle.std.proofs.Common.{◌≡◌, ◌≢◌, ℕ, ◌+◌, ◌*◌, ◌^◌, ◌<◌, ◌≤◌, List, [], ◌∷◌, ◌++◌, false, zero, suc, Option, Some, None, All, length, map, get_or, set, take, drop, refl, sym, ap, ◌∙◌, subst, subst₂, arith, length-append, append-nil, drop_of_length-le, take_all, add_assoc, add-zero, zero-add, append_assoc}
use Rattle.std.specs.Option.{is_some, option_map, option_to_list}
use borrow.Author.Count.{below_more}
use Rattle.std.proofs.lemmas.List.{drop-drop, drop-set-lt, get_or_default, get_or-drop, get_or-set_other, get_or-set_same, length-map, length-set, take_more_set}
use Rattle.std.proofs.lemmas.List.Elements.{All-nil, All-cons, All-head, All-tail, All-push}
use Rattle.atomic_table.specs.Seated.{TableId}
use Rattle.asc_jobs.specs.Hands.{hand, join_hands}
use Rattle.asc_model.specs.Tally.{JobCounts, no_jobs, added}
use Rattle.asc_jobs.specs.Jobs.{Taker, new_taker}
use Rattle.asc_jobs.specs.declared.hand.Hand.{Hand}
use Rattle.asc_jobs.specs.declared.job.Job.{Job}
use Rattle.asc_jobs.proofs.Lists.{length_merge}
use Rattle.asc_cache.specs.Insert.{ShardId}
use Rattle.asc_work.specs.Worker.{Worker}
use Rattle.asc_work.specs.Posts.{HasServed, HasWorked, HaveWorked, IsIdle, IsManned, IsReady, IsRehalted, IsTeam, queue_of, all_tallies, halts_at, manned_with, relieved, workers_at}
use Rattle.asc_work.specs.declared.post.Post.{Post}

-- ---- the last of a list

split_last : {X : Type 0} (P : X → Type 0) (ys : List X) (x : X) → All P (ys ++ x ∷ []) → All P ys × P x
split_last P [] x h = (All-nil P, All-head P x [] h)
split_last P (y ∷ ys) x h =
    let r = split_last P ys x (All-tail P y (ys ++ x ∷ []) h) in
    (All-cons P y ys (All-head P y (ys ++ x ∷ []) h) r.0, r.1)

-- a list from which the last was popped
pub is_popped : {X : Type 0} (xs ys : List X) (r : Option X) (x : X) → xs ≡ ys ++ option_to_list r → r ≡ Some x → xs ≡ ys ++ x ∷ []
is_popped {X} xs ys r x is some = is ∙ ap (λ (o : Option X). ys ++ option_to_list o) some

pub all_popped : {X : Type 0} (P : X → Type 0) (xs ys : List X) (x : X) → xs ≡ ys ++ x ∷ [] → All P xs → All P ys × P x
all_popped P xs ys x is h = split_last P ys x (subst (All P) is h)

pub one_less : {X : Type 0} (xs ys : List X) (x : X) → xs ≡ ys ++ x ∷ [] → length xs ≡ length ys + 1
one_less {X} xs ys x is = ap (length {A = X}) is ∙ omega (arith, length-append ys (x ∷ []))

-- ---- posts

-- a worker that has worked with a taker has one still
worked_by : {W H : Type 0} (identity : W → Option ShardId) (w v : Worker W H) (s : Option Taker) (t : Taker) (r : Option Taker) → s ≡ Some t → HaveWorked identity w s v r
    → (u : Taker) × (r ≡ Some u) × HasWorked identity w t v u
worked_by identity w v s t None e h = absurd (subst (λ (x : Option Taker). HaveWorked identity w x v None) e h)
worked_by identity w v s t (Some u) e h = (u, refl, subst (λ (x : Option Taker). HaveWorked identity w x v (Some u)) e h)

-- a worker that has served has in its tally each job that its taker took, if it had before
stays_manned : {W H : Type 0} (count : H → ℕ) (identity : W → Option ShardId) (queue : TableId) (p q : Post W H) → HasServed count identity p q → IsManned queue p → IsManned queue q
stays_manned count identity queue p q served m =
    let by = worked_by identity p.worker q.worker p.taker m.taker q.taker m.there served.worked in
    let u = by.0 in let w = by.2 in
    let same : m.taker.hand ≡ hand false [] 0 1 m.taker.hand.popped = m.popped in record {
      taker = u;
      there = by.1;
      queue_is = w.queue ∙ m.queue_is;
      popped = w.popped ∙ ap (λ (v : Hand). hand v.gives v.pushed v.opened v.parts u.hand.popped) same;
      jobs = omega (arith, w.jobs, m.jobs);
      most = w.most;
    }

-- a manned worker can take jobs
pub manned_ready : {W H : Type 0} (queue : TableId) (posts : List (Post W H)) → All (IsManned queue) posts → All (λ p. IsReady p) posts
manned_ready queue posts manned =
    λ k d l. let m = manned k d l in record { taker = ap is_some m.there; few = m.most }

pub served_at : {W H : Type 0} (count : H → ℕ) (identity : W → Option ShardId) (old left new : List (Post W H)) (i : ℕ) (d : Post W H) → new ≡ left
    → HasServed count identity (get_or old i d) (get_or left i d) → HasServed count identity (get_or old i d) (get_or new i d)
served_at count identity old left new i d e h = subst (λ ps. HasServed count identity (get_or old i d) (get_or ps i d)) (sym e) h

pub all_manned : {W H : Type 0} (count : H → ℕ) (identity : W → Option ShardId) (queue : TableId) (old new : List (Post W H)) → length new ≡ length old
    → ((i : ℕ) (d : Post W H) → i < length old → HasServed count identity (get_or old i d) (get_or new i d)) → All (IsManned queue) old → All (IsManned queue) new
all_manned count identity queue old new size served manned =
    λ k d l. let m : k < length old = omega arith in stays_manned count identity queue (get_or old k d) (get_or new k d) (served k d m) (manned k d m)

-- ---- tallies

added_assoc : (a b c : JobCounts) → added (added a b) c ≡ added a (added b c)
added_assoc a b c = simp add_assoc

added_none : (a c : JobCounts) → added (added a no_jobs) c ≡ added no_jobs (added a c)
added_none a c = simp (add-zero, zero-add)

tallies_last : {W H : Type 0} (qs : List (Post W H)) (q : Post W H) (c : JobCounts) → added (all_tallies (qs ++ q ∷ [])) c ≡ added (all_tallies qs) (added q.worker.tally c)
tallies_last [] q c = added_none q.worker.tally c
tallies_last (p ∷ qs) q c =
    added_assoc p.worker.tally (all_tallies (qs ++ q ∷ [])) c
    ∙ ap (added p.worker.tally) (tallies_last qs q c)
    ∙ sym (added_assoc p.worker.tally (all_tallies qs) (added q.worker.tally c))

-- the tally of the last is added to those of the others
tallies_popped : {W H : Type 0} (ps qs : List (Post W H)) (q : Post W H) (c : JobCounts) → ps ≡ qs ++ q ∷ []
    → added (all_tallies ps) c ≡ added (all_tallies qs) (added q.worker.tally c)
tallies_popped ps qs q c is = ap (λ l. added (all_tallies l) c) is ∙ tallies_last qs q c

-- the same where that was the first
tallies_first : {W H : Type 0} (ps qs : List (Post W H)) (q : Post W H) → ps ≡ qs ++ q ∷ [] → all_tallies ps ≡ added (all_tallies qs) q.worker.tally
tallies_first ps qs q is =
    let e : added (all_tallies ps) no_jobs ≡ all_tallies ps = simp add-zero in
    let f : added q.worker.tally no_jobs ≡ q.worker.tally = simp add-zero in
    sym e ∙ tallies_popped ps qs q no_jobs is ∙ ap (added (all_tallies qs)) f

-- ---- hands

-- a worker's hand joined into others'
joined_hands : (all one : Hand) → all ≡ hand false [] 0 all.parts all.popped → one ≡ hand false [] 0 1 one.popped
    → join_hands all one ≡ hand false [] 0 (all.parts + 1) (join_hands all one).popped
joined_hands all one e f =
    ap (λ (v : Hand). join_hands v one) e ∙ ap (λ (v : Hand). join_hands (hand false [] 0 all.parts all.popped) v) f

one_taker : (found : Option Taker) (a b : Taker) → found ≡ Some a → found ≡ Some b → a ≡ b
one_taker found a b e f = let g : Some a ≡ Some b = sym e ∙ f in cc

-- ---- posts that are changed one after another

-- these posts were taken in, with a hand and a tally
pub record AreTaken {W H : Type 0} (done : List (Post W H)) (v : Hand) (c : JobCounts) : Type 0 where
  pub hand_is : v ≡ hand false [] 0 (length done) v.popped
  pub jobs : length v.popped ≡ c.ran
  pub few : c.ran ≤ length done * 2 ^ 57
  pub tallies : all_tallies done ≡ c

-- one more was taken in
pub next_taken : {W H : Type 0} (queue : TableId) (done more : List (Post W H)) (q : Post W H) (t : Taker) (v u : Hand) (c d : JobCounts) → more ≡ done ++ q ∷ [] → AreTaken done v c
    → IsManned queue q → q.taker ≡ Some t → u ≡ join_hands v t.hand → d ≡ added c q.worker.tally → AreTaken more u d
next_taken queue done more q t v u c d is taken m there joined summed =
    let one : m.taker ≡ t = one_taker q.taker m.taker t m.there there in
    let popped : t.hand ≡ hand false [] 0 1 t.hand.popped = subst (λ (w : Taker). w.hand ≡ hand false [] 0 1 w.hand.popped) one m.popped in
    let jobs : length t.hand.popped ≡ q.worker.tally.ran = subst (λ (w : Taker). length w.hand.popped ≡ q.worker.tally.ran) one m.jobs in
    let n : length more ≡ length done + 1 = one_less more done q is in
    let ran : d.ran ≡ c.ran + q.worker.tally.ran = ap (λ (e : JobCounts). e.ran) summed in
    let parts : v.parts ≡ length done = ap (λ (w : Hand). w.parts) taken.hand_is in
    let v_is : v ≡ hand false [] 0 v.parts v.popped = taken.hand_is ∙ ap (λ k. hand false [] 0 k v.popped) (sym parts) in
    let now : u ≡ hand false [] 0 (v.parts + 1) u.popped = joined ∙ joined_hands v t.hand v_is popped ∙ ap (λ (w : Hand). hand false [] 0 (v.parts + 1) w.popped) (sym joined) in
    let size : v.parts + 1 ≡ length more = omega arith in
    let count : length u.popped ≡ length v.popped + length t.hand.popped = ap (λ (w : Hand). length w.popped) joined ∙ length_merge v.popped t.hand.popped in record {
      hand_is = now ∙ ap (λ k. hand false [] 0 k u.popped) size;
      jobs = omega (arith, taken.jobs);
      few = omega (arith, taken.few, m.most);
      tallies = tallies_first more done q is ∙ ap (λ e. added e q.worker.tally) taken.tallies ∙ sym summed;
    }

-- the next post is as it was
pub next_is : {X : Type 0} (f : X → X) (xs : List X) (i : ℕ) (d : X) → i < length xs → get_or (map f (take i xs) ++ drop i xs) i d ≡ get_or xs i d
next_is f [] i d l = absurd (omega arith)
next_is f (x ∷ xs) zero d l = refl
next_is f (x ∷ xs) (suc i) d l = next_is f xs i d (omega arith)

-- ---- new posts, and posts that are manned

-- one worker more has a post
pub idle_more : {W H : Type 0} (workers rest : List (Worker W H)) (posts more : List (Post W H)) (p : Post W H) → workers ≡ rest ++ p.worker ∷ [] → more ≡ posts ++ p ∷ []
    → p.taker ≡ None → All (λ (w : Worker W H). w.tally ≡ no_jobs) workers × All (λ (q : Post W H). IsIdle q) posts
    → All (λ (w : Worker W H). w.tally ≡ no_jobs) rest × All (λ (q : Post W H). IsIdle q) more
idle_more {W} {H} workers rest posts more p e pushed none h =
    let w = all_popped (λ (v : Worker W H). v.tally ≡ no_jobs) workers rest p.worker e h.0 in
    (w.0, subst (All (λ (q : Post W H). IsIdle q)) (sym pushed) (All-push (λ (q : Post W H). IsIdle q) posts p h.1 (record { taker = none; tally = w.1 })))

pub new_manned : {W H : Type 0} (queue : TableId) (t : Taker) (halt : H) (p : Post W H) → t ≡ new_taker queue → IsIdle p → IsManned queue (manned_with t halt p)
new_manned queue t halt p e idle =
    let v : t.hand ≡ hand false [] 0 1 [] = ap (λ (u : Taker). u.hand) e in
    let popped : t.hand.popped ≡ [] = ap (λ (u : Hand). u.popped) v in
    let ran : p.worker.tally.ran ≡ 0 = ap (λ (c : JobCounts). c.ran) idle.tally in record {
      taker = t;
      there = refl;
      queue_is = ap (λ (u : Taker). u.queue) e;
      popped = v ∙ ap (hand false [] 0 1) (sym popped);
      jobs = ap (length {A = Job}) popped ∙ sym ran;
      most = omega arith;
    }

-- of some posts the first i were manned, and takers and halts are left
pub record AreManned {W H : Type 0} (old new : List (Post W H)) (i : ℕ) (takers left : List Taker) (halts rest : List H) : Type 0 where
  pub size : length new ≡ length old
  pub takers_left : length left + i ≡ length old
  pub halts_left : length rest + i ≡ length old
  pub same : drop i new ≡ drop i old
  pub halts_are : halts ≡ rest ++ halts_at (take i new)
  pub rehalted : (k : ℕ) (d : Post W H) → k < i → IsRehalted (get_or old k d) (get_or new k d)
  pub manned : (queue : TableId) → All (λ t. t ≡ new_taker queue) takers → All (λ (p : Post W H). IsIdle p) old → All (λ t. t ≡ new_taker queue) left × All (IsManned queue) (take i new)

-- the next post is as it was
still : {X : Type 0} (old new : List X) (i : ℕ) (d : X) → drop i new ≡ drop i old → get_or new i d ≡ get_or old i d
still old new i d same =
    let e : get_or (drop i new) 0 d ≡ get_or new i d = get_or-drop i new 0 d ∙ ap (λ k. get_or new k d) (add-zero i) in
    let f : get_or (drop i old) 0 d ≡ get_or old i d = get_or-drop i old 0 d ∙ ap (λ k. get_or old k d) (add-zero i) in
    sym e ∙ ap (λ xs. get_or xs 0 d) same ∙ f

-- and so are those behind it
still_behind : {X : Type 0} (old new : List X) (i : ℕ) (q : X) → drop i new ≡ drop i old → drop (i + 1) (set new i q) ≡ drop (i + 1) old
still_behind {X} old new i q same =
    let less : i < i + 1 = omega arith in
    let e : drop (i + 1) new ≡ drop 1 (drop i new) = sym (drop-drop 1 i new) in
    let f : drop (i + 1) old ≡ drop 1 (drop i old) = sym (drop-drop 1 i old) in
    drop-set-lt (i + 1) new i q less ∙ e ∙ ap (drop 1) same ∙ sym f

-- a write at i leaves what is below
kept_below : {X : Type 0} (xs : List X) (i k : ℕ) (y d : X) → k < i → get_or (set xs i y) k d ≡ get_or xs k d
kept_below xs i k y d l = let other : k ≢ i = omega arith in get_or-set_other xs i k y d other

halts_push : {W H : Type 0} (posts : List (Post W H)) (p : Post W H) → halts_at (posts ++ p ∷ []) ≡ p.worker.halt ∷ halts_at posts
halts_push [] p = refl
halts_push (q ∷ posts) p = ap (λ hs. hs ++ q.worker.halt ∷ []) (halts_push posts p)

manned_next : {W H : Type 0} (old new : List (Post W H)) (i : ℕ) (takers left fewer : List Taker) (t : Taker) (h : H) (q d : Post W H) → i < length old
    → ((queue : TableId) → All (λ u. u ≡ new_taker queue) takers → All (λ (p : Post W H). IsIdle p) old → All (λ u. u ≡ new_taker queue) left × All (IsManned queue) (take i new))
    → left ≡ fewer ++ t ∷ [] → get_or new i d ≡ get_or old i d → take (i + 1) (set new i q) ≡ take i new ++ q ∷ [] → q ≡ manned_with t h (get_or new i d)
    → (queue : TableId) → All (λ u. u ≡ new_taker queue) takers → All (λ (p : Post W H). IsIdle p) old → All (λ u. u ≡ new_taker queue) fewer × All (IsManned queue) (take (i + 1) (set new i q))
manned_next {W} {H} old new i takers left fewer t h q d low manned one was more is queue all_new idle =
    let r = manned queue all_new idle in
    let s = all_popped (λ (u : Taker). u ≡ new_taker queue) left fewer t one r.0 in
    let here : IsIdle (get_or new i d) = subst (λ (p : Post W H). IsIdle p) (sym was) (idle i d low) in
    let this : IsManned queue q = subst (IsManned queue) (sym is) (new_manned queue t h (get_or new i d) s.1 here) in
    (s.0, subst (All (IsManned queue)) (sym more) (All-push (IsManned queue) (take i new) q r.1 this))

-- one post more is manned
pub man_next : {W H : Type 0} (old new : List (Post W H)) (i : ℕ) (takers left fewer : List Taker) (halts rest less : List H) (t : Taker) (h : H) (q d : Post W H) → i < length old
    → AreManned old new i takers left halts rest → left ≡ fewer ++ t ∷ [] → rest ≡ less ++ h ∷ [] → q ≡ manned_with t h (get_or new i d)
    → AreManned old (set new i q) (i + 1) takers fewer halts less
man_next {W} {H} old new i takers left fewer halts rest less t h q d low m one two is =
    let p = get_or new i d in
    let size = m.size in
    let within : i < length new = omega arith in
    let was : p ≡ get_or old i d = still old new i d m.same in
    let more : take (i + 1) (set new i q) ≡ take i new ++ q ∷ [] = take_more_set new i q within in
    let takers_one = one_less left fewer t one in let halts_one = one_less rest less h two in
    let takers_left = m.takers_left in let halts_left = m.halts_left in
    let halt_is : q.worker.halt ≡ h = ap (λ (r : Post W H). r.worker.halt) is in
    let again : IsRehalted (get_or old i d) q = subst₂ (λ x y. IsRehalted x y) was (sym is) (record { worker = refl }) in record {
      size = length-set new i q ∙ size;
      takers_left = omega (arith, takers_one, takers_left);
      halts_left = omega (arith, halts_one, halts_left);
      same = still_behind old new i q m.same;
      halts_are = m.halts_are ∙ ap (λ (hs : List H). hs ++ halts_at (take i new)) two ∙ append_assoc less (h ∷ []) (halts_at (take i new))
          ∙ ap (λ (hs : List H). less ++ hs) (ap (λ (x : H). x ∷ halts_at (take i new)) (sym halt_is) ∙ sym (ap (λ (ps : List (Post W H)). halts_at ps) more ∙ halts_push (take i new) q));
      rehalted = λ k e. below_more (λ n. IsRehalted (get_or old n e) (get_or (set new i q) n e)) i
          (λ n under. subst (λ x. IsRehalted (get_or old n e) x) (sym (kept_below new i n q e under)) (m.rehalted n e under))
          (subst₂ (λ x y. IsRehalted x y) (get_or_default old i d e low) (sym (get_or-set_same new i q e within)) again) k;
      manned = λ queue all_new idle. manned_next old new i takers left fewer t h q d low m.manned one was more is queue all_new idle;
    }

-- ---- workers at posts

workers_push : {W H : Type 0} (posts : List (Post W H)) (p : Post W H) → workers_at (posts ++ p ∷ []) ≡ p.worker ∷ workers_at posts
workers_push [] p = refl
workers_push (q ∷ posts) p = ap (λ ws. ws ++ q.worker ∷ []) (workers_push posts p)

-- a worker goes to a post of its own
pub moved : {W H : Type 0} (workers rest : List (Worker W H)) (posts more : List (Post W H)) (p : Post W H)
    → workers ≡ rest ++ p.worker ∷ [] → more ≡ posts ++ p ∷ [] → workers ++ workers_at posts ≡ rest ++ workers_at more
moved {W} {H} workers rest posts more p is pushed =
    ap (λ (ws : List (Worker W H)). ws ++ workers_at posts) is ∙ append_assoc rest (p.worker ∷ []) (workers_at posts)
    ∙ ap (λ (ws : List (Worker W H)). rest ++ ws) (sym (ap (workers_at {W = W} {H = H}) pushed ∙ workers_push posts p))

-- what holds of each worker holds at each post
pub all_at : {W H : Type 0} (P : Worker W H → Type 0) (posts : List (Post W H)) → All P (workers_at posts) → All (λ p. P p.worker) posts
all_at P [] h = All-nil (λ p. P p.worker)
all_at P (p ∷ posts) h =
    let s = split_last P (workers_at posts) p.worker h in All-cons (λ p. P p.worker) p posts s.1 (all_at P posts s.0)

-- ---- teams

pub queue_known : {W H : Type 0} (queue : TableId) (posts : List (Post W H)) → 0 < length posts → All (IsManned queue) posts → queue_of posts ≡ Some queue
queue_known queue [] some manned = absurd (omega arith)
queue_known queue (p ∷ posts) some manned =
    let m = All-head (IsManned queue) p posts manned in ap (option_map (λ (t : Taker). t.queue)) m.there ∙ ap Some m.queue_is

pub queue_unknown : {W H : Type 0} (posts : List (Post W H)) → 0 < length posts → All (λ (p : Post W H). IsIdle p) posts → queue_of posts ≡ None
queue_unknown [] some idle = absurd (omega arith)
queue_unknown {W} {H} (p ∷ posts) some idle = ap (option_map (λ (t : Taker). t.queue)) (All-head (λ (p : Post W H). IsIdle p) p posts idle).taker

one_queue : (found : Option TableId) (a b : TableId) → found ≡ Some a → found ≡ Some b → a ≡ b
one_queue found a b e f = let g : Some a ≡ Some b = sym e ∙ f in cc

no_queue : (found : Option TableId) (a : TableId) → found ≡ Some a → found ≡ None → ⊥
no_queue found a e f = let g : Some a ≡ None = sym e ∙ f in cc

-- posts of one queue are a team's
pub team_made : {W H : Type 0} (queue : TableId) (posts : List (Post W H)) → 0 < length posts → length posts ≤ 64 → All (IsManned queue) posts → IsTeam posts
team_made queue posts some few manned = record {
  some = some;
  few = few;
  manned = λ other e. subst (λ (q : TableId). All (IsManned q) posts) (one_queue (queue_of posts) queue other (queue_known queue posts some manned) e) manned;
  idle = λ none. absurd (no_queue (queue_of posts) queue (queue_known queue posts some manned) none);
}

-- and so are posts of no queue
pub team_idle : {W H : Type 0} (posts : List (Post W H)) → 0 < length posts → length posts ≤ 64 → All (λ (p : Post W H). IsIdle p) posts → IsTeam posts
team_idle posts some few idle = record {
  some = some;
  few = few;
  manned = λ queue e. absurd (no_queue (queue_of posts) queue e (queue_unknown posts some idle));
  idle = λ none. idle;
}

-- a team that has served is one still, and of the same queue
pub team_served : {W H : Type 0} (count : H → ℕ) (identity : W → Option ShardId) (queue : TableId) (old new : List (Post W H)) → IsTeam old → queue_of old ≡ Some queue
    → length new ≡ length old → ((i : ℕ) (d : Post W H) → i < length old → HasServed count identity (get_or old i d) (get_or new i d)) → IsTeam new × (queue_of new ≡ queue_of old)
team_served count identity queue old new team known size served =
    let manned = all_manned count identity queue old new size served (team.manned queue known) in
    let s = team.some in let f = team.few in
    (team_made queue new (omega arith) (omega arith) manned, queue_known queue new (omega arith) manned ∙ sym known)

-- what a vector has once all of it was written as a slice
pub written : {X : Type 0} (n : ℕ) (now old new : List X) → now ≡ old → length now ≡ n → length new ≡ length now → take n (new ++ drop (length new) old) ≡ new
written n now old new same size count =
    let e : length old ≡ length new = ap (λ l. length l) (sym same) ∙ sym count in
    let nothing : drop (length new) old ≡ [] = drop_of_length-le old (omega arith) in
    ap (λ l. take n (new ++ l)) nothing ∙ ap (take n) (append-nil new) ∙ take_all n new (omega arith)

-- what holds of each post that was written so
pub written_as : {X : Type 0} (R : X → X → Type 0) (n : ℕ) (now old shown new : List X) → now ≡ old → old ≡ shown → length now ≡ n → length new ≡ length now
    → ((i : ℕ) (d : X) → i < length now → R (get_or now i d) (get_or new i d))
    → (i : ℕ) (d : X) → i < length shown → R (get_or shown i d) (get_or (take n (new ++ drop (length new) old)) i d)
written_as {X} R n now old shown new same seen size count h =
    let e = written n now old new same size count in
    λ i d l. let low : i < length now = subst (λ (xs : List X). i < length xs) (sym (same ∙ seen)) l in
    subst₂ R (ap (λ (xs : List X). get_or xs i d) (same ∙ seen)) (ap (λ (xs : List X). get_or xs i d) (sym e)) (h i d low)

-- a team whose workers have served
pub team_written : {W H : Type 0} (count : H → ℕ) (identity : W → Option ShardId) (queue : TableId) (n : ℕ) (now old new : List (Post W H)) → now ≡ old → length now ≡ n
    → length new ≡ length now → IsTeam old → queue_of old ≡ Some queue → ((i : ℕ) (d : Post W H) → i < length now → HasServed count identity (get_or now i d) (get_or new i d))
    → IsTeam (take n (new ++ drop (length new) old)) × (queue_of (take n (new ++ drop (length new) old)) ≡ queue_of old)
team_written {W} {H} count identity queue n now old new same size counted team known served =
    let e = written n now old new same size counted in
    let there : (i : ℕ) (d : Post W H) → i < length old → HasServed count identity (get_or old i d) (get_or new i d) =
    subst (λ (ps : List (Post W H)). (i : ℕ) (d : Post W H) → i < length ps → HasServed count identity (get_or ps i d) (get_or new i d)) same served in
    let all = team_served count identity queue old new team known (counted ∙ ap (λ l. length l) same) there in
    (subst (λ (ps : List (Post W H)). IsTeam ps) (sym e) all.0, ap (λ (ps : List (Post W H)). queue_of ps) e ∙ all.1)

-- a team whose posts were manned
pub team_manned : {W H : Type 0} (queue : TableId) (n : ℕ) (now old new : List (Post W H)) → now ≡ old → length now ≡ n → length new ≡ length now → IsTeam old → queue_of old ≡ None
    → (All (λ (p : Post W H). IsIdle p) now → All (IsManned queue) new)
    → IsTeam (take n (new ++ drop (length new) old)) × (queue_of (take n (new ++ drop (length new) old)) ≡ Some queue)
team_manned {W} {H} queue n now old new same size counted team none man =
    let e = written n now old new same size counted in
    let manned = man (subst (All (λ (p : Post W H). IsIdle p)) (sym same) (team.idle none)) in
    let count : length new ≡ length old = counted ∙ ap (λ l. length l) same in
    let some = team.some in let few = team.few in
    (subst (λ (ps : List (Post W H)). IsTeam ps) (sym e) (team_made queue new (omega arith) (omega arith) manned), ap (λ (ps : List (Post W H)). queue_of ps) e ∙ queue_known queue new (omega arith) manned)

all_relieved : {W H : Type 0} (posts : List (Post W H)) → All (λ (p : Post W H). IsIdle p) (map (λ (p : Post W H). relieved p) posts)
all_relieved {W} {H} [] = All-nil (λ (p : Post W H). IsIdle p)
all_relieved {W} {H} (p ∷ posts) =
    All-cons (λ (q : Post W H). IsIdle q) (relieved p) (map (λ (q : Post W H). relieved q) posts) (record { taker = refl; tally = refl }) (all_relieved posts)

-- a team that was taken in
pub team_relieved : {W H : Type 0} (n : ℕ) (now old new : List (Post W H)) → now ≡ old → length now ≡ n → new ≡ map (λ (p : Post W H). relieved p) now → IsTeam old
    → IsTeam (take n (new ++ drop (length new) old)) × (queue_of (take n (new ++ drop (length new) old)) ≡ None)
team_relieved {W} {H} n now old new same size is team =
    let counted : length new ≡ length now = ap (λ l. length l) is ∙ length-map now (λ (p : Post W H). relieved p) in
    let e = written n now old new same size counted in
    let idle : All (λ (p : Post W H). IsIdle p) new = subst (All (λ (p : Post W H). IsIdle p)) (sym is) (all_relieved now) in
    let count : length new ≡ length old = counted ∙ ap (λ l. length l) same in
    let some = team.some in let few = team.few in
    (subst (λ (ps : List (Post W H)). IsTeam ps) (sym e) (team_idle new (omega arith) (omega arith) idle), ap (λ (ps : List (Post W H)). queue_of ps) e ∙ queue_unknown new (omega arith) idle)
