-- What the search for a join finds: those that were tried have none, and the first one that has one is the newest.
use Rattle.std.proofs.Common.{◌≡◌, ℕ, zero, suc, ◌+◌, ◌-◌, ◌<◌, ◌≤◌, true, false, List, [], ◌∷◌, ◌++◌, length, get_or, drop, Option, Some, None, refl, sym, ap, ◌∙◌, arith}
use Rattle.std.specs.Option.{is_some, option_map, option_or}
use Rattle.std.proofs.lemmas.List.{drop_more, drop_all}
use Rattle.asc_model.specs.Entry.{Entry}
use Rattle.asc_model.specs.Join.{join_of}
use Rattle.asc_find.specs.Serial.{newest_join}

-- ---- entries of a shard that holds others and then one

other-at : (others : List Entry) (e : Entry) (i : ℕ) (d : Entry) → i < length others → get_or (others ++ e ∷ []) i d ≡ get_or others i d
other-at [] e i d lt = absurd (let x : ⊥ = omega arith in x)
other-at (a ∷ others) e zero d lt = refl
other-at (a ∷ others) e (suc i) d lt = other-at others e i d (omega arith)

newest-at : (others : List Entry) (e d : Entry) → get_or (others ++ e ∷ []) (length others) d ≡ e
newest-at [] e d = refl
newest-at (a ∷ others) e d = newest-at others e d

length-more : (others : List Entry) (e : Entry) → length (others ++ e ∷ []) ≡ length others + 1
length-more [] e = refl
length-more (a ∷ others) e = let h = length-more others e in omega (arith, h)

-- ---- joins

-- the join of newer others, where they have one, is that of all
pub found-all : (others : List Entry) (e : Entry) (i : ℕ) (found : Option Entry) → is_some found ≡ true → newest_join (drop i others) e ≡ found → newest_join others e ≡ found
found-all others e zero found some h = h
found-all [] e (suc i) found some h = h
found-all (a ∷ newer) e (suc i) None some h = absurd (cc)
found-all (a ∷ newer) e (suc i) (Some j) some h = ap (λ o. option_or o (join_of a e)) (found-all newer e i (Some j) some h)

-- where those from k on have none, the one before them has its own
pub one-more : (held others : List Entry) (e a b : Entry) (k count : ℕ) → held ≡ others ++ e ∷ [] → count ≡ length held → 0 < k → k ≤ count - 1
    → a ≡ get_or held (k - 1) a → b ≡ get_or held (count - 1) b → newest_join (drop k others) e ≡ None → newest_join (drop (k - 1) others) e ≡ join_of a b
one-more held others e a b k count is n some most at last none =
    let all : length held ≡ length others + 1 = ap length is ∙ length-more others e in
    let m : count - 1 ≡ length others = omega (arith, n, all) in
    let within : k - 1 < length others = omega (arith, m, some, most) in
    let next : k - 1 + 1 ≡ k = omega (arith, some) in
    let first : a ≡ get_or others (k - 1) a = at ∙ ap (λ xs. get_or xs (k - 1) a) is ∙ other-at others e (k - 1) a within in
    let second : b ≡ e = last ∙ ap (λ xs. get_or xs (count - 1) b) is ∙ ap (λ j. get_or (others ++ e ∷ []) j b) m ∙ newest-at others e b in
    let rest : newest_join (drop (k - 1 + 1) others) e ≡ None = ap (λ j. newest_join (drop j others) e) next ∙ none in
    ap (λ xs. newest_join xs e) (drop_more others (k - 1) a within) ∙ ap (λ o. option_or o (join_of (get_or others (k - 1) a) e)) rest ∙ λ j. join_of (sym first j) (sym second j)

pub none-behind : (held others : List Entry) (e : Entry) (count : ℕ) → held ≡ others ++ e ∷ [] → count ≡ length held → newest_join (drop (count - 1) others) e ≡ None
none-behind held others e count is n =
    let all : length held ≡ length others + 1 = ap length is ∙ length-more others e in
    ap (λ xs. newest_join xs e) (drop_all (count - 1) others (omega (arith, n, all)))

-- ---- options

pub some-map : {X Y : Type 0} (f : X → Y) (o : Option X) → is_some o ≡ true → is_some (option_map f o) ≡ true
some-map f None some = absurd (cc)
some-map f (Some x) some = refl

pub none-map : {X Y : Type 0} (f : X → Y) (o : Option X) → is_some o ≡ false → option_map f o ≡ None
none-map f None none = refl
none-map f (Some x) none = absurd (cc)
