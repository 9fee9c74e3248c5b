-- The files of a batch: those that were read, and the one that was not.
use Rattle.std.proofs.Common.{◌≡◌, ◌∙◌, ◌⊎◌, ℕ, suc, ◌+◌, ◌<◌, ◌≤◌, Bool, true, false, nat_lt, Option, Some, None, List, [], ◌∷◌, ◌++◌, length, take, drop, drop-cons, get_or, MatchBool, Ok, Err, refl, sym, ap, subst, arith, inl, inr, append_assoc}
use Rattle.std.specs.Prelude.{if◌then◌else◌}
use Rattle.std.proofs.lemmas.Bool.Decides.{nat_tests}
use Rattle.std.proofs.lemmas.List.{length_push, take-append-drop, take_more}
use Rattle.asc_outside.specs.Outside.{AsksFor, Blames, File, MayHold}
use Rattle.asc_elf.specs.declared.fault.ElfFault.{ElfFault}
use Rattle.asc_elf.specs.Image as loader
use Rattle.asc_words.specs.Batch.{BatchLine}
use Rattle.asc_words.specs.Line.{file_limit}
use Rattle.asc_words.specs.declared.answer.Answer.{Answer}
use Rattle.asc_words.specs.declared.answer.Answer.TheVariants as answers
use Rattle.asc_top.specs.Program.{load_of, refusal}
use Rattle.asc_top.specs.Endings.{BadFile, ending_of}
use Rattle.asc_top.specs.Ran.{IsRead, IsRefused, IsTooLong}
use Rattle.asc_top.specs.Batch.{AreBatchFiles, AreInputs, BatchFiles, batch_meaning, first_long, input_names, result_of_inputs}
use Rattle.asc_top.specs.BatchAnswer.{AsksForBatch, AsksForEach, AsksSoOften}
use Rattle.asc_top.specs.BatchRead.{FailsAtInput, IsLongInput, ReadsBatch, ReadsInputs, RefusesBatch}
use Rattle.asc_top.proofs.BatchAnswers.{meaning-batch, meaning-long-image, meaning-no-image}

-- ---- how long a content is

is_short : (content : List ℕ) → length content ≤ file_limit → nat_lt file_limit (length content) ≡ false
is_short content within = grind (arith, nat_tests)

is_long : (content : List ℕ) → file_limit < length content → nat_lt file_limit (length content) ≡ true
is_long content long = grind (arith, nat_tests)

-- ---- contents of names

-- these are the contents of files of these names, and none is too long
abbrev pub AreShort : (Holds : (name content : List ℕ) → Type 0) → (names contents : List (List ℕ)) → Type 0
AreShort Holds [] [] = Unit {0}
AreShort Holds (name ∷ names) (content ∷ contents) = Holds name content × (length content ≤ file_limit) × AreShort Holds names contents
AreShort Holds [] (content ∷ contents) = ⊥
AreShort Holds (name ∷ names) [] = ⊥

module _ (Holds : (name content : List ℕ) → Type 0) where
  -- they are inputs
  pub inputs_short : (names contents : List (List ℕ)) → AreShort Holds names contents → AreInputs Holds names contents
  inputs_short [] [] are = tt
  inputs_short (name ∷ names) (content ∷ contents) (held, within, are) =
      (held, subst (λ (long : Bool). MatchBool long (contents ≡ []) (AreInputs Holds names contents)) (sym (is_short content within)) (inputs_short names contents are))
  inputs_short [] (content ∷ contents) never = absurd never
  inputs_short (name ∷ names) [] never = absurd never

  -- so they are with one that is too long behind them
  pub inputs_long : (names contents : List (List ℕ)) (name content : List ℕ) (rest : List (List ℕ)) → AreShort Holds names contents → Holds name content → file_limit < length content
      → AreInputs Holds (names ++ name ∷ rest) (contents ++ content ∷ [])
  inputs_long [] [] last long rest are held over =
      (held, subst (λ (is : Bool). MatchBool is (◌≡◌ {A = List (List ℕ)} [] []) (AreInputs Holds rest [])) (sym (is_long long over)) refl)
  inputs_long (name ∷ names) (content ∷ contents) last long rest (first_held, within, are) held over = (
    first_held,
    subst (λ (is : Bool). MatchBool is (contents ++ long ∷ [] ≡ []) (AreInputs Holds (names ++ last ∷ rest) (contents ++ long ∷ []))) (sym (is_short content within))
        (inputs_long names contents last long rest are held over),
  )
  inputs_long [] (content ∷ contents) last long rest never held over = absurd never
  inputs_long (name ∷ names) [] last long rest never held over = absurd never

  -- none is the first that is too long
  pub first_long-short : (number : ℕ) (names contents : List (List ℕ)) → AreShort Holds names contents → first_long number contents ≡ None
  first_long-short number [] [] are = refl
  first_long-short number (name ∷ names) (content ∷ contents) (held, within, are) =
      let short = is_short content within in
      (λ i. if short i then Some number else first_long (number + 1) contents) ∙ first_long-short (number + 1) names contents are
  first_long-short number [] (content ∷ contents) never = absurd never
  first_long-short number (name ∷ names) [] never = absurd never

  -- one behind them is
  pub first_long-last : (number : ℕ) (names contents : List (List ℕ)) (long : List ℕ) → AreShort Holds names contents → file_limit < length long
      → first_long number (contents ++ long ∷ []) ≡ Some (number + length names)
  first_long-last number [] [] long are over =
      let is = is_long long over in
      (λ i. if is i then Some number else first_long (number + 1) []) ∙ ap (λ (n : ℕ). Some n) (let same : number ≡ number + 0 = omega arith in same)
  first_long-last number (name ∷ names) (content ∷ contents) long (held, within, are) over =
      let short = is_short content within in
      (λ i. if short i then Some number else first_long (number + 1) (contents ++ long ∷ [])) ∙ first_long-last (number + 1) names contents long are over
      ∙ ap (λ (n : ℕ). Some n) (let same : number + 1 + length names ≡ number + length (name ∷ names) = omega arith in same)
  first_long-last number [] (content ∷ contents) long never over = absurd never
  first_long-last number (name ∷ names) [] long never over = absurd never

  -- one more that is not
  pub short-more : (names contents : List (List ℕ)) (name content : List ℕ) → AreShort Holds names contents → Holds name content → length content ≤ file_limit
      → AreShort Holds (names ++ name ∷ []) (contents ++ content ∷ [])
  short-more [] [] last more are held within = (held, within, tt)
  short-more (name ∷ names) (content ∷ contents) last more (first_held, first_within, are) held within =
      (first_held, first_within, short-more names contents last more are held within)
  short-more [] (content ∷ contents) last more never held within = absurd never
  short-more (name ∷ names) [] last more never held within = absurd never

-- ---- what the store was asked for

-- one name more
pub asks-more : (names : List (List ℕ)) (name : List ℕ) (before between after : Option (List (List ℕ))) → AsksForEach names before between → AsksFor name between after
    → AsksForEach (names ++ name ∷ []) before after
asks-more [] name before between after same asks = (after, subst (λ (b : Option (List (List ℕ))). AsksFor name b after) same asks, refl)
asks-more (first ∷ names) name before between after (next, asks_first, rest) asks = (next, asks_first, asks-more names name next between after rest asks)

-- ---- a list at one of its elements

pub split_at : {X : Type 0} (xs : List X) (i : ℕ) (x : X) → i < length xs → x ≡ get_or xs i x → xs ≡ take i xs ++ x ∷ drop (suc i) xs
split_at xs i x within is =
    sym (take-append-drop i xs) ∙ ap (λ (rest : List _). take i xs ++ rest) (drop-cons xs i x within ∙ ap (λ y. y ∷ drop (suc i) xs) (sym is))

pub take_upto : {X : Type 0} (xs : List X) (i : ℕ) (x : X) → i < length xs → x ≡ get_or xs i x → take (i + 1) xs ≡ take i xs ++ x ∷ []
take_upto xs i x within is = take_more xs i x within ∙ ap (λ y. take i xs ++ y ∷ []) (sym is)

-- a list to which a value was pushed
pub push_taken : (ok : Bool) (before after : List (List ℕ)) (value content : List ℕ) → after ≡ (if ok then before ++ value ∷ [] else before) → ok ≡ true → value ≡ content → after ≡ before ++ content ∷ []
push_taken ok before after value content is taken same =
    is ∙ ap (λ (b : Bool). if b then before ++ value ∷ [] else before) taken ∙ ap (λ (x : List ℕ). before ++ x ∷ []) same

-- ---- the inputs that were read

-- The inputs of these names were read, none of which is too long. The store's files stay, and it did not fail.
pub record ReadSoFar (names inputs : List (List ℕ)) (files : Option (List File)) (asked : Option (List (List ℕ)))
    (faults : ℕ) (files_after : Option (List File)) (asked_after : Option (List (List ℕ))) (faults_after : ℕ) : Type 0 where
  pub short : AreShort (MayHold files) names inputs
  pub stay : files_after ≡ files
  pub names_are : AsksForEach names asked asked_after
  pub no_fault : faults_after ≡ faults

pub none_read : (files : Option (List File)) (asked : Option (List (List ℕ))) (faults : ℕ) → ReadSoFar [] [] files asked faults files asked faults
none_read files asked faults = record { short = tt; stay = refl; names_are = refl; no_fault = refl }

module _ (names inputs : List (List ℕ)) (files files_between : Option (List File)) (asked between : Option (List (List ℕ))) (faults faults_between : ℕ)
    (far : ReadSoFar names inputs files asked faults files_between between faults_between) where
  -- they are all
  pub all_read : ReadsInputs names inputs files asked faults files_between between faults_between
  all_read = record {
    held = inputs_short (MayHold files) names inputs far.short;
    short = first_long-short (MayHold files) 0 names inputs far.short;
    stay = far.stay;
    names_are = far.names_are;
    no_fault = far.no_fault;
  }

  -- memory was wanting behind them
  pub fails-memory : (rest all : List (List ℕ)) → all ≡ names ++ rest → FailsAtInput all answers.Memory files asked faults files_between between faults_between
  fails-memory rest all split = record {
    front = names;
    rest = rest;
    split = split;
    stay = far.stay;
    names_are = far.names_are;
    store_fault = record { rose = λ is. absurd (cc); stays = λ _. far.no_fault };
    cause = inl (inr refl);
  }

  module _ (name : List ℕ) (files_after : Option (List File)) (asked_after : Option (List (List ℕ))) (faults_after : ℕ) where
    -- one more was read
    pub one_read : (content : List ℕ) → IsRead name content files_between between faults_between files_after asked_after faults_after
        → ReadSoFar (names ++ name ∷ []) (inputs ++ content ∷ []) files asked faults files_after asked_after faults_after
    one_read content read = record {
      short = short-more (MayHold files) names inputs name content far.short (subst (λ (f : Option (List File)). MayHold f name content) far.stay read.held) read.within;
      stay = read.stay ∙ far.stay;
      names_are = asks-more names name asked between asked_after far.names_are read.names;
      no_fault = read.no_fault ∙ far.no_fault;
    }

    -- the next one was not
    pub fails-file : (answered : Answer) (number : ℕ) (rest all : List (List ℕ)) → all ≡ names ++ name ∷ rest → length names ≡ number
        → IsRefused name (IsTooLong (answers.InputTooLong number)) answered files_between between faults_between files_after asked_after faults_after
        → FailsAtInput all answered files asked faults files_after asked_after faults_after
    fails-file answered number rest all split count r = record {
      front = names ++ name ∷ [];
      rest = rest;
      split = split ∙ sym (append_assoc names (name ∷ []) rest);
      stay = r.stay ∙ far.stay;
      names_are = asks-more names name asked between asked_after far.names_are r.names;
      store_fault = subst (λ (n : ℕ). Blames (answered ≡ answers.StoreFault) n faults_after) far.no_fault r.store_fault;
      cause = by r.cause;
    }
      where
        by : ((answered ≡ answers.StoreFault) ⊎ (answered ≡ answers.Memory)) ⊎ ((content : List ℕ) × MayHold files_between name content × IsTooLong (answers.InputTooLong number) content answered)
            → ((answered ≡ answers.StoreFault) ⊎ (answered ≡ answers.Memory)) ⊎ IsLongInput all files (length (names ++ name ∷ [])) answered
        by (inl is) = inl is
        by (inr (content, may, (is, over))) = inr (record {
          inputs = inputs ++ content ∷ [];
          held = subst (λ (l : List (List ℕ)). AreInputs (MayHold files) l (inputs ++ content ∷ [])) (sym split)
              (inputs_long (MayHold files) names inputs name content rest far.short (subst (λ (f : Option (List File)). MayHold f name content) far.stay may) over);
          number = number;
          long = first_long-last (MayHold files) 0 names inputs content far.short over ∙ ap (λ (n : ℕ). Some n) (let same : 0 + length names ≡ number = omega arith in same);
          answer = is;
          last = length_push names name ∙ ap (λ (n : ℕ). n + 1) count;
        })

-- ---- the inputs that are read behind an image

abbrev by_load : BatchLine → (long : Bool) → (image : List ℕ) → List (List ℕ)
by_load line long image = if long then [] else elim (load_of line.run image) [ Ok loaded ↦ line.inputs | Err fault ↦ [] ]

names-image : (line : BatchLine) (content : List ℕ) (image : loader.Image) → length content ≤ file_limit → load_of line.run content ≡ Ok image → input_names line content ≡ line.inputs
names-image line content image within loads =
    let short = is_short content within in
    (λ i. by_load line (short i) content) ∙ (λ i. elim (loads i) [ Ok loaded ↦ line.inputs | Err fault ↦ [] ])

names-no_image : (line : BatchLine) (content : List ℕ) (fault : ElfFault) → length content ≤ file_limit → load_of line.run content ≡ Err fault → input_names line content ≡ []
names-no_image line content fault within loads =
    let short = is_short content within in
    (λ i. by_load line (short i) content) ∙ (λ i. elim (loads i) [ Ok loaded ↦ line.inputs | Err fault ↦ [] ])

names-long : (line : BatchLine) (content : List ℕ) → file_limit < length content → input_names line content ≡ []
names-long line content over =
    let long = is_long content over in
    λ i. by_load line (long i) content

-- ---- the files of a batch

module _ (line : BatchLine) (files files_after : Option (List File)) (asked asked_after : Option (List (List ℕ))) (faults faults_after : ℕ) where
  -- no image was read
  abbrev Refuses : Answer → Type 0
  Refuses answered = RefusesBatch line answered files asked faults files_after asked_after faults_after

  abbrev image_only : List ℕ → BatchFiles
  image_only content = record { image = content; inputs = [] }

  only_held : (content : List ℕ) → MayHold files line.run.image content → input_names line content ≡ [] → AreBatchFiles (MayHold files) line (image_only content)
  only_held content may none = (may, subst (λ (names : List (List ℕ)). AreInputs (MayHold files) names []) (sym none) tt)

  one_asked : (answered : Answer) → AsksFor line.run.image asked asked_after → AsksSoOften line answered 1 → AsksForBatch line answered asked asked_after
  one_asked answered asks often = record {
    names = line.run.image ∷ [];
    rest = line.inputs;
    first = refl;
    asked = (asked_after, asks, refl);
    number = often;
  }

  pub refuses_unread : (answered : Answer) → IsRefused line.run.image (IsTooLong answers.TooLong) answered files asked faults files_after asked_after faults_after → Refuses answered
  refuses_unread answered r = by r.cause
    where
      unread : AsksSoOften line answered 1
          → ((answered ≡ answers.StoreFault) ⊎ (answered ≡ answers.Memory))
          ⊎ ((read : BatchFiles) × AreBatchFiles (MayHold files) line read × (ending_of answered ≡ BadFile) × (batch_meaning line read ≡ refusal answered)) → Refuses answered
      unread often cause = record {
        stay = r.stay;
        names = one_asked answered r.names often;
        store_fault = r.store_fault;
        cause = cause;
      }

      by : ((answered ≡ answers.StoreFault) ⊎ (answered ≡ answers.Memory)) ⊎ ((content : List ℕ) × MayHold files line.run.image content × IsTooLong answers.TooLong content answered) → Refuses answered
      by (inl (inl is)) = unread (subst (λ (a : Answer). AsksSoOften line a 1) (sym is) (let one : 1 ≤ 1 = omega arith in one)) (inl (inl is))
      by (inl (inr is)) = unread (subst (λ (a : Answer). AsksSoOften line a 1) (sym is) tt) (inl (inr is))
      by (inr (content, may, (is, over))) =
          unread (subst (λ (a : Answer). AsksSoOften line a 1) (sym is) refl)
          (inr (image_only content, only_held content may (names-long line content over), ap ending_of is, meaning-long-image line (image_only content) over ∙ ap (λ (a : Answer). refusal a) (sym is)))

  -- what was read is no image
  pub refuses_image : (content : List ℕ) (fault : ElfFault) → IsRead line.run.image content files asked faults files_after asked_after faults_after → load_of line.run content ≡ Err fault
      → Refuses (answers.Image fault)
  refuses_image content fault read loads = record {
    stay = read.stay;
    names = one_asked (answers.Image fault) read.names refl;
    store_fault = record { rose = λ is. absurd (cc); stays = λ _. read.no_fault };
    cause = inr (image_only content, only_held content read.held (names-no_image line content fault read.within loads), refl, meaning-no-image line (image_only content) fault read.within loads);
  }

  -- an image was read
  module _ (content : List ℕ) (image : loader.Image) (files_between : Option (List File)) (between : Option (List (List ℕ))) (faults_between : ℕ)
      (read : IsRead line.run.image content files asked faults files_between between faults_between) (loads : load_of line.run content ≡ Ok image) where
    all_held : (inputs : List (List ℕ)) → AreInputs (MayHold files_between) line.inputs inputs → AreBatchFiles (MayHold files) line (record { image = content; inputs = inputs })
    all_held inputs held =
        let here : AreInputs (MayHold files) line.inputs inputs = subst (λ (f : Option (List File)). AreInputs (MayHold f) line.inputs inputs) read.stay held in
        (read.held, subst (λ (names : List (List ℕ)). AreInputs (MayHold files) names inputs) (sym (names-image line content image read.within loads)) here)

    -- but its inputs were not
    pub refuses_inputs : (answered : Answer) → FailsAtInput line.inputs answered files_between between faults_between files_after asked_after faults_after → Refuses answered
    refuses_inputs answered f = by f.cause
      where
        unread : AsksSoOften line answered (length (line.run.image ∷ f.front))
            → ((answered ≡ answers.StoreFault) ⊎ (answered ≡ answers.Memory))
            ⊎ ((files_read : BatchFiles) × AreBatchFiles (MayHold files) line files_read × (ending_of answered ≡ BadFile) × (batch_meaning line files_read ≡ refusal answered)) → Refuses answered
        unread often cause = record {
          stay = f.stay ∙ read.stay;
          names = record {
            names = line.run.image ∷ f.front;
            rest = f.rest;
            first = ap (λ (l : List (List ℕ)). line.run.image ∷ l) f.split;
            asked = (between, read.names, f.names_are);
            number = often;
          };
          store_fault = subst (λ (n : ℕ). Blames (answered ≡ answers.StoreFault) n faults_after) read.no_fault f.store_fault;
          cause = cause;
        }

        long : (l : IsLongInput line.inputs files_between (length f.front) answered) → batch_meaning line (record { image = content; inputs = l.inputs }) ≡ refusal answered
        long l =
            meaning-batch line (record { image = content; inputs = l.inputs }) image read.within loads
            ∙ ap (λ (first : Option ℕ). result_of_inputs line.run image l.inputs first) l.long ∙ ap (λ (a : Answer). refusal a) (sym l.answer)

        by : ((answered ≡ answers.StoreFault) ⊎ (answered ≡ answers.Memory)) ⊎ IsLongInput line.inputs files_between (length f.front) answered → Refuses answered
        by (inl (inl is)) =
            unread (subst (λ (a : Answer). AsksSoOften line a (length (line.run.image ∷ f.front))) (sym is) (let some : 1 ≤ length (line.run.image ∷ f.front) = omega arith in some)) (inl (inl is))
        by (inl (inr is)) = unread (subst (λ (a : Answer). AsksSoOften line a (length (line.run.image ∷ f.front))) (sym is) tt) (inl (inr is))
        by (inr l) =
            let often : length (line.run.image ∷ f.front) ≡ l.number + 2 = omega (arith, l.last) in
            unread (subst (λ (a : Answer). AsksSoOften line a (length (line.run.image ∷ f.front))) (sym l.answer) often)
            (inr (record { image = content; inputs = l.inputs }, all_held l.inputs l.held, ap ending_of l.answer, long l))

-- ---- how many inputs were read

counted : (Holds : (name content : List ℕ) → Type 0) (number : ℕ) (names inputs : List (List ℕ)) → AreInputs Holds names inputs → first_long number inputs ≡ None → length inputs ≡ length names
counted Holds number [] [] is short = refl
counted Holds number [] (input ∷ inputs) is short = absurd is
counted Holds number (name ∷ names) [] is short = absurd is
counted Holds number (name ∷ names) (input ∷ inputs) (held, rest) short =
    counted_by (nat_lt file_limit (length input)) rest short (λ r s. counted Holds (number + 1) names inputs r s)
  where
    counted_by : {A : Type 0} (long : Bool) → MatchBool long (inputs ≡ []) A → (if long then Some number else first_long (number + 1) inputs) ≡ None
        → (A → first_long (number + 1) inputs ≡ None → length inputs ≡ length names) → length (input ∷ inputs) ≡ length (name ∷ names)
    counted_by true none never f = absurd (cc)
    counted_by false r s f = ap suc (f r s)

-- all of them, where none is too long
pub all_counted : (line : BatchLine) (read : BatchFiles) (files : Option (List File)) (asked : Option (List (List ℕ))) (faults : ℕ) (files_after : Option (List File)) (asked_after : Option (List (List ℕ))) (faults_after : ℕ)
    → ReadsBatch line read files asked faults files_after asked_after faults_after → length read.inputs ≡ length line.inputs
all_counted line read files asked faults files_after asked_after faults_after r =
    counted (MayHold files) 0 line.inputs read.inputs
    (subst (λ (names : List (List ℕ)). AreInputs (MayHold files) names read.inputs) (names-image line read.image r.image r.within r.loads) r.held.1) r.short
