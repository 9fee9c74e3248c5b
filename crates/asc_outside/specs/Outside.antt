-- Words on sources, sinks and stores. What they hold may be told or not.
use Rattle.std.specs.Prelude.{◌≡◌, ℕ, ◌+◌, ◌-◌, ◌^◌, ◌<◌, min, List, [], ◌∷◌, ◌++◌, length, take, Option, Some, None, option_map, Result, OnOk, OnErr, IsErrOf, nat_eq, if◌then◌else◌}
use lib.Pointwise.{pointwise}
use Rattle.asc_outside.specs.declared.outside.StoreFault.{StoreFault}
use Rattle.asc_outside.specs.declared.outside.StoreFault.TheVariants.{Failed, Memory}

-- one more; a count that stands at its last value, 2 ^ 64 - 1, stays
abbrev pub one_more : ℕ → ℕ
one_more n = n + min 1 (2 ^ 64 - 1 - n)

-- a count of faults stays where a call succeeds, and rises by one where it fails
pub record HasCause {T E : Type 0} (before now : ℕ) (result : Result T E) : Type 0 where
  pub stays : OnOk result (now ≡ before)
  pub rose : OnErr result (now ≡ one_more before)

-- a count of faults rises by one where its device is blamed, and else it stays
pub record Blames (blamed : Type 0) (before now : ℕ) : Type 0 where
  pub rose : blamed → now ≡ one_more before
  pub stays : ¬ blamed → now ≡ before

-- these bytes were taken from the front of what was left
abbrev pub Takes : Option (List ℕ) → Option (List ℕ) → List ℕ → Type 0
Takes (Some before) (Some now) taken = before ≡ taken ++ now
Takes None None taken = Unit {0}
Takes (Some before) None taken = ⊥
Takes None (Some now) taken = ⊥

-- no byte is left, where that is told
abbrev pub IsAtEnd : Option (List ℕ) → Type 0
IsAtEnd (Some left) = left ≡ []
IsAtEnd None = Unit {0}

-- what a sink was given: its bytes and their number, where it tells them
pub record Given : Type 0 where
  pub bytes : Option (List ℕ)
  pub number : Option ℕ

-- with these bytes behind; the number stops at 2 ^ 64 - 1
abbrev pub given_after : Given → List ℕ → Given
given_after given piece = record {
  bytes = option_map (λ bytes. bytes ++ piece) given.bytes;
  number = option_map (λ n. n + min (length piece) (2 ^ 64 - 1 - n)) given.number;
}

-- a sink that failed was given the first bytes of a piece, and not all
pub record PutsPart (before after : Given) (piece : List ℕ) : Type 0 where
  pub count : ℕ
  pub fewer : count < length piece
  pub given : after ≡ given_after before (take count piece)

-- a file of a store: its name and its content
pub record File : Type 0 where
  pub name : List ℕ
  pub content : List ℕ

-- the content of the first file of that name
abbrev pub content_of : List File → List ℕ → Option (List ℕ)
content_of [] name = None
content_of (file ∷ files) name = if pointwise nat_eq file.name name then Some file.content else content_of files name

-- the store may hold a file of that name with this content: it does where it tells its files
abbrev pub MayHold : Option (List File) → List ℕ → List ℕ → Type 0
MayHold (Some files) name content = content_of files name ≡ Some content
MayHold None name content = Unit {0}

-- the store may hold a file of that name with more than most bytes
abbrev pub MayHoldLonger : Option (List File) → List ℕ → ℕ → Type 0
MayHoldLonger (Some files) name most =
    (content : List ℕ) × (content_of files name ≡ Some content) × (most < length content)
MayHoldLonger None name most = Unit {0}

-- Of the names that a store was asked for, this one more is told, as the last. It may stop telling them, and then it
-- tells none again.
abbrev pub AsksFor : (name : List ℕ) → (before now : Option (List (List ℕ))) → Type 0
AsksFor name (Some names) (Some now) = now ≡ names ++ name ∷ []
AsksFor name (Some names) None = Unit {0}
AsksFor name None None = Unit {0}
AsksFor name None (Some now) = ⊥

-- a count of faults rises by one where the store failed, and else it stays
pub record HasStoreCause {T : Type 0} (before now : ℕ) (result : Result T StoreFault) : Type 0 where
  pub stays : OnOk result (now ≡ before)
  pub memory : IsErrOf result Memory → now ≡ before
  pub rose : IsErrOf result Failed → now ≡ one_more before
