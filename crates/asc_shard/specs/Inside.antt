-- Words of private contracts: the order in which a shard's index has its entries.
use Rattle.std.specs.Prelude.{◌≡◌, ℕ, zero, suc, ◌+◌, ◌-◌, ◌*◌, ◌%◌, ◌^◌, ◌<◌, ◌≤◌, Bool, true, false, List, [], ◌∷◌, ◌++◌, All, length, map, take, replicate, count_by, sum_by, slice_index, slice_index_or, Option, Some, None, if◌then◌else◌}
use Rattle.std.specs.List.{AllPairs}
use Rattle.std.specs.Ordering.{is_lt, nat_cmp, on, then_cmp}
use Rattle.std.specs.Cmp.Lexicographic.{slice_cmp}
use Rattle.std.specs.declared.cmp.Ordering.{Ordering}
use Rattle.std.specs.declared.cmp.Ordering.TheVariants.{Less}
use Rattle.asc_model.specs.declared.version.Version.{Version}
use Rattle.asc_model.specs.declared.version.Version.TheVariants.{One, Two}
use Rattle.asc_model.specs.Shape.{Shape}
use Rattle.asc_model.specs.State.{State}
use Rattle.asc_model.specs.Entry.{Entry, IsTrueEntry}
use Rattle.asc_model.specs.DependencyVector.{is_among}
use Rattle.asc_model.specs.Number.{word_at}
use Rattle.asc_traj.specs.Content.{matches}
use Rattle.asc_shard.specs.declared.key.Key.{Key}
use Rattle.asc_shard.specs.declared.heads.Head.{Head}
use Rattle.asc_shard.specs.declared.heads.Beginning.{Beginning}
use Rattle.asc_shard.specs.declared.index.Index.{Index}
use Rattle.asc_shard.specs.declared.index.Place.{Place}
use Rattle.asc_shard.specs.Fingerprints.{factor, first_reads_of, print_of}

-- a count that was raised so many times
abbrev pub raised : (more : ℕ → ℕ) → (times count : ℕ) → ℕ
raised more zero count = count
raised more (suc times) count = more (raised more times count)

-- ---- keys

-- those of n places, from a place on, that pass a test, as the bits of a number
unfoldable pub bits_of : (ℕ → Bool) → (n place : ℕ) → ℕ
bits_of has zero place = 0
bits_of has (suc n) place = (if has place then 1 else 0) + 2 * bits_of has n (place + 1)

abbrev pub places_of : List (ℕ × ℕ) → List ℕ
places_of cells = map (λ cell. cell.0) cells

abbrev pub bytes_of : List (ℕ × ℕ) → List ℕ
bytes_of cells = map (λ cell. cell.1) cells

-- the bytes of a state at the places of cells
abbrev pub bytes_at : State → List (ℕ × ℕ) → List ℕ
bytes_at s cells = map (λ cell. slice_index s.bytes cell.0) cells

-- those of the first 128 places that are among these
abbrev pub mask_of : List ℕ → ℕ
mask_of places = bits_of (λ p. is_among p places) 128 0

abbrev pub key_of : Entry → Key
key_of e = record { mask = mask_of (places_of (first_reads_of e)); print = print_of e }

-- ---- the order of entries

abbrev pub by_key : Key → Key → Ordering
by_key = then_cmp (on (λ (m : Key). m.mask) nat_cmp) (on (λ (m : Key). m.print) nat_cmp)

abbrev pub rank_of : Version → ℕ
rank_of One = 1
rank_of Two = 2

abbrev pub by_shape : Shape → Shape → Ordering
by_shape = then_cmp (on (λ (shape : Shape). shape.base) nat_cmp)
    (then_cmp (on (λ (shape : Shape). shape.size) nat_cmp) (on (λ (shape : Shape). rank_of shape.version) nat_cmp))

-- one shape and one list of read places are equal here
abbrev pub by_group : Entry → Entry → Ordering
by_group = then_cmp (on (λ (e : Entry). e.shape) by_shape) (on (λ (e : Entry). places_of e.reads) (slice_cmp nat_cmp))

-- first by fingerprint, then by group
abbrev pub by_head : Entry → Entry → Ordering
by_head = then_cmp (on key_of by_key) by_group

-- in a group by the bytes read, and then by steps
abbrev pub by_tail : Entry → Entry → Ordering
by_tail = then_cmp (on (λ (e : Entry). bytes_of e.reads) (slice_cmp nat_cmp)) (on (λ (e : Entry). e.steps) nat_cmp)

abbrev pub by_all : Entry → Entry → Ordering
by_all = then_cmp by_head by_tail

-- the bytes that an entry reads against those that a state has at their places
abbrev pub compare_with : Entry → State → Ordering
compare_with e s = slice_cmp nat_cmp (bytes_of e.reads) (bytes_at s e.reads)

-- ---- the index

-- an entry for positions at which none is
abbrev pub no_entry : Entry
no_entry = record { shape = record { base = 0; size = 0; version = One }; reads = []; writes = []; steps = 0 }

-- the position of the entry of a number, the oldest first
abbrev pub position_of : (oldest number : ℕ) → ℕ
position_of oldest number = (number + (2 ^ 32 - oldest)) % 2 ^ 32

abbrev pub positions_of : Index → List ℕ
positions_of index = map (position_of index.oldest) index.numbers.items

-- the entries in the order of the index
abbrev pub sorted_of : List Entry → (positions : List ℕ) → List Entry
sorted_of held positions = map (λ p. slice_index_or held p no_entry) positions

abbrev pub sorted_in : List Entry → Index → List Entry
sorted_in held index = sorted_of held (positions_of index)

-- how many numbers below n pass a test
abbrev pub count_below : (ℕ → Bool) → ℕ → ℕ
count_below f zero = 0
count_below f (suc n) = count_below f n + (if f n then 1 else 0)

-- The entries hold everywhere. The positions are one for each entry, and stand in rising order of entries.
pub record IsIndex (held : List Entry) (positions : List ℕ) : Type 0 where
  pub true_all : All IsTrueEntry held
  pub size : length positions ≡ length held
  pub within : All (λ p. p < length held) positions
  pub once : (f : ℕ → Bool) → count_by f positions ≡ count_below f (length held)
  pub rise : AllPairs (λ a b. by_all a b ≡ Less) (sorted_of held positions)

-- ---- the lists of first places

abbrev pub no_head : Head
no_head = record { mask = 0; count = 0; words = []; len = 0 }

abbrev pub mask_at : List Head → ℕ → ℕ
mask_at heads h = (slice_index_or heads h no_head).mask

abbrev pub count_at : List Head → ℕ → ℕ
count_at heads h = (slice_index_or heads h no_head).count

-- each mask as often as it has entries
abbrev pub runs : List Head → List ℕ
runs [] = []
runs (head ∷ heads) = replicate head.count head.mask ++ runs heads

abbrev pub total : List Head → ℕ
total heads = sum_by (λ head. head.count) heads

abbrev pub word_places : (words : List ℕ) → List ℕ
word_places [] = []
word_places (word ∷ words) = (word * 4) ∷ (word * 4 + 1) ∷ (word * 4 + 2) ∷ (word * 4 + 3) ∷ word_places words

abbrev pub words_in : Head → List ℕ
words_in head = take head.len head.words

-- Where a head has words, their places are the first ones that entries of its mask read.
pub record IsHead (head : Head) : Type 0 where
  pub fit : head.len ≤ length head.words
  pub low : All (λ word. word < 32) (words_in head)
  pub places : 0 < head.len → (e : Entry) → IsTrueEntry e → (key_of e).mask ≡ head.mask → places_of (first_reads_of e) ≡ word_places (words_in head)

-- what each of the first words of a state counts
pub record AreProducts (s : State) (products : List ℕ) : Type 0 where
  pub size : length products ≡ 32
  pub counts : (word : ℕ) → word < 32 → slice_index products word ≡ word_at s.bytes (word * 4) * factor word % 2 ^ 64

-- Masks rise, and each has an entry.
pub record AreHeads (heads : List Head) : Type 0 where
  pub each : All IsHead heads
  pub some : All (λ head. 0 < head.count) heads
  pub rise : AllPairs (λ a b. a < b) (map (λ head. head.mask) heads)

-- All heads before have lower masks, and all behind have higher ones.
pub record IsBeginning (heads : List Head) (mask : ℕ) (b : Beginning) : Type 0 where
  pub most : b.head ≤ length heads
  pub before : (h : ℕ) → h < b.head → mask_at heads h < mask
  pub from : b.from ≡ total (take b.head heads)
  pub here : b.known ≡ true → (b.head < length heads) × (mask_at heads b.head ≡ mask) × (b.next ≡ b.from + count_at heads b.head)
  pub none : b.known ≡ false → (b.head < length heads → mask < mask_at heads b.head) × (b.next ≡ b.from)

-- what an index has of the entries that are held
pub record IsIndexed (held : List Entry) (index : Index) : Type 0 where
  pub entries : IsIndex held (positions_of index)
  pub oldest : index.oldest < 2 ^ 32
  pub few : length held < 2 ^ 32
  pub prints : index.prints.items ≡ map print_of (sorted_in held index)
  pub masks : runs index.heads.items ≡ map (λ e. (key_of e).mask) (sorted_in held index)
  pub heads : AreHeads index.heads.items

-- where an entry stands, or would
pub record IsPlace (held : List Entry) (index : Index) (e : Entry) (place : Place) : Type 0 where
  pub beginning : IsBeginning index.heads.items (key_of e).mask place.beginning
  pub least : place.beginning.from ≤ place.at
  pub most : place.at ≤ place.beginning.next
  pub before : (i : ℕ) → i < place.at → by_all (slice_index_or (sorted_in held index) i no_entry) e ≡ Less
  pub rest : (i : ℕ) → place.at ≤ i → i < length held → is_lt (by_all (slice_index_or (sorted_in held index) i no_entry) e) ≡ false

-- ---- looking for the longest match

-- what was found so far: no steps for none
pub record IsBest (held : List Entry) (s : State) (left : ℕ) (position : Option ℕ) (steps : ℕ) : Type 0 where
  pub none : position ≡ None → steps ≡ 0
  pub within : (p : ℕ) → position ≡ Some p → p < length held
  pub matched : (p : ℕ) → position ≡ Some p → matches s (slice_index_or held p no_entry) ≡ true
  pub steps_are : (p : ℕ) → position ≡ Some p → (slice_index_or held p no_entry).steps ≡ steps
  pub enough : steps ≤ left

-- Of the entries from one index to another, none that matches and has at most left steps has more than these.
abbrev pub IsMost : List Entry → State → (left low high steps : ℕ) → Type 0
IsMost xs s left low high steps = (i : ℕ) → low ≤ i → i < high → matches s (slice_index_or xs i no_entry) ≡ true
    → (slice_index_or xs i no_entry).steps ≤ left → (slice_index_or xs i no_entry).steps ≤ steps

-- an entry of these from one index to another
abbrev pub IsFrom : List Entry → (low high : ℕ) → Entry → Type 0
IsFrom xs low high e = (i : ℕ) × (low ≤ i) × (i < high) × (e ≡ slice_index_or xs i no_entry)

-- From one index to another all are of one group and of the state's shape, and rise in their bytes and steps.
pub record IsTailRising (xs : List Entry) (s : State) (from end : ℕ) : Type 0 where
  pub shape : (i : ℕ) → from ≤ i → i < end → (slice_index_or xs i no_entry).shape ≡ s.shape
  pub places : (i : ℕ) → from ≤ i → i < end → places_of (slice_index_or xs from no_entry).reads ≡ places_of (slice_index_or xs i no_entry).reads
  pub rise : (i j : ℕ) → from ≤ i → i < j → j < end → by_tail (slice_index_or xs i no_entry) (slice_index_or xs j no_entry) ≡ Less

-- the last one that matches and has at most left steps
pub record IsLast (xs : List Entry) (s : State) (left from end : ℕ) (found : Option ℕ) : Type 0 where
  pub within : (i : ℕ) → found ≡ Some i → (from ≤ i) × (i < end)
  pub matched : (i : ℕ) → found ≡ Some i → (matches s (slice_index_or xs i no_entry) ≡ true) × ((slice_index_or xs i no_entry).steps ≤ left)
  pub most : (i : ℕ) → found ≡ Some i → IsMost xs s left from end (slice_index_or xs i no_entry).steps
  pub none : found ≡ None → IsMost xs s left from end 0
