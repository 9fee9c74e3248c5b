-- What the visits of a walk may cost it, in steps of the guest, and which of them are passed over.
use Rattle.std.specs.Prelude.{◌≡◌, ℕ, ◌+◌, ◌-◌, ◌*◌, ◌^◌, ◌<◌, ◌≤◌, nat_le, min, ◌&&◌, ◌||◌, not, Bool, false, Option, Some, None, if◌then◌else◌}
use Rattle.asc_model.specs.declared.limits.TheConstants.{MOST_WORKERS}

pub record Budget : Type 0 where
  -- what a visit is charged, beside the pages that it copies
  pub cost : ℕ
  -- what is left for visits
  pub steps : ℕ
  -- what visits took beyond that
  pub owed : ℕ
  -- how many steps were left to do at the last look-up
  pub left : ℕ
  -- whether the last visit was passed over
  pub passing : Bool
  -- whether entries were known before the first visit: then one may be of use at which nothing is guessed
  pub knows : Bool

-- what a visit is charged for its jobs
abbrev pub visit_steps : ℕ
visit_steps = 2000

-- and for a look-up in the list of each worker
abbrev pub worker_steps : ℕ
worker_steps = 500

-- and for each page that it copies
abbrev pub page_steps : ℕ
page_steps = 256

-- each step that was jumped over counts as so many more: it was saved, and visits may cost what they save
abbrev pub saved_steps : ℕ
saved_steps = 3

-- what a visit is charged, beside its pages: for 64 workers at most
abbrev pub visit_cost : (workers : ℕ) → ℕ
visit_cost workers = visit_steps + worker_steps * min workers MOST_WORKERS

-- what a row of 32 visits that copy no page is charged, of which each is charged so much: a budget has no more
abbrev pub row_cost : (cost : ℕ) → ℕ
row_cost cost = 32 * cost

-- a budget of these numbers
abbrev pub budget : (cost steps owed left : ℕ) → (passing knows : Bool) → Budget
budget cost steps owed left passing knows =
    record { cost = cost; steps = steps; owed = owed; left = left; passing = passing; knows = knows }

-- that of a walk which begins: it pays for a row
abbrev pub new_budget : (workers : ℕ) → (knows : Bool) → Budget
new_budget workers knows = budget (visit_cost workers) (row_cost (visit_cost workers)) 0 0 false knows

-- what a visit is charged that copies so many pages
abbrev pub charge : Budget → (pages : ℕ) → ℕ
charge b pages = b.cost + page_steps * pages

-- Whether it pays for a visit: after one that was passed over, it has to pay for a row. How many pages a visit copies does
-- not count here.
abbrev pub pays : Budget → Bool
pays b = nat_le (if b.passing then row_cost b.cost else b.cost) b.steps

-- Whether a visit is passed over. Once the queue had been filled up, one that is not paid for is. Where no kind of guess is
-- on each one is, but for those that are paid for where entries are known.
abbrev pub passes : (guesses filled : Bool) → Budget → Bool
passes guesses filled b =
    if guesses then filled && not (pays b) else not (b.knows && pays b)

-- what is taken for a visit: its charge, where it is made and paid for
abbrev pub taken : (guesses : Bool) → (pages : ℕ) → Budget → ℕ
taken guesses pages b = if (guesses || b.knows) && pays b then charge b pages else 0

-- after a visit: what is taken beyond the steps that are left is owed
abbrev pub after_visit : (guesses filled : Bool) → (pages : ℕ) → Budget → Budget
after_visit guesses filled pages b = record b {
  steps = b.steps - taken guesses pages b;
  owed = b.owed + (taken guesses pages b - b.steps);
  passing = passes guesses filled b;
}

-- what was saved by a look-up
abbrev pub saved_by : (jumped : Option ℕ) → ℕ
saved_by None = 0
saved_by (Some steps) = saved_steps * steps

-- what is gained at a look-up with so many steps left: the steps since the last one, and what was saved
abbrev pub gained : (left : ℕ) → (jumped : Option ℕ) → Budget → ℕ
gained left jumped b = b.left - left + saved_by jumped

-- after a look-up: what is gained first pays what is owed, and the rest is left for visits
abbrev pub after_look_up : (left : ℕ) → (jumped : Option ℕ) → Budget → Budget
after_look_up left jumped b = record b {
  steps = min (b.steps + (gained left jumped b - b.owed)) (row_cost b.cost);
  owed = b.owed - gained left jumped b;
  left = left;
}

-- What holds of every budget. While something is owed, nothing is left for visits, so that none is paid for.
pub record IsBudget (b : Budget) : Type 0 where
  pub least : 0 < b.cost
  pub cost : b.cost ≤ visit_cost MOST_WORKERS
  pub steps : b.steps ≤ row_cost b.cost
  pub debt : 0 < b.owed → b.steps ≡ 0
  pub owed : b.owed ≤ charge b (2 ^ 23)
  pub left : b.left ≤ 2 ^ 40
