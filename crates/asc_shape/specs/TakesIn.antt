-- What taking bytes of a source into memory does.
use Rattle.std.specs.Prelude.{◌≡◌, ℕ, ◌≤◌, List, length, take, drop, Option, Result, IfOk, OnErr}
use Rattle.asc_model.specs.State.{State}
use Rattle.asc_outside.specs.declared.outside.Failed.{Failed}
use Rattle.asc_outside.specs.Outside.{Takes}
use Rattle.asc_shape.specs.State.{memory_at, with_memory}

-- one call of a source took bytes into the n bytes from an address on, which are `held` afterwards
pub record TakesIn (before after : Option (List ℕ)) (s t : State) (at n : ℕ) (result : Result ℕ Failed) (held : List ℕ)
    : Type 0 where
  pub size : length held ≡ n
  pub state : t ≡ with_memory s at held
  pub count : IfOk result (λ k. k ≤ n)
  pub taken : IfOk result (λ k. Takes before after (take k held))
  pub behind : IfOk result (λ k. drop k held ≡ drop k (memory_at s at n))
  pub nothing : OnErr result (after ≡ before)
  pub buffer : OnErr result (held ≡ memory_at s at n)
