-- The model's words for what the code calls an effect.
use Rattle.std.specs.Prelude.{ℕ, min, max, bit_and, bit_or, bit_xor}
use Rattle.asc_model.specs.Arithmetic.{◌+w◌, lesser, greater}
use Rattle.asc_model.specs.Effect.{Effect, Set, Load, Store, Jump, LoadReserved, StoreConditional, Modify, GuestCall, Breakpoint}
use Rattle.asc_step.specs.declared.effect.Size.{Size}
use Rattle.asc_step.specs.declared.effect.Size.TheVariants.{Byte, Half, Word}
use Rattle.asc_step.specs.declared.effect.Amo.{Amo}
use Rattle.asc_step.specs.declared.effect.Amo.TheVariants as amos
use Rattle.asc_step.specs.declared.effect.Effect as code
use Rattle.asc_step.specs.declared.effect.Effect.TheVariants as codes

abbrev pub bytes_in : Size → ℕ
bytes_in Byte = 1
bytes_in Half = 2
bytes_in Word = 4

-- what an atomic makes of the old word and a value
abbrev pub changed : Amo → ℕ → ℕ → ℕ
changed amos.Swap old value = value
changed amos.Add old value = old +w value
changed amos.Xor old value = bit_xor old value
changed amos.And old value = bit_and old value
changed amos.Or old value = bit_or old value
changed amos.Min old value = lesser old value
changed amos.Max old value = greater old value
changed amos.MinUnsigned old value = min old value
changed amos.MaxUnsigned old value = max old value

-- the effect that the code's word for it means
abbrev pub model_effect : code.Effect → Effect
model_effect (codes.Set value) = Set value
model_effect (codes.Load size signed address) = Load (bytes_in size) signed address
model_effect (codes.Store size address value) = Store (bytes_in size) address value
model_effect (codes.Jump target) = Jump target
model_effect (codes.LoadReserved address) = LoadReserved address
model_effect (codes.StoreConditional address value) = StoreConditional address value
model_effect (codes.Modify amo address value) = Modify address (λ old. changed amo old value)
model_effect codes.GuestCall = GuestCall
model_effect codes.Breakpoint = Breakpoint
