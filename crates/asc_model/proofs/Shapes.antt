-- Shapes that are told to be the same.
use Rattle.std.proofs.Common.{◌≡◌, ℕ, Bool, true, ◌&&◌, ◌==◌, refl, ap, ◌∙◌}
use Rattle.std.proofs.lemmas.Bool.{and_parts, eqb-true, eq-eqb}
use Rattle.asc_model.specs.declared.version.Version.{Version}
use Rattle.asc_model.specs.declared.version.Version.TheVariants.{One, Two}
use Rattle.asc_model.specs.Shape.{Shape, is_same_version, is_same_shape}

is_same_version-true : (a b : Version) → is_same_version a b ≡ true → a ≡ b
is_same_version-true One One h = refl
is_same_version-true One Two h = absurd (cc)
is_same_version-true Two One h = absurd (cc)
is_same_version-true Two Two h = refl

is_same_version-refl : (a : Version) → is_same_version a a ≡ true
is_same_version-refl One = refl
is_same_version-refl Two = refl

-- shapes that are told to be the same are
pub is_same_shape-true : (a b : Shape) → is_same_shape a b ≡ true → a ≡ b
is_same_shape-true a b h =
    let parts = and_parts _ _ h in
    let first = and_parts _ _ parts.0 in
    let base = eqb-true a.base b.base first.0 in
    let size = eqb-true a.size b.size first.1 in
    let version = is_same_version-true a.version b.version parts.1 in
    ap (λ (n : ℕ). let x : Shape = record { base = n; size = a.size; version = a.version } in x) base
    ∙ ap (λ (n : ℕ). let x : Shape = record { base = b.base; size = n; version = a.version } in x) size
    ∙ ap (λ (v : Version). let x : Shape = record { base = b.base; size = b.size; version = v } in x) version

-- a shape is told to be itself
pub is_same_shape-refl : (a : Shape) → is_same_shape a a ≡ true
is_same_shape-refl a =
    ap (λ (x : Bool). x && (a.size == a.size) && is_same_version a.version a.version) (eq-eqb a.base a.base refl)
    ∙ ap (λ (x : Bool). true && x && is_same_version a.version a.version) (eq-eqb a.size a.size refl)
    ∙ is_same_version-refl a.version

pub is_same_shape-same : (a b : Shape) → a ≡ b → is_same_shape a b ≡ true
is_same_shape-same a b e = ap (λ (x : Shape). is_same_shape x b) e ∙ is_same_shape-refl b
