-- Proofs by the two values of a test.
use mathlib.Core.Path.{◌≡◌, refl}
use mathlib.Core.Bool.{Bool, true, false, cond}

pub by_test : {X : Type 0} (t : Bool) → (t ≡ true → X) → (t ≡ false → X) → X
by_test true f g = f refl
by_test false f g = g refl

pub by_bool : (P : Bool → Type 0) (t : Bool) → (t ≡ true → P true) → (t ≡ false → P false) → P t
by_bool P true f g = f refl
by_bool P false f g = g refl

-- of what a test picks
pub by_cond : {A : Type 0} (P : A → Type 0) (t : Bool) {x y : A} → (t ≡ true → P x) → (t ≡ false → P y) → P (cond t x y)
by_cond P true f g = f refl
by_cond P false f g = g refl

-- where it picks among the same but for the second
pub cond_second : {A : Type 0} (t : Bool) (x : A) {y z : A} → (t ≡ false → y ≡ z) → cond t x y ≡ cond t x z
cond_second true x f = refl
cond_second false x f = f refl
