-- A step's kind by its number.
use mathlib.Core.Path.{◌≡◌, refl, sym, ◌∙◌}
use Prim.Native.Nat.{ℕ, zero, suc, ◌≤◌}
use native.Mathlib.Omega.{arith}
use lib.Dec.{eqb}
use borrow.Author.Tests.{ne_eqb}
use Rattle.rules.specs.Actions.{kinds, action_of, kind_of}

-- a number is that of a kind exactly where its action's number is
pub kind_told : (k j : ℕ) → (1 ≤ j) × (j ≤ kinds) → eqb (kind_of (action_of k)) j ≡ eqb k j
kind_told zero j l = refl
kind_told (suc zero) j l = refl
kind_told (suc (suc zero)) j l = refl
kind_told (suc (suc (suc zero))) j l = refl
kind_told (suc (suc (suc (suc zero)))) j l = refl
kind_told (suc (suc (suc (suc (suc zero))))) j l = refl
kind_told (suc (suc (suc (suc (suc (suc zero)))))) j l = refl
kind_told (suc (suc (suc (suc (suc (suc (suc zero))))))) j l = refl
kind_told (suc (suc (suc (suc (suc (suc (suc (suc zero)))))))) j l = refl
kind_told (suc (suc (suc (suc (suc (suc (suc (suc (suc k))))))))) j l = ne_eqb 0 j (λ e. omega (arith, l, e)) ∙ sym (ne_eqb (suc (suc (suc (suc (suc (suc (suc (suc (suc k))))))))) j (λ e. omega (arith, l, e)))
