-- What a test says where its claim is refuted, and where it holds.
use mathlib.Core.Path.{◌≡◌, refl, sym}
use mathlib.Core.Bool.{Bool, true, false, ◌&&◌}
use mathlib.Core.List.{List}
use Prim.Native.Nat.{ℕ}
use native.Mathlib.Omega.{arith}
use Rattle.rules.specs.Facts.{Fact, Claims, tests}
use Rattle.rules.specs.Sound.{Sound, sound}
use Rattle.rules.specs.declared.Board.{Board}
use Rattle.rules.proofs.FactLaws.{claims, claims_tested}
use Rattle.rules.proofs.SoundLaws.{sound_claims}

pub not_true_false : (t : Bool) → (t ≡ true → ⊥) → false ≡ t
not_true_false true h = absurd (h refl)
not_true_false false h = refl

pub false_not_true : (t : Bool) → t ≡ false → t ≡ true → ⊥
false_not_true t p q = let z : ◌≡◌ {A = ℕ} 0 1 = cc in omega arith

-- the last test of a row decides where the others are true
pub and_true : (t : Bool) → t ≡ (t && true)
and_true true = refl
and_true false = refl

-- a row of facts
pub refuted : (fs : List Fact) → (Claims fs → ⊥) → false ≡ tests fs
refuted fs h = not_true_false (tests fs) (λ e. h (claims fs e))

pub passed : (fs : List Fact) → Claims fs → true ≡ tests fs
passed fs h = sym (claims_tested fs h)

pub denied : (fs : List Fact) → tests fs ≡ false → Claims fs → ⊥
denied fs e h = false_not_true (tests fs) e (claims_tested fs h)

-- a board
pub unsound : (b : Board) → (Sound b → ⊥) → false ≡ sound b
unsound b h = not_true_false (sound b) (λ e. h (sound_claims b e))
