-- A list of numbers as records: the first of them, and those behind.
use mathlib.Core.Path.{◌≡◌, refl, sym, ap, ◌∙◌}
use mathlib.Core.List.{List, [], ◌∷◌, ◌++◌, append-nil}
use Prim.Native.Nat.{ℕ, zero, suc, ◌*◌, ◌≤◌, ◌<◌, min}
use native.Mathlib.Omega.{arith}
use lib.ListN.{length, length-append}
use Rattle.rules.specs.declared.StepRecord.{StepRecord}
use Rattle.bench.specs.Records.{records_in, record_of}

pub records_four : (four rest : List ℕ) → length four ≡ 4 → records_in (four ++ rest) ≡ record_of four ∷ records_in rest
unfolding records_in
records_four [] rest e = absurd (omega (arith, e))
records_four (k ∷ []) rest e = absurd (omega (arith, e))
records_four (k ∷ u ∷ []) rest e = absurd (omega (arith, e))
records_four (k ∷ u ∷ v ∷ []) rest e = absurd (omega (arith, e))
records_four (k ∷ u ∷ v ∷ s ∷ []) rest e = refl
records_four (k ∷ u ∷ v ∷ s ∷ x ∷ more) rest e = absurd (omega (arith, e))

pub records_none : (xs : List ℕ) → length xs < 4 → records_in xs ≡ []
unfolding records_in
records_none [] l = refl
records_none (k ∷ []) l = refl
records_none (k ∷ u ∷ []) l = refl
records_none (k ∷ u ∷ v ∷ []) l = refl
records_none (k ∷ u ∷ v ∷ s ∷ more) l = absurd (omega (arith, l))

pub records_few : (xs : List ℕ) → 4 * length (records_in xs) ≤ length xs
unfolding records_in
records_few [] = omega arith
records_few (k ∷ []) = omega arith
records_few (k ∷ u ∷ []) = omega arith
records_few (k ∷ u ∷ v ∷ []) = omega arith
records_few (k ∷ u ∷ v ∷ s ∷ more) = omega (arith, records_few more)

-- ---- numbers of whole records, and others behind them
records_append : (k : ℕ) (xs ys : List ℕ) → length xs ≡ 4 * k → records_in (xs ++ ys) ≡ records_in xs ++ records_in ys
unfolding records_in
records_append k [] ys e = refl
records_append zero (x ∷ xs) ys e = absurd (omega (arith, e))
records_append (suc k) (x ∷ []) ys e = absurd (omega (arith, e))
records_append (suc k) (x ∷ y ∷ []) ys e = absurd (omega (arith, e))
records_append (suc k) (x ∷ y ∷ z ∷ []) ys e = absurd (omega (arith, e))
records_append (suc k) (x ∷ y ∷ z ∷ w ∷ more) ys e = ap (λ (rs : List StepRecord). record { kind = x; unit = y; other = z; slot = w } ∷ rs) (records_append k more ys (omega (arith, e)))

-- a cut after whole records, or at the end
pub records_cut : (k : ℕ) (numbers behind : List ℕ) → length numbers ≡ min (4 * k) (length (numbers ++ behind)) → records_in (numbers ++ behind) ≡ records_in numbers ++ records_in behind
unfolding records_in
records_cut k numbers [] e = ap records_in (append-nil numbers) ∙ sym (append-nil (records_in numbers))
records_cut k numbers (x ∷ more) e = records_append k numbers (x ∷ more) (omega (arith, e, length-append numbers (x ∷ more)))
