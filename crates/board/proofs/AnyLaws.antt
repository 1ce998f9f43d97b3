-- Whether some element of a list is such, as `any` answers.
use mathlib.Core.Path.{◌≡◌, refl, sym, ap}
use mathlib.Core.Bool.{Bool, true, false, not, ◌||◌}
use mathlib.Core.List.{List, [], ◌∷◌}
use Prim.Native.Nat.{ℕ, ◌+◌}
use native.Mathlib.Omega.{arith}
use lib.Dec.{eqb}
use borrow.Author.Tests.{ne_eqb}
use Rattle.std.proofs.Common.{zero-add}
use Rattle.std.specs.List.{list_any}
use Rattle.rules.specs.Facts.{one_if, sum_of}
use Rattle.rules.specs.Busy.{how_many, some}

-- one more element in front of k such
one_more : (t rest : Bool) (k : ℕ) → rest ≡ not (eqb k 0) → t || rest ≡ not (eqb (one_if t + k) 0)
one_more true rest k e = ap not (sym (ne_eqb (1 + k) 0 (λ z. omega arith)))
one_more false rest k e = rw zero-add e

pub some_any : {A : Type 0} (is : A → Bool) (xs : List A) → list_any is xs ≡ some is xs
unfolding how_many sum_of
some_any is [] = refl
some_any is (x ∷ xs) = one_more (is x) (list_any is xs) (how_many is xs) (some_any is xs)
