-- Whether some element of a list is such, by its elements; a board that is not busy is quiet.
use mathlib.Core.Path.{◌≡◌, refl, sym, ap, ◌∙◌}
use mathlib.Core.Bool.{Bool, true, false, not, ◌||◌}
use mathlib.Core.List.{List}
use Prim.Native.Nat.{ℕ, suc, ◌≤◌, ◌<◌}
use native.Mathlib.Omega.{arith}
use lib.ListN.{length, get_or, get_or-eq_default}
use lib.Dec.{eqb}
use borrow.Author.Tests.{ne_eqb}
use Rattle.rules.specs.Facts.{one_if, sum_of}
use Rattle.rules.specs.Records.{is_active, is_work, blank_unit, blank_slot, UnitRecord, Slot, Board}
use Rattle.rules.specs.Busy.{how_many, some, is_busy}
use Rattle.rules.specs.Drains.{Quiet}
use Rattle.rules.proofs.FactLaws.{true_not_false, true_or_not}
use Rattle.rules.proofs.SumLaws.{sum_none, sum_taken, sum_front}
use Rattle.rules.proofs.Sheets.SoundLaws.{below_or_not}

pub none_such : {A : Type 0} (is : A → Bool) (xs : List A) (d : A) → ((i : ℕ) → i < length xs → is (get_or xs i d) ≡ false) → some is xs ≡ false
unfolding how_many
none_such is xs d h = ap (λ (k : ℕ). not (eqb k 0)) (sum_none (λ i x. one_if (is x)) xs d (λ i l. ap one_if (h i l)))

pub some_such : {A : Type 0} (is : A → Bool) (xs : List A) (d : A) (i : ℕ) → i < length xs → is (get_or xs i d) ≡ true → some is xs ≡ true
unfolding how_many
some_such is xs d i l e =
    let one : one_if (is (get_or xs i d)) ≡ 1 = ap one_if e in
    let above : 1 ≤ sum_of (λ j x. one_if (is x)) xs = omega (arith, one, sum_taken (λ j x. one_if (is x)) xs i d l, sum_front (λ j x. one_if (is x)) xs (suc i)) in
    ap not (ne_eqb (sum_of (λ j x. one_if (is x)) xs) 0 (λ z. omega (arith, above, z)))

-- where none is such, no entry is, one past the end neither
pub not_such : {A : Type 0} (is : A → Bool) (xs : List A) (d : A) → is d ≡ false → some is xs ≡ false → (i : ℕ) → is (get_or xs i d) ≡ false
not_such is xs d n e i =
    below_or_not i (length xs) (λ l. true_or_not (is (get_or xs i d)) (λ q. absurd (true_not_false (sym (some_such is xs d i l q) ∙ e))) (λ q. q)) (λ l. ap is (get_or-eq_default xs d l) ∙ n)

pub busy_by : (b : Board) {s t : Bool} → some (λ u. is_active u.state) b.units ≡ s → some (λ y. is_work y.kind) b.slots ≡ t → is_busy b ≡ (s || t)
unfolding is_busy
busy_by b p q = λ i. p i || q i

neither : (s t : Bool) → s || t ≡ false → (s ≡ false) × (t ≡ false)
neither true t e = absurd (true_not_false e)
neither false t e = (refl, e)

pub quiet_told : (b : Board) → is_busy b ≡ false → Quiet b
unfolding is_busy
quiet_told b e =
    let none = neither (some (λ (u : UnitRecord). is_active u.state) b.units) (some (λ (y : Slot). is_work y.kind) b.slots) e in
    record {
      none_active = not_such (λ (u : UnitRecord). is_active u.state) b.units blank_unit refl none.0;
      no_work = not_such (λ (y : Slot). is_work y.kind) b.slots blank_slot refl none.1;
    }
