-- Rows of facts of a slot, by its kind.
use mathlib.Core.Path.{◌≡◌, refl, sym, subst}
use mathlib.Core.Bool.{Bool, true, false, cond}
use mathlib.Core.List.{List, ◌∷◌}
use Prim.Native.Nat.{ℕ}
use lib.Dec.{ltb}
use Rattle.rules.specs.Facts.{Fact, at_most, holds, tests}
use Rattle.rules.specs.Records.{is_empty}
use Rattle.rules.specs.declared.Kind.{Kind}
use Rattle.rules.specs.declared.Kind.TheVariants.{Empty, Work, Return, Request, Supply}
use Rattle.rules.specs.declared.Slot.{Slot}
use Rattle.rules.specs.Sheets.Sheet.{Sheet, slot_at}
use Rattle.rules.specs.Sheets.Sound.{kind_row, slot_row, slot_row_on}
use Rattle.board.proofs.TestLaws.{false_not_true}

-- in the arm of its kind
pub kind_arm : (n : ℕ) (y : Slot) (k : Kind) (r : Bool) → y.kind ≡ k → r ≡ tests (kind_row n y k) → r ≡ tests (kind_row n y y.kind)
kind_arm n y k r e = subst (λ (k' : Kind). r ≡ tests (kind_row n y k')) (sym e)

-- what is asked of slot j where `left` is left of the debt, as it is tested
abbrev pub slot_facts : Sheet → ℕ → ℕ → List Fact
slot_facts b left j = at_most (slot_at b j).weight left ∷ slot_row_on b j (slot_at b j)

-- an empty slot is asked the same in use and past the slots in use
pub empty_row : (n m j : ℕ) (y : Slot) → is_empty y.kind ≡ true → tests (kind_row n y Empty) ≡ tests (slot_row n m j y)
empty_row n m j y = by_kind y.kind (ltb j m)
  where
    by_kind : (k : Kind) (t : Bool) → is_empty k ≡ true → tests (kind_row n y Empty) ≡ tests (cond t (kind_row n y k) (holds (is_empty k) ∷ kind_row n y Empty))
    by_kind Empty true e = refl
    by_kind Empty false e = refl
    by_kind Work t e = absurd (false_not_true false refl e)
    by_kind Return t e = absurd (false_not_true false refl e)
    by_kind Request t e = absurd (false_not_true false refl e)
    by_kind Supply t e = absurd (false_not_true false refl e)
