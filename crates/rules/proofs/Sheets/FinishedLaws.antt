-- Finished is told exactly of the sound sheets on which every unit is idle and every slot empty.
use mathlib.Core.Path.{◌≡◌, refl, sym, ap, ◌∙◌}
use mathlib.Core.Bool.{Bool, true, cond}
use mathlib.Core.Logic.{◌↔◌}
use Prim.Native.Nat.{ℕ, ◌<◌}
use native.Mathlib.Omega.{arith}
use lib.Dec.{eqb}
use borrow.Author.Tests.{eqb-true, eq-eqb}
use Rattle.refusals.specs.declared.Refusal.{Refusal}
use Rattle.std.specs.Prelude.{Result, Ok}
use Rattle.rules.specs.Facts.{one_if}
use Rattle.rules.specs.Sheets.Sheet.{unit_at, slot_at, Sheet}
use Rattle.rules.specs.Records.{blank_unit, blank_slot, Idle, Kind, Empty, Work, Return, Request, Supply, Verdict, Working, Finished}
use Rattle.rules.specs.Sheets.Sound.{units_weight, slots_weight, Sound}
use Rattle.rules.specs.Sheets.Finished.{told_from, verdict, Complete}
use Rattle.rules.proofs.FactLaws.{by_test}
use Rattle.rules.proofs.SumLaws.{sum_none}
use Rattle.rules.proofs.Sheets.SoundLaws.{sound_tested, below_or_not, unit_past_row, slot_past_row, weights_fit}
use Rattle.rules.proofs.Sheets.EntryLaws.{idle_is, empty_is, unit_row_as, slot_row_as, pending_as, suspended_active, pending_suspended, idle_at_zero}

-- the verdict on a sound sheet is told from the debt
pub verdict_sound : (b : Sheet) → Sound b → verdict b ≡ Ok (told_from b.debt)
unfolding verdict
verdict_sound b h = rw (sound_tested b h)

pub finished_debt : (b : Sheet) → Sound b → verdict b ≡ Ok Finished → b.debt ≡ 0
finished_debt b h e =
    eqb-true b.debt 0 (by_test (λ t. ◌≡◌ {A = Result Verdict Refusal} (Ok (cond t Finished Working)) (Ok Finished) → t ≡ true) (eqb b.debt 0) (λ q f. refl) (λ q f. cc) (sym (verdict_sound b h) ∙ e))

pub debt_finished : (b : Sheet) → Sound b → b.debt ≡ 0 → verdict b ≡ Ok Finished
debt_finished b h e = verdict_sound b h ∙ ap (λ (t : Bool). Ok (cond t Finished Working)) (eq-eqb b.debt 0 e)

module _ (b : Sheet) (h : Sound b) where
  -- a slot with no weight that is not empty is a request, whose sender is suspended, so active
  empty_in_use : b.debt ≡ 0 → (j : ℕ) → j < b.m → (slot_at b j).kind ≡ Empty
  empty_in_use e j l = by_kind (slot_at b j).kind refl
    where
      none : (slot_at b j).weight ≡ 0
      none = omega (arith, weights_fit b h 0 j, e)

      by_kind : (k : Kind) → (slot_at b j).kind ≡ k → (slot_at b j).kind ≡ Empty
      by_kind Empty q = q
      by_kind Work q = absurd (omega (arith, slot_row_as b h j Work l q, none))
      by_kind Return q = absurd (omega (arith, slot_row_as b h j Return l q, none))
      by_kind Request q =
          let row = slot_row_as b h j Request l q in
          let active = suspended_active b h (slot_at b j).from row.0 (pending_suspended b h j (slot_at b j).from row.0 (pending_as _ (slot_at b j) Request q ∙ ap one_if (eq-eqb (slot_at b j).from (slot_at b j).from refl))) in
          let idle = idle_at_zero b h e (slot_at b j).from row.0 in
          cc
      by_kind Supply q = absurd (omega (arith, slot_row_as b h j Supply l q, none))

  complete_of : b.debt ≡ 0 → Complete b
  complete_of e = record {
    idle = λ i. below_or_not i b.n (idle_at_zero b h e i) (λ l. idle_is (unit_at b i).state (unit_past_row b h i l).0);
    empty = λ j. below_or_not j b.m (empty_in_use e j) (λ l. empty_is (slot_at b j).kind (slot_past_row b h j l).0);
  }

  -- idle units and empty slots have no weight, so nothing is out
  debt_of : Complete b → b.debt ≡ 0
  unfolding units_weight slots_weight
  debt_of c = omega (
    arith,
    sum_none (λ i u. u.weight) b.units blank_unit (λ i l. below_or_not i b.n (λ p. (unit_row_as b h i Idle p (c.idle i)).0) (λ p. (unit_past_row b h i p).1.0)),
    sum_none (λ j y. y.weight) b.slots blank_slot (λ j l. below_or_not j b.m (λ p. (slot_row_as b h j Empty p (c.empty j)).1.1.0) (λ p. (slot_past_row b h j p).1.1.1.0)),
    h.s5_s6_debt,
  )

  pub finished_complete : (verdict b ≡ Ok Finished) ↔ Complete b
  finished_complete = (λ e. complete_of (finished_debt b h e), λ c. debt_finished b h (debt_of c))
