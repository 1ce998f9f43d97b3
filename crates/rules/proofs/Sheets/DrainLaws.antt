-- Drains from a quiet board: each has at most so many steps as the bound says, fewer with units waiting, and until finished some
-- step makes it one longer.
use mathlib.Core.Path.{◌≡◌, refl, sym, ap, subst, ◌∙◌}
use mathlib.Core.Bool.{true}
use mathlib.Core.List.{List, [], ◌∷◌}
use Prim.Native.Nat.{ℕ, zero, suc, ◌+◌, ◌*◌, ◌≤◌, ◌<◌}
use native.Mathlib.Nat.{mul-le-mul_left}
use native.Mathlib.Omega.{arith}
use lib.ListN.{length}
use Rattle.std.specs.Prelude.{Ok}
use Rattle.refusals.specs.Numbers.{number_of}
use Rattle.refusals.specs.declared.Refusal.TheVariants.{SlotEmpty}
use Rattle.rules.specs.Facts.{Claims, check, fails}
use Rattle.rules.specs.Records.{is_empty, is_waiting, blank_unit, blank_slot, Idle, Active, Waiting, Kind, Empty, Work, Return, Request, Supply, Deliver, Tick, Release, UnitRecord, Slot, StepRecord}
use Rattle.rules.specs.Sheets.Sheet.{unit_at, slot_at, Sheet, Outcome}
use Rattle.rules.specs.Sheets.Sound.{units_weight, slots_weight, Sound}
use Rattle.rules.specs.Effects.{grant_fits, return_effect, deliver_effect}
use Rattle.rules.specs.Sheets.Steps.{checks_on, applied, step}
use Rattle.rules.specs.Events.{after_all, DrainOf}
use Rattle.rules.specs.Sheets.Lists.{after}
use Rattle.rules.specs.Sheets.Drains.{Quiet, DrainStep, Drain, returns, waits, wait_step, way_step, waiting_units, drain_bound, shallow_returns}
use Rattle.rules.specs.Sheets.Longest.{longest_length}
use Rattle.rules.specs.Guarantee.{Fits16, sheets, Longer, DrainsEnd}
use Rattle.rules.proofs.FactLaws.{asked}
use Rattle.rules.proofs.SumLaws.{PartAbove, sum_above}
use Rattle.rules.proofs.Sheets.SoundLaws.{below_or_not, root_or_other, unit_past_row, slot_past_row}
use Rattle.rules.proofs.Sheets.Accepted.{step_does}
use Rattle.rules.proofs.Sheets.EntryLaws.{empty_is, unit_row_as, slot_row_as}
use Rattle.rules.proofs.Sheets.ListLaws.{step_keeps_sound, list_keeps_sound}
use Rattle.rules.proofs.Sheets.FinishedLaws.{debt_finished}
use Rattle.rules.proofs.Sheets.Potential.{not_active, not_work, not_request, not_supply, drain_step_lowers, potential_less}

-- ---- a drain is at most as long as the longest (M-109), and leaves the board quiet
pub drain_length : (b : Sheet) (rs : List StepRecord) → Sound b → Quiet b → Drain b rs → (length rs ≤ longest_length b) × Quiet (after b rs)
unfolding DrainOf after_all
drain_length b [] h q z = (omega arith, q)
drain_length b (r ∷ rs) h q z =
    let lower = drain_step_lowers b h q r z.0 in
    let rest = drain_length (step b r).sheet rs (step_keeps_sound b r h) lower.quiet z.1 in
    (omega (arith, rest.0, lower.less), rest.1)

-- ---- on a quiet board with something out, some step is accepted
-- an effect of a delivered return is no refusal
return_answer : (b : Sheet) (u s debt d : ℕ) (x : UnitRecord) (y : Slot) → number_of (applied b Deliver u s (Ok (return_effect debt d x y))).answer ≡ 0
unfolding applied
return_answer b u s debt d x y = root_or_other (λ z w. number_of (applied b Deliver u s (Ok z)).answer ≡ 0) y.to 0 _ _ (λ e. refl) (λ l. refl)

module _ (b : Sheet) (h : Sound b) (q : Quiet b) where
  deliver_longer : (s : ℕ) → s < b.m → (slot_at b s).kind ≡ Return → Longer sheets b
  deliver_longer s l e =
      let checks : Claims (asked (checks_on b (way_step b (returns s)) Deliver)) = subst (λ (k : Kind). Claims (asked (check (fails (is_empty k)) SlotEmpty ∷ grant_fits b.debt k))) (sym e) (refl, tt) in
      let does : Kind → Outcome = λ k. applied b Deliver (slot_at b s).to s (deliver_effect b.debt b.delay (unit_at b (slot_at b s).to) (slot_at b s) k) in
      let done = step_does b (way_step b (returns s)) h Deliver refl (l, tt) checks ∙ ap does e in
      record {
        way = returns s;
        there = (l, e);
        fits = omega (arith, h.s1_sizes, l);
        is_step = (ap (λ (o : Outcome). number_of o.answer) done ∙ return_answer b (slot_at b s).to s b.debt b.delay (unit_at b (slot_at b s).to) (slot_at b s), refl);
      }

  -- a filled slot is a return; with slot 0 empty a waiting unit can tick or be released
  slot_longer : (s : ℕ) → s < b.m → (is_empty (slot_at b s).kind ≡ true → Longer sheets b) → Longer sheets b
  slot_longer s l f =
      elim (slot_at b s).kind as (λ k. (slot_at b s).kind ≡ k → Longer sheets b) [
        | Empty ↦ λ e. f (ap is_empty e)
        | Work ↦ λ e. absurd (not_work b h q s e)
        | Return ↦ deliver_longer s l
        | Request ↦ λ e. absurd (not_request b h q s l e)
        | Supply ↦ λ e. absurd (not_supply b h q s l e)
      ] refl

  waiting_longer : (i : ℕ) → i < b.n → (unit_at b i).state ≡ Waiting → is_empty (slot_at b 0).kind ≡ true → Longer sheets b
  unfolding applied
  waiting_longer i l e free = record { way = waits i; there = (l, e, empty_is _ free); fits = fits (unit_at b i).countdown; is_step = steps_on (unit_at b i).countdown refl }
    where
      fits : (k : ℕ) → Fits16 (wait_step i k)
      fits = elim [ zero ↦ omega (arith, h.s1_sizes, l) | suc k ↦ omega (arith, h.s1_sizes, l) ]

      steps_on : (k : ℕ) → (unit_at b i).countdown ≡ k → DrainStep b (wait_step i k)
      steps_on zero z = (ap (λ (o : Outcome). number_of o.answer) (step_does b (wait_step i 0) h Release refl (l, (omega (arith, h.s1_sizes), tt)) (ap is_waiting e, (z, (free, tt)))), refl)
      steps_on (suc k) z = (ap (λ (o : Outcome). number_of o.answer) (step_does b (wait_step i (suc k)) h Tick refl (l, tt) (ap is_waiting e, (omega (arith, z), tt))), refl)

  -- a unit with weight is waiting, since none is active
  unit_longer : (i : ℕ) → 1 ≤ (unit_at b i).weight → is_empty (slot_at b 0).kind ≡ true → Longer sheets b
  unit_longer i w free = below_or_not i b.n by_state (λ l. absurd (omega (arith, w, unit_past_row b h i l)))
    where
      by_state : i < b.n → Longer sheets b
      by_state l =
          elim (unit_at b i).state as (λ k. (unit_at b i).state ≡ k → Longer sheets b) [
            | Idle ↦ λ e. absurd (omega (arith, w, unit_row_as b h i Idle l e))
            | Active ↦ λ e. absurd (not_active b h q i e)
            | Waiting ↦ λ e. waiting_longer i l e free
          ] refl

  some_longer : 1 ≤ b.debt → Longer sheets b
  unfolding units_weight slots_weight
  some_longer d = slot_longer 0 (omega (arith, h.s1_sizes)) (λ free. by_units free (units_weight b.units) refl)
    where
      by_units : is_empty (slot_at b 0).kind ≡ true → (k : ℕ) → units_weight b.units ≡ k → Longer sheets b
      by_units free zero e =
          let part : PartAbove (λ j y. y.weight) b.slots blank_slot = sum_above (λ j y. y.weight) b.slots blank_slot (omega (arith, d, e, h.s5_s6_debt)) in
          below_or_not part.place b.m
          (λ l. slot_longer part.place l (λ z. absurd (omega (arith, part.above, slot_row_as b h part.place Empty l (empty_is _ z)))))
          (λ l. absurd (omega (arith, part.above, slot_past_row b h part.place l)))
      by_units free (suc k) e =
          let part : PartAbove (λ i u. u.weight) b.units blank_unit = sum_above (λ i u. u.weight) b.units blank_unit (omega (arith, e)) in
          unit_longer part.place part.above free

pub quiet_drains : (b : Sheet) → Sound b → Quiet b → DrainsEnd sheets b
quiet_drains b h q = record {
  bounded = λ rs z. omega (arith, (drain_length b rs h q z).0, potential_less b h);
  unstuck = λ rs z n.
      let owes : (after b rs).debt ≡ 0 → ⊥ = λ e. n (debt_finished (after b rs) (list_keeps_sound b rs h) e) in
      some_longer (after b rs) (list_keeps_sound b rs h) (drain_length b rs h q z).1 (omega (arith, owes));
}

pub below_bound : (b : Sheet) → Sound b → Quiet b → (rs : List StepRecord) → Drain b rs
    → (length rs + (waiting_units b + shallow_returns b * (b.delay + 2)) ≤ drain_bound b) × (1 ≤ waiting_units b + shallow_returns b → length rs < drain_bound b)
below_bound b h q rs z =
    let less : length rs + (waiting_units b + shallow_returns b * (b.delay + 2)) ≤ drain_bound b = omega (arith, (drain_length b rs h q z).0, potential_less b h) in
    let one : 1 ≤ b.delay + 2 = omega arith in
    (less, λ k. omega (arith, less, mul-le-mul_left (shallow_returns b) one, k))
