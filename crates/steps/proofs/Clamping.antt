-- Clamped places do no harm on a sound sheet: where the place checks pass, the clamp is the identity; where one fails, the records are not used.
use mathlib.Core.Path.{◌≡◌, sym, ap, ◌∙◌}
use Prim.Native.Nat.{ℕ, min, ◌≤◌}
use native.Mathlib.Omega.{arith}
use Rattle.refusals.specs.declared.Refusal.{Refusal}
use Rattle.std.specs.Prelude.{Result, Err}
use Rattle.rules.specs.Facts.{Claims, judge}
use Rattle.rules.specs.Sheets.Sheet.{Sheet, unit_at, slot_at, parent_at}
use Rattle.rules.specs.Sheets.Sound.{Sound}
use Rattle.rules.specs.Letters.{unit_by, slot_of}
use Rattle.rules.specs.Sheets.Steps.{unit_of, made_at, places_on, effect_by, applied}
use Rattle.rules.specs.Effects.{record_rule}
use Rattle.rules.specs.declared.StepRecord.{StepRecord}
use Rattle.rules.specs.declared.Action.{Action}
use Rattle.rules.specs.declared.Action.TheVariants.{Unknown, Start, Send, Request as RequestStep, Deliver, Rest, Tick, Release, Move}
use Rattle.rules.specs.declared.Effect.{Effect}
use Rattle.rules.proofs.FactLaws.{asked, fact_shown}
use Rattle.rules.proofs.Sheets.EntryLaws.{receiver_in_use}
use Rattle.rules.proofs.JudgeLaws.{judge_same}
use Rattle.rules.proofs.Sheets.Changes.{judged_applied}

-- the rule on the records at a unit and a slot
abbrev pub rule_at : Sheet → StepRecord → Action → ℕ → ℕ → Result Effect Refusal
rule_at b r a u s = record_rule b.debt b.delay r (unit_at b u) (parent_at b u) (slot_at b s) (made_at b u) a

module _ (b : Sheet) (h : Sound b) where
  -- a step that passes its place checks has its unit and its slot within the arrays
  within : (r : StepRecord) (a : Action) → Claims (asked (places_on b r a)) → (unit_of b r a ≤ 63) × (slot_of r a ≤ 255)
  within r Unknown p = omega arith
  within r Start p = omega arith
  within r Send p = omega arith
  within r RequestStep p = omega arith
  within r Deliver p = omega (arith, receiver_in_use b h r.slot (fact_shown 14 (places_on b r Deliver) p))
  within r Rest p = omega arith
  within r Tick p = omega arith
  within r Release p = omega arith
  within r Move p = omega arith

  -- the rule at clamped places, applied there, is the step: a refused effect is applied alike at any places
  module _ (r : StepRecord) (a : Action) (u s : ℕ) (slot_is : s ≡ min (slot_of r a) 255) (unit-at : u ≡ min (unit_by r (slot_at b s).to a) 63) where
    same_slot : Claims (asked (places_on b r a)) → s ≡ slot_of r a
    same_slot p = omega (arith, within r a p, slot_is)

    same_unit : Claims (asked (places_on b r a)) → u ≡ unit_of b r a
    same_unit p =
        let e : unit_by r (slot_at b s).to a ≡ unit_of b r a = ap (λ (j : ℕ). unit_by r (slot_at b j).to a) (same_slot p) in
        omega (arith, within r a p, unit-at, e)

    pub clamped_step : applied b a u s (judge Err (places_on b r a) (rule_at b r a u s)) ≡ applied b a (unit_of b r a) (slot_of r a) (effect_by b r a)
    clamped_step =
        judged_applied b a u s (places_on b r a) (rule_at b r a u s)
        ∙ judge_same (λ j. record { answer = Err j; sheet = b }) (places_on b r a) (applied b a u s (rule_at b r a u s)) (applied b a (unit_of b r a) (slot_of r a) (rule_at b r a (unit_of b r a) (slot_of r a)))
        (λ p. ap (λ (i : ℕ). applied b a i s (rule_at b r a i s)) (same_unit p) ∙ ap (λ (j : ℕ). applied b a (unit_of b r a) j (rule_at b r a (unit_of b r a) j)) (same_slot p))
        ∙ sym (judged_applied b a (unit_of b r a) (slot_of r a) (places_on b r a) (rule_at b r a (unit_of b r a) (slot_of r a)))
