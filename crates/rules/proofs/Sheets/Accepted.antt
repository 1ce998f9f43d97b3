-- What an accepted step tells: the sheet was sound, every check of the step's bracket held, and the sheet after it.
use mathlib.Core.Path.{◌≡◌, sym, ap, subst, ◌∙◌}
use mathlib.Core.List.{List, [], ◌∷◌, ◌++◌}
use Prim.Native.Nat.{ℕ, ◌+◌, ◌≤◌}
use native.Mathlib.Omega.{arith}
use Rattle.refusals.proofs.NumberLaws.{refused_above_zero}
use Rattle.refusals.specs.declared.Refusal.{Refusal}
use Rattle.std.specs.Prelude.{Result, Ok, Err}
use Rattle.refusals.specs.Numbers.{number_of}
use Rattle.refusals.specs.declared.Refusal.TheVariants.{NotSound, SlotEmpty}
use Rattle.rules.specs.Facts.{Claim, Claims, Check, check, fails}
use Rattle.rules.specs.Records.{is_empty, grant, ceiling, Kind, Empty, Work, Return, Request, Supply, Action, Unknown, Start, Send, RequestStep, Deliver, Rest, Tick, Release, Move, Effect, UnitRecord, Slot, StepRecord}
use Rattle.rules.specs.Sheets.Sheet.{parent_at, unit_at, slot_at, Sheet, Outcome}
use Rattle.rules.specs.Sheets.Sound.{Sound, sound}
use Rattle.rules.specs.Actions.{action_of}
use Rattle.rules.specs.Letters.{Limit, units_in_use, slots_in_use, own_unit, Letter, letters, read, place_check, checks_of, place_checks, slot_of}
use Rattle.rules.specs.Sheets.Steps.{unit_of, made_at, places_on, checks_on, done_on, effect_by, effect, applied, sound_step, step}
use Rattle.rules.specs.Effects.{grant_fits, record_checks, record_rule}
use Rattle.rules.proofs.JudgeLaws.{Judged, passed, failed, judged, first_passed}
use Rattle.rules.proofs.FactLaws.{asked, judge_passed, claims_append, fact_by, fact_shown}
use Rattle.rules.proofs.Sheets.SoundLaws.{sound_claims, sound_tested}

-- ---- what an accepted step tells, by its action
pub record AcceptedAs (b : Sheet) (r : StepRecord) (a : Action) : Type 0 where
  pub named : action_of r.kind ≡ a
  pub places : Claims (asked (places_on b r a))
  pub records : Claims (asked (checks_on b r a))
  pub gives : step b r ≡ applied b a (unit_of b r a) (slot_of r a) (done_on b r a)

-- the fact of its bracket that a number refuses by
pub shown : {b : Sheet} {r : StepRecord} {a : Action} (k : ℕ) (c : AcceptedAs b r a) → Claim (fact_by k (places_on b r a ++ checks_on b r a))
shown {b} {r} {a} k c = fact_shown k (places_on b r a ++ checks_on b r a) (claims_append (places_on b r a) (checks_on b r a) c.places c.records)

-- a request that was delivered left the debt within its most
pub shown_grant : {b : Sheet} {r : StepRecord} → AcceptedAs b r Deliver → (slot_at b r.slot).kind ≡ Request → b.debt + grant ≤ ceiling
shown_grant {b} {r} c e = subst (λ (k : Kind). Claim (fact_by 36 (check (fails (is_empty k)) SlotEmpty ∷ grant_fits b.debt k))) e (shown 36 c)

-- a step on a sound sheet is the step without the test; on another sheet it is 30
pub step_sound : (b : Sheet) (r : StepRecord) → Sound b → step b r ≡ sound_step b r
unfolding step
step_sound b r h = rw (sound_tested b h)

pub accepted_sound : (b : Sheet) (r : StepRecord) → number_of (step b r).answer ≡ 0 → Sound b
unfolding step
accepted_sound b r e = sound_claims b (first_passed (λ (o : Outcome). number_of o.answer) (λ k. record { answer = Err k; sheet = b }) (sound b) NotSound (sound_step b r) (λ z. omega (arith, z)) e)

module _ (b : Sheet) (r : StepRecord) (h : Sound b) (a : Action) (named : action_of r.kind ≡ a) where
  abbrev u : ℕ
  u = unit_of b r a

  abbrev s : ℕ
  s = slot_of r a

  abbrev rule : Result Effect Refusal
  rule = record_rule b.debt b.delay r (unit_at b u) (parent_at b u) (slot_at b s) (made_at b u) a

  refused_answer : (e : Result Effect Refusal) (k : Refusal) → e ≡ Err k → number_of (applied b a u s e).answer ≡ 0 → ⊥
  unfolding applied
  refused_answer e k q z = refused_above_zero k (rw q at z)

  by_action : step b r ≡ applied b a u s (effect_by b r a)
  unfolding sound_step effect
  by_action = step_sound b r h ∙ ap (λ (c : Action). applied b c (unit_of b r c) (slot_of r c) (effect_by b r c)) named

  -- where the whole bracket holds, the step does what its effect says
  pub step_does : Claims (asked (places_on b r a)) → Claims (asked (checks_on b r a)) → step b r ≡ applied b a u s (done_on b r a)
  unfolding record_rule
  step_does p q = by_action ∙ ap (λ (x : Result Effect Refusal). applied b a u s x) (judge_passed Err (places_on b r a) rule p ∙ judge_passed Err (checks_on b r a) (done_on b r a) q)

  pub accepted_as : number_of (step b r).answer ≡ 0 → AcceptedAs b r a
  unfolding record_rule
  accepted_as e = by_places (judged Err (places_on b r a) rule)
    where
      zero_answer : number_of (applied b a u s (effect_by b r a)).answer ≡ 0
      zero_answer = sym (ap (λ (o : Outcome). number_of o.answer) by_action) ∙ e

      by_records : Claims (asked (places_on b r a)) → Judged Err (checks_on b r a) (done_on b r a) → AcceptedAs b r a
      by_records p (passed q) = record { named = named; places = p; records = q; gives = step_does p q }
      by_records p (failed k q) = absurd (refused_answer (effect_by b r a) k (judge_passed Err (places_on b r a) rule p ∙ q) zero_answer)

      by_places : Judged Err (places_on b r a) rule → AcceptedAs b r a
      by_places (passed p) = by_records p (judged Err (checks_on b r a) (done_on b r a))
      by_places (failed k q) = absurd (refused_answer (effect_by b r a) k q zero_answer)
