-- Lists of steps on a sound board: it stays sound, and the debt is what starts and grants brought in less what unit 0 took back.
use mathlib.Core.Path.{◌≡◌, refl, sym, ap, subst, ◌∙◌}
use mathlib.Core.Bool.{cond}
use mathlib.Core.List.{List}
use Prim.Native.Nat.{ℕ, ◌+◌, ◌*◌}
use native.Mathlib.Omega.{arith}
use Rattle.refusals.specs.declared.Refusal.{Refusal}
use Rattle.std.specs.Prelude.{Result, Ok, Err}
use Rattle.refusals.specs.Numbers.{number_of}
use Rattle.refusals.specs.declared.Refusal.TheVariants.{NotSound}
use Rattle.rules.specs.Facts.{one_if}
use Rattle.rules.specs.Records.{is_return, is_request, grant, Kind, Empty, Work, Return, Request, Supply, Action, Unknown, Start, Send, RequestStep, Deliver, Rest, Tick, Release, Move, Effect, OnUnit, OnSlot, OnBoth, OnParent, Slot, StepRecord}
use Rattle.rules.specs.Sheets.Sheet.{unit_at, slot_at, Sheet, Outcome}
use Rattle.rules.specs.Sheets.Sound.{Sound, sound}
use Rattle.rules.specs.Actions.{action_of}
use Rattle.rules.specs.Letters.{slot_of}
use Rattle.rules.specs.Sheets.Steps.{unit_of, done_on, effect, applied, sound_step, step}
use Rattle.rules.specs.Effects.{deliver_effect}
use Rattle.rules.specs.Sheets.Lists.{steps, after, tally, start_by, start_count, grant_by, grant_count, taken_at, taken_by, taken_count}
use Rattle.rules.proofs.FactLaws.{by_test}
use Rattle.rules.proofs.EventLaws.{accepted_or_not, list_keeps, list_account}
use Rattle.rules.proofs.Sheets.SoundLaws.{root_or_other, weights_fit}
use Rattle.rules.proofs.Sheets.Changes.{refused_applied}
use Rattle.rules.proofs.Sheets.Accepted.{AcceptedAs, shown, accepted_as}
use Rattle.rules.proofs.Sheets.StepFits.{accepted_keeps_sound}

-- ---- a refused step keeps the board
applied_kept : (b : Sheet) (a : Action) (u s : ℕ) (e : Result Effect Refusal) → (number_of (applied b a u s e).answer ≡ 0 → ⊥) → (applied b a u s e).sheet ≡ b
unfolding applied
applied_kept b a u s (Err k) n = ap (λ (o : Outcome). o.sheet) (refused_applied b a u s k)
applied_kept b a u s (Ok (OnUnit x debt)) n = absurd (n refl)
applied_kept b a u s (Ok (OnSlot y debt)) n = absurd (n refl)
applied_kept b a u s (Ok (OnBoth x y debt)) n = absurd (n refl)
applied_kept b a u s (Ok (OnParent p)) n = absurd (n refl)

pub refused_keeps : (b : Sheet) (r : StepRecord) → (number_of (step b r).answer ≡ 0 → ⊥) → (step b r).sheet ≡ b
unfolding step sound_step
refused_keeps b r n =
    by_test (λ t. let o : Outcome = cond t (sound_step b r) (record { answer = Err NotSound; sheet = b }) in (number_of o.answer ≡ 0 → ⊥) → o.sheet ≡ b) (sound b)
    (λ e. applied_kept b (action_of r.kind) (unit_of b r (action_of r.kind)) (slot_of r (action_of r.kind)) (effect b r)) (λ e q. refl) n

-- ---- soundness
pub step_keeps_sound : (b : Sheet) (r : StepRecord) → Sound b → Sound (step b r).sheet
step_keeps_sound b r h =
    accepted_or_not steps b r (λ e. accepted_keeps_sound b r h (action_of r.kind) (accepted_as b r h (action_of r.kind) refl e))
    (λ n. subst Sound (sym (refused_keeps b r n)) h)

pub list_keeps_sound : (b : Sheet) (rs : List StepRecord) → Sound b → Sound (after b rs)
list_keeps_sound = list_keeps steps Sound step_keeps_sound

-- ---- the account of one accepted step
module _ (b : Sheet) (r : StepRecord) (h : Sound b) where
  -- the debt after an effect at these places, and a weight that unit 0 took back, are the debt and so many grants
  abbrev Accounts : Action → ℕ → ℕ → ℕ → Result Effect Refusal → ℕ → Type 0
  Accounts a u s grants e taken = (applied b a u s e).sheet.debt + taken ≡ b.debt + grant * grants

  module _ (c : AcceptedAs b r Deliver) where
    abbrev y : Slot
    y = slot_at b r.slot

    deliver_account : (k : Kind) → Accounts Deliver y.to r.slot (one_if (is_request k)) (deliver_effect b.debt b.delay (unit_at b y.to) y k) (cond (is_return k) (taken_at y.to y.weight) 0)
    unfolding applied
    deliver_account Empty = omega arith
    deliver_account Work = omega arith
    deliver_account Return =
        root_or_other (λ e w. Accounts Deliver y.to r.slot 0 (Ok e) w) y.to y.weight _ _ (λ e. omega (arith, weights_fit b h 0 r.slot)) (λ l. omega arith)
    deliver_account Request = omega arith
    deliver_account Supply = omega arith

  account_as : (a : Action) → AcceptedAs b r a
      → Accounts a (unit_of b r a) (slot_of r a) (start_by a + grant_by (slot_at b r.slot) a) (done_on b r a) (taken_by r.unit (unit_at b r.unit) (slot_at b r.slot) a)
  unfolding applied
  account_as Unknown c = omega arith
  account_as Start c = omega (arith, shown 37 c)
  account_as Send c = omega arith
  account_as RequestStep c = omega arith
  account_as Deliver c = omega (arith, deliver_account c (slot_at b r.slot).kind)
  account_as Rest c = root_or_other (λ e w. Accounts Rest r.unit 0 0 (Ok e) w) r.unit (unit_at b r.unit).weight _ _ (λ e. omega (arith, weights_fit b h r.unit 0)) (λ l. omega arith)
  account_as Tick c = omega arith
  account_as Release c = omega arith
  account_as Move c = omega arith

  step_account : number_of (step b r).answer ≡ 0 → (step b r).sheet.debt + taken_count b r ≡ b.debt + grant * (start_count b r + grant_count b r)
  step_account e =
      let c = accepted_as b r h (action_of r.kind) refl e in
      ap (λ (o : Outcome). o.sheet.debt + taken_count b r) c.gives ∙ account_as (action_of r.kind) c

-- ---- the account of a list
pub debt_account : (b : Sheet) (rs : List StepRecord) → Sound b → (after b rs).debt + tally taken_count b rs ≡ b.debt + grant * (tally start_count b rs + tally grant_count b rs)
debt_account =
    list_account steps Sound step_keeps_sound (λ b. b.debt) grant taken_count start_count grant_count (λ b r h e. step_account b r h e)
    (λ b r h n. ap (λ (c : Sheet). c.debt) (refused_keeps b r n))
