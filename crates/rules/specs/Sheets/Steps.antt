-- A step on a sheet: the bracket, what it does, and where that is stored.
use Rattle.std.specs.Prelude.{List, [], ◌∷◌, ℕ, get_or, set, Result, Err}
use Rattle.refusals.specs.declared.Refusal.{Refusal}
use Rattle.refusals.specs.declared.Refusal.TheVariants.{NotSound}
use Rattle.rules.specs.Facts.{Check, check, holds, judge}
use Rattle.rules.specs.Actions.{action_of}
use Rattle.rules.specs.Letters.{place_checks, slot_of, unit_by}
use Rattle.rules.specs.Effects.{record_checks, record_effect, record_rule, counted, change_of}
use Rattle.rules.specs.Sheets.Sheet.{Sheet, parent_at, unit_at, slot_at, counts_at, Outcome}
use Rattle.rules.specs.Sheets.Sound.{sound}
use Rattle.rules.specs.Records.{Action, Effect, UnitRecord, Slot, StepRecord, Change}

-- the unit that a step may change: a delivery's is the receiver that its slot names
abbrev pub unit_of : Sheet → StepRecord → Action → ℕ
unit_of b r a = unit_by r (slot_at b (slot_of r a)).to a

-- how often a unit has created work
abbrev pub made_at : Sheet → ℕ → ℕ
made_at b i = get_or b.created i 0

-- ---- on a sheet: the head of the bracket, the rest of it, and what an accepted step does
abbrev pub places_on : Sheet → StepRecord → Action → List Check
places_on b r a = place_checks b.n b.m r a

abbrev pub checks_on : Sheet → StepRecord → Action → List Check
checks_on b r a = record_checks b.debt (unit_at b (unit_of b r a)) (slot_at b (slot_of r a)) (made_at b (unit_of b r a)) a

abbrev pub done_on : Sheet → StepRecord → Action → Result Effect Refusal
done_on b r a = record_effect b.debt b.delay r (unit_at b (unit_of b r a)) (parent_at b (unit_of b r a)) (slot_at b (slot_of r a)) a

-- the whole bracket, then the effect
abbrev pub effect_by : Sheet → StepRecord → Action → Result Effect Refusal
effect_by b r a =
    judge Err (places_on b r a)
    (record_rule b.debt b.delay r (unit_at b (unit_of b r a)) (parent_at b (unit_of b r a)) (slot_at b (slot_of r a)) (made_at b (unit_of b r a)) a)

unfoldable pub effect : Sheet → StepRecord → Result Effect Refusal
effect b r = effect_by b r (action_of r.kind)

-- the sheet with its parents (M-108), its units, its slots, its debt and its counts replaced
abbrev pub changed : Sheet → List ℕ → List UnitRecord → List Slot → ℕ → List ℕ → List ℕ → Sheet
changed b ps us ys debt cs ds = record { n = b.n; m = b.m; delay = b.delay; debt = debt; parents = ps; units = us; slots = ys; created = cs; processed = ds }

-- the answer, and the sheet with the change stored at the unit u and the slot s
abbrev pub stored : Sheet → ℕ → ℕ → Change → Outcome
stored b u s c = record {
  answer = c.answer;
  sheet =
      changed b (set b.parents u c.parent) (set b.units u c.unit) (set b.slots s c.slot) c.debt (set b.created u c.counts.created)
      (set b.processed u c.counts.processed);
}

unfoldable pub applied : Sheet → Action → ℕ → ℕ → Result Effect Refusal → Outcome
applied b a u s e = stored b u s (change_of e (unit_at b u) (parent_at b u) (slot_at b s) b.debt (counts_at b u) (counted (counts_at b u) (slot_at b s) a))

-- a step on a sheet known to be sound
unfoldable pub sound_step : Sheet → StepRecord → Outcome
sound_step b r = applied b (action_of r.kind) (unit_of b r (action_of r.kind)) (slot_of r (action_of r.kind)) (effect b r)

-- a step on any sheet: "30 precedes all"
unfoldable pub step : Sheet → StepRecord → Outcome
step b r = judge (λ k. record { answer = Err k; sheet = b }) (check (holds (sound b)) NotSound ∷ []) (sound_step b r)
