-- A list of steps: the sheet after it, its answers, and its history, each read on the sheet just before the step.
use Rattle.std.specs.Prelude.{Bool, cond, ◌&&◌, ◌||◌, List, ℕ, eqb}
use Rattle.refusals.specs.Numbers.{number_of}
use Rattle.rules.specs.Facts.{one_if}
use Rattle.rules.specs.Events.{Events, after_all, all_answers, accepts, tally_all}
use Rattle.rules.specs.Records.{is_return, is_request, Action, Start, Deliver, Rest, Move, UnitRecord, Slot, StepRecord}
use Rattle.rules.specs.Actions.{action_of, is_action}
use Rattle.rules.specs.Sheets.Sheet.{Sheet, unit_at, slot_at}
use Rattle.rules.specs.Sheets.Steps.{step}

-- steps as events: each gets the sheet that the step before it left; after a refusal that is the same sheet
abbrev pub steps : Events Sheet StepRecord
steps = record { next = λ b r. (step b r).sheet; answer = λ b r. number_of (step b r).answer }

abbrev pub after : Sheet → List StepRecord → Sheet
after b rs = after_all steps b rs

abbrev pub answers : Sheet → List StepRecord → List ℕ
answers b rs = all_answers steps b rs

abbrev pub accepted : Sheet → StepRecord → Bool
accepted b r = accepts steps b r

-- the sum over a list of what its accepted steps count for
abbrev pub tally : (Sheet → StepRecord → ℕ) → Sheet → List StepRecord → ℕ
tally count b rs = tally_all steps count b rs

-- 1 for a start
abbrev pub start_by : Action → ℕ
start_by a = one_if (is_action Start a)

abbrev pub start_count : Sheet → StepRecord → ℕ
start_count b r = start_by (action_of r.kind)

-- 1 for a step that no drain has: a start or a move (M-108)
abbrev pub undrained_by : Action → ℕ
undrained_by a = one_if (is_action Start a || is_action Move a)

abbrev pub undrained_count : Sheet → StepRecord → ℕ
undrained_count b r = undrained_by (action_of r.kind)

-- 1 for a granted request: the delivery of a slot that holds a request
abbrev pub grant_by : Slot → Action → ℕ
grant_by y a = one_if (is_action Deliver a && is_request y.kind)

abbrev pub grant_count : Sheet → StepRecord → ℕ
grant_count b r = grant_by (slot_at b r.slot) (action_of r.kind)

-- what unit 0 takes back: all of the weight w where it is unit u that gets it, the receiver of a return or the unit that rests
abbrev pub taken_at : ℕ → ℕ → ℕ
taken_at u w = cond (eqb u 0) w 0

abbrev pub taken_by : ℕ → UnitRecord → Slot → Action → ℕ
taken_by u x y a = cond (is_action Deliver a) (cond (is_return y.kind) (taken_at y.to y.weight) 0) (cond (is_action Rest a) (taken_at u x.weight) 0)

abbrev pub taken_count : Sheet → StepRecord → ℕ
taken_count b r = taken_by r.unit (unit_at b r.unit) (slot_at b r.slot) (action_of r.kind)
