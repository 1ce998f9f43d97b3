-- Drains: the accepted steps after which no new work can come, and the most of them that there can be.
use Rattle.std.specs.Prelude.{◌≡◌, false, ◌&&◌, List, ℕ, zero, suc, ◌+◌, ◌*◌, ◌<◌, ltb}
use Rattle.rules.specs.Facts.{one_if, sum_of}
use Rattle.rules.specs.Events.{DrainStepOf, DrainOf}
use Rattle.rules.specs.Records.{is_active, is_waiting, is_work, is_return, Waiting, Empty, Return, Deliver, Tick, Release, StepRecord}
use Rattle.rules.specs.Sheets.Sheet.{Sheet, unit_at, slot_at}
use Rattle.rules.specs.Sheets.Depths.{depth, greatest_depth}
use Rattle.rules.specs.Actions.{kind_of}
use Rattle.rules.specs.Sheets.Lists.{steps, undrained_count}

-- no unit is active and no work is under way: where a drain begins
pub record Quiet (b : Sheet) : Type 0 where
  pub none_active : (i : ℕ) → is_active (unit_at b i).state ≡ false
  pub no_work : (j : ℕ) → is_work (slot_at b j).kind ≡ false

-- the accepted steps but starts and moves, one and a list of them
abbrev pub DrainStep : Sheet → StepRecord → Type 0
DrainStep b r = DrainStepOf steps undrained_count b r

abbrev pub Drain : Sheet → List StepRecord → Type 0
Drain b rs = DrainOf steps undrained_count b rs

-- the steps that a drain is made of; unused fields are 0
abbrev pub tick_of : ℕ → StepRecord
tick_of u = record { kind = kind_of Tick; unit = u; other = 0; slot = 0 }

abbrev pub release_of : ℕ → ℕ → StepRecord
release_of u s = record { kind = kind_of Release; unit = u; other = 0; slot = s }

abbrev pub deliver_of : ℕ → StepRecord
deliver_of s = record { kind = kind_of Deliver; unit = 0; other = 0; slot = s }

-- the ways to make a drain one longer: the return in slot s is delivered; the waiting unit i ticks or, with its countdown at 0, is
-- released into slot 0
pub data Way : Type 0 where
  returns : ℕ → Way
  waits : ℕ → Way

abbrev pub There : Sheet → Way → Type 0
There b (returns s) = (s < b.m) × ((slot_at b s).kind ≡ Return)
There b (waits i) = (i < b.n) × ((unit_at b i).state ≡ Waiting) × ((slot_at b 0).kind ≡ Empty)

abbrev pub wait_step : ℕ → ℕ → StepRecord
wait_step i zero = record { kind = kind_of Release; unit = i; other = 0; slot = 0 }
wait_step i (suc k) = record { kind = kind_of Tick; unit = i; other = 0; slot = 0 }

abbrev pub way_step : Sheet → Way → StepRecord
way_step b (returns s) = record { kind = kind_of Deliver; unit = 0; other = 0; slot = s }
way_step b (waits i) = wait_step i (unit_at b i).countdown

-- waiting units, and returns under way
unfoldable pub waiting_units : Sheet → ℕ
waiting_units b = sum_of (λ i u. one_if (is_waiting u.state)) b.units

unfoldable pub returns_under_way : Sheet → ℕ
returns_under_way b = sum_of (λ j y. one_if (is_return y.kind)) b.slots

-- the most steps that a drain from this board can have (M-108)
unfoldable pub drain_bound : Sheet → ℕ
drain_bound b = (waiting_units b + returns_under_way b) * ((b.delay + 2) * greatest_depth b + 1)

-- returns under way to a unit that is not among the deepest
unfoldable pub shallow_returns : Sheet → ℕ
shallow_returns b = sum_of (λ j y. one_if (is_return y.kind && ltb (depth b.parents y.to) (greatest_depth b))) b.slots
