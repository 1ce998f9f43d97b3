-- The eight steps on single records: for each its checks in the order of its bracket, then what an accepted step does.
use Rattle.std.specs.Prelude.{true, false, cond, ◌&&◌, ◌||◌, List, [], ◌∷◌, ℕ, ◌+◌, ◌-◌, ◌/◌, leb, eqb, Result, Ok, Err}
use Rattle.refusals.specs.declared.Refusal.{Refusal}
use Rattle.refusals.specs.declared.Refusal.TheVariants.{CanShare, CountFull, CountdownOver, CountdownRuns, DebtLeft, NoSuchKind, NotActive, NotWaiting, PastCeiling, SlotEmpty, SlotFilled, Suspended, TooLight}
use Rattle.rules.specs.Facts.{Check, check, below, at_most, equal, holds, fails, one_if, judge}
use Rattle.rules.specs.Records.{is_active, is_waiting, is_empty, is_work, blank_unit, blank_slot, grant, ceiling, full, State, Idle, Active, Waiting, Kind, Empty, Work, Return, Request, Supply, Action, Unknown, Start, Send, RequestStep, Deliver, Rest, Tick, Release, Move, Effect, OnUnit, OnSlot, OnBoth, OnParent, UnitRecord, Slot, StepRecord, Shared, Change, Counts}
use Rattle.rules.specs.Actions.{is_action}

-- share, the rules' own term: 2^14 if W is at least 2^20 (M-100), else 2^10 if W is at least 2^11, else half of W rounded down
abbrev pub share : ℕ → ℕ
share w = cond (leb 1048576 w) 16384 (cond (leb 2048 w) 1024 (w / 2))

-- a unit with another weight
abbrev pub with_weight : UnitRecord → ℕ → UnitRecord
with_weight x w = record { weight = w; countdown = x.countdown; state = x.state; suspended = x.suspended }

-- "A unit gives a share and hands back itself with what it keeps"
abbrev pub shared : UnitRecord → Shared
shared x = record { unit = with_weight x (x.weight - share x.weight); given = share x.weight }

-- a message, a waiting unit
abbrev pub message : Kind → ℕ → ℕ → ℕ → Slot
message k u v w = record { weight = w; from = u; to = v; kind = k }

abbrev pub waiting_with : ℕ → ℕ → UnitRecord
waiting_with w d = record { weight = w; countdown = d; state = Waiting; suspended = false }

-- start u [13, 37, 44]: 44 where the created count is full (M-105)
abbrev pub start_checks : ℕ → ℕ → List Check
start_checks debt made = check (equal debt 0) DebtLeft ∷ check (below made full) CountFull ∷ []

abbrev pub start_effect : Effect
start_effect = OnUnit (record { weight = grant; countdown = 0; state = Active; suspended = false }) grant

-- send u v s [13 for u or v, 14, 31, 32, 33, 34, 44]: 33 before 34 (M-103), 44 as for a start (M-105)
abbrev pub send_checks : UnitRecord → Slot → ℕ → List Check
send_checks x y made =
    check (holds (is_active x.state)) NotActive
    ∷ check (fails x.suspended) Suspended
    ∷ check (at_most 2 x.weight) TooLight
    ∷ check (holds (is_empty y.kind)) SlotFilled
    ∷ check (below made full) CountFull
    ∷ []

abbrev pub send_effect : ℕ → ℕ → ℕ → UnitRecord → Effect
send_effect debt u v x = OnBoth (shared x).unit (message Work u v (shared x).given) debt

-- request u s [13, 14, 31, 32, 41, 34]
abbrev pub request_checks : UnitRecord → Slot → List Check
request_checks x y =
    check (holds (is_active x.state)) NotActive
    ∷ check (fails x.suspended) Suspended
    ∷ check (at_most x.weight 1) CanShare
    ∷ check (holds (is_empty y.kind)) SlotFilled
    ∷ []

abbrev pub request_effect : ℕ → ℕ → UnitRecord → Effect
request_effect debt u x = OnBoth (record { weight = x.weight; countdown = x.countdown; state = x.state; suspended = true }) (message Request u 0 0) debt

-- deliver s [14, 35, 36]; 36 is asked of a request alone
abbrev pub grant_fits : ℕ → Kind → List Check
grant_fits debt Empty = []
grant_fits debt Work = []
grant_fits debt Return = []
grant_fits debt Request = check (at_most (debt + grant) ceiling) PastCeiling ∷ []
grant_fits debt Supply = []

abbrev pub deliver_checks : ℕ → Slot → List Check
deliver_checks debt y = check (fails (is_empty y.kind)) SlotEmpty ∷ grant_fits debt y.kind

-- work: weight added to the receiver, which becomes active with countdown 0; a suspended one stays so
abbrev pub worked : UnitRecord → ℕ → UnitRecord
worked x w = record { weight = x.weight + w; countdown = 0; state = Active; suspended = x.suspended }

-- a return to another unit than 0: weight added; an active one stays active, an idle one is waiting with countdown d, a waiting one
-- lets its countdown stand (M-104)
abbrev pub returned : ℕ → UnitRecord → ℕ → State → UnitRecord
returned d x w Idle = waiting_with (x.weight + w) d
returned d x w Active = with_weight x (x.weight + w)
returned d x w Waiting = waiting_with (x.weight + w) x.countdown

-- a supply: weight added, suspension ends
abbrev pub supplied : UnitRecord → ℕ → UnitRecord
supplied x w = record { weight = x.weight + w; countdown = x.countdown; state = x.state; suspended = false }

-- a return to unit 0: its weight is taken off the debt
abbrev pub return_effect : ℕ → ℕ → UnitRecord → Slot → Effect
return_effect debt d x y = cond (eqb y.to 0) (OnSlot blank_slot (debt - y.weight)) (OnBoth (returned d x y.weight x.state) blank_slot debt)

-- x is the receiver. A request becomes the supply to its sender, and the debt grows. The refusal is not reached: the check before it refuses
abbrev pub deliver_effect : ℕ → ℕ → UnitRecord → Slot → Kind → Result Effect Refusal
deliver_effect debt d x y Empty = Err SlotEmpty
deliver_effect debt d x y Work = Ok (OnBoth (worked x y.weight) blank_slot debt)
deliver_effect debt d x y Return = Ok (return_effect debt d x y)
deliver_effect debt d x y Request = Ok (OnSlot (message Supply 0 y.from grant) (debt + grant))
deliver_effect debt d x y Supply = Ok (OnBoth (supplied x y.weight) blank_slot debt)

-- rest u [13, 31, 32]: unit 0 takes its weight off the debt and is idle; any other is waiting with countdown d
abbrev pub rest_checks : UnitRecord → List Check
rest_checks x = check (holds (is_active x.state)) NotActive ∷ check (fails x.suspended) Suspended ∷ []

abbrev pub rest_effect : ℕ → ℕ → ℕ → UnitRecord → Effect
rest_effect debt d u x = cond (eqb u 0) (OnUnit blank_unit (debt - x.weight)) (OnUnit (waiting_with x.weight d) debt)

-- tick u [13, 38, 39]: countdown falls by 1
abbrev pub tick_checks : UnitRecord → List Check
tick_checks x = check (holds (is_waiting x.state)) NotWaiting ∷ check (at_most 1 x.countdown) CountdownOver ∷ []

abbrev pub tick_effect : ℕ → UnitRecord → Effect
tick_effect debt x = OnUnit (record { weight = x.weight; countdown = x.countdown - 1; state = x.state; suspended = x.suspended }) debt

-- release u s [13, 14, 38, 40, 34]: s becomes a return from u to its parent p with all its weight; u is idle
abbrev pub release_checks : UnitRecord → Slot → List Check
release_checks x y =
    check (holds (is_waiting x.state)) NotWaiting
    ∷ check (equal x.countdown 0) CountdownRuns
    ∷ check (holds (is_empty y.kind)) SlotFilled
    ∷ []

abbrev pub release_effect : ℕ → ℕ → ℕ → UnitRecord → Effect
release_effect debt u p x = OnBoth blank_unit (message Return u p x.weight) debt

-- move u p [13 for u alone, 47] (M-108): u's parent is p from then on, whatever u's state is. Both checks are the head's, so nothing is asked
-- of the records
abbrev pub move_effect : ℕ → Effect
move_effect p = OnParent p

-- the rest of each bracket, on the records that the step may change: the unit x, which has created work so often, and the slot y. 16 kind outside 1 to 8, which no board passes
abbrev pub record_checks : ℕ → UnitRecord → Slot → ℕ → Action → List Check
record_checks debt x y made Unknown = check (holds false) NoSuchKind ∷ []
record_checks debt x y made Start = start_checks debt made
record_checks debt x y made Send = send_checks x y made
record_checks debt x y made RequestStep = request_checks x y
record_checks debt x y made Deliver = deliver_checks debt y
record_checks debt x y made Rest = rest_checks x
record_checks debt x y made Tick = tick_checks x
record_checks debt x y made Release = release_checks x y
record_checks debt x y made Move = []

-- what an accepted step does on them; p is the unit's parent. The refusal is not reached: the check before it refuses
abbrev pub record_effect : ℕ → ℕ → StepRecord → UnitRecord → ℕ → Slot → Action → Result Effect Refusal
record_effect debt d r x p y Unknown = Err NoSuchKind
record_effect debt d r x p y Start = Ok start_effect
record_effect debt d r x p y Send = Ok (send_effect debt r.unit r.other x)
record_effect debt d r x p y RequestStep = Ok (request_effect debt r.unit x)
record_effect debt d r x p y Deliver = deliver_effect debt d x y y.kind
record_effect debt d r x p y Rest = Ok (rest_effect debt d r.unit x)
record_effect debt d r x p y Tick = Ok (tick_effect debt x)
record_effect debt d r x p y Release = Ok (release_effect debt r.unit p x)
record_effect debt d r x p y Move = Ok (move_effect r.other)

-- on the records alone: the rest of the bracket, then the effect
unfoldable pub record_rule : ℕ → ℕ → StepRecord → UnitRecord → ℕ → Slot → ℕ → Action → Result Effect Refusal
record_rule debt d r x p y made a = judge Err (record_checks debt x y made a) (record_effect debt d r x p y a)

-- M-105: what an accepted step adds to the counts of the unit that it may change: work created (sends and starts), work processed
-- (deliveries of work, and starts)
abbrev pub created_by : Action → ℕ
created_by a = one_if (is_action Start a || is_action Send a)

abbrev pub processed_by : Slot → Action → ℕ
processed_by y a = one_if (is_action Start a || (is_action Deliver a && is_work y.kind))

abbrev pub counted : Counts → Slot → Action → Counts
counted k y a = record { created = k.created + created_by a; processed = k.processed + processed_by y a }

-- what an effect leaves of the unit x, its parent p, the slot y, the debt and the unit's counts k: a refusal leaves all of them, other
-- effects what they do not name; the counts of an accepted step are given
abbrev pub change_of : Result Effect Refusal → UnitRecord → ℕ → Slot → ℕ → Counts → Counts → Change
change_of (Err j) x p y debt k _ = record { answer = Err j; parent = p; debt = debt; unit = x; slot = y; counts = k }
change_of (Ok (OnUnit unit debt)) x p y _ _ k = record { answer = Ok tt; parent = p; debt = debt; unit = unit; slot = y; counts = k }
change_of (Ok (OnSlot slot debt)) x p y _ _ k = record { answer = Ok tt; parent = p; debt = debt; unit = x; slot = slot; counts = k }
change_of (Ok (OnBoth unit slot debt)) x p y _ _ k = record { answer = Ok tt; parent = p; debt = debt; unit = unit; slot = slot; counts = k }
change_of (Ok (OnParent parent)) x _ y debt _ k = record { answer = Ok tt; parent = parent; debt = debt; unit = x; slot = y; counts = k }
