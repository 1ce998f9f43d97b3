-- A journey (M-109) is a drain: from a waiting unit, with the units below it idle, by a free slot. It leaves the unit idle, and all else
-- but the debt as it was.
use mathlib.Core.Path.{◌≡◌, refl, sym, ap, subst, subst₂, ◌∙◌}
use mathlib.Core.Bool.{Bool, cond}
use mathlib.Core.List.{List, [], ◌∷◌, ◌++◌}
use Prim.Native.Nat.{ℕ, zero, suc, ◌+◌, ◌-◌, ◌≤◌, ◌<◌}
use native.Mathlib.Nat.{le_refl, not-suc-le-zero}
use native.Mathlib.Omega.{arith}
use lib.ListN.{get_or, set, replicate}
use lib.Seq.{get_or-set_same, get_or-set_other, set-get_or, set-set}
use lib.Dec.{eqb-suc-zero}
use Rattle.std.specs.Prelude.{Ok}
use Rattle.refusals.specs.Numbers.{number_of}
use Rattle.rules.specs.Records.{is_empty, is_waiting, blank_unit, blank_slot, Waiting, Return, Action, Deliver, Tick, Release, OnSlot, OnBoth, UnitRecord, Slot, StepRecord}
use Rattle.rules.specs.Facts.{Claims}
use Rattle.rules.specs.Effects.{message, waiting_with, returned, deliver_checks, deliver_effect, created_by, processed_by}
use Rattle.rules.specs.Events.{after_all, DrainOf}
use Rattle.rules.specs.Sheets.Sheet.{parent_at, unit_at, slot_at, Sheet, Outcome}
use Rattle.rules.specs.Sheets.Sound.{Sound}
use Rattle.rules.specs.Sheets.Steps.{changed, applied, step}
use Rattle.rules.specs.Sheets.Lists.{steps, after, undrained_count}
use Rattle.rules.specs.Sheets.Drains.{tick_of, release_of, deliver_of}
use Rattle.rules.specs.Sheets.Longest.{journey_within, journey}
use Rattle.rules.proofs.FactLaws.{asked}
use Rattle.rules.proofs.JoinLaws.{DrainTo, append_drains}
use Rattle.rules.proofs.Sheets.Accepted.{step_does}
use Rattle.rules.proofs.Sheets.AcceptedChanges.{none_counted}
use Rattle.rules.proofs.Sheets.SoundLaws.{parent_below}
use Rattle.rules.proofs.Sheets.EntryLaws.{unit_row_as, waiting_in_use, filled_in_use, receiver_in_use}
use Rattle.rules.proofs.Sheets.ListLaws.{step_keeps_sound}
use Rattle.rules.proofs.Sheets.DepthLaws.{LowerParents, same_turns}

-- ---- what a drain leaves
-- the sheet with its units, its slots and its debt replaced
abbrev pub replaced : Sheet → List UnitRecord → List Slot → ℕ → Sheet
replaced b us ys debt = changed b b.parents us ys debt b.created b.processed

-- a sound sheet that differs from b in these units, these slots and the debt alone
abbrev pub LeftAs : Sheet → List UnitRecord → List Slot → Sheet → Type 0
LeftAs b us ys c = record { debt : ℕ; is : c ≡ replaced b us ys debt; sound : Sound c }

abbrev pub Leaves : Sheet → List StepRecord → List UnitRecord → List Slot → Type 0
Leaves b rs us ys = DrainTo steps undrained_count (LeftAs b us ys) b rs

pub leaves_none : (b : Sheet) → Sound b → Leaves b [] b.units b.slots
unfolding DrainOf after_all
leaves_none b h = (tt, record { debt = b.debt; is = refl; sound = h })

-- the same units and slots by other terms
pub leaves_as : (b : Sheet) (rs : List StepRecord) {us vs : List UnitRecord} {ys zs : List Slot} → us ≡ vs → ys ≡ zs → Leaves b rs us ys → Leaves b rs vs zs
leaves_as b rs p q l = subst₂ (λ (us : List UnitRecord) (ys : List Slot). Leaves b rs us ys) p q l

-- from what is left, whatever the debt is
pub leaves_from : (b c : Sheet) (qs : List StepRecord) {us vs : List UnitRecord} {ys zs : List Slot} → LeftAs b us ys c
    → ((debt : ℕ) → Sound (replaced b us ys debt) → Leaves (replaced b us ys debt) qs vs zs) → DrainTo steps undrained_count (LeftAs b vs zs) c qs
leaves_from b c qs {us} {vs} {ys} {zs} l f = subst (λ (x : Sheet). DrainTo steps undrained_count (LeftAs b vs zs) x qs) (sym l.is) (f l.debt (subst Sound l.is l.sound))

pub leaves_then : (b : Sheet) (rs qs : List StepRecord) {us vs : List UnitRecord} {ys zs : List Slot} → Leaves b rs us ys
    → ((debt : ℕ) → Sound (replaced b us ys debt) → Leaves (replaced b us ys debt) qs vs zs) → Leaves b (rs ++ qs) vs zs
leaves_then b rs qs {us} {vs} {ys} {zs} l f = append_drains steps undrained_count (LeftAs b vs zs) b rs qs l.0 (leaves_from b (after b rs) qs l.1 f)

-- ---- one step: what it does not change is stored where it stood
step_leaves : (b : Sheet) (r : StepRecord) (a : Action) (u s debt : ℕ) (x : UnitRecord) (y : Slot) → Sound b → undrained_count b r ≡ 0 → created_by a ≡ 0 → processed_by (slot_at b s) a ≡ 0
    → step b r ≡ applied b a u s (Ok (OnBoth x y debt)) → Leaves b (r ∷ []) (set b.units u x) (set b.slots s y)
unfolding applied DrainOf after_all
step_leaves b r a u s debt x y h n p q e = (
  ((ap (λ (o : Outcome). number_of o.answer) e, n), tt),
  record {
    debt = debt;
    is = ap (λ (o : Outcome). o.sheet) e ∙ rw (set-get_or b.parents u 0, none_counted b.created u (created_by a) p, none_counted b.processed u (processed_by (slot_at b s) a) q);
    sound = step_keeps_sound b r h;
  },
)

unit_ticked : UnitRecord → UnitRecord
unit_ticked x = record { weight = x.weight; countdown = x.countdown - 1; state = x.state; suspended = x.suspended }

tick_leaves : (b : Sheet) (u w k : ℕ) → Sound b → u < b.n → unit_at b u ≡ waiting_with w (suc k) → Leaves b (tick_of u ∷ []) (set b.units u (waiting_with w k)) b.slots
unfolding applied unit_ticked
tick_leaves b u w k h l e =
    leaves_as b (tick_of u ∷ []) (ap (set b.units u) (ap unit_ticked e ∙ ap (waiting_with w) (omega arith))) (set-get_or b.slots 0 blank_slot)
    (step_leaves b (tick_of u) Tick u 0 b.debt (unit_ticked (unit_at b u)) (slot_at b 0) h refl refl refl
    (step_does b (tick_of u) h Tick refl (l, tt) (ap (λ (x : UnitRecord). is_waiting x.state) e, (omega (arith, ap (λ (x : UnitRecord). x.countdown) e), tt))))

ticks_leave : (k : ℕ) (b : Sheet) (u w : ℕ) → Sound b → u < b.n → unit_at b u ≡ waiting_with w k → Leaves b (replicate k (tick_of u)) (set b.units u (waiting_with w 0)) b.slots
ticks_leave zero b u w h l e = leaves_as b [] (sym (set-get_or b.units u blank_unit) ∙ ap (set b.units u) e) refl (leaves_none b h)
ticks_leave (suc k) b u w h l e =
    leaves_as b (replicate (suc k) (tick_of u)) (set-set b.units u (waiting_with w k) (waiting_with w 0)) refl
    (leaves_then b (tick_of u ∷ []) (replicate k (tick_of u)) (tick_leaves b u w k h l e)
    (λ debt g. ticks_leave k (replaced b (set b.units u (waiting_with w k)) b.slots debt) u w g l (get_or-set_same b.units u (waiting_with w k) blank_unit (omega (arith, h.s1_sizes, l)))))

release_leaves : (b : Sheet) (u s w : ℕ) → Sound b → u < b.n → s < b.m → unit_at b u ≡ waiting_with w 0 → slot_at b s ≡ blank_slot
    → Leaves b (release_of u s ∷ []) (set b.units u blank_unit) (set b.slots s (message Return u (parent_at b u) w))
unfolding applied
release_leaves b u s w h l k e free =
    leaves_as b (release_of u s ∷ []) refl (ap (λ (x : UnitRecord). set b.slots s (message Return u (parent_at b u) x.weight)) e)
    (step_leaves b (release_of u s) Release u s b.debt blank_unit (message Return u (parent_at b u) (unit_at b u).weight) h refl refl refl
    (step_does b (release_of u s) h Release refl (l, (k, tt)) (ap (λ (x : UnitRecord). is_waiting x.state) e, (ap (λ (x : UnitRecord). x.countdown) e, (ap (λ (y : Slot). is_empty y.kind) free, tt)))))

-- a return delivered, by what its slot holds
module _ (b : Sheet) (r f v w : ℕ) (h : Sound b) (l : r < b.m) (e : slot_at b r ≡ message Return f v w) where
  -- it leaves the slot empty, and the unit as the effect says
  deliver_leaves : (x : UnitRecord) (debt : ℕ) → applied b Deliver v r (deliver_effect b.debt b.delay (unit_at b v) (message Return f v w) Return) ≡ applied b Deliver v r (Ok (OnBoth x blank_slot debt))
      → Leaves b (deliver_of r ∷ []) (set b.units v x) (set b.slots r blank_slot)
  deliver_leaves x debt q =
      step_leaves b (deliver_of r) Deliver v r debt x blank_slot h refl refl (ap (λ (y : Slot). processed_by y Deliver) e)
      (step_does b (deliver_of r) h Deliver refl (l, tt) (subst (λ (y : Slot). Claims (asked (deliver_checks b.debt y))) (sym e) (refl, tt))
      ∙ ap (λ (y : Slot). applied b Deliver y.to r (deliver_effect b.debt b.delay (unit_at b y.to) y y.kind)) e ∙ q)

-- to unit 0: the units stay; to an idle unit: it waits, with the whole delay
root_leaves : (b : Sheet) (r f w : ℕ) → Sound b → r < b.m → slot_at b r ≡ message Return f 0 w → Leaves b (deliver_of r ∷ []) b.units (set b.slots r blank_slot)
unfolding applied
root_leaves b r f w h l e = leaves_as b (deliver_of r ∷ []) (set-get_or b.units 0 blank_unit) refl (deliver_leaves b r f 0 w h l e (unit_at b 0) (b.debt - w) refl)

idle_leaves : (b : Sheet) (r f v w : ℕ) → Sound b → r < b.m → slot_at b r ≡ message Return f (suc v) w → unit_at b (suc v) ≡ blank_unit
    → Leaves b (deliver_of r ∷ []) (set b.units (suc v) (waiting_with (0 + w) b.delay)) (set b.slots r blank_slot)
idle_leaves b r f v w h l e idle =
    deliver_leaves b r f (suc v) w h l e (waiting_with (0 + w) b.delay) b.debt
    (ap (λ (t : Bool). applied b Deliver (suc v) r (Ok (cond t (OnSlot blank_slot (b.debt - w)) (OnBoth (returned b.delay (unit_at b (suc v)) w (unit_at b (suc v)).state) blank_slot b.debt)))) (eqb-suc-zero v)
    ∙ ap (λ (x : UnitRecord). applied b Deliver (suc v) r (Ok (OnBoth (returned b.delay x w x.state) blank_slot b.debt))) idle)

-- ---- the journey, within so many turns
-- what stood there is stored again
set_back : {A : Type 0} (xs : List A) (i : ℕ) (a d : A) → get_or xs i d ≡ d → set (set xs i a) i d ≡ xs
set_back xs i a d e = set-set xs i a d ∙ ap (set xs i) (sym e) ∙ set-get_or xs i d

-- unit 0 never waits
waits_above : (b : Sheet) → Sound b → (u w k : ℕ) → u < b.n → unit_at b u ≡ waiting_with w k → 1 ≤ u
waits_above b h u w k l e = (unit_row_as b h u Waiting l (ap (λ (x : UnitRecord). x.state) e)).1.1.1.0

-- unit u waits, and the units below it are idle
abbrev Journeys : ℕ → Type 0
Journeys j = (b : Sheet) (u s k w : ℕ) → Sound b → u ≤ j → u < b.n → s < b.m → slot_at b s ≡ blank_slot → unit_at b u ≡ waiting_with w k → ((i : ℕ) → i < u → unit_at b i ≡ blank_unit)
    → Leaves b (journey_within j b.delay b.parents s k u) (set b.units u blank_unit) b.slots

home : (j d s k : ℕ) (ps : List ℕ) → journey_within j d ps s k 0 ≡ []
unfolding journey_within
home zero d s k ps = refl
home (suc j) d s k ps = refl

-- a return delivered, and the journey from its receiver, which is idle as the units below it are: only the slot is left changed
return_within : (j : ℕ) → Journeys j → (b : Sheet) (r s f v w : ℕ) → Sound b → v ≤ j → r < b.m → s < b.m → slot_at b r ≡ message Return f v w → get_or (set b.slots r blank_slot) s blank_slot ≡ blank_slot
    → ((i : ℕ) → i ≤ v → unit_at b i ≡ blank_unit) → Leaves b (deliver_of r ∷ journey_within j b.delay b.parents s b.delay v) b.units (set b.slots r blank_slot)
return_within j on b r s f zero w h p l k e free idle =
    subst (λ (rs : List StepRecord). Leaves b (deliver_of r ∷ rs) b.units (set b.slots r blank_slot)) (sym (home j b.delay s b.delay b.parents)) (root_leaves b r f w h l e)
return_within j on b r s f (suc v) w h p l k e free idle =
    leaves_as b (deliver_of r ∷ journey_within j b.delay b.parents s b.delay (suc v)) back refl
    (leaves_then b (deliver_of r ∷ []) (journey_within j b.delay b.parents s b.delay (suc v)) (idle_leaves b r f v w h l e (idle (suc v) (le_refl (suc v))))
    (λ debt g.
    on (replaced b (set b.units (suc v) x) (set b.slots r blank_slot) debt) (suc v) s b.delay (0 + w) g p used k free (get_or-set_same b.units (suc v) x blank_unit (omega (arith, h.s1_sizes, used)))
    (λ i q. get_or-set_other b.units (suc v) i x blank_unit (λ z. omega (arith, q, z)) ∙ idle i (omega (arith, q)))))
  where
    x : UnitRecord
    x = waiting_with (0 + w) b.delay

    used : suc v < b.n
    used = subst (λ (y : Slot). y.to < b.n) e (receiver_in_use b h r l)

    back : set (set b.units (suc v) x) (suc v) blank_unit ≡ b.units
    back = set_back b.units (suc v) x blank_unit (idle (suc v) (le_refl (suc v)))

-- a unit released, its return delivered, and the journey from its parent
release_within : (j : ℕ) → Journeys j → (b : Sheet) (u s w : ℕ) → Sound b → 1 ≤ u → u ≤ suc j → u < b.n → s < b.m → slot_at b s ≡ blank_slot → unit_at b u ≡ waiting_with w 0
    → ((i : ℕ) → i < u → unit_at b i ≡ blank_unit) → Leaves b (release_of u s ∷ deliver_of s ∷ journey_within j b.delay b.parents s b.delay (parent_at b u)) (set b.units u blank_unit) b.slots
release_within j on b u s w h o p l q free waits idle =
    leaves_as b (release_of u s ∷ rest) refl emptied
    (leaves_then b (release_of u s ∷ []) rest (release_leaves b u s w h l q waits free)
    (λ debt g.
    return_within j on (replaced b (set b.units u blank_unit) (set b.slots s y) debt) s s u (parent_at b u) w g (omega (arith, lower, p)) q q
    (get_or-set_same b.slots s y blank_slot (omega (arith, h.s1_sizes, q))) (ap (λ (ys : List Slot). get_or ys s blank_slot) emptied ∙ free)
    (λ i z. get_or-set_other b.units u i blank_unit blank_unit (λ n. omega (arith, lower, z, n)) ∙ idle i (omega (arith, lower, z)))))
  where
    rest : List StepRecord
    rest = deliver_of s ∷ journey_within j b.delay b.parents s b.delay (parent_at b u)

    y : Slot
    y = message Return u (parent_at b u) w

    lower : parent_at b u < u
    lower = parent_below b h u o l

    emptied : set (set b.slots s y) s blank_slot ≡ b.slots
    emptied = set_back b.slots s y blank_slot free

journey_within_lem : (j : ℕ) → Journeys j
unfolding journey_within
journey_within_lem zero b u s k w h p l q free waits idle = absurd (omega (arith, p, waits_above b h u w k l waits))
journey_within_lem (suc j) b zero s k w h p l q free waits idle = absurd (omega (arith, waits_above b h 0 w k l waits))
journey_within_lem (suc j) b (suc u) s k w h p l q free waits idle =
    leaves_as b (journey_within (suc j) b.delay b.parents s k (suc u)) (set-set b.units (suc u) (waiting_with w 0) blank_unit) refl
    (leaves_then b (replicate k (tick_of (suc u))) (release_of (suc u) s ∷ deliver_of s ∷ journey_within j b.delay b.parents s b.delay (parent_at b (suc u))) (ticks_leave k b (suc u) w h l waits)
    (λ debt g.
    release_within j (journey_within_lem j) (replaced b (set b.units (suc u) (waiting_with w 0)) b.slots debt) (suc u) s w g (omega arith) p l q free
    (get_or-set_same b.units (suc u) (waiting_with w 0) blank_unit (omega (arith, h.s1_sizes, l)))
    (λ i z. get_or-set_other b.units (suc u) i (waiting_with w 0) blank_unit (λ n. omega (arith, z, n)) ∙ idle i z)))

-- ---- the journey of a waiting unit; the delivery of a return, and the journey from its receiver
pub journey_leaves : (b : Sheet) (u s k w : ℕ) → Sound b → s < b.m → slot_at b s ≡ blank_slot → unit_at b u ≡ waiting_with w k → ((i : ℕ) → i < u → unit_at b i ≡ blank_unit)
    → Leaves b (journey b.delay b.parents s k u) (set b.units u blank_unit) b.slots
unfolding journey
journey_leaves b u s k w h l free waits idle = journey_within_lem u b u s k w h (le_refl u) (waiting_in_use b h u (ap (λ (x : UnitRecord). x.state) waits)) l free waits idle

pub return_leaves : (b : Sheet) (r s f v w : ℕ) → Sound b → s < b.m → slot_at b r ≡ message Return f v w → get_or (set b.slots r blank_slot) s blank_slot ≡ blank_slot → ((i : ℕ) → i ≤ v → unit_at b i ≡ blank_unit)
    → Leaves b (deliver_of r ∷ journey b.delay b.parents s b.delay v) b.units (set b.slots r blank_slot)
unfolding journey
return_leaves b r s f v w h l e free idle = return_within v (journey_within_lem v) b r s f v w h (le_refl v) (filled_in_use b h r (ap (λ (y : Slot). is_empty y.kind) e)) l e free idle

-- ---- the list of a journey, along lower parents: more turns than the unit's number change nothing
module _ (d : ℕ) (ps : List ℕ) (s : ℕ) where
  -- a unit's own steps, and what follows them
  own_steps : ℕ → ℕ → List StepRecord → List StepRecord
  own_steps k u rs = replicate k (tick_of u) ++ release_of u s ∷ deliver_of s ∷ rs

  -- so it is the unit's own steps and the parent's journey
  pub journey_on : (k u : ℕ) → 1 ≤ u → LowerParents ps u → journey d ps s k u ≡ replicate k (tick_of u) ++ release_of u s ∷ deliver_of s ∷ journey d ps s d (get_or ps u 0)
  unfolding journey journey_within own_steps
  journey_on k zero p h = absurd (not-suc-le-zero p)
  journey_on k (suc u) p h =
      let lower : get_or ps (suc u) 0 < suc u = h (suc u) p (le_refl (suc u)) in
      ap (own_steps k (suc u))
      (same_turns ps (λ j v. journey_within j d ps s d v) [] (own_steps d) (λ j. home j d s d ps) (λ j v. refl) u (get_or ps (suc u) 0) (get_or ps (suc u) 0) (omega arith) (omega arith) (λ v a l. h v a (omega arith)))
