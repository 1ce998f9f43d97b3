-- The list of steps (M-109) on a sound sheet with no unit active and no work under way: a drain of the length said, after which the sheet
-- is finished.
use mathlib.Core.Path.{◌≡◌, refl, sym, ap, subst, ◌∙◌}
use mathlib.Core.List.{List, [], ◌∷◌}
use Prim.Native.Nat.{ℕ, zero, suc, ◌+◌, ◌*◌, ◌-◌, ◌≤◌, ◌<◌}
use native.Mathlib.Nat.{le_refl, not-suc-le-zero, mul-suc}
use native.Mathlib.Decide.{ℕ_discrete}
use native.Mathlib.Omega.{arith}
use lib.ListN.{length, get_or, set, replicate, length-append, length-replicate, get_or-eq_default}
use lib.Seq.{get_or-set_other, set-get_or}
use Rattle.std.specs.Prelude.{Ok}
use Rattle.rules.specs.Records.{is_empty, is_active, blank_unit, blank_slot, State, Idle, Active, Waiting, Kind, Empty, Work, Return, Request, Supply, Finished, UnitRecord, Slot, StepRecord}
use Rattle.rules.specs.Sheets.Sheet.{unit_at, slot_at, Sheet}
use Rattle.rules.specs.Sheets.Sound.{Sound}
use Rattle.rules.specs.Sheets.Depths.{depth_within, depth}
use Rattle.rules.specs.Sheets.Lists.{steps, after, undrained_count}
use Rattle.rules.specs.Sheets.Finished.{verdict, Complete}
use Rattle.rules.specs.Sheets.Drains.{Quiet, tick_of, release_of, deliver_of}
use Rattle.rules.specs.Sheets.Longest.{unit_length, slot_length, units_length, slots_length, longest_length, journey_within, journey, unit_steps, slot_steps, join_of, longest_list}
use Rattle.rules.proofs.JoinLaws.{join_length, join_drains}
use Rattle.rules.proofs.Sheets.SoundLaws.{below_or_not, parent_below}
use Rattle.rules.proofs.Sheets.EntryLaws.{idle_blank, empty_blank, waiting_with_lem, waiting_in_use, filled_in_use, unit_row_as, receiver_in_use}
use Rattle.rules.proofs.Sheets.FinishedLaws.{finished_complete}
use Rattle.rules.proofs.Sheets.DepthLaws.{LowerParents, depth_parent}
use Rattle.rules.proofs.Sheets.Potential.{not_active, not_work, not_request, not_supply}
use Rattle.rules.proofs.Sheets.JourneyLaws.{replaced, LeftAs, Leaves, leaves_none, leaves_as, leaves_from, leaves_then, journey_leaves, return_leaves}

-- the steps of a unit and of a slot, whatever they hold
abbrev steps_of_unit : Sheet → ℕ → ℕ → UnitRecord → List StepRecord
steps_of_unit b s i x = unit_steps b.delay b.parents s i x x.state

abbrev steps_of_slot : Sheet → ℕ → ℕ → Slot → List StepRecord
steps_of_slot b s j y = slot_steps b.delay b.parents s j y y.kind

-- ---- lengths: along lower parents a journey with the whole delay is d + 2 for each unit on the way
leg_length : (d s k j u : ℕ) (ps : List ℕ) → length (journey_within (suc j) d ps s k (suc u)) ≡ k + 2 + length (journey_within j d ps s d (get_or ps (suc u) 0))
unfolding journey_within
leg_length d s k j u ps = omega (
  arith,
  length-append (replicate k (tick_of (suc u))) (release_of (suc u) s ∷ deliver_of s ∷ journey_within j d ps s d (get_or ps (suc u) 0)),
  length-replicate k (tick_of (suc u)),
)

within_length : (d s j v : ℕ) (ps : List ℕ) → v ≤ j → LowerParents ps v → length (journey_within j d ps s d v) ≡ (d + 2) * depth ps v
unfolding journey_within depth depth_within
within_length d s zero zero ps p low = omega arith
within_length d s (suc j) zero ps p low = omega arith
within_length d s zero (suc v) ps p low = absurd (not-suc-le-zero p)
within_length d s (suc j) (suc v) ps p low =
    let lower : get_or ps (suc v) 0 < suc v = low (suc v) (omega arith) (le_refl (suc v)) in
    omega (
      arith,
      leg_length d s d j v ps,
      within_length d s j (get_or ps (suc v) 0) ps (omega (arith, lower, p)) (λ i a b. low i a (omega (arith, b, lower))),
      ap (λ (k : ℕ). (d + 2) * k) (depth_parent ps (suc v) (omega arith) low),
      mul-suc (d + 2) (depth ps (get_or ps (suc v) 0)),
    )

pub journey_length : (d s k u : ℕ) (ps : List ℕ) → 1 ≤ u → LowerParents ps u → length (journey d ps s k u) ≡ k + 2 + (d + 2) * (depth ps u - 1)
unfolding journey
journey_length d s k zero ps p low = absurd (not-suc-le-zero p)
journey_length d s k (suc u) ps p low =
    let deep : depth ps (suc u) ≡ suc (depth ps (suc u) - 1) = omega (arith, depth_parent ps (suc u) p low) in
    omega (
      arith,
      leg_length d s k u u ps,
      leg_length d s d u u ps,
      within_length d s (suc u) (suc u) ps (le_refl (suc u)) low,
      ap (λ (j : ℕ). (d + 2) * j) deep,
      mul-suc (d + 2) (depth ps (suc u) - 1),
    )

pub way_length : (d s v : ℕ) (ps : List ℕ) → LowerParents ps v → length (journey d ps s d v) ≡ (d + 2) * depth ps v
unfolding journey
way_length d s v ps low = within_length d s v v ps (le_refl v) low

module _ (b : Sheet) (s : ℕ) (h : Sound b) where
  lower_up : (u : ℕ) → u < b.n → LowerParents b.parents u
  lower_up u l i p q = parent_below b h i p (omega (arith, l, q))

  unit_length_lem : (i : ℕ) (k : State) → (unit_at b i).state ≡ k → length (unit_steps b.delay b.parents s i (unit_at b i) k) ≡ unit_length b.delay (depth b.parents i) (unit_at b i) k
  unit_length_lem i Idle e = refl
  unit_length_lem i Active e = refl
  unit_length_lem i Waiting e =
      let used : i < b.n = waiting_in_use b h i e in
      journey_length b.delay s (unit_at b i).countdown i b.parents (unit_row_as b h i Waiting used e).1.1.1.0 (lower_up i used)

  slot_length_lem : (j : ℕ) (k : Kind) → (slot_at b j).kind ≡ k → length (slot_steps b.delay b.parents s j (slot_at b j) k) ≡ slot_length b.delay (depth b.parents (slot_at b j).to) k
  slot_length_lem j Empty e = refl
  slot_length_lem j Work e = refl
  slot_length_lem j Return e =
      omega (arith, way_length b.delay s (slot_at b j).to b.parents (lower_up (slot_at b j).to (receiver_in_use b h j (filled_in_use b h j (ap is_empty e)))))
  slot_length_lem j Request e = refl
  slot_length_lem j Supply e = refl

  pub length_list : length (longest_list b s) ≡ longest_length b
  unfolding longest_list units_length slots_length
  length_list = omega (
    arith,
    length-append (join_of (steps_of_unit b s) b.units) (join_of (steps_of_slot b s) b.slots),
    join_length (steps_of_unit b s) (λ i x. unit_length b.delay (depth b.parents i) x x.state) b.units blank_unit (λ i l. unit_length_lem i (unit_at b i).state refl),
    join_length (steps_of_slot b s) (λ j y. slot_length b.delay (depth b.parents y.to) y.kind) b.slots blank_slot (λ j l. slot_length_lem j (slot_at b j).kind refl),
  )

-- ---- a list with its first entries blank
abbrev swept : {A : Type 0} → List A → A → ℕ → List A
swept xs d zero = xs
swept xs d (suc i) = set (swept xs d i) i d

module _ {A : Type 0} (xs : List A) (d : A) where
  swept_from : (i k : ℕ) → i ≤ k → get_or (swept xs d i) k d ≡ get_or xs k d
  swept_from zero k l = refl
  swept_from (suc i) k l = get_or-set_other (swept xs d i) i k d d (λ e. omega (arith, l, e)) ∙ swept_from i k (omega (arith, l))

  swept_below : (i k : ℕ) → k < i → get_or (swept xs d i) k d ≡ d
  swept_below zero k l = absurd (not-suc-le-zero l)
  swept_below (suc i) k l = by_place (ℕ_discrete k i) (λ p. swept_below i k p)
    where
      blank_there : (ys : List A) (j : ℕ) → get_or (set ys j d) j d ≡ d
      blank_there [] j = refl
      blank_there (y ∷ ys) zero = refl
      blank_there (y ∷ ys) (suc j) = blank_there ys j

      by_place : Dec (k ≡ i) → (k < i → get_or (swept xs d i) k d ≡ d) → get_or (set (swept xs d i) i d) k d ≡ d
      by_place (yes e) f = rw e (blank_there (swept xs d i) i)
      by_place (no e) f = get_or-set_other (swept xs d i) i k d d e ∙ f (omega (arith, l, e))

  -- an entry that is blank stays so, and where the next one is, the list stays
  swept_blank : (i k : ℕ) → get_or xs k d ≡ d → get_or (swept xs d i) k d ≡ d
  swept_blank i k e = below_or_not k i (swept_below i k) (λ l. swept_from i k l ∙ e)

  swept_stays : (i : ℕ) → get_or xs i d ≡ d → swept xs d i ≡ swept xs d (suc i)
  swept_stays i e = sym (set-get_or (swept xs d i) i d) ∙ ap (set (swept xs d i) i) (swept_blank i i e)

  swept_all : (k : ℕ) → get_or (swept xs d (length xs)) k d ≡ d
  swept_all k = below_or_not k (length xs) (swept_below (length xs) k) (λ l. swept_from (length xs) k l ∙ get_or-eq_default xs d l)

-- ---- the drain, by a slot s that is free
module _ (b : Sheet) (s : ℕ) (h : Sound b) (q : Quiet b) (l : s < b.m) (free : slot_at b s ≡ blank_slot) where
  abbrev units_at : ℕ → List UnitRecord
  units_at i = swept b.units blank_unit i

  abbrev slots_at : ℕ → List Slot
  slots_at j = swept b.slots blank_slot j

  -- the units in ascending number: with those below idle, the next becomes so
  unit_leaves : (i debt : ℕ) → Sound (replaced b (units_at i) b.slots debt) → (k : State) → (unit_at b i).state ≡ k
      → Leaves (replaced b (units_at i) b.slots debt) (unit_steps b.delay b.parents s i (unit_at b i) k) (units_at (suc i)) b.slots
  unit_leaves i debt g Idle e =
      leaves_as (replaced b (units_at i) b.slots debt) [] (swept_stays b.units blank_unit i (idle_blank b h i e)) refl (leaves_none (replaced b (units_at i) b.slots debt) g)
  unit_leaves i debt g Active e = absurd (not_active b h q i e)
  unit_leaves i debt g Waiting e =
      journey_leaves (replaced b (units_at i) b.slots debt) i s (unit_at b i).countdown (unit_at b i).weight g l free
      (swept_from b.units blank_unit i i (le_refl i) ∙ waiting_with_lem b h i (waiting_in_use b h i e) e) (swept_below b.units blank_unit i)

  units_leave : Leaves b (join_of (steps_of_unit b s) b.units) (units_at (length b.units)) b.slots
  units_leave =
      join_drains steps undrained_count (steps_of_unit b s) b.units blank_unit (λ i. LeftAs b (units_at i) b.slots)
      (λ i c k p. leaves_from b c (steps_of_unit b s i (unit_at b i)) p (λ debt g. unit_leaves i debt g (unit_at b i).state refl)) b (record { debt = b.debt; is = refl; sound = h })

  -- the returns by ascending slot, with every unit idle
  module _ (idle : (i : ℕ) → unit_at b i ≡ blank_unit) where
    slot_leaves : (j debt : ℕ) → Sound (replaced b b.units (slots_at j) debt) → (k : Kind) → (slot_at b j).kind ≡ k
        → Leaves (replaced b b.units (slots_at j) debt) (slot_steps b.delay b.parents s j (slot_at b j) k) b.units (slots_at (suc j))
    slot_leaves j debt g Empty e =
        leaves_as (replaced b b.units (slots_at j) debt) [] refl (swept_stays b.slots blank_slot j (empty_blank b h j e)) (leaves_none (replaced b b.units (slots_at j) debt) g)
    slot_leaves j debt g Work e = absurd (not_work b h q j e)
    slot_leaves j debt g Return e =
        return_leaves (replaced b b.units (slots_at j) debt) j s (slot_at b j).from (slot_at b j).to (slot_at b j).weight g l
        (swept_from b.slots blank_slot j j (le_refl j) ∙ (λ z. record { weight = (slot_at b j).weight; from = (slot_at b j).from; to = (slot_at b j).to; kind = e z }))
        (swept_blank b.slots blank_slot (suc j) s free) (λ i p. idle i)
    slot_leaves j debt g Request e = absurd (not_request b h q j (filled_in_use b h j (ap is_empty e)) e)
    slot_leaves j debt g Supply e = absurd (not_supply b h q j (filled_in_use b h j (ap is_empty e)) e)

    slots_leave : Leaves b (join_of (steps_of_slot b s) b.slots) b.units (slots_at (length b.slots))
    slots_leave =
        join_drains steps undrained_count (steps_of_slot b s) b.slots blank_slot (λ j. LeftAs b b.units (slots_at j))
        (λ j c k p. leaves_from b c (steps_of_slot b s j (slot_at b j)) p (λ debt g. slot_leaves j debt g (slot_at b j).kind refl)) b (record { debt = b.debt; is = refl; sound = h })

-- the whole list: every unit and every slot is blank after it
pub list_leaves : (b : Sheet) (s : ℕ) → Sound b → Quiet b → s < b.m → slot_at b s ≡ blank_slot
    → Leaves b (longest_list b s) (swept b.units blank_unit (length b.units)) (swept b.slots blank_slot (length b.slots))
unfolding longest_list
list_leaves b s h q l free =
    leaves_then b (join_of (steps_of_unit b s) b.units) (join_of (steps_of_slot b s) b.slots) (units_leave b s h q l free)
    (λ debt g.
    slots_leave (replaced b (swept b.units blank_unit (length b.units)) b.slots debt) s g
    (record { none_active = λ i. ap (λ (x : UnitRecord). is_active x.state) (swept_all b.units blank_unit i); no_work = q.no_work }) l free (swept_all b.units blank_unit))

pub list_finishes : (b : Sheet) (s : ℕ) → Sound b → Quiet b → s < b.m → slot_at b s ≡ blank_slot → verdict (after b (longest_list b s)) ≡ Ok Finished
list_finishes b s h q l free =
    let w = list_leaves b s h q l free in
    (finished_complete (after b (longest_list b s)) w.1.sound).1
    (subst Complete (sym w.1.is) (record { idle = λ i. ap (λ (x : UnitRecord). x.state) (swept_all b.units blank_unit i); empty = λ j. ap (λ (y : Slot). y.kind) (swept_all b.slots blank_slot j) }))
