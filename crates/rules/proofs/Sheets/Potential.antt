-- The length of the longest drain (M-109) is the potential of a board: with no unit active and no work under way, each accepted step but a start or a move lowers it by at least 1, and
-- it is at most the bound on drains.
use mathlib.Core.Path.{◌≡◌, refl, sym, ap, subst, ◌∙◌}
use mathlib.Core.Bool.{true, false, ◌&&◌}
use mathlib.Core.List.{List}
use Prim.Native.Nat.{ℕ, suc, ◌+◌, ◌*◌, ◌-◌, ◌≤◌, ◌<◌}
use native.Mathlib.Nat.{add-mul, mul-suc, mul-le-mul_left}
use native.Mathlib.Omega.{arith}
use lib.ListN.{set}
use lib.Dec.{ltb}
use lib.Seq.{set-get_or}
use borrow.Author.Tests.{eq-eqb, ltb-true}
use Rattle.refusals.specs.declared.Refusal.{Refusal}
use Rattle.std.specs.Prelude.{Result, Ok}
use Rattle.rules.specs.Facts.{sum_of, one_if}
use Rattle.rules.specs.Records.{is_empty, is_active, is_waiting, is_work, is_return, blank_unit, blank_slot, State, Idle, Active, Waiting, Kind, Empty, Work, Return, Request, Supply, Action, Unknown, Start, Send, RequestStep, Deliver, Rest, Tick, Release, Move, Effect, UnitRecord, Slot, StepRecord}
use Rattle.rules.specs.Sheets.Sheet.{parent_at, unit_at, slot_at, Sheet, Outcome}
use Rattle.rules.specs.Sheets.Sound.{pending_in, Sound}
use Rattle.rules.specs.Sheets.Depths.{depth, greatest_depth}
use Rattle.rules.specs.Actions.{action_of}
use Rattle.rules.specs.Letters.{slot_of}
use Rattle.rules.specs.Effects.{message, waiting_with, returned, return_effect, deliver_effect}
use Rattle.rules.specs.Sheets.Steps.{unit_of, done_on, changed, applied, step}
use Rattle.rules.specs.Sheets.Lists.{undrained_by}
use Rattle.rules.specs.Sheets.Longest.{unit_length, slot_length, units_length, slots_length, longest_length}
use Rattle.rules.specs.Sheets.Drains.{Quiet, DrainStep, waiting_units, returns_under_way, drain_bound, shallow_returns}
use Rattle.rules.proofs.FactLaws.{true_not_false, by_test, set_each}
use Rattle.rules.proofs.SumLaws.{sum_set, sum_bound, sum_plus}
use Rattle.rules.proofs.Sheets.SoundLaws.{root_or_other}
use Rattle.rules.proofs.Sheets.Accepted.{AcceptedAs, shown, accepted_as}
use Rattle.rules.proofs.Sheets.EntryLaws.{waiting_is, waiting_in_use, filled_in_use, receiver_in_use, unit_row_as, slot_row_as, pending_as, suspended_active, pending_suspended}
use Rattle.rules.proofs.Sheets.DepthLaws.{depth_at_most, deeper_than_parent}

abbrev receiver_depth : Sheet → Slot → ℕ
receiver_depth b y = depth b.parents y.to

-- ---- one step of a drain
pub record Shortens (b c : Sheet) : Type 0 where
  pub quiet : Quiet c
  pub less : longest_length c + 1 ≤ longest_length b

module _ (b : Sheet) (h : Sound b) (q : Quiet b) where
  abbrev worth_of : ℕ → UnitRecord → ℕ
  worth_of i u = unit_length b.delay (depth b.parents i) u u.state

  abbrev slot_worth_of : Slot → ℕ
  slot_worth_of y = slot_length b.delay (receiver_depth b y) y.kind

  -- the parent that stood there is stored again
  lower_both : (u s : ℕ) (x : UnitRecord) (y : Slot) (debt : ℕ) {cs ds : List ℕ} → u < b.n → s < b.m → is_active x.state ≡ false → is_work y.kind ≡ false
      → worth_of u x + slot_worth_of y + 1 ≤ worth_of u (unit_at b u) + slot_worth_of (slot_at b s)
      → Shortens b (changed b (set b.parents u (parent_at b u)) (set b.units u x) (set b.slots s y) debt cs ds)
  unfolding units_length slots_length
  lower_both u s x y debt {cs} {ds} l k a e w = subst (λ (ps : List ℕ). Shortens b (changed b ps (set b.units u x) (set b.slots s y) debt cs ds)) (sym (set-get_or b.parents u 0)) (record {
    quiet = record {
      none_active = set_each (λ i z. is_active z.state ≡ false) b.units u x blank_unit a q.none_active;
      no_work = set_each (λ j z. is_work z.kind ≡ false) b.slots s y blank_slot e q.no_work;
    };
    less = omega (
      arith,
      sum_set worth_of b.units u x blank_unit (omega (arith, h.s1_sizes, l)),
      sum_set (λ j z. slot_worth_of z) b.slots s y blank_slot (omega (arith, h.s1_sizes, k)),
      w,
    );
  })

  -- no unit is active, so none is suspended, and no request and no supply is under way
  pub not_active : (i : ℕ) → (unit_at b i).state ≡ Active → ⊥
  not_active i e = true_not_false (sym (ap is_active e) ∙ q.none_active i)

  pub not_work : (j : ℕ) → (slot_at b j).kind ≡ Work → ⊥
  not_work j e = true_not_false (sym (ap is_work e) ∙ q.no_work j)

  not_pending : (s i : ℕ) → i < b.n → pending_in i (slot_at b s) (slot_at b s).kind ≡ 1 → ⊥
  not_pending s i k e = not_active i (suspended_active b h i k (pending_suspended b h s i k e))

  pub not_request : (s : ℕ) → s < b.m → (slot_at b s).kind ≡ Request → ⊥
  not_request s l e =
      not_pending s (slot_at b s).from (slot_row_as b h s Request l e).0 (pending_as _ (slot_at b s) Request e ∙ ap one_if (eq-eqb (slot_at b s).from (slot_at b s).from refl))

  pub not_supply : (s : ℕ) → s < b.m → (slot_at b s).kind ≡ Supply → ⊥
  not_supply s l e =
      not_pending s (slot_at b s).to (slot_row_as b h s Supply l e).1.0 (pending_as _ (slot_at b s) Supply e ∙ ap one_if (eq-eqb (slot_at b s).to (slot_at b s).to refl))

  slot_worth_as : (s : ℕ) (k : Kind) → (slot_at b s).kind ≡ k → slot_worth_of (slot_at b s) ≡ slot_length b.delay (receiver_depth b (slot_at b s)) k
  slot_worth_as s k e = ap (slot_length b.delay (receiver_depth b (slot_at b s))) e

  -- ---- the steps that can be accepted
  module _ (r : StepRecord) where
    -- the board after an effect at these places
    abbrev LowerBy : Action → ℕ → ℕ → Result Effect Refusal → Type 0
    LowerBy a u s e = Shortens b (applied b a u s e).sheet

    tick_lower : AcceptedAs b r Tick → LowerBy Tick r.unit 0 (done_on b r Tick)
    unfolding applied
    tick_lower c =
        let waiting = waiting_is (unit_at b r.unit).state (shown 38 c) in
        lower_both r.unit 0 _ (slot_at b 0) b.debt (shown 13 c) (omega (arith, h.s1_sizes)) (q.none_active r.unit) (q.no_work 0) (rw waiting (omega (arith, shown 39 c)))

    release_lower : AcceptedAs b r Release → LowerBy Release r.unit r.slot (done_on b r Release)
    unfolding applied
    release_lower c =
        let waiting = waiting_is (unit_at b r.unit).state (shown 38 c) in
        let deeper = deeper_than_parent b h r.unit (unit_row_as b h r.unit Waiting (shown 13 c) waiting).1.1.1.0 (shown 13 c) in
        let above : depth b.parents r.unit - 1 ≡ depth b.parents (parent_at b r.unit) = omega (arith, deeper) in
        lower_both r.unit r.slot blank_unit (message Return r.unit (parent_at b r.unit) (unit_at b r.unit).weight) b.debt (shown 13 c) (shown 14 c) refl refl
        (omega (arith, ap (unit_length b.delay (depth b.parents r.unit) (unit_at b r.unit)) waiting, ap (λ (k : ℕ). (b.delay + 2) * k) above))

    -- a return reaches unit 0, or it makes an idle or waiting unit wait, one less deep
    module _ (c : AcceptedAs b r Deliver) (e : (slot_at b r.slot).kind ≡ Return) where
      abbrev y : Slot
      y = slot_at b r.slot

      abbrev v : ℕ
      v = y.to

      abbrev x : UnitRecord
      x = unit_at b v

      receiver_used : v < b.n
      receiver_used = omega (arith, slot_row_as b h r.slot Return (shown 14 c) e)

      one_deeper : 1 ≤ v → (b.delay + 2) * depth b.parents v ≡ (b.delay + 2) * (depth b.parents v - 1) + (b.delay + 2)
      one_deeper l =
          let deep = deeper_than_parent b h v l receiver_used in
          ap (λ (k : ℕ). (b.delay + 2) * k) (omega (arith, deep)) ∙ mul-suc (b.delay + 2) (depth b.parents v - 1)

      -- whatever its countdown is then: at most the delay
      waits_lower : (k : ℕ) {cs ds : List ℕ} → k ≤ b.delay → 1 ≤ v
          → Shortens b (changed b (set b.parents v (parent_at b v)) (set b.units v (waiting_with (x.weight + y.weight) k)) (set b.slots r.slot blank_slot) b.debt cs ds)
      waits_lower k p l =
          lower_both v r.slot (waiting_with (x.weight + y.weight) k) blank_slot b.debt receiver_used (shown 14 c) refl refl (omega (arith, one_deeper l, slot_worth_as r.slot Return e))

      returned_lower : {cs ds : List ℕ} → 1 ≤ v → (k : State) → x.state ≡ k
          → Shortens b (changed b (set b.parents v (parent_at b v)) (set b.units v (returned b.delay x y.weight k)) (set b.slots r.slot blank_slot) b.debt cs ds)
      returned_lower l Idle z = waits_lower _ (omega (arith, unit_row_as b h v Idle receiver_used z)) l
      returned_lower l Active z = absurd (not_active v z)
      returned_lower l Waiting z = waits_lower _ (omega (arith, unit_row_as b h v Waiting receiver_used z)) l

      return_lower : LowerBy Deliver v r.slot (Ok (return_effect b.debt b.delay x y))
      unfolding applied
      return_lower =
          root_or_other (λ z w. LowerBy Deliver v r.slot (Ok z)) v 0 _ _ (λ z. lower_both v r.slot x blank_slot _ receiver_used (shown 14 c) (q.none_active v) refl (omega (arith, slot_worth_as r.slot Return e)))
          (λ l. returned_lower l x.state refl)

    deliver_lower : AcceptedAs b r Deliver → LowerBy Deliver (slot_at b r.slot).to r.slot (done_on b r Deliver)
    deliver_lower c =
        elim (slot_at b r.slot).kind as (λ k. (slot_at b r.slot).kind ≡ k → LowerBy Deliver (slot_at b r.slot).to r.slot (deliver_effect b.debt b.delay (unit_at b (slot_at b r.slot).to) (slot_at b r.slot) k)) [
          | Empty ↦ λ e. absurd (true_not_false (sym (ap is_empty e) ∙ shown 35 c))
          | Work ↦ λ e. absurd (not_work r.slot e)
          | Return ↦ return_lower c
          | Request ↦ λ e. absurd (not_request r.slot (shown 14 c) e)
          | Supply ↦ λ e. absurd (not_supply r.slot (shown 14 c) e)
        ] refl

    -- an active unit is asked for, and there is none
    no_active : is_active (unit_at b r.unit).state ≡ true → ⊥
    no_active e = true_not_false (sym e ∙ q.none_active r.unit)

    lower_as : (a : Action) → AcceptedAs b r a → undrained_by a ≡ 0 → LowerBy a (unit_of b r a) (slot_of r a) (done_on b r a)
    unfolding applied
    lower_as Unknown c n = absurd (true_not_false (sym (shown 16 c)))
    lower_as Start c n = absurd (omega (arith, n))
    lower_as Send c n = absurd (no_active (shown 31 c))
    lower_as RequestStep c n = absurd (no_active (shown 31 c))
    lower_as Deliver c n = deliver_lower c
    lower_as Rest c n = absurd (no_active (shown 31 c))
    lower_as Tick c n = tick_lower c
    lower_as Release c n = release_lower c
    lower_as Move c n = absurd (omega (arith, n))

    pub drain_step_lowers : DrainStep b r → Shortens b (step b r).sheet
    drain_step_lowers z =
        let c = accepted_as b r h (action_of r.kind) refl z.0 in
        subst (λ (o : Outcome). Shortens b o.sheet) (sym c.gives) (lower_as (action_of r.kind) c z.1)

-- ---- the bound: each waiting unit and each return is worth at most (delay + 2) × the greatest depth + 1
module _ (b : Sheet) (h : Sound b) where
  abbrev deep : ℕ
  deep = (b.delay + 2) * greatest_depth b

  abbrev most : ℕ
  most = deep + 1

  -- a unit in use, and one above another, against the greatest depth
  deep_most : (k : ℕ) → k ≤ greatest_depth b → (b.delay + 2) * k ≤ deep
  deep_most k l = mul-le-mul_left (b.delay + 2) l

  deeper_most : (k : ℕ) → suc k ≤ greatest_depth b → (b.delay + 2) * k + (b.delay + 2) ≤ deep
  deeper_most k l = subst (λ (x : ℕ). x ≤ deep) (mul-suc (b.delay + 2) k) (deep_most (suc k) l)

  abbrev waits_at : UnitRecord → ℕ
  waits_at u = one_if (is_waiting u.state)

  -- a waiting unit is worth at least 1 less: it is one deeper than its parent
  unit_most : (i : ℕ) → i < 64 → unit_length b.delay (depth b.parents i) (unit_at b i) (unit_at b i).state + waits_at (unit_at b i) * 1 ≤ waits_at (unit_at b i) * most
  unit_most i l = by_state (unit_at b i).state refl
    where
      waiting_most : (unit_at b i).state ≡ Waiting → unit_length b.delay (depth b.parents i) (unit_at b i) Waiting + 1 * 1 ≤ 1 * most
      waiting_most e =
          let p : i < b.n = waiting_in_use b h i e in
          let row = unit_row_as b h i Waiting p e in
          let deep = deeper_than_parent b h i row.1.1.1.0 p in
          omega (arith, deeper_most (depth b.parents i - 1) (omega (arith, deep, depth_at_most b.parents b.n i p)), row)

      by_state : (k : State) → (unit_at b i).state ≡ k → unit_length b.delay (depth b.parents i) (unit_at b i) k + one_if (is_waiting k) * 1 ≤ one_if (is_waiting k) * most
      by_state = elim [ Idle ↦ λ e. omega arith | Active ↦ λ e. omega arith | Waiting ↦ waiting_most ]

  abbrev return_at : Slot → ℕ
  return_at y = one_if (is_return y.kind)

  abbrev shallow_at : Slot → ℕ
  shallow_at y = one_if (is_return y.kind && ltb (receiver_depth b y) (greatest_depth b))

  -- a return to a unit that is not among the deepest is worth at least d + 2 less
  slot_most : (j : ℕ) → j < 256 → slot_length b.delay (receiver_depth b (slot_at b j)) (slot_at b j).kind + shallow_at (slot_at b j) * (b.delay + 2) ≤ return_at (slot_at b j) * most
  slot_most j l = by_kind (slot_at b j).kind refl
    where
      return_most : (slot_at b j).kind ≡ Return → slot_length b.delay (receiver_depth b (slot_at b j)) Return + one_if (ltb (receiver_depth b (slot_at b j)) (greatest_depth b)) * (b.delay + 2) ≤ 1 * most
      return_most e =
          let k : ℕ = receiver_depth b (slot_at b j) in
          by_test (λ t. 1 + (b.delay + 2) * k + one_if t * (b.delay + 2) ≤ 1 * most) (ltb k (greatest_depth b)) (λ q. omega (arith, deeper_most k (ltb-true k (greatest_depth b) q)))
          (λ q. omega (arith, deep_most k (depth_at_most b.parents b.n (slot_at b j).to (receiver_in_use b h j (filled_in_use b h j (ap is_empty e))))))

      by_kind : (k : Kind) → (slot_at b j).kind ≡ k
          → slot_length b.delay (receiver_depth b (slot_at b j)) k + one_if (is_return k && ltb (receiver_depth b (slot_at b j)) (greatest_depth b)) * (b.delay + 2) ≤ one_if (is_return k) * most
      by_kind = elim [ Empty ↦ λ e. omega arith | Work ↦ λ e. omega arith | Return ↦ return_most | Request ↦ λ e. omega arith | Supply ↦ λ e. omega arith ]

  pub potential_less : longest_length b + (waiting_units b + shallow_returns b * (b.delay + 2)) ≤ drain_bound b
  unfolding drain_bound waiting_units returns_under_way shallow_returns units_length slots_length
  potential_less = omega (
    arith,
    sum_plus (λ i u. unit_length b.delay (depth b.parents i) u u.state) (λ i u. waits_at u) 1 b.units,
    sum_bound (λ i u. unit_length b.delay (depth b.parents i) u u.state + waits_at u * 1) (λ i u. waits_at u) most b.units blank_unit (λ i l. unit_most i (omega (arith, l, h.s1_sizes))),
    sum_plus (λ j y. slot_length b.delay (depth b.parents y.to) y.kind) (λ j y. shallow_at y) (b.delay + 2) b.slots,
    sum_bound (λ j y. slot_length b.delay (depth b.parents y.to) y.kind + shallow_at y * (b.delay + 2)) (λ j y. return_at y) most b.slots blank_slot (λ j l. slot_most j (omega (arith, l, h.s1_sizes))),
    add-mul (sum_of (λ i u. waits_at u) b.units) (sum_of (λ j y. return_at y) b.slots) most,
  )
