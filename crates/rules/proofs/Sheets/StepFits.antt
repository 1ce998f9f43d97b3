-- Each step's change fits, and so do its counts: a lemma for each action, and with them that a step keeps a sound sheet sound.
use mathlib.Core.Path.{◌≡◌, refl, sym, ap, subst, ◌∙◌}
use mathlib.Core.Bool.{true, false, cond}
use Prim.Native.Nat.{ℕ, ◌+◌, ◌-◌, ◌≤◌, ◌<◌}
use native.Mathlib.Nat.{le_refl}
use native.Mathlib.Omega.{arith}
use lib.Dec.{leb}
use borrow.Author.Tests.{leb-true, eq-eqb, ne_eqb}
use Rattle.std.specs.Prelude.{Ok}
use Rattle.rules.specs.Facts.{Claims, one_if}
use Rattle.rules.specs.Sheets.Sheet.{unit_at, slot_at, counts_at, Sheet, Outcome}
use Rattle.rules.specs.Records.{is_empty, is_work, grant, ceiling, full, blank_unit, blank_slot, State, Idle, Active, Waiting, Kind, Empty, Work, Return, Request, Supply, Action, Unknown, Start, Send, RequestStep, Deliver, Rest, Tick, Release, Move, OnSlot, OnBoth, UnitRecord, Slot, StepRecord}
use Rattle.rules.specs.Sheets.Sound.{state_row, pending_in, Sound, kind_row_on}
use Rattle.rules.specs.Letters.{slot_of}
use Rattle.rules.specs.Effects.{share, with_weight, shared, message, returned, waiting_with, worked, supplied, deliver_effect, return_effect, created_by, processed_by, counted}
use Rattle.rules.specs.Sheets.Steps.{unit_of, done_on, step}
use Rattle.rules.proofs.FactLaws.{by_test}
use Rattle.rules.proofs.Sheets.SoundLaws.{root_or_other, lower_fits, parent_below, weights_fit, created_most}
use Rattle.rules.proofs.Sheets.Changes.{Fits, CountsFit, FitsEffect, CountsFitEffect, unit_change, slot_change, effect_sound}
use Rattle.rules.proofs.Sheets.EntryLaws.{active_is, waiting_is, empty_is, state_row_lem, unit_row_as, slot_row_as, pending_as, suspended_active, pending_suspended, idle_at_zero}
use Rattle.rules.proofs.Sheets.Accepted.{AcceptedAs, shown, shown_grant}

-- a weight w splits: its share g is at least 1 and leaves at least 1
abbrev Splits : ℕ → ℕ → Type 0
Splits w g = (1 ≤ g) × (g + 1 ≤ w)

-- one share from a least weight on, another below it
from_least : {least g h : ℕ} (w : ℕ) → (least ≤ w → Splits w g) → Splits w h → Splits w (cond (leb least w) g h)
from_least {least} {g} {h} w above below = by_test (λ t. Splits w (cond t g h)) (leb least w) (λ e. above (leb-true least w e)) (λ e. below)

-- a share of a weight of at least 2 is at least 1 and leaves at least 1
pub share_part : (w : ℕ) → 2 ≤ w → (1 ≤ share w) × (share w + 1 ≤ w)
share_part w l = from_least w (λ m. omega (arith, m)) (from_least w (λ m. omega (arith, m)) (omega (arith, l)))

-- ---- the steps
module _ (b : Sheet) (r : StepRecord) (h : Sound b) where
  debt_ceiling : b.debt ≤ ceiling
  debt_ceiling = h.s5_s6_debt.1.0

  first_slot : 0 < b.m
  first_slot = omega (arith, h.s1_sizes)

  start_fits : AcceptedAs b r Start → FitsEffect b r.unit 0 (done_on b r Start)
  start_fits c =
      let idle = unit_row_as b h r.unit Idle (shown 13 c) (idle_at_zero b h (shown 37 c) r.unit (shown 13 c)) in
      unit_change b h r.unit 0 _ grant (shown 13 c) first_slot (omega arith) (sym idle.1.1.0) (omega (arith, idle, shown 37 c)) (omega arith)

  send_fits : AcceptedAs b r Send → FitsEffect b r.unit r.slot (done_on b r Send)
  send_fits c =
      let active = active_is (unit_at b r.unit).state (shown 31 c) in
      let empty = empty_is (slot_at b r.slot).kind (shown 34 c) in
      let part = share_part (unit_at b r.unit).weight (shown 33 c) in
      record {
        unit_used = shown 13 c;
        slot_used = shown 14 c;
        unit_fits_lem = state_row_lem b.delay r.unit (shared (unit_at b r.unit)).unit Active active (omega (arith, part, unit_row_as b h r.unit Active (shown 13 c) active));
        slot_fits_lem = omega (arith, part, c.places);
        pending_here = omega (arith, pending_as r.unit (slot_at b r.slot) Empty empty);
        pending_else = λ i n. sym (pending_as i (slot_at b r.slot) Empty empty);
        weight_kept = omega (arith, part, slot_row_as b h r.slot Empty (shown 14 c) empty);
        debt_fits = debt_ceiling;
      }

  request_fits : AcceptedAs b r RequestStep → FitsEffect b r.unit r.slot (done_on b r RequestStep)
  request_fits c =
      let active = active_is (unit_at b r.unit).state (shown 31 c) in
      let empty = empty_is (slot_at b r.slot).kind (shown 34 c) in
      record {
        unit_used = shown 13 c;
        slot_used = shown 14 c;
        unit_fits_lem = state_row_lem b.delay r.unit _ Active active (unit_row_as b h r.unit Active (shown 13 c) active);
        slot_fits_lem = (shown 13 c, (refl, (refl, tt)));
        pending_here = omega (arith, ap one_if (eq-eqb r.unit r.unit refl), pending_as r.unit (slot_at b r.slot) Empty empty, ap one_if (shown 32 c));
        pending_else = λ i n. ap one_if (ne_eqb r.unit i (λ e. n (sym e))) ∙ sym (pending_as i (slot_at b r.slot) Empty empty);
        weight_kept = omega (arith, slot_row_as b h r.slot Empty (shown 14 c) empty);
        debt_fits = debt_ceiling;
      }

  rest_fits : AcceptedAs b r Rest → FitsEffect b r.unit 0 (done_on b r Rest)
  rest_fits c =
      root_or_other (λ e w. FitsEffect b r.unit 0 (Ok e)) r.unit 0 _ _
      (λ e. unit_change b h r.unit 0 blank_unit _ (shown 13 c) first_slot (refl, (refl, (refl, tt))) (sym (shown 32 c)) (omega (arith, weights_fit b h r.unit 0)) (omega (arith, debt_ceiling)))
      (λ l.
      let active = unit_row_as b h r.unit Active (shown 13 c) (active_is _ (shown 31 c)) in
      unit_change b h r.unit 0 _ b.debt (shown 13 c) first_slot (active.0, (le_refl _, (refl, (l, tt)))) (sym (shown 32 c)) refl debt_ceiling)

  tick_fits : AcceptedAs b r Tick → FitsEffect b r.unit 0 (done_on b r Tick)
  tick_fits c =
      let waiting = waiting_is (unit_at b r.unit).state (shown 38 c) in
      let row = unit_row_as b h r.unit Waiting (shown 13 c) waiting in
      unit_change b h r.unit 0 _ b.debt (shown 13 c) first_slot (state_row_lem b.delay r.unit _ Waiting waiting (row.0, (omega (arith, row), (row.1.1.0, (row.1.1.1.0, tt))))) refl refl debt_ceiling

  release_fits : AcceptedAs b r Release → FitsEffect b r.unit r.slot (done_on b r Release)
  release_fits c =
      let waiting = unit_row_as b h r.unit Waiting (shown 13 c) (waiting_is (unit_at b r.unit).state (shown 38 c)) in
      let empty = empty_is (slot_at b r.slot).kind (shown 34 c) in
      record {
        unit_used = shown 13 c;
        slot_used = shown 14 c;
        unit_fits_lem = (refl, (refl, (refl, tt)));
        slot_fits_lem = omega (arith, waiting, shown 13 c, parent_below b h r.unit waiting.1.1.1.0 (shown 13 c));
        pending_here = omega (arith, pending_as r.unit (slot_at b r.slot) Empty empty, ap one_if waiting.1.1.0);
        pending_else = λ i n. sym (pending_as i (slot_at b r.slot) Empty empty);
        weight_kept = omega (arith, slot_row_as b h r.slot Empty (shown 14 c) empty);
        debt_fits = debt_ceiling;
      }

  move_fits : AcceptedAs b r Move → FitsEffect b r.unit 0 (done_on b r Move)
  move_fits c = (shown 13 c, first_slot, lower_fits r.unit r.other (shown 47 c))

  -- ---- deliver, by the kind of the message
  module _ (c : AcceptedAs b r Deliver) where
    abbrev y : Slot
    y = slot_at b r.slot

    abbrev x : UnitRecord
    x = unit_at b y.to

    used : r.slot < b.m
    used = shown 14 c

    -- the slot is emptied: what changes of the weights and of what is pending
    emptied : (z : UnitRecord) → y.to < b.n → Claims (state_row b.delay y.to z z.state) → one_if x.suspended ≡ pending_in y.to y y.kind + one_if z.suspended
        → ((i : ℕ) → (i ≡ y.to → ⊥) → 0 ≡ pending_in i y y.kind) → z.weight ≡ x.weight + y.weight → Fits b y.to r.slot z blank_slot b.debt
    emptied z l row here else w = record {
      unit_used = l;
      slot_used = used;
      unit_fits_lem = row;
      slot_fits_lem = omega arith;
      pending_here = omega (arith, here);
      pending_else = else;
      weight_kept = omega (arith, w);
      debt_fits = debt_ceiling;
    }

    -- work and returns are never pending
    unmoved : (k : Kind) → y.kind ≡ k → ((i : ℕ) → pending_in i y k ≡ 0) → (i : ℕ) → 0 ≡ pending_in i y y.kind
    unmoved k e none i = sym (pending_as i y k e ∙ none i)

    work_fits : y.kind ≡ Work → FitsEffect b y.to r.slot (Ok (OnBoth (worked x y.weight) blank_slot b.debt))
    work_fits e =
        let row = slot_row_as b h r.slot Work used e in
        emptied (worked x y.weight) row.1.0 (omega (arith, row)) (omega (arith, unmoved Work e (λ i. refl) y.to)) (λ i n. unmoved Work e (λ k. refl) i) refl

    supply_fits : y.kind ≡ Supply → FitsEffect b y.to r.slot (Ok (OnBoth (supplied x y.weight) blank_slot b.debt))
    supply_fits e =
        let row = slot_row_as b h r.slot Supply used e in
        let here : pending_in y.to y y.kind ≡ 1 = pending_as y.to y Supply e ∙ ap one_if (eq-eqb y.to y.to refl) in
        let suspended = pending_suspended b h r.slot y.to row.1.0 here in
        let active = suspended_active b h y.to row.1.0 suspended in
        emptied (supplied x y.weight) row.1.0 (state_row_lem b.delay y.to (supplied x y.weight) Active active (omega (arith, row, unit_row_as b h y.to Active row.1.0 active)))
        (omega (arith, here, ap one_if suspended)) (λ i n. sym (pending_as i y Supply e ∙ ap one_if (ne_eqb y.to i (λ q. n (sym q))))) refl

    granted_fits : y.kind ≡ Request → FitsEffect b y.to r.slot (Ok (OnSlot (message Supply 0 y.from grant) (b.debt + grant)))
    granted_fits e =
        let row = slot_row_as b h r.slot Request used e in
        slot_change b h y.to r.slot (message Supply 0 y.from grant) (b.debt + grant) (omega (arith, row, h.s1_sizes)) used (refl, (row.0, (refl, tt))) (λ i. sym (pending_as i y Request e))
        (omega (arith, row)) (shown_grant c e)

    module _ (e : y.kind ≡ Return) where
      return_row : Claims (kind_row_on b y Return)
      return_row = slot_row_as b h r.slot Return used e

      receiver : y.to < b.n
      receiver = omega (arith, return_row)

      kept : (i : ℕ) → 0 ≡ pending_in i y y.kind
      kept = unmoved Return e (λ i. refl)

      -- an idle or waiting receiver waits, whatever its countdown is then: at most the delay
      waits_fits : (k : ℕ) → k ≤ b.delay → 1 ≤ y.to → x.suspended ≡ false → Fits b y.to r.slot (waiting_with (x.weight + y.weight) k) blank_slot b.debt
      waits_fits k l p free =
          emptied _ receiver (omega (arith, return_row), (l, (refl, (p, tt)))) (omega (arith, ap one_if free, kept y.to)) (λ i n. kept i) refl

      returned_fits : 1 ≤ y.to → (k : State) → x.state ≡ k → Fits b y.to r.slot (returned b.delay x y.weight k) blank_slot b.debt
      returned_fits l Idle q =
          let idle = unit_row_as b h y.to Idle receiver q in
          waits_fits _ (omega (arith, idle)) l idle.1.1.0
      returned_fits l Active q =
          emptied _ receiver (state_row_lem b.delay y.to (with_weight x (x.weight + y.weight)) Active q (omega (arith, return_row, unit_row_as b h y.to Active receiver q)))
          (omega (arith, kept y.to)) (λ i n. kept i) refl
      returned_fits l Waiting q =
          let waiting = unit_row_as b h y.to Waiting receiver q in
          waits_fits _ (omega (arith, waiting)) l waiting.1.1.0

      return_fits : FitsEffect b y.to r.slot (Ok (return_effect b.debt b.delay x y))
      return_fits =
          root_or_other (λ z w. FitsEffect b y.to r.slot (Ok z)) y.to 0 _ _
          (λ q. slot_change b h y.to r.slot blank_slot (b.debt - y.weight) receiver used (omega arith) kept (omega (arith, weights_fit b h 0 r.slot)) (omega (arith, debt_ceiling)))
          (λ l. returned_fits l x.state refl)

    deliver_fits : FitsEffect b y.to r.slot (done_on b r Deliver)
    deliver_fits =
        elim y.kind as (λ k. y.kind ≡ k → FitsEffect b y.to r.slot (deliver_effect b.debt b.delay x y k)) [
          | Empty ↦ λ e. tt
          | Work ↦ work_fits
          | Return ↦ return_fits
          | Request ↦ granted_fits
          | Supply ↦ supply_fits
        ] refl

  pub step_fits : (a : Action) → AcceptedAs b r a → FitsEffect b (unit_of b r a) (slot_of r a) (done_on b r a)
  step_fits Unknown c = tt
  step_fits Start c = start_fits c
  step_fits Send c = send_fits c
  step_fits RequestStep c = request_fits c
  step_fits Deliver c = deliver_fits c
  step_fits Rest c = rest_fits c
  step_fits Tick c = tick_fits c
  step_fits Release c = release_fits c
  step_fits Move c = move_fits c

  -- ---- its counts fit: what it creates is processed or under way behind it, and no created count passes its most
  -- what the action creates and the work that was in the slot are what it processes and the work that is there then
  counts_fit_lem : (a : Action) (u s : ℕ) (y : Slot) → (counts_at b u).created + created_by a ≤ full → created_by a + one_if (is_work (slot_at b s).kind) ≡ processed_by (slot_at b s) a + one_if (is_work y.kind)
      → CountsFit b u s y (counted (counts_at b u) (slot_at b s) a)
  counts_fit_lem a u s y l e = record { most = l; balanced = omega (arith, e) }

  -- an action that creates nothing
  nothing_made : (a : Action) (u : ℕ) → created_by a ≡ 0 → (counts_at b u).created + created_by a ≤ full
  nothing_made a u e = omega (arith, created_most b h u, e)

  -- a slot that is delivered holds no work behind it
  delivered : (u : ℕ) (y : Slot) → is_work y.kind ≡ false → CountsFit b u r.slot y (counted (counts_at b u) (slot_at b r.slot) Deliver)
  delivered u y e = counts_fit_lem Deliver u r.slot y (nothing_made Deliver u refl) (rw e (omega arith))

  deliver_counts : (u : ℕ) (k : Kind) → CountsFitEffect b Deliver u r.slot (deliver_effect b.debt b.delay (unit_at b u) (slot_at b r.slot) k)
  deliver_counts u Empty = tt
  deliver_counts u Work = delivered u blank_slot refl
  deliver_counts u Return =
      root_or_other (λ z w. CountsFitEffect b Deliver u r.slot (Ok z)) (slot_at b r.slot).to 0 _ _ (λ e. delivered u blank_slot refl) (λ l. delivered u blank_slot refl)
  deliver_counts u Request = delivered u _ refl
  deliver_counts u Supply = delivered u blank_slot refl

  -- a slot that was empty gets work from a send, something else from a request or a release
  filled : (a : Action) (y : Slot) → is_empty (slot_at b r.slot).kind ≡ true → (counts_at b r.unit).created + created_by a ≤ full → created_by a ≡ processed_by (slot_at b r.slot) a + one_if (is_work y.kind)
      → CountsFit b r.unit r.slot y (counted (counts_at b r.unit) (slot_at b r.slot) a)
  filled a y empty l e =
      let none : one_if (is_work (slot_at b r.slot).kind) ≡ 0 = ap (λ (k : Kind). one_if (is_work k)) (empty_is (slot_at b r.slot).kind empty) in
      counts_fit_lem a r.unit r.slot y l (omega (arith, e, none))

  step_counts : (a : Action) → AcceptedAs b r a → CountsFitEffect b a (unit_of b r a) (slot_of r a) (done_on b r a)
  step_counts Unknown c = tt
  step_counts Start c = counts_fit_lem Start r.unit 0 _ (omega (arith, shown 44 c)) refl
  step_counts Send c = filled Send _ (shown 34 c) (omega (arith, shown 44 c)) refl
  step_counts RequestStep c = filled RequestStep _ (shown 34 c) (nothing_made RequestStep r.unit refl) refl
  step_counts Deliver c = deliver_counts (slot_at b r.slot).to (slot_at b r.slot).kind
  step_counts Rest c =
      root_or_other (λ z w. CountsFitEffect b Rest r.unit 0 (Ok z)) r.unit 0 _ _ (λ e. counts_fit_lem Rest _ 0 _ (nothing_made Rest _ refl) refl) (λ l. counts_fit_lem Rest _ 0 _ (nothing_made Rest _ refl) refl)
  step_counts Tick c = counts_fit_lem Tick r.unit 0 _ (nothing_made Tick r.unit refl) refl
  step_counts Release c = filled Release _ (shown 34 c) (nothing_made Release r.unit refl) refl
  step_counts Move c = counts_fit_lem Move r.unit 0 _ (nothing_made Move r.unit refl) refl

  -- an accepted step keeps a sound sheet sound
  pub accepted_keeps_sound : (a : Action) → AcceptedAs b r a → Sound (step b r).sheet
  accepted_keeps_sound a c = subst (λ (o : Outcome). Sound o.sheet) (sym c.gives) (effect_sound b h a (unit_of b r a) (slot_of r a) (done_on b r a) (step_fits a c) (step_counts a c))
