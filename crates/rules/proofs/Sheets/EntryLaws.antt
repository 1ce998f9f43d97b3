-- What a sound board says of a unit whose state is known, and of a slot whose kind is known.
use mathlib.Core.Path.{◌≡◌, refl, sym, ap, subst, ◌∙◌}
use mathlib.Core.Bool.{true, false}
use Prim.Native.Nat.{ℕ, ◌≤◌, ◌<◌}
use native.Mathlib.Nat.{not-suc-le-zero}
use native.Mathlib.Omega.{arith}
use Rattle.rules.specs.Facts.{Claims, one_if}
use Rattle.rules.specs.Records.{is_idle, is_active, is_waiting, is_empty, blank_unit, blank_slot, State, Idle, Active, Waiting, Kind, Empty, Work, Return, Request, Supply, UnitRecord, Slot}
use Rattle.rules.specs.Sheets.Sheet.{unit_at, slot_at, Sheet}
use Rattle.rules.specs.Sheets.Sound.{state_row, pending_in, pending, Sound, kind_row_on}
use Rattle.rules.specs.Effects.{waiting_with}
use Rattle.rules.proofs.FactLaws.{true_not_false, by_test}
use Rattle.rules.proofs.SumLaws.{sum_part}
use Rattle.rules.proofs.Sheets.SoundLaws.{below_or_not, unit_row_lem, unit_past_row, slot_row_lem, slot_past_row, pending_row_lem, weights_fit}

-- ---- from a test of a state or a kind to the state or the kind
pub idle_is : (k : State) → is_idle k ≡ true → k ≡ Idle
idle_is = elim [ Idle ↦ λ e. refl | Active ↦ λ e. cc | Waiting ↦ λ e. cc ]

pub active_is : (k : State) → is_active k ≡ true → k ≡ Active
active_is = elim [ Idle ↦ λ e. cc | Active ↦ λ e. refl | Waiting ↦ λ e. cc ]

pub waiting_is : (k : State) → is_waiting k ≡ true → k ≡ Waiting
waiting_is = elim [ Idle ↦ λ e. cc | Active ↦ λ e. cc | Waiting ↦ λ e. refl ]

pub empty_is : (k : Kind) → is_empty k ≡ true → k ≡ Empty
empty_is = elim [ Empty ↦ λ e. refl | Work ↦ λ e. cc | Return ↦ λ e. cc | Request ↦ λ e. cc | Supply ↦ λ e. cc ]

-- ---- the rows of a record whose state or kind is known
pub state_row_lem : (d i : ℕ) (x : UnitRecord) (k : State) → x.state ≡ k → Claims (state_row d i x k) → Claims (state_row d i x x.state)
state_row_lem d i x k e c = subst (λ (j : State). Claims (state_row d i x j)) (sym e) c

pub unit_row_as : (b : Sheet) → Sound b → (i : ℕ) (k : State) → i < b.n → (unit_at b i).state ≡ k → Claims (state_row b.delay i (unit_at b i) k)
unit_row_as b h i k l e = subst (λ (j : State). Claims (state_row b.delay i (unit_at b i) j)) e (unit_row_lem b h i l)

pub slot_row_as : (b : Sheet) → Sound b → (s : ℕ) (k : Kind) → s < b.m → (slot_at b s).kind ≡ k → Claims (kind_row_on b (slot_at b s) k)
slot_row_as b h s k l e = subst (λ (j : Kind). Claims (kind_row_on b (slot_at b s) j)) e (slot_row_lem b h s l)

-- an idle unit is blank, an empty slot too, in use or not; a waiting unit has its weight and its countdown alone
pub idle_blank : (b : Sheet) → Sound b → (i : ℕ) → (unit_at b i).state ≡ Idle → unit_at b i ≡ blank_unit
idle_blank b h i e =
    let row : Claims (state_row b.delay i (unit_at b i) Idle) = below_or_not i b.n (λ l. unit_row_as b h i Idle l e) (λ l. (unit_past_row b h i l).1) in
    λ z. record { weight = row.0 z; countdown = row.1.0 z; state = e z; suspended = row.1.1.0 z }

pub empty_blank : (b : Sheet) → Sound b → (j : ℕ) → (slot_at b j).kind ≡ Empty → slot_at b j ≡ blank_slot
empty_blank b h j e =
    let row : Claims (kind_row_on b (slot_at b j) Empty) = below_or_not j b.m (λ l. slot_row_as b h j Empty l e) (λ l. (slot_past_row b h j l).1) in
    λ z. record { weight = row.1.1.0 z; from = row.0 z; to = row.1.0 z; kind = e z }

pub waiting_with_lem : (b : Sheet) → Sound b → (i : ℕ) → i < b.n → (unit_at b i).state ≡ Waiting → unit_at b i ≡ waiting_with (unit_at b i).weight (unit_at b i).countdown
waiting_with_lem b h i l e =
    let row : Claims (state_row b.delay i (unit_at b i) Waiting) = unit_row_as b h i Waiting l e in
    λ z. record { weight = (unit_at b i).weight; countdown = (unit_at b i).countdown; state = e z; suspended = row.1.1.0 z }

-- a waiting unit is in use, and so is a filled slot
pub waiting_in_use : (b : Sheet) → Sound b → (i : ℕ) → (unit_at b i).state ≡ Waiting → i < b.n
waiting_in_use b h i e = below_or_not i b.n (λ l. l) (λ l. absurd (true_not_false (sym (unit_past_row b h i l).0 ∙ ap is_idle e)))

pub filled_in_use : (b : Sheet) → Sound b → (j : ℕ) → is_empty (slot_at b j).kind ≡ false → j < b.m
filled_in_use b h j e = below_or_not j b.m (λ l. l) (λ l. absurd (true_not_false (sym (slot_past_row b h j l).0 ∙ e)))

pub pending_as : (i : ℕ) (y : Slot) (k : Kind) → y.kind ≡ k → pending_in i y y.kind ≡ pending_in i y k
pending_as i y k e = ap (pending_in i y) e

-- ---- a suspended unit is active; a unit with a request or a supply pending is suspended
pub suspended_active : (b : Sheet) → Sound b → (i : ℕ) → i < b.n → (unit_at b i).suspended ≡ true → (unit_at b i).state ≡ Active
suspended_active b h i l e =
    elim (unit_at b i).state as (λ k. (unit_at b i).state ≡ k → (unit_at b i).state ≡ Active) [
      | Idle ↦ λ q. absurd (true_not_false (sym e ∙ (unit_row_as b h i Idle l q).1.1.0))
      | Active ↦ λ q. q
      | Waiting ↦ λ q. absurd (true_not_false (sym e ∙ (unit_row_as b h i Waiting l q).1.1.0))
    ] refl

pub pending_suspended : (b : Sheet) → Sound b → (s i : ℕ) → i < b.n → pending_in i (slot_at b s) (slot_at b s).kind ≡ 1 → (unit_at b i).suspended ≡ true
unfolding pending
pending_suspended b h s i p e =
    by_test (λ t. 1 ≤ one_if t → t ≡ true) (unit_at b i).suspended (λ q l. refl) (λ q l. absurd (not-suc-le-zero l))
    (omega (arith, sum_part (λ j y. pending_in i y y.kind) b.slots s blank_slot (λ k. refl), pending_row_lem b h i (omega (arith, h.s1_sizes, p)), e))

-- ---- with nothing out, a unit in use has no weight, so it is neither active nor waiting
pub idle_at_zero : (b : Sheet) → Sound b → b.debt ≡ 0 → (i : ℕ) → i < b.n → (unit_at b i).state ≡ Idle
idle_at_zero b h e i l =
    let none : (unit_at b i).weight ≡ 0 = omega (arith, weights_fit b h i 0, e) in
    elim (unit_at b i).state as (λ k. (unit_at b i).state ≡ k → (unit_at b i).state ≡ Idle) [
      | Idle ↦ λ q. q
      | Active ↦ λ q. absurd (omega (arith, unit_row_as b h i Active l q, none))
      | Waiting ↦ λ q. absurd (omega (arith, unit_row_as b h i Waiting l q, none))
    ] refl

-- ---- a message's receiver is a unit in use
pub receiver_in_use : (b : Sheet) → Sound b → (j : ℕ) → j < b.m → (slot_at b j).to < b.n
receiver_in_use b h j l =
    elim (slot_at b j).kind as (λ k. Claims (kind_row_on b (slot_at b j) k) → (slot_at b j).to < b.n) [
      | Empty ↦ λ p. omega (arith, h.s1_sizes, p)
      | Work ↦ λ p. p.1.0
      | Return ↦ λ p. omega (arith, p)
      | Request ↦ λ p. omega (arith, h.s1_sizes, p)
      | Supply ↦ λ p. p.1.0
    ] (slot_row_lem b h j l)
