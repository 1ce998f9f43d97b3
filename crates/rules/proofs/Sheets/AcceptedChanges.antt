-- An accepted step leaves the board as it was only where it is a move under the parent that the unit has: the debt, the unit, the slot or
-- the parent differs from what stood there. Of a move nothing else does.
use mathlib.Core.Path.{◌≡◌, refl, sym, ap, ◌∙◌}
use mathlib.Core.Bool.{true, false}
use mathlib.Core.List.{List}
use Prim.Native.Nat.{ℕ, ◌+◌, ◌<◌}
use native.Mathlib.Omega.{arith}
use lib.ListN.{length, get_or, set}
use lib.Seq.{get_or-set_same, set-get_or}
use Rattle.refusals.specs.declared.Refusal.{Refusal}
use Rattle.std.specs.Prelude.{Result, Ok}
use Rattle.refusals.specs.Numbers.{number_of}
use Rattle.rules.specs.Records.{is_active, is_empty, is_request, blank_unit, blank_slot, Kind, Empty, Work, Return, Request, Supply, Action, Unknown, Start, Send, RequestStep, Deliver, Rest, Tick, Release, Move, Effect, UnitRecord, Slot, StepRecord}
use Rattle.rules.specs.Sheets.Sheet.{parent_at, unit_at, slot_at, Sheet, Outcome}
use Rattle.rules.specs.Sheets.Sound.{Sound}
use Rattle.rules.specs.Actions.{action_of}
use Rattle.rules.specs.Letters.{slot_of}
use Rattle.rules.specs.Sheets.Steps.{unit_of, done_on, changed, applied, step}
use Rattle.rules.specs.Effects.{deliver_effect}
use Rattle.rules.proofs.FactLaws.{true_not_false}
use Rattle.rules.proofs.Sheets.SoundLaws.{root_or_other}
use Rattle.rules.proofs.Sheets.Accepted.{AcceptedAs, shown, accepted_sound, accepted_as}

-- where a list stays as it was, what is stored stood there before
entry_stays : {A : Type 0} (xs : List A) (i : ℕ) (a d : A) → i < length xs → set xs i a ≡ xs → a ≡ get_or xs i d
entry_stays {A} xs i a d l e = sym (get_or-set_same xs i a d l) ∙ ap (λ (ys : List A). get_or ys i d) e

module _ (b : Sheet) (r : StepRecord) (h : Sound b) where
  unit_stays : (u : ℕ) (x : UnitRecord) → u < b.n → set b.units u x ≡ b.units → x ≡ unit_at b u
  unit_stays u x l e = entry_stays b.units u x blank_unit (omega (arith, h.s1_sizes, l)) e

  slot_stays : (s : ℕ) (y : Slot) → s < b.m → set b.slots s y ≡ b.slots → y ≡ slot_at b s
  slot_stays s y l e = entry_stays b.slots s y blank_slot (omega (arith, h.s1_sizes, l)) e

  -- a slot that was empty is filled
  fills : (s : ℕ) (y : Slot) → s < b.m → is_empty (slot_at b s).kind ≡ true → is_empty y.kind ≡ false → set b.slots s y ≡ b.slots → ⊥
  fills s y l before after e = true_not_false (sym before ∙ sym (ap (λ (z : Slot). is_empty z.kind) (slot_stays s y l e)) ∙ after)

  -- a slot that was filled is emptied
  empties : (s : ℕ) → s < b.m → is_empty (slot_at b s).kind ≡ false → set b.slots s blank_slot ≡ b.slots → ⊥
  empties s l before e = true_not_false (ap (λ (z : Slot). is_empty z.kind) (slot_stays s blank_slot l e) ∙ before)

  -- an active unit is no longer active
  quiets : (u : ℕ) (x : UnitRecord) → u < b.n → is_active (unit_at b u).state ≡ true → is_active x.state ≡ false → set b.units u x ≡ b.units → ⊥
  quiets u x l before after e = true_not_false (sym before ∙ sym (ap (λ (z : UnitRecord). is_active z.state) (unit_stays u x l e)) ∙ after)

  -- ---- each action
  -- the effect at these places leaves the board as it was
  abbrev Stays : Action → ℕ → ℕ → Result Effect Refusal → Type 0
  Stays a u s e = (applied b a u s e).sheet ≡ b

  deliver_changes : AcceptedAs b r Deliver → (k : Kind) → (slot_at b r.slot).kind ≡ k
      → Stays Deliver (slot_at b r.slot).to r.slot (deliver_effect b.debt b.delay (unit_at b (slot_at b r.slot).to) (slot_at b r.slot) k) → ⊥
  unfolding applied
  deliver_changes c Empty q e = true_not_false (sym (ap is_empty q) ∙ shown 35 c)
  deliver_changes c Work q e = empties r.slot (shown 14 c) (shown 35 c) (ap (λ (d : Sheet). d.slots) e)
  deliver_changes c Return q e =
      root_or_other (λ z w. Stays Deliver (slot_at b r.slot).to r.slot (Ok z) → ⊥) (slot_at b r.slot).to 0 _ _ (λ u p. empties r.slot (shown 14 c) (shown 35 c) (ap (λ (d : Sheet). d.slots) p))
      (λ l p. empties r.slot (shown 14 c) (shown 35 c) (ap (λ (d : Sheet). d.slots) p)) e
  deliver_changes c Request q e = true_not_false (sym (ap is_request q) ∙ sym (ap (λ (z : Slot). is_request z.kind) (slot_stays r.slot _ (shown 14 c) (ap (λ (d : Sheet). d.slots) e))))
  deliver_changes c Supply q e = empties r.slot (shown 14 c) (shown 35 c) (ap (λ (d : Sheet). d.slots) e)

  rest_changes : AcceptedAs b r Rest → Stays Rest r.unit 0 (done_on b r Rest) → ⊥
  unfolding applied
  rest_changes c =
      root_or_other (λ z w. Stays Rest r.unit 0 (Ok z) → ⊥) r.unit 0 _ _ (λ u e. quiets r.unit _ (shown 13 c) (shown 31 c) refl (ap (λ (d : Sheet). d.units) e))
      (λ l e. quiets r.unit _ (shown 13 c) (shown 31 c) refl (ap (λ (d : Sheet). d.units) e))

  -- only a move under the parent that the unit has
  changes : (a : Action) → AcceptedAs b r a → Stays a (unit_of b r a) (slot_of r a) (done_on b r a) → (a ≡ Move) × (r.other ≡ parent_at b r.unit)
  unfolding applied
  changes Unknown c e = absurd (true_not_false (sym (shown 16 c)))
  changes Start c e = absurd (omega (arith, shown 37 c, ap (λ (d : Sheet). d.debt) e))
  changes Send c e = absurd (fills r.slot _ (shown 14 c) (shown 34 c) refl (ap (λ (d : Sheet). d.slots) e))
  changes RequestStep c e = absurd (fills r.slot _ (shown 14 c) (shown 34 c) refl (ap (λ (d : Sheet). d.slots) e))
  changes Deliver c e = absurd (deliver_changes c (slot_at b r.slot).kind refl e)
  changes Rest c e = absurd (rest_changes c e)
  changes Tick c e = absurd (omega (arith, shown 39 c, ap (λ (x : UnitRecord). x.countdown) (unit_stays r.unit _ (shown 13 c) (ap (λ (d : Sheet). d.units) e))))
  changes Release c e = absurd (fills r.slot _ (shown 14 c) (shown 34 c) refl (ap (λ (d : Sheet). d.slots) e))
  changes Move c e = (refl, entry_stays b.parents r.unit r.other 0 (omega (arith, h.s1_sizes, shown 13 c)) (ap (λ (d : Sheet). d.parents) e))

pub accepted_changes : (b : Sheet) (r : StepRecord) → number_of (step b r).answer ≡ 0 → (step b r).sheet ≡ b → (action_of r.kind ≡ Move) × (r.other ≡ parent_at b r.unit)
accepted_changes b r z e =
    let h : Sound b = accepted_sound b r z in
    let c = accepted_as b r h (action_of r.kind) refl z in
    changes b r h (action_of r.kind) c (sym (ap (λ (o : Outcome). o.sheet) c.gives) ∙ e)

-- ---- an accepted move: all else is stored where it stood
-- a count with nothing added
pub none_counted : (ks : List ℕ) (u k : ℕ) → k ≡ 0 → set ks u (get_or ks u 0 + k) ≡ ks
none_counted ks u k e = ap (set ks u) (omega arith) ∙ set-get_or ks u 0

pub move_does : (b : Sheet) (r : StepRecord) → AcceptedAs b r Move → (step b r).sheet ≡ changed b (set b.parents r.unit r.other) b.units b.slots b.debt b.created b.processed
unfolding applied
move_does b r c =
    ap (λ (o : Outcome). o.sheet) c.gives
    ∙ rw (set-get_or b.units r.unit blank_unit, set-get_or b.slots 0 blank_slot, none_counted b.created r.unit 0 refl, none_counted b.processed r.unit 0 refl)
