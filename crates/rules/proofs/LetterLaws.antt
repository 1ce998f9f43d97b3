-- The letters of a step: their values, the numbers of their checks; a step is the step with the fields 0 that its kind has no letter for.
use mathlib.Core.Path.{◌≡◌, refl, sym, ap, ◌∙◌}
use mathlib.Core.Bool.{cond}
use mathlib.Core.List.{List, [], ◌∷◌}
use Prim.Native.Nat.{ℕ, zero, suc, ◌+◌, ◌<◌, ◌^◌}
use native.Mathlib.Omega.{arith}
use lib.ListN.{length, drop, get_or, drop_of_length-le}
use lib.Seq.{drop-cons}
use Rattle.std.specs.Prelude.{Err}
use Rattle.refusals.specs.declared.Refusal.TheVariants.{NotSound}
use Rattle.rules.specs.Sound.{sound}
use Rattle.rules.specs.Actions.{action_of}
use Rattle.rules.specs.Letters.{Field, unit_field, other_field, slot_field, Letter, letters, read, with_field, values_of, record_from, used_fields, used, slot_of}
use Rattle.rules.specs.Guarantee.{Fits16}
use Rattle.rules.specs.Effects.{record_rule}
use Rattle.rules.specs.Sheets.Sheet.{Sheet, Outcome as SheetOutcome}
use Rattle.rules.specs.Sheets.Steps.{unit_of, effect_by, effect, applied, sound_step as sheet_sound_step}
use Rattle.rules.specs.Boards.{view}
use Rattle.rules.specs.Steps.{on_board, sound_step, step}
use Rattle.rules.specs.Records.{Action, Unknown, Start, Send, RequestStep, Deliver, Rest, Tick, Release, Move, Board, StepRecord, Outcome}

-- the step by the action, whatever the record's kind
abbrev step_by : Sheet → StepRecord → Action → SheetOutcome
step_by b r a = applied b a (unit_of b r a) (slot_of r a) (effect_by b r a)

by_action : (b : Sheet) (r : StepRecord) (a : Action) → step_by b r a ≡ step_by b (used_fields r a) a
unfolding record_rule
by_action b r = elim [ Unknown ↦ refl | Start ↦ refl | Send ↦ refl | RequestStep ↦ refl | Deliver ↦ refl | Rest ↦ refl | Tick ↦ refl | Release ↦ refl | Move ↦ refl ]

pub record_kind : (k i : ℕ) (ls : List Letter) (xs : List ℕ) → (record_from k i ls xs).kind ≡ k
record_kind k i [] xs = refl
record_kind k i (l ∷ ls) xs = put_kind (record_from k (suc i) ls xs) (get_or xs i 0) l.field ∙ record_kind k (suc i) ls xs
  where
    put_kind : (r : StepRecord) (x : ℕ) (f : Field) → (with_field r f x).kind ≡ r.kind
    put_kind r x = elim [ unit_field ↦ refl | other_field ↦ refl | slot_field ↦ refl ]

kind_used : (r : StepRecord) (a : Action) → (used_fields r a).kind ≡ r.kind
kind_used r a = record_kind r.kind 0 (letters a) (values_of r (letters a))

sheet_step_used : (b : Sheet) (r : StepRecord) → sheet_sound_step b r ≡ sheet_sound_step b (used r)
unfolding sheet_sound_step effect used
sheet_step_used b r = by_action b r (action_of r.kind) ∙ ap (λ (k : ℕ). step_by b (used r) (action_of k)) (sym (kind_used r (action_of r.kind)))

pub sound_step_used : (b : Board) (r : StepRecord) → sound_step b r ≡ sound_step b (used r)
unfolding sound_step used
sound_step_used b r =
    ap (λ (o : SheetOutcome). on_board b.rounds (action_of r.kind) o) (sheet_step_used (view b) r)
    ∙ ap (λ (k : ℕ). on_board b.rounds (action_of k) (sheet_sound_step (view b) (used r))) (sym (kind_used r (action_of r.kind)))

pub step_used : (b : Board) (r : StepRecord) → step b r ≡ step b (used r)
unfolding step
step_used b r = ap (λ (o : Outcome). cond (sound b) o (record { answer = Err NotSound; board = b })) (sound_step_used b r)

-- ---- a value for each letter, which is a field's
pub letter_values_length : (r : StepRecord) (ls : List Letter) → length (values_of r ls) ≡ length ls
letter_values_length r [] = refl
letter_values_length r (l ∷ ls) = ap suc (letter_values_length r ls)

pub read_fits : (r : StepRecord) → Fits16 r → (f : Field) → read r f < 2 ^ 16
read_fits r h unit_field = h.unit
read_fits r h other_field = h.other
read_fits r h slot_field = h.slot

-- ---- the other way: a record of values, one for each letter, has these values in its letters' fields
-- n entries from entry i on
abbrev entries_from : ℕ → ℕ → List ℕ → List ℕ
entries_from zero i xs = []
entries_from (suc n) i xs = get_or xs i 0 ∷ entries_from n (suc i) xs

entries_all : (n i : ℕ) (xs : List ℕ) → length xs ≡ i + n → entries_from n i xs ≡ drop i xs
entries_all zero i xs h = sym (drop_of_length-le xs {i = i} (omega (arith, h)))
entries_all (suc n) i xs h = rw (drop-cons xs i 0 (omega (arith, h)), entries_all n (suc i) xs (omega (arith, h)))

values_are : (k : ℕ) (xs : List ℕ) (a : Action) → values_of (record_from k 0 (letters a) xs) (letters a) ≡ entries_from (length (letters a)) 0 xs
values_are k xs = elim [ Unknown ↦ refl | Start ↦ refl | Send ↦ refl | RequestStep ↦ refl | Deliver ↦ refl | Rest ↦ refl | Tick ↦ refl | Release ↦ refl | Move ↦ refl ]

pub values_back : (k : ℕ) (xs : List ℕ) (a : Action) → length xs ≡ length (letters a) → values_of (record_from k 0 (letters a) xs) (letters a) ≡ xs
values_back k xs a h = values_are k xs a ∙ entries_all (length (letters a)) 0 xs (omega (arith, h))

-- and it can be handed over where they can
put_fits : (r : StepRecord) → Fits16 r → (f : Field) (x : ℕ) → x < 2 ^ 16 → Fits16 (with_field r f x)
put_fits r h unit_field x l = record { kind = h.kind; unit = l; other = h.other; slot = h.slot }
put_fits r h other_field x l = record { kind = h.kind; unit = h.unit; other = l; slot = h.slot }
put_fits r h slot_field x l = record { kind = h.kind; unit = h.unit; other = h.other; slot = l }

pub record_fits : (k i : ℕ) (ls : List Letter) (xs : List ℕ) → k < 2 ^ 16 → ((j : ℕ) → get_or xs j 0 < 2 ^ 16) → Fits16 (record_from k i ls xs)
record_fits k i [] xs l h = record { kind = l; unit = omega arith; other = omega arith; slot = omega arith }
record_fits k i (m ∷ ls) xs l h = put_fits (record_from k (suc i) ls xs) (record_fits k (suc i) ls xs l h) m.field (get_or xs i 0) (h i)
