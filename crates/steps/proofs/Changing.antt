-- A change stored at its places is the step: what the step and each turn of a batch rest on.
use mathlib.Core.Path.{◌≡◌, refl, sym, ap, ◌∙◌}
use mathlib.Core.Bool.{Bool, true, cond, ◌&&◌}
use mathlib.Core.List.{List, ◌++◌}
use Prim.Native.Nat.{ℕ, ◌+◌, ◌≤◌, ◌<◌, ◌^◌, min}
use native.Mathlib.Omega.{arith}
use Rattle.refusals.specs.declared.Refusal.{Refusal}
use Rattle.std.specs.Prelude.{Result, Ok, Err, is_ok}
use Rattle.std.specs.Result.{result_and}
use Rattle.rules.specs.Facts.{Claims, Check, judge}
use Rattle.rules.specs.Records.{full}
use Rattle.rules.specs.declared.UnitRecord.{UnitRecord}
use Rattle.rules.specs.declared.Slot.{Slot}
use Rattle.rules.specs.declared.Rounds.{Rounds}
use Rattle.rules.specs.declared.Board.{Board}
use Rattle.rules.specs.declared.StepRecord.{StepRecord}
use Rattle.rules.specs.declared.Action.{Action}
use Rattle.rules.specs.declared.Action.TheVariants.{Unknown, Start, Send, Request as RequestStep, Deliver, Rest, Tick, Release, Move}
use Rattle.rules.specs.declared.Effect.{Effect}
use Rattle.rules.specs.declared.Counts.{Counts}
use Rattle.rules.specs.declared.Change.{Change}
use Rattle.rules.specs.Actions.{action_of, is_action}
use Rattle.rules.specs.Rounds.{no_round}
use Rattle.rules.specs.Letters.{place_checks, slot_of, unit_by}
use Rattle.rules.specs.Effects.{created_by, processed_by, counted, record_checks, record_effect, record_rule, change_of}
use Rattle.rules.specs.Sheets.Sheet.{Sheet, parent_at, unit_at, slot_at, counts_at}
use Rattle.rules.specs.Sheets.Sound.{Sound as SoundSheet, total}
use Rattle.rules.specs.Sheets.Steps.{unit_of, effect_by, effect, stored, applied, sound_step as sheet_sound_step}
use Rattle.rules.specs.Boards.{view, board_of}
use Rattle.rules.specs.Sound.{Sound, sound}
use Rattle.rules.specs.Steps.{on_board, sound_step, step}
use Rattle.rules.proofs.FactLaws.{asked, fact_shown}
use Rattle.rules.proofs.JudgeLaws.{checks_answer, answered, judge_by_answer, judge_map, judge_same, judge_append}
use Rattle.rules.proofs.SumLaws.{sum_part, sum_most}
use Rattle.rules.proofs.SoundLaws.{sound_claims}
use Rattle.rules.proofs.Sheets.SoundLaws.{created_most}
use Rattle.rules.proofs.Views.{step_sound}
use Rattle.steps.specs.declared.found.Found.{Found}
use Rattle.steps.specs.declared.places.Places.{Places}
use Rattle.steps.specs.Changing.{FoundAt, effect_on, counted_up, change_at, stored_on}
use Rattle.steps.proofs.Clamping.{clamped_step}

-- ---- the effect, where the places are not refused
and_answered : {A : Type 0} (placed : Result (Unit {0}) Refusal) (x : Result A Refusal) → result_and placed x ≡ answered (λ k. Err k) x placed
and_answered (Ok _) x = refl
and_answered (Err k) x = refl

pub effect_placed : (n m debt delay : ℕ) (r : StepRecord) (x : UnitRecord) (p : ℕ) (y : Slot) (made : ℕ) (a : Action) (placed : Result (Unit {0}) Refusal) → placed ≡ checks_answer (place_checks n m r a)
    → result_and placed (record_rule debt delay r x p y made a) ≡ effect_on n m debt delay r x p y made a
effect_placed n m debt delay r x p y made a placed e =
    let rule : Result Effect Refusal = record_rule debt delay r x p y made a in
    and_answered placed rule ∙ ap (answered (λ k. Err k) rule) e ∙ sym (judge_by_answer (λ k. Err k) (place_checks n m r a) rule)

-- ---- counts: where the whole bracket holds, no full count is to grow
-- a judged effect changes alike with counts that are the same where its checks hold
counts_alike : (x : UnitRecord) (p : ℕ) (y : Slot) (debt : ℕ) (k c d : Counts) (cs : List Check) (e : Result Effect Refusal) → (Claims (asked cs) → c ≡ d) → change_of (judge Err cs e) x p y debt k c ≡ change_of (judge Err cs e) x p y debt k d
counts_alike x p y debt k c d cs e same =
    judge_map (λ (f : Result Effect Refusal). change_of f x p y debt k c) Err cs e
    ∙ judge_same (λ j. record { answer = Err j; parent = p; debt = debt; unit = x; slot = y; counts = k }) cs (change_of e x p y debt k c) (change_of e x p y debt k d) (λ q. ap (change_of e x p y debt k) (same q))
    ∙ sym (judge_map (λ (f : Result Effect Refusal). change_of f x p y debt k d) Err cs e)

module _ (n m debt delay : ℕ) (r : StepRecord) (x : UnitRecord) (p : ℕ) (y : Slot) (k : Counts) (most : k.created ≤ full) where
  abbrev row : Action → List Check
  row a = place_checks n m r a ++ record_checks debt x y k.created a

  -- a count that is full is not raised
  not_full : (a : Action) → Claims (asked (row a)) → min (k.created + created_by a) full ≡ k.created + created_by a
  not_full Unknown c = omega (arith, most)
  not_full Start c = omega (arith, fact_shown 44 (row Start) c)
  not_full Send c = omega (arith, fact_shown 44 (row Send) c)
  not_full RequestStep c = omega (arith, most)
  not_full Deliver c = omega (arith, most)
  not_full Rest c = omega (arith, most)
  not_full Tick c = omega (arith, most)
  not_full Release c = omega (arith, most)
  not_full Move c = omega (arith, most)

  pub counted_alike : (a : Action) → change_of (judge Err (place_checks n m r a) (record_rule debt delay r x p y k.created a)) x p y debt k (counted_up k y a)
      ≡ change_of (judge Err (place_checks n m r a) (record_rule debt delay r x p y k.created a)) x p y debt k (counted k y a)
  unfolding record_rule
  counted_alike a =
      ap (λ (e : Result Effect Refusal). change_of e x p y debt k (counted_up k y a)) (sym appended)
      ∙ counts_alike x p y debt k (counted_up k y a) (counted k y a) (row a) (record_effect debt delay r x p y a) (λ c i. record { created = not_full a c i; processed = k.processed + processed_by y a })
      ∙ ap (λ (e : Result Effect Refusal). change_of e x p y debt k (counted k y a)) appended
    where
      appended : judge Err (row a) (record_effect debt delay r x p y a) ≡ judge Err (place_checks n m r a) (judge Err (record_checks debt x y k.created a) (record_effect debt delay r x p y a))
      appended = judge_append Err (place_checks n m r a) (record_checks debt x y k.created a) (record_effect debt delay r x p y a)

-- a processed count of a sound sheet is far below 2^64
pub processed_room : (b : Sheet) → SoundSheet b → (i : ℕ) → (counts_at b i).processed + 1 < 2 ^ 64
unfolding total
processed_room b h i = omega (arith, sum_part (λ j x. x) b.processed i 0 (λ j. refl), h.counts_balance, sum_most (λ j x. x) full b.created 0 (λ j l. created_most b h j), h.s1_sizes)

module _ (b : Sheet) (r : StepRecord) (h : SoundSheet b) (a : Action) (at : Places) (slot-is : at.slot ≡ min (slot_of r a) 255) (unit-is : at.unit ≡ min (unit_by r (slot_at b at.slot).to a) 63) (f : Found) (found : FoundAt b at f) where
  stored_sheet : (c : Change) → c ≡ change_at b.n b.m f.debt f.delay r f.unit f.parent f.slot f.counts a → stored b at.unit at.slot c ≡ applied b a (unit_of b r a) (slot_of r a) (effect_by b r a)
  unfolding applied
  stored_sheet c e =
      ap (stored b at.unit at.slot)
      (e
      ∙ (λ i. change_at b.n b.m (found.debt i) (found.delay i) r (found.unit i) (found.parent i) (found.slot i) (found.counts i) a)
      ∙ counted_alike b.n b.m b.debt b.delay r (unit_at b at.unit) (parent_at b at.unit) (slot_at b at.slot) (counts_at b at.unit) (created_most b h at.unit) a)
      ∙ clamped_step b h r a at.unit at.slot slot-is unit-is

-- ---- on a board
pub stored_step : (b : Board) (r : StepRecord) → sound b ≡ true → (a : Action) → a ≡ action_of r.kind → (at : Places) → at.slot ≡ min (slot_of r a) 255 → at.unit ≡ min (unit_by r (slot_at (view b) at.slot).to a) 63
    → (f : Found) → FoundAt (view b) at f → (c : Change) → c ≡ change_at b.n b.m f.debt f.delay r f.unit f.parent f.slot f.counts a → step b r ≡ stored_on b (action_of r.kind) at c
unfolding sound_step sheet_sound_step effect
stored_step b r t a a-is at slot-is unit-is f found c e =
    let h : Sound b = sound_claims b t in
    step_sound b r h
    ∙ ap (λ (x : Action). on_board b.rounds (action_of r.kind) (applied (view b) x (unit_of (view b) r x) (slot_of r x) (effect_by (view b) r x))) (sym a-is)
    ∙ ap (on_board b.rounds (action_of r.kind)) (sym (stored_sheet (view b) r h.sheet a at slot-is unit-is f found c e))

-- the outcome with the rounds k that the code leaves where its test is u
pub rounds_left : (b : Board) (r : StepRecord) (at : Places) (c : Change) → step b r ≡ stored_on b (action_of r.kind) at c → (t u : Bool) (k : Rounds) → t ≡ (is_ok c.answer && is_action Start (action_of r.kind)) → t ≡ u → cond u no_round b.rounds ≡ k
    → step b r ≡ record { answer = c.answer; board = board_of (stored (view b) at.unit at.slot c).sheet k }
rounds_left b r at c e t u k f g h = e ∙ ap (λ (x : Rounds). record { answer = c.answer; board = board_of (stored (view b) at.unit at.slot c).sheet x }) (ap (λ (q : Bool). cond q no_round b.rounds) (sym f ∙ g) ∙ h)
