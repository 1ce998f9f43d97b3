-- Two neighbouring checks exchanged: of any row, and of a send's bracket.
use mathlib.Core.Path.{◌≡◌, refl, sym, ap, ◌∙◌}
use mathlib.Core.Bool.{Bool, true, false, not, cond, ◌&&◌}
use mathlib.Core.List.{List, [], ◌∷◌, ◌++◌}
use Prim.Native.Nat.{ℕ, zero, suc, ◌<◌}
use native.Mathlib.Nat.{le_of_suc-le-suc, not-suc-le-zero}
use native.Mathlib.Omega.{arith}
use lib.Dec.{eqb}
use borrow.Author.Tests.{eq-eqb, leb-true, leb-false, not-true}
use Rattle.refusals.specs.declared.Refusal.{Refusal}
use Rattle.std.specs.Prelude.{Result, Ok, Err}
use Rattle.refusals.specs.Numbers.{number, number_of}
use Rattle.refusals.specs.declared.Refusal.TheVariants.{NotSound, TooLight, SlotFilled}
use Rattle.refusals.proofs.NumberLaws.{refused_above_zero}
use Rattle.rules.specs.Facts.{Fact, test, Check, check, judge}
use Rattle.rules.specs.Sound.{sound}
use Rattle.rules.specs.Actions.{action_of}
use Rattle.rules.specs.Letters.{slot_of}
use Rattle.rules.specs.Effects.{record_rule}
use Rattle.rules.specs.Sheets.Sheet.{Sheet, unit_at, slot_at, Outcome as SheetOutcome}
use Rattle.rules.specs.Sheets.Steps.{unit_of, made_at, places_on, checks_on, done_on, effect_by, effect, applied, sound_step as sheet_sound_step}
use Rattle.rules.specs.Boards.{view, board_of}
use Rattle.rules.specs.Steps.{on_board, sound_step, step}
use Rattle.rules.specs.Exchanges.{exchanged, both_fail, refusal_at, Exchanged, RowsExchanged, bracket, step_under, place_by, send_as_before, AnswersNow, becomes33, stays, SendsReordered}
use Rattle.rules.proofs.FactLaws.{and_left, and_right, true_not_false, by_test, fact_by}
use Rattle.rules.proofs.JudgeLaws.{checks_answer, judge_map, judge_append, judge_refused}
use Rattle.rules.proofs.Views.{rounds_stay}
use Rattle.rules.proofs.Sheets.Changes.{judged_applied}
use Rattle.rules.specs.Records.{Action, Send, Board, StepRecord, Outcome}

-- ---- of any row
-- checks 0 and 1 fail, so check 0 does
zero_fails : (f : Fact) (j : Refusal) (cs : List Check) → both_fail 0 (check f j ∷ cs) ≡ true → test f ≡ false
zero_fails f j [] e = absurd (true_not_false (sym e))
zero_fails f j (check g k ∷ cs) e = not-true (test f) (and_left (not (test f)) (not (test g)) e)

-- two tests in either order differ only where both are false
either_order : {A : Type 0} (s t : Bool) (x y z : A) → not s && not t ≡ false → cond t (cond s x y) z ≡ cond s (cond t x z) y
either_order true t x y z e = elim t [ true ↦ refl | false ↦ refl ]
either_order false true x y z e = refl
either_order false false x y z e = absurd (true_not_false e)

module _ {A : Type 0} (refused : Refusal → A) (result : A) where
  abbrev judgement : List Check → A
  judgement cs = judge refused cs result

  passes : (f : Fact) (k : Refusal) (cs : List Check) → test f ≡ true → judgement (check f k ∷ cs) ≡ judgement cs
  passes f k cs e = rw e

  -- the refusal that the row gives, and the one that the exchanged row gives
  both_given : (i : ℕ) (cs : List Check) → both_fail i cs ≡ true → (judgement cs ≡ refused (refusal_at i cs)) × (judgement (exchanged i cs) ≡ refused (refusal_at (suc i) cs))
  both_given i [] e = absurd (true_not_false (sym e))
  both_given zero (c ∷ []) e = absurd (true_not_false (sym e))
  both_given zero (check f j ∷ check g k ∷ cs) e = (rw (zero_fails f j (check g k ∷ cs) e), rw (not-true (test g) (and_right (not (test f)) (not (test g)) e)))
  both_given (suc i) (check f j ∷ cs) e =
      let held = and_left (test f) (both_fail i cs) e in
      let given = both_given i cs (and_right (test f) (both_fail i cs) e) in (passes f j cs held ∙ given.0, passes f j (exchanged i cs) held ∙ given.1)

  others_same : (i : ℕ) (cs : List Check) → both_fail i cs ≡ false → judgement (exchanged i cs) ≡ judgement cs
  others_same i [] e = refl
  others_same zero (c ∷ []) e = refl
  others_same zero (check f j ∷ check g k ∷ cs) e = either_order (test f) (test g) (judgement cs) (refused j) (refused k) e
  others_same (suc i) (check f j ∷ cs) e =
      by_test (λ t. t && both_fail i cs ≡ false → cond t (judgement (exchanged i cs)) (refused j) ≡ cond t (judgement cs) (refused j)) (test f) (λ s. others_same i cs) (λ s q. refl) e

pub rows_exchanged : RowsExchanged
rows_exchanged A refused cs result i = record {
  first = λ e. (both_given refused result i cs e).0;
  second = λ e. (both_given refused result i cs e).1;
  others = others_same refused result i cs;
}

-- ---- the fact of the first check with number j
-- where that check and the one behind it fail, it fails
both_first : (j : ℕ) (cs : List Check) → both_fail (place_by j cs) cs ≡ true → test (fact_by j cs) ≡ false
both_first j [] e = absurd (true_not_false (sym e))
both_first j (check f l ∷ cs) e =
    by_test (λ t. both_fail (cond t 0 (suc (place_by j cs))) (check f l ∷ cs) ≡ true → test (cond t f (fact_by j cs)) ≡ false) (eqb (number l) j) (λ s. zero_fails f l cs)
    (λ s q. both_first j cs (and_right (test f) (both_fail (place_by j cs) cs) q)) e

-- where a row refuses by k and j stands before k in it, it holds
before_holds : (j k : ℕ) (cs : List Check) → number_of (checks_answer cs) ≡ k → place_by j cs < place_by k cs → test (fact_by j cs) ≡ true
before_holds j k [] e l = refl
before_holds j k (check f n ∷ cs) e l = by_tests (eqb (number n) k) (eqb (number n) j) (test f) refl refl e l (before_holds j k cs)
  where
    by_tests : (s t v : Bool) → eqb (number n) k ≡ s → test f ≡ v → number_of (cond v (checks_answer cs) (Err n)) ≡ k → cond t 0 (suc (place_by j cs)) < cond s 0 (suc (place_by k cs)) → (number_of (checks_answer cs) ≡ k → place_by j cs < place_by k cs → test (fact_by j cs) ≡ true) → test (cond t f (fact_by j cs)) ≡ true
    by_tests true t v s-is v-is q p others = absurd (not-suc-le-zero p)
    by_tests false t false s-is v-is q p others = absurd (true_not_false (sym (eq-eqb (number n) k q) ∙ s-is))
    by_tests false true true s-is v-is q p others = v-is
    by_tests false false true s-is v-is q p others = others q (le_of_suc-le-suc p)

-- ---- a step is judged by its whole bracket
abbrev refused_on : Board → Refusal → Outcome
refused_on b k = record { answer = Err k; board = b }

abbrev sheet_does : Sheet → StepRecord → Action → SheetOutcome
sheet_does b r a = applied b a (unit_of b r a) (slot_of r a) (done_on b r a)

abbrev does : Board → StepRecord → Action → Outcome
does b r a = on_board b.rounds a (sheet_does (view b) r a)

-- the bracket without 30
abbrev row_on : Sheet → StepRecord → Action → List Check
row_on b r a = places_on b r a ++ checks_on b r a

-- of its sheet
sheet_bracket : (b : Sheet) (r : StepRecord) (a : Action) → action_of r.kind ≡ a → sheet_sound_step b r ≡ judge (λ k. record { answer = Err k; sheet = b }) (row_on b r a) (sheet_does b r a)
unfolding sheet_sound_step effect record_rule
sheet_bracket b r a named =
    ap (λ (c : Action). applied b c (unit_of b r c) (slot_of r c) (effect_by b r c)) named
    ∙ ap (applied b a (unit_of b r a) (slot_of r a)) (sym (judge_append Err (places_on b r a) (checks_on b r a) (done_on b r a)))
    ∙ judged_applied b a (unit_of b r a) (slot_of r a) (row_on b r a) (done_on b r a)

step_bracket : (b : Board) (r : StepRecord) (a : Action) → action_of r.kind ≡ a → step b r ≡ step_under (bracket b r a) b r a
unfolding step sound_step
step_bracket b r a named = ap (λ (o : Outcome). cond (sound b) o (refused_on b NotSound)) (by_sheet ∙ refusals)
  where
    by_sheet : sound_step b r ≡ judge (λ k. on_board b.rounds a (record { answer = Err k; sheet = view b })) (row_on (view b) r a) (does b r a)
    by_sheet =
        ap (λ (c : Action). on_board b.rounds c (sheet_sound_step (view b) r)) named ∙ ap (on_board b.rounds a) (sheet_bracket (view b) r a named)
        ∙ judge_map (on_board b.rounds a) (λ k. record { answer = Err k; sheet = view b }) (row_on (view b) r a) (sheet_does (view b) r a)

    -- a refusal keeps the rounds
    refusals : judge (λ k. on_board b.rounds a (record { answer = Err k; sheet = view b })) (row_on (view b) r a) (does b r a) ≡ judge (refused_on b) (row_on (view b) r a) (does b r a)
    refusals = judge_refused _ (refused_on b) (row_on (view b) r a) (does b r a) (λ k i. record { answer = Err k; board = board_of (view b) (rounds_stay (Err k) a b.rounds (refused_above_zero k) i) })

-- ---- a send
module _ (b : Board) (r : StepRecord) (named : action_of r.kind ≡ Send) where
  abbrev cs : List Check
  cs = bracket b r Send

  abbrev weight : ℕ
  weight = (unit_at (view b) r.unit).weight

  abbrev exchange : Exchanged (refused_on b) cs (does b r Send) (place_by 33 cs)
  exchange = rows_exchanged Outcome (refused_on b) cs (does b r Send) (place_by 33 cs)

  answers_by_checks : (step_under cs b r Send).answer ≡ checks_answer cs
  unfolding applied
  answers_by_checks = judge_map (λ (o : Outcome). o.answer) (refused_on b) cs (does b r Send)

  by_both : (t : Bool) → both_fail (place_by 33 cs) cs ≡ t → AnswersNow b r (number_of (send_as_before b r).answer) × ((step b r).board ≡ (send_as_before b r).board)
  by_both true e =
      let now : step b r ≡ refused_on b TooLight = step_bracket b r Send named ∙ exchange.first e in
      let before : send_as_before b r ≡ refused_on b SlotFilled = exchange.second e in (
        becomes33 (ap (λ (o : Outcome). number_of o.answer) before) (leb-false 2 weight (both_first 33 cs e)) (ap (λ (o : Outcome). number_of o.answer) now),
        ap (λ (o : Outcome). o.board) now ∙ sym (ap (λ (o : Outcome). o.board) before),
      )
  by_both false e =
      let same : send_as_before b r ≡ step_under cs b r Send = exchange.others e in
      let now : step b r ≡ send_as_before b r = step_bracket b r Send named ∙ sym same in (
        -- a send that 34 refuses has passed 33
        stays (λ q l. omega (arith, leb-true 2 weight (before_holds 33 34 cs (sym (ap (λ (o : Outcome). number_of o.answer) same ∙ ap (number_of {A = Unit {0}}) answers_by_checks) ∙ q) (omega arith)), l)) (ap (λ (o : Outcome). number_of o.answer) now),
        ap (λ (o : Outcome). o.board) now,
      )

pub sends_reordered : SendsReordered
unfolding SendsReordered
sends_reordered b r named = by_both b r named (both_fail (place_by 33 (bracket b r Send)) (bracket b r Send)) refl
