-- Judgements: one passes every check or is a refusal; by what its checks answer; under a function; two by the same checks; of two rows.
use mathlib.Core.Path.{◌≡◌, refl, sym, ap, subst, ◌∙◌}
use mathlib.Core.Bool.{Bool, true, false, cond}
use mathlib.Core.List.{List, [], ◌∷◌, ◌++◌}
use Prim.Native.Nat.{ℕ}
use Rattle.std.specs.Prelude.{Result, Ok, Err}
use Rattle.refusals.specs.Numbers.{number_of}
use Rattle.refusals.specs.declared.Refusal.{Refusal}
use Rattle.refusals.proofs.NumberLaws.{refused_above_zero}
use Rattle.rules.specs.Facts.{test, holds, Claims, Check, check, judge}
use Rattle.rules.proofs.FactLaws.{by_test, true_or_not, claimed, asked}

-- ---- a judgement either passed every check or is a refusal
pub data Judged {A : Type 0} (refused : Refusal → A) (cs : List Check) (result : A) : Type 0 where
  passed : Claims (asked cs) → Judged refused cs result
  failed : (k : Refusal) → judge refused cs result ≡ refused k → Judged refused cs result

pub judged : {A : Type 0} (refused : Refusal → A) (cs : List Check) (result : A) → Judged refused cs result
judged refused [] result = passed tt
judged {A} refused (check f k ∷ cs) result =
    true_or_not (test f) (λ e. by_rest e (judged refused cs result)) (λ e. failed k (ap (λ (t : Bool). cond t (judge refused cs result) (refused k)) e))
  where
    by_rest : test f ≡ true → Judged refused cs result → Judged refused (check f k ∷ cs) result
    by_rest e (passed c) = passed (claimed f e, c)
    by_rest e (failed j q) = failed j (subst (λ (t : Bool). cond t (judge refused cs result) (refused k) ≡ refused j) (sym e) q)

-- ---- a judgement by what its checks alone answer
abbrev pub checks_answer : List Check → Result (Unit {0}) Refusal
checks_answer cs = judge Err cs (Ok tt)

-- the result of an accepted call, or what a refusal gives
abbrev pub answered : {A : Type 0} → (Refusal → A) → A → Result (Unit {0}) Refusal → A
answered refused result (Ok _) = result
answered refused result (Err k) = refused k

pub judge_by_answer : {A : Type 0} (refused : Refusal → A) (cs : List Check) (result : A) → judge refused cs result ≡ answered refused result (checks_answer cs)
judge_by_answer refused [] result = refl
judge_by_answer refused (check f k ∷ cs) result =
    by_test (λ t. cond t (judge refused cs result) (refused k) ≡ answered refused result (cond t (checks_answer cs) (Err k))) (test f)
    (λ e. judge_by_answer refused cs result) (λ e. refl)

-- where the checks answer Ok, every fact that they ask for holds
pub answer_claims : (cs : List Check) → checks_answer cs ≡ Ok tt → Claims (asked cs)
answer_claims cs e = by_judgement (judged Err cs accepted)
  where
    accepted : Result (Unit {0}) Refusal
    accepted = Ok tt

    by_judgement : Judged Err cs accepted → Claims (asked cs)
    by_judgement (passed c) = c
    by_judgement (failed k q) = absurd (refused_above_zero k (ap (number_of {A = Unit {0}}) (sym q ∙ e)))

-- an answer of 0 passed the first check, whose refusal is none: so a step that asks for soundness first tells that it was there
pub first_passed : {A : Type 0} (answer : A → ℕ) (refused : Refusal → A) (t : Bool) (k : Refusal) (result : A) → (answer (refused k) ≡ 0 → ⊥) → answer (judge refused (check (holds t) k ∷ []) result) ≡ 0 → t ≡ true
first_passed answer refused true k result n e = refl
first_passed answer refused false k result n e = absurd (n e)

-- ---- a judgement under a function, and two by the same checks
-- what is done to a judgement is done to its result and to each of its refusals
pub judge_map : {A B : Type 0} (f : A → B) (refused : Refusal → A) (cs : List Check) (result : A) → f (judge refused cs result) ≡ judge (λ k. f (refused k)) cs (f result)
judge_map f refused [] result = refl
judge_map f refused (check g k ∷ cs) result =
    by_test (λ t. f (cond t (judge refused cs result) (refused k)) ≡ cond t (judge (λ j. f (refused j)) cs (f result)) (f (refused k))) (test g) (λ e. judge_map f refused cs result) (λ e. refl)

-- two results that are equal where the checks hold are judged alike
pub judge_same : {A : Type 0} (refused : Refusal → A) (cs : List Check) (x y : A) → (Claims (asked cs) → x ≡ y) → judge refused cs x ≡ judge refused cs y
judge_same refused [] x y h = h tt
judge_same refused (check g k ∷ cs) x y h =
    by_test (λ t. cond t (judge refused cs x) (refused k) ≡ cond t (judge refused cs y) (refused k)) (test g) (λ e. judge_same refused cs x y (λ p. h (claimed g e, p))) (λ e. refl)

-- two rows one after the other
pub judge_append : {A : Type 0} (refused : Refusal → A) (cs ds : List Check) (result : A) → judge refused (cs ++ ds) result ≡ judge refused cs (judge refused ds result)
judge_append refused [] ds result = refl
judge_append refused (check g k ∷ cs) ds result = ap (λ (x : _). cond (test g) x (refused k)) (judge_append refused cs ds result)

-- two ways to refuse that agree
pub judge_refused : {A : Type 0} (refused declined : Refusal → A) (cs : List Check) (result : A) → ((k : Refusal) → refused k ≡ declined k) → judge refused cs result ≡ judge declined cs result
judge_refused refused declined [] result h = refl
judge_refused refused declined (check f k ∷ cs) result h = λ i. cond (test f) (judge_refused refused declined cs result h i) (h k i)
