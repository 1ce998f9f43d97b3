-- The parents of an opening: whether each is below its unit, and how they are placed one by one among a board's entries.
use mathlib.Core.Path.{◌≡◌, refl, sym, ap, ◌∙◌}
use mathlib.Core.Bool.{true, false, cond, ◌&&◌}
use mathlib.Core.List.{List, [], ◌∷◌, ◌++◌}
use Prim.Native.Nat.{ℕ, zero, suc, ◌+◌, ◌-◌, ◌≤◌, ◌<◌}
use native.Mathlib.Nat.{le_of_suc-le-suc, not-suc-le-zero}
use native.Mathlib.Numerals.{add-one}
use native.Mathlib.Omega.{arith}
use lib.ListN.{length, drop, replicate}
use lib.Seq.{take-length}
use lib.Dec.{eqb, leb}
use Rattle.rules.specs.declared.Outcome.{Outcome}
use Rattle.refusals.specs.declared.Refusal.{Refusal}
use Rattle.std.specs.Prelude.{Result, Ok, Err, is_ok}
use Rattle.std.proofs.lemmas.Bool.Decides.{nat_tests}
use Rattle.std.proofs.lemmas.List.{drop-replicate}
use Rattle.std.specs.List.{list_all, enumerate_from}
use Rattle.rules.specs.Facts.{below, each}
use Rattle.rules.specs.Opening.{lower_parents, opening_checks, fresh, opening, refused_by, blank_board}
use Rattle.rules.proofs.FactLaws.{true_not_false, each_at, each_of, each_claims, each_tested, judge_passed}
use Rattle.board.proofs.TestLaws.{not_true_false}
use Rattle.rules.proofs.JudgeLaws.{checks_answer, answered, judge_by_answer, answer_claims}

same_test : (p n m : ℕ) → m ≡ n + 0 → leb p n ≡ (leb (suc p) (suc m) && true)
same_test p n m e = grind (arith, nat_tests)

-- as `all` answers, from unit n + 1 on
lower_from : (n : ℕ) (unit : ℕ → ℕ) (ps : List ℕ) → ((i : ℕ) → unit i ≡ n + i) → list_all (λ (p : ℕ × ℕ). leb p.1 p.0) (enumerate_from n ps) ≡ each (λ i p. below p (suc (unit i)) ∷ []) ps
unfolding each
lower_from n unit [] e = refl
lower_from n unit (p ∷ ps) e =
    let here : leb p n ≡ (leb (suc p) (suc (unit 0)) && true) = same_test p n (unit 0) (e 0) in
    λ j. here j && lower_from (n + 1) (λ i. unit (suc i)) ps (λ i. omega (arith, e (suc i))) j

pub lower_all : (ps : List ℕ) → list_all (λ (p : ℕ × ℕ). leb p.1 p.0) (enumerate_from 0 ps) ≡ lower_parents ps
unfolding lower_parents
lower_all ps = lower_from 0 (λ i. i) ps (λ i. omega arith)

-- the entries once the parents are copied into zeros
pub placed : (ps now : List ℕ) (k : ℕ) → now ≡ ps → k ≡ length ps → 0 ∷ now ++ drop k (replicate 63 0) ≡ 0 ∷ ps ++ replicate (63 - length ps) 0
placed ps now k e l = rw (e, l) (ap (λ (zeros : List ℕ). 0 ∷ ps ++ zeros) (drop-replicate (length ps) 63 0))

-- ---- the judgement of an opening by what its checks answer
pub opening_accepted : (m d : ℕ) (ps : List ℕ) → checks_answer (opening_checks m d ps) ≡ Ok tt → opening m d ps ≡ record { answer = Ok tt; board = fresh m d ps }
unfolding opening
opening_accepted m d ps e = judge_passed refused_by (opening_checks m d ps) (record { answer = Ok tt; board = fresh m d ps }) (answer_claims (opening_checks m d ps) e)

pub not_opened : (m d : ℕ) (k : Refusal) (ps : List ℕ) → checks_answer (opening_checks m d ps) ≡ Err k → opening m d ps ≡ refused_by k
unfolding opening
not_opened m d k ps e =
    let opened : Outcome = record { answer = Ok tt; board = fresh m d ps } in
    judge_by_answer refused_by (opening_checks m d ps) opened ∙ ap (answered refused_by opened) e

-- the same of an answer that is tested for having been accepted
pub opened : (m d : ℕ) (ps : List ℕ) (r : Result (Unit {0}) Refusal) → checks_answer (opening_checks m d ps) ≡ r → is_ok r ≡ true → opening m d ps ≡ record { answer = r; board = fresh m d ps }
opened m d ps (Ok tt) e t = opening_accepted m d ps e
opened m d ps (Err k) e t = absurd (true_not_false (sym t))

pub left_blank : (m d : ℕ) (ps : List ℕ) (r : Result (Unit {0}) Refusal) → checks_answer (opening_checks m d ps) ≡ r → is_ok r ≡ false → opening m d ps ≡ record { answer = r; board = blank_board }
left_blank m d ps (Ok tt) e t = absurd (true_not_false t)
left_blank m d ps (Err k) e t = not_opened m d k ps e
