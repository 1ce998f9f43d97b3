-- What refuses the calls, and what a call that is not refused knows.
use mathlib.Core.Path.{◌≡◌, sym, ap, ◌∙◌}
use mathlib.Core.Bool.{Bool, cond}
use mathlib.Core.List.{List, [], ◌∷◌}
use Prim.Native.Nat.{ℕ}
use native.Mathlib.Omega.{arith}
use lib.Dec.{leb}
use Rattle.std.specs.Prelude.{Result, Ok, Err}
use Rattle.refusals.specs.declared.Refusal.{Refusal}
use Rattle.refusals.specs.declared.Refusal.TheVariants.{ShortList}
use Rattle.rules.specs.Facts.{Claims, Check, check, at_most, test, judge}
use Rattle.rules.specs.Boards.{view}
use Rattle.rules.specs.Sheets.Longest.{longest_length}
use Rattle.rules.specs.declared.Board.{Board}
use Rattle.rules.proofs.FactLaws.{by_test, asked, judge_passed}
use Rattle.rules.proofs.JudgeLaws.{Judged, passed, failed, judged, checks_answer, judge_append}
use Rattle.drains.specs.Calls.{drain_checks, length_answer, list_answer}

-- an answer is no refusal
pub ok_not_err : {A : Type 0} {x : A} {k : Refusal} → ◌≡◌ {A = Result A Refusal} (Ok x) (Err k) → ⊥
ok_not_err e = let z : ◌≡◌ {A = ℕ} 0 1 = cc in omega (arith, z)

-- two results of one call
pub same_told : {A : Type 0} {x y : A} → ◌≡◌ {A = Result A Refusal} (Ok x) (Ok y) → x ≡ y
same_told e = cc

-- a call that is refused by its first checks is refused alike, whatever its result
refused_alike : {A B : Type 0} (cs : List Check) (x : A) (result : Result B Refusal) (k : Refusal) → judge Err cs (Ok x) ≡ Err k → judge Err cs result ≡ Err k
refused_alike [] x result k e = absurd (ok_not_err e)
refused_alike {A} {B} (check f j ∷ cs) x result k e =
    by_test (λ t. cond t (judge Err cs (Ok x)) (Err j) ≡ Err k → cond t (judge Err cs result) (Err j) ≡ Err k) (test f) (λ t q. refused_alike cs x result k q) (λ t q. let z : j ≡ k = cc in ap Err z) e

-- a call that gives a result passed its checks
passed_by : {A : Type 0} (cs : List Check) (x y : A) → ◌≡◌ {A = Result A Refusal} (judge Err cs (Ok x)) (Ok y) → Claims (asked cs)
passed_by {A} cs x y e = by_judgement (judged Err cs (Ok x))
  where
    by_judgement : Judged {A = Result A Refusal} Err cs (Ok x) → Claims (asked cs)
    by_judgement (passed c) = c
    by_judgement (failed k q) = absurd (ok_not_err (sym e ∙ q))

module _ (b : Board) where
  -- the length is refused by what refuses the checks, and told where they pass
  pub length_refused : (k : Refusal) → checks_answer (drain_checks b) ≡ Err k → length_answer b ≡ Err k
  unfolding length_answer
  length_refused k e = refused_alike {A = Unit {0}} (drain_checks b) tt (Ok (longest_length (view b))) k e

  pub length_told : Claims (asked (drain_checks b)) → length_answer b ≡ Ok (longest_length (view b))
  unfolding length_answer
  length_told c = judge_passed Err (drain_checks b) (Ok (longest_length (view b))) c

  pub told_passed : (n : ℕ) → length_answer b ≡ Ok n → Claims (asked (drain_checks b))
  unfolding length_answer
  told_passed n e = passed_by (drain_checks b) (longest_length (view b)) n e

  pub told_is : (n : ℕ) → length_answer b ≡ Ok n → n ≡ longest_length (view b)
  told_is n e = same_told (sym e ∙ length_told (told_passed n e))

  -- with a list, what refuses the length comes first, then the room is asked
  abbrev by_room : ℕ → Result ℕ Refusal
  by_room room = judge Err (check (at_most (longest_length (view b)) room) ShortList ∷ []) (Ok (longest_length (view b)))

  room_last : (room : ℕ) → list_answer b room ≡ judge Err (drain_checks b) (by_room room)
  unfolding list_answer
  room_last room = judge_append Err (drain_checks b) (check (at_most (longest_length (view b)) room) ShortList ∷ []) (Ok (longest_length (view b)))

  pub list_refused : (room : ℕ) (k : Refusal) → length_answer b ≡ Err k → list_answer b room ≡ Err k
  unfolding length_answer
  list_refused room k e = room_last room ∙ refused_alike (drain_checks b) (longest_length (view b)) (by_room room) k e

  pub list_by_room : (room n : ℕ) → length_answer b ≡ Ok n → {t : Bool} → leb (longest_length (view b)) room ≡ t → list_answer b room ≡ cond t (Ok (longest_length (view b))) (Err ShortList)
  list_by_room room n e q =
      room_last room ∙ judge_passed Err (drain_checks b) (by_room room) (told_passed n e) ∙ ap (λ (t : Bool). cond t (Ok (longest_length (view b))) (Err ShortList)) q
