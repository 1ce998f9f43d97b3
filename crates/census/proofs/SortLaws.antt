-- Every sound board is of exactly one sort, so the three counts add up to the number of lists.
use mathlib.Core.Path.{◌≡◌, refl, sym, ap, ◌∙◌}
use mathlib.Core.Bool.{Bool, true, false, not, cond, ◌&&◌, ◌||◌}
use mathlib.Core.List.{List, [], ◌∷◌}
use Prim.Native.Nat.{ℕ, ◌+◌, ◌^◌}
use native.Mathlib.Omega.{arith}
use lib.ListN.{length}
use lib.Dec.{eqb}
use borrow.Author.Tests.{eq-eqb, ne_eqb}
use Rattle.std.specs.Prelude.{Result, Ok, Err}
use Rattle.refusals.specs.declared.Refusal.{Refusal}
use Rattle.rules.specs.Facts.{one_if, sum_of}
use Rattle.rules.specs.Records.{is_active, is_work, blank_unit, blank_slot}
use Rattle.rules.specs.declared.Board.{Board}
use Rattle.rules.specs.declared.StepRecord.{StepRecord}
use Rattle.rules.specs.declared.Verdict.{Verdict}
use Rattle.rules.specs.declared.Verdict.TheVariants.{Working, Finished}
use Rattle.rules.specs.Sound.{Sound}
use Rattle.rules.specs.Finished.{verdict, Complete}
use Rattle.rules.specs.Lists.{after}
use Rattle.rules.proofs.FactLaws.{true_not_false}
use Rattle.rules.proofs.BusyLaws.{none_such}
use Rattle.rules.proofs.FinishedLaws.{verdict_sound, finished_complete}
use Rattle.rules.proofs.Projection.{list_keeps_sound}
use Rattle.census.specs.Choices.{lists}
use Rattle.rules.specs.Busy.{how_many, some, is_busy}
use Rattle.census.specs.Sorts.{says_finished, is_finished, is_other}
use Rattle.census.specs.Counting.{ending_count, ends_from}
use Rattle.census.specs.Shares.{all_ends}
use Rattle.census.proofs.ForEachLaws.{sum_same, length_sum}
use Rattle.census.proofs.EndingLaws.{choices_on, length_lists, ending_none}

complete_not_busy : (b : Board) → Complete b → is_busy b ≡ false
unfolding is_busy
complete_not_busy b c =
    let units : some (λ u. is_active u.state) b.units ≡ false = none_such _ b.units blank_unit (λ i l. ap is_active (c.idle i)) in
    let slots : some (λ y. is_work y.kind) b.slots ≡ false = none_such _ b.slots blank_slot (λ j l. ap is_work (c.empty j)) in
    λ i. units i || slots i

finished_said : (v : Result Verdict Refusal) → says_finished v ≡ true → v ≡ Ok Finished
finished_said (Ok Working) e = absurd (true_not_false (sym e))
finished_said (Ok Finished) e = refl
finished_said (Err k) e = absurd (true_not_false (sym e))

pub finished_not_busy : (b : Board) → Sound b → is_finished b ≡ true → is_busy b ≡ false
unfolding is_finished
finished_not_busy b h e = complete_not_busy b ((finished_complete b h).0 (finished_said (verdict b) e))

-- finished is told from the debt of a sound board
told_finished : (b : Board) → Sound b → is_finished b ≡ eqb b.debt 0
unfolding is_finished
told_finished b h = ap says_finished (verdict_sound b h) ∙ elim (eqb b.debt 0) as (λ t. says_finished (Ok (cond t Finished Working)) ≡ t) [ true ↦ refl | false ↦ refl ]

-- ---- the list of no steps ends on the board itself
sort_by : (b : Board) (f w : Bool) → is_finished b ≡ f → is_busy b ≡ w → ends_from b 0 ≡ record { finished = one_if f; busy = one_if w; other = one_if (not f && not w) }
sort_by b f w p q =
    (λ i. record { finished = ending_none is_finished b i; busy = ending_none is_busy b i; other = ending_none is_other b i })
    ∙ (λ i. record { finished = one_if (p i); busy = one_if (q i); other = one_if (not (p i) && not (q i)) })

pub sort_finished : (b : Board) → Sound b → b.debt ≡ 0 → ends_from b 0 ≡ record { finished = 1; busy = 0; other = 0 }
sort_finished b h z = let f : is_finished b ≡ true = told_finished b h ∙ eq-eqb b.debt 0 z in sort_by b true false f (finished_not_busy b h f)

pub sort_unfinished : (b : Board) → Sound b → (b.debt ≡ 0 → ⊥) → (w : Bool) → is_busy b ≡ w → ends_from b 0 ≡ record { finished = 0; busy = one_if w; other = one_if (not w) }
sort_unfinished b h n w q = sort_by b false w (told_finished b h ∙ ne_eqb b.debt 0 n) q

pub one_sort : (b : Board) → Sound b → one_if (is_finished b) + one_if (is_busy b) + one_if (is_other b) ≡ 1
one_sort b h = by_tests (is_finished b) (is_busy b) refl refl
  where
    by_tests : (f w : Bool) → is_finished b ≡ f → is_busy b ≡ w → one_if f + one_if w + one_if (not f && not w) ≡ 1
    by_tests true true p q = absurd (true_not_false (sym q ∙ finished_not_busy b h p))
    by_tests true false p q = refl
    by_tests false true p q = refl
    by_tests false false p q = refl

sum_three : {A : Type 0} (f g h : A → ℕ) (xs : List A) → sum_of (λ i x. f x + g x + h x) xs ≡ sum_of (λ i x. f x) xs + sum_of (λ i x. g x) xs + sum_of (λ i x. h x) xs
unfolding sum_of
sum_three f g h [] = refl
sum_three f g h (x ∷ xs) = omega (arith, sum_three f g h xs)

pub ends_add_up : (b : Board) (k : ℕ) → Sound b → all_ends (ends_from b k) ≡ length (choices_on b) ^ k
unfolding ending_count how_many
ends_add_up b k h =
    sym (sum_three (at is_finished) (at is_busy) (at is_other) ls)
    ∙ sum_same (λ rs. at is_finished rs + at is_busy rs + at is_other rs) (λ rs. 1) ls (λ rs. one_sort (after b rs) (list_keeps_sound b rs h))
    ∙ sym (length_sum ls)
    ∙ length_lists (choices_on b) k
  where
    ls : List (List StepRecord)
    ls = lists (choices_on b) k

    at : (Board → Bool) → List StepRecord → ℕ
    at is rs = one_if (is (after b rs))
