-- The calls meet what is claimed of them, for any list: where steps are told, the first entries are a longest drain; where the call is refused, no turn is taken.
use mathlib.Core.Path.{◌≡◌, refl, sym, ap, subst, ◌∙◌}
use mathlib.Core.List.{List, ◌++◌}
use Prim.Native.Nat.{ℕ, ◌≤◌}
use lib.ListN.{length, get_or, take, drop}
use lib.Seq.{take_at}
use Rattle.std.specs.Prelude.{Result, Ok, Err}
use Rattle.refusals.specs.declared.Refusal.{Refusal}
use Rattle.std.specs.List.{position_or_len}
use Rattle.std.proofs.lemmas.List.{get_or_past}
use Rattle.std.proofs.lemmas.List.Sums.{passes_at_first}
use Rattle.rules.specs.Facts.{Claims, Check, judge}
use Rattle.rules.specs.Records.{is_empty, blank_slot}
use Rattle.rules.specs.declared.Kind.TheVariants.{Empty}
use Rattle.rules.specs.declared.Slot.{Slot}
use Rattle.rules.specs.declared.Board.{Board}
use Rattle.rules.specs.declared.StepRecord.{StepRecord}
use Rattle.rules.specs.Boards.{view}
use Rattle.rules.specs.Sound.{Sound}
use Rattle.rules.specs.Sheets.Longest.{longest_length}
use Rattle.rules.specs.Longest.{LongestDrain, ListIsLongest}
use Rattle.rules.proofs.FactLaws.{asked}
use Rattle.rules.proofs.JudgeLaws.{checks_answer, answered as answer_with, judge_by_answer, answer_claims}
use Rattle.rules.proofs.SoundLaws.{sound_claims}
use Rattle.rules.proofs.Sheets.EntryLaws.{empty_is}
use Rattle.rules.proofs.Sheets.SoundLaws.{below_or_not}
use Rattle.rules.proofs.BusyLaws.{quiet_told}
use Rattle.rules.proofs.LongestTheorem.{list_is_longest}
use Rattle.drains.specs.Calls.{lowest_free, drain_checks, list_checks, length_answer, list_answer, shown_list, list_left}
use Rattle.drains.specs.Claims.{HasLength, ListMeets}
use Rattle.drains.proofs.CheckLaws.{ok_not_err, same_told, told_passed, told_is}

-- ---- the lowest free slot is empty, and so is a slot past the end
lowest_empty : (ys : List Slot) → (get_or ys (lowest_free ys) blank_slot).kind ≡ Empty
unfolding lowest_free
lowest_empty ys =
    below_or_not (position_or_len (λ y. is_empty y.kind) ys) (length ys) (λ l. empty_is _ (passes_at_first (λ y. is_empty y.kind) ys blank_slot l))
    (λ l. ap (λ (y : Slot). y.kind) (get_or_past ys (position_or_len (λ y. is_empty y.kind) ys) blank_slot l))

-- ---- where a length is told, the list that is shown is a longest drain
pub shown_longest : (b : Board) → Claims (asked (drain_checks b)) → LongestDrain b (shown_list b)
unfolding ListIsLongest
shown_longest b h = list_is_longest b (lowest_free b.slots) (sound_claims b h.0) (quiet_told b h.1.0) h.1.1.0 (lowest_empty b.slots)

pub length_exact : (b : Board) (k : ℕ) → length_answer b ≡ Ok k → HasLength b k
length_exact b k e =
    let shown = shown_longest b (told_passed b k e) in record { list = shown_list b; longest = shown; long = shown.exact ∙ sym (told_is b k e) }

-- ---- a call with a list of so many entries tells a length or refuses
data Answered (b : Board) (list : List StepRecord) (r : Result ℕ Refusal) : Type 0 where
  tells : Claims (asked (drain_checks b)) → longest_length (view b) ≤ length list → r ≡ Ok (longest_length (view b)) → list_left b list ≡ shown_list b ++ drop (longest_length (view b)) list → Answered b list r
  refuses : (k : Refusal) → r ≡ Err k → list_left b list ≡ list → Answered b list r

answered : (b : Board) (list : List StepRecord) (r : Result ℕ Refusal) → r ≡ list_answer b (length list) → Answered b list r
unfolding list_answer list_left
answered b list r e = by_answer (checks_answer cs) refl
  where
    cs : List Check
    cs = list_checks b (length list)

    -- what the checks alone answer, under any way to refuse
    by_checks : {A : Type 0} (refused : Refusal → A) (result : A) {q : Result (Unit {0}) Refusal} → checks_answer cs ≡ q → judge refused cs result ≡ answer_with refused result q
    by_checks refused result p = judge_by_answer refused cs result ∙ ap (answer_with refused result) p

    by_answer : (q : Result (Unit {0}) Refusal) → checks_answer cs ≡ q → Answered b list r
    by_answer (Ok tt) p =
        let h = answer_claims cs p in
        tells (h.0, (h.1.0, (h.1.1.0, tt))) h.1.1.1.0 (e ∙ by_checks Err (Ok (longest_length (view b))) p) (by_checks (λ k. list) (shown_list b ++ drop (longest_length (view b)) list) p)
    by_answer (Err k) p = refuses k (e ∙ by_checks Err (Ok (longest_length (view b))) p) (by_checks (λ j. list) (shown_list b ++ drop (longest_length (view b)) list) p)

module _ (b : Board) (list : List StepRecord) (r : Result ℕ Refusal) (r-is : r ≡ list_answer b (length list)) where
  -- where a length is told, a drain may be written, and there is room for it
  pub told_room : (n : ℕ) → r ≡ Ok n → Sound b × (longest_length (view b) ≤ length list)
  told_room n q = by_answer (answered b list r r-is)
    where
      by_answer : Answered b list r → Sound b × (longest_length (view b) ≤ length list)
      by_answer (tells h fits e l) = (sound_claims b h.0, fits)
      by_answer (refuses k e l) = absurd (ok_not_err (sym q ∙ e))

  pub told_meets : (n : ℕ) → r ≡ Ok n → (left : List StepRecord) → left ≡ shown_list b ++ drop (longest_length (view b)) list → ListMeets b list r left
  told_meets n q left left_is = by_answer (answered b list r r-is)
    where
      by_answer : Answered b list r → ListMeets b list r left
      by_answer (tells h fits e l) =
          let shown = shown_longest b h in
          record {
            gives = r-is;
            leaves = left_is ∙ sym l;
            shows = λ k p. subst (LongestDrain b) (sym (take_at (shown_list b) (drop (longest_length (view b)) list) k (shown.exact ∙ same_told (sym e ∙ p))) ∙ ap (take k) (sym left_is)) shown;
          }
      by_answer (refuses k e l) = absurd (ok_not_err (sym q ∙ e))

  pub refused_meets : (k : Refusal) → r ≡ Err k → ListMeets b list r list
  refused_meets k q = by_answer (answered b list r r-is)
    where
      by_answer : Answered b list r → ListMeets b list r list
      by_answer (tells h fits e l) = absurd (ok_not_err (sym e ∙ q))
      by_answer (refuses j e l) =
          record {
            gives = r-is;
            leaves = sym l;
            shows = λ n p. absurd (ok_not_err (sym p ∙ q));
          }
