-- The lines of a script taken batch by batch leave the board that all of them leave.
use mathlib.Core.Path.{◌≡◌, refl, sym, ap, subst, ◌∙◌}
use mathlib.Core.Bool.{true, false, cond}
use mathlib.Core.List.{List, [], ◌∷◌, ◌++◌}
use Prim.Native.Nat.{ℕ, zero, suc, ◌-◌, ◌≤◌, ◌<◌}
use native.Mathlib.Omega.{arith}
use lib.ListN.{length, take, drop, length-drop, drop_of_length-le}
use lib.Dec.{leb}
use borrow.Author.Tests.{leb-false, lt-leb}
use Rattle.std.specs.Prelude.{Result, Ok, Err}
use Rattle.refusals.specs.declared.Refusal.{Refusal}
use Rattle.rules.specs.Sound.{Sound, sound}
use Rattle.rules.specs.Runs.{batch_most, batch}
use Rattle.rules.proofs.SoundLaws.{sound_claims, sound_tested}
use Rattle.rules.specs.declared.Board.{Board}
use Rattle.rules.specs.declared.Outcome.{Outcome}
use Rattle.rules.specs.declared.Batch.{Batch}
use Rattle.fields.specs.Fields.{up_to}
use Rattle.fields.proofs.Cases.{by_bool, by_cond}
use Rattle.numbers.specs.Lines.{lines_within, lines_of, behind}
use Rattle.numbers.proofs.LineLaws.{behind_drop, lines_past, lines_first}
use Rattle.script.specs.Lines.{reading, step_by}
use Rattle.listing.specs.Scripts.{later_outcome, start_outcome}
use Rattle.listing.specs.Listed.{later_of}
use Rattle.listing.specs.Endings.{board_after, left_by, end_outcome}
use Rattle.listing.specs.Batches.{lines_at, place_after}
use Rattle.listing.specs.Turns.{start_place, Gathers}
use Rattle.listing.specs.declared.gathering.Gathered.{Gathered}
use Rattle.listing.specs.declared.endings.Reached.{Reached}
use Rattle.listing.proofs.PieceLaws.{past_fewer}
use Rattle.listing.proofs.LengthLaws.{outcome_sound}
use Rattle.listing.proofs.BatchLaws.{batch_leaves}

-- ---- the board after some lines
after_append : (b : Board) (ls more : List (List ℕ)) → board_after b (ls ++ more) ≡ board_after (board_after b ls) more
unfolding board_after
after_append b [] more = refl
after_append b (l ∷ ls) more = after_append (later_outcome b l).board ls more

after_sound : (b : Board) (ls : List (List ℕ)) → Sound b → Sound (board_after b ls)
unfolding board_after
after_sound b [] h = h
after_sound b (l ∷ ls) h = after_sound (later_outcome b l).board ls (outcome_sound b (step_by (reading false l)) h)

-- ---- the lines from a place on: at most k of them, and those behind them
lines_from : (k at : ℕ) (s : List ℕ) → lines_of (drop at s) ≡ lines_at k at s ++ lines_of (drop (place_after k at s) s)
unfolding lines_at place_after
lines_from zero at s = refl
lines_from (suc k) at s =
    by_bool (λ t. lines_of (drop at s) ≡ cond t [] (up_to 10 (drop at s) ∷ lines_at k (behind at s) s) ++ lines_of (drop (cond t at (place_after k (behind at s) s)) s)) (leb (length s) at) (λ e. refl)
    (λ e.
    let inside : at < length s = leb-false (length s) at e in
    lines_first (drop at s) (omega (arith, inside, length-drop at s))
    ∙ ap (λ (ls : List (List ℕ)). up_to 10 (drop at s) ∷ ls) (ap lines_of (sym (behind_drop at s (omega (arith, inside)))) ∙ lines_from k (behind at s) s))

lines_ended : (at : ℕ) (s : List ℕ) → length s ≤ at → lines_of (drop at s) ≡ []
unfolding lines_within
lines_ended at s l = ap lines_of (drop_of_length-le s {i = at} l)

-- each line takes at least a byte of the script
place_on : (k at : ℕ) (s : List ℕ) → length s - place_after k at s ≤ length s - at
unfolding place_after
place_on zero at s = omega arith
place_on (suc k) at s =
    by_cond (λ (i : ℕ). length s - i ≤ length s - at) (leb (length s) at) (λ e. omega arith)
    (λ e. omega (arith, place_on k (behind at s) s, past_fewer at s (leb-false (length s) at e)))

place_further : (k at : ℕ) (s : List ℕ) → at < length s → length s - place_after (suc k) at s < length s - at
unfolding place_after
place_further k at s l = rw (lt-leb (length s) at l) (omega (arith, place_on k (behind at s) s, past_fewer at s l))

-- ---- the turns, each of a batch: at the head of each, what is left from here gives what the whole gives
abbrev left : Reached → List ℕ → Board
left p s = board_after p.board (lines_of (drop p.at s))

pub record EndTurn (p₀ : Reached) (s : List ℕ) (p : Reached) : Type 0 where
  pub is_sound : p.at < length s → sound p.board ≡ true
  pub gives : left p s ≡ left p₀ s

abbrev batch_reached : Reached → List ℕ → Reached
batch_reached p s = record { at = place_after batch_most p.at s; board = board_after p.board (lines_at batch_most p.at s) }

-- from what is gathered and what the core gives
pub batch_reached_lem : (p : Reached) (s : List ℕ) → sound p.board ≡ true → (g : Gathered) → Gathers g (lines_at batch_most p.at s) (place_after batch_most p.at s)
    → {d : Batch} → d ≡ batch p.board (take g.count g.steps) → record { at = g.at; board = d.board } ≡ batch_reached p s
batch_reached_lem p s h g gathers {d} ran =
    ap (λ (i : ℕ). record { at = i; board = d.board }) gathers.place
    ∙ ap (λ (b : Board). record { at = place_after batch_most p.at s; board = b }) (batch_leaves p.board (sound_claims p.board h) g gathers ran)

module _ {p₀ p q : Reached} {s : List ℕ} (t : EndTurn p₀ s p) (more : p.at < length s) (e : q ≡ batch_reached p s) where
  pub end_goes : EndTurn p₀ s q
  end_goes = subst (EndTurn p₀ s) (sym e) (record {
    is_sound = λ l. sound_tested _ (after_sound p.board (lines_at batch_most p.at s) (sound_claims p.board (t.is_sound more)));
    gives = sym (ap (board_after p.board) (lines_from batch_most p.at s) ∙ after_append p.board (lines_at batch_most p.at s) _) ∙ t.gives;
  })

  pub end_less : length s - q.at < length s - p.at
  end_less = subst (λ (x : Reached). length s - x.at < length s - p.at) (sym e) (place_further 511 p.at s more)

pub end_ends : {p₀ p : Reached} {s : List ℕ} → EndTurn p₀ s p → length s ≤ p.at → p.board ≡ left p₀ s
unfolding board_after
end_ends {p₀} {p} {s} t l = ap (board_after p.board) (sym (lines_ended p.at s l)) ∙ t.gives

-- ---- the whole script
left_behind : (s : List ℕ) (b : Board) (r : Result (Unit {0}) Refusal) → board_after b (lines_of (drop (start_place s r) s)) ≡ left_by r b (later_of s)
unfolding board_after
left_behind s b (Ok _) = ap (board_after b) (ap lines_of (behind_drop 0 s (omega arith)) ∙ lines_past s)
left_behind s b (Err k) = ap (board_after b) (lines_ended (length s) s (omega arith))

pub ending_is : (s : List ℕ) {o : Outcome} → o ≡ start_outcome s → {at : ℕ} → at ≡ start_place s o.answer → {b : Board} → b ≡ board_after o.board (lines_of (drop at s)) → record { answer = o.answer; board = b } ≡ end_outcome s
unfolding end_outcome
ending_is s {o} is {at} place {b} board =
    ap (λ (c : Board). record { answer = o.answer; board = c }) (board ∙ ap (λ (i : ℕ). board_after o.board (lines_of (drop i s))) place ∙ left_behind s o.board o.answer)
    ∙ ap (λ (x : Outcome). record { answer = x.answer; board = left_by x.answer x.board (later_of s) }) is
