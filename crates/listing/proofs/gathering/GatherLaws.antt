-- Lines gathered turn by turn: those gathered and those that are left from here are the lines of the whole.
use mathlib.Core.Path.{◌≡◌, refl, sym, ap, ◌∙◌}
use mathlib.Core.Bool.{false}
use mathlib.Core.List.{List, [], ◌∷◌, ◌++◌, append_assoc, append-nil}
use Prim.Native.Nat.{ℕ, zero, suc, ◌+◌, ◌-◌, ◌≤◌, ◌<◌}
use native.Mathlib.Numerals.{add-one}
use native.Mathlib.Omega.{arith}
use borrow.Author.Tests.{le-leb, lt-leb}
use lib.ListN.{length, take, drop, set, length-take, length-set}
use lib.Seq.{take-suc-set}
use Rattle.std.specs.Prelude.{Option, Result}
use Rattle.refusals.specs.declared.Refusal.{Refusal}
use Rattle.rules.specs.Runs.{batch_most}
use Rattle.rules.specs.declared.StepRecord.{StepRecord}
use Rattle.fields.specs.Fields.{up_to}
use Rattle.numbers.specs.Lines.{behind}
use Rattle.script.specs.Lines.{reading, step_by}
use Rattle.listing.specs.Batches.{lines_at, place_after, record_of, refusal_of, records_of, refusals_of}
use Rattle.listing.specs.Turns.{Gathers}
use Rattle.listing.proofs.BatchLaws.{records_length}

-- at the head of each turn, with i lines gathered
pub record GatherTurn (s : List ℕ) (from most : ℕ) (steps : List StepRecord) (refusals : List (Option Refusal)) (at i : ℕ) : Type 0 where
  pub few : most ≤ batch_most
  pub within : i ≤ most
  pub room : (length steps ≡ batch_most) × (length refusals ≡ batch_most)
  pub steps_are : take i steps ++ records_of (lines_at (most - i) at s) ≡ records_of (lines_at most from s)
  pub refusals_are : take i refusals ++ refusals_of (lines_at (most - i) at s) ≡ refusals_of (lines_at most from s)
  pub place_is : place_after (most - i) at s ≡ place_after most from s

-- ---- what is left of the lines
lines_none : (k at : ℕ) (s : List ℕ) → length s ≤ at → lines_at k at s ≡ []
unfolding lines_at
lines_none zero at s l = refl
lines_none (suc k) at s l = rw (le-leb (length s) at l)

place_none : (k at : ℕ) (s : List ℕ) → length s ≤ at → place_after k at s ≡ at
unfolding place_after
place_none zero at s l = refl
place_none (suc k) at s l = rw (le-leb (length s) at l)

module _ (most i at : ℕ) (s : List ℕ) (more : i < most) (inside : at < length s) where
  one_fewer : most - i ≡ suc (most - (i + 1))
  one_fewer = omega arith

  lines_here : lines_at (most - i) at s ≡ up_to 10 (drop at s) ∷ lines_at (most - (i + 1)) (behind at s) s
  unfolding lines_at
  lines_here = rw (one_fewer, lt-leb (length s) at inside)

  place_here : place_after (most - i) at s ≡ place_after (most - (i + 1)) (behind at s) s
  unfolding place_after
  place_here = rw (one_fewer, lt-leb (length s) at inside)

-- an element stored behind i others, and the rest
stored_next : {A : Type 0} (xs : List A) (i : ℕ) (x : A) (rest whole : List A) → i < length xs → take i xs ++ (x ∷ rest) ≡ whole → take (i + 1) (set xs i x) ++ rest ≡ whole
stored_next xs i x rest whole l e = rw (add-one, take-suc-set xs i x l, append_assoc) e

-- ---- the turns
module _ {s : List ℕ} {from most : ℕ} {steps : List StepRecord} {refusals : List (Option Refusal)} {at i : ℕ} (t : GatherTurn s from most steps refusals at i) where
  pub turn_goes : i < most → at < length s → {x : Result StepRecord Refusal} → x ≡ step_by (reading false (up_to 10 (drop at s))) → {r : StepRecord} → r ≡ record_of x → {k : Option Refusal} → k ≡ refusal_of x → {next : ℕ} → next ≡ behind at s
      → GatherTurn s from most (set steps i r) (set refusals i k) next (i + 1)
  unfolding records_of refusals_of
  turn_goes more inside {x} e {r} f {k} g {next} h = record {
    few = t.few;
    within = omega arith;
    room = (length-set steps i r ∙ t.room.0, length-set refusals i k ∙ t.room.1);
    steps_are =
        rw (h, f, e) (stored_next steps i _ (records_of (lines_at (most - (i + 1)) (behind at s) s)) _ (omega (arith, t.room, t.few))
        (ap (λ (ls : List (List ℕ)). take i steps ++ records_of ls) (sym (lines_here most i at s more inside)) ∙ t.steps_are));
    refusals_are =
        rw (h, g, e) (stored_next refusals i _ (refusals_of (lines_at (most - (i + 1)) (behind at s) s)) _ (omega (arith, t.room, t.few))
        (ap (λ (ls : List (List ℕ)). take i refusals ++ refusals_of ls) (sym (lines_here most i at s more inside)) ∙ t.refusals_are));
    place_is = ap (λ (n : ℕ). place_after (most - (i + 1)) n s) h ∙ sym (place_here most i at s more inside) ∙ t.place_is;
  }

  -- no line is left
  turn_stops : lines_at (most - i) at s ≡ [] → place_after (most - i) at s ≡ at → Gathers (record { refusals = refusals; steps = steps; count = i; at = at }) (lines_at most from s) (place_after most from s)
  unfolding records_of refusals_of
  turn_stops e f =
      let all : take i steps ≡ records_of (lines_at most from s) = sym (append-nil (take i steps)) ∙ ap (λ (ls : List (List ℕ)). take i steps ++ records_of ls) (sym e) ∙ t.steps_are in
      record {
        steps = all;
        refusals = sym (append-nil (take i refusals)) ∙ ap (λ (ls : List (List ℕ)). take i refusals ++ refusals_of ls) (sym e) ∙ t.refusals_are;
        count = omega (arith, ap length all, length-take i steps, t.room, t.few, t.within, records_length (lines_at most from s));
        place = sym f ∙ t.place_is;
      }

  pub turn_past : length s ≤ at → Gathers (record { refusals = refusals; steps = steps; count = i; at = at }) (lines_at most from s) (place_after most from s)
  turn_past l = turn_stops (lines_none (most - i) at s l) (place_none (most - i) at s l)

  pub turn_full : most ≤ i → Gathers (record { refusals = refusals; steps = steps; count = i; at = at }) (lines_at most from s) (place_after most from s)
  unfolding lines_at place_after
  turn_full l =
      let none : most - i ≡ 0 = omega arith in
      turn_stops (ap (λ (k : ℕ). lines_at k at s) none) (ap (λ (k : ℕ). place_after k at s) none)
