-- The steps of the elements of a list, one behind the other; those of the units and of the slots are the longest list.
use mathlib.Core.Path.{◌≡◌, sym, ap, subst, ◌∙◌}
use mathlib.Core.List.{List, [], ◌∷◌, ◌++◌}
use Prim.Native.Nat.{ℕ, zero, suc, ◌+◌, ◌≤◌, ◌<◌, zero-le}
use native.Mathlib.Numerals.{add-one}
use native.Mathlib.Omega.{arith}
use lib.ListN.{length, get_or, take, drop, length-append}
use Rattle.rules.specs.Sheets.Sheet.{Sheet}
use Rattle.rules.specs.Sheets.Sound.{Sound}
use Rattle.rules.specs.Sheets.Longest.{unit_steps, slot_steps, join_of, longest_length, longest_list}
use Rattle.rules.specs.declared.StepRecord.{StepRecord}
use Rattle.rules.proofs.Sheets.LongestLaws.{length_list}
use Rattle.drains.specs.Writing.{Writes}
use Rattle.drains.proofs.JoinLaws.{join_taken}
use Rattle.drains.proofs.journeys.WritingLaws.{writes_none, writes_then, writes_front}

-- ---- the steps of the elements of a list, one behind the other: those of the first i are written
module _ {A : Type 0} (f : ℕ → A → List StepRecord) where
  pub none_written : (at : ℕ) (list : List StepRecord) → Writes (join_of f []) at list list at
  unfolding join_of
  none_written at list = writes_none at list

  join_front : (g : ℕ → A → List StepRecord) (xs : List A) (i : ℕ) → length (join_of g (take i xs)) ≤ length (join_of g xs)
  unfolding join_of
  join_front g xs zero = zero-le
  join_front g [] (suc i) = zero-le
  join_front g (x ∷ xs) (suc i) =
      omega (arith, length-append (g 0 x) (join_of (λ k. g (suc k)) (take i xs)), length-append (g 0 x) (join_of (λ k. g (suc k)) xs), join_front (λ k. g (suc k)) xs i)

  module _ (xs : List A) (i : ℕ) (x : A) (l : i < length xs) (read : x ≡ get_or xs i x) {at₀ at : ℕ} {list₀ list : List StepRecord} (w : Writes (join_of f (take i xs)) at₀ list₀ list at) where
    taken : join_of f (take (i + 1) xs) ≡ join_of f (take i xs) ++ f i x
    taken = ap (λ (k : ℕ). join_of f (take k xs)) (add-one i) ∙ join_taken f xs i x l ∙ ap (λ (y : A). join_of f (take i xs) ++ f i y) (sym read)

    pub next_room : at₀ + length (join_of f xs) ≤ length list₀ → at + length (f i x) ≤ length list₀
    next_room r = omega (arith, r, w.ends, ap length taken, length-append (join_of f (take i xs)) (f i x), join_front f xs (i + 1))

    pub next_written : {end : ℕ} {left : List StepRecord} → Writes (f i x) at list left end → Writes (join_of f (take (i + 1) xs)) at₀ list₀ left end
    next_written {end} {left} v = subst (λ (rs : List StepRecord). Writes rs at₀ list₀ left end) (sym taken) (writes_then w v)

-- ---- those of the units, then those of the slots
module _ (b : Sheet) (s : ℕ) (h : Sound b) where
  abbrev of_units : List StepRecord
  of_units = join_of (λ i x. unit_steps b.delay b.parents s i x x.state) b.units

  abbrev of_slots : List StepRecord
  of_slots = join_of (λ j y. slot_steps b.delay b.parents s j y y.kind) b.slots

  pub parts_length : length of_units + length of_slots ≡ longest_length b
  unfolding longest_list
  parts_length = sym (length-append of_units of_slots) ∙ length_list b s h

  pub longest_written : {mid end : ℕ} {list between left : List StepRecord} → Writes of_units 0 list between mid → Writes of_slots mid between left end → longest_length b ≤ length list → left ≡ longest_list b s ++ drop (longest_length b) list
  unfolding longest_list
  longest_written {list = list} v w r =
      let long : length (of_units ++ of_slots) ≡ longest_length b = length-append of_units of_slots ∙ parts_length in
      writes_front (writes_then v w) (omega (arith, r, long)) ∙ ap (λ (k : ℕ). (of_units ++ of_slots) ++ drop k list) long
