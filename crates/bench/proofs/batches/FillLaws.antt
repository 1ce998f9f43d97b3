-- Records filled in one by one: those that are there and those that are left are all.
use mathlib.Core.Path.{◌≡◌, sym, ap, subst, ◌∙◌}
use mathlib.Core.List.{List, [], ◌∷◌, ◌++◌, append_assoc, append-nil}
use Prim.Native.Nat.{ℕ, ◌+◌, ◌*◌, ◌/◌, ◌≤◌, ◌<◌}
use native.Mathlib.Numerals.{add-one}
use native.Mathlib.Omega.{arith}
use lib.ListN.{length, take, set, length-set, length-append}
use lib.Seq.{take-suc-set}
use Rattle.rules.specs.Runs.{batch_most}
use Rattle.rules.specs.declared.StepRecord.{StepRecord}
use Rattle.bench.specs.Records.{records_in, record_of}
use Rattle.bench.proofs.RecordLaws.{records_four, records_none}

-- at the head of each turn, i records are filled in, and the numbers that are left stand for the others
pub record FillTurn (numbers : List ℕ) (rs : List StepRecord) (i : ℕ) (rest : List ℕ) : Type 0 where
  pub few : length numbers ≤ 4 * batch_most
  pub within : 4 * i + length rest ≡ length numbers
  pub room : length rs ≡ batch_most
  pub filled : take i rs ++ records_in rest ≡ records_in numbers

module _ {numbers : List ℕ} {rs : List StepRecord} {i : ℕ} {rest : List ℕ} (t : FillTurn numbers rs i rest) where
  pub fill_fits : 4 ≤ length rest → i < length rs
  fill_fits l = omega (arith, l, t.few, t.within, t.room)

  next_filled : (four behind : List ℕ) → rest ≡ four ++ behind → length four ≡ 4 → {r : StepRecord} → r ≡ record_of four → FillTurn numbers (set rs i r) (i + 1) behind
  next_filled four behind whole l {r} e =
      let more : length rest ≡ 4 + length behind = omega (arith, ap length whole, length-append four behind, l) in
      record {
        few = t.few;
        within = omega (arith, t.within, more);
        room = length-set rs i r ∙ t.room;
        filled =
            ap (λ (k : ℕ). take k (set rs i r) ++ records_in behind) (add-one i)
            ∙ ap (λ (qs : List StepRecord). qs ++ records_in behind) (take-suc-set rs i r (fill_fits (omega (arith, more))))
            ∙ append_assoc (take i rs) (r ∷ []) (records_in behind)
            ∙ ap (λ (q : StepRecord). take i rs ++ (q ∷ records_in behind)) e
            ∙ ap (λ (qs : List StepRecord). take i rs ++ qs) (sym (ap records_in whole ∙ records_four four behind l))
            ∙ t.filled;
      }

  pub fill_goes : (four behind : List ℕ) → rest ≡ four ++ behind → length four ≡ 4 → {j k : ℕ} {r : StepRecord} → j ≡ i → k ≡ i + 1 → r ≡ record_of four → FillTurn numbers (set rs j r) k behind
  fill_goes four behind whole l {j} {k} {r} at next e =
      subst (λ (m : ℕ). FillTurn numbers (set rs j r) m behind) (sym next) (subst (λ (m : ℕ). FillTurn numbers (set rs m r) (i + 1) behind) (sym at) (next_filled four behind whole l e))

  pub fill_ends : length rest < 4 → take (length numbers / 4) rs ≡ records_in numbers
  fill_ends l =
      let all : length numbers / 4 ≡ i = omega (arith, l, t.within) in
      ap (λ (k : ℕ). take k rs) all ∙ sym (append-nil (take i rs)) ∙ ap (λ (qs : List StepRecord). take i rs ++ qs) (sym (records_none rest l)) ∙ t.filled
