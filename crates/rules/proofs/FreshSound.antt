-- The fresh board of an accepted opening is sound, and has nothing out; the blank board of a refused one is not sound.
use mathlib.Core.Path.{◌≡◌, refl, sym, ap, subst, ◌∙◌}
use mathlib.Core.Bool.{false}
use mathlib.Core.List.{List, [], ◌∷◌, ◌++◌}
use Prim.Native.Nat.{ℕ, zero, suc, ◌+◌, ◌-◌, ◌≤◌, ◌<◌}
use native.Mathlib.Nat.{le_of_suc-le-suc}
use native.Mathlib.Omega.{arith}
use lib.ListN.{length, get_or, replicate, length-append, length-replicate, get_or-replicate, get_or-append}
use lib.Seq.{get_or-append-add}
use Rattle.refusals.proofs.NumberLaws.{accepted_is}
use Rattle.std.specs.Prelude.{Ok}
use Rattle.refusals.specs.Numbers.{number_of}
use Rattle.rules.specs.Facts.{Claims, Each, below, one_if}
use Rattle.rules.specs.Records.{is_work, blank_unit, blank_slot, UnitRecord, Slot, Outcome}
use Rattle.rules.specs.Sheets.Sheet.{Sheet}
use Rattle.rules.specs.Sheets.Sound.{parent_row, pending_row, pending_in, pending, units_weight, slots_weight, created_row, processed_row, total, work_under_way, Sound as SoundSheet, sound as sheet_sound, slot_row_on, unit_row_on}
use Rattle.rules.specs.Boards.{view, seen_of}
use Rattle.rules.specs.Sound.{Sound, sound}
use Rattle.rules.specs.Rounds.{no_round}
use Rattle.rules.specs.Opening.{lower_parents, opening_checks, fresh, blank_board, refused_by, opening}
use Rattle.rules.proofs.FactLaws.{asked, each_claims, each_at, each_of, judge_passed}
use Rattle.rules.proofs.SumLaws.{sum_none}
use Rattle.rules.proofs.Sheets.SoundLaws.{row_of}
use Rattle.rules.proofs.RoundSound.{none_sound}
use Rattle.rules.proofs.JudgeLaws.{judge_map, answer_claims}

abbrev fresh_outcome : ℕ → ℕ → List ℕ → Outcome
fresh_outcome m d ps = record { answer = Ok tt; board = fresh m d ps }

-- an accepted opening: its checks held, and its board is the fresh one
pub opening_passed : (m d : ℕ) (ps : List ℕ) → number_of (opening m d ps).answer ≡ 0 → Claims (asked (opening_checks m d ps))
unfolding opening
opening_passed m d ps e =
    answer_claims (opening_checks m d ps) (sym (judge_map (λ (o : Outcome). o.answer) refused_by (opening_checks m d ps) (fresh_outcome m d ps)) ∙ accepted_is (opening m d ps).answer e)

pub opening_fresh : (m d : ℕ) (ps : List ℕ) → Claims (asked (opening_checks m d ps)) → opening m d ps ≡ record { answer = Ok tt; board = fresh m d ps }
unfolding opening
opening_fresh m d ps c = judge_passed refused_by (opening_checks m d ps) (fresh_outcome m d ps) c

-- no round is open on it
pub opening_rounds : (m d : ℕ) (ps : List ℕ) → number_of (opening m d ps).answer ≡ 0 → (opening m d ps).board.rounds ≡ no_round
unfolding fresh
opening_rounds m d ps e = ap (λ (o : Outcome). o.board.rounds) (opening_fresh m d ps (opening_passed m d ps e))

-- what holds of the blank record holds of every entry of a list of them
blank_at : {A : Type 0} (n i : ℕ) (a : A) (P : A → Type 0) → i < length (replicate n a) → P a → P (get_or (replicate n a) i a)
blank_at n i a P l p = subst P (sym (get_or-replicate n i a a (subst (λ (k : ℕ). i < k) (length-replicate n a) l))) p

module _ (m d : ℕ) (ps : List ℕ) (c : Claims (asked (opening_checks m d ps))) where
  abbrev b : Sheet
  b = view (fresh m d ps)

  rest_length : length (ps ++ replicate (63 - length ps) 0) ≡ 63
  rest_length = omega (arith, length-append ps (replicate (63 - length ps) 0), length-replicate {A = ℕ} (63 - length ps) 0, c)

  parents_rows : Each (parent_row b.n) (0 ∷ ps ++ replicate (63 - length ps) 0)
  unfolding fresh lower_parents
  parents_rows = each_of (parent_row b.n) (0 ∷ ps ++ replicate (63 - length ps) 0) 0 at
    where
      used : (k : ℕ) → k < length ps → suc (get_or ps k 0) ≤ suc k
      used k l = (each_at (λ i p. below p (suc i) ∷ []) ps k 0 l (each_claims (λ i p. below p (suc i) ∷ []) ps c.1.1.1.1.0)).0

      past : (k : ℕ) → length ps ≤ k → k < 63 → get_or (ps ++ replicate (63 - length ps) 0) k 0 ≡ 0
      past k l q =
          let e : length ps + (k - length ps) ≡ k = omega arith in
          ap (λ (j : ℕ). get_or (ps ++ replicate (63 - length ps) 0) j 0) (sym e) ∙ get_or-append-add ps (replicate (63 - length ps) 0) (k - length ps) 0 ∙ get_or-replicate (63 - length ps) (k - length ps) 0 0 (omega arith)

      at : (i : ℕ) → i < length (0 ∷ ps ++ replicate (63 - length ps) 0) → Claims (parent_row b.n i (get_or (0 ∷ ps ++ replicate (63 - length ps) 0) i 0))
      at zero l = row_of 0 (suc (length ps)) _ _ (λ p. (refl, tt)) (λ p. (refl, tt))
      at (suc k) l =
          row_of (suc k) (suc (length ps)) _ _ (λ p. (rw (get_or-append ps (replicate (63 - length ps) 0) 0 k (le_of_suc-le-suc p)) (used k (le_of_suc-le-suc p)), tt))
          (λ p. (past k (le_of_suc-le-suc p) (omega (arith, l, rest_length)), tt))

  sheet_sound_lem : SoundSheet b
  unfolding fresh pending units_weight slots_weight total work_under_way
  sheet_sound_lem = record {
    s1_sizes = omega (arith, rest_length, length-replicate 64 blank_unit, length-replicate 256 blank_slot, length-replicate {A = ℕ} 64 0, c);
    s1_parents = parents_rows;
    s2_units = each_of (unit_row_on b) b.units blank_unit
        (λ i l. blank_at 64 i blank_unit (λ (u : UnitRecord). Claims (unit_row_on b i u)) l (row_of i b.n _ _ (λ p. (refl, (refl, (refl, tt)))) (λ p. (refl, (refl, (refl, (refl, tt)))))));
    s3_slots = each_of (slot_row_on b) b.slots blank_slot
        (λ j l. blank_at 256 j blank_slot (λ (y : Slot). Claims (slot_row_on b j y)) l (row_of j b.m _ _ (λ p. (refl, (refl, (refl, tt)))) (λ p. (refl, (refl, (refl, (refl, tt)))))));
    s4_pending = each_of (pending_row b) b.units blank_unit
        (λ i l. blank_at 64 i blank_unit (λ (u : UnitRecord). Claims (pending_row b i u)) l
        (sum_none (λ j y. pending_in i y y.kind) b.slots blank_slot (λ j q. blank_at 256 j blank_slot (λ (y : Slot). pending_in i y y.kind ≡ 0) q refl), tt));
    s5_s6_debt = omega (
      arith,
      sum_none (λ i u. u.weight) b.units blank_unit (λ i l. blank_at 64 i blank_unit (λ (u : UnitRecord). u.weight ≡ 0) l refl),
      sum_none (λ j y. y.weight) b.slots blank_slot (λ j l. blank_at 256 j blank_slot (λ (y : Slot). y.weight ≡ 0) l refl),
    );
    counts_created = each_of (created_row b.n) b.created 0 (λ i l. blank_at 64 i 0 (λ (k : ℕ). Claims (created_row b.n i k)) l (row_of i b.n _ _ (λ p. (omega arith, tt)) (λ p. (refl, tt))));
    counts_processed = each_of (processed_row b.n) b.processed 0 (λ i l. blank_at 64 i 0 (λ (k : ℕ). Claims (processed_row b.n i k)) l (row_of i b.n _ _ (λ p. tt) (λ p. (refl, tt))));
    counts_balance = (
      omega (
        arith,
        sum_none (λ i k. k) b.created 0 (λ i l. blank_at 64 i 0 (λ (k : ℕ). k ≡ 0) l refl),
        sum_none (λ i k. k) b.processed 0 (λ i l. blank_at 64 i 0 (λ (k : ℕ). k ≡ 0) l refl),
        sum_none (λ j y. one_if (is_work y.kind)) b.slots blank_slot (λ j l. blank_at 256 j blank_slot (λ (y : Slot). one_if (is_work y.kind) ≡ 0) l refl),
      ),
      tt,
    );
  }

  -- no round is open
  pub fresh_sound : Sound (fresh m d ps)
  unfolding fresh
  fresh_sound = record { sheet = sheet_sound_lem; rounds = none_sound (seen_of b) }

-- having no unit
pub blank_unsound : sound blank_board ≡ false
unfolding blank_board sound sheet_sound
blank_unsound = refl
