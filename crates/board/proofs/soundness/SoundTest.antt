-- What the passes of the test say of a sound board, and together of a board.
use mathlib.Core.Path.{◌≡◌, sym, ◌∙◌}
use mathlib.Core.Bool.{Bool, true, false}
use mathlib.Core.List.{List, ◌∷◌}
use Prim.Native.Nat.{ℕ, ◌<◌}
use native.Mathlib.Omega.{arith}
use lib.ListN.{length}
use Rattle.rules.specs.Facts.{at_most, Claims, tests, Each}
use Rattle.rules.specs.Records.{blank_unit, ceiling}
use Rattle.rules.specs.Sheets.Sheet.{Sheet, parent_at, unit_at}
use Rattle.rules.specs.Sheets.Sound.{sizes, parent_row, unit_row_on, slot_row_on, pending_row, created_row, processed_row, balance_row, Sound as SoundSheet}
use Rattle.rules.specs.Boards.{view, seen_of}
use Rattle.rules.specs.Sound.{Sound, sound}
use Rattle.rules.specs.declared.Board.{Board}
use Rattle.rules.proofs.FactLaws.{claims, claims_tested, each_claims, each_tested, each_at, each_of}
use Rattle.rules.proofs.RoundSound.{rounds_claims, rounds_tested}
use Rattle.rules.proofs.SoundLaws.{sound_tested}
use Rattle.board.specs.Passes.{ranges_row, slots_row, AreTotals, units_row, counts_row}
use Rattle.board.proofs.TestLaws.{denied, unsound}
use Rattle.board.proofs.UnitLaws.{entry_row_on}

-- the lengths of a board's arrays, which its type says
pub record Lengths (b : Sheet) : Type 0 where
  pub of_parents : length b.parents ≡ 64
  pub of_units : length b.units ≡ 64
  pub of_slots : length b.slots ≡ 256
  pub of_created : length b.created ≡ 64
  pub of_processed : length b.processed ≡ 64

-- ---- a sound board passes each
pub ranges_sound : (b : Sheet) → SoundSheet b → Claims (ranges_row b)
ranges_sound b s = let z = s.s1_sizes in (s.s5_s6_debt.1.0, (z.0, (z.1.0, (z.1.1.0, (z.1.1.1.0, (z.1.1.1.1.0, tt))))))

pub slots_sound : (b : Sheet) → SoundSheet b → Claims (slots_row b)
slots_sound b s = (each_tested (slot_row_on b) b.slots s.s3_slots, (omega (arith, s.s5_s6_debt), tt))

pub units_sound : (b : Sheet) {left work : ℕ} {counts : List ℕ} → AreTotals b left work counts → SoundSheet b → Claims (units_row b left counts)
units_sound b {left} {work} {counts} t s = (each_tested (entry_row_on b counts) b.units (each_of (entry_row_on b counts) b.units blank_unit entry), (omega (arith, t.leaves, s.s5_s6_debt), tt))
  where
    entry : (i : ℕ) → i < length b.units → Claims (entry_row_on b counts i (unit_at b i))
    entry i l = (
      claims_tested (unit_row_on b i (unit_at b i)) (each_at (unit_row_on b) b.units i blank_unit l s.s2_units),
      (
        claims_tested (parent_row b.n i (parent_at b i)) (each_at (parent_row b.n) b.parents i 0 (omega (arith, s.s1_sizes)) s.s1_parents),
        (t.counted i (omega (arith, s.s1_sizes)) ∙ (each_at (pending_row b) b.units i blank_unit l s.s4_pending).0, tt),
      ),
    )

-- ---- and one that passes them is sound where its counts are
module _ (b : Sheet) (long : Lengths b) (ranges : Claims (ranges_row b)) (slots : Claims (slots_row b)) {left work : ℕ} {counts : List ℕ} (t : AreTotals b left work counts) (units : Claims (units_row b left counts)) where
  entry : (i : ℕ) → i < 64 → Claims (entry_row_on b counts i (unit_at b i))
  entry i l = each_at (entry_row_on b counts) b.units i blank_unit (omega (arith, long.of_units)) (each_claims (entry_row_on b counts) b.units units.0)

  pub entries_sound : Each (created_row b.n) b.created → Each (processed_row b.n) b.processed → Claims (balance_row b) → SoundSheet b
  entries_sound made done balance = record {
    s1_sizes = (
      ranges.1.0,
      (ranges.1.1.0, (ranges.1.1.1.0, (ranges.1.1.1.1.0, (ranges.1.1.1.1.1.0, (long.of_parents, (long.of_units, (long.of_slots, (long.of_created, (long.of_processed, tt))))))))),
    );
    s1_parents = each_of (parent_row b.n) b.parents 0 (λ i l. claims (parent_row b.n i (parent_at b i)) (entry i (omega (arith, long.of_parents))).1.0);
    s2_units = each_of (unit_row_on b) b.units blank_unit (λ i l. claims (unit_row_on b i (unit_at b i)) (entry i (omega (arith, long.of_units))).0);
    s3_slots = each_claims (slot_row_on b) b.slots slots.0;
    s4_pending = each_of (pending_row b) b.units blank_unit (λ i l. (sym (t.counted i (omega (arith, long.of_units))) ∙ (entry i (omega (arith, long.of_units))).1.1.0, tt));
    s5_s6_debt = (omega (arith, t.leaves, units.1.0), (ranges.0, tt));
    counts_created = made;
    counts_processed = done;
    counts_balance = balance;
  }

-- where all else of a board is sound, its counts and rounds decide
module _ (b : Board) {left work : ℕ} {counts : List ℕ} (t : AreTotals (view b) left work counts)
    (else : Each (created_row b.n) b.created → Each (processed_row b.n) b.processed → Claims (balance_row (view b)) → SoundSheet (view b)) where
  pub counts_decide : (r : Bool) → r ≡ tests (counts_row b.n b.created b.processed b.rounds work) → r ≡ sound b
  counts_decide true q =
      let c = claims (counts_row b.n b.created b.processed b.rounds work) (sym q) in
      sym (sound_tested b (record {
        sheet = else (each_claims (created_row b.n) b.created c.0) (each_claims (processed_row b.n) b.processed c.1.0) (omega (arith, c.1.1.0, t.worked), tt);
        rounds = rounds_claims (seen_of (view b)) b.rounds c.1.1.1.0;
      }))
  counts_decide false q =
      unsound b (λ s. denied (counts_row b.n b.created b.processed b.rounds work) (sym q) (
        each_tested (created_row b.n) b.created s.sheet.counts_created,
        (
          each_tested (processed_row b.n) b.processed s.sheet.counts_processed,
          (omega (arith, s.sheet.counts_balance, t.worked), (rounds_tested (seen_of (view b)) b.rounds s.rounds, tt)),
        ),
      ))
