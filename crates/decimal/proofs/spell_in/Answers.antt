-- `spell_in`: one turn writes the last of the digits that are left.
use Rattle.std.proofs.Common.{◌≡◌, List, ◌++◌, append-nil, ℕ, zero, suc, ◌-◌, ◌/◌, ◌%◌, ◌^◌, ◌+◌, ◌<◌, ◌≤◌, length, drop, set, ◌∙◌, arith, add-one, sub-one, append_assoc}
use Rattle.std.proofs.Math.Nat.{pow-suc}
use Rattle.std.proofs.Math.Seq.{drop-length}
use Rattle.std.proofs.lemmas.List.{drop-set}
use Rattle.decimal.specs.Spelling.{spell, spelled}
use Rattle.decimal.proofs.CountLaws.{below_count}
use Rattle.decimal.proofs.SpellLaws.{spell_last}
use Rattle.decimal.proofs.spell_in.Goals as goal

module _ (rest : ℕ) (digits : List ℕ) where
  turn_fits : (i : ℕ) → 0 < i → rest < 10 ^ i → rest / 10 < 10 ^ (i - 1)
  turn_fits zero h f = absurd (omega arith)
  turn_fits (suc i) h f = rw sub-one (omega (arith, pow-suc 10 i))

  turn : (i : ℕ) → 0 < i → i ≤ length digits → rest < 10 ^ i → spell (i - 1) (rest / 10) ++ drop (i - 1) (set digits (i - 1) (48 + rest % 10)) ≡ spell i rest ++ drop i digits
  turn zero h l f = absurd (omega arith)
  turn (suc i) h l f = rw (sub-one, spell_last i rest f, drop-set digits i (48 + rest % 10) l, add-one, append_assoc)

pub loop-i-init : goal.loop-i-init
loop-i-init c = record { fits = rw c.requires (below_count c.args.n (omega arith)); spelled = rw (drop-length, append-nil) }

pub loop-i-preserved : goal.loop-i-preserved
loop-i-preserved c =
    record {
      fits = turn_fits _ c.loop-i.digits _ c.loop-i-test.true c.loop-i.invariant.fits;
      spelled = turn _ _ _ c.loop-i-test.true (omega arith) c.loop-i.invariant.fits ∙ c.loop-i.invariant.spelled;
    }

pub returns : goal.returns
unfolding spell spelled
returns c = let none : c.loop-i.i ≡ 0 = omega arith in rw (none, c.requires) at c.loop-i.invariant.spelled
