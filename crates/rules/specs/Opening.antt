-- Opening a board from M, d and the parents of units 1 on.
use Rattle.std.specs.Prelude.{List, [], ◌∷◌, ◌++◌, Bool, ℕ, suc, ◌-◌, length, replicate, Ok, Err}
use Rattle.refusals.specs.declared.Refusal.{Refusal}
use Rattle.refusals.specs.declared.Refusal.TheVariants.{BoardSize, ParentOrder}
use Rattle.rules.specs.Facts.{Check, check, at_most, below, holds, each, judge}
use Rattle.rules.specs.Records.{blank_unit, blank_slot, Board, Outcome}
use Rattle.rules.specs.Rounds.{no_round}

-- "a parent not below its unit": the list begins with unit 1's parent
unfoldable pub lower_parents : List ℕ → Bool
lower_parents ps = each (λ i p. below p (suc i) ∷ []) ps

-- 11 more than 63 parents, M outside 1 to 256, or d over 255; 12 a parent not below its unit
abbrev pub opening_checks : ℕ → ℕ → List ℕ → List Check
opening_checks m d ps =
    check (at_most (length ps) 63) BoardSize
    ∷ check (at_most 1 m) BoardSize
    ∷ check (at_most m 256) BoardSize
    ∷ check (at_most d 255) BoardSize
    ∷ check (holds (lower_parents ps)) ParentOrder
    ∷ []

-- a board of these sizes and parents with debt 0, "all idle and empty"; counts 0 and no round (M-105)
abbrev pub idle_board : ℕ → ℕ → ℕ → List ℕ → Board
idle_board n m d parents = record {
  n = n;
  m = m;
  delay = d;
  debt = 0;
  parents = parents;
  units = replicate 64 blank_unit;
  slots = replicate 256 blank_slot;
  created = replicate 64 0;
  processed = replicate 64 0;
  rounds = no_round;
}

-- the fresh board; n is the number of parents plus 1
unfoldable pub fresh : ℕ → ℕ → List ℕ → Board
fresh m d ps = idle_board (suc (length ps)) m d (0 ∷ ps ++ replicate (63 - length ps) 0)

-- "a blank board with n = 0", what a refused opening hands back
unfoldable pub blank_board : Board
blank_board = idle_board 0 0 0 (replicate 64 0)

abbrev pub refused_by : Refusal → Outcome
refused_by k = record { answer = Err k; board = blank_board }

unfoldable pub opening : ℕ → ℕ → List ℕ → Outcome
opening m d ps = judge refused_by (opening_checks m d ps) (record { answer = Ok tt; board = fresh m d ps })
