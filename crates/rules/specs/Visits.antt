-- A beginning and a visit on a board (M-105): they leave its sheet as it was.
use Rattle.std.specs.Prelude.{List, [], ◌∷◌, ℕ, Ok, Err}
use Rattle.refusals.specs.declared.Refusal.TheVariants.{NotSound}
use Rattle.rules.specs.Facts.{Check, check, holds, judge}
use Rattle.rules.specs.Rounds.{begun, visit_checks, rounds_after, found}
use Rattle.rules.specs.Boards.{view, board_of, seen_of}
use Rattle.rules.specs.Sound.{sound}
use Rattle.rules.specs.Records.{Board, Outcome, Visited}

-- a beginning [30]
unfoldable pub begin : Board → Outcome
begin b = judge (λ k. record { answer = Err k; board = b }) (check (holds (sound b)) NotSound ∷ []) (record { answer = Ok tt; board = board_of (view b) begun })

-- a visit of unit u [30, 13, 43, 42]
abbrev pub visit_bracket : Board → ℕ → List Check
visit_bracket b u = check (holds (sound b)) NotSound ∷ visit_checks (seen_of (view b)) b.rounds u

unfoldable pub visit : Board → ℕ → Visited
visit b u =
    judge (λ k. record { finding = Err k; board = b }) (visit_bracket b u)
    (record { finding = Ok (found (seen_of (view b)) b.rounds u); board = board_of (view b) (rounds_after (seen_of (view b)) b.rounds u) })
