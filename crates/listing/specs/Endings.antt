-- What a script leaves at its end, without a listing: the board after its last line.
use Rattle.std.specs.Prelude.{◌≡◌, Result, Ok, Err, List, [], ◌∷◌, ℕ, ◌-◌, length, get_or}
use Rattle.refusals.specs.Numbers.{number_of}
use Rattle.refusals.specs.declared.Refusal.{Refusal}
use Rattle.rules.specs.declared.Board.{Board}
use Rattle.rules.specs.declared.Outcome.{Outcome}
use Rattle.listing.specs.Scripts.{later_outcome, start_outcome, Line}
use Rattle.listing.specs.Listed.{later_of, lines_listed}

-- the board after the script lines ls, from the board b on
unfoldable pub board_after : Board → List (List ℕ) → Board
board_after b [] = b
board_after b (l ∷ ls) = board_after (later_outcome b l).board ls

-- the outcome of a whole script: its first line's where that is refused, else the board after its last line
abbrev pub left_by : Result (Unit {0}) Refusal → Board → List (List ℕ) → Board
left_by (Ok _) b ls = board_after b ls
left_by (Err k) b ls = b

unfoldable pub end_outcome : List ℕ → Outcome
end_outcome s = record { answer = (start_outcome s).answer; board = left_by (start_outcome s).answer (start_outcome s).board (later_of s) }

-- where the first line is accepted, that is the board of the listing's last line, whatever the line e that would stand for none
unfoldable pub EndsAsListed : Type 0
EndsAsListed = (s : List ℕ) (e : Line) → number_of (start_outcome s).answer ≡ 0 → end_outcome s ≡ record { answer = Ok tt; board = (get_or (lines_listed s) (length (lines_listed s) - 1) e).board }
