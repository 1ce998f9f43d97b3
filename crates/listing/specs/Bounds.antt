-- How long a listing can be.
use Rattle.std.specs.Prelude.{cond, List, ℕ, ◌+◌, ◌-◌, ◌*◌, ◌≤◌, length, drop, leb}
use Rattle.numbers.specs.Lines.{lines_of}
use Rattle.listing.specs.Scripts.{listing}

-- no piece of a listing is longer: the heading of 23 bytes, and a first line of 15
abbrev pub longest_piece : ℕ
longest_piece = 38

-- no line behind the first is longer: 10 digits, 2 and 13, a word of 8 bytes, 3 tabs and byte 10
abbrev pub longest_line : ℕ
longest_line = 37

-- the lines of a text behind its first
abbrev pub further_lines : List ℕ → ℕ
further_lines s = length (drop 1 (lines_of s))

-- those that a listing can have lines for: none where the script is too long, since its listing is a refused line
abbrev pub further_listed : List ℕ → ℕ
further_listed s = cond (leb (length s) 65535) (further_lines s) 0

-- a buffer for the listing of one script, by its lines
unfoldable pub bound_by_lines : List ℕ → ℕ
bound_by_lines s = longest_piece + longest_line * further_listed s

unfoldable pub ListingBoundByLines : Type 0
ListingBoundByLines = (s : List ℕ) → length (listing s) ≤ bound_by_lines s

-- by its length: each line behind the first takes at least a byte of the script
unfoldable pub ListingBoundByLength : Type 0
ListingBoundByLength = (s : List ℕ) → length (listing s) ≤ longest_piece + longest_line * (length s - 1)

-- a buffer for the listing of any script: one of 65,535 bytes has at most 65,534 lines behind its first
unfoldable pub ListingBound : Type 0
ListingBound = (s : List ℕ) → length (listing s) ≤ longest_piece + longest_line * 65534
