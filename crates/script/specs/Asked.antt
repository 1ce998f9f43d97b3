-- What a line's word asks for, by name.
-- For private contracts only; a reader of the claim may skip this.
use Rattle.std.specs.Prelude.{◌≡◌, Bool, not, ℕ, ◌≤◌, length}
use Rattle.rules.specs.Facts.{Fact, at_most, equal}
use Rattle.rules.specs.Actions.{kinds, action_of}
use Rattle.rules.specs.Letters.{letters}
use Rattle.script.specs.declared.words.Word.{Word}
use Rattle.script.specs.declared.words.Word.TheVariants.{Board, Step}

-- the word is the one with this number
abbrev pub Names : Word → ℕ → Type 0
Names Board n = n ≡ 0
Names (Step a) n = (1 ≤ n) × (n ≤ kinds) × (a ≡ action_of n)

-- a board line stands first, and only there
abbrev pub right_place : Bool → Word → Bool
right_place first Board = first
right_place first (Step a) = not first

-- board has M, d, then 0 or more parents; a step has its letters
abbrev pub right_numbers : Word → ℕ → Fact
right_numbers Board count = at_most 2 count
right_numbers (Step a) count = equal count (length (letters a))
