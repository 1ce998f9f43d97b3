-- The census (M-106): of all lists of one length on a fresh board, how many leave it of each sort.
use Rattle.std.specs.Prelude.{Bool, List, [], ◌∷◌, ◌++◌, ℕ, length, Result, Ok, Err}
use Rattle.refusals.specs.declared.Refusal.{Refusal}
use Rattle.refusals.specs.declared.Refusal.TheVariants.{CensusSize}
use Rattle.rules.specs.Facts.{Check, check, at_most, judge}
use Rattle.rules.specs.Opening.{opening_checks, fresh}
use Rattle.rules.specs.Lists.{after}
use Rattle.rules.specs.declared.Board.{Board}
use Rattle.census.specs.Choices.{choices, lists}
use Rattle.rules.specs.Busy.{how_many, is_busy}
use Rattle.census.specs.Sorts.{is_finished, is_other}
use Rattle.census.specs.declared.Ends.{Ends}

-- how many lists of k choices leave the board b of a sort
unfoldable pub ending_count : (Board → Bool) → Board → ℕ → ℕ
ending_count is b k = how_many (λ rs. is (after b rs)) (lists (choices b.n b.m) k)

abbrev pub ends_from : Board → ℕ → Ends
ends_from b k = record { finished = ending_count is_finished b k; busy = ending_count is_busy b k; other = ending_count is_other b k }

-- 46 more than 2 parents, M outside 1 to 2, d over 1, or k over 4; then the opening's own
abbrev pub size_checks : ℕ → ℕ → List ℕ → ℕ → List Check
size_checks m d ps k =
    check (at_most (length ps) 2) CensusSize
    ∷ check (at_most 1 m) CensusSize
    ∷ check (at_most m 2) CensusSize
    ∷ check (at_most d 1) CensusSize
    ∷ check (at_most k 4) CensusSize
    ∷ []

unfoldable pub census : ℕ → ℕ → List ℕ → ℕ → Result Ends Refusal
census m d ps k = judge Err (size_checks m d ps k ++ opening_checks m d ps) (Ok (ends_from (fresh m d ps) k))
