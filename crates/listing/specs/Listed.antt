-- The guarantee of a listing: after an accepted board line the whole guarantee holds of every line's board, and the line says finished exactly when its board has every unit idle and every slot empty.
use Rattle.std.specs.Prelude.{◌≡◌, true, false, Result, Ok, Err, List, [], ◌∷◌, ◌++◌, ◌↔◌, ℕ, take, drop}
use Rattle.refusals.specs.Numbers.{number_of}
use Rattle.refusals.specs.declared.Refusal.{Refusal}
use Rattle.rules.specs.Opening.{opening}
use Rattle.rules.specs.Finished.{verdict, Complete}
use Rattle.rules.specs.Lists.{taking}
use Rattle.rules.specs.Guarantee.{Guaranteed}
use Rattle.rules.specs.declared.Board.{Board}
use Rattle.rules.specs.declared.StepRecord.{StepRecord}
use Rattle.fields.specs.Fields.{up_to}
use Rattle.numbers.specs.Lines.{lines_of}
use Rattle.script.specs.Lines.{reading, parents_of, step_by}
use Rattle.script.specs.declared.Line.TheVariants.{Opens}
use Rattle.texts.specs.Texts.{heading, finished_word, state_word}
use Rattle.listing.specs.Scripts.{start_outcome, Line, text_of, opened_lines, listing}

-- the outcome of the first line is an opening, by the M, the d and the parents that stand in it; count is how many parents these are
pub record OpenedBy (s : List ℕ) : Type 0 where
  pub m : ℕ
  pub d : ℕ
  pub count : ℕ
  pub reads : reading true (up_to 10 s) ≡ Ok (Opens m d count)
  pub opens : start_outcome s ≡ opening m d (parents_of (up_to 10 s))

-- the steps that lines behind the first ask for: a line that is no step asks for none
abbrev pub asked_by : Result StepRecord Refusal → List StepRecord
asked_by (Ok r) = r ∷ []
asked_by (Err k) = []

unfoldable pub steps_asked : List (List ℕ) → List StepRecord
steps_asked [] = []
steps_asked (l ∷ ls) = asked_by (step_by (reading false l)) ++ steps_asked ls

-- what holds of a line of the listing, where f is the board that the first line opened and ls are the script lines behind it. The line's number is how many of these were read so far
pub record Says (f : Board) (ls : List (List ℕ)) (l : Line) : Type 0 where
  pub guaranteed : Guaranteed f (taking (steps_asked (take l.number ls))) l.board
  pub finished : (state_word (verdict l.board) ≡ finished_word) ↔ Complete l.board

abbrev pub AllSay : Board → List (List ℕ) → List Line → Type 0
AllSay f ls [] = Unit {0}
AllSay f ls (l ∷ more) = Says f ls l × AllSay f ls more

-- the script lines behind the first, and the lines of a listing whose first line was accepted
abbrev pub later_of : List ℕ → List (List ℕ)
later_of s = drop 1 (lines_of s)

abbrev pub lines_listed : List ℕ → List Line
lines_listed s = opened_lines (start_outcome s).board (later_of s)

pub record Listed (s : List ℕ) : Type 0 where
  pub opened : OpenedBy s
  pub text : listing s ≡ heading ++ text_of (lines_listed s)
  pub says : AllSay (start_outcome s).board (later_of s) (lines_listed s)

unfoldable pub ListingGuarantee : Type 0
ListingGuarantee = (s : List ℕ) → number_of (start_outcome s).answer ≡ 0 → Listed s
