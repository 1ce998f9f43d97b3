-- The calls that show the longest drain (M-109): what each answers, and what it leaves in the list.
use Rattle.std.specs.Prelude.{List, [], ◌∷◌, ◌++◌, ℕ, length, drop, replicate, Result, Ok, Err}
use Rattle.std.specs.List.{position_or_len}
use Rattle.refusals.specs.declared.Refusal.{Refusal}
use Rattle.refusals.specs.declared.Refusal.TheVariants.{NotSound, WorkLeft, NoFreeSlot, ShortList}
use Rattle.rules.specs.Facts.{Check, check, below, at_most, holds, fails, judge}
use Rattle.rules.specs.Records.{is_empty}
use Rattle.rules.specs.declared.Slot.{Slot}
use Rattle.rules.specs.declared.Board.{Board}
use Rattle.rules.specs.declared.StepRecord.{StepRecord}
use Rattle.rules.specs.Boards.{view}
use Rattle.rules.specs.Sound.{sound}
use Rattle.rules.specs.Busy.{is_busy}
use Rattle.rules.specs.Runs.{batch_most}
use Rattle.rules.specs.Sheets.Longest.{longest_length, longest_list}
use Rattle.steps.specs.NoStep.{no_step}
use Rattle.drains.specs.declared.ShortDrain.{ShortDrain}

-- the lowest free slot; the number of slots where none is free. (Entries from M on are empty, so where none in use is free, it is not below M)
unfoldable pub lowest_free : List Slot → ℕ
lowest_free ys = position_or_len (λ y. is_empty y.kind) ys

-- 30 not sound; "48, a unit active or work under way, after 30; 49, no free slot, next"
abbrev pub drain_checks : Board → List Check
drain_checks b = check (holds (sound b)) NotSound ∷ check (fails (is_busy b)) WorkLeft ∷ check (below (lowest_free b.slots) b.m) NoFreeSlot ∷ []

-- "50, list too short, last"
abbrev pub list_checks : Board → ℕ → List Check
list_checks b room = drain_checks b ++ check (at_most (longest_length (view b)) room) ShortList ∷ []

-- the length alone, and with a list of so many entries
unfoldable pub length_answer : Board → Result ℕ Refusal
length_answer b = judge Err (drain_checks b) (Ok (longest_length (view b)))

unfoldable pub list_answer : Board → ℕ → Result ℕ Refusal
list_answer b room = judge Err (list_checks b room) (Ok (longest_length (view b)))

-- the longest drain that is shown: every release goes into the lowest free slot
abbrev pub shown_list : Board → List StepRecord
shown_list b = longest_list (view b) (lowest_free b.slots)

-- what is left in the list: the drain in its first entries, and "the rest of the lent list stays"; where the call is refused, all of it
unfoldable pub list_left : Board → List StepRecord → List StepRecord
list_left b list = judge (λ k. list) (list_checks b (length list)) (shown_list b ++ drop (longest_length (view b)) list)

-- the list by value: as one of 512 entries that are all 0
unfoldable pub short_drain : Board → ShortDrain
short_drain b = record { longest = list_answer b batch_most; steps = list_left b (replicate batch_most no_step) }
