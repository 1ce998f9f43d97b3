-- The line of a step: its letters are few and small, so it is short; how it is put together, and written at a place of a buffer.
use mathlib.Core.Path.{refl}
use mathlib.Core.List.{List, [], ◌∷◌}
use Prim.Native.Nat.{ℕ, ◌+◌, ◌*◌, ◌≤◌, ◌<◌}
use native.Mathlib.Omega.{arith}
use lib.ListN.{length, get_or, length-append}
use Rattle.rules.specs.Facts.{at_most, each}
use Rattle.rules.specs.Actions.{kinds, action_of}
use Rattle.rules.specs.Letters.{Letter, letters, values_of}
use Rattle.rules.specs.Guarantee.{Fits16}
use Rattle.rules.specs.declared.StepRecord.{StepRecord}
use Rattle.rules.specs.declared.Action.{Action}
use Rattle.rules.proofs.LetterLaws.{letter_values_length, read_fits}
use Rattle.numbers.specs.Numbers.{tabbed}
use Rattle.numbers.proofs.JoinLaws.{Small, tabbed_length}
use Rattle.script.specs.Words.{words}
use Rattle.script.specs.Writing.{letters_of, step_line, step_text, longest_step}
use Rattle.script.proofs.KindLaws.{word_row}

-- each letter of a step is small
pub letters_small : (r : StepRecord) (a : Action) → Fits16 r → Small (letters_of r a)
letters_small r a h = each_small (letters a)
  where
    each_small : (ls : List Letter) → Small (values_of r ls)
    each_small [] = tt
    each_small (l ∷ ls) = (omega (arith, read_fits r h l.field), each_small ls)

-- a word, and six bytes for each letter: a tab and at most five digits. The longest is a send's
word_short : (k : ℕ) → k ≤ kinds → length (get_or words k []) + 6 * length (letters (action_of k)) ≤ 22
unfolding each
word_short k u = (word_row (λ i w. at_most (length w + 6 * length (letters (action_of i))) 22 ∷ []) refl k u).0

pub line_short : (r : StepRecord) → 1 ≤ r.kind → r.kind ≤ kinds → Fits16 r → length (step_line r) < longest_step
unfolding step_line
line_short r l u h =
    let ns : List ℕ = letters_of r (action_of r.kind) in
    omega (
      arith,
      length-append (get_or words r.kind []) (tabbed ns),
      word_short r.kind u,
      tabbed_length ns (letters_small r (action_of r.kind) h),
      letter_values_length r (letters (action_of r.kind)),
    )

pub text_short : (r : StepRecord) → 1 ≤ r.kind → r.kind ≤ kinds → Fits16 r → length (step_text r) ≤ longest_step
text_short r l u h = omega (arith, length-append (step_line r) (10 ∷ []), line_short r l u h)
