-- The two tests of the script's length, then its first line.
use mathlib.Core.Path.{◌≡◌, sym, ap, ◌∙◌}
use mathlib.Core.Bool.{true}
use mathlib.Core.List.{List}
use Prim.Native.Nat.{ℕ, ◌-◌}
use native.Mathlib.Omega.{arith}
use borrow.Author.Tests.{eqb-true}
use lib.ListN.{length, take}
use lib.Seq.{length-take-le}
use Rattle.std.proofs.lemmas.Bool.Decides.{nat_tests}
use Rattle.fields.specs.Fields.{up_to}
use Rattle.numbers.specs.Lines.{line_at}
use Rattle.numbers.specs.declared.LineAt.{LineAt}
use Rattle.numbers.proofs.LineLaws.{line_inside, line_part}
use Rattle.script.specs.Lines.{reading, parents_of}
use Rattle.listing.specs.Scripts.{first_outcome}
use Rattle.listing.proofs.StartLaws.{start_long, start_empty, start_first}
use Rattle.listing.proofs.starting.start_outcome.Goals as goal

-- the line at the beginning of a text
first_line : (s : List ℕ) {x : LineAt} → x ≡ line_at 0 s → take x.end s ≡ up_to 10 s
first_line s {x} e = let all : x.end - 0 ≡ x.end = omega arith in rw all at (line_part 0 s e (omega arith))

pub returns-then-script-gt-MOST_BYTES : goal.returns-then-script-gt-MOST_BYTES
returns-then-script-gt-MOST_BYTES c = c.refused.ensures ∙ sym (start_long c.args.script.now c.if-script-gt-MOST_BYTES.true)

pub returns-then-is_empty : goal.returns-then-is_empty
returns-then-is_empty c = c.refused-then-is_empty.ensures ∙ sym (start_empty c.args.script.now c.if-script-gt-MOST_BYTES.false (omega (arith, eqb-true (length c.args.script.now) 0 (sym c.is_empty.ensures ∙ c.if-is_empty.true))))

pub slice_bounds-first_outcome-end : goal.slice_bounds-first_outcome-end
slice_bounds-first_outcome-end c = sym (length-take-le c.line_at.result.end c.args.script.now (line_inside 0 c.args.script.now c.line_at.ensures))

pub returns : goal.returns
returns c =
    c.first_outcome.ensures
    ∙ ap (λ (l : List ℕ). first_outcome (parents_of l) (reading true l)) (first_line c.args.script.now c.line_at.ensures)
    ∙ sym (start_first c.args.script.now c.if-script-gt-MOST_BYTES.false (grind (arith, nat_tests)))
