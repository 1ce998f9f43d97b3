-- At each turn, the bytes counted and those still to come are those of the listing.
use mathlib.Core.Path.{refl, sym, ◌∙◌}
use native.Mathlib.Omega.{arith}
use borrow.Author.Rules.{rules}
use Rattle.listing.proofs.CallLaws.{counting_begins, counting_ends, counting_goes, counting_fits, counting_less}
use Rattle.listing.proofs.whole.listing_length.Goals as goal

pub loop-part-init : goal.loop-part-init
loop-part-init c = (search rules, counting_begins c.args.script.now _ refl)

pub overflow_add-n : goal.overflow_add-n
overflow_add-n c =
    omega (arith, counting_fits c.loop-part.invariant.1 (sym c.is_ended.ensures ∙ c.loop-part-test.true) c.loop-part.part (omega (arith, c.loop-part.invariant.0)) c.list_part-p.ensures.0 c.unwrap_or-n.ensures)

pub loop-part-smaller : goal.loop-part-smaller
loop-part-smaller c =
    counting_less c.loop-part.invariant.1 (sym c.is_ended.ensures ∙ c.loop-part-test.true) c.loop-part.part (omega (arith, c.loop-part.invariant.0)) c.list_part-p.ensures.0

pub loop-part-preserved : goal.loop-part-preserved
loop-part-preserved c = (
  search rules,
  counting_goes c.loop-part.invariant.1 (sym c.is_ended.ensures ∙ c.loop-part-test.true) c.loop-part.part (omega (arith, c.loop-part.invariant.0)) c.list_part-p.ensures.0 c.unwrap_or-n.ensures,
)

pub returns : goal.returns
returns c = counting_ends c.args.script.now c.loop-part.c c.loop-part.n c.loop-part.invariant.1 (sym c.is_ended.ensures ∙ c.loop-part-test.false)
