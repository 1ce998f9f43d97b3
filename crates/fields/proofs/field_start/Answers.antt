-- `field_start`: one turn goes from a place on to the next tab, or to the line's end.
use mathlib.Core.Path.{◌≡◌, refl, sym, ◌∙◌}
use mathlib.Core.List.{List, []}
use Prim.Native.Nat.{ℕ, zero, suc, ◌+◌, ◌-◌, ◌≤◌, ◌<◌}
use native.Mathlib.Numerals.{add-one}
use native.Mathlib.Omega.{arith}
use lib.ListN.{length, drop, length-drop, drop_of_length-le}
use Rattle.fields.specs.Fields.{tab, past, end_from, field_start}
use Rattle.fields.proofs.PartLaws.{end_after, end_at_most, past_from}
use Rattle.fields.proofs.field_start.Goals as goal

start_nil : (k : ℕ) → field_start k [] ≡ 0
unfolding field_start past
start_nil zero = refl
start_nil (suc k) = rw (start_nil k)

module _ (at : ℕ) (l : List ℕ) {end : ℕ} (inside : at ≤ length l) (t : end ≡ end_from tab at l) where
  start_next : (k : ℕ) → end < length l → at + field_start (suc k) (drop at l) ≡ end + 1 + field_start k (drop (end + 1) l)
  unfolding field_start
  start_next k h = rw (add-one, past_from tab at l inside, ← t, length-drop, length-drop) (omega (arith, end_after tab at l inside))

  start_last : (k : ℕ) → end ≡ length l → at + field_start (suc k) (drop at l) ≡ end
  unfolding field_start
  start_last k h = rw (past_from tab at l inside, drop_of_length-le l {i = suc (end_from tab at l)} (omega arith), start_nil k, length-drop) (omega arith)

pub returns-then-end-line : goal.returns-then-end-line
returns-then-end-line c =
    let last = start_last _ _ c.loop.invariant.within c.end_from-end.ensures (c.args.k - (c.loop.counter + 1)) c.if-end-line.true in
    let some : c.args.k - c.loop.counter ≡ suc (c.args.k - (c.loop.counter + 1)) = omega arith in
    sym last ∙ rw some at c.loop.invariant.start

pub overflow_add-at : goal.overflow_add-at
overflow_add-at c = omega (arith, end_at_most tab c.loop.at c.args.line.now)

pub loop-preserved : goal.loop-preserved
loop-preserved c =
    let more : c.end_from-end.result < length c.args.line.now = omega (arith, end_at_most tab c.loop.at c.args.line.now) in
    let some : c.args.k - c.loop.counter ≡ suc (c.args.k - (c.loop.counter + 1)) = omega arith in
    record {
      within = omega arith;
      start = sym (start_next _ _ c.loop.invariant.within c.end_from-end.ensures (c.args.k - (c.loop.counter + 1)) more) ∙ rw some at c.loop.invariant.start;
    }

pub returns : goal.returns
unfolding field_start
returns c = let none : c.args.k - c.loop.counter ≡ 0 = omega arith in omega (arith, rw none at c.loop.invariant.start)
