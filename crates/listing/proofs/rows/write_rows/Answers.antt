-- At each turn, the lines that are left from here give what the whole gives.
use mathlib.Core.Path.{◌≡◌, sym, ap, ◌∙◌}
use Prim.Native.Nat.{ℕ}
use native.Mathlib.Omega.{arith}
use borrow.Author.Rules.{rules}
use Rattle.std.proofs.Common.{Ok, Option}
use Rattle.refusals.specs.declared.Refusal.{Refusal}
use Rattle.rules.specs.Sheets.Finished.{told_from}
use Rattle.rules.specs.declared.Verdict.{Verdict}
use Rattle.texts.specs.Texts.{line_text}
use Rattle.listing.specs.Turns.{bytes_of, answer_of, row_text}
use Rattle.listing.proofs.rows.RowLaws.{firsts, seconds, thirds, side_more, side_end, wrote_inside, row_goes, row_ends}
use Rattle.listing.proofs.rows.write_rows.Goals as goal

-- the line that a turn writes, as it is handed to the writer
row_said : (n : ℕ) (k : Option Refusal) (j debt : ℕ) {m a b : ℕ} {v : Verdict} → m ≡ n → a ≡ b → b ≡ answer_of k j → v ≡ told_from debt → line_text {E = Refusal} m a debt (Ok v) ≡ row_text n k j debt
row_said n k j debt e f g h = rw (e, f, g, h)

pub loop-refusal-init : goal.loop-refusal-init
loop-refusal-init c =
    let ks : firsts c.into_iter-refusal-iterator.result ≡ c.args.refusals.now = rw (c.into_iter-refusal-iterator.ensures.into_iter_gives, c.zip-refusal-items.ensures.first, c.zip.ensures.first) c.iter.ensures.rest in
    let js : seconds c.into_iter-refusal-iterator.result ≡ c.args.answers.now = cc in
    let ds : thirds c.into_iter-refusal-iterator.result ≡ c.args.debts.now = cc in
    record { can_next = search rules; is_finite = search rules; inside = search rules; gives = rw (ks, js, ds) }

pub overflow_add-to : goal.overflow_add-to
overflow_add-to c =
    omega (arith, c.unwrap_or-to.ensures ∙ ap bytes_of c.write_line.ensures.0, wrote_inside (line_text {E = Refusal} c.from.result c.from-answer.result c.in-Some.debt.now (Ok c.state_of.result)) c.loop-refusal.to c.loop-refusal.out c.loop-refusal.invariant.inside)

pub loop-refusal-preserved : goal.loop-refusal-preserved
loop-refusal-preserved c =
    let said = row_said c.loop-refusal.number c.in-Some.refusal.now c.in-Some.answer.now c.in-Some.debt.now c.from.ensures c.from-answer.ensures c.answer_of.ensures c.state_of.ensures in
    let row = rw said at c.write_line.ensures in
    let bytes = c.unwrap_or-to.ensures ∙ ap bytes_of row.0 in
    record {
      can_next = search rules;
      is_finite = search rules;
      inside = omega (arith, c.write_line.auto.out, bytes, wrote_inside (row_text c.loop-refusal.number c.in-Some.refusal.now c.in-Some.answer.now c.in-Some.debt.now) c.loop-refusal.to c.loop-refusal.out c.loop-refusal.invariant.inside);
      gives = row_goes c.loop-refusal.number c.loop-refusal.to c.loop-refusal.out c.loop-refusal.invariant.gives (side_more c.loop-refusal.refusal-iterator c.next.new.self c.in-Some.is c.next.ensures.steps) row.1 bytes (omega (arith, c.saturating_add-number.ensures));
    }

pub returns : goal.returns
returns c = sym c.loop-refusal.invariant.gives ∙ row_ends _ _ _ _ _ _ (side_end c.loop-refusal.refusal-iterator c.next.new.self c.in-None.is c.next.ensures.steps)
