-- The line behind the heading's place, and then the heading in front of it, are both in one.
use mathlib.Core.Path.{◌≡◌, refl, sym, ap, ◌∙◌}
use mathlib.Core.List.{List, [], ◌∷◌, ◌++◌}
use Prim.Native.Nat.{ℕ, suc, ◌+◌, ◌≤◌, ◌<◌}
use native.Mathlib.Nat.{add-zero}
use native.Mathlib.Omega.{arith}
use lib.ListN.{length, set, length-append}
use lib.Seq.{sets, set_comm, length-sets}
use Rattle.std.proofs.Common.{Result, Ok, Err}
use Rattle.refusals.specs.declared.Refusal.{Refusal}
use Rattle.placing.specs.Placing.{Writes, written}
use Rattle.placing.proofs.WriteLaws.{wrote_fits, wrote_short, wrote_count, written_fits, written_short, fits_or_short, places}
use Rattle.std.proofs.lemmas.Result.{err_from_is_err_and}
use Rattle.rules.specs.Finished.{verdict}
use Rattle.rules.specs.declared.Board.{Board}
use Rattle.rules.specs.declared.Verdict.{Verdict}
use Rattle.texts.specs.Texts.{heading, line_text, board_text}
use Rattle.listing.proofs.StartLaws.{ok_not_err}
use Rattle.listing.proofs.starting.write_first.Goals as goal

-- a store in front of a run of stores
set_before : (out : List ℕ) (i j x : ℕ) (b : List ℕ) → i < j → set (sets out j b) i x ≡ sets (set out i x) j b
set_before out i j x [] l = refl
set_before out i j x (y ∷ b) l =
    set_before (set out j y) i (suc j) x b (omega arith) ∙ ap (λ (z : List ℕ). sets z (suc j) b) (set_comm out j i y x (λ e. omega (arith, l, e)))

sets_before : (out : List ℕ) (at : ℕ) (a b : List ℕ) → sets (sets out (at + length a) b) at a ≡ sets out at (a ++ b)
sets_before out at [] b = ap (λ (k : ℕ). sets out k b) (add-zero at)
sets_before out at (x ∷ a) b =
    ap (λ (y : List ℕ). sets y (suc at) a) (set_before out at (at + suc (length a)) x b (omega arith))
    ∙ ap (λ (k : ℕ). sets (sets (set out at x) k b) (suc at) a) (omega arith)
    ∙ sets_before (set out at x) (suc at) a b

-- b is written behind the place of a, and then a in front of it
module _ (a b out : List ℕ) {left : List ℕ} where
  front_refused : {k : Refusal} → Writes b (length a) out (Err k) left → Writes (a ++ b) 0 out (Err k) left
  front_refused w =
      fits_or_short b (length a) out (λ h. absurd (ok_not_err (sym (wrote_fits b (length a) out h) ∙ sym w.0)))
      (λ h.
      let short : length out < 0 + length (a ++ b) = omega (arith, h, length-append a b) in
      (w.0 ∙ wrote_short b (length a) out h ∙ sym (wrote_short (a ++ b) 0 out short), w.1 ∙ written_short b (length a) out h ∙ sym (written_short (a ++ b) 0 out short)))

  module _ {n : ℕ} (w : Writes b (length a) out (Ok n) left) where
    counted : (n ≡ length b) × (length a + length b ≤ length out)
    counted = wrote_count b (length a) out (sym w.0)

    stored : left ≡ sets out (length a) b
    stored = w.1 ∙ written_fits b (length a) out counted.1

    pub front_fits : 0 + length a ≤ length left
    front_fits = omega (arith, counted.1, ap length stored ∙ length-sets out (length a) b)

    pub front_inside : length a + n ≤ length out
    front_inside = omega (arith, counted.0, counted.1)

    pub front_placed : {last : List ℕ} → last ≡ written a 0 left → Writes (a ++ b) 0 out (Ok (length a + n)) last
    front_placed e =
        places (a ++ b) 0 out (omega (arith, counted.1, length-append a b)) (ap Ok (omega (arith, counted.0, length-append a b)))
        (e ∙ written_fits a 0 left front_fits ∙ ap (λ (l : List ℕ). sets l 0 a) stored ∙ ap (λ (k : ℕ). sets (sets out k b) 0 a) (omega arith) ∙ sets_before out 0 a b)

-- the answer as it is handed to the line writer
said : (b : Board) {n k : ℕ} {v : Result Verdict Refusal} → n ≡ k → v ≡ verdict b → line_text 0 n b.debt v ≡ board_text 0 k b
said b e f = rw (e, f)

pub returns-in_err-n : goal.returns-in_err-n
returns-in_err-n c =
    let p = err_from_is_err_and c.from_residual.result c.from_residual.ensures.1 in
    let e = said c.args.o.board (c.from-answer.ensures ∙ c.number_of.ensures) c.finished.ensures.told in
    let h = rw (e, c.in_err-n.was) at c.write_line.ensures in
    rw (p.1, p.2) (front_refused heading _ _ h)

pub unwrap-requires : goal.unwrap-requires
unwrap-requires c =
    let h = rw c.in_ok-n.was at c.write_line.ensures in
    rw (c.write_heading.ensures.0, wrote_fits heading 0 c.write_line.new.out (front_fits heading _ _ h))

pub overflow_add-result : goal.overflow_add-result
overflow_add-result c = let h = rw c.in_ok-n.was at c.write_line.ensures in omega (arith, front_inside heading _ _ h)

pub returns : goal.returns
returns c =
    let e = said c.args.o.board (c.from-answer.ensures ∙ c.number_of.ensures) c.finished.ensures.told in
    let h = rw (e, c.in_ok-n.was) at c.write_line.ensures in
    front_placed heading _ _ h c.write_heading.ensures.1
