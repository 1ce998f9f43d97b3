-- No listing is longer than its bounds.
use mathlib.Core.Path.{◌≡◌, refl, sym, ap, ◌∙◌}
use mathlib.Core.Bool.{Bool, cond}
use mathlib.Core.List.{List, [], ◌∷◌, ◌++◌}
use Prim.Native.Nat.{ℕ, zero, suc, ◌+◌, ◌-◌, ◌*◌, ◌≤◌}
use native.Mathlib.Omega.{arith}
use lib.ListN.{length, drop, length-append, length-drop}
use lib.Dec.{leb}
use borrow.Author.Tests.{le-leb, leb-true}
use Rattle.std.specs.Prelude.{Result}
use Rattle.refusals.specs.Numbers.{number_of}
use Rattle.refusals.specs.declared.Refusal.{Refusal}
use Rattle.rules.specs.declared.Board.{Board}
use Rattle.rules.specs.declared.Outcome.{Outcome}
use Rattle.fields.specs.Fields.{past}
use Rattle.fields.proofs.Cases.{by_cond}
use Rattle.numbers.specs.Lines.{lines_within, lines_of}
use Rattle.texts.specs.Texts.{heading, board_text}
use Rattle.listing.specs.Scripts.{later_outcome, start_outcome, text_of, text_by, later_lines, opened_lines, opened_text, listing}
use Rattle.listing.specs.Bounds.{longest_piece, longest_line, further_lines, further_listed, bound_by_lines, ListingBoundByLines, ListingBoundByLength, ListingBound}
use Rattle.listing.specs.Parts.{opened_piece}
use Rattle.listing.proofs.StartLaws.{Started, opened, refused, script_starts, first_text}
use Rattle.listing.proofs.PieceLaws.{number_next}
use Rattle.listing.proofs.LengthLaws.{first_most}
use Rattle.listing.proofs.BatchLaws.{batch_text, batch_most_lem}

-- each line takes at least a byte
lines_few : (k : ℕ) (s : List ℕ) → length (lines_within k s) ≤ k
unfolding lines_within
lines_few zero s = omega arith
lines_few (suc k) [] = omega arith
lines_few (suc k) (c ∷ cs) = omega (arith, lines_few k (past 10 (c ∷ cs)))

pub further_few : (s : List ℕ) → further_lines s ≤ length s - 1
further_few s = omega (arith, length-drop 1 (lines_of s), lines_few (length s) s)

-- the lines behind the first are one batch: no script has more lines than there are line numbers
later_batch : (n : ℕ) (b : Board) (ls : List (List ℕ)) → n + length ls ≤ 4294967295 → text_of (later_lines n b ls) ≡ batch_text n b ls
unfolding text_of later_lines batch_text
later_batch n b [] p = refl
later_batch n b (l ∷ ls) p =
    let next : Board = (later_outcome b l).board in
    ap (λ (t : List ℕ). board_text n (number_of (later_outcome b l).answer) next ++ t)
    (later_batch (suc n) next ls (omega (arith, p)) ∙ ap (λ (m : ℕ). batch_text m next ls) (sym (number_next n (omega (arith, p)))))

module _ (s : List ℕ) where
  listed_few : (further_listed s ≤ length s - 1) × (further_listed s ≤ 65534)
  listed_few =
      by_cond (λ (n : ℕ). (n ≤ length s - 1) × (n ≤ 65534)) (leb (length s) 65535) (λ e. omega (arith, further_few s, leb-true (length s) 65535 e)) (λ e. omega arith)

  started_most : (o : Outcome) → Started s o → length (heading ++ opened_text o (drop 1 (lines_of s))) ≤ longest_piece + longest_line * further_listed s
  unfolding text_of
  started_most o (opened l e h d) =
      let ls : List (List ℕ) = drop 1 (lines_of s) in
      let first : List ℕ = board_text 0 0 o.board in
      let text : opened_text o ls ≡ first ++ text_of (later_lines 1 o.board ls) = ap (λ (r : Result (Unit {0}) Refusal). text_by r (opened_lines o.board ls)) e in
      let few : further_listed s ≡ length ls = ap (λ (t : Bool). cond t (length ls) 0) (le-leb (length s) 65535 l) in
      omega (
        arith,
        length-append heading (opened_text o ls),
        ap length text,
        length-append first (text_of (later_lines 1 o.board ls)),
        length-append heading first,
        ap length (first_text s o (opened l e h d)),
        ap (λ (r : Result (Unit {0}) Refusal). length (heading ++ board_text 0 (number_of r) o.board)) e,
        first_most s o (opened l e h d),
        few,
        ap length (later_batch 1 o.board ls (omega (arith, l, further_few s))),
        batch_most_lem 1 o.board ls (omega arith) h,
      )
  started_most o (refused k e) =
      let ls : List (List ℕ) = drop 1 (lines_of s) in
      omega (arith, ap (λ (x : Outcome). length (heading ++ opened_text x ls)) e, ap (λ (x : Outcome). length (opened_piece s x).text) e, first_most s o (refused k e))

pub listing_bound_by_lines : ListingBoundByLines
unfolding ListingBoundByLines bound_by_lines listing
listing_bound_by_lines s = started_most s (start_outcome s) (script_starts s)

pub listing_bound_by_length : ListingBoundByLength
unfolding ListingBoundByLines ListingBoundByLength bound_by_lines
listing_bound_by_length s = omega (arith, listing_bound_by_lines s, (listed_few s).0)

pub listing_bound : ListingBound
unfolding ListingBoundByLines ListingBound bound_by_lines
listing_bound s = omega (arith, listing_bound_by_lines s, (listed_few s).1)
