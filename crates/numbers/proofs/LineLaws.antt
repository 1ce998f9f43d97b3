-- The lines of a text: what stands behind a line is a shorter end of the text, more turns give no more lines, and a text is its lines.
use mathlib.Core.Path.{◌≡◌, refl, sym, ap, ◌∙◌}
use mathlib.Core.List.{List, [], ◌∷◌, ◌++◌}
use Prim.Native.Nat.{ℕ, zero, suc, ◌+◌, ◌-◌, ◌≤◌}
use native.Mathlib.Nat.{not-suc-le-zero}
use native.Mathlib.Omega.{arith}
use lib.ListN.{length, take, drop, length-drop}
use lib.Seq.{drop-drop}
use lib.Dec.{eqb}
use Rattle.fields.specs.Fields.{up_to, past, count_of, end_from}
use Rattle.fields.proofs.Cases.{by_cond}
use Rattle.fields.proofs.PartLaws.{past_at_most, past_stands, up_to_from, count_past, parted, end_after, end_at_most}
use Rattle.numbers.specs.Lines.{lines_within, lines_of, all_ended, behind, line_at}
use Rattle.numbers.specs.declared.LineAt.{LineAt}

pub past_shorter : (e c : ℕ) (cs : List ℕ) → length (past e (c ∷ cs)) ≤ length cs
unfolding past
past_shorter e c cs = by_cond (λ (r : List ℕ). length r ≤ length cs) (eqb c e) (λ q. omega arith) (λ q. past_at_most e cs)

-- ---- the place behind a line
pub behind_drop : (at : ℕ) (s : List ℕ) → at ≤ length s → drop (behind at s) s ≡ past 10 (drop at s)
behind_drop at s l =
    let e = past_stands 10 (drop at s) in
    let n = past_at_most 10 (drop at s) in
    let d : length (drop at s) ≡ length s - at = length-drop at s in
    let k : at + (length (drop at s) - length (past 10 (drop at s))) ≡ behind at s = omega arith in
    ap (λ (j : ℕ). drop j s) (sym k) ∙ sym (drop-drop (length (drop at s) - length (past 10 (drop at s))) at s) ∙ sym e

-- ---- the part of the text where the line at a place stands, for a caller of `line_at`
module _ (at : ℕ) (s : List ℕ) {x : LineAt} (is : x ≡ line_at at s) where
  ends : x.end ≡ end_from 10 at s
  ends = ap (λ (y : LineAt). y.end) is

  pub line_inside : x.end ≤ length s
  line_inside = omega (arith, ends, end_at_most 10 at s)

  pub line_starts : at ≤ length s → at ≤ x.end
  line_starts h = omega (arith, ends, end_after 10 at s h)

  pub line_part : at ≤ length s → take (x.end - at) (drop at s) ≡ up_to 10 (drop at s)
  line_part h = ap (λ (e : ℕ). take (e - at) (drop at s)) ends ∙ sym (up_to_from 10 at s h)

  pub line_next : x.next ≡ behind at s
  line_next = ap (λ (y : LineAt). y.next) is

-- ---- the lines behind the first
lines_enough : (k j : ℕ) (s : List ℕ) → length s ≤ k → length s ≤ j → lines_within k s ≡ lines_within j s
unfolding lines_within
lines_enough zero zero s p q = refl
lines_enough zero (suc j) [] p q = refl
lines_enough zero (suc j) (c ∷ cs) p q = absurd (not-suc-le-zero p)
lines_enough (suc k) zero [] p q = refl
lines_enough (suc k) zero (c ∷ cs) p q = absurd (not-suc-le-zero q)
lines_enough (suc k) (suc j) [] p q = refl
lines_enough (suc k) (suc j) (c ∷ cs) p q =
    let n = past_shorter 10 c cs in
    ap (λ (ls : List (List ℕ)). up_to 10 (c ∷ cs) ∷ ls) (lines_enough k j (past 10 (c ∷ cs)) (omega arith) (omega arith))

pub lines_behind : (k : ℕ) (s : List ℕ) → length s ≤ k → lines_within (suc k) (past 10 s) ≡ drop 1 (lines_of s)
unfolding lines_within past
lines_behind k [] p = refl
lines_behind k (c ∷ cs) p = lines_enough (suc k) (length cs) (past 10 (c ∷ cs)) (omega (arith, p, past_shorter 10 c cs)) (past_shorter 10 c cs)

-- the same lines as those of the text behind the first, so a text that is not empty is its first line and these
pub lines_past : (s : List ℕ) → lines_of (past 10 s) ≡ drop 1 (lines_of s)
unfolding lines_within past
lines_past [] = refl
lines_past (c ∷ cs) = lines_enough (length (past 10 (c ∷ cs))) (length cs) (past 10 (c ∷ cs)) (omega arith) (past_shorter 10 c cs)

pub lines_first : (s : List ℕ) → 1 ≤ length s → lines_of s ≡ up_to 10 s ∷ lines_of (past 10 s)
unfolding lines_within
lines_first [] l = absurd (not-suc-le-zero l)
lines_first (c ∷ cs) l = ap (λ (ls : List (List ℕ)). up_to 10 (c ∷ cs) ∷ ls) (sym (lines_past (c ∷ cs)))

-- ---- a text each line of which has its byte 10 is its lines, joined
abbrev joined_lines : List (List ℕ) → List ℕ
joined_lines [] = []
joined_lines (l ∷ ls) = l ++ 10 ∷ joined_lines ls

lines_joined : (k : ℕ) (s : List ℕ) → length s ≤ k → length (lines_within k s) ≡ count_of 10 s → joined_lines (lines_within k s) ≡ s
unfolding lines_within
lines_joined zero [] p q = refl
lines_joined zero (c ∷ cs) p q = absurd (not-suc-le-zero p)
lines_joined (suc k) [] p q = refl
lines_joined (suc k) (c ∷ cs) p q =
    let s : List ℕ = c ∷ cs in
    ap (λ (t : List ℕ). up_to 10 s ++ 10 ∷ t) (lines_joined k (past 10 s) (omega (arith, p, past_shorter 10 c cs)) (omega (arith, q, count_past 10 s))) ∙ parted 10 s (omega (arith, q))

pub same_lines : (s t : List ℕ) → all_ended s → all_ended t → lines_of s ≡ lines_of t → s ≡ t
same_lines s t p q e = sym (lines_joined (length s) s (omega arith) p) ∙ ap joined_lines e ∙ lines_joined (length t) t (omega arith) q
