-- The fields of a line from a place on: the first of them, and those behind it.
use mathlib.Core.Path.{◌≡◌, refl, sym, ap, ◌∙◌}
use mathlib.Core.List.{List, [], ◌∷◌, ◌++◌}
use Prim.Native.Nat.{ℕ, zero, suc, ◌+◌, ◌-◌, ◌≤◌, ◌<◌}
use native.Mathlib.Numerals.{add-one}
use native.Mathlib.Omega.{arith}
use lib.Dec.{leb}
use lib.ListN.{length, take, drop, length-append, length-drop}
use lib.Seq.{drop-drop}
use borrow.Author.Tests.{le-leb, lt-leb, leb-true, leb-false}
use Rattle.fields.specs.Fields.{tab, up_to, past, count_of, end_from, field_of, field_start, field_count}
use Rattle.fields.proofs.PartLaws.{up_to_whole, up_to_joined, past_joined, count_joined, past_drop, past_stands, parted, count_past, up_to_from, end_is}
use Rattle.fields.proofs.Cases.{by_bool}
use Rattle.fields.proofs.FieldLaws.{start_at_most}
use Rattle.numbers.specs.Numbers.{fields_from, fields_of, fields_at}

-- ---- a place inside the line, and one past its end
pub fields_inside : (at : ℕ) (l : List ℕ) → at ≤ length l → fields_at at l ≡ fields_of (drop at l)
unfolding fields_at
fields_inside at l h = rw (le-leb at (length l) h)

pub fields_past_end : (at : ℕ) (l : List ℕ) → length l < at → fields_at at l ≡ []
unfolding fields_at
fields_past_end at l h = rw (lt-leb at (length l) h)

-- a place of an end of the line is one of the line
fields_dropped : (at j : ℕ) (l : List ℕ) → at ≤ length l → fields_at j (drop at l) ≡ fields_at (at + j) l
unfolding fields_at
fields_dropped at j l h =
    let same : leb j (length (drop at l)) ≡ leb (at + j) (length l) =
    by_bool (λ t. t ≡ leb (at + j) (length l)) (leb j (length (drop at l)))
    (λ e. sym (le-leb (at + j) (length l) (omega (arith, h, leb-true j (length (drop at l)) e, length-drop at l))))
    (λ e. sym (lt-leb (at + j) (length l) (omega (arith, h, leb-false j (length (drop at l)) e, length-drop at l)))) in
    rw (same, drop-drop)

-- ---- the first field, and those behind its tab
fields_past : (n i : ℕ) (l : List ℕ) → fields_from n (suc i) l ≡ fields_from n i (past tab l)
unfolding fields_from field_of
fields_past zero i l = refl
fields_past (suc n) i l = rw (fields_past n (suc i) l)

-- a line with a tab goes on behind it
pub fields_on : (l : List ℕ) → 0 < count_of tab l → fields_at (suc (length (up_to tab l))) l ≡ fields_of (past tab l)
fields_on l h = fields_inside (suc (length (up_to tab l))) l (omega (arith, simp length-append at (ap length (parted tab l h)))) ∙ ap fields_of (sym (past_drop tab l))

fields_counted : (n : ℕ) (l : List ℕ) → count_of tab l ≡ n → fields_from (suc n) 0 l ≡ fields_of l
unfolding fields_of field_count
fields_counted n l e = ap (λ (k : ℕ). fields_from (suc k) 0 l) (sym e)

fields_behind : (n : ℕ) (l : List ℕ) → count_of tab l ≡ n → fields_from n 0 (past tab l) ≡ fields_at (suc (length (up_to tab l))) l
unfolding fields_from
fields_behind zero l e = sym (fields_past_end (suc (length (up_to tab l))) l (omega (arith, ap length (up_to_whole tab l e))))
fields_behind (suc n) l e = fields_counted n (past tab l) (omega (arith, e, count_past tab l)) ∙ sym (fields_on l (omega arith))

pub fields_split : (l : List ℕ) → fields_of l ≡ up_to tab l ∷ fields_at (suc (length (up_to tab l))) l
unfolding fields_of fields_from field_count field_of
fields_split l = ap (λ (fs : List (List ℕ)). up_to tab l ∷ fs) (fields_past (count_of tab l) 0 l ∙ fields_behind (count_of tab l) l refl)

-- of w, a text without a tab, alone and with more behind a tab
module _ (w : List ℕ) (none : count_of tab w ≡ 0) where
  pub fields_alone : fields_of w ≡ w ∷ []
  fields_alone = rw (fields_split w, up_to_whole tab w none, fields_past_end (suc (length w)) w (omega arith))

  pub fields_joined : (r : List ℕ) → fields_of (w ++ tab ∷ r) ≡ w ∷ fields_of r
  fields_joined r =
      let l : List ℕ = w ++ tab ∷ r in
      rw (fields_split l, fields_on l (omega (arith, count_joined tab w none r)), past_joined tab w none r, up_to_joined tab w none r)

-- there are as many as are counted
fields_many : (n i : ℕ) (l : List ℕ) → length (fields_from n i l) ≡ n
unfolding fields_from
fields_many zero i l = refl
fields_many (suc n) i l = ap suc (fields_many n (suc i) l)

pub fields_count : (l : List ℕ) → length (fields_of l) ≡ field_count l
unfolding fields_of
fields_count l = fields_many (field_count l) 0 l

-- ---- the field that starts at a place, up to the next tab, and those behind it
module _ (at : ℕ) (l : List ℕ) {end : ℕ} (inside : at ≤ length l) (t : end ≡ end_from tab at l) where
  pub fields_turn : fields_at at l ≡ take (end - at) (drop at l) ∷ fields_at (end + 1) l
  fields_turn =
      let m : List ℕ = drop at l in
      let part : up_to tab m ≡ take (end - at) m = rw t (up_to_from tab at l inside) in
      let next : at + suc (length (up_to tab m)) ≡ end + 1 = omega (arith, end_is tab at l inside) in
      rw (fields_inside at l inside, fields_split m, fields_dropped at (suc (length (up_to tab m))) l inside, next, part)

-- ---- the fields from field k on stand from its start on
pub fields_start : (k : ℕ) (l : List ℕ) → k < field_count l → drop k (fields_of l) ≡ fields_at (field_start k l) l
unfolding field_start field_count
fields_start zero l h = sym (fields_inside 0 l (omega arith))
fields_start (suc k) l h =
    let p : List ℕ = past tab l in
    let s : ℕ = length l - length p in
    ap (drop (suc k)) (fields_split l)
    ∙ ap (drop k) (fields_on l (omega arith))
    ∙ fields_start k p (omega (arith, h, count_past tab l))
    ∙ ap (fields_at (field_start k p)) (past_stands tab l)
    ∙ fields_dropped s (field_start k p) l (omega arith)

-- so those behind field k stand behind its tab
pub fields_after : (k : ℕ) (l : List ℕ) {start end : ℕ} → k < field_count l → start ≡ field_start k l → end ≡ end_from tab start l → drop (suc k) (fields_of l) ≡ fields_at (end + 1) l
fields_after k l {start} {end} h s t =
    ap (λ (j : ℕ). drop j (fields_of l)) (sym (add-one k)) ∙ sym (drop-drop 1 k (fields_of l)) ∙ ap (drop 1) (fields_start k l h ∙ ap (λ (j : ℕ). fields_at j l) (sym s) ∙ fields_turn start l (omega (arith, s, start_at_most k l)) t)
