-- The pass over the slots: what holds once j of them are passed, and what slots that fit say of the next.
use mathlib.Core.Path.{◌≡◌, refl, sym, ap, ◌∙◌}
use mathlib.Core.Bool.{Bool, true, false, cond}
use mathlib.Core.List.{List, ◌∷◌}
use Prim.Native.Nat.{ℕ, zero, suc, ◌+◌, ◌-◌, ◌≤◌, ◌<◌}
use native.Mathlib.Numerals.{add-one}
use native.Mathlib.Omega.{arith}
use lib.ListN.{length, get_or, set, drop, replicate, drop_of_length-le, length-set}
use lib.Seq.{drop-cons, get_or-set_same, get_or-set_other}
use lib.Dec.{eqb, ltb}
use borrow.Author.Count.{below_none, below_more}
use borrow.Author.Tests.{eqb-true, eqb-false}
use Rattle.std.proofs.Common.{Some, None}
use Rattle.rules.specs.Facts.{Claims, at_most, holds, tests, sum_of, one_if}
use Rattle.rules.specs.Records.{is_empty, is_work, blank_slot}
use Rattle.rules.specs.declared.Kind.{Kind}
use Rattle.rules.specs.declared.Kind.TheVariants.{Empty, Work, Return, Request, Supply}
use Rattle.rules.specs.declared.Slot.{Slot}
use Rattle.rules.specs.Sheets.Sheet.{Sheet, slot_at}
use Rattle.rules.specs.Sheets.Sound.{kind_row, slot_row, pending_in, pending, slots_weight, work_under_way, slot_row_on}
use Rattle.rules.proofs.FactLaws.{claims, each_at, each_of, each_claims, each_tested}
use Rattle.board.proofs.RowLaws.{slot_facts}
use Rattle.board.specs.Passes.{pends_for, slots_row, AreTotals}

-- a sum over what is left of a list, one element further
pub sum_next : {A : Type 0} (f : A → ℕ) (xs : List A) (j : ℕ) (d : A) → j < length xs → sum_of (λ k. f) (drop j xs) ≡ f (get_or xs j d) + sum_of (λ k. f) (drop (j + 1) xs)
unfolding sum_of
sum_next f xs j d l = rw (add-one j) (ap (sum_of (λ k. f)) (drop-cons xs j d l))

pub sum_end : {A : Type 0} (f : A → ℕ) (xs : List A) (j : ℕ) → length xs ≤ j → sum_of (λ k. f) (drop j xs) ≡ 0
unfolding sum_of
sum_end f xs j l = ap (sum_of (λ k. f)) (drop_of_length-le xs l)

-- ---- the counts
pub one_at_most : (t : Bool) → one_if t ≤ 1
one_at_most true = omega arith
one_at_most false = omega arith

zeros_at : (n i : ℕ) → ◌≡◌ {A = ℕ} (get_or (replicate n 0) i 0) 0
zeros_at zero i = refl
zeros_at (suc n) zero = refl
zeros_at (suc n) (suc i) = zeros_at n i

pending_most : (i : ℕ) (y : Slot) (k : Kind) → pending_in i y k ≤ 1
pending_most i y Empty = omega arith
pending_most i y Work = omega arith
pending_most i y Return = omega arith
pending_most i y Request = one_at_most (eqb y.from i)
pending_most i y Supply = one_at_most (eqb y.to i)

-- a slot pends for a unit once where it pends for it, else not
pends_once : (y : Slot) (k : Kind) (u i : ℕ) → pends_for y k ≡ Some u → pending_in i y k ≡ one_if (eqb u i)
pends_once y Empty u i e = cc
pends_once y Work u i e = cc
pends_once y Return u i e = cc
pends_once y Request u i e = let from : y.from ≡ u = cc in rw from
pends_once y Supply u i e = let to : y.to ≡ u = cc in rw to

never_pends : (y : Slot) (k : Kind) (i : ℕ) → pends_for y k ≡ None → pending_in i y k ≡ 0
never_pends y Empty i e = refl
never_pends y Work i e = refl
never_pends y Return i e = refl
never_pends y Request i e = cc
never_pends y Supply i e = cc

-- a slot that fits pends for a unit in use
pub pends_within : (n m j u : ℕ) (y : Slot) → tests (slot_row n m j y) ≡ true → pends_for y y.kind ≡ Some u → u < n
pends_within n m j u y t e = by_kind y.kind (ltb j m) t e
  where
    by_kind : (k : Kind) (used : Bool) → tests (cond used (kind_row n y k) (holds (is_empty k) ∷ kind_row n y Empty)) ≡ true → pends_for y k ≡ Some u → u < n
    by_kind Empty used t e = cc
    by_kind Work used t e = cc
    by_kind Return used t e = cc
    by_kind Request true t e = let from : y.from ≡ u = cc in rw (← from) (claims (kind_row n y Request) t).0
    by_kind Request false t e = cc
    by_kind Supply true t e = let to : y.to ≡ u = cc in rw (← to) (claims (kind_row n y Supply) t).1.0
    by_kind Supply false t e = cc

-- the counts after slot y, and before it
pub record CountedFor (y : Slot) (counts after : List ℕ) : Type 0 where
  pub more : (i : ℕ) → get_or after i 0 ≡ get_or counts i 0 + pending_in i y y.kind
  pub as_long : length after ≡ length counts

pub unit_counted : (y : Slot) (u : ℕ) (counts : List ℕ) → pends_for y y.kind ≡ Some u → u < length counts → CountedFor y counts (set counts u (get_or counts u 0 + 1))
unit_counted y u counts p l = record { more = λ i. rw (pends_once y y.kind u i p) (by_test i (eqb u i) refl); as_long = length-set counts u (get_or counts u 0 + 1) }
  where
    by_test : (i : ℕ) (t : Bool) → eqb u i ≡ t → get_or (set counts u (get_or counts u 0 + 1)) i 0 ≡ get_or counts i 0 + one_if t
    by_test i true e = rw (sym (eqb-true u i e)) (get_or-set_same counts u (get_or counts u 0 + 1) 0 l)
    by_test i false e = get_or-set_other counts u i (get_or counts u 0 + 1) 0 (λ q. eqb-false u i e (sym q)) ∙ omega arith

pub none_counted : (y : Slot) (counts : List ℕ) → pends_for y y.kind ≡ None → CountedFor y counts counts
none_counted y counts p = record { more = λ i. omega (arith, never_pends y y.kind i p); as_long = refl }

-- ---- once j slots are passed
pub record SlotsSeen (b : Sheet) (left work : ℕ) (counts : List ℕ) (j : ℕ) : Type 0 where
  pub slots_long : length b.slots ≡ 256
  pub within : j ≤ 256
  pub seen : (k : ℕ) → k < j → Claims (slot_row_on b k (slot_at b k))
  pub leaves : left + slots_weight b.slots ≡ b.debt + slots_weight (drop j b.slots)
  pub counted : (i : ℕ) → get_or counts i 0 + pending (drop j b.slots) i ≡ pending b.slots i
  pub few : (i : ℕ) → get_or counts i 0 ≤ j
  pub worked : work + work_under_way (drop j b.slots) ≡ work_under_way b.slots
  pub work_most : work ≤ j
  pub long : length counts ≡ 64

pub none_seen : (b : Sheet) → length b.slots ≡ 256 → SlotsSeen b b.debt 0 (replicate 64 0) 0
none_seen b slots_long = record {
  slots_long = slots_long;
  within = omega arith;
  seen = below_none (λ k. Claims (slot_row_on b k (slot_at b k)));
  leaves = refl;
  counted = λ i. omega (arith, zeros_at 64 i);
  few = λ i. omega (arith, zeros_at 64 i);
  worked = omega arith;
  work_most = omega arith;
  long = refl;
}

module _ {b : Sheet} {left work : ℕ} {counts : List ℕ} {j : ℕ} (h : SlotsSeen b left work counts j) where
  weight_next : j < 256 → slots_weight (drop j b.slots) ≡ (slot_at b j).weight + slots_weight (drop (j + 1) b.slots)
  unfolding slots_weight
  weight_next l = sum_next (λ y. y.weight) b.slots j blank_slot (omega (arith, h.slots_long))

  pending_next : j < 256 → (i : ℕ) → pending (drop j b.slots) i ≡ pending_in i (slot_at b j) (slot_at b j).kind + pending (drop (j + 1) b.slots) i
  unfolding pending
  pending_next l i = sum_next (λ y. pending_in i y y.kind) b.slots j blank_slot (omega (arith, h.slots_long))

  work_next : j < 256 → work_under_way (drop j b.slots) ≡ one_if (is_work (slot_at b j).kind) + work_under_way (drop (j + 1) b.slots)
  unfolding work_under_way
  work_next l = sum_next (λ y. one_if (is_work y.kind)) b.slots j blank_slot (omega (arith, h.slots_long))

  pub one_more : {after : List ℕ} → CountedFor (slot_at b j) counts after → j < 256 → Claims (slot_facts b left j) → SlotsSeen b (left - (slot_at b j).weight) (work + one_if (is_work (slot_at b j).kind)) after (j + 1)
  one_more n l fits = record {
    slots_long = h.slots_long;
    within = omega arith;
    seen = below_more (λ k. Claims (slot_row_on b k (slot_at b k))) j h.seen fits.1;
    leaves = omega (arith, weight_next l, h.leaves, fits.0);
    counted = λ i. omega (arith, n.more i, h.counted i, pending_next l i);
    few = λ i. omega (arith, n.more i, h.few i, pending_most i (slot_at b j) (slot_at b j).kind);
    worked = omega (arith, work_next l, h.worked);
    work_most = omega (arith, h.work_most, one_at_most (is_work (slot_at b j).kind));
    long = n.as_long ∙ h.long;
  }

  -- where all slots fit, so does the next
  pub next_fits : j < 256 → Claims (slots_row b) → Claims (slot_facts b left j)
  next_fits l c =
      (omega (arith, weight_next l, h.leaves, c.1.0), each_at (slot_row_on b) b.slots j blank_slot (omega (arith, h.slots_long)) (each_claims (slot_row_on b) b.slots c.0))

  -- once all are passed: their totals, and they fit
  pub all_counted : 256 ≤ j → AreTotals b left work counts
  unfolding slots_weight pending work_under_way
  all_counted l = record {
    leaves = omega (arith, h.leaves, sum_end (λ y. y.weight) b.slots j (omega (arith, h.slots_long)));
    counted = λ i p. omega (arith, h.counted i, sum_end (λ y. pending_in i y y.kind) b.slots j (omega (arith, h.slots_long)));
    worked = omega (arith, h.worked, sum_end (λ y. one_if (is_work y.kind)) b.slots j (omega (arith, h.slots_long)));
  }

  pub all_fit : 256 ≤ j → Claims (slots_row b)
  all_fit l =
      let whole : AreTotals b left work counts = all_counted l in
      (each_tested (slot_row_on b) b.slots (each_of (slot_row_on b) b.slots blank_slot (λ k p. h.seen k (omega (arith, h.slots_long)))), (omega (arith, whole.leaves), tt))
