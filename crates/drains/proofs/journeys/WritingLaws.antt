-- Steps written into a list: none, one kind many times, some behind others, and from the front on.
use mathlib.Core.Path.{◌≡◌, refl, sym, ap, ◌∙◌}
use mathlib.Core.List.{List, [], ◌∷◌, ◌++◌}
use Prim.Native.Nat.{ℕ, suc, ◌+◌, ◌≤◌}
use native.Mathlib.Nat.{add-zero, zero-add}
use native.Mathlib.Omega.{arith}
use lib.ListN.{length, take, drop, replicate, length-append, length-drop, length-replicate, length-take}
use lib.Seq.{take-length}
use borrow.Rule.Slice.PartMut.{put_mid}
use Rattle.std.proofs.lemmas.Slice.{put_mid-paste}
use Rattle.std.proofs.lemmas.List.Edits.{sets, sets-eq}
use Rattle.rules.specs.declared.StepRecord.{StepRecord}
use Rattle.drains.specs.Writing.{Writes}

-- stores behind stores are those of the joined list
sets_append : {A : Type 0} (xs : List A) (at : ℕ) (a b : List A) → sets (sets xs at a) (at + length a) b ≡ sets xs at (a ++ b)
sets_append xs at [] b = rw add-zero
sets_append xs at (x ∷ a) b = ap (λ (k : ℕ). sets (sets xs at (x ∷ a)) k b) (omega arith) ∙ sets_append _ (suc at) a b

pub writes_none : (at : ℕ) (list : List StepRecord) → Writes [] at list list at
writes_none at list = record { ends = omega arith; leaves = refl }

pub writes_then : {rs qs : List StepRecord} {at mid end : ℕ} {list between left : List StepRecord} → Writes rs at list between mid → Writes qs mid between left end → Writes (rs ++ qs) at list left end
writes_then {rs} {qs} {at} {mid} {end} {list} {between} {left} v w = record {
  ends = omega (arith, v.ends, w.ends, length-append rs qs);
  leaves = w.leaves ∙ (λ i. sets (v.leaves i) (v.ends i) qs) ∙ sets_append list at rs qs;
}

-- so many of one, through the part of the list that is lent for them
pub writes_filled :
    (at k j m : ℕ) (r : StepRecord) (list part : List StepRecord) → j ≡ k → m ≡ j → at + k ≤ length list → part ≡ replicate (length (take m (drop at list))) r → Writes (replicate k r) at list (put_mid at m list part) (at + j)
writes_filled at k j m r list part p n l e =
    let long = length-replicate k r in
    let many : length (take m (drop at list)) ≡ k = omega (arith, length-take m (drop at list), length-drop at list, p, n, l) in
    record {
      ends = omega (arith, p, long);
      leaves =
          put_mid-paste at m list part (replicate k r) (length (replicate k r)) (e ∙ ap (λ (i : ℕ). replicate i r) many) (omega (arith, long, p, n)) refl
          ∙ ap (λ (rs : List StepRecord). take at list ++ rs ++ drop (at + length (replicate k r)) list) (take-length (replicate k r))
          ∙ sym (sets-eq (replicate k r) list at (omega (arith, l, long)));
    }

-- from the front on
pub writes_front : {rs list left : List StepRecord} {end : ℕ} → Writes rs 0 list left end → length rs ≤ length list → left ≡ rs ++ drop (length rs) list
writes_front {rs} {list} w l = w.leaves ∙ sets-eq rs list 0 (omega arith) ∙ ap (λ (k : ℕ). rs ++ drop k list) (zero-add (length rs))
