-- Runs of stores: one behind the other is one of the joined text, and a run in the rest of a buffer is one in the whole.
use mathlib.Core.Path.{◌≡◌, refl, ap, ◌∙◌}
use mathlib.Core.List.{List, [], ◌∷◌, ◌++◌, append-nil, append_assoc}
use Prim.Native.Nat.{ℕ, zero, suc, ◌+◌, ◌-◌, ◌≤◌}
use native.Mathlib.Nat.{zero-add, add-zero, suc-add, le_refl, not-suc-le-zero, le_of_suc-le-suc}
use native.Mathlib.Numerals.{add-one}
use native.Mathlib.Omega.{arith}
use lib.ListN.{length, take, drop, set, length-drop, length-set, drop_of_length-le}
use lib.Seq.{sets, sets-eq, drop-drop, take_all}
use borrow.Rule.Slice.PartMut.{mid_of, put_mid, put_same}

-- a text behind a text is the joined text
pub sets_append : (out : List ℕ) (at : ℕ) (a b : List ℕ) → sets (sets out at a) (at + length a) b ≡ sets out at (a ++ b)
sets_append out at [] b = rw add-zero
sets_append out at (x ∷ a) b = ap (λ (k : ℕ). sets (sets out at (x ∷ a)) k b) (omega arith) ∙ sets_append (set out at x) (suc at) a b

sets_cons : (x : ℕ) (out : List ℕ) (i : ℕ) (text : List ℕ) → sets (x ∷ out) (suc i) text ≡ x ∷ sets out i text
sets_cons x out i [] = refl
sets_cons x out i (a ∷ text) = sets_cons x (set out i a) (suc i) text

-- a text at place k of what follows `at` is the text at place at + k
sets_drop : (out : List ℕ) (at k : ℕ) (text : List ℕ) → at ≤ length out → take at out ++ sets (drop at out) k text ≡ sets out (at + k) text
sets_drop out zero k text h = rw zero-add
sets_drop [] (suc at) k text h = absurd (not-suc-le-zero h)
sets_drop (x ∷ out) (suc at) k text h = rw (suc-add, sets_cons x out, ← sets_drop out at k text (le_of_suc-le-suc h))

-- a text put in place of a part as long is the text stored there
pub put_part : (at k : ℕ) (out text : List ℕ) {part : List ℕ} → at + length text ≤ length out → k ≡ length text → part ≡ text → put_mid at k out part ≡ sets out at text
put_part at k out text h e p = rw (p, e, sets-eq text out at h, drop-drop, append_assoc)

-- and one put behind a byte
pub put_behind : (x at k : ℕ) (out text : List ℕ) {part : List ℕ} → at + suc (length text) ≤ length out → k ≡ length text → part ≡ text → put_mid (at + 1) k (set out at x) part ≡ sets out at (x ∷ text)
put_behind x at k out text h e p = rw add-one (put_part (suc at) k (set out at x) text (omega (arith, h, length-set {A = ℕ})) e p)

-- what `&mut out[at..]` lends, and the whole when it is back with ys in its place
abbrev pub rest_of : ℕ → List ℕ → List ℕ
rest_of at out = mid_of at (length out - at) out

abbrev pub put_rest : ℕ → List ℕ → List ℕ → List ℕ
put_rest at out ys = put_mid at (length out - at) out ys

module _ (at : ℕ) (out : List ℕ) where
  rest_length : length (drop at out) ≤ length out - at
  rest_length = rw length-drop (le_refl _)

  pub rest_drop : rest_of at out ≡ drop at out
  rest_drop = take_all (length out - at) (drop at out) rest_length

  put_rest_lem : (ys : List ℕ) → put_rest at out ys ≡ take at out ++ ys
  put_rest_lem ys = rw (drop_of_length-le (drop at out) rest_length, append-nil)

  pub put_rest_same : put_rest at out (rest_of at out) ≡ out
  put_rest_same = put_same at (length out - at) out

  pub put_rest_sets : (k : ℕ) (text : List ℕ) → at ≤ length out → put_rest at out (sets (rest_of at out) k text) ≡ sets out (at + k) text
  put_rest_sets k text h = put_rest_lem (sets (rest_of at out) k text) ∙ rw rest_drop (sets_drop out at k text h)
