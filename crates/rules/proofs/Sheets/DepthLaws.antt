-- Depth on a sound board: a unit is one deeper than its parent, and none is deeper than the greatest depth.
use mathlib.Core.Path.{◌≡◌, refl, sym, ap, ◌∙◌}
use mathlib.Core.List.{List}
use Prim.Native.Nat.{ℕ, zero, suc, ◌-◌, ◌≤◌, ◌<◌, zero-le, suc-le-suc}
use native.Mathlib.Nat.{not-suc-le-zero, le_refl, le-max_left, le-max_right, le_trans}
use native.Mathlib.Omega.{arith}
use lib.ListN.{get_or}
use Rattle.rules.specs.Sheets.Sheet.{parent_at, Sheet}
use Rattle.rules.specs.Sheets.Sound.{Sound}
use Rattle.rules.specs.Sheets.Depths.{depth_within, depth, deepest}
use Rattle.rules.proofs.Sheets.SoundLaws.{below_or_not, parent_below}

-- ---- along lower parents: more turns than the unit's number change nothing
-- every unit from 1 to u has a lower parent
abbrev pub LowerParents : List ℕ → ℕ → Type 0
LowerParents ps u = (i : ℕ) → 1 ≤ i → i ≤ u → get_or ps i 0 < i

-- what is worked out in turns, one for each unit on the way, from what the parent's turns give
pub same_turns : {A : Type 0} (ps : List ℕ) (f : ℕ → ℕ → A) (end : A) (on : ℕ → A → A) → ((k : ℕ) → f k 0 ≡ end) → ((k u : ℕ) → f (suc k) (suc u) ≡ on (suc u) (f k (get_or ps (suc u) 0)))
    → (k l u : ℕ) → u ≤ k → u ≤ l → LowerParents ps u → f k u ≡ f l u
same_turns ps f end on ends goes zero l zero p q h = ends 0 ∙ sym (ends l)
same_turns ps f end on ends goes zero l (suc u) p q h = absurd (not-suc-le-zero p)
same_turns ps f end on ends goes (suc k) l zero p q h = ends (suc k) ∙ sym (ends l)
same_turns ps f end on ends goes (suc k) zero (suc u) p q h = absurd (not-suc-le-zero q)
same_turns ps f end on ends goes (suc k) (suc l) (suc u) p q h =
    let lower : get_or ps (suc u) 0 < suc u = h (suc u) (suc-le-suc zero-le) (le_refl (suc u)) in
    goes k u ∙ ap (on (suc u)) (same_turns ps f end on ends goes k l (get_or ps (suc u) 0) (omega arith) (omega arith) (λ i a b. h i a (omega arith))) ∙ sym (goes l u)

no_depth : (ps : List ℕ) (k : ℕ) → depth_within k ps 0 ≡ 0
unfolding depth_within
no_depth ps = elim [ zero ↦ refl | suc k ↦ refl ]

pub depth_parent : (ps : List ℕ) (u : ℕ) → 1 ≤ u → LowerParents ps u → depth ps u ≡ suc (depth ps (get_or ps u 0))
unfolding depth depth_within
depth_parent ps zero p h = absurd (not-suc-le-zero p)
depth_parent ps (suc u) p h =
    let lower : get_or ps (suc u) 0 < suc u = h (suc u) p (le_refl (suc u)) in
    ap suc (same_turns ps (λ k v. depth_within k ps v) 0 (λ v d. suc d) (no_depth ps) (λ k v. refl) u (get_or ps (suc u) 0) (get_or ps (suc u) 0) (omega arith) (omega arith) (λ i a b. h i a (omega arith)))

-- ---- a depth is at most the unit's number, and at most the greatest
within_at_most : (ps : List ℕ) (k u : ℕ) → depth_within k ps u ≤ k
unfolding depth_within
within_at_most ps zero u = zero-le
within_at_most ps (suc k) zero = zero-le
within_at_most ps (suc k) (suc u) = suc-le-suc (within_at_most ps k (get_or ps (suc u) 0))

pub depth_by_number : (ps : List ℕ) (u : ℕ) → depth ps u ≤ u
unfolding depth
depth_by_number ps u = within_at_most ps u u

pub depth_at_most : (ps : List ℕ) (n i : ℕ) → i < n → depth ps i ≤ deepest ps n
unfolding deepest
depth_at_most ps zero i l = absurd (not-suc-le-zero l)
depth_at_most ps (suc n) i l =
    below_or_not i n (λ p. le_trans (depth_at_most ps n i p) (le-max_left (deepest ps n) (depth ps n)))
    (λ p. let e : i ≡ n = omega (arith, l, p) in rw e (le-max_right (deepest ps n) (depth ps n)))

-- ---- on a sound board
pub deeper_than_parent : (b : Sheet) → Sound b → (u : ℕ) → 1 ≤ u → u < b.n → depth b.parents u ≡ suc (depth b.parents (parent_at b u))
deeper_than_parent b h u p l = depth_parent b.parents u p (λ i q r. parent_below b h i q (omega arith))

-- the depth of a unit's parent is one less than its own
pub one_above : (b : Sheet) → Sound b → (u : ℕ) → 1 ≤ u → u < b.n → depth b.parents u - 1 ≡ depth b.parents (parent_at b u)
one_above b h u p l = omega (arith, deeper_than_parent b h u p l)
