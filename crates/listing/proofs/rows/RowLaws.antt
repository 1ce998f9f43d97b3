-- The lines of a batch written turn by turn: those that are left from here give what the whole gives.
use mathlib.Core.Path.{◌≡◌, refl, ap, subst}
use mathlib.Core.List.{List, [], ◌∷◌}
use mathlib.Core.Logic.{◌⊎◌, inl, inr}
use Prim.Native.Nat.{ℕ, ◌+◌, ◌≤◌}
use native.Mathlib.Omega.{arith}
use lib.ListN.{length}
use denote.Ref.{Bor}
use Rattle.std.specs.Prelude.{Option, Some, None}
use Rattle.refusals.specs.declared.Refusal.{Refusal}
use Rattle.std.specs.Iterator.Adapters.{zip_first, zip_second}
use Rattle.std.specs.Slice.Iter.{iter_rest}
use Rattle.std.specs.declared.iter.Zip.{Zip}
use Rattle.std.specs.declared.slice.Iter.{Iter}
use Rattle.std.proofs.iter.Yields.{fronts}
use Rattle.std.proofs.lemmas.Iterator.{zips}
use Rattle.std.proofs.lemmas.List.{nil_from_length}
use Rattle.placing.specs.Placing.{wrote, written}
use Rattle.placing.proofs.WriteLaws.{wrote_fits, wrote_short, fits_or_short}
use Rattle.listing.specs.Parts.{next_number}
use Rattle.listing.specs.Turns.{bytes_of, row_text, Placed, rows_into}

-- ---- three lists side by side: what each has left, one more of each, and the end
abbrev pub Side : Type 0 → Type 0 → Type 0 → Type 0
Side A B C = Zip (Zip (Iter A) (Iter B)) (Iter C)

abbrev pub firsts : {A B C : Type 0} → Side A B C → List A
firsts s = iter_rest (zip_first (zip_first s))

abbrev pub seconds : {A B C : Type 0} → Side A B C → List B
seconds s = iter_rest (zip_second (zip_first s))

abbrev pub thirds : {A B C : Type 0} → Side A B C → List C
thirds s = iter_rest (zip_second s)

abbrev pub side_steps : {A B C : Type 0} → Side A B C → Option ((Bor A × Bor B) × Bor C) → Side A B C → Type 0
side_steps = zips (zips fronts fronts) fronts

pub side_more : {A B C : Type 0} (s t : Side A B C) {r : Option ((Bor A × Bor B) × Bor C)} {p : (Bor A × Bor B) × Bor C} → r ≡ Some p → side_steps s r t
    → (firsts s ≡ p.0.0.now ∷ firsts t) × (seconds s ≡ p.0.1.now ∷ seconds t) × (thirds s ≡ p.1.now ∷ thirds t)
side_more s t e h = let m = subst (λ o. side_steps s o t) e h in (m.0.0, m.0.1, m.1)

pub side_end : {A B C : Type 0} (s t : Side A B C) {r : Option ((Bor A × Bor B) × Bor C)} → r ≡ None → side_steps s r t → (firsts s ≡ []) ⊎ (seconds s ≡ []) ⊎ (thirds s ≡ [])
side_end s t e h = by_side (subst (λ o. side_steps s o t) e h)
  where
    by_pair : ((u : Iter _) × fronts (zip_first (zip_first s)) None u) ⊎ ((u : Iter _) × fronts (zip_second (zip_first s)) None u) → (firsts s ≡ []) ⊎ (seconds s ≡ []) ⊎ (thirds s ≡ [])
    by_pair (inl a) = inl (nil_from_length _ a.1.0)
    by_pair (inr b) = inr (inl (nil_from_length _ b.1.0))

    by_side : ((u : Zip (Iter _) (Iter _)) × zips fronts fronts (zip_first s) None u) ⊎ ((u : Iter _) × fronts (zip_second s) None u) → (firsts s ≡ []) ⊎ (seconds s ≡ []) ⊎ (thirds s ≡ [])
    by_side (inl a) = by_pair a.1
    by_side (inr c) = inr (inr (nil_from_length _ c.1.0))

-- ---- the turns
-- the place behind what a writer wrote stays inside the buffer
pub wrote_inside : (text : List ℕ) (to : ℕ) (out : List ℕ) → to ≤ length out → to + bytes_of (wrote text to out) ≤ length out
wrote_inside text to out l =
    fits_or_short text to out (λ h. omega (arith, h, ap bytes_of (wrote_fits text to out h))) (λ h. omega (arith, l, ap bytes_of (wrote_short text to out h)))

-- one entry more is written, and the rest gives what the whole gives
pub row_goes : (number to : ℕ) (out : List ℕ) {ks more_ks : List (Option Refusal)} {js ds more_js more_ds left : List ℕ} {k : Option Refusal} {next j d n : ℕ} {whole : Placed} → rows_into number ks js ds to out ≡ whole
    → (ks ≡ k ∷ more_ks) × (js ≡ j ∷ more_js) × (ds ≡ d ∷ more_ds) → left ≡ written (row_text number k j d) to out → n ≡ bytes_of (wrote (row_text number k j d) to out) → next ≡ next_number number
    → rows_into next more_ks more_js more_ds (to + n) left ≡ whole
unfolding rows_into
row_goes number to out gives more e f g = let h = rw (more.0, more.1, more.2) at gives in rw (g, f, e) h

-- no entry is left
pub row_ends : (n : ℕ) (ks : List (Option Refusal)) (js ds : List ℕ) (at : ℕ) (out : List ℕ) → (ks ≡ []) ⊎ (js ≡ []) ⊎ (ds ≡ []) → rows_into n ks js ds at out ≡ record { line = n; to = at; left = out }
unfolding rows_into
row_ends n [] js ds at out e = refl
row_ends n (k ∷ ks) [] ds at out e = refl
row_ends n (k ∷ ks) (j ∷ js) [] at out e = refl
row_ends n (k ∷ ks) (j ∷ js) (d ∷ ds) at out (inl e) = cc
row_ends n (k ∷ ks) (j ∷ js) (d ∷ ds) at out (inr (inl e)) = cc
row_ends n (k ∷ ks) (j ∷ js) (d ∷ ds) at out (inr (inr e)) = cc
