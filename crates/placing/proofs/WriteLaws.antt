-- What a writer answers and leaves: where its text fits, where it doesn't, text behind text, and through the lent rest of the buffer.
use mathlib.Core.Path.{◌≡◌, refl, sym, ap, ◌∙◌}
use mathlib.Core.Bool.{Bool, true, false}
use mathlib.Core.List.{List, ◌++◌}
use Prim.Native.Nat.{ℕ, ◌+◌, ◌≤◌, ◌<◌}
use native.Mathlib.Nat.{add-zero, le_refl}
use native.Mathlib.Omega.{arith}
use lib.Dec.{leb}
use lib.ListN.{length}
use lib.Seq.{sets, length-sets}
use borrow.Author.Tests.{le-leb, lt-leb, leb-true, leb-false}
use borrow.Rule.Slice.PartMut.{mid_len}
use Rattle.placing.specs.Placing.{wrote, written, Writes}
use Rattle.placing.proofs.Stores.{sets_append, rest_of, put_rest, put_rest_same, put_rest_sets}
use Rattle.refusals.specs.declared.Refusal.{Refusal}
use Rattle.refusals.specs.declared.Refusal.TheVariants.{NoRoom}
use Rattle.std.specs.Prelude.{Result, Ok, Err}

module _ (text : List ℕ) (at : ℕ) (out : List ℕ) where
  -- ---- the definitions in each of the two cases
  pub wrote_fits : at + length text ≤ length out → wrote text at out ≡ Ok (length text)
  unfolding wrote
  wrote_fits h = rw le-leb

  pub wrote_short : length out < at + length text → wrote text at out ≡ Err NoRoom
  unfolding wrote
  wrote_short h = rw lt-leb

  pub written_fits : at + length text ≤ length out → written text at out ≡ sets out at text
  unfolding written
  written_fits h = rw le-leb

  pub written_short : length out < at + length text → written text at out ≡ out
  unfolding written
  written_short h = rw lt-leb

  pub fits_or_short : {X : Type 0} → (at + length text ≤ length out → X) → (length out < at + length text → X) → X
  fits_or_short {X} f g = by_test (leb (at + length text) (length out)) refl
    where
      by_test : (t : Bool) → leb (at + length text) (length out) ≡ t → X
      by_test true e = f (leb-true _ _ e)
      by_test false e = g (leb-false _ _ e)

  -- an answer that is a count says that the text fits
  pub wrote_count : {n : ℕ} → wrote text at out ≡ Ok n → (n ≡ length text) × (at + length text ≤ length out)
  wrote_count {n} e =
      fits_or_short (λ h. let f : wrote text at out ≡ Ok (length text) = wrote_fits h in (cc, h))
      (λ h. let f : wrote text at out ≡ Err NoRoom = wrote_short h in cc)

  pub written_length : length (written text at out) ≡ length out
  written_length = fits_or_short (λ h. ap length (written_fits h) ∙ length-sets out at text) (λ h. ap length (written_short h))

  -- ---- a writer's promise in each of the two cases
  pub places : {r : Result ℕ Refusal} {left : List ℕ} → at + length text ≤ length out → r ≡ Ok (length text) → left ≡ sets out at text → Writes text at out r left
  places h e s = (e ∙ sym (wrote_fits h), s ∙ sym (written_fits h))

  pub refuses : {r : Result ℕ Refusal} {left : List ℕ} → length out < at + length text → r ≡ Err NoRoom → left ≡ out → Writes text at out r left
  refuses h e s = (e ∙ sym (wrote_short h), s ∙ sym (written_short h))

-- after a writer of a, the text b behind it gives what the joined text gives
pub written_then : (a b : List ℕ) (at : ℕ) (out : List ℕ) {left : List ℕ} → at + length a ≤ length out → left ≡ written a at out → sets left (at + length a) b ≡ sets out at (a ++ b)
written_then a b at out h e = ap (λ (l : List ℕ). sets l (at + length a) b) (e ∙ written_fits a at out h) ∙ sets_append out at a b

-- a writer at place k of what `&mut out[at..]` lends is a writer at place at + k of the whole
module _ (text : List ℕ) (at : ℕ) (out : List ℕ) (inside : at ≤ length out) where
  rest_length : length (rest_of at out) + at ≡ length out
  rest_length = omega (arith, mid_len at (length out) out (le_refl _))

  pub from_rest : (k : ℕ) {r : Result ℕ Refusal} {left : List ℕ} → Writes text k (rest_of at out) r left → Writes text (at + k) out r (put_rest at out left)
  from_rest k w =
      fits_or_short text k (rest_of at out)
      (λ h.
      places text (at + k) out (omega (arith, rest_length)) (w.0 ∙ wrote_fits text k (rest_of at out) h)
      (ap (put_rest at out) (w.1 ∙ written_fits text k (rest_of at out) h) ∙ put_rest_sets at out k text inside))
      (λ h.
      refuses text (at + k) out (omega (arith, rest_length)) (w.0 ∙ wrote_short text k (rest_of at out) h)
      (ap (put_rest at out) (w.1 ∙ written_short text k (rest_of at out) h) ∙ put_rest_same at out))

  pub from_rest_start : {r : Result ℕ Refusal} {left : List ℕ} → Writes text 0 (rest_of at out) r left → Writes text at out r (put_rest at out left)
  from_rest_start w = rw add-zero at (from_rest 0 w)
