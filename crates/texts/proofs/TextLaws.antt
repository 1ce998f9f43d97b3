-- Texts stored one behind the other, and how long a line is.
use mathlib.Core.Path.{◌≡◌, refl, ap, ◌∙◌}
use mathlib.Core.List.{List, [], ◌∷◌, ◌++◌, append_assoc}
use Prim.Native.Nat.{ℕ, ◌+◌, ◌≤◌}
use native.Mathlib.Omega.{arith}
use lib.ListN.{length, length-append}
use lib.Seq.{sets, length-sets}
use Rattle.std.specs.Prelude.{Result, IsOk}
use Rattle.refusals.specs.declared.Refusal.{Refusal}
use Rattle.placing.specs.Placing.{wrote, written}
use Rattle.placing.proofs.Stores.{sets_append}
use Rattle.placing.proofs.WriteLaws.{wrote_fits, written_fits}
use Rattle.decimal.specs.Spelling.{spelled, digit_count}
use Rattle.decimal.proofs.SpellLaws.{spelled_length}
use Rattle.fields.specs.Fields.{tab}
use Rattle.texts.specs.Texts.{line_with}

-- the text b stored behind a stored text a
pub stored_then : (a b : List ℕ) (at to : ℕ) (out : List ℕ) {left last : List ℕ} → to ≡ at + length a → left ≡ sets out at a → last ≡ sets left to b → last ≡ sets out at (a ++ b)
stored_then a b at to out {left} p e f =
    f ∙ ap (λ (l : List ℕ). sets l to b) e ∙ ap (λ (i : ℕ). sets (sets out at a) i b) p ∙ sets_append out at a b

-- a writer whose text fits is not refused
pub has_room : (text : List ℕ) (at : ℕ) (out left : List ℕ) {r : Result ℕ Refusal} → r ≡ wrote text at left → length left ≡ length out → at + length text ≤ length out → IsOk r
has_room text at out left e l h = rw (e ∙ wrote_fits text at left (omega (arith, l, h))) refl

-- a writer's text that fits is stored
pub written_then_fits : (a b : List ℕ) (at to : ℕ) (out : List ℕ) {left last : List ℕ} → to ≡ at + length a → to + length b ≤ length out → left ≡ sets out at a → last ≡ written b to left
    → last ≡ sets out at (a ++ b)
written_then_fits a b at to out {left} p h e f =
    stored_then a b at to out p e (f ∙ written_fits b to left (omega (arith, h, ap length e ∙ length-sets out at a)))

pub line_length : (n k debt : ℕ) (word : List ℕ) → length (line_with n k debt word) ≡ digit_count n + digit_count k + digit_count debt + length word + 4
unfolding line_with
line_length n k debt word =
    simp (length-append, spelled_length) (omega arith)

-- the four parts of a line stored one behind the other
pub line_stored : (n k debt : ℕ) (word out : List ℕ) (first second third : ℕ) {one two three four : List ℕ} → length (line_with n k debt word) ≤ length out
    → first ≡ digit_count n → second ≡ first + 1 + digit_count k → third ≡ second + 1 + digit_count debt
    → one ≡ written (spelled n) 0 out → two ≡ written (tab ∷ spelled k) first one → three ≡ written (tab ∷ spelled debt) second two → four ≡ sets three third (tab ∷ word ++ 10 ∷ [])
    → four ≡ sets out 0 (line_with n k debt word)
unfolding line_with
line_stored n k debt word out first second third h o p q a b c d =
    let l = spelled_length n in
    let m = spelled_length k in
    let r = spelled_length debt in
    let all = line_length n k debt word in
    let two : List ℕ = spelled n ++ (tab ∷ spelled k) in
    let len : length two ≡ second = omega (arith, length-append (spelled n) (tab ∷ spelled k)) in
    stored_then (two ++ (tab ∷ spelled debt)) (tab ∷ word ++ 10 ∷ []) 0 third out (omega (arith, length-append two (tab ∷ spelled debt)))
    (written_then_fits two (tab ∷ spelled debt) 0 second out (omega arith) (omega (arith, h, all))
    (written_then_fits (spelled n) (tab ∷ spelled k) 0 first out (omega arith) (omega (arith, h, all)) (a ∙ written_fits (spelled n) 0 out (omega (arith, h, all))) b) c) d
    ∙ ap (λ (t : List ℕ). sets out 0 t) (append_assoc two (tab ∷ spelled debt) (tab ∷ word ++ 10 ∷ []) ∙ append_assoc (spelled n) (tab ∷ spelled k) _)
