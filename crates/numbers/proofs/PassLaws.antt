-- One pass over the number fields of a line: what is found of the fields so far are the numbers of these.
use mathlib.Core.Path.{◌≡◌, refl, sym, ap, ◌∙◌}
use mathlib.Core.Bool.{Bool, true, false, not, cond, ◌&&◌, ◌||◌, and-true, and-false}
use mathlib.Core.List.{List, [], ◌∷◌, ◌++◌}
use Prim.Native.Nat.{ℕ, zero, suc, ◌+◌, ◌≤◌, ◌<◌}
use native.Mathlib.Numerals.{add-one}
use native.Mathlib.Omega.{arith}
use lib.ListN.{length, take, drop, set, replicate, length-append}
use Rattle.std.specs.Bool.{then_some}
use Rattle.std.specs.Option.{option_or}
use Rattle.std.specs.Prelude.{Option, Some, None, Ok, Err}
use Rattle.refusals.specs.declared.Refusal.{Refusal}
use Rattle.refusals.specs.declared.Refusal.TheVariants.{NoNumber, PaddedNumber}
use Rattle.decimal.specs.Reading.{is_number, value_from, number_of}
use Rattle.fields.proofs.Cases.{by_bool}
use Rattle.numbers.specs.Numbers.{all_numbers, has_leading_zero, no_leading_zeros, values, padded, room, refusal_of, unless, fields_at, numbers_at}
use Rattle.numbers.proofs.NumberLaws.{values_length, padded_none}

-- ---- n entries, with one more value
padded_more : (n : ℕ) (vs : List ℕ) (v : ℕ) → length vs < n → padded n (vs ++ v ∷ []) ≡ set (padded n vs) (length vs) v
unfolding padded
padded_more zero vs v h = absurd (omega arith)
padded_more (suc n) [] v h = refl
padded_more (suc n) (w ∷ vs) v h = ap (λ (ws : List ℕ). w ∷ ws) (padded_more n vs v (omega arith))

padded_full : (n : ℕ) (vs : List ℕ) (v : ℕ) → n ≤ length vs → padded n (vs ++ v ∷ []) ≡ padded n vs
unfolding padded
padded_full zero vs v h = refl
padded_full (suc n) [] v h = absurd (omega arith)
padded_full (suc n) (w ∷ vs) v h = ap (λ (ws : List ℕ). w ∷ ws) (padded_full n vs v (omega arith))

-- ---- the fields so far, with one more
module _ (f : List ℕ) where
  zeros_more : (fs : List (List ℕ)) → no_leading_zeros (fs ++ f ∷ []) ≡ no_leading_zeros fs && not (has_leading_zero f)
  unfolding no_leading_zeros
  zeros_more [] = by_bool (λ t. t && true ≡ t) (not (has_leading_zero f)) (λ q. refl) (λ q. refl)
  zeros_more (g ∷ fs) = rw (zeros_more fs) (by_bool (λ t. t && (no_leading_zeros fs && not (has_leading_zero f)) ≡ (t && no_leading_zeros fs) && not (has_leading_zero f)) (not (has_leading_zero g)) (λ q. refl) (λ q. refl))

  numbers_more : (fs : List (List ℕ)) → all_numbers (fs ++ f ∷ []) ≡ all_numbers fs && is_number f
  unfolding all_numbers
  numbers_more [] = by_bool (λ t. t && true ≡ t) (is_number f) (λ q. refl) (λ q. refl)
  numbers_more (g ∷ fs) = rw (numbers_more fs) (by_bool (λ t. t && (all_numbers fs && is_number f) ≡ (t && all_numbers fs) && is_number f) (is_number g) (λ q. refl) (λ q. refl))

  values_more : (fs : List (List ℕ)) → values (fs ++ f ∷ []) ≡ values fs ++ value_from 0 f ∷ []
  unfolding values
  values_more [] = refl
  values_more (g ∷ fs) = ap (λ (vs : List ℕ). value_from 0 g ∷ vs) (values_more fs)

-- ---- the first n fields, where those left begin with f, and where none is left
next_by : (n : ℕ) (fs : List (List ℕ)) {f : List ℕ} {rest : List (List ℕ)} → drop n fs ≡ f ∷ rest → (take (suc n) fs ≡ take n fs ++ f ∷ []) × (drop (suc n) fs ≡ rest)
next_by zero [] e = absurd cc
next_by zero (g ∷ fs) e = (cc, cc)
next_by (suc n) [] e = absurd cc
next_by (suc n) (g ∷ fs) e = let more = next_by n fs e in (ap (λ (gs : List (List ℕ)). g ∷ gs) more.0, more.1)

pub next_of : (n : ℕ) (fs : List (List ℕ)) {f : List ℕ} {rest : List (List ℕ)} → drop n fs ≡ f ∷ rest → (take (n + 1) fs ≡ take n fs ++ f ∷ []) × (drop (n + 1) fs ≡ rest)
next_of n fs e = rw add-one (next_by n fs e)

pub all_of : (n : ℕ) (fs : List (List ℕ)) → drop n fs ≡ [] → take n fs ≡ fs
all_of zero fs e = sym e
all_of (suc n) [] e = refl
all_of (suc n) (g ∷ fs) e = ap (λ (gs : List (List ℕ)). g ∷ gs) (all_of n fs e)

-- ---- at the head of each turn: what is found of the fields so far
pub record Pass (fs : List (List ℕ)) (list : List ℕ) (count : ℕ) (leading : Bool) (refusal : Option Refusal) : Type 0 where
  pub counted : count ≡ length fs
  pub plain : not leading ≡ no_leading_zeros fs
  pub refused : refusal ≡ cond (all_numbers fs) None (Some NoNumber)
  pub stored : refusal ≡ None → list ≡ padded room (values fs)

pub pass_begins : Pass [] (replicate room 0) 0 false None
unfolding no_leading_zeros all_numbers values
pass_begins = record { counted = refl; plain = refl; refused = refl; stored = λ _. sym (padded_none room) }

-- ---- one turn, which leaves one field more behind it
module _ {fs : List (List ℕ)} {list : List ℕ} {count : ℕ} {leading : Bool} {refusal : Option Refusal} (p : Pass fs list count leading refusal) (f : List ℕ) {gs : List (List ℕ)} (more : gs ≡ fs ++ f ∷ []) {z : Bool} (led : z ≡ leading || has_leading_zero f) where
  longer : count + 1 ≡ length gs
  longer = omega (arith, p.counted, length-append fs (f ∷ []), ap length more)

  plainer : not z ≡ no_leading_zeros gs
  plainer =
      ap not led
      ∙ by_bool (λ t. not (t || has_leading_zero f) ≡ not t && not (has_leading_zero f)) leading (λ q. refl) (λ q. refl)
      ∙ ap (λ (t : Bool). t && not (has_leading_zero f)) p.plain
      ∙ sym (zeros_more f fs)
      ∙ ap no_leading_zeros (sym more)

  numbers_now : all_numbers gs ≡ all_numbers fs && is_number f
  numbers_now = ap all_numbers more ∙ numbers_more f fs

  module _ {v : ℕ} (read : number_of f ≡ Ok v) {o : Option Refusal} (kept : o ≡ refusal) where
    good : (is_number f ≡ true) × (v ≡ value_from 0 f)
    unfolding number_of
    good = by_bool (λ t. cond t (Ok (value_from 0 f)) (Err NoNumber) ≡ Ok v → (t ≡ true) × (v ≡ value_from 0 f)) (is_number f) (λ q e. (refl, cc)) (λ q e. absurd cc) read

    goes : (next : List ℕ) → (list ≡ padded room (values fs) → next ≡ padded room (values fs ++ v ∷ [])) → Pass gs next (count + 1) z o
    goes next e = record {
      counted = longer;
      plain = plainer;
      refused = kept ∙ p.refused ∙ ap (λ (t : Bool). cond t None (Some NoNumber)) (sym (numbers_now ∙ rw good.0 (and-true (all_numbers fs))));
      stored = λ none. e (p.stored (sym kept ∙ none)) ∙ rw (more, good.1, values_more f fs);
    }

    pub pass_stores : count < room → {next : List ℕ} → next ≡ set list count v → Pass gs next (count + 1) z o
    pass_stores h {next} s = goes next (λ l. s ∙ rw (l, p.counted, ← values_length fs) (sym (padded_more room (values fs) v (omega (arith, h, p.counted, values_length fs)))))

    -- more fields than there is room for
    pub pass_skips : room ≤ count → {next : List ℕ} → next ≡ list → Pass gs next (count + 1) z o
    pass_skips h {next} s = goes next (λ l. s ∙ l ∙ sym (padded_full room (values fs) v (omega (arith, h, p.counted, values_length fs))))

  pub pass_refuses : {k : Refusal} → number_of f ≡ Err k → {next : List ℕ} {o : Option Refusal} → o ≡ Some k → Pass gs next (count + 1) z o
  unfolding number_of
  pass_refuses {k} read {next} {o} told = record {
    counted = longer;
    plain = plainer;
    refused = told
        ∙ by_bool (λ t. cond t (Ok (value_from 0 f)) (Err NoNumber) ≡ Err k → Some k ≡ cond (all_numbers fs && t) None (Some NoNumber)) (is_number f) (λ q e. absurd cc) (λ q e. rw and-false cc) read
        ∙ ap (λ (t : Bool). cond t None (Some NoNumber)) (sym numbers_now);
    stored = λ none. absurd cc;
  }

-- ---- at the end: a padded number refuses before one that is none
module _ {fs : List (List ℕ)} {list : List ℕ} {count : ℕ} {leading : Bool} {refusal : Option Refusal} (p : Pass fs list count leading refusal) (from : ℕ) (l : List ℕ) (all : fs ≡ fields_at from l) {t o : Option Refusal} (zeros : t ≡ then_some leading PaddedNumber) (told : o ≡ option_or t refusal) where
  first_is : o ≡ cond leading (Some PaddedNumber) refusal
  first_is = told ∙ ap (λ (r : Option Refusal). option_or r refusal) zeros ∙ by_bool (λ b. option_or (then_some b PaddedNumber) refusal ≡ cond b (Some PaddedNumber) refusal) leading (λ q. refl) (λ q. refl)

  all_refused : o ≡ refusal_of fs
  all_refused = first_is ∙ by_bool (λ b. cond b (Some PaddedNumber) refusal ≡ cond (not b) refusal (Some PaddedNumber)) leading (λ q. refl) (λ q. refl) ∙ rw (p.plain, p.refused)

  numbers_are : record { count = count; values = unless o (padded room (values fs)) } ≡ numbers_at from l
  unfolding numbers_at
  numbers_are = rw (p.counted, all_refused, all)

  none_refused : o ≡ None → refusal ≡ None
  none_refused e = by_bool (λ b. cond b (Some PaddedNumber) refusal ≡ None → refusal ≡ None) leading (λ q f. absurd cc) (λ q f. f) (sym first_is ∙ e)

  pub ends_refused : {k : Refusal} → o ≡ Some k → record { count = count; values = Err k } ≡ numbers_at from l
  ends_refused {k} e = ap (λ (r : Option Refusal). record { count = count; values = unless r (padded room (values fs)) }) (sym e) ∙ numbers_are

  pub ends_good : o ≡ None → record { count = count; values = Ok list } ≡ numbers_at from l
  ends_good e =
      ap (λ (vs : List ℕ). record { count = count; values = Ok vs }) (p.stored (none_refused e))
      ∙ ap (λ (r : Option Refusal). record { count = count; values = unless r (padded room (values fs)) }) (sym e)
      ∙ numbers_are
