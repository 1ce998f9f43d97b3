-- The number fields of a line: all of its fields, or those from a place on.
use Rattle.std.specs.Prelude.{Bool, true, not, cond, ◌&&◌, Option, Some, None, Result, Ok, Err, List, [], ◌∷◌, ◌++◌, ℕ, zero, suc, length, drop, get_or, leb, eqb}
use Rattle.refusals.specs.declared.Refusal.{Refusal}
use Rattle.refusals.specs.declared.Refusal.TheVariants.{NoNumber, PaddedNumber}
use Rattle.decimal.specs.Reading.{all_digits, is_number, value_from}
use Rattle.decimal.specs.Spelling.{spelled}
use Rattle.fields.specs.Fields.{tab, field_of, field_count}
use Rattle.numbers.specs.declared.Numbers.{Numbers}

-- ---- the fields of a line
-- n fields from field i on
unfoldable pub fields_from : ℕ → ℕ → List ℕ → List (List ℕ)
fields_from zero i l = []
fields_from (suc n) i l = field_of i l ∷ fields_from n (suc i) l

unfoldable pub fields_of : List ℕ → List (List ℕ)
fields_of l = fields_from (field_count l) 0 l

-- those of what stands from a place on; past the line's end there is none
unfoldable pub fields_at : ℕ → List ℕ → List (List ℕ)
fields_at at l = cond (leb at (length l)) (fields_of (drop at l)) []

-- ---- fields as numbers
unfoldable pub all_numbers : List (List ℕ) → Bool
all_numbers [] = true
all_numbers (f ∷ fs) = is_number f && all_numbers fs

-- a padded number (M-101's word): two or more digits and nothing else, the first of them 0
unfoldable pub has_leading_zero : List ℕ → Bool
has_leading_zero f = leb 2 (length f) && (eqb (get_or f 0 0) 48 && all_digits f)

unfoldable pub no_leading_zeros : List (List ℕ) → Bool
no_leading_zeros [] = true
no_leading_zeros (f ∷ fs) = not (has_leading_zero f) && no_leading_zeros fs

unfoldable pub values : List (List ℕ) → List ℕ
values [] = []
values (f ∷ fs) = value_from 0 f ∷ values fs

-- what is asked of all fields together, and what refuses the line where it fails
pub record FieldCheck : Type 0 where
  pub passes : Bool
  pub refusal : Refusal

-- 28 a padded number in any field (M-101), 24 a number field empty, with a byte that is no digit, or above 65,535. The first of the row
-- that fails refuses the line, whichever of its fields is the first bad one
abbrev pub field_checks : List (List ℕ) → List FieldCheck
field_checks fs =
    record { passes = no_leading_zeros fs; refusal = PaddedNumber }
    ∷ record { passes = all_numbers fs; refusal = NoNumber }
    ∷ []

-- the refusal of the first that fails, none where all pass
abbrev pub first_failed : List FieldCheck → Option Refusal
first_failed [] = None
first_failed (c ∷ cs) = cond c.passes (first_failed cs) (Some c.refusal)

abbrev pub refusal_of : List (List ℕ) → Option Refusal
refusal_of fs = first_failed (field_checks fs)

-- x, where nothing refuses it
abbrev pub unless : {A : Type 0} → Option Refusal → A → Result A Refusal
unless None x = Ok x
unless (Some k) x = Err k

-- n entries: the values with zeros behind them, or the first n values
unfoldable pub padded : ℕ → List ℕ → List ℕ
padded zero vs = []
padded (suc n) [] = 0 ∷ padded n []
padded (suc n) (v ∷ vs) = v ∷ padded n vs

-- a line of 255 bytes has room for 128 numbers
abbrev pub room : ℕ
room = 128

-- how many fields there are, and the values, or the line's refusal
abbrev pub numbers_of : List (List ℕ) → Numbers
numbers_of fs = record { count = length fs; values = unless (refusal_of fs) (padded room (values fs)) }

unfoldable pub numbers_at : ℕ → List ℕ → Numbers
numbers_at at l = numbers_of (fields_at at l)

-- ---- numbers written as fields: each behind a tab
unfoldable pub tabbed : List ℕ → List ℕ
tabbed [] = []
tabbed (n ∷ ns) = tab ∷ spelled n ++ tabbed ns
