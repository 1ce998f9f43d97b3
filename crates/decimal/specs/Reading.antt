-- A field's bytes as a number: one or more digits, at most 65,535. Leading zeros are read here; a line is refused for them before (M-101).
use Rattle.std.specs.Prelude.{Bool, true, cond, Result, Ok, Err, ◌&&◌, List, [], ◌∷◌, ℕ, ◌+◌, ◌-◌, ◌*◌, length, leb}
use Rattle.refusals.specs.declared.Refusal.{Refusal}
use Rattle.refusals.specs.declared.Refusal.TheVariants.{NoNumber}

abbrev pub is_digit : ℕ → Bool
is_digit c = leb 48 c && leb c 57

unfoldable pub all_digits : List ℕ → Bool
all_digits [] = true
all_digits (c ∷ cs) = is_digit c && all_digits cs

-- the value of digits that stand behind a number v
unfoldable pub value_from : ℕ → List ℕ → ℕ
value_from v [] = v
value_from v (c ∷ cs) = value_from (v * 10 + (c - 48)) cs

-- a value v with one more digit behind it; 24 for another byte, and past 65,535
abbrev pub with_digit : ℕ → ℕ → Result ℕ Refusal
with_digit v c = cond (is_digit c && leb (v * 10 + (c - 48)) 65535) (Ok (v * 10 + (c - 48))) (Err NoNumber)

abbrev pub is_number : List ℕ → Bool
is_number cs = leb 1 (length cs) && (all_digits cs && leb (value_from 0 cs) 65535)

-- 24 a number field empty, with a byte that is no digit, or above 65,535
unfoldable pub number_of : List ℕ → Result ℕ Refusal
number_of cs = cond (is_number cs) (Ok (value_from 0 cs)) (Err NoNumber)
