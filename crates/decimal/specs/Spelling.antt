-- A number in digits, most significant first, without leading zeros.
use Rattle.std.specs.Prelude.{cond, List, [], ◌∷◌, ℕ, zero, suc, ◌+◌, ◌/◌, ◌%◌, ◌^◌, leb}

-- the last k digits of n, by the powers of ten
unfoldable pub spell : ℕ → ℕ → List ℕ
spell zero n = []
spell (suc k) n = (48 + n / 10 ^ k) ∷ spell k (n % 10 ^ k)

-- how many digits n has, where 10^(k + 1) is above n
unfoldable pub digits_up_to : ℕ → ℕ → ℕ
digits_up_to zero n = 1
digits_up_to (suc k) n = cond (leb (10 ^ suc k) n) (suc (suc k)) (digits_up_to k n)

-- a number of 64 bits has at most 20 digits
abbrev pub digit_count : ℕ → ℕ
digit_count n = digits_up_to 19 n

unfoldable pub spelled : ℕ → List ℕ
spelled n = spell (digit_count n) n
