-- A number's digits here are those that std writes.
use Rattle.std.proofs.Common.{◌≡◌, ℕ, ◌<◌, ◌^◌, length, get_or, sym, ⊎_elim, arith, rules}
use Rattle.std.proofs.lemmas.Bool.{cases_lt}
use Rattle.std.specs.Fmt.{decimal}
use Rattle.std.proofs.lemmas.Fmt.{decimal-digits_value}
use Rattle.std.proofs.lemmas.Str.Parse.{IsNumeralModel, numerals_by_fold}
use mathlib.Core.Bool.{true}
use mathlib.Core.List.{List}
use Rattle.decimal.specs.Spelling.{spelled}
use Rattle.decimal.specs.Reading.{all_digits, value_from}
use Rattle.decimal.proofs.CountLaws.{count_some}
use Rattle.decimal.proofs.SpellLaws.{spelled_digits, spelled_length}
use Rattle.decimal.proofs.RoundTrip.{value_spelled, spelled_lead}

own : IsNumeralModel (λ (ds : List ℕ). all_digits ds ≡ true) (value_from 0)
unfolding all_digits value_from
own = numerals_by_fold _ (search rules) value_from (search rules)

pub spelled_decimal : (n : ℕ) → n < 2 ^ 64 → spelled n ≡ decimal n
spelled_decimal n h =
    let value : value_from 0 (spelled n) ≡ n = value_spelled n (omega arith) in
    let small : value_from 0 (spelled n) < 2 ^ 64 = omega (arith, value) in
    let some : 0 < length (spelled n) = omega (arith, spelled_length n, count_some n) in
    let lead : get_or (spelled n) 0 0 ≡ 48 → length (spelled n) ≡ 1 = λ zero. omega (arith, ⊎_elim (λ few. few) (λ many. absurd (omega (arith, zero, spelled_lead n many))) (cases_lt (length (spelled n)) 2)) in
    sym (rw value at (decimal-digits_value own (spelled n) (spelled_digits n (omega arith)) some lead small))
