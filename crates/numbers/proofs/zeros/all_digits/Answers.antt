-- `all_digits`: the bytes are all digits where each passes the test.
use Rattle.std.proofs.Common.{rules, ◌≡◌, ◌∷◌, [], List, ℕ, ap, refl, ◌&&◌, ◌∙◌}
use borrow.Author.Tests.{tests}
use Rattle.std.specs.List.{list_all}
use Rattle.std.proofs.lemmas.Iterator.{YieldsList-from_slice}
use Rattle.std.proofs.lemmas.Iterator.Search.{all_from_yields_List}
use Rattle.decimal.specs.Reading.{is_digit, all_digits}
use Rattle.numbers.proofs.zeros.all_digits.Goals as goal

digits_all : (cs : List ℕ) → list_all is_digit cs ≡ all_digits cs
unfolding all_digits
digits_all [] = refl
digits_all (c ∷ cs) = ap (λ b. is_digit c && b) (digits_all cs)

pub returns : goal.returns
returns c = all_from_yields_List is_digit _ _ _ c.all.ensures.ran (YieldsList-from_slice c.args.field.now cc) (λ x b q k. search (rules, tests)) ∙ digits_all c.args.field.now
