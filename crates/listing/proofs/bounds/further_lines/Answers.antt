-- The further lines begin behind the bytes 10 that are counted.
use mathlib.Core.Path.{◌≡◌, refl, sym, ap, ◌∙◌}
use mathlib.Core.List.{List, [], ◌∷◌}
use mathlib.Core.Bool.{cond}
use Prim.Native.Nat.{ℕ, suc, ◌-◌}
use native.Mathlib.Omega.{arith}
use lib.ListN.{length, take}
use lib.Dec.{eqb}
use lib.Seq.{take-nil}
use Rattle.std.specs.Prelude.{◌==◌, count_by}
use Rattle.std.proofs.lemmas.List.Recursion.{is_count_by}
use Rattle.fields.specs.Fields.{count_of, past}
use Rattle.fields.proofs.Cases.{by_bool}
use Rattle.numbers.specs.Lines.{lines_within}
use Rattle.numbers.proofs.LineLaws.{lines_behind}
use Rattle.listing.specs.Bounds.{further_lines}
use Rattle.listing.proofs.bounds.further_lines.Goals as goal

-- of two bytes or more, the first ends a line or not
further_next : (c d : ℕ) (cs : List ℕ) → further_lines (c ∷ d ∷ cs) ≡ cond (eqb c 10) (suc (further_lines (d ∷ cs))) (further_lines (d ∷ cs))
unfolding lines_within past
further_next c d cs =
    ap length (sym (lines_behind (suc (suc (length cs))) (c ∷ d ∷ cs) (omega arith)))
    ∙ by_bool (λ t. length (lines_within (suc (suc (suc (length cs)))) (cond t (d ∷ cs) (past 10 (d ∷ cs)))) ≡ cond t (suc (further_lines (d ∷ cs))) (further_lines (d ∷ cs))) (eqb c 10)
    (λ e. omega (arith, ap length (lines_behind (suc (length cs)) (d ∷ cs) (omega arith)))) (λ e. omega (arith, ap length (lines_behind (suc (suc (length cs))) (d ∷ cs) (omega arith))))

counted_before_last : (c : ℕ) (cs : List ℕ) → count_of 10 (take (length cs) (c ∷ cs)) ≡ further_lines (c ∷ cs)
unfolding lines_within count_of
counted_before_last c [] = refl
counted_before_last c (d ∷ cs) = ap (λ (n : ℕ). cond (eqb c 10) (suc n) n) (counted_before_last d cs) ∙ sym (further_next c d cs)

counts : (s : List ℕ) → count_of 10 s ≡ count_by (λ byte. byte == 10) s
unfolding count_of
counts = is_count_by (count_of 10) (λ byte. byte == 10) refl (λ x xs. ap (λ (n : ℕ). cond (eqb x 10) n (count_of 10 xs)) (omega arith))

further_counted : (s : List ℕ) {n : ℕ} → n ≡ length s - 1 → count_by (λ byte. byte == 10) (take n s) ≡ further_lines s
unfolding lines_within
further_counted [] {n} e = ap (count_by (λ byte. byte == 10)) (take-nil n)
further_counted (c ∷ cs) {n} e =
    let all : n ≡ length cs = omega (arith, e) in
    rw all (sym (counts (take (length cs) (c ∷ cs))) ∙ counted_before_last c cs)

pub returns : goal.returns
returns c = c.line_ends.ensures ∙ further_counted c.args.script.now (omega arith)
