-- One read behind what was read before, and what the bytes read say of the whole input.
use Rattle.std.proofs.Common.{◌≡◌, ◌∙◌, sym, ap, subst, ℕ, ◌+◌, ◌-◌, ◌<◌, ◌≤◌, None, Some, IfSome, List, ◌++◌, append-nil, length, take, drop, Ok, arith}
use Rattle.std.proofs.Math.Logic.{⊎_elim}
use Rattle.std.proofs.Math.Nat.{eq-or-lt_of_le}
use Rattle.std.proofs.Math.Seq.{length-take-le, take-add}
use Rattle.std.proofs.KnownBytes.{Consumes-trans}
use Rattle.std.specs.Io.KnownBytes.{Consumes}
use Rattle.std.specs.declared.option.Option.{Option}
use Rattle.reading.specs.Input.{Gives}

-- the bytes read before, which the read kept, and those that it gave behind them are the first that the reader had left
pub reads_on : (a b c : Option (List ℕ)) (at n : ℕ) (old new : List ℕ) → at ≤ n → take at new ≡ take at old → Consumes a b (take at old) → Consumes b c (take (n - at) (drop at new)) → Consumes a c (take n new)
reads_on a b c at n old new l kept before more =
    let there : at + (n - at) ≡ n = omega arith in
    let both : take n new ≡ take at old ++ take (n - at) (drop at new) =
    ap (λ (k : ℕ). take k new) (sym there) ∙ take-add at (n - at) new ∙ ap (λ (x : List ℕ). x ++ take (n - at) (drop at new)) kept in
    subst (Consumes a c) (sym both) (Consumes-trans a b c (take at old) (take (n - at) (drop at new)) before more)

-- Where texts of more than `most` bytes that begin alike are taken alike, what was read into a buffer of one byte more is taken as the whole
-- input is.
pub reads_enough : {X : Type 0} (f : List ℕ → X) (most : ℕ) → ((t rest : List ℕ) → most < length t → f (t ++ rest) ≡ f t) → (before after : Option (List ℕ)) (n : ℕ) (buf : List ℕ)
    → length buf ≡ most + 1 → n ≤ length buf → Gives before after (Ok n) buf → IfSome before (λ s. f (take n buf) ≡ f s)
reads_enough f most same None after n buf room within read = tt
reads_enough f most same (Some s) None n buf room within read = absurd read.0
reads_enough f most same (Some s) (Some rest) n buf room within read = ⊎_elim full at_end (eq-or-lt_of_le within)
  where
    at_end : n < length buf → f (take n buf) ≡ f s
    at_end l = ap f (sym (read.0 ∙ ap (λ (x : List ℕ). take n buf ++ x) (read.1 l) ∙ append-nil (take n buf)))

    full : n ≡ length buf → f (take n buf) ≡ f s
    full e = sym (ap f read.0 ∙ same (take n buf) rest (omega (arith, length-take-le n buf within)))
