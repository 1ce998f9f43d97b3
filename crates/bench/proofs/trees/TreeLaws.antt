-- The front of the tree: past its end, all of it.
use mathlib.Core.Path.{◌≡◌, sym, ap, ◌∙◌}
use Prim.Native.Nat.{ℕ, ◌-◌, min}
use native.Mathlib.Omega.{arith}
use lib.ListN.{take}
use lib.Seq.{take_all}
use Rattle.rules.specs.Opening.{opening}
use Rattle.rules.proofs.SoundLaws.{below_or_not}
use Rattle.bench.specs.Trees.{tree, tree_board}

pub front_opened : (n m d k : ℕ) → k ≡ min (n - 1) 63 → (opening m d (take k tree)).board ≡ tree_board n m d
unfolding tree_board
front_opened n m d k e = ap (λ ps. (opening m d ps).board) same
  where
    same : take k tree ≡ take (n - 1) tree
    same =
        below_or_not (n - 1) 63 (λ p. let f : k ≡ n - 1 = omega (arith, e, p) in ap (λ (j : ℕ). take j tree) f)
        (λ p. take_all k tree (omega (arith, e, p)) ∙ sym (take_all (n - 1) tree p))
