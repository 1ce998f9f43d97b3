-- Steps written into a list from a place on.
-- For private contracts only; a reader of the claim may skip this.
use Rattle.std.specs.Prelude.{◌≡◌, List, ℕ, ◌+◌, length}
use Rattle.std.proofs.lemmas.List.Edits.{sets}
use Rattle.rules.specs.declared.StepRecord.{StepRecord}

-- from `at` to `end` stand the steps rs, and the other entries are as they were
pub record Writes (rs : List StepRecord) (at : ℕ) (list left : List StepRecord) (end : ℕ) : Type 0 where
  pub ends : end ≡ at + length rs
  pub leaves : left ≡ sets list at rs
