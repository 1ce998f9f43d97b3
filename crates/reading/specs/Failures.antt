-- What a failure is told with: the words for what failed, and the cause.
use Rattle.std.specs.Prelude.{List, [], ◌∷◌, ℕ}
use Rattle.std.specs.declared.io.Error.{Error}
use Rattle.reading.specs.declared.failures.Failure.{Failure}
use Rattle.reading.specs.declared.failures.Failure.TheVariants.{Reading, Writing}

-- "reading standard input", "writing standard output"
abbrev pub task_of : Failure → List ℕ
task_of (Reading e) = 114 ∷ 101 ∷ 97 ∷ 100 ∷ 105 ∷ 110 ∷ 103 ∷ 32 ∷ 115 ∷ 116 ∷ 97 ∷ 110 ∷ 100 ∷ 97 ∷ 114 ∷ 100 ∷ 32 ∷ 105 ∷ 110 ∷ 112 ∷ 117 ∷ 116 ∷ []
task_of (Writing e) = 119 ∷ 114 ∷ 105 ∷ 116 ∷ 105 ∷ 110 ∷ 103 ∷ 32 ∷ 115 ∷ 116 ∷ 97 ∷ 110 ∷ 100 ∷ 97 ∷ 114 ∷ 100 ∷ 32 ∷ 111 ∷ 117 ∷ 116 ∷ 112 ∷ 117 ∷ 116 ∷ []

abbrev pub cause_of : Failure → Error
cause_of (Reading e) = e
cause_of (Writing e) = e
