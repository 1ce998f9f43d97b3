-- Laws of the fields of a line: how many there are, and where a field stands.
use mathlib.Core.Path.{◌≡◌, refl}
use mathlib.Core.List.{List, []}
use Prim.Native.Nat.{ℕ, zero, suc, ◌-◌, ◌≤◌}
use native.Mathlib.Omega.{arith}
use lib.ListN.{length, drop}
use lib.Seq.{drop-drop, drop-length}
use Rattle.fields.specs.Fields.{up_to, past, count_of, tab, field_of, field_start, field_count}
use Rattle.fields.proofs.PartLaws.{count_few, past_whole, past_at_most, past_stands, count_past}

-- ---- how many there are, and where a field stands
-- a line has at most one field more than bytes
pub count_at_most : (l : List ℕ) → field_count l ≤ suc (length l)
unfolding field_count
count_at_most l = omega (arith, count_few tab l)

pub start_at_most : (k : ℕ) (l : List ℕ) → field_start k l ≤ length l
unfolding field_start
start_at_most zero l = omega arith
start_at_most (suc k) l = omega (arith, past_at_most tab l, start_at_most k (past tab l))

-- a field is what stands from its start up to the next tab
pub field_from : (k : ℕ) (l : List ℕ) → field_of k l ≡ up_to tab (drop (field_start k l) l)
unfolding field_of field_start
field_from zero l = refl
field_from (suc k) l = rw (field_from k (past tab l), ← drop-drop (field_start k (past tab l)) (length l - length (past tab l)) l, ← past_stands tab l)

-- a field that starts at the line's end is empty
pub field_at_end : (k : ℕ) (l : List ℕ) → field_start k l ≡ length l → field_of k l ≡ []
unfolding up_to
field_at_end k l h = rw (field_from k l, h, drop-length)

-- ---- past the last field

start_past : (k : ℕ) (l : List ℕ) → count_of tab l ≤ k → field_start (suc k) l ≡ length l
unfolding field_start
start_past zero l h = rw (past_whole tab l (omega arith)) (omega arith)
start_past (suc k) l h = omega (arith, start_past k (past tab l) (omega (arith, count_past tab l)), past_at_most tab l)

pub start_beyond : (k : ℕ) (l : List ℕ) → field_count l ≤ k → field_start k l ≡ length l
unfolding field_count
start_beyond zero l h = absurd (omega arith)
start_beyond (suc k) l h = start_past k l (omega arith)

pub field_beyond : (k : ℕ) (l : List ℕ) → field_count l ≤ k → field_of k l ≡ []
field_beyond k l h = field_at_end k l (start_beyond k l h)
