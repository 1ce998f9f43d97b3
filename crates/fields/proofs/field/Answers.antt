-- `field`: the part from a field's start up to the next tab is the field, and at the line's end it is empty.
use mathlib.Core.Path.{◌≡◌, sym, ◌∙◌}
use mathlib.Core.List.{List}
use Prim.Native.Nat.{ℕ, ◌-◌}
use native.Mathlib.Nat.{sub_self}
use native.Mathlib.Omega.{arith}
use lib.ListN.{take, drop}
use Rattle.fields.specs.Fields.{tab, end_from, field_of, field_start}
use Rattle.fields.proofs.PartLaws.{up_to_from}
use Rattle.fields.proofs.FieldLaws.{start_at_most, field_from, field_at_end}
use Rattle.fields.proofs.field.Goals as goal

-- the cut from a field's start to the next tab
cut_is : (k : ℕ) (l : List ℕ) {start end : ℕ} → start ≡ field_start k l → end ≡ end_from tab start l → take (end - start) (drop start l) ≡ field_of k l
cut_is k l {start} {end} s t = rw (t, ← up_to_from tab start l (omega (arith, start_at_most k l, s)), s, field_from k l)

pub returns-then-start-line-clause-bytes : goal.returns-then-start-line-clause-bytes
returns-then-start-line-clause-bytes c = simp (sub_self, field_at_end _ _ (sym c.field_start-start.ensures ∙ c.if-start-line.true))

pub returns-clause-bytes : goal.returns-clause-bytes
returns-clause-bytes c = cut_is _ _ c.field_start-start.ensures c.end_from-end.ensures
