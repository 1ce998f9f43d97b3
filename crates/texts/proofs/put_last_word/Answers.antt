-- `put_last_word`: each part has room; the word is stored behind the stored tab, and byte 10 behind both.
use mathlib.Core.Path.{refl, ap, ◌∙◌}
use mathlib.Core.List.{[], ◌∷◌}
use Prim.Native.Nat.{◌+◌}
use native.Mathlib.Omega.{arith}
use lib.ListN.{length}
use Rattle.placing.proofs.WriteLaws.{written_fits, written_length}
use Rattle.fields.specs.Fields.{tab}
use Rattle.texts.proofs.TextLaws.{has_room, written_then_fits}
use Rattle.texts.proofs.put_last_word.Goals as goal

pub unwrap-requires : goal.unwrap-requires
unwrap-requires c = has_room (tab ∷ []) c.args.at c.args.out.now _ c.put_bytes.ensures.0 refl (omega (arith, c.requires))

pub unwrap-requires-2 : goal.unwrap-requires-2
unwrap-requires-2 c = has_room c.args.word.now (c.args.at + 1) c.args.out.now _ c.put_bytes-2.ensures.0 (ap length c.put_bytes.ensures.1 ∙ written_length _ _ _) (omega (arith, c.requires))

pub unwrap-requires-3 : goal.unwrap-requires-3
unwrap-requires-3 c =
    has_room (10 ∷ []) (c.args.at + 1 + length c.args.word.now) c.args.out.now _ c.put_bytes-3.ensures.0
    (ap length c.put_bytes-2.ensures.1 ∙ written_length _ _ _ ∙ ap length c.put_bytes.ensures.1 ∙ written_length _ _ _) (omega (arith, c.requires))

pub returns : goal.returns
returns c =
    let word = c.args.word.now in
    let at = c.args.at in
    let out = c.args.out.now in
    let fits = c.requires in
    written_then_fits (tab ∷ word) (10 ∷ []) at (at + 1 + length word) out (omega arith) (omega (arith, fits))
    (written_then_fits (tab ∷ []) word at (at + 1) out refl (omega (arith, fits)) (c.put_bytes.ensures.1 ∙ written_fits (tab ∷ []) at out (omega (arith, fits))) c.put_bytes-2.ensures.1)
    c.put_bytes-3.ensures.1
