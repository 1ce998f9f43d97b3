-- The first place that passes, or the number of entries.
use Rattle.std.proofs.Common.{◌≡◌, ◌≤◌, ℕ, Bool, Option, Some, None, cond, ltb, length, ap, ◌∙◌, arith, rules}
use borrow.Author.Tests.{lt-ltb, le-ltb}
use Rattle.std.specs.Option.{unwrap_or}
use Rattle.std.proofs.lemmas.Iterator.{YieldsList-from_slice}
use Rattle.std.proofs.lemmas.Iterator.Search.{position_from_yields_List}
use Rattle.std.proofs.lemmas.List.Sums.{prefix_len-le-length}
use Rattle.rules.specs.Records.{is_empty}
use Rattle.rules.specs.declared.Slot.{Slot}
use Rattle.rules.proofs.Sheets.SoundLaws.{below_or_not}
use Rattle.drains.specs.Calls.{lowest_free}
use Rattle.drains.proofs.checks.free_slot.Goals as goal

-- a place that is found, or the length
found_or : (k n len : ℕ) → k ≤ len → len ≡ n → unwrap_or (cond (ltb k len) (Some k) None) n ≡ k
found_or k n len p e = below_or_not k len (λ l. rw lt-ltb) (λ l. rw le-ltb (omega arith))

pub returns : goal.returns
unfolding lowest_free
returns c =
    let free : Slot → Bool = λ y. is_empty y.kind in
    let found = position_from_yields_List free _ _ c.position.result c.position.ensures.ran (YieldsList-from_slice c.args.slots.now c.iter.ensures.rest) (λ x b q k. search rules) in
    c.unwrap_or.ensures ∙ ap (λ (o : Option ℕ). unwrap_or o 256) found ∙ found_or _ 256 (length c.args.slots.now) (prefix_len-le-length _ c.args.slots.now) (search rules)
