-- The steps of the units, then those of the slots.
use Rattle.std.proofs.Common.{ℕ, ◌++◌, ap, ◌∙◌, drop, arith}
use Rattle.rules.specs.Boards.{view}
use Rattle.rules.specs.Sheets.Longest.{longest_length, longest_list}
use Rattle.drains.proofs.lengths.LengthLaws.{all_lower, receivers_near}
use Rattle.drains.proofs.journeys.ListLaws.{parts_length, longest_written}
use Rattle.drains.proofs.journeys.write_longest.Goals as goal

pub invariant_of-way : goal.invariant_of-way
invariant_of-way c = record { lower = all_lower (view c.args.b.now) c.requires.sound.sheet }

pub write_all-at-requires-clause-room : goal.write_all-at-requires-clause-room
write_all-at-requires-clause-room c = omega (arith, parts_length (view c.args.b.now) c.free_slot.result c.requires.sound.sheet, c.requires.room)

pub write_all-requires-clause-within : goal.write_all-requires-clause-within
write_all-requires-clause-within c = receivers_near (view c.args.b.now) c.requires.sound.sheet

pub write_all-requires-clause-room : goal.write_all-requires-clause-room
write_all-requires-clause-room c =
    omega (arith, parts_length (view c.args.b.now) c.free_slot.result c.requires.sound.sheet, c.requires.room, c.write_all-at.ensures.ends, c.write_all-at.auto.list)

pub returns : goal.returns
returns c =
    let b = view c.args.b.now in
    longest_written b c.free_slot.result c.requires.sound.sheet c.write_all-at.ensures c.write_all.ensures c.requires.room
    ∙ ap (λ (s : ℕ). longest_list b s ++ drop (longest_length b) c.args.list.now) c.free_slot.ensures
