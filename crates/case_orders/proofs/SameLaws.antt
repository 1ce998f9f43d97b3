-- What `==` asks of two boards, part by part: each test decides whether the parts are the same.
use Rattle.std.proofs.Common.{◌≡◌, Bool, ◌&&◌, List, Option, nat_eq, rules}
use Rattle.std.specs.Bool.{Decides}
use Rattle.std.specs.Cmp.{booleans_Decides}
use Rattle.std.specs.Option.{option_eq}
use Rattle.std.proofs.lemmas.Bool.Decides.{Decides-eqb}
use mathlib.Core.Bool.{beq}
use Prim.Native.Nat.{ℕ}
use lib.Pointwise.{pointwise, pointwise_decides}
use denote.Enum.Bare.{sameb, same_true, true_same}
use Rattle.rules.specs.contracts.State.{the_type as state_type}
use Rattle.rules.specs.contracts.Kind.{the_type as kind_type}
use Rattle.rules.specs.contracts.Round.{the_type as round_type}
use Rattle.rules.specs.declared.State.{State}
use Rattle.rules.specs.declared.Kind.{Kind}
use Rattle.rules.specs.declared.Round.{Round}
use Rattle.rules.specs.declared.UnitRecord.{UnitRecord}
use Rattle.rules.specs.declared.Slot.{Slot}
use Rattle.rules.specs.declared.Rounds.{Rounds}
use Rattle.rules.specs.declared.Board.{Board}

numbers_same : (xs ys : List ℕ) → Decides (pointwise nat_eq xs ys) (xs ≡ ys)
numbers_same = pointwise_decides Decides-eqb

state_same : (x y : State) → Decides (sameb state_type x y) (x ≡ y)
state_same x y = (same_true state_type tt x y, true_same state_type x y)

kind_same : (x y : Kind) → Decides (sameb kind_type x y) (x ≡ y)
kind_same x y = (same_true kind_type tt x y, true_same kind_type x y)

round_same : (x y : Option Round) → Decides (option_eq (sameb round_type) x y) (x ≡ y)
round_same x y = search rules

abbrev unit_eq : UnitRecord → UnitRecord → Bool
unit_eq x y = nat_eq x.weight y.weight && (nat_eq x.countdown y.countdown && (sameb state_type x.state y.state && beq x.suspended y.suspended))

unit_same : (x y : UnitRecord) → Decides (unit_eq x y) (x ≡ y)
unit_same x y = search rules

abbrev slot_eq : Slot → Slot → Bool
slot_eq x y = nat_eq x.weight y.weight && (nat_eq x.from y.from && (nat_eq x.to y.to && sameb kind_type x.kind y.kind))

slot_same : (x y : Slot) → Decides (slot_eq x y) (x ≡ y)
slot_same x y = search rules

units_same : (xs ys : List UnitRecord) → Decides (pointwise unit_eq xs ys) (xs ≡ ys)
units_same = pointwise_decides unit_same

slots_same : (xs ys : List Slot) → Decides (pointwise slot_eq xs ys) (xs ≡ ys)
slots_same = pointwise_decides slot_same

marks_same : (xs ys : List Bool) → Decides (pointwise beq xs ys) (xs ≡ ys)
marks_same = pointwise_decides booleans_Decides

abbrev rounds_eq : Rounds → Rounds → Bool
rounds_eq x y = option_eq (sameb round_type) x.round y.round && (pointwise beq x.visited y.visited && (nat_eq x.processed y.processed && nat_eq x.created y.created))

rounds_same : (x y : Rounds) → Decides (rounds_eq x y) (x ≡ y)
rounds_same x y = search (rules, round_same, marks_same)

-- field after field, in the order of the record
abbrev pub boards_eq : Board → Board → Bool
boards_eq x y =
    nat_eq x.n y.n
    && (pointwise nat_eq x.parents y.parents
    && (pointwise unit_eq x.units y.units
    && (nat_eq x.m y.m
    && (pointwise slot_eq x.slots y.slots
    && (nat_eq x.delay y.delay && (nat_eq x.debt y.debt && (pointwise nat_eq x.created y.created && (pointwise nat_eq x.processed y.processed && rounds_eq x.rounds y.rounds))))))))

pub boards_same : (x y : Board) → Decides (boards_eq x y) (x ≡ y)
boards_same x y = search (rules, numbers_same, units_same, slots_same, rounds_same)
