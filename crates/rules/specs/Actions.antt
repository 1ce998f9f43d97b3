-- The kinds of a step by name.
use Rattle.std.specs.Prelude.{Bool, not, [], ◌∷◌, ℕ, get_or, eqb}
use Rattle.rules.specs.Records.{Action, Unknown, Start, Send, RequestStep, Deliver, Rest, Tick, Release, Move}

-- how many kinds of step there are: a step record's kind is 1 to 8, in the order of the eight steps (M-108)
abbrev pub kinds : ℕ
kinds = 8

abbrev pub action_of : ℕ → Action
action_of k = get_or (Unknown ∷ Start ∷ Send ∷ RequestStep ∷ Deliver ∷ Rest ∷ Tick ∷ Release ∷ Move ∷ []) k Unknown

-- the kind of an action; none has kind 0
abbrev pub kind_of : Action → ℕ
kind_of Unknown = 0
kind_of Start = 1
kind_of Send = 2
kind_of RequestStep = 3
kind_of Deliver = 4
kind_of Rest = 5
kind_of Tick = 6
kind_of Release = 7
kind_of Move = 8

-- is this action that one?
abbrev pub is_action : Action → Action → Bool
is_action that a = eqb (kind_of a) (kind_of that)

-- a kind of 1 to 8
abbrev pub is_known : Action → Bool
is_known a = not (is_action Unknown a)
