-- The words of a script, as bytes.
use Rattle.std.specs.Prelude.{cond, List, [], ◌∷◌, ℕ, suc}
use Rattle.rules.specs.Facts.{same_list}

abbrev pub board_word : List ℕ
board_word = 98 ∷ 111 ∷ 97 ∷ 114 ∷ 100 ∷ []

abbrev pub start_word : List ℕ
start_word = 115 ∷ 116 ∷ 97 ∷ 114 ∷ 116 ∷ []

abbrev pub send_word : List ℕ
send_word = 115 ∷ 101 ∷ 110 ∷ 100 ∷ []

abbrev pub request_word : List ℕ
request_word = 114 ∷ 101 ∷ 113 ∷ 117 ∷ 101 ∷ 115 ∷ 116 ∷ []

abbrev pub deliver_word : List ℕ
deliver_word = 100 ∷ 101 ∷ 108 ∷ 105 ∷ 118 ∷ 101 ∷ 114 ∷ []

abbrev pub rest_word : List ℕ
rest_word = 114 ∷ 101 ∷ 115 ∷ 116 ∷ []

abbrev pub tick_word : List ℕ
tick_word = 116 ∷ 105 ∷ 99 ∷ 107 ∷ []

abbrev pub release_word : List ℕ
release_word = 114 ∷ 101 ∷ 108 ∷ 101 ∷ 97 ∷ 115 ∷ 101 ∷ []

abbrev pub move_word : List ℕ
move_word = 109 ∷ 111 ∷ 118 ∷ 101 ∷ []

-- board at 0, and each step's word at the step's kind; move is M-108's
abbrev pub words : List (List ℕ)
words = board_word ∷ start_word ∷ send_word ∷ request_word ∷ deliver_word ∷ rest_word ∷ tick_word ∷ release_word ∷ move_word ∷ []

-- the place of the first of the words vs that w is, their number where it is none
unfoldable pub place_of : List ℕ → List (List ℕ) → ℕ
place_of w [] = 0
place_of w (v ∷ vs) = cond (same_list w v) 0 (suc (place_of w vs))

-- 0 for board, 1 on for a step's kind, one more than the kinds for any other word
abbrev pub word_number : List ℕ → ℕ
word_number w = place_of w words
