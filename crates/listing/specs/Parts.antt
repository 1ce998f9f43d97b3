-- A listing in parts: from a cursor as many whole lines as fit, and the cursor behind them.
use Rattle.std.specs.Prelude.{◌≡◌, Bool, true, false, not, cond, ◌||◌, Result, Ok, Err, List, [], ◌∷◌, ◌++◌, ℕ, zero, suc, ◌-◌, ◌≤◌, min, length, drop, leb}
use Rattle.std.proofs.lemmas.List.Edits.{sets}
use Rattle.refusals.specs.Numbers.{number_of}
use Rattle.refusals.specs.declared.Refusal.{Refusal}
use Rattle.refusals.specs.declared.Refusal.TheVariants.{ScriptTooLong, NotSound, NoRoom}
use Rattle.rules.specs.Facts.{Check, check, holds, judge}
use Rattle.rules.specs.Sound.{sound}
use Rattle.rules.specs.Opening.{blank_board}
use Rattle.rules.specs.declared.Board.{Board}
use Rattle.rules.specs.declared.Outcome.{Outcome}
use Rattle.fields.specs.Fields.{up_to}
use Rattle.numbers.specs.Lines.{behind}
use Rattle.texts.specs.Texts.{heading, board_text, refused_text}
use Rattle.listing.specs.Scripts.{later_outcome, start_outcome, listing}
pub use Rattle.listing.specs.Bounds.{longest_piece, longest_line}
use Rattle.listing.specs.declared.NextLine.{NextLine}
use Rattle.listing.specs.declared.Cursor.{Cursor}
use Rattle.listing.specs.declared.Cursor.TheVariants.{Beginning, Behind}
use Rattle.listing.specs.declared.Part.{Part}

-- ---- pieces: the heading with the first line, then one line each
pub record Piece : Type 0 where
  pub text : List ℕ
  pub next : Cursor

abbrev pub beginning : Cursor
beginning = Beginning

-- behind the whole listing; "a place past the end is the end"
abbrev pub ended : Cursor → List ℕ → Bool
ended Beginning s = false
ended (Behind p) s = leb (length s) p.at

-- after a refused first line nothing follows
abbrev pub refused_piece : List ℕ → Refusal → Piece
refused_piece s k = record { text = heading ++ refused_text k; next = Behind (record { at = length s; line = 1; board = blank_board }) }

abbrev pub piece_by : List ℕ → Board → Result (Unit {0}) Refusal → Piece
piece_by s b (Ok _) = record { text = heading ++ board_text 0 0 b; next = Behind (record { at = behind 0 s; line = 1; board = b }) }
piece_by s b (Err k) = refused_piece s k

abbrev pub opened_piece : List ℕ → Outcome → Piece
opened_piece s o = piece_by s o.board o.answer

unfoldable pub first_piece : List ℕ → Piece
first_piece s = opened_piece s (start_outcome s)

-- a line number has 32 bits: the numbers of a script's lines are far below, a cursor of a caller's own may reach the end of them
abbrev pub next_number : ℕ → ℕ
next_number n = min (suc n) 4294967295

abbrev pub later_by : NextLine → List ℕ → Outcome → Piece
later_by p s o = record {
  text = board_text p.line (number_of o.answer) o.board;
  next = Behind (record { at = behind p.at s; line = next_number p.line; board = o.board });
}

unfoldable pub later_piece : NextLine → List ℕ → Piece
later_piece p s = later_by p s (later_outcome p.board (up_to 10 (drop p.at s)))

unfoldable pub piece : Cursor → List ℕ → Piece
piece Beginning s = first_piece s
piece (Behind p) s = later_piece p s

-- ---- all that is still to come from a cursor: each piece but the first takes at least a byte of the script
unfoldable pub rest_within : ℕ → Cursor → List ℕ → List ℕ
rest_within zero c s = []
rest_within (suc k) c s = cond (ended c s) [] ((piece c s).text ++ rest_within k (piece c s).next s)

abbrev pub rest_from : Cursor → List ℕ → List ℕ
rest_from c s = rest_within (suc (length s)) c s

-- ---- a part: the pieces that fit in so many bytes
abbrev pub stops : Cursor → List ℕ → ℕ → Bool
stops c s room = ended c s || not (leb (length (piece c s).text) room)

abbrev pub before : List ℕ → Piece → Piece
before text p = record { text = text ++ p.text; next = p.next }

unfoldable pub part_within : ℕ → Cursor → List ℕ → ℕ → Piece
part_within zero c s room = record { text = []; next = c }
part_within (suc k) c s room = cond (stops c s room) (record { text = []; next = c }) (before (piece c s).text (part_within k (piece c s).next s (room - length (piece c s).text)))

abbrev pub part : Cursor → List ℕ → ℕ → Piece
part c s room = part_within (suc (length s)) c s room

-- what is asked of a cursor: that the script is not too long, and that the board is sound. Of the beginning, and of one behind the whole
-- listing, neither is asked. (At the beginning, a script that is too long is no refusal of the call: the listing itself tells 26)
abbrev pub may_be_listed : Cursor → List ℕ → Bool
may_be_listed Beginning s = true
may_be_listed (Behind p) s = leb (length s) p.at || leb (length s) 65535

abbrev pub may_be_led_to : Cursor → List ℕ → Bool
may_be_led_to Beginning s = true
may_be_led_to (Behind p) s = leb (length s) p.at || sound p.board

-- 26, then 30, of a cursor that no listing of this script leads to; 27 where not even the next piece fits. A cursor behind the whole listing
-- is never refused: its part is empty
abbrev pub part_checks : Cursor → List ℕ → ℕ → List Check
part_checks c s room =
    check (holds (may_be_listed c s)) ScriptTooLong
    ∷ check (holds (may_be_led_to c s)) NotSound
    ∷ check (holds (ended c s || leb (length (piece c s).text) room)) NoRoom
    ∷ []

-- what a call with a buffer of so many bytes adds to the listing, and the cursor behind it: a refused call adds nothing and keeps the cursor
abbrev pub call_text : Cursor → List ℕ → ℕ → List ℕ
call_text c s room = judge (λ k. []) (part_checks c s room) (part c s room).text

abbrev pub call_next : Cursor → List ℕ → ℕ → Cursor
call_next c s room = judge (λ k. c) (part_checks c s room) (part c s room).next

-- what it gives, and how it leaves its buffer
unfoldable pub part_of : Cursor → List ℕ → List ℕ → Part
part_of c s out = record {
  wrote = judge Err (part_checks c s (length out)) (Ok (length (part c s (length out)).text));
  cursor = call_next c s (length out);
}

unfoldable pub part_buffer : Cursor → List ℕ → List ℕ → List ℕ
part_buffer c s out = sets out 0 (call_text c s (length out))

-- ---- calls one after another, with buffers of so many bytes
unfoldable pub joined : Cursor → List ℕ → List ℕ → List ℕ
joined c s [] = []
joined c s (room ∷ rooms) = call_text c s room ++ joined (call_next c s room) s rooms

unfoldable pub cursor_after : Cursor → List ℕ → List ℕ → Cursor
cursor_after c s [] = c
cursor_after c s (room ∷ rooms) = cursor_after (call_next c s room) s rooms

-- the lines of a listing from a cursor on, the heading counted with the first
unfoldable pub pieces_within : ℕ → Cursor → List ℕ → ℕ
pieces_within zero c s = 0
pieces_within (suc k) c s = cond (ended c s) 0 (suc (pieces_within k (piece c s).next s))

abbrev pub pieces : Cursor → List ℕ → ℕ
pieces c s = pieces_within (suc (length s)) c s

unfoldable pub AllAtLeast : ℕ → List ℕ → Type 0
AllAtLeast n [] = Unit {0}
AllAtLeast n (room ∷ rooms) = (n ≤ room) × AllAtLeast n rooms

-- parts joined are the listing; and where each buffer holds the longest piece, the cursor ends after at most one call for each line
pub record PartsJoin (s : List ℕ) (rooms : List ℕ) : Type 0 where
  pub joins : joined beginning s rooms ++ rest_from (cursor_after beginning s rooms) s ≡ listing s
  pub ends : AllAtLeast longest_piece rooms → pieces beginning s ≤ length rooms → joined beginning s rooms ≡ listing s
