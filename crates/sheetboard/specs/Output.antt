-- What the program hands to its output: the listing, part by part.
use Rattle.std.specs.Prelude.{◌≡◌, ◌+◌, Bool, true, false, List, ℕ, ◌≤◌, length, take, replicate, Result, Ok, Err, IfSome}
use Rattle.std.specs.declared.option.Option.{Option}
use Rattle.std.specs.declared.io.Error.{Error}
use Rattle.listing.specs.Scripts.{listing}
use Rattle.listing.specs.Parts.{beginning, call_text, joined}
use Rattle.listing.specs.declared.Cursor.{Cursor}
use Rattle.reading.specs.declared.failures.Failure.{Failure}
use Rattle.reading.specs.declared.failures.Failure.TheVariants.{Reading, Writing}

-- one part from a cursor, with a buffer of so many bytes: it is what the buffer is left with at its start, and its bytes are counted
pub record Hands (c : Cursor) (s : List ℕ) (room before after : ℕ) (left : List ℕ) : Type 0 where
  pub count_is : after ≡ before + length (call_text c s room)
  pub bytes_are : take (length (call_text c s room)) left ≡ call_text c s room

-- The point of the loop: each turn hands over the next bytes of the listing. So the parts of so many turns, each with a buffer of 32,768 bytes,
-- joined, are the first `count` bytes of it.
pub record Follows (s : List ℕ) (count : ℕ) : Type 0 where
  pub turns : ℕ
  pub joins : joined beginning s (replicate turns 32768) ≡ take count (listing s)
  pub no_more : count ≤ length (listing s)

-- what is handed over of a script: as much of its listing as was counted, and all of it where the output took all
pub record HandsOver (s : List ℕ) (taken : Bool) (count : ℕ) : Type 0 where
  pub follows : Follows s count
  pub all : taken ≡ true → count ≡ length (listing s)

-- of a reading: the same of the bytes of the buffer that it counted; of one that failed, nothing
abbrev pub ListsCounted : Result ℕ Error → List ℕ → Bool → ℕ → Type 0
ListsCounted (Ok n) buf taken count = HandsOver (take n buf) taken count
ListsCounted (Err e) buf taken count = count ≡ 0

-- of an input: the same of some bytes, whose listing is that of the whole input where this is known
pub record ListsRead (input : Option (List ℕ)) (taken : Bool) (count : ℕ) : Type 0 where
  pub read : List ℕ
  pub whole : IfSome input (λ s. listing read ≡ listing s)
  pub handed : HandsOver read taken count

-- what is handed over of an input: where a read failed, nothing
abbrev pub Lists : Option (List ℕ) → Result Unit Failure → ℕ → Type 0
Lists input (Ok x) count = ListsRead input true count
Lists input (Err (Writing e)) count = ListsRead input false count
Lists input (Err (Reading e)) count = count ≡ 0
