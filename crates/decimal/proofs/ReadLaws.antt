-- A field's bytes as a number, byte by byte: what the bytes from a place on give behind the digits before it.
use mathlib.Core.Path.{◌≡◌, refl}
use mathlib.Core.Bool.{cond, ◌&&◌, and-false, and-eq-true_iff}
use mathlib.Core.List.{List, [], ◌∷◌}
use Prim.Native.Nat.{ℕ, ◌+◌, ◌-◌, ◌*◌, ◌≤◌, ◌<◌}
use native.Mathlib.Nat.{le_refl}
use native.Mathlib.Numerals.{add-one}
use native.Mathlib.Omega.{arith}
use borrow.Author.Tests.{le-leb, lt-leb, leb-true, leb-false}
use lib.Dec.{leb}
use lib.ListN.{length, drop, get_or, drop_of_length-le}
use lib.Seq.{drop-cons}
use Rattle.std.specs.Prelude.{Result, Ok, Err}
use Rattle.refusals.specs.declared.Refusal.{Refusal}
use Rattle.refusals.specs.declared.Refusal.TheVariants.{NoNumber}
use Rattle.fields.proofs.Cases.{by_bool}
use Rattle.decimal.specs.Reading.{is_digit, all_digits, with_digit, value_from, number_of}

-- what the bytes cs give behind digits of value v
unfoldable pub read_from : ℕ → List ℕ → Result ℕ Refusal
read_from v cs = cond (all_digits cs && leb (value_from v cs) 65535) (Ok (value_from v cs)) (Err NoNumber)

pub read_empty : (cs : List ℕ) → length cs ≡ 0 → number_of cs ≡ Err NoNumber
unfolding number_of
read_empty cs e = rw (lt-leb 1 (length cs) (omega arith))

pub read_start : (cs : List ℕ) → 1 ≤ length cs → number_of cs ≡ read_from 0 cs
unfolding number_of read_from
read_start cs h = rw (le-leb 1 (length cs))

pub read_end : (v : ℕ) (cs : List ℕ) (i : ℕ) → length cs ≤ i → v ≤ 65535 → read_from v (drop i cs) ≡ Ok v
unfolding read_from all_digits value_from
read_end v cs i h l = rw (drop_of_length-le cs h, le-leb v 65535)

-- ---- digits only add to a value
value_grows : (v : ℕ) (cs : List ℕ) → v ≤ value_from v cs
unfolding value_from
value_grows v [] = le_refl v
value_grows v (c ∷ cs) = omega (arith, value_grows (v * 10 + (c - 48)) cs)

pub read_large : (v : ℕ) (cs : List ℕ) → 65535 < v → read_from v cs ≡ Err NoNumber
unfolding read_from
read_large v cs h = rw (lt-leb (value_from v cs) 65535 (omega (arith, value_grows v cs)), and-false)

-- ---- one more byte
abbrev more : Result ℕ Refusal → List ℕ → Result ℕ Refusal
more (Ok v) cs = read_from v cs
more (Err k) cs = Err k

read_more : (v c : ℕ) (cs : List ℕ) → read_from v (c ∷ cs) ≡ more (with_digit v c) cs
unfolding read_from all_digits value_from
read_more v c cs =
    let w : ℕ = v * 10 + (c - 48) in
    by_bool (λ t. cond ((t && all_digits cs) && leb (value_from w cs) 65535) (Ok (value_from w cs)) (Err NoNumber) ≡ more (cond (t && leb w 65535) (Ok w) (Err NoNumber)) cs) (is_digit c)
    (λ q. by_bool (λ t. read_from w cs ≡ more (cond t (Ok w) (Err NoNumber)) cs) (leb w 65535) (λ l. refl) (λ l. read_large w cs (leb-false w 65535 l)))
    (λ q. refl)

pub with_small : (v c : ℕ) {w : ℕ} → Ok w ≡ with_digit v c → w ≤ 65535
with_small v c {w} =
    by_bool (λ t. Ok w ≡ cond t (Ok (v * 10 + (c - 48))) (Err NoNumber) → w ≤ 65535) (is_digit c && leb (v * 10 + (c - 48)) 65535)
    (λ q e. let is : v * 10 + (c - 48) ≡ w = cc in omega (arith, leb-true (v * 10 + (c - 48)) 65535 ((and-eq-true_iff (is_digit c) (leb (v * 10 + (c - 48)) 65535)).0 q).1))
    (λ q e. absurd cc)

-- ---- the byte at place i
module _ (v : ℕ) (field : List ℕ) (i : ℕ) (inside : i < length field) where
  pub read_next : {r : Result ℕ Refusal} → r ≡ with_digit v (get_or field i 0) → read_from v (drop i field) ≡ more r (drop (i + 1) field)
  read_next e = rw (drop-cons field i 0, add-one, e) (read_more v (get_or field i 0) _)
