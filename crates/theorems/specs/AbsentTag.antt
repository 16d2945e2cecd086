-- A record without tag 8 is read as with tag 8 of zeros after it, and one without tag 9 as with tag 9 of zeros. Assumes nothing.
use Rattle.std.specs.Prelude.{◌≡◌, refl, true, false, not, ◌||◌, eqb, length, get_or, replicate}
use Rattle.std.proofs.Common.{sym, ap, ap₂, subst, ◌∙◌, mul-le-mul, lt_of_le_of_lt, le_of_suc-le-suc, arith, lit<, lit≤, eq-eqb, ne_eqb}
use Rattle.std.proofs.Math.Bool.{or-false}
use mathlib.Core.List.{List, [], ◌∷◌, ◌++◌}
use Prim.Native.Nat.{ℕ, ◌*◌, ◌<◌}
use Rattle.std.proofs.lemmas.List.{length-replicate}
use Rattle.model.specs.State.{State, cells}
use Rattle.model.specs.Record.{unsigned, Part, has, value_of, known_tag, right_size, state_in, decode}
use Rattle.model.specs.Claims.{Among, WholeIn, Bytes, zero_field, Means0, AbsentClaim}
use Rattle.grid.specs.CellFields.{same_at}
use Rattle.theorems.specs.Walks.{Whole, whole-record}
use Rattle.theorems.specs.TagLaws.{there, absent}
use Rattle.theorems.specs.Damage.{whole-iff}
use Rattle.theorems.specs.Written.{part, value_read, all-bytes, byte_at, absent-value}
use Rattle.theorems.specs.Rising.{joined-append, zero-bytes}
use Rattle.theorems.specs.OneFieldMore.{has_one, value-new, value-else, fine_more}
use Rattle.theorems.specs.ReadAlike.{Alike, read_alike, promise-alike}

module _ (rec : List ℕ) (parts : List Part) (plain : Bytes rec) (w : WholeIn rec parts) where
  all_of : Whole rec parts
  all_of = whole-record rec (all-bytes rec plain) parts ((whole-iff rec parts).1 w)

  -- a tag that a record may lack, with a value of m zeros
  module _ (t m : ℕ) (n : Among t parts → ⊥) where
    abbrev new : Part
    new = part t (replicate m 0)

    abbrev other : List Part
    other = parts ++ (new ∷ [])

    none : has t parts ≡ false
    none = (absent t parts).1 n

    own_value : value_of t other ≡ replicate m 0
    own_value = value-new t parts new none refl

    other-value : (k : ℕ) → (t ≡ k → ⊥) → value_of k other ≡ value_of k parts
    other-value k o = value-else k parts new o

    other-there : (k : ℕ) → (t ≡ k → ⊥) → has k other ≡ has k parts
    other-there k o = has_one k parts new ∙ ap (λ x. has k parts || x) (ne_eqb t k o) ∙ or-false (has k parts)

    own-there : has t other ≡ true
    own-there = has_one t parts new ∙ ap₂ ◌||◌ none (eq-eqb t t refl)

    with-zeros : known_tag t ≡ true → m < 65536 → right_size t m ≡ true → Alike parts other → (rooms : List ℕ) → decode (rec ++ zero_field t m) rooms ≡ decode rec rooms
    with-zeros k l z alike rooms =
        ap (λ l. decode l rooms) (ap₂ ◌++◌ (sym all_of.joins) (sym (zero-bytes t m)) ∙ sym (joined-append parts (new ∷ [])))
        ∙ read_alike rec parts other w
        (fine_more [] parts new all_of.fine (record {
          known = k;
          new = none;
          short = subst (λ n. n < 65536) (sym (length-replicate m 0)) l;
          sized = ap (right_size t) (length-replicate m 0) ∙ z;
        })) alike rooms

  -- two zeros and no bytes mean 0 milliseconds
  without-8 : (n : Among 8 parts → ⊥) → Alike parts (other 8 2 n)
  without-8 n = record {
    there = λ t l. other-there 8 2 n t (λ e. omega arith);
    values = λ t l. other-value 8 2 n t (λ e. omega arith);
    time = ap unsigned (own_value 8 2 n) ∙ ap unsigned (sym (absent-value 8 parts (none 8 2 n)));
    bars = λ k. ap (λ l. get_or l k 0) (other-value 8 2 n 9 (λ e. omega arith));
    right = ap₂ (λ x l. not x || eqb (length l) (1 * cells (state_in parts))) (other-there 8 2 n 9 (λ e. omega arith)) (other-value 8 2 n 9 (λ e. omega arith));
  }

  -- zeros for each cell, and no bytes, mean no barrier
  without-9 : (n : Among 9 parts → ⊥) → Alike parts (other 9 (cells (state_in parts)) n)
  without-9 n =
      let m = cells (state_in parts) in
      let e = absent-value 9 parts (none 9 m n) in
      record {
        there = λ t l. other-there 9 m n t (λ e. omega arith);
        values = λ t l. other-value 9 m n t (λ e. omega arith);
        time = ap unsigned (other-value 9 m n 8 (λ e. omega arith));
        bars = λ k. ap (λ l. get_or l k 0) (own_value 9 m n) ∙ same_at m 0 k ∙ ap (λ l. get_or l k 0) (sym e);
        right =
            ap₂ (λ x l. not x || eqb (length l) (1 * m)) (own-there 9 m n) (own_value 9 m n)
            ∙ eq-eqb (length (replicate m 0)) (1 * m) (length-replicate m 0 ∙ once m)
            ∙ sym (ap (λ x. not x || eqb (length (value_of 9 parts)) (1 * m)) (none 9 m n));
      }
    where
      once : (m : ℕ) → m ≡ 1 * m
      once m = omega arith

  -- a length of two bytes says how many cells there are
  few : cells (state_in parts) < 65536
  unfolding state_in
  few = below (side 0) (side 1)
    where
      grid : List ℕ
      grid = value_of 1 parts

      side : (k : ℕ) → get_or grid k 0 < 256
      side k = byte_at grid (value_read 1 parts all_of.each (there parts w.1 1 (lit≤ tt) (lit≤ tt))).plain k

      below : {a b : ℕ} → a < 256 → b < 256 → a * b < 65536
      below p q = lt_of_le_of_lt (mul-le-mul (le_of_suc-le-suc p) (le_of_suc-le-suc q)) (lit< tt)

-- what is proved of a record and its decoding is what the claim says
means : {t : ℕ} {size : State → ℕ} → ((rec : List ℕ) (parts : List Part) → Bytes rec → WholeIn rec parts → (Among t parts → ⊥) → (rooms : List ℕ)
    → decode (rec ++ zero_field t (size (state_in parts))) rooms ≡ decode rec rooms) → Means0 t size
means h = record {
  decoded = λ rec rooms parts plain w n. h rec parts plain w n rooms;
  read = λ rec parts d d' answer plain w n p. promise-alike rec _ (h rec parts plain w n) d d' answer p;
}

pub absent-tag : AbsentClaim
absent-tag = record {
  milliseconds = means (λ rec parts plain w n. with-zeros rec parts plain w 8 2 n refl (lit< tt) refl (without-8 rec parts plain w n));
  barriers = means (λ rec parts plain w n. with-zeros rec parts plain w 9 (cells (state_in parts)) n refl (few rec parts plain w) refl (without-9 rec parts plain w n));
}
