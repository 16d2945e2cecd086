-- An accepted record, read and written again: its fields by rising tag, and zeros for each that it lacks. Where its tags rise its own
-- bytes come first. Assumes nothing.
use Rattle.std.specs.Prelude.{◌≡◌, refl, Bool, true, false, cond, ℕ, suc, ◌+◌, ◌*◌, ◌≤◌, length, take, drop, replicate}
use Rattle.std.proofs.Common.{sym, ap₂, subst, ◌∙◌, le_of_suc-le-suc, arith, length-append, take-take, take_at, drop_at}
use Rattle.std.proofs.Math.Path.{ap}
use mathlib.Core.List.{List, [], ◌∷◌, ◌++◌, append-nil}
use Rattle.std.proofs.Math.Dec.{T}
use Rattle.model.specs.State.{State, Fields, state_from, cells, WithinLimits}
use Rattle.model.specs.Record.{TagRow, tag_table, Part, joined, parts_of, encode, record_length, has, value_of, whole, walked, state_in, accepted, decode, rising_by, rising, restored_by, restored, leading, kept_by, kept}
use Rattle.model.specs.Promises.{WritePromise, rooms_in, ReadPromise}
use Rattle.model.specs.Claims.{Among, WholeIn, EachRoom, BytesOf, Readable, ReadClaim, RewriteClaim, zero_field, RestoredClaim}
use Rattle.model.specs.declared.Parameters.{Parameters}
use Rattle.model.specs.declared.Timestamp.{Timestamp}
use Rattle.std.specs.Prelude.{Ok}
use Rattle.model.specs.Answers.{header}
use Rattle.theorems.specs.Truth.{T_true}
use Rattle.theorems.specs.NumbersAsBytes.{AllBytes}
use Rattle.theorems.specs.Walks.{Whole, whole-record}
use Rattle.theorems.specs.TagLaws.{last_required, there, among-iff, absent}
use Rattle.theorems.specs.Damage.{whole-iff}
use Rattle.theorems.specs.RoundTrip.{length-encode, written, put-there}
use Rattle.theorems.specs.ReadCauses.{accepts, read-accepts}
use Rattle.theorems.specs.Written.{part, all-bytes, fields_back}
use Rattle.theorems.specs.Rising.{Front, Left, From, To, front, in-front, next, known-tags, to-rest, nothing-past, lacking, There, all_there, next_past, lacking-past, back-in-front, joined-append, zero-bytes, front_bytes}

-- ---- what is read

-- a state within the limits, that has room
pub decoded-within : (rec rooms : List ℕ) (s : State) (t : Timestamp) → decode rec rooms ≡ accepted s t → WithinLimits s × EachRoom (cells s) rooms
decoded-within rec rooms s t h = let r = (accepts rec rooms s t).0 h in (r.inside, r.room)

-- which stands in the five fields
module _ (rec : List ℕ) (d d' : Fields) (p : Parameters) (t : Timestamp) (rp : ReadPromise rec d (Ok (header p t)) d') where
  abbrev read : State
  read = ((read-accepts rec d d' p t).0 rp).0

  found : Readable rec (rooms_in d) read t
  found = ((read-accepts rec d d' p t).0 rp).1

  left_is : state_from p d' ≡ read
  left_is = let f = (read-accepts rec d d' p t).0 rp in ap₂ state_from f.2 f.3 ∙ put-there read found.inside d

pub read-within : ReadClaim
read-within rec d d' p t rp = subst WithinLimits (sym (left_is rec d d' p t rp)) (found rec d d' p t rp).inside

-- ---- what comes back

encoded : (rec rooms : List ℕ) → AllBytes rec → (s : State) (t : Timestamp) → Readable rec rooms s t → encode s t ≡ restored rec
unfolding encode restored
encoded rec rooms plain s t f =
    let e = (whole-iff rec f.parts).1 f.whole in
    let b = subst (λ (s : State). BytesOf (cells s) f.parts) (sym f.state) f.bytes in
    ap₂ (λ s t. joined (parts_of s t)) (sym f.state) (sym f.timestamp)
    ∙ ap joined (fields_back f.parts f.whole.1 (whole-record rec plain f.parts e).each b)
    ∙ ap restored_by (sym e)

-- ---- of a record whose tags rise

module _ (rec : List ℕ) (plain : AllBytes rec) (parts : List Part) (w : WholeIn rec parts) where
  abbrev fields : List Part
  fields = leading parts tag_table

  abbrev added : List Part
  added = lacking (cells (state_in parts)) parts tag_table

  walks : walked rec ≡ whole parts
  walks = (whole-iff rec parts).1 w

  all_of : Whole rec parts
  all_of = whole-record rec plain parts walks

  restored-is : restored rec ≡ joined (fields ++ added)
  unfolding restored
  restored-is = ap restored_by walks ∙ ap joined (back-in-front (cells (state_in parts)) parts tag_table)

  kept-is : kept rec ≡ length (joined fields)
  unfolding kept
  kept-is = ap kept_by walks

  restored-front : take (kept rec) (restored rec) ≡ joined fields
  restored-front = ap₂ take kept-is restored-is ∙ front_bytes fields added

  kept-most : kept rec ≤ length (restored rec)
  kept-most = omega (arith, kept-is, ap length (restored-is ∙ joined-append fields added) ∙ length-append (joined fields) (joined added))

  module _ (r : T (rising rec)) where
    shape : Front parts parts fields (next parts 1 tag_table)
    unfolding rising
    shape = front parts (subst (λ w. T (rising_by w)) walks r) (known-tags [] parts all_of.fine).0

    record_is : rec ≡ joined (fields ++ shape.rest)
    record_is = sym all_of.joins ∙ ap joined shape.splits

    kept_same : take (kept rec) (restored rec) ≡ take (kept rec) rec
    kept_same = restored-front ∙ sym (ap₂ take kept-is record_is ∙ front_bytes fields shape.rest)

    -- ---- tags 8 and 9 alone may be lacking

    required-there : There parts (take last_required tag_table)
    required-there = all_there parts 1 (take last_required tag_table) tt (λ t a b. there parts w.1 t a (le_of_suc-le-suc b))

    abbrev last : List TagRow
    last = drop last_required tag_table

    either_way : (b : Bool) → ◌≡◌ {A = ℕ} (cond b 10 10) 10
    either_way true = refl
    either_way false = refl

    -- past the fields in front come tags from 10 on, or from 9 on where tag 8 is lacking
    next-by : (a : Bool) → has 8 parts ≡ a → next parts 1 tag_table ≡ cond a 10 9
    next-by a e = next_past parts 1 (take last_required tag_table) last required-there ∙ ap₂ (λ x y. cond x y 9) e (either_way (has 9 parts))

    known-rest : To (length tag_table) shape.rest
    known-rest = to-rest (length tag_table) fields shape.rest (subst (λ l. To (length tag_table) l) shape.splits (known-tags [] parts all_of.fine).1)

    -- so tag 9 alone can stand there, and only where tag 8 is lacking
    abbrev behind : (a b : Bool) → List Part
    behind a b = cond a [] (cond b (part 9 (value_of 9 parts) ∷ []) [])

    rest-by : (a b : Bool) → has 8 parts ≡ a → has 9 parts ≡ b → shape.rest ≡ behind a b
    rest-by true b e f = nothing-past shape.rest known-rest (subst (λ n. From n shape.rest) (next-by true e) shape.left.from)
    rest-by false b e f =
        let x = in-front 9 parts shape.rest (drop 1 last) tt (subst (λ n. Left n parts shape.rest) (next-by false e) shape.left) in
        let z : ◌≡◌ {A = ℕ} (next parts 9 (drop 1 last)) 10 = either_way (has 9 parts) in
        let none = nothing-past x.rest (to-rest (length tag_table) (leading parts (drop 1 last)) x.rest (subst (λ l. To (length tag_table) l) x.splits known-rest)) (subst (λ n. From n x.rest) z x.left.from) in
        x.splits ∙ ap (λ l. leading parts (drop 1 last) ++ l) none ∙ append-nil (leading parts (drop 1 last)) ∙ ap (λ b. cond b (part 9 (value_of 9 parts) ∷ []) []) f

    own-bytes : (a b : Bool) → has 8 parts ≡ a → has 9 parts ≡ b → rec ≡ joined fields ++ joined (behind a b)
    own-bytes a b e f = record_is ∙ joined-append fields shape.rest ∙ ap (λ l. joined fields ++ joined l) (rest-by a b e f)

    -- what comes back behind the fields in front
    abbrev zeros : List ℕ
    zeros = replicate (1 * cells (state_in parts)) 0

    abbrev back : (a b : Bool) → List Part
    back a b = cond a (cond b [] (part 9 (cond b (value_of 9 parts) zeros) ∷ [])) (part 8 (cond a (value_of 8 parts) (0 ∷ 0 ∷ [])) ∷ part 9 (cond b (value_of 9 parts) zeros) ∷ [])

    back-bytes : (a b : Bool) → has 8 parts ≡ a → has 9 parts ≡ b → restored rec ≡ joined fields ++ joined (back a b)
    back-bytes a b e f =
        restored-is
        ∙ joined-append fields added
        ∙ ap (λ l. joined fields ++ joined l) (lacking-past (cells (state_in parts)) parts (take last_required tag_table) last required-there ∙ ap₂ back e f)

    -- ---- so by the two of them

    zero-9 : joined (part 9 zeros ∷ []) ≡ zero_field 9 (cells (state_in parts))
    zero-9 = zero-bytes 9 (1 * cells (state_in parts)) ∙ ap (zero_field 9) (once (cells (state_in parts)))
      where
        once : (m : ℕ) → 1 * m ≡ m
        once m = omega arith

    module _ (none-behind : rec ≡ joined fields ++ []) where
      all_own : rec ≡ joined fields
      all_own = none-behind ∙ append-nil (joined fields)

      all-kept : kept rec ≡ length rec
      all-kept = kept-is ∙ ap length (sym all_own)

    both-there : has 8 parts ≡ true → has 9 parts ≡ true → (restored rec ≡ rec) × (kept rec ≡ length rec)
    both-there e f = let o = own-bytes true true e f in (back-bytes true true e f ∙ sym o, all-kept o)

    nine-lacks : has 8 parts ≡ true → has 9 parts ≡ false → (restored rec ≡ rec ++ zero_field 9 (cells (state_in parts))) × (kept rec ≡ length rec)
    nine-lacks e f = let o = own-bytes true false e f in (back-bytes true false e f ∙ ap₂ ◌++◌ (sym (all_own o)) zero-9, all-kept o)

    both-lack : has 8 parts ≡ false → has 9 parts ≡ false → (restored rec ≡ rec ++ (zero_field 8 2 ++ zero_field 9 (cells (state_in parts)))) × (kept rec ≡ length rec)
    both-lack e f = let o = own-bytes false false e f in (back-bytes false false e f ∙ ap₂ (λ x y. x ++ (zero_field 8 2 ++ y)) (sym (all_own o)) zero-9, all-kept o)

    eight-lacks : has 8 parts ≡ false → has 9 parts ≡ true
        → (restored rec ≡ take (kept rec) rec ++ (zero_field 8 2 ++ drop (kept rec) rec)) × (kept rec + (3 + length (value_of 9 parts)) ≡ length rec)
    eight-lacks e f =
        let o = own-bytes false true e f in
        let nine = joined (part 9 (value_of 9 parts) ∷ []) in
        let front = take_at (joined fields) nine (length (joined fields)) refl in
        let after = drop_at (joined fields) nine (length (joined fields)) refl in (
          back-bytes false true e f ∙ sym (ap₂ (λ k l. take k l ++ (zero_field 8 2 ++ drop k l)) kept-is o ∙ ap₂ (λ x y. x ++ (zero_field 8 2 ++ y)) front after),
          omega (arith, kept-is, ap length o ∙ length-append (joined fields) nine, long-nine (value_of 9 parts)),
        )
      where
        three-more : (n : ℕ) → suc (suc (suc n)) ≡ 3 + n
        three-more n = omega arith

        long-nine : (v : List ℕ) → length (joined (part 9 v ∷ [])) ≡ 3 + length v
        long-nine v = ap (λ l. suc (suc (suc (length l)))) (append-nil v) ∙ three-more (length v)

pub restored-record : RestoredClaim
restored-record rec parts plain w r =
    let b = all-bytes rec plain in
    let is : (t : ℕ) → Among t parts → has t parts ≡ true = λ t a. T_true (has t parts) ((among-iff t parts).1 a) in
    let no : (t : ℕ) → (Among t parts → ⊥) → has t parts ≡ false = λ t n. (absent t parts).1 n in
    record {
      whole = λ x y. both-there rec b parts w r (is 8 x) (is 9 y);
      without-9 = λ x y. nine-lacks rec b parts w r (is 8 x) (no 9 y);
      without-both = λ x y. both-lack rec b parts w r (no 8 x) (no 9 y);
      without-8 = λ x y. eight-lacks rec b parts w r (no 8 x) (is 9 y);
    }

pub rewritten : RewriteClaim
rewritten rec d d' x x' p t written' plain rp wp room =
    let s = read rec x x' p t rp in
    let f = found rec x x' p t rp in
    let l = f.inside in
    let bytes = all-bytes rec plain in
    let e = encoded rec (rooms_in x) bytes s t f in
    let n : length (restored rec) ≡ record_length s = ap length (sym e) ∙ length-encode s l t in
    let w = written s l t f.time d d' written' (subst (λ m. m ≤ length d) n room) (subst (λ x. WritePromise x t d written' d') (left_is rec x x' p t rp) wp) in
    let back : take (length (restored rec)) d' ≡ restored rec = ap (λ m. take m d') n ∙ w.1 ∙ e in (
      w.0 ∙ ap Ok (sym n),
      back,
      λ r.
          sym (take-take (kept rec) (length (restored rec)) d' (kept-most rec bytes f.parts f.whole))
          ∙ ap (take (kept rec)) back
          ∙ kept_same rec bytes f.parts f.whole r,
    )
