-- A walk under way: the fields found so far, and what is left to walk. Assumes nothing.
use Rattle.std.specs.Prelude.{◌≡◌, refl, Bool, true, false, ◌||◌, List, [], ◌∷◌, ◌++◌, ℕ, suc, ◌+◌, ◌-◌, ◌≤◌, ◌<◌, min, T, eqb, length, take, drop, get_or, set, replicate, Option, None, Some, Ok, Err, is_some}
use Rattle.std.proofs.Common.{sym, ap, subst, ◌∙◌, inl, inr, lt_of_not-le, arith, eqb-true}
use mathlib.Core.Bool.{or-false, or-true}
use lib.ListN.{length-take, length-drop, length-replicate, get_or-replicate, length-set}
use Rattle.std.proofs.lemmas.List.{get_or-set_same, get_or-set_other}
use Rattle.std.proofs.lemmas.Bool.{eqb-false, lt-leb}
use borrow.Author.Tests.{not-true}
use Rattle.model.specs.Record.{Part, has, tag_at, size_at, part_at, right_size, tag_test, missing_test, damaged, whole, walk, walked}
use Rattle.model.specs.Promises.{answer_of}
use Rattle.model.specs.declared.Refusal.{Refusal}
use Rattle.theorems.specs.Truth.{T_true, differ}
use Rattle.theorems.specs.Walks.{Sound, sound-iff, walk_step, walk_end, at_end}
use Rattle.theorems.specs.TagLaws.{there}
use Rattle.theorems.specs.Damage.{whole-iff}
use Rattle.theorems.specs.OneFieldMore.{has_one, value-new, value-else}
use Rattle.theorems.specs.Written.{absent-value}
use Rattle.record_bytes.specs.declared.Tag.{Tag}
use Rattle.record_bytes.specs.Tags.{tags, place_of, number_of, place-most}
use Rattle.record_tags.specs.Places.{Stands, offset_of, Seen, parts_by, parts_in, Placed, IsValue}
use Rattle.record_tags.proofs.TagLaws.{not_seen}

-- ---- the places of the fields found so far

seen_none : (rec : List ℕ) → Seen rec [] (replicate tags None)
seen_none rec =
    let e : (t : Tag) → offset_of t (replicate tags None) ≡ None = λ t. get_or-replicate tags (place_of t) None None (place-most t) in
    record { long = length-replicate {A = Option ℕ} tags None; found = λ t. sym (ap is_some (e t)); stands = λ t k h. differ (cc (e t, h)) }

module _ {rec : List ℕ} {at : List (Option ℕ)} {k : ℕ} {parts : List Part} (s : Seen rec parts at) (f : Sound rec k parts) (tag : Tag) (is : number_of tag ≡ tag_at rec k) where
  abbrev more : List Part
  more = parts ++ (part_at rec k ∷ [])

  abbrev places : List (Option ℕ)
  places = set at (place_of tag) (Some k)

  new : has (tag_at rec k) parts ≡ false
  new = not-true (has (tag_at rec k) parts) (T_true _ f.new)

  in-places : place_of tag < length at
  in-places = subst (λ n. place_of tag < n) (sym s.long) (place-most tag)

  here : (t : Tag) → tag_at rec k ≡ number_of t → offset_of t places ≡ Some k
  here t e =
      let q : place_of t ≡ place_of tag = omega arith in
      ap (λ i. get_or places i None) q ∙ get_or-set_same at (place_of tag) (Some k) None in-places

  elsewhere : (t : Tag) → (tag_at rec k ≡ number_of t → ⊥) → offset_of t places ≡ offset_of t at
  elsewhere t e = get_or-set_other at (place_of tag) (place_of t) (Some k) None (λ q. e (omega arith))

  found-by : (t : Tag) (b : Bool) → eqb (tag_at rec k) (number_of t) ≡ b → has (number_of t) more ≡ is_some (offset_of t places)
  found-by t true e =
      let q = here t (eqb-true (tag_at rec k) (number_of t) e) in
      has_one (number_of t) parts (part_at rec k) ∙ ap (λ b. has (number_of t) parts || b) e ∙ or-true (has (number_of t) parts) ∙ sym (ap is_some q)
  found-by t false e =
      let q = elsewhere t (eqb-false (tag_at rec k) (number_of t) e) in
      has_one (number_of t) parts (part_at rec k) ∙ ap (λ b. has (number_of t) parts || b) e ∙ or-false (has (number_of t) parts) ∙ s.found t ∙ sym (ap is_some q)

  stands_by : (t : Tag) (j : ℕ) (b : Bool) → eqb (tag_at rec k) (number_of t) ≡ b → offset_of t places ≡ Some j → Stands rec more (number_of t) j
  stands_by t j true e l =
      let q = eqb-true (tag_at rec k) (number_of t) e in
      let p : k ≡ j = cc (here t q, l) in
      subst (λ n. Stands rec more n j) q
      (subst (Stands rec more (tag_at rec k)) p (record { inside = f.room; value = value-new (tag_at rec k) parts (part_at rec k) new refl; sized = T_true _ f.right }))
  stands_by t j false e l =
      let q = eqb-false (tag_at rec k) (number_of t) e in
      let o = s.stands t j (sym (elsewhere t q) ∙ l) in
      record { inside = o.inside; value = value-else (number_of t) parts (part_at rec k) q ∙ o.value; sized = o.sized }

  seen_more : Seen rec more places
  seen_more = record {
    long = length-set at (place_of tag) (Some k) ∙ s.long;
    found = λ t. found-by t (eqb (tag_at rec k) (number_of t)) refl;
    stands = λ t j. stands_by t j (eqb (tag_at rec k) (number_of t)) refl;
  }

-- ---- the walk

pub record Walking (rec : List ℕ) (at : List (Option ℕ)) (k : ℕ) : Type 0 where
  pub parts : List Part
  pub remaining : ℕ
  pub onward : walked rec ≡ walk rec remaining k parts
  pub enough : length rec ≤ k + remaining
  pub inside : k ≤ length rec
  pub seen : Seen rec parts at

pub walking-none : (rec : List ℕ) → Walking rec (replicate tags None) 0
unfolding walked
walking-none rec = record { parts = []; remaining = length rec; onward = refl; enough = omega arith; inside = omega arith; seen = seen_none rec }

module _ {rec : List ℕ} {at : List (Option ℕ)} {k : ℕ} (w : Walking rec at k) where
  module _ (l : k < length rec) where
    -- a field is left to walk
    one_more : w.remaining ≡ suc (w.remaining - 1)
    one_more = let e = w.enough in omega arith

    -- the tests at the tag have passed: it has its place
    pub walking-more : (t : Tag) → number_of t ≡ tag_at rec k → tag_test rec k w.parts ≡ None → Walking rec (set at (place_of t) (Some k)) (k + 3 + size_at rec k)
    walking-more t q e =
        let f = (sound-iff rec k w.parts).0 e in
        let m = w.remaining - 1 in
        let n = w.enough in
        record {
          parts = w.parts ++ (part_at rec k ∷ []);
          remaining = m;
          onward = w.onward ∙ ap (λ m. walk rec m k w.parts) one_more ∙ walk_step rec m k w.parts (lt-leb (length rec) k l) e;
          enough = omega arith;
          inside = f.room;
          seen = seen_more w.seen f t q;
        }

    -- a refusal at the tag is what the walk tells
    pub walking-refused : {r : Refusal} → tag_test rec k w.parts ≡ Some r → walked rec ≡ damaged r
    unfolding walk
    walking-refused e = w.onward ∙ ap (λ m. walk rec m k w.parts) one_more ∙ rw (lt-leb (length rec) k l, e)

  module _ (h : length rec ≤ k) where
    ended : walked rec ≡ at_end rec w.parts
    ended = w.onward ∙ walk_end rec w.remaining k w.parts h

    placed : missing_test rec w.parts ≡ None → Placed rec at
    unfolding parts_in
    placed e =
        let q : walked rec ≡ whole w.parts = ended ∙ rw e in
        let i : w.parts ≡ parts_in rec = sym (ap parts_by q) in
        record { walks = q ∙ ap whole i; seen = subst (λ ps. Seen rec ps at) i w.seen }

    -- what the test at the end answers is what the walk tells: the places of all tags, or its refusal
    pub walking-placed : Ok tt ≡ answer_of (missing_test rec w.parts) → Placed rec at
    walking-placed e = by (missing_test rec w.parts) refl e
      where
        by : (o : Option Refusal) → missing_test rec w.parts ≡ o → Ok tt ≡ answer_of o → Placed rec at
        by None q h = placed q
        by (Some r) q h = differ (cc h)

    pub walking-missing : {r : Refusal} → Err r ≡ answer_of (missing_test rec w.parts) → walked rec ≡ damaged r
    walking-missing {r} e = by (missing_test rec w.parts) refl e
      where
        by : (o : Option Refusal) → missing_test rec w.parts ≡ o → Err r ≡ answer_of o → walked rec ≡ damaged r
        by None q h = differ (cc h)
        by (Some x) q h = let e : x ≡ r = cc h in let p : walked rec ≡ damaged x = ended ∙ rw q in p ∙ ap damaged e

-- ---- a tag's value

value-long : (rec : List ℕ) (k n : ℕ) → k + n ≤ length rec → length (take n (drop k rec)) ≡ n
value-long rec k n h = simp (length-take, length-drop) (fits (length rec) h)
  where
    fits : (l : ℕ) → k + n ≤ l → min n (l - k) ≡ n
    fits l h = omega arith

pub is-value : {rec value : List ℕ} {tag k : ℕ} → Stands rec (parts_in rec) tag k → value ≡ (part_at rec k).value → IsValue rec tag value
is-value {rec} {value} {tag} {k} s e =
    record { is = e ∙ sym s.value; sized = inl (ap (right_size tag) (ap length e ∙ value-long rec (k + 3) (size_at rec k) s.inside) ∙ s.sized) }

-- of a tag that was not seen, which is none that a record must have
pub no_value : {rec : List ℕ} {at : List (Option ℕ)} (tag : Tag) → Placed rec at → offset_of tag at ≡ None → IsValue rec (number_of tag) []
no_value {rec} tag p l =
    let n = number_of tag in
    let e = not_seen p.seen tag (ap is_some l) in
    record {
      is = sym (absent-value n (parts_in rec) e);
      sized = inr (lt_of_not-le (λ h. subst T e (there (parts_in rec) ((whole-iff rec (parts_in rec)).0 p.walks).1 n (omega arith) h)), refl);
    }
