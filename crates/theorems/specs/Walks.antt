-- A record made of fields is read back as those fields, and a record that is read as fields is those fields joined. Assumes nothing.
use Rattle.std.specs.Prelude.{◌≡◌, refl, ◌↔◌, Bool, true, false, not, cond, ◌&&◌, List, [], ◌∷◌, ◌++◌, ℕ, zero, suc, ◌+◌, ◌-◌, ◌^◌, ◌≤◌, ◌<◌, min, T, leb, length, take, drop, get_or}
use Rattle.std.proofs.Common.{sym, ap, ap₂, subst, ◌∙◌, append_assoc, append-nil, add-zero, not-suc-le-zero, le_of_suc-le-suc, add-one, arith, length-append, length-take, length-drop, take-append-drop, drop_of_length-le, get_or-append-add, drop-drop, drop_at, take_at, drop-cons, le-leb, leb-true}
use Rattle.std.specs.Prelude.{Option, None, Some}
use Rattle.std.proofs.lemmas.Bool.{lt-leb, not-true}
use Rattle.model.specs.Tests.{Test, asks}
use Rattle.model.specs.Record.{bytes, unsigned, Part, joined, has, tag_at, size_at, part_at, known_tag, right_size, tag_test, missing_test, Walked, damaged, whole, unless, walk, walked}
use Rattle.model.specs.declared.Refusal.{Refusal}
use Rattle.model.specs.declared.Refusal.TheVariants.{Record}
use Rattle.theorems.specs.Truth.{◌⟫◌, le_iff, and-iff, true-T, T_true, differ}
use Rattle.theorems.specs.TestLaws.{passes}
use Rattle.theorems.specs.NumbersAsBytes.{AllBytes, bytes_drop, bytes_take, there_back, back-bytes, small_of}

-- ---- the tests at a tag

-- what they ask, in their order
pub record Sound (rec : List ℕ) (k : ℕ) (seen : List Part) : Type 0 where
  pub head : k + 3 ≤ length rec
  pub tag : T (known_tag (tag_at rec k))
  pub new : T (not (has (tag_at rec k) seen))
  pub room : k + 3 + size_at rec k ≤ length rec
  pub right : T (right_size (tag_at rec k) (size_at rec k))

pub sound-iff : (rec : List ℕ) (k : ℕ) (seen : List Part) → (tag_test rec k seen ≡ None) ↔ Sound rec k seen
unfolding tag_test
sound-iff rec k seen =
    let t = tag_at rec k in
    let z = size_at rec k in
    let n = length rec in
    let ask : Bool → Test Refusal = λ b. asks b (Record k) in
    passes (ask (leb (k + 3) n) ∷ ask (known_tag t) ∷ ask (not (has t seen)) ∷ ask (leb (k + 3 + z) n) ∷ ask (right_size t z) ∷ [])
    ⟫ (
      λ p. record { head = (le_iff (k + 3) n).0 p.0; tag = p.1.0; new = p.1.1.0; room = (le_iff (k + 3 + z) n).0 p.1.1.1.0; right = p.1.1.1.1.0 },
      λ s. ((le_iff (k + 3) n).1 s.head, (s.tag, (s.new, ((le_iff (k + 3 + z) n).1 s.room, (s.right, tt))))),
    )

-- ---- a record made of fields

-- a field that may stand after the fields seen
pub record Fine (seen : List Part) (p : Part) : Type 0 where
  pub known : known_tag p.tag ≡ true
  pub new : has p.tag seen ≡ false
  pub short : length p.value < 65536
  pub sized : right_size p.tag (length p.value) ≡ true

abbrev pub AllFine : List Part → List Part → Type 0
AllFine seen [] = Unit
AllFine seen (p ∷ ps) = Fine seen p × AllFine (seen ++ (p ∷ [])) ps

-- where their values are short, the rest of this can be computed
abbrev pub fit : List Part → List Part → Bool
fit seen [] = true
fit seen (p ∷ ps) = known_tag p.tag && not (has p.tag seen) && right_size p.tag (length p.value) && fit (seen ++ (p ∷ [])) ps

abbrev pub AllShort : List Part → Type 0
AllShort [] = Unit
AllShort (p ∷ ps) = (length p.value < 65536) × AllShort ps

pub all-fine : (seen ps : List Part) → T (fit seen ps) → AllShort ps → AllFine seen ps
all-fine seen [] t h = tt
all-fine seen (p ∷ ps) t h =
    let a = known_tag p.tag in
    let b = not (has p.tag seen) in
    let c = right_size p.tag (length p.value) in
    let x = (and-iff (a && b && c) (fit (seen ++ (p ∷ [])) ps)).0 t in
    let y = (and-iff (a && b) c).0 x.0 in
    let z = (and-iff a b).0 y.0 in
    (record { known = T_true a z.0; new = not-true _ (T_true b z.1); short = h.0; sized = T_true c y.1 }, all-fine (seen ++ (p ∷ [])) ps x.1 h.1)

module _ (rec pre : List ℕ) (p : Part) (rest : List ℕ) (k : ℕ) (e : rec ≡ pre ++ (p.tag ∷ (bytes 2 (length p.value) ++ (p.value ++ rest)))) (at : length pre ≡ k) where
  abbrev here : List ℕ
  here = p.tag ∷ (bytes 2 (length p.value) ++ (p.value ++ rest))

  from : (m : ℕ) → drop (k + m) rec ≡ drop m here
  from m = sym (drop-drop m k rec) ∙ ap (drop m) (ap (drop k) e ∙ drop_at pre here k at)

  tag-at : tag_at rec k ≡ p.tag
  tag-at = ap (λ l. get_or l k 0) e ∙ ap (λ n. get_or (pre ++ here) n 0) (sym at ∙ sym (add-zero (length pre))) ∙ get_or-append-add pre here 0 0

  size-at : length p.value < 65536 → size_at rec k ≡ length p.value
  size-at h = ap (λ l. unsigned (take 2 l)) (from 1) ∙ there_back 2 (length p.value) h

  long : length rec ≡ k + 3 + length p.value + length rest
  long = ap length e ∙ length-append pre here ∙ sums (length pre) (length p.value) (length rest) (length (p.value ++ rest)) k at (length-append p.value rest)
    where
      sums : (a b c x k : ℕ) → a ≡ k → x ≡ b + c → a + suc (suc (suc x)) ≡ k + 3 + b + c
      sums a b c x k f h = omega arith

  part-at : length p.value < 65536 → part_at rec k ≡ p
  part-at h = λ i. record { tag = tag-at i; value = value i }
    where
      value : take (size_at rec k) (drop (k + 3) rec) ≡ p.value
      value = ap₂ (λ n l. take n l) (size-at h) (from 3) ∙ take_at p.value rest (length p.value) refl

  passes_at : (seen : List Part) → Fine seen p → tag_test rec k seen ≡ None
  passes_at seen f =
      (sound-iff rec k seen).1 (
      record {
        head = omega (arith, long);
        tag = rw tag-at (true-T f.known);
        new = rw (tag-at, f.new) tt;
        room = rw (size-at f.short) (omega (arith, long));
        right = rw (tag-at, size-at f.short) (true-T f.sized);
      }
      )

-- at the end of the record
abbrev pub at_end : List ℕ → List Part → Walked
at_end rec seen = unless (missing_test rec seen) (whole seen)

pub walk_step : (rec : List ℕ) (m k : ℕ) (seen : List Part) → leb (length rec) k ≡ false → tag_test rec k seen ≡ None
    → walk rec (suc m) k seen ≡ walk rec m (k + 3 + size_at rec k) (seen ++ (part_at rec k ∷ []))
unfolding walk
walk_step rec m k seen a b = rw (a, b)

pub walk_end : (rec : List ℕ) (m k : ℕ) (seen : List Part) → length rec ≤ k → walk rec m k seen ≡ at_end rec seen
unfolding walk
walk_end rec zero k seen h = refl
walk_end rec (suc m) k seen h = rw (le-leb (length rec) k h)

pub walks : (ps : List Part) (rec pre : List ℕ) (k m : ℕ) (seen : List Part) → rec ≡ pre ++ joined ps → length pre ≡ k → AllFine seen ps → length ps ≤ m
    → walk rec m k seen ≡ at_end rec (seen ++ ps)
walks [] rec pre k m seen e at f l =
    walk_end rec m k seen (ends (length rec) (length pre) k (ap length (e ∙ append-nil pre)) at) ∙ ap (at_end rec) (sym (append-nil seen))
  where
    ends : (a b k : ℕ) → a ≡ b → b ≡ k → a ≤ k
    ends a b k p q = omega arith
walks (p ∷ ps) rec pre k zero seen e at f l = absurd (not-suc-le-zero l)
walks (p ∷ ps) rec pre k (suc m) seen e at f l =
    let here = p.tag ∷ (bytes 2 (length p.value) ++ p.value) in
    walk_step rec m k seen (lt-leb (length rec) k (omega (arith, long rec pre p (joined ps) k e at))) (passes_at rec pre p (joined ps) k e at seen f.0)
    ∙ ap₂ (λ n x. walk rec m (k + 3 + n) (seen ++ (x ∷ []))) (size-at rec pre p (joined ps) k e at f.0.short) (part-at rec pre p (joined ps) k e at f.0.short)
    ∙ walks ps rec (pre ++ here) (k + 3 + length p.value) m (seen ++ (p ∷ []))
    (e ∙ sym (append_assoc pre here (joined ps)))
    (length-append pre here ∙ sums (length pre) (length p.value) k at)
    f.1 (le_of_suc-le-suc l)
    ∙ ap (at_end rec) (append_assoc seen (p ∷ []) ps)
  where
    sums : (a b k : ℕ) → a ≡ k → a + suc (suc (suc b)) ≡ k + 3 + b
    sums a b k h = omega arith

-- ---- a record that is read as fields

-- what the walk has seen of a field
pub record Read (p : Part) : Type 0 where
  pub sized : right_size p.tag (length p.value) ≡ true
  pub plain : AllBytes p.value

abbrev pub AllRead : List Part → Type 0
AllRead [] = Unit
AllRead (p ∷ ps) = Read p × AllRead ps

pub record Undone (rec : List ℕ) (k : ℕ) (seen ps : List Part) : Type 0 where
  pub new : List Part
  pub parts : ps ≡ seen ++ new
  pub rest : drop k rec ≡ joined new
  pub each : AllRead new
  pub fine : AllFine seen new

whole_same : (a b : List Part) → whole a ≡ whole b → a ≡ b
whole_same a b h = cc

damaged≢ : {A : Type 0} {r : Refusal} {ps : List Part} → damaged r ≡ whole ps → A
damaged≢ h = differ (cc h)

end_by : (o : Option Refusal) (seen ps : List Part) → unless o (whole seen) ≡ whole ps → seen ≡ ps
end_by None seen ps h = whole_same seen ps h
end_by (Some r) seen ps h = damaged≢ h

ended : (rec : List ℕ) (k : ℕ) (seen ps : List Part) → length rec ≤ k → at_end rec seen ≡ whole ps → Undone rec k seen ps
ended rec k seen ps h e =
    record { new = []; parts = sym (end_by (missing_test rec seen) seen ps e) ∙ sym (append-nil seen); rest = drop_of_length-le rec h; each = tt; fine = tt }

module _ (rec : List ℕ) (plain : AllBytes rec) (k : ℕ) (seen : List Part) (h : Sound rec k seen) where
  value-long : length (take (size_at rec k) (drop (k + 3) rec)) ≡ size_at rec k
  value-long = simp (length-take, length-drop) (fits (size_at rec k) (length rec) k h.room)
    where
      fits : (n l k : ℕ) → k + 3 + n ≤ l → min n (l - (k + 3)) ≡ n
      fits n l k h = omega arith

  size-long : length (take 2 (drop (k + 1) rec)) ≡ 2
  size-long = simp (length-take, length-drop) (fits (length rec) k h.head)
    where
      fits : (l k : ℕ) → k + 3 ≤ l → min 2 (l - (k + 1)) ≡ 2
      fits l k h = omega arith

  size-plain : AllBytes (take 2 (drop (k + 1) rec))
  size-plain = bytes_take 2 (drop (k + 1) rec) (bytes_drop (k + 1) rec plain)

  size-bytes : bytes 2 (size_at rec k) ≡ take 2 (drop (k + 1) rec)
  size-bytes = back-bytes 2 (take 2 (drop (k + 1) rec)) size-long size-plain

  field-read : Read (part_at rec k)
  field-read = record { sized = ap (right_size (tag_at rec k)) value-long ∙ T_true _ h.right; plain = bytes_take (size_at rec k) (drop (k + 3) rec) (bytes_drop (k + 3) rec plain) }

  field-fine : Fine seen (part_at rec k)
  field-fine =
      record {
        known = T_true _ h.tag;
        new = not-true _ (T_true _ h.new);
        short = subst (λ n. n < 65536) (sym value-long) (two (take 2 (drop (k + 1) rec)) size-long size-plain);
        sized = field-read.sized;
      }
    where
      -- two bytes stand for less than 65536
      two : (l : List ℕ) → length l ≡ 2 → AllBytes l → unsigned l < 65536
      two l e b = subst (λ n. unsigned l < 256 ^ n) e (small_of l b)

  -- the rest of the record is the field and what comes after it
  field-rest : (l : List ℕ) → drop (k + 3 + size_at rec k) rec ≡ l
      → drop k rec ≡ tag_at rec k ∷ (bytes 2 (length (take (size_at rec k) (drop (k + 3) rec))) ++ (take (size_at rec k) (drop (k + 3) rec) ++ l))
  field-rest l e =
      let value = take (size_at rec k) (drop (k + 3) rec) in
      drop-cons rec k 0 (below (length rec) k h.head)
      ∙ ap (λ z. tag_at rec k ∷ z)
      (ap (λ n. drop n rec) (sym (add-one k))
      ∙ sym (take-append-drop 2 (drop (k + 1) rec))
      ∙ ap₂ ◌++◌ (sym size-bytes ∙ ap (bytes 2) (sym value-long))
      (drop-drop 2 (k + 1) rec ∙ ap (λ n. drop n rec) (three k)
      ∙ sym (take-append-drop (size_at rec k) (drop (k + 3) rec))
      ∙ ap (λ z. value ++ z) (drop-drop (size_at rec k) (k + 3) rec ∙ e)))
    where
      below : (l k : ℕ) → k + 3 ≤ l → k < l
      below l k h = omega arith

      three : (k : ℕ) → k + 1 + 2 ≡ k + 3
      three k = omega arith

onward : (rec : List ℕ) → AllBytes rec → (k : ℕ) (seen ps : List Part) → Sound rec k seen → Undone rec (k + 3 + size_at rec k) (seen ++ (part_at rec k ∷ [])) ps → Undone rec k seen ps
onward rec plain k seen ps h u =
    record {
      new = part_at rec k ∷ u.new;
      parts = u.parts ∙ append_assoc seen (part_at rec k ∷ []) u.new;
      rest = field-rest rec plain k seen h (joined u.new) u.rest;
      each = (field-read rec plain k seen h, u.each);
      fine = (field-fine rec plain k seen h, u.fine);
    }

by_tests : (rec : List ℕ) → AllBytes rec → (k : ℕ) (seen ps : List Part) (more : Walked)
    → (more ≡ whole ps → Undone rec (k + 3 + size_at rec k) (seen ++ (part_at rec k ∷ [])) ps)
    → (b : Bool) (o : Option Refusal) → leb (length rec) k ≡ b → tag_test rec k seen ≡ o → cond b (at_end rec seen) (unless o more) ≡ whole ps → Undone rec k seen ps
by_tests rec plain k seen ps more h true o p q e = ended rec k seen ps (leb-true (length rec) k p) e
by_tests rec plain k seen ps more h false None p q e = onward rec plain k seen ps ((sound-iff rec k seen).0 q) (h e)
by_tests rec plain k seen ps more h false (Some r) p q e = damaged≢ e

unwalk : (rec : List ℕ) → AllBytes rec → (m k : ℕ) (seen ps : List Part) → length rec ≤ k + m → walk rec m k seen ≡ whole ps → Undone rec k seen ps
unfolding walk
unwalk rec plain zero k seen ps l e = ended rec k seen ps (omega arith) e
unwalk rec plain (suc m) k seen ps l e =
    by_tests rec plain k seen ps (walk rec m (k + 3 + size_at rec k) (seen ++ (part_at rec k ∷ [])))
    (unwalk rec plain m (k + 3 + size_at rec k) (seen ++ (part_at rec k ∷ [])) ps (omega arith))
    (leb (length rec) k) (tag_test rec k seen) refl refl e

-- all of a record that passes test 7
pub record Whole (rec : List ℕ) (parts : List Part) : Type 0 where
  pub joins : joined parts ≡ rec
  pub each : AllRead parts
  pub fine : AllFine [] parts

pub whole-record : (rec : List ℕ) → AllBytes rec → (parts : List Part) → walked rec ≡ whole parts → Whole rec parts
unfolding walked
whole-record rec plain parts e =
    let u = unwalk rec plain (length rec) 0 [] parts (start (length rec)) e in
    record { joins = ap joined u.parts ∙ sym u.rest; each = subst AllRead (sym u.parts) u.each; fine = subst (AllFine []) (sym u.parts) u.fine }
  where
    start : (n : ℕ) → n ≤ 0 + n
    start n = omega arith
