-- A record whose tags rise: its fields before the first tag that it lacks stand in front, by the table of tags. Assumes nothing.
use Rattle.std.specs.Prelude.{◌≡◌, refl, Bool, true, false, cond, ◌||◌, List, [], ◌∷◌, ◌++◌, map, ℕ, suc, ◌+◌, ◌≤◌, ◌<◌, T, eqb, ltb, length, take, replicate}
use Rattle.std.proofs.Common.{sym, ap, ap₂, subst, ◌∙◌, append_assoc, append-nil, arith, take_at, eqb-true, eq-eqb, ne_eqb}
use Rattle.std.proofs.lemmas.List.{length-replicate}
use Rattle.std.proofs.lemmas.Bool.{eqb-false}
use Rattle.model.specs.Record.{TagRow, tag_table, Part, joined, bytes, has, value_of, rises, bytes_for, own_or_zeros, leading}
use Rattle.model.specs.Claims.{zero_field}
use Rattle.theorems.specs.Truth.{T_true, and-iff, eq_iff, lt_iff, differ}
use Rattle.theorems.specs.Walks.{AllFine}
use Rattle.theorems.specs.TagLaws.{follow, tags_of, known-iff}
use Rattle.theorems.specs.Written.{part}

-- ---- tags from a on

abbrev tags : List Part → List ℕ
tags ps = map (λ p. p.tag) ps

abbrev pub From : ℕ → List Part → Type 0
From a [] = Unit
From a (p ∷ ps) = (a ≤ p.tag) × From a ps

from_less : {a b : ℕ} (ps : List Part) → a ≤ b → From b ps → From a ps
from_less [] h f = tt
from_less (p ∷ ps) h f = (let x = f.0 in omega arith, from_less ps h f.1)

-- those after a field are above its tag
rises-on : (p : Part) (ps : List Part) → T (rises (tags (p ∷ ps))) → T (rises (tags ps)) × From (suc p.tag) ps
rises-on p [] h = (tt, tt)
rises-on p (q ∷ ps) h =
    let x = (and-iff (ltb p.tag q.tag) (rises (tags (q ∷ ps)))).0 h in
    let l = (lt_iff p.tag q.tag).0 x.0 in
    (x.1, (l, from_less ps (omega arith) (rises-on q ps x.1).1))

-- a tag that none of them has
from-above : (a : ℕ) (ps : List Part) → From a ps → has a ps ≡ false → From (suc a) ps
from-above a [] f e = tt
from-above a (p ∷ ps) f e = by (eqb p.tag a) refl (from-above a ps f.1) e
  where
    above : a ≤ p.tag → (p.tag ≡ a → ⊥) → suc a ≤ p.tag
    above h n = omega arith

    by : (b : Bool) → eqb p.tag a ≡ b → (has a ps ≡ false → From (suc a) ps) → b || has a ps ≡ false → From (suc a) (p ∷ ps)
    by true q ih e = absurd (subst T e tt)
    by false q ih e = (above f.0 (eqb-false p.tag a q), ih e)

none_below : (t a : ℕ) (ps : List Part) → From a ps → t < a → has t ps ≡ false
none_below t a [] f l = refl
none_below t a (p ∷ ps) f l = ap₂ ◌||◌ (ne_eqb p.tag t (λ e. let x = f.0 in omega arith)) (none_below t a ps f.1 l)

-- ---- the fields in front

-- the tag after those in front: past the first one that is lacking, or past the last one
abbrev pub next : List Part → ℕ → List TagRow → ℕ
next ps a [] = a
next ps a (row ∷ rows) = cond (has row.tag ps) (next ps (suc a) rows) (suc a)

-- `l` is what is left of the fields ps from tag a on
pub record Left (a : ℕ) (ps l : List Part) : Type 0 where
  pub rising : T (rises (tags l))
  pub from : From a l
  pub same-has : (t : ℕ) → a ≤ t → has t ps ≡ has t l
  pub same-value : (t : ℕ) → a ≤ t → value_of t ps ≡ value_of t l

-- the fields l, of all the fields ps, begin with `front`; what is left has tags from a on
pub record Front (ps l front : List Part) (a : ℕ) : Type 0 where
  pub rest : List Part
  pub splits : l ≡ front ++ rest
  pub left : Left a ps rest

-- where the tags of l rise from a on, a field of tag a comes first
at_head : (a : ℕ) (p : Part) (l : List Part) → From a (p ∷ l) → T (rises (tags (p ∷ l))) → has a (p ∷ l) ≡ true → p.tag ≡ a
at_head a p l b r q = here (eqb p.tag a) refl
  where
    above : a ≤ p.tag → (p.tag ≡ a → ⊥) → a < suc p.tag
    above h n = omega arith

    here : (x : Bool) → eqb p.tag a ≡ x → p.tag ≡ a
    here true k = eqb-true p.tag a k
    here false k = let c = none_below a (suc p.tag) l (rises-on p l r).1 (above b.0 (eqb-false p.tag a k)) in differ (cc (sym q ∙ ap₂ ◌||◌ k c))

module _ (a : ℕ) (ps : List Part) where
  -- without its first field, of tag a
  left-on : (p : Part) (l : List Part) → p.tag ≡ a → Left a ps (p ∷ l) → Left (suc a) ps l
  left-on p l k x =
      let o = rises-on p l x.rising in
      record {
        rising = o.0;
        from = subst (λ n. From (suc n) l) k o.1;
        same-has = λ t n. x.same-has t (omega arith) ∙ ap (λ b. b || has t l) (ne_eqb p.tag t (λ z. omega arith));
        same-value = λ t n. x.same-value t (omega arith) ∙ ap (λ b. cond b p.value (value_of t l)) (ne_eqb p.tag t (λ z. omega arith));
      }

  -- which is the one that ps has
  same-part : (p : Part) (l : List Part) → p.tag ≡ a → Left a ps (p ∷ l) → p ≡ part a (value_of a ps)
  same-part p l k x =
      let z : value_of a ps ≡ p.value = x.same-value a (omega arith) ∙ ap (λ b. cond b p.value (value_of a l)) (eq-eqb p.tag a k) in
      λ i. record { tag = k i; value = sym z i }

  -- by whether there is a field of tag a
  front_by : (f : List Part) (n : ℕ) → ((l : List Part) → Left (suc a) ps l → Front ps l f n) → (b : Bool) → has a ps ≡ b → (l : List Part) → Left a ps l
      → Front ps l (cond b (part a (value_of a ps) ∷ f) []) (cond b n (suc a))
  front_by f n ih false q l x = record {
    rest = l;
    splits = refl;
    left = record {
      rising = x.rising;
      from = from-above a l x.from (sym (x.same-has a (omega arith)) ∙ q);
      same-has = λ t m. x.same-has t (omega arith);
      same-value = λ t m. x.same-value t (omega arith);
    };
  }
  front_by f n ih true q [] x = differ (cc (sym q ∙ x.same-has a (omega arith)))
  front_by f n ih true q (p ∷ l) x =
      let k = at_head a p l x.from x.rising (sym (x.same-has a (omega arith)) ∙ q) in
      let i = ih l (left-on p l k x) in
      record { rest = i.rest; splits = ap₂ ◌∷◌ (same-part p l k x) i.splits; left = i.left }

pub in-front : (a : ℕ) (ps l : List Part) (rows : List TagRow) → T (follow a (tags_of rows)) → Left a ps l → Front ps l (leading ps rows) (next ps a rows)
in-front a ps l [] f x = record { rest = l; splits = refl; left = x }
in-front a ps l (row ∷ rows) f x =
    let g = (and-iff (eqb row.tag a) (follow (suc a) (tags_of rows))).0 f in
    let e = (eq_iff row.tag a).0 g.0 in
    subst (λ t. Front ps l (cond (has t ps) (part t (value_of t ps) ∷ leading ps rows) []) (cond (has t ps) (next ps (suc a) rows) (suc a))) (sym e)
    (front_by a ps (leading ps rows) (next ps (suc a) rows) (λ l y. in-front (suc a) ps l rows g.1 y) (has a ps) refl l x)

pub front : (ps : List Part) → T (rises (tags ps)) → From 1 ps → Front ps ps (leading ps tag_table) (next ps 1 tag_table)
front ps r f = in-front 1 ps ps tag_table tt (record { rising = r; from = f; same-has = λ t n. refl; same-value = λ t n. refl })

-- ---- tags that are known

abbrev pub To : ℕ → List Part → Type 0
To k [] = Unit
To k (p ∷ ps) = (p.tag ≤ k) × To k ps

pub known-tags : (seen ps : List Part) → AllFine seen ps → From 1 ps × To (length tag_table) ps
known-tags seen [] f = (tt, tt)
known-tags seen (p ∷ ps) f =
    let k = (known-iff p.tag).0 (subst T (sym f.0.known) tt) in
    let m = known-tags (seen ++ (p ∷ [])) ps f.1 in
    ((k.0, m.0), (k.1, m.1))

-- so nothing comes past the last of them
pub to-rest : (k : ℕ) (front rest : List Part) → To k (front ++ rest) → To k rest
to-rest k [] rest t = t
to-rest k (p ∷ front) rest t = to-rest k front rest t.1

pub nothing-past : (rest : List Part) → To (length tag_table) rest → From (suc (length tag_table)) rest → rest ≡ []
nothing-past [] t f = refl
nothing-past (p ∷ rest) t f = absurd (let x = t.0 in let y = f.0 in omega arith)

-- ---- the fields that come back

-- those from the first one that is lacking on
abbrev pub lacking : ℕ → List Part → List TagRow → List Part
lacking m ps [] = []
lacking m ps (row ∷ rows) = cond (has row.tag ps) (lacking m ps rows) (map (own_or_zeros m ps) (row ∷ rows))

-- rows that the record has are passed over
abbrev pub There : List Part → List TagRow → Type 0
There ps [] = Unit
There ps (row ∷ rows) = (has row.tag ps ≡ true) × There ps rows

pub all_there : (ps : List Part) (a : ℕ) (rows : List TagRow) → T (follow a (tags_of rows)) → ((t : ℕ) → a ≤ t → t < a + length rows → T (has t ps)) → There ps rows
all_there ps a [] f h = tt
all_there ps a (row ∷ rows) f h =
    let g = (and-iff (eqb row.tag a) (follow (suc a) (tags_of rows))).0 f in
    let e = (eq_iff row.tag a).0 g.0 in
    (T_true (has row.tag ps) (h row.tag (omega arith) (omega arith)), all_there ps (suc a) rows g.1 (λ t l m. h t (omega arith) (omega arith)))

abbrev past : ℕ → List TagRow → ℕ
past a [] = a
past a (row ∷ rows) = past (suc a) rows

pub next_past : (ps : List Part) (a : ℕ) (front rows : List TagRow) → There ps front → next ps a (front ++ rows) ≡ next ps (past a front) rows
next_past ps a [] rows t = refl
next_past ps a (row ∷ front) rows t = ap (λ x. cond x (next ps (suc a) (front ++ rows)) (suc a)) t.0 ∙ next_past ps (suc a) front rows t.1

pub lacking-past : (m : ℕ) (ps : List Part) (front rows : List TagRow) → There ps front → lacking m ps (front ++ rows) ≡ lacking m ps rows
lacking-past m ps [] rows t = refl
lacking-past m ps (row ∷ front) rows t =
    ap (λ x. cond x (lacking m ps (front ++ rows)) (map (own_or_zeros m ps) (row ∷ (front ++ rows)))) t.0 ∙ lacking-past m ps front rows t.1

pub back-in-front : (m : ℕ) (ps : List Part) (rows : List TagRow) → map (own_or_zeros m ps) rows ≡ leading ps rows ++ lacking m ps rows
back-in-front m ps [] = refl
back-in-front m ps (row ∷ rows) = by (has row.tag ps) refl (back-in-front m ps rows)
  where
    by : (x : Bool) → has row.tag ps ≡ x → map (own_or_zeros m ps) rows ≡ leading ps rows ++ lacking m ps rows
        → own_or_zeros m ps row ∷ map (own_or_zeros m ps) rows
        ≡ cond x (part row.tag (value_of row.tag ps) ∷ leading ps rows) [] ++ cond x (lacking m ps rows) (map (own_or_zeros m ps) (row ∷ rows))
    by true q ih = ap₂ (λ x l. part row.tag (cond x (value_of row.tag ps) (replicate (bytes_for m row.size) 0)) ∷ l) q ih
    by false q ih = refl

-- ---- their bytes

pub joined-append : (a b : List Part) → joined (a ++ b) ≡ joined a ++ joined b
joined-append [] b = refl
joined-append (p ∷ a) b =
    ap (λ l. p.tag ∷ (bytes 2 (length p.value) ++ l)) (ap (λ l. p.value ++ l) (joined-append a b) ∙ sym (append_assoc p.value (joined a) (joined b)))

-- those of a field of zeros
pub zero-bytes : (t m : ℕ) → joined (part t (replicate m 0) ∷ []) ≡ zero_field t m
zero-bytes t m = ap₂ (λ n l. t ∷ (bytes 2 n ++ l)) (length-replicate m 0) (append-nil (replicate m 0))

pub front_bytes : (a b : List Part) → take (length (joined a)) (joined (a ++ b)) ≡ joined a
front_bytes a b = ap (take (length (joined a))) (joined-append a b) ∙ take_at (joined a) (joined b) (length (joined a)) refl
