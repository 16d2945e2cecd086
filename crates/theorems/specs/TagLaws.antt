-- What test 7 asks at a tag, and at the record's end: by the table of tags, whatever its rows. Assumes nothing.
use Rattle.std.specs.Prelude.{◌≡◌, refl, ◌↔◌, ◌⊎◌, Bool, true, false, not, cond, ◌&&◌, List, [], ◌∷◌, map, ℕ, zero, suc, ◌+◌, ◌≤◌, ◌<◌, T, eqb, leb, length}
use Rattle.std.proofs.Common.{sym, ap, subst, ◌∙◌, inl, inr, ⊎_elim, suc-le-suc, eq-or-lt_of_le, lt_of_not-le, le_of_suc-le-suc, arith, lit<, leb-false, eqb-true, ne_eqb}
use Rattle.std.specs.Prelude.{Option, None, Some}
use Rattle.std.proofs.Math.Dec.{eqb_refl}
use Rattle.std.proofs.lemmas.Bool.{eqb-false, lt-leb}
use Rattle.model.specs.Numbers.{all, any}
use Rattle.model.specs.Tests.{◌then◌, must}
use Rattle.model.specs.Record.{Size, fixed, per_cell, TagRow, tag_table, Part, has, tag_at, size_at, known_tag, size_in, allows, right_size, tag_test, missing_test}
use Rattle.model.specs.Claims.{Among, WrongLength, BadTag, Missing}
use Rattle.model.specs.declared.Refusal.{Refusal}
use Rattle.model.specs.declared.Refusal.TheVariants.{Record}
use Rattle.theorems.specs.Truth.{◌⟫◌, eq_iff, not_iff, and-iff, or-iff, same, either, differ}

-- ---- tests that have one refusal

true≢ : {A : Type 0} → true ≡ false → A
true≢ h = differ (cc h)

-- either it is told and A holds, or nothing is told and A does not hold
abbrev pub Judges : Option Refusal → Refusal → Type 0 → Type 0
Judges o own A = ((o ≡ Some own) × A) ⊎ ((o ≡ None) × (A → ⊥))

judge : (t : Bool) (own : Refusal) {A : Type 0} → (t ≡ false) ↔ A → Judges (must t own) own A
judge true own i = inr (refl, λ a. true≢ (i.1 a))
judge false own i = inl (refl, i.0 refl)

judge-last : (t : Bool) (own : Refusal) {A : Type 0} → (t ≡ false) ↔ A → Judges (must t own then None) own A
judge-last true own i = judge true own i
judge-last false own i = judge false own i

judge-then : (t : Bool) (own : Refusal) (q : Option Refusal) {A B : Type 0} → (t ≡ false) ↔ A → Judges q own B → Judges (must t own then q) own (A ⊎ B)
judge-then true own q i j = ⊎_elim (λ p. inl (p.0, inr p.1)) (λ p. inr (p.0, ⊎_elim (λ a. true≢ (i.1 a)) p.1)) j
judge-then false own q i j = inl (refl, inl (i.0 refl))

-- told where it holds, and not told where it does not
pub told : {o : Option Refusal} {own : Refusal} {A : Type 0} → Judges o own A → A → o ≡ Some own
told j a = ⊎_elim (λ p. p.0) (λ p. absurd (p.1 a)) j

pub untold : {o : Option Refusal} {own : Refusal} {A : Type 0} → Judges o own A → (A → ⊥) → o ≡ None
untold j n = ⊎_elim (λ p. absurd (n p.1)) (λ p. p.0) j

-- ---- what is asked at a tag

short-iff : (a b : ℕ) → (leb a b ≡ false) ↔ (b < a)
short-iff a b = (leb-false a b, lt-leb a b)

absent-iff : (b : Bool) {A : Type 0} → T b ↔ A → (b ≡ false) ↔ (A → ⊥)
absent-iff true i = (λ e. true≢ e, λ n. absurd (n (i.0 tt)))
absent-iff false i = (λ e a. i.1 a, λ n. refl)

-- numbers that follow each other from a on are those from a to their last
abbrev pub follow : ℕ → List ℕ → Bool
follow a [] = true
follow a (x ∷ l) = eqb x a && follow (suc a) l

listed-iff : (t a : ℕ) (l : List ℕ) → T (follow a l) → T (any (eqb t) l) ↔ ((a ≤ t) × (t < a + length l))
listed-iff t a [] f = (λ h. absurd h, λ p. absurd (none_left p.0 p.1))
  where
    none_left : a ≤ t → t < a + 0 → ⊥
    none_left h l = omega arith
listed-iff t a (x ∷ l) f =
    let g = (and-iff (eqb x a) (follow (suc a) l)).0 f in
    let e = (eq_iff x a).0 g.0 in
    or-iff (eqb t x) (any (eqb t) l) ⟫ either (eq_iff t x) (listed-iff t (suc a) l g.1) ⟫ (⊎_elim (λ h. first (h ∙ e)) later, λ p. by p.0 p.1 e)
  where
    first : t ≡ a → (a ≤ t) × (t < a + suc (length l))
    first h = (omega arith, omega arith)

    later : (suc a ≤ t) × (t < suc a + length l) → (a ≤ t) × (t < a + suc (length l))
    later p = let x = p.0 in let y = p.1 in (omega arith, omega arith)

    by : a ≤ t → t < a + suc (length l) → x ≡ a → (t ≡ x) ⊎ ((suc a ≤ t) × (t < suc a + length l))
    by h l e = ⊎_elim (λ z. inl (sym z ∙ sym e)) (λ z. inr (z, omega arith)) (eq-or-lt_of_le h)

abbrev pub tags_of : List TagRow → List ℕ
tags_of l = map (λ row. row.tag) l

-- the tags known are 1 to the last one, and no other
pub known-iff : (t : ℕ) → T (known_tag t) ↔ ((1 ≤ t) × (t ≤ length tag_table))
known-iff t = listed-iff t 1 (tags_of tag_table) tt ⟫ (λ p. (p.0, le_of_suc-le-suc p.1), λ p. (p.0, suc-le-suc p.1))

unknown-iff : (t : ℕ) → (known_tag t ≡ false) ↔ ((t < 1) ⊎ (length tag_table < t))
unknown-iff t = absent-iff (known_tag t) (known-iff t) ⟫ (out t, among t)
  where
    out : (t : ℕ) → ((1 ≤ t) × (t ≤ length tag_table) → ⊥) → (t < 1) ⊎ (length tag_table < t)
    out zero n = inl (lit< tt)
    out (suc t) n = inr (lt_of_not-le (λ h. n (omega arith, h)))

    among : (t : ℕ) → (t < 1) ⊎ (length tag_table < t) → (1 ≤ t) × (t ≤ length tag_table) → ⊥
    among t (inl l) p = let x = p.0 in omega arith
    among t (inr l) p = let x = p.1 in omega arith

-- what holds of the tag of each row holds of each tag known
abbrev pub EachOf : (ℕ → Type 0) → List ℕ → Type 0
EachOf P [] = Unit
EachOf P (x ∷ l) = P x × EachOf P l

each_of : (P : ℕ → Type 0) (l : List ℕ) → EachOf P l → (t : ℕ) → T (any (eqb t) l) → P t
each_of P [] e t h = absurd h
each_of P (x ∷ l) e t h = ⊎_elim (λ q. subst P (sym ((eq_iff t x).0 q)) e.0) (each_of P l e.1 t) ((or-iff (eqb t x) (any (eqb t) l)).0 h)

pub among-iff : (t : ℕ) (l : List Part) → T (has t l) ↔ Among t l
among-iff t [] = (λ h. h, λ h. h)
among-iff t (p ∷ l) = or-iff (eqb p.tag t) (has t l) ⟫ either (eq_iff p.tag t) (among-iff t l)

pub absent : (t : ℕ) (parts : List Part) → (has t parts ≡ false) ↔ (Among t parts → ⊥)
absent t parts = absent-iff (has t parts) (among-iff t parts)

-- a table has a fixed length for tag t, and this is another
abbrev WrongRow : Size → (tag t size : ℕ) → Type 0 → Type 0
WrongRow (fixed k) tag t size further = ((t ≡ tag) × (size ≡ k → ⊥)) ⊎ further
WrongRow (per_cell k) tag t size further = further

abbrev WrongIn : List TagRow → (t size : ℕ) → Type 0
WrongIn [] t size = ⊥
WrongIn (row ∷ l) t size = WrongRow row.size row.tag t size (WrongIn l t size)

-- its tags rise, so that only one row is about t
wrong-from : (a t size : ℕ) (l : List TagRow) → T (follow a (tags_of l)) → WrongIn l t size → a ≤ t
wrong-from a t size [] f w = absurd w
wrong-from a t size (row ∷ l) f w =
    let g = (and-iff (eqb row.tag a) (follow (suc a) (tags_of l))).0 f in by row.size ((eq_iff row.tag a).0 g.0) (wrong-from (suc a) t size l g.1) w
  where
    by : (z : Size) → row.tag ≡ a → (WrongIn l t size → suc a ≤ t) → WrongRow z row.tag t size (WrongIn l t size) → a ≤ t
    by (fixed k) e h (inl w) = let x = w.0 in omega arith
    by (fixed k) e h (inr w) = let x = h w in omega arith
    by (per_cell k) e h w = let x = h w in omega arith

wrong-in : (a t size : ℕ) (l : List TagRow) → T (follow a (tags_of l)) → (allows (size_in l t) size ≡ false) ↔ WrongIn l t size
wrong-in a t size [] f = (λ e. true≢ e, λ w. absurd w)
wrong-in a t size (row ∷ l) f =
    let g = (and-iff (eqb row.tag a) (follow (suc a) (tags_of l))).0 f in
    by row.size (eqb t row.tag) refl ((eq_iff row.tag a).0 g.0) (wrong-from (suc a) t size l g.1) (wrong-in (suc a) t size l g.1)
  where
    past-it : t ≡ row.tag → row.tag ≡ a → suc a ≤ t → ⊥
    past-it x e h = omega arith

    by : (z : Size) (b : Bool) → eqb t row.tag ≡ b → row.tag ≡ a → (WrongIn l t size → suc a ≤ t) → (allows (size_in l t) size ≡ false) ↔ WrongIn l t size
        → (allows (cond b z (size_in l t)) size ≡ false) ↔ WrongRow z row.tag t size (WrongIn l t size)
    by (fixed k) true p e later i = let x = eqb-true t row.tag p in (λ h. inl (x, eqb-false size k h), ⊎_elim (λ w. ne_eqb size k w.1) (λ w. absurd (past-it x e (later w))))
    by (fixed k) false p e later i = (λ h. inr (i.0 h), ⊎_elim (λ w. absurd (eqb-false t row.tag p w.0)) i.1)
    by (per_cell k) true p e later i = (λ h. true≢ h, λ w. absurd (past-it (eqb-true t row.tag p) e (later w)))
    by (per_cell k) false p e later i = i

pub wrong-iff : (t size : ℕ) → (right_size t size ≡ false) ↔ WrongLength t size
wrong-iff t size = wrong-in 1 t size tag_table tt ⟫ either same (either same (either same (⊎_elim (λ w. w) (λ x. absurd x), inl)))

pub tag-judged : (rec : List ℕ) (k : ℕ) (parts : List Part) → Judges (tag_test rec k parts) (Record k) (BadTag rec k parts)
unfolding tag_test
tag-judged rec k parts =
    let t = tag_at rec k in
    let z = size_at rec k in
    judge-then (leb (k + 3) (length rec)) (Record k) _ (short-iff (k + 3) (length rec))
    (judge-then (known_tag t) (Record k) _ (unknown-iff t)
    (judge-then (not (has t parts)) (Record k) _ (not_iff (has t parts) ⟫ among-iff t parts)
    (judge-then (leb (k + 3 + z) (length rec)) (Record k) _ (short-iff (k + 3 + z) (length rec)) (judge-last (right_size t z) (Record k) (wrong-iff t z)))))

-- ---- what is asked at the end

-- a test of each number of a list fails at one of them
fails-at : (f : ℕ → Bool) (l : List ℕ) → all f l ≡ false → (t : ℕ) × T (any (eqb t) l) × (f t ≡ false)
fails-at f [] e = true≢ e
fails-at f (x ∷ l) e = by (f x) refl (fails-at f l) e
  where
    by : (b : Bool) → f x ≡ b → (all f l ≡ false → (t : ℕ) × T (any (eqb t) l) × (f t ≡ false)) → b && all f l ≡ false → (t : ℕ) × T (any (eqb t) (x ∷ l)) × (f t ≡ false)
    by true p ih e = let h = ih e in (h.0, (or-iff (eqb h.0 x) (any (eqb h.0) l)).1 (inr h.1), h.2)
    by false p ih e = (x, (or-iff (eqb x x) (any (eqb x) l)).1 (inl (eqb_refl x)), p)

fails : (f : ℕ → Bool) (l : List ℕ) (t : ℕ) → T (any (eqb t) l) → f t ≡ false → all f l ≡ false
fails f [] t h e = absurd h
fails f (x ∷ l) t h e =
    ⊎_elim
    (λ p. let q : f x ≡ false = ap f (sym ((eq_iff t x).0 p)) ∙ e in ap (λ b. b && all f l) q)
    (λ p. both_false (f x) (fails f l t p e))
    ((or-iff (eqb t x) (any (eqb t) l)).0 h)
  where
    both_false : (b : Bool) {c : Bool} → c ≡ false → b && c ≡ false
    both_false true e = e
    both_false false e = refl

-- the tags that a record must have, which are 1 to 7
abbrev required_in : List TagRow → List ℕ
required_in [] = []
required_in (row ∷ l) = cond row.required (row.tag ∷ required_in l) (required_in l)

abbrev required : List ℕ
required = required_in tag_table

abbrev pub last_required : ℕ
last_required = length required

-- what holds of each of them, and that they are in the table
pub each-required : (P : ℕ → Type 0) → EachOf P required → (t : ℕ) → 1 ≤ t → t ≤ last_required → P t
each-required P e t a b = each_of P required e t ((listed-iff t 1 required tt).1 (a, suc-le-suc b))

missing-iff : (parts : List Part) → (all (λ t. has t parts) required ≡ false) ↔ Missing parts
missing-iff parts =
    let i : (t : ℕ) → (has t parts ≡ false) ↔ (Among t parts → ⊥) = λ t. absent t parts in (
      λ e.
          let h = fails-at (λ t. has t parts) required e in
          let p = (listed-iff h.0 1 required tt).0 h.1 in
          (h.0, p.0, le_of_suc-le-suc p.1, (i h.0).0 h.2),
      λ m. fails (λ t. has t parts) required m.0 ((listed-iff m.0 1 required tt).1 (m.1, suc-le-suc m.2)) ((i m.0).1 m.3),
    )

pub end-judged : (rec : List ℕ) (parts : List Part) → Judges (missing_test rec parts) (Record (length rec)) (Missing parts)
unfolding missing_test
end-judged rec parts = judge (all (λ t. has t parts) required) (Record (length rec)) (missing-iff parts)

pub none-missing : (rec : List ℕ) (parts : List Part) → (Missing parts → ⊥) → missing_test rec parts ≡ None
none-missing rec parts n = untold (end-judged rec parts) n

-- each that a record must have is there then
pub there : (parts : List Part) → (Missing parts → ⊥) → (t : ℕ) → 1 ≤ t → t ≤ last_required → T (has t parts)
there parts n t a b = by (has t parts) refl
  where
    by : (x : Bool) → has t parts ≡ x → T x
    by true e = tt
    by false e = absurd (n (t, a, b, (absent t parts).0 e))

pub required-known : (t : ℕ) → 1 ≤ t → t ≤ last_required → T (any (λ row. eqb row.tag t) tag_table)
required-known = each-required (λ t. T (any (λ row. eqb row.tag t) tag_table)) (tt, (tt, (tt, (tt, (tt, (tt, (tt, tt)))))))
