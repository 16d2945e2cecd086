-- The reader takes any order: a record whose fields are put into another order is read as the same, or refused with the same. Assumes nothing.
use Rattle.std.specs.Prelude.{◌≡◌, refl, Bool, true, false, cond, ◌||◌, List, [], ◌∷◌, ◌++◌, ℕ, eqb}
use Rattle.std.proofs.Common.{sym, ap, ap₂, ◌∙◌, append_assoc, eqb-true, ne_eqb}
use Rattle.std.proofs.lemmas.Bool.{eqb-false, or_parts}
use Rattle.model.specs.Record.{Part, joined, has, value_of, decode}
use Rattle.model.specs.Claims.{WholeIn, Bytes, Reordered, empty, ahead, swap, chain, AnyOrderClaim}
use Rattle.theorems.specs.Walks.{Fine, AllFine, whole-record}
use Rattle.theorems.specs.Damage.{whole-iff}
use Rattle.theorems.specs.Written.{all-bytes}
use Rattle.theorems.specs.OneFieldMore.{has_more}
use Rattle.theorems.specs.ReadAlike.{all_alike, read_alike, promise-alike}

-- ---- fields that may stand in one order may stand in any

-- the library's FinSet has it, in a file that nothing else may cite
either_first : (x y z : Bool) → x || (y || z) ≡ y || (x || z)
either_first true true z = refl
either_first true false z = refl
either_first false y z = refl

-- it does not matter which of two fields was seen first
has_both : (t : ℕ) (seen : List Part) (p q : Part) → has t (seen ++ (p ∷ []) ++ (q ∷ [])) ≡ has t (seen ++ (q ∷ []) ++ (p ∷ []))
has_both t seen p q =
    ap (has t) (append_assoc seen (p ∷ []) (q ∷ []))
    ∙ has_more t seen (p ∷ q ∷ [])
    ∙ ap (λ x. has t seen || x) (either_first (eqb p.tag t) (eqb q.tag t) false)
    ∙ sym (has_more t seen (q ∷ p ∷ []))
    ∙ ap (has t) (sym (append_assoc seen (q ∷ []) (p ∷ [])))

-- a tag that is new after a field is new before it, and is another than the field's
record New (t : ℕ) (seen : List Part) (p : Part) : Type 0 where
  before : has t seen ≡ false
  apart : p.tag ≡ t → ⊥

new-of : (t : ℕ) (seen : List Part) (p : Part) → has t (seen ++ (p ∷ [])) ≡ false → New t seen p
new-of t seen p e =
    let x = or_parts (has t seen) (eqb p.tag t || false) (sym (has_more t seen (p ∷ [])) ∙ e) in
    record { before = x.0; apart = eqb-false p.tag t (or_parts (eqb p.tag t) false x.1).0 }

new-after : (t : ℕ) (seen : List Part) (p : Part) → New t seen p → has t (seen ++ (p ∷ [])) ≡ false
new-after t seen p n = has_more t seen (p ∷ []) ∙ ap₂ (λ x y. x || (y || false)) n.before (ne_eqb p.tag t n.apart)

-- of the fields seen only the tags count
fine-after : {seen other : List Part} {p : Part} → Fine seen p → has p.tag other ≡ false → Fine other p
fine-after f n = record { known = f.known; new = n; short = f.short; sized = f.sized }

seen_same : (seen other ps : List Part) → ((t : ℕ) → has t seen ≡ has t other) → AllFine seen ps → AllFine other ps
seen_same seen other [] e f = tt
seen_same seen other (p ∷ ps) e f = (
  fine-after f.0 (sym (e p.tag) ∙ f.0.new),
  seen_same (seen ++ (p ∷ [])) (other ++ (p ∷ [])) ps (λ t. has_more t seen (p ∷ []) ∙ ap (λ x. x || has t (p ∷ [])) (e t) ∙ sym (has_more t other (p ∷ []))) f.1,
)

fine-swapped : (seen : List Part) (p q : Part) (ps : List Part) → AllFine seen (p ∷ q ∷ ps) → AllFine seen (q ∷ p ∷ ps)
fine-swapped seen p q ps f =
    let n = new-of q.tag seen p f.1.0.new in
    let m = new-after p.tag seen q (record { before = f.0.new; apart = λ e. n.apart (sym e) }) in
    let rest = seen_same (seen ++ (p ∷ []) ++ (q ∷ [])) (seen ++ (q ∷ []) ++ (p ∷ [])) ps (λ t. has_both t seen p q) f.1.1 in
    (fine-after f.1.0 n.before, (fine-after f.0 m, rest))

all-fine : {a b : List Part} → Reordered a b → (seen : List Part) → AllFine seen a → AllFine seen b
all-fine empty seen f = f
all-fine (ahead {p} r) seen f = (f.0, all-fine r (seen ++ (p ∷ [])) f.1)
all-fine (swap {p} {q} {a}) seen f = fine-swapped seen p q a f
all-fine (chain r s) seen f = all-fine s seen (all-fine r seen f)

-- ---- whether a tag is there, and its value, do not depend on the order

same-has : {a b : List Part} → Reordered a b → (t : ℕ) → has t b ≡ has t a
same-has empty t = refl
same-has (ahead {p} r) t = ap (λ x. eqb p.tag t || x) (same-has r t)
same-has (swap {p} {q} {a}) t = either_first (eqb q.tag t) (eqb p.tag t) (has t a)
same-has (chain r s) t = same-has s t ∙ same-has r t

value-swapped : (t : ℕ) (p q : Part) (ps : List Part) → (p.tag ≡ q.tag → ⊥) → value_of t (p ∷ q ∷ ps) ≡ value_of t (q ∷ p ∷ ps)
value-swapped t p q ps n = by (eqb p.tag t) refl (eqb q.tag t) refl
  where
    by : (x : Bool) → eqb p.tag t ≡ x → (y : Bool) → eqb q.tag t ≡ y
        → cond x p.value (cond y q.value (value_of t ps)) ≡ cond y q.value (cond x p.value (value_of t ps))
    by true a true b = absurd (n (eqb-true p.tag t a ∙ sym (eqb-true q.tag t b)))
    by true a false b = refl
    by false a y b = refl

same-value : {a b : List Part} → Reordered a b → (seen : List Part) → AllFine seen a → (t : ℕ) → value_of t b ≡ value_of t a
same-value empty seen f t = refl
same-value (ahead {p} r) seen f t = ap (cond (eqb p.tag t) p.value) (same-value r (seen ++ (p ∷ [])) f.1 t)
same-value (swap {p} {q} {a}) seen f t = sym (value-swapped t p q a (new-of q.tag seen p f.1.0.new).apart)
same-value (chain r s) seen f t = same-value s seen (all-fine r seen f) t ∙ same-value r seen f t

-- ---- the record in another order

module _ (rec : List ℕ) (parts other : List Part) (plain : Bytes rec) (w : WholeIn rec parts) (r : Reordered parts other) where
  fine : AllFine [] parts
  fine = (whole-record rec (all-bytes rec plain) parts ((whole-iff rec parts).1 w)).fine

  same-decoded : (rooms : List ℕ) → decode (joined other) rooms ≡ decode rec rooms
  same-decoded rooms =
      read_alike rec parts other w (all-fine r [] fine) (all_alike parts other (same-has r) (same-value r [] fine)) rooms

pub any_order : AnyOrderClaim
any_order =
    record {
      decoded = λ rec rooms parts other plain w r. same-decoded rec parts other plain w r rooms;
      read = λ rec parts other d d' answer plain w r p. promise-alike rec (joined other) (same-decoded rec parts other plain w r) d d' answer p;
    }
