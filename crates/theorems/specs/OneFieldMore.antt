-- The fields of a record, and one more after them. Assumes nothing.
use Rattle.std.specs.Prelude.{◌≡◌, refl, Bool, true, false, cond, ◌||◌, List, [], ◌∷◌, ◌++◌, ℕ, eqb}
use Rattle.std.proofs.Common.{sym, ap, subst, ◌∙◌, append_assoc, append-nil, eq-eqb, ne_eqb}
use Rattle.std.proofs.Math.Bool.{or-false, or_assoc}
use Rattle.model.specs.Record.{Part, has, value_of}
use Rattle.theorems.specs.Truth.{differ}
use Rattle.theorems.specs.Walks.{Fine, AllFine}

-- ---- whether a tag is among them

pub has_more : (t : ℕ) (a b : List Part) → has t (a ++ b) ≡ has t a || has t b
has_more t [] b = refl
has_more t (p ∷ a) b = ap (λ x. eqb p.tag t || x) (has_more t a b) ∙ sym (or_assoc (eqb p.tag t) (has t a) (has t b))

pub has_one : (t : ℕ) (parts : List Part) (p : Part) → has t (parts ++ (p ∷ [])) ≡ (has t parts || eqb p.tag t)
has_one t parts p = has_more t parts (p ∷ []) ∙ ap (λ x. has t parts || x) (or-false (eqb p.tag t))

-- ---- the value of a tag: the new field's, where no other has its tag; those of the other tags stay

pub value-new : (t : ℕ) (parts : List Part) (p : Part) → has t parts ≡ false → p.tag ≡ t → value_of t (parts ++ (p ∷ [])) ≡ p.value
value-new t [] p e q = rw (eq-eqb p.tag t q)
value-new t (x ∷ parts) p e q = by (eqb x.tag t) (λ e. value-new t parts p e q) e
  where
    by : (b : Bool) → (has t parts ≡ false → value_of t (parts ++ (p ∷ [])) ≡ p.value) → (b || has t parts) ≡ false → cond b x.value (value_of t (parts ++ (p ∷ []))) ≡ p.value
    by true f e = differ (cc e)
    by false f e = f e

pub value-else : (t : ℕ) (parts : List Part) (p : Part) → (p.tag ≡ t → ⊥) → value_of t (parts ++ (p ∷ [])) ≡ value_of t parts
value-else t [] p n = ap (λ b. cond b p.value []) (ne_eqb p.tag t n)
value-else t (x ∷ parts) p n = ap (cond (eqb x.tag t) x.value) (value-else t parts p n)

-- ---- a field that may stand there

pub fine_more : (seen parts : List Part) (p : Part) → AllFine seen parts → Fine (seen ++ parts) p → AllFine seen (parts ++ (p ∷ []))
fine_more seen [] p f g = (subst (λ l. Fine l p) (append-nil seen) g, tt)
fine_more seen (q ∷ parts) p f g = (f.0, fine_more (seen ++ (q ∷ [])) parts p f.1 (subst (λ l. Fine l p) (sym (append_assoc seen (q ∷ []) parts)) g))
