-- Places of a list that are each as a property says, and a store at one of them. Assumes nothing.
use Rattle.std.specs.Prelude.{◌≡◌, refl, Bool, true, false, List, ℕ, ◌+◌, ◌≤◌, ◌<◌, eqb, length, get_or, set}
use Rattle.std.proofs.Common.{sym, subst, zero-le, arith, get_or-set_same, get_or-set_other, eqb-true}
use Rattle.std.proofs.lemmas.Bool.{eqb-false}

-- places a to e of l are as P says
pub record Each {A : Type 0} (P : ℕ → A → Type 0) (a e : ℕ) (l : List A) : Type 0 where
  pub at : (d : A) (i : ℕ) → a ≤ i → i < e → P i (get_or l i d)

module _ {A : Type 0} {P : ℕ → A → Type 0} where
  pub each_none : {l : List A} → Each P 0 0 l
  each_none = record { at = λ d k a e. absurd (omega arith) }

  module _ {i : ℕ} {l : List A} where
    -- a store at place i
    pub each_more : {x : A} → Each P 0 i l → i < length l → P i x → Each P 0 (i + 1) (set l i x)
    each_more {x} h p r = record { at = λ d k a e. by d k (eqb k i) refl e }
      where
        by : (d : A) (k : ℕ) (here : Bool) → eqb k i ≡ here → k < i + 1 → P k (get_or (set l i x) k d)
        by d k true z e = subst (λ (k : ℕ). P k (get_or (set l i x) k d)) (sym (eqb-true k i z)) (subst (P i) (sym (get_or-set_same l i x d p)) r)
        by d k false z e = subst (P k) (sym (get_or-set_other l i k x d (eqb-false k i z))) (h.at d k zero-le (omega (arith, eqb-false k i z)))

    pub each-past : (x : A) {e : ℕ} → Each P i e l → Each P (i + 1) e (set l i x)
    each-past x h = record { at = λ d k a e. subst (P k) (sym (get_or-set_other l i k x d (above k a))) (h.at d k (omega arith) e) }
      where
        above : (k : ℕ) → i + 1 ≤ k → k ≡ i → ⊥
        above k a z = omega arith

    pub each_all : {w : ℕ} → Each P 0 i l → w ≤ i → Each P 0 w l
    each_all h p = record { at = λ d k a e. h.at d k a (omega arith) }
