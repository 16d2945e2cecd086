-- Truth of tests that compute, and how equivalences are put together. Assumes nothing.
use Rattle.std.specs.Prelude.{◌≡◌, refl, ◌↔◌, ◌⊎◌, Bool, true, false, not, ◌&&◌, ◌||◌, List, [], ◌∷◌, ℕ, ◌≤◌, ◌<◌, T, eqb, leb, ltb}
use Rattle.std.proofs.Common.{sym, ap₂, subst, ◌∙◌, inl, inr, ⊎_elim, arith, eqb→eq, leb→le, le→leb, eq-eqb, ltb-true, lt-ltb}
use Rattle.std.specs.Prelude.{None, Some}
use Rattle.model.specs.Numbers.{same_by}

-- The library's `T_from_true` is this, of a test that is named; here it is inferred.
pub true-T : {b : Bool} → b ≡ true → T b
true-T e = subst T (sym e) tt

-- The library has it in files that nothing else may cite.
pub T_true : (b : Bool) → T b → b ≡ true
T_true true t = refl
T_true false t = absurd t

contradiction : {b : Bool} → b ≡ true → b ≡ false → ⊥
contradiction p q = subst T (sym p ∙ q) tt

pub and-iff : (a b : Bool) → T (a && b) ↔ (T a × T b)
and-iff true b = (λ t. (tt, t), λ p. p.1)
and-iff false b = (λ t. absurd t, λ p. absurd p.0)

pub or-iff : (a b : Bool) → T (a || b) ↔ (T a ⊎ T b)
or-iff true b = (λ t. inl tt, λ c. tt)
or-iff false b = (λ t. inr t, ⊎_elim (λ t. absurd t) (λ t. t))

-- what does not hold of a test is told by it; the library's `not_T` says `T (not b)`
pub not_T : (b : Bool) → (T b → ⊥) → b ≡ false
not_T true n = absurd (n tt)
not_T false n = refl

pub not_iff : (b : Bool) → (not b ≡ false) ↔ T b
not_iff true = (λ e. tt, λ t. refl)
not_iff false = (λ e. absurd (contradiction {b = true} refl e), λ t. absurd t)

pub le_iff : (m n : ℕ) → T (leb m n) ↔ (m ≤ n)
le_iff m n = (leb→le m n, le→leb m n)

pub eq_iff : (m n : ℕ) → T (eqb m n) ↔ (m ≡ n)
eq_iff m n = (eqb→eq m n, λ e. true-T (eq-eqb m n e))

pub lt_iff : (a b : ℕ) → T (ltb a b) ↔ (a < b)
lt_iff a b = (λ t. ltb-true a b (T_true (ltb a b) t), λ l. true-T (lt-ltb a b l))

-- one after the other
infixr 30 ◌⟫◌
pub ◌⟫◌ : {A B C : Type 0} → A ↔ B → B ↔ C → A ↔ C
f ⟫ g = (λ a. g.0 (f.0 a), λ c. f.1 (g.1 c))

pub same : {A : Type 0} → A ↔ A
same = (λ a. a, λ a. a)

-- the library's stands in a file that may not be cited
pub both : {A B C D : Type 0} → A ↔ C → B ↔ D → (A × B) ↔ (C × D)
both i j = (λ p. (i.0 p.0, j.0 p.1), λ p. (i.1 p.0, j.1 p.1))

pub either : {A B C D : Type 0} → A ↔ C → B ↔ D → (A ⊎ B) ↔ (C ⊎ D)
either i j = (⊎_elim (λ a. inl (i.0 a)) (λ b. inr (j.0 b)), ⊎_elim (λ c. inl (i.1 c)) (λ d. inr (j.1 d)))

-- two lists that are the same by a test of their elements
pub same_by_lem : {A : Type 0} (eq : A → A → Bool) → ((x y : A) → T (eq x y) → x ≡ y) → (a b : List A) → T (same_by eq a b) → a ≡ b
same_by_lem eq h [] [] t = refl
same_by_lem eq h [] (y ∷ b) t = absurd t
same_by_lem eq h (x ∷ a) [] t = absurd t
same_by_lem eq h (x ∷ a) (y ∷ b) t = let p = (and-iff (eq x y) (same_by eq a b)).0 t in ap₂ ◌∷◌ (h x y p.0) (same_by_lem eq h a b p.1)

pub by-same : {A : Type 0} (eq : A → A → Bool) → ((x : A) → T (eq x x)) → (a : List A) → T (same_by eq a a)
by-same eq h [] = tt
by-same eq h (x ∷ a) = (and-iff (eq x x) (same_by eq a a)).1 (h x, by-same eq h a)

-- `cc` tells two constructors apart by 0 and 1
pub differ : {A : Type 0} → ◌≡◌ {A = ℕ} 0 1 → A
differ z = absurd (omega arith)

pub some≢ : {A B : Type 0} {x : A} → Some x ≡ None → B
some≢ h = differ (cc h)
