-- A list of tests, for any calls: it finds nothing exactly where each passes, and r exactly where r's cause holds. Assumes nothing.
use Rattle.std.specs.Prelude.{◌≡◌, refl, ◌↔◌, ◌⊎◌, Bool, true, false, List, [], ◌∷◌, ◌++◌, ℕ, T}
use Rattle.std.proofs.Common.{sym, ap, ◌∙◌, inl, inr, ⊎_elim}
use Rattle.std.specs.Prelude.{Option, None, Some}
use Rattle.model.specs.Grid.{first_from}
use Rattle.model.specs.Tests.{Test, asks, seeks, must, found_at, found, ◌then◌, first_found}
use Rattle.model.specs.Claims.{Passes, Fails, EachPasses, Cause, TestClaim}
use Rattle.theorems.specs.Truth.{◌⟫◌, both, some≢}
use Rattle.theorems.specs.Scans.{scan, first-iff}

-- ---- one test

module _ {R : Type 0} where
  pub then-iff : (a b : Option R) → (a then b ≡ None) ↔ ((a ≡ None) × (b ≡ None))
  then-iff None b = (λ h. (refl, h), λ p. p.1)
  then-iff (Some r) b = (λ h. some≢ h, λ p. some≢ p.0)

  pub must-iff : (t : Bool) (r : R) → (must t r ≡ None) ↔ T t
  must-iff true r = (λ h. tt, λ t. refl)
  must-iff false r = (λ h. some≢ h, λ t. absurd t)

  at_none : (r : ℕ → R) (o : Option ℕ) → (found_at r o ≡ None) ↔ (o ≡ None)
  at_none r None = (λ e. refl, λ e. refl)
  at_none r (Some k) = (λ e. some≢ e, λ e. some≢ e)

  at_some : (own : ℕ → R) (o : Option ℕ) (r : R) → (found_at own o ≡ Some r) ↔ ((k : ℕ) × (own k ≡ r) × (o ≡ Some k))
  at_some own None r = (λ e. some≢ (sym e), λ p. some≢ (sym p.2))
  at_some own (Some k) r = (λ e. (k, cc e, refl), λ p. let h : k ≡ p.0 = cc p.2 in ap Some (ap own h ∙ p.1))

  must-some : (t : Bool) (own r : R) → (must t own ≡ Some r) ↔ ((T t → ⊥) × (own ≡ r))
  must-some true own r = (λ e. some≢ (sym e), λ p. absurd (p.0 tt))
  must-some false own r = (λ e. (λ a. absurd a, cc e), λ p. ap Some p.1)

  pub passes-iff : (t : Test R) → (found t ≡ None) ↔ Passes t
  passes-iff (asks t r) = must-iff t r
  passes-iff (seeks bad m r) = at_none r (first_from bad m 0) ⟫ first-iff bad m

  fails-iff : (t : Test R) (r : R) → (found t ≡ Some r) ↔ Fails t r
  fails-iff (asks t own) r = must-some t own r
  fails-iff (seeks bad m own) r =
      let i = at_some own (first_from bad m 0) r in (
        λ e. let p = i.0 e in (p.0, p.1, (scan bad m p.0).0 p.2),
        λ p. i.1 (p.0, p.1, (scan bad m p.0).1 p.2),
      )

  -- ---- a list of them

  then_some : (a b : Option R) (r : R) {A N B : Type 0} → (a ≡ Some r) ↔ A → (a ≡ None) ↔ N → (b ≡ Some r) ↔ B → (a then b ≡ Some r) ↔ (A ⊎ (N × B))
  then_some None b r i n j = (λ e. inr (n.0 refl, j.0 e), λ c. ⊎_elim (λ a. some≢ (sym (i.1 a))) (λ p. j.1 p.1) c)
  then_some (Some x) b r i n j = (λ e. inl (i.0 e), λ c. ⊎_elim (λ a. i.1 a) (λ p. some≢ (n.1 p.0)) c)

  pub passes : (l : List (Test R)) → (first_found l ≡ None) ↔ EachPasses l
  passes [] = (λ e. tt, λ t. refl)
  passes (t ∷ l) = then-iff (found t) (first_found l) ⟫ both (passes-iff t) (passes l)

  pub finds : (l : List (Test R)) (r : R) → (first_found l ≡ Some r) ↔ Cause l r
  finds [] r = (λ e. some≢ (sym e), λ x. absurd x)
  finds (t ∷ l) r = then_some (found t) (first_found l) r (fails-iff t r) (passes-iff t) (finds l r)

  -- one list after another
  pub then-assoc : (a b c : Option R) → (a then b) then c ≡ a then (b then c)
  then-assoc None b c = refl
  then-assoc (Some r) b c = refl

  pub found-append : (a b : List (Test R)) → first_found (a ++ b) ≡ first_found a then first_found b
  found-append [] b = refl
  found-append (t ∷ a) b = ap (λ o. found t then o) (found-append a b) ∙ sym (then-assoc (found t) (first_found a) (first_found b))

  pub passes_append : (a b : List (Test R)) → EachPasses (a ++ b) ↔ (EachPasses a × EachPasses b)
  passes_append [] b = (λ p. (tt, p), λ p. p.1)
  passes_append (t ∷ a) b =
      let i = passes_append a b in
      (λ p. let q = i.0 p.1 in ((p.0, q.0), q.1), λ p. (p.0.0, i.1 (p.0.1, p.1)))

  -- a property of each thing that a list of tests can find holds of what it finds
  abbrev pub Only : (R → Type 0) → Option R → Type 0
  Only Q None = Unit
  Only Q (Some r) = Q r

  abbrev pub OnlyBy : (R → Type 0) → Test R → Type 0
  OnlyBy Q (asks t r) = Q r
  OnlyBy Q (seeks bad m r) = (k : ℕ) → Q (r k)

  abbrev pub EachOnly : (R → Type 0) → List (Test R) → Type 0
  EachOnly Q [] = Unit
  EachOnly Q (t ∷ l) = OnlyBy Q t × EachOnly Q l

  pub only-append : (Q : R → Type 0) (a b : List (Test R)) → EachOnly Q a → EachOnly Q b → EachOnly Q (a ++ b)
  only-append Q [] b p q = q
  only-append Q (t ∷ a) b p q = (p.0, only-append Q a b p.1 q)

  must-only : (Q : R → Type 0) (t : Bool) (r : R) → Q r → Only Q (must t r)
  must-only Q true r q = tt
  must-only Q false r q = q

  at_only : (Q : R → Type 0) (r : ℕ → R) (o : Option ℕ) → ((k : ℕ) → Q (r k)) → Only Q (found_at r o)
  at_only Q r None q = tt
  at_only Q r (Some k) q = q k

  test-only : (Q : R → Type 0) (t : Test R) → OnlyBy Q t → Only Q (found t)
  test-only Q (asks t r) q = must-only Q t r q
  test-only Q (seeks bad m r) q = at_only Q r (first_from bad m 0) q

  then-only : (Q : R → Type 0) (a b : Option R) → Only Q a → Only Q b → Only Q (a then b)
  then-only Q None b p q = q
  then-only Q (Some r) b p q = p

  pub found-only : (Q : R → Type 0) (l : List (Test R)) → EachOnly Q l → Only Q (first_found l)
  found-only Q [] q = tt
  found-only Q (t ∷ l) q = then-only Q (found t) (first_found l) (test-only Q t q.0) (found-only Q l q.1)

pub tests : {R : Type 0} → TestClaim R
tests = record { passes = passes; finds = finds }
