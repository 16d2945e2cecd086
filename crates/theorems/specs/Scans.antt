-- A scan finds the lowest index at which its test holds. Assumes nothing.
use Rattle.std.specs.Prelude.{◌≡◌, refl, ◌↔◌, Bool, true, false, cond, ℕ, zero, suc, ◌+◌, ◌≤◌, ◌<◌, T}
use Rattle.std.proofs.Common.{sym, ap, subst, ◌∙◌, ⊎_elim, zero-le, eq-or-lt_of_le, add-zero, add-suc, suc-add, zero-add, not-suc-le-zero, le_of_suc-le-suc, arith}
use Rattle.std.specs.Prelude.{Option, None, Some}
use Rattle.model.specs.Grid.{first_from}
use Rattle.model.specs.Claims.{ScanClaim}
use Rattle.theorems.specs.Truth.{true-T, differ, some≢}

-- i is the lowest index from k on, of m indices
record Found (bad : ℕ → Bool) (m k i : ℕ) : Type 0 where
  low : k ≤ i
  high : i < k + m
  holds : T (bad i)
  first : (x : ℕ) → k ≤ x → x < i → bad x ≡ false

None≢ : {A : Type 0} {i : ℕ} → ◌≡◌ {A = Option ℕ} None (Some i) → A
None≢ h = differ (cc h)

same_some : (k i : ℕ) → Some k ≡ Some i → k ≡ i
same_some k i h = cc

-- by the test at the first index
found-by : (bad : ℕ → Bool) (m k i : ℕ) (t : Bool) → bad k ≡ t → (first_from bad m (suc k) ≡ Some i → Found bad m (suc k) i)
    → cond t (Some k) (first_from bad m (suc k)) ≡ Some i → Found bad (suc m) k i
found-by bad m k i true e h g =
    let z = same_some k i g in record { low = omega arith; high = omega arith; holds = subst (λ x. T (bad x)) z (true-T e); first = λ x p q. absurd (never x p q z) }
  where
    never : (x : ℕ) → k ≤ x → x < i → k ≡ i → ⊥
    never x p q z = omega arith
found-by bad m k i false e h g =
    let r = h g in
    record {
      low = omega (arith, r.low);
      high = omega (arith, r.high);
      holds = r.holds;
      first = λ x p q. ⊎_elim (λ z. subst (λ y. bad y ≡ false) z e) (λ l. r.first x l q) (eq-or-lt_of_le p);
    }

found : (bad : ℕ → Bool) (m k i : ℕ) → first_from bad m k ≡ Some i → Found bad m k i
unfolding first_from
found bad zero k i h = None≢ h
found bad (suc m) k i h = found-by bad m k i (bad k) refl (found bad m (suc k) i) h

find-by : (bad : ℕ → Bool) (m k i : ℕ) (t : Bool) → bad k ≡ t → Found bad (suc m) k i → (Found bad m (suc k) i → first_from bad m (suc k) ≡ Some i)
    → cond t (Some k) (first_from bad m (suc k)) ≡ Some i
find-by bad m k i true e f h = ap Some (⊎_elim (λ z. z) (λ l. absurd (subst T (sym (sym (f.first k (omega arith) l) ∙ e)) tt)) (eq-or-lt_of_le f.low))
find-by bad m k i false e f h =
    ⊎_elim
    (λ z. absurd (subst T e (subst (λ x. T (bad x)) (sym z) f.holds)))
    (λ l. h (record { low = l; high = omega (arith, f.high); holds = f.holds; first = λ x p q. f.first x (omega arith) q }))
    (eq-or-lt_of_le f.low)

find : (bad : ℕ → Bool) (m k i : ℕ) → Found bad m k i → first_from bad m k ≡ Some i
unfolding first_from
find bad zero k i f = absurd (omega (arith, f.low, f.high))
find bad (suc m) k i f = find-by bad m k i (bad k) refl f (find bad m (suc k) i)

pub scan : ScanClaim
scan bad m k = (
  λ h. let f = found bad m 0 k h in (omega (arith, f.high), f.holds, λ i l. f.first i zero-le l),
  λ p. find bad m 0 k (record { low = zero-le; high = omega (arith, p.0); holds = p.1; first = λ x a q. p.2 x q }),
)

-- ---- nothing found

-- by the test at the first index
clean-by : (bad : ℕ → Bool) (m k : ℕ) (t : Bool) → bad k ≡ t → (first_from bad m (suc k) ≡ None → (i : ℕ) → i < m → bad (suc k + i) ≡ false)
    → cond t (Some k) (first_from bad m (suc k)) ≡ None → (i : ℕ) → i < suc m → bad (k + i) ≡ false
clean-by bad m k true e h g i l = some≢ g
clean-by bad m k false e h g zero l = ap bad (add-zero k) ∙ e
clean-by bad m k false e h g (suc i) l = ap bad (add-suc k i ∙ sym (suc-add k i)) ∙ h g i (le_of_suc-le-suc l)

first-clean : (bad : ℕ → Bool) (m k : ℕ) → first_from bad m k ≡ None → (i : ℕ) → i < m → bad (k + i) ≡ false
unfolding first_from
first-clean bad zero k h i l = absurd (not-suc-le-zero l)
first-clean bad (suc m) k h i l = clean-by bad m k (bad k) refl (first-clean bad m (suc k)) h i l

clean-first : (bad : ℕ → Bool) (m k : ℕ) → ((i : ℕ) → i < m → bad (k + i) ≡ false) → first_from bad m k ≡ None
unfolding first_from
clean-first bad zero k h = refl
clean-first bad (suc m) k h =
    ap (λ t. cond t (Some k) (first_from bad m (suc k))) (ap bad (sym (add-zero k)) ∙ h 0 (omega arith))
    ∙ clean-first bad m (suc k) (λ i l. ap bad (suc-add k i ∙ sym (add-suc k i)) ∙ h (suc i) (omega arith))

pub first-iff : (bad : ℕ → Bool) (m : ℕ) → (first_from bad m 0 ≡ None) ↔ ((i : ℕ) → i < m → bad i ≡ false)
first-iff bad m = (λ h i l. ap bad (sym (zero-add i)) ∙ first-clean bad m 0 h i l, λ h. clean-first bad m 0 (λ i l. ap bad (zero-add i) ∙ h i l))
