-- A loop that scans for the first index at which a test holds, over any test. Assumes nothing.
use Rattle.std.specs.Prelude.{◌≡◌, Bool, true, false, cond}
use Rattle.std.proofs.Common.{sym, subst, ◌∙◌, le_antisymm, le_refl, mul_comm, add-one}
use Rattle.std.proofs.Math.Path.{ap}
use Rattle.std.specs.Prelude.{None, Some}
use Prim.Native.Nat.{ℕ, suc, ◌+◌, ◌-◌, ◌*◌, ◌≤◌, ◌<◌}
use native.Mathlib.Omega.{arith}
use Rattle.model.specs.Grid.{first_from}

-- of m indices the first k have passed: what is found is found among the rest
pub record Scanned (bad : ℕ → Bool) (m k : ℕ) : Type 0 where
  pub rest : first_from bad m 0 ≡ first_from bad (m - k) k

module _ {bad : ℕ → Bool} {m : ℕ} where
  pub scanned-at : {k l : ℕ} → Scanned bad m k → k ≡ l → Scanned bad m l
  scanned-at p e = subst (λ (k : ℕ). Scanned bad m k) e p

  step : {k : ℕ} → Scanned bad m k → k < m → first_from bad m 0 ≡ cond (bad k) (Some k) (first_from bad (m - suc k) (suc k))
  unfolding first_from
  step {k} p h = p.rest ∙ ap (λ (x : ℕ). first_from bad x k) (one_less m k h)
    where
      one_less : (m k : ℕ) → k < m → m - k ≡ suc (m - suc k)
      one_less m k h = omega arith

  pub scanned-more : {k : ℕ} → Scanned bad m k → k < m → bad k ≡ false → Scanned bad m (k + 1)
  scanned-more {k} p h e = scanned-at (record { rest = step p h ∙ rw e }) (sym (add-one k))

  pub scanned-bad : {k : ℕ} → Scanned bad m k → k < m → bad k ≡ true → first_from bad m 0 ≡ Some k
  scanned-bad {k} p h e = step p h ∙ rw e

  pub scanned-all : {k : ℕ} → Scanned bad m k → m ≤ k → first_from bad m 0 ≡ None
  unfolding first_from
  scanned-all {k} p h = p.rest ∙ ap (λ (x : ℕ). first_from bad x k) (none_left m k h)
    where
      none_left : (m k : ℕ) → m ≤ k → m - k ≡ 0
      none_left m k h = omega arith

-- by rows of w indices: all n of them have passed
pub rows-scanned : {bad : ℕ → Bool} (w n : ℕ) {j : ℕ} → j ≤ n → n ≤ j → Scanned bad (w * n) (j * w) → first_from bad (w * n) 0 ≡ None
rows-scanned w n {j} h l p = scanned-all (scanned-at p (ap (λ j. j * w) (le_antisymm h l) ∙ mul_comm n w)) (le_refl (w * n))
