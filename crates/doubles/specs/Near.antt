-- A double near a whole number: with a wider bound, and with none left. Assumes nothing.
use Rattle.std.specs.Prelude.{◌≡◌, ℕ, ◌≤◌, ℤ, pos, negsuc, nat_abs, ◌-ℤ◌, Float}
use Rattle.std.proofs.Common.{sym, ap, subst, zero-le, le_trans, not-suc-le-zero, arith}
use Rattle.std.proofs.Math.IntN.{+ℤ_invr}
use Rattle.model.specs.Doubles.{IsWhole, IsNear}
use Rattle.integers.specs.Laws.{eq-of-sub}

-- the number of no size
pub is_zero : (d : ℤ) → nat_abs d ≤ 0 → d ≡ pos 0
is_zero (pos n) h = ap pos (omega arith)
is_zero (negsuc n) h = absurd (not-suc-le-zero h)

module _ {x : Float} {z : ℤ} where
  pub near-weaken : {k l : ℕ} → k ≤ l → IsNear k x z → IsNear l x z
  near-weaken h n = record { whole = n.whole; is = n.is; close = le_trans n.close h }

  pub whole-near : {k : ℕ} → IsWhole x z → IsNear k x z
  whole-near {k} w = record { whole = z; is = w; close = subst (λ d. nat_abs d ≤ k) (sym (+ℤ_invr z)) zero-le }

  pub near-exact : IsNear 0 x z → IsWhole x z
  near-exact n = subst (IsWhole x) (eq-of-sub n.whole z (is_zero (n.whole -ℤ z) n.close)) n.is
