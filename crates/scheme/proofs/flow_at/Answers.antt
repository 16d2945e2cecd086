-- `scheme::flow_at` meets its contract. The divisor is 2R, and flux and divisor are within what `rnd` takes by their sizes. Assumes
-- nothing.
use Rattle.std.proofs.Common.{◌≡◌, sym, subst, ◌∙◌, ℤ, pos, w64}
use Rattle.std.proofs.Math.Path.{ap₂}
use Rattle.std.specs.Prelude.{◌*ℤ◌, ◌≤ℤ◌}
use Rattle.model.specs.Numbers.{Within, rnd, ratio_limits}
use Rattle.integers.specs.Ring.{Expr, var, con, ◌⊗◌}
use Rattle.integers.specs.Order.{≤_trans}
use Rattle.integers.specs.Bounds.{Abs, ∎, ◌◂◌, abs-as, held, held-is, size, fits, exact}
use Rattle.integers.specs.Magnitudes.{ratio-size}
use Rattle.integers.specs.Rounding.{most_dividend, most_divisor}
use Rattle.scheme.specs.Shares.{flux_at}
use Rattle.scheme.specs.SchemeSizes.{flux-size}
use Rattle.scheme.specs.Passing.{flow-divisor}
use Rattle.scheme.proofs.flow_at.Goals as goal

abbrev twice : Expr
twice = con (pos 2) ⊗ var 0

-- 2R as the machine holds it
divides : {r : ℤ} → Within ratio_limits r → held w64 (pos 2 *ℤ held w64 r) ≡ pos 2 *ℤ r
divides p = exact w64 twice (ratio-size p ◂ ∎) tt

pub overflow_mul-r : goal.overflow_mul-r
overflow_mul-r c = fits twice (ratio-size c.requires.0 ◂ ∎) tt

pub rnd-requires : goal.rnd-requires
rnd-requires c =
    let a = c.args in
    let p = c.requires in
    let small : Abs (flux_at a.x.now a.h.now a.k a.l) most_dividend = size (var 0) (flux-size p.1 p.2 p.3 ◂ ∎) tt in
    let most : Abs (pos 2 *ℤ a.r) most_divisor = size twice (ratio-size p.0 ◂ ∎) tt in
    record {
      small = (abs-as (held-is w64 c.flux_at.type_inv c.flux_at.ensures) small).abs;
      some = subst (λ (z : ℤ). pos 1 ≤ℤ z) (sym (divides p.0)) (≤_trans (record { le = tt }) (flow-divisor p.0));
      most = (abs-as (divides p.0) most).abs;
    }

pub returns : goal.returns
returns c = held-is w64 c.rnd.type_inv (c.rnd.ensures ∙ ap₂ rnd (held-is w64 c.flux_at.type_inv c.flux_at.ensures) (divides c.requires.0))
