-- `scheme::moved_velocity` meets its contract. The divisor and the change are shown to fit by their sizes (`fits`, `exact`), so that
-- the machine's arithmetic is that of whole numbers. Assumes nothing.
use Rattle.std.proofs.Common.{◌≡◌, sym, ap, subst, ◌∙◌, ℤ, pos, w64, to_z-of_z}
use Rattle.std.proofs.Math.Path.{ap₂}
use Rattle.std.specs.Prelude.{◌+ℤ◌, ◌*ℤ◌, ◌≤ℤ◌}
use Rattle.model.specs.Numbers.{Within, rnd, ratio_limits}
use Rattle.integers.specs.Ring.{Expr, var, con, ◌⊕◌, ◌⊗◌}
use Rattle.integers.specs.Order.{≤_trans}
use Rattle.integers.specs.Bounds.{Abs, ∎, ◌◂◌, abs-as, held, size, fits, exact}
use Rattle.integers.specs.Magnitudes.{ratio-size, velocity-size}
use Rattle.integers.specs.Rounding.{most_dividend, most_divisor}
use Rattle.scheme.specs.Passing.{most_change, change-divisor, change-size}
use Rattle.scheme.proofs.moved_velocity.Goals as goal
use Rattle.scheme.proofs.moved_velocity.Goals.{After-rnd}

abbrev scaled : Expr
scaled = con (pos 3145728) ⊗ var 0

-- 3,145,728 R as the machine holds it
divides : {r : ℤ} → Within ratio_limits r → held w64 (pos 3145728 *ℤ held w64 r) ≡ pos 3145728 *ℤ r
divides p = exact w64 scaled (ratio-size p ◂ ∎) tt

change-is : (c : After-rnd) → c.rnd.result ≡ rnd c.args.t (pos 3145728 *ℤ c.args.r)
change-is c = c.rnd.ensures ∙ ap₂ rnd (to_z-of_z c.ranges.t) (divides c.requires.2)

small : (c : After-rnd) → Abs c.rnd.result most_change
small c = abs-as (change-is c) (change-size c.requires.1 c.requires.2)

pub overflow_mul-r : goal.overflow_mul-r
overflow_mul-r c = fits scaled (ratio-size c.requires.2 ◂ ∎) tt

pub rnd-requires : goal.rnd-requires
rnd-requires c =
    let p = c.requires in
    let small : Abs c.args.t most_dividend = size (var 0) (p.1 ◂ ∎) tt in
    let most : Abs (pos 3145728 *ℤ c.args.r) most_divisor = size scaled (ratio-size p.2 ◂ ∎) tt in
    record {
      small = (abs-as (to_z-of_z c.ranges.t) small).abs;
      some = subst (λ (z : ℤ). pos 1 ≤ℤ z) (sym (divides p.2)) (≤_trans (record { le = tt }) (change-divisor p.2));
      most = (abs-as (divides p.2) most).abs;
    }

pub overflow_add-result : goal.overflow_add-result
overflow_add-result c = fits (var 0 ⊕ var 1) (velocity-size c.requires.0 ◂ small c ◂ ∎) tt

pub returns : goal.returns
returns c = exact w64 (var 0 ⊕ var 1) (velocity-size c.requires.0 ◂ small c ◂ ∎) tt ∙ ap (λ z. c.args.x +ℤ z) (change-is c)
