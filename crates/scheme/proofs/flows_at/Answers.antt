-- `scheme::flows_at` meets its contract. Assumes nothing.
use mathlib.Core.Path.{◌≡◌, sym, subst, ◌∙◌}
use lib.IntN.{ℤ}
use mir.Syntax.{w64}
use Rattle.model.specs.Numbers.{Within, ratio_limits}
use Rattle.model.specs.State.{lent_state}
use Rattle.integers.specs.Ring.{var}
use Rattle.integers.specs.Bounds.{∎, ◌◂◌, held, held-is, exact}
use Rattle.integers.specs.Magnitudes.{ratio-size}
use Rattle.grid.specs.Stencils.{around-below}
use Rattle.scheme.specs.Ready.{reads}
use Rattle.scheme.specs.Around.{x-around, y-around}
use Rattle.scheme.proofs.flows_at.Goals as goal

-- R as the machine holds it
ratio-is : {r : ℤ} → Within ratio_limits r → held w64 r ≡ r
ratio-is l = exact w64 (var 0) (ratio-size l ◂ ∎) tt

pub flow_at-requires-2 : goal.flow_at-requires-2
flow_at-requires-2 c =
    let s = c.requires.0 in
    let b = around-below (record { columns = s.columns; rows = s.rows; column = c.requires.1; row = c.requires.2 }) c.around-a.ensures in
    (subst (Within ratio_limits) (sym (ratio-is s.ratio)) s.ratio, reads s.vs b.here, reads s.depths b.south, reads s.depths b.here)

pub returns : goal.returns
returns c =
    let s = lent_state c.args.s.now in
    let r = ratio-is c.requires.0.ratio in (
      held-is w64 c.flow_at.type_inv (c.flow_at.ensures ∙ rw r (x-around s c.around-a.ensures)),
      held-is w64 c.flow_at-2.type_inv (c.flow_at-2.ensures ∙ rw r (y-around s c.around-a.ensures)),
    )
