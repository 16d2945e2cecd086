-- `scheme_totals::energy_at` meets its contract. Assumes nothing.
use mathlib.Core.Path.{◌≡◌, sym, subst, ◌∙◌}
use mathlib.Core.List.{[], ◌∷◌}
use lib.IntN.{ℤ}
use mir.Syntax.{w64}
use Rattle.model.specs.Numbers.{Within, gravity_limits}
use Rattle.model.specs.State.{lent_state}
use Rattle.integers.specs.Ring.{var, ◌⊕◌}
use Rattle.integers.specs.Bounds.{Sizes, ∎, ◌◂◌, held, fits, exact}
use Rattle.integers.specs.Magnitudes.{gravity-size}
use Rattle.grid.specs.Stencils.{around-below}
use Rattle.scheme.specs.Ready.{reads}
use Rattle.scheme_totals.specs.Energy.{most_kinetic, most_potential, potential_at, energy_expr, energy-sizes, energy-around}
use Rattle.scheme_totals.proofs.energy_at.Goals as goal
use Rattle.scheme_totals.proofs.energy_at.Goals.{After-kinetic_at-south}

-- g as the machine holds it
g-is : {g : ℤ} → Within gravity_limits g → held w64 g ≡ g
g-is l = exact w64 (var 0) (gravity-size l ◂ ∎) tt

-- the potential energy of the cell
abbrev potential : After-kinetic_at-south → ℤ
potential c = let s = lent_state c.args.s.now in potential_at s.G s.h s.b c.around-a.result.here

sizes : (c : After-kinetic_at-south) → Sizes (c.kinetic_at-west.result ∷ c.kinetic_at-south.result ∷ potential c ∷ []) (most_kinetic ∷ most_kinetic ∷ most_potential ∷ [])
sizes c =
    let r = c.requires in
    let b = around-below (record { columns = r.0.columns; rows = r.0.rows; column = r.1; row = r.2 }) c.around-a.ensures in
    rw (c.kinetic_at-west.ensures, c.kinetic_at-south.ensures) (energy-sizes r.0 b.here b.west b.south)

pub kinetic_at-south-requires : goal.kinetic_at-south-requires
kinetic_at-south-requires c =
    let r = c.requires in
    let b = around-below (record { columns = r.0.columns; rows = r.0.rows; column = r.1; row = r.2 }) c.around-a.ensures in
    (reads r.0.vs b.here, reads r.0.depths b.south, reads r.0.depths b.here)

pub overflow_add-result : goal.overflow_add-result
overflow_add-result c = fits (var 0 ⊕ var 1) (sizes (goal.at.overflow_add-result c).After-kinetic_at-south) tt

pub potential_at-requires : goal.potential_at-requires
potential_at-requires c =
    let r = c.requires in
    let b = around-below (record { columns = r.0.columns; rows = r.0.rows; column = r.1; row = r.2 }) c.around-a.ensures in
    (subst (Within gravity_limits) (sym (g-is r.0.gravity)) r.0.gravity, reads r.0.depths b.here, reads r.0.bottoms b.here)

pub overflow_add-result-2 : goal.overflow_add-result-2
overflow_add-result-2 c =
    let k = (goal.at.overflow_add-result-2 c).After-kinetic_at-south in
    rw (c.potential_at.ensures, g-is c.requires.0.gravity) (fits energy_expr (sizes k) tt)

pub returns : goal.returns
returns c =
    let k = (goal.at.returns c).After-kinetic_at-south in
    rw (c.potential_at.ensures, g-is c.requires.0.gravity)
    (exact w64 energy_expr (sizes k) tt ∙ rw (c.kinetic_at-west.ensures, c.kinetic_at-south.ensures) (energy-around (lent_state c.args.s.now) c.around-a.ensures))
