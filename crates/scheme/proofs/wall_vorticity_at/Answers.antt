-- `scheme::wall_vorticity_at` meets its contract: on a wall Z is c, whatever the velocities are. Assumes nothing.
use mathlib.Core.Path.{◌≡◌, ap₂, ◌∙◌}
use lib.IntN.{ℤ, pos, ◌*ℤ◌}
use mir.Syntax.{w64}
use Rattle.model.specs.Numbers.{Within, coriolis_limits, rnd}
use Rattle.model.specs.State.{lent_state, with_flow}
use Rattle.model.specs.Scheme.{Z, vorticity_at}
use Rattle.integers.specs.Ring.{var}
use Rattle.integers.specs.Bounds.{∎, ◌◂◌, abs-as, held, held-is, exact, size}
use Rattle.integers.specs.Magnitudes.{coriolis-size}
use Rattle.grid.specs.Corners.{cells-below}
use Rattle.scheme.specs.Ready.{reads}
use Rattle.scheme.specs.Around.{divides, depth-around}
use Rattle.scheme.proofs.wall_vorticity_at.Goals as goal

-- c as the machine holds it
c-is : {c : ℤ} → Within coriolis_limits c → held w64 c ≡ c
c-is l = exact w64 (var 0) (coriolis-size l ◂ ∎) tt

pub depth_around-depth-requires : goal.depth_around-depth-requires
depth_around-depth-requires c =
    let h = c.requires.3 in
    let b = cells-below c.requires.0 c.cells_around-a.ensures in (reads h b.ne, reads h b.nw, reads h b.se, reads h b.sw)

pub vorticity_of-requires : goal.vorticity_of-requires
vorticity_of-requires c =
    let l = c.requires.2 in
    let d = divides c.requires.3 (cells-below c.requires.0 c.cells_around-a.ensures) (held-is w64 c.depth_around-depth.type_inv c.depth_around-depth.ensures) in
    (abs-as (c-is l) (size (var 0) (coriolis-size l ◂ ∎) tt), d.0, d.1)

pub returns : goal.returns
unfolding vorticity_at Z
returns c u v =
    let s = with_flow (lent_state c.args.s.now) c.args.s.now.h.now u v in
    let z : c.args.s.now.p.c ≡ Z s c.args.x c.args.y = rw c.requires.1 in
    let h = c.depth_around-depth.ensures ∙ depth-around s c.requires.0 c.cells_around-a.ensures in
    held-is w64 c.vorticity_of.type_inv
    (c.vorticity_of.ensures ∙ ap₂ (λ (z h : ℤ). rnd (pos 262144 *ℤ z) h) (c-is c.requires.2 ∙ z) (held-is w64 c.depth_around-depth.type_inv h))
