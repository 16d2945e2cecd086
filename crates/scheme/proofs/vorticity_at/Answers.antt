-- `scheme::vorticity_at` meets its contract. Assumes nothing.
use mathlib.Core.Path.{◌≡◌, sym, ap₂, subst, ◌∙◌}
use mathlib.Core.Bool.{Bool, true, false, cond}
use lib.IntN.{ℤ, pos, ◌*ℤ◌}
use mir.Syntax.{w64}
use Rattle.model.specs.Numbers.{Within, coriolis_limits, rnd}
use Rattle.model.specs.State.{lent_state}
use Rattle.model.specs.Scheme.{Z, vorticity_at}
use Rattle.integers.specs.Ring.{var}
use Rattle.integers.specs.Bounds.{Abs, ∎, ◌◂◌, abs-as, held, held-is, exact, size}
use Rattle.integers.specs.Magnitudes.{coriolis-size, absolute-vorticity-size}
use Rattle.grid.specs.Corners.{cells-below}
use Rattle.scheme.specs.Ready.{reads}
use Rattle.scheme.specs.Around.{divides, absolute-vorticity-around, depth-around}
use Rattle.scheme.proofs.vorticity_at.Goals as goal

-- c as the machine holds it
c-is : {c : ℤ} → Within coriolis_limits c → held w64 c ≡ c
c-is l = exact w64 (var 0) (coriolis-size l ◂ ∎) tt

-- Z, on a wall or not
z-size : (wall : Bool) {c z : ℤ} → Within coriolis_limits c → Abs z 30000 → Abs (cond wall c z) 30000
z-size true l h = size (var 0) (coriolis-size l ◂ ∎) tt
z-size false l h = h

pub absolute_vorticity-z-requires : goal.absolute_vorticity-z-requires
absolute_vorticity-z-requires c =
    let s = c.requires.0 in
    let b = cells-below c.requires.1 c.cells_around-a.ensures in
    (subst (Within coriolis_limits) (sym (c-is s.coriolis)) s.coriolis, reads s.vs b.ne, reads s.vs b.nw, reads s.us b.se, reads s.us b.ne)

pub depth_around-depth-requires : goal.depth_around-depth-requires
depth_around-depth-requires c =
    let h = c.requires.0.depths in
    let b = cells-below c.requires.1 c.cells_around-a.ensures in (reads h b.ne, reads h b.nw, reads h b.se, reads h b.sw)

pub vorticity_of-requires : goal.vorticity_of-requires
vorticity_of-requires c =
    let s = c.requires.0 in
    let b = cells-below c.requires.1 c.cells_around-a.ensures in
    let u = s.us.each in
    let v = s.vs.each in
    let z = rw (c-is s.coriolis) at c.absolute_vorticity-z.ensures in
    let d = divides s.depths b (held-is w64 c.depth_around-depth.type_inv c.depth_around-depth.ensures) in (
      abs-as (held-is w64 c.absolute_vorticity-z.type_inv z)
          (z-size c.is_on_wall-wall.result s.coriolis (absolute-vorticity-size s.coriolis (v _ b.ne) (v _ b.nw) (u _ b.se) (u _ b.ne))),
      d.0,
      d.1,
    )

pub returns : goal.returns
unfolding vorticity_at
returns c =
    let s = lent_state c.args.s.now in
    let a = c.cells_around-a.ensures in
    let z : c.absolute_vorticity-z.result ≡ Z s c.args.x c.args.y = c.absolute_vorticity-z.ensures ∙ rw (c-is c.requires.0.coriolis, c.is_on_wall-wall.ensures) (absolute-vorticity-around s c.requires.1 a) in
    let h = c.depth_around-depth.ensures ∙ depth-around s c.requires.1 a in
    held-is w64 c.vorticity_of.type_inv
    (c.vorticity_of.ensures
    ∙ ap₂ (λ (z h : ℤ). rnd (pos 262144 *ℤ z) h) (held-is w64 c.absolute_vorticity-z.type_inv z) (held-is w64 c.depth_around-depth.type_inv h))
