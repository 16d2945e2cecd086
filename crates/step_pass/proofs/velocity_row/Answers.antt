-- `step_pass::velocity_row` meets its contract. Assumes nothing.
use mathlib.Core.Path.{◌≡◌, refl, sym, ap₂, subst, ◌∙◌}
use Prim.Native.Nat.{ℕ, ◌+◌, ◌*◌, ◌<◌}
use native.Mathlib.Omega.{arith}
use lib.IntN.{ℤ, pos, ◌+ℤ◌, ◌*ℤ◌}
use lib.ListN.{get_or}
use mir.Syntax.{w64}
use Rattle.model.specs.Numbers.{Within, rnd, velocity_limits, ratio_limits}
use Rattle.model.specs.State.{State, cells}
use Rattle.model.specs.Scheme.{tendency_u, tendency_v}
use Rattle.model.specs.Step.{new_u, new_v}
use Rattle.integers.specs.Ring.{var}
use Rattle.integers.specs.Bounds.{∎, ◌◂◌, abs-as, held, held-is, exact}
use Rattle.integers.specs.Magnitudes.{velocity-size, ratio-size}
use Rattle.grid.specs.Cells.{cell-lt}
use Rattle.grid.specs.WritingLoops.{row-none, row-filled, row-whole}
use Rattle.scheme.specs.Ready.{walled}
use Rattle.scheme.specs.SchemeSizes.{share-held, east-size, north-size, fit-in}
use Rattle.scheme.specs.Passing.{tendency_u-size, tendency_v-size}
use Rattle.scheme.specs.Handing.{FromWest, to-east, handing-none, handing-more, handing-all}
use Rattle.step_pass.proofs.velocity_row.Goals as goal
use Rattle.step_pass.proofs.velocity_row.Goals.{After-tendencies_at-at_west}

module _ (c : After-tendencies_at-at_west) where
  abbrev state : State
  state = walled c.args.s.now

  -- the cell's index
  abbrev k : ℕ
  k = c.args.j * state.w + c.loop-i.i

  below : k < cells state
  below = cell-lt c.loop-i-test.true c.requires.1

  -- the base's velocities, the tendencies and R, as the machine holds them
  old-u : held w64 (get_or c.args.base_u.now k (pos 0)) ≡ get_or c.args.base_u.now k (pos 0)
  old-u = exact w64 (var 0) (velocity-size (c.requires.0.us.each k below) ◂ ∎) tt

  old-v : held w64 (get_or c.args.base_v.now k (pos 0)) ≡ get_or c.args.base_v.now k (pos 0)
  old-v = exact w64 (var 0) (velocity-size (c.requires.0.vs.each k below) ◂ ∎) tt

  u-is : held w64 c.tendencies_at-at_west.result.u ≡ tendency_u state c.args.q.now c.loop-i.i c.args.j
  u-is =
      let e = c.tendencies_at-at_west.ensures.u in
      exact w64 (var 0) (abs-as e (tendency_u-size c.requires.0.given c.loop-i-test.true c.requires.1) ◂ ∎) tt ∙ e

  v-is : held w64 c.tendencies_at-at_west.result.v ≡ tendency_v state c.args.q.now c.loop-i.i c.args.j
  v-is =
      let e = c.tendencies_at-at_west.ensures.v in
      exact w64 (var 0) (abs-as e (tendency_v-size c.requires.0.given c.loop-i-test.true c.requires.1) ◂ ∎) tt ∙ e

  ratio-is : held w64 state.R ≡ state.R
  ratio-is = exact w64 (var 0) (ratio-size c.requires.0.ratio ◂ ∎) tt

  ratio-within : Within ratio_limits (held w64 state.R)
  ratio-within = subst (Within ratio_limits) (sym ratio-is) c.requires.0.ratio

moved_by : {x y t t' r r' : ℤ} → x ≡ y → t ≡ t' → r ≡ r' → x +ℤ rnd t (pos 3145728 *ℤ r) ≡ y +ℤ rnd t' (pos 3145728 *ℤ r')
moved_by e f g = ap₂ ◌+ℤ◌ e (ap₂ (λ t r. rnd t (pos 3145728 *ℤ r)) f g)

pub loop-i-init : goal.loop-i-init
loop-i-init c =
    let j = c.args.j in
    let x = c.from_west-from_west in
    (row-none _ _ _ j, row-none _ _ _ j, handing-none c.requires.2, subst (FromWest (walled c.args.s.now) c.args.q.now 0 j) (sym (held-is w64 x.type_inv refl)) x.ensures)

pub moved_velocity-new_u-requires : goal.moved_velocity-new_u-requires
moved_velocity-new_u-requires c =
    let t = (goal.at.moved_velocity-new_u-requires c).After-tendencies_at-at_west in (
      subst (Within velocity_limits) (sym (old-u t)) (c.requires.0.us.each (k t) (below t)),
      abs-as (u-is t) (tendency_u-size c.requires.0.given c.loop-i-test.true c.requires.1),
      ratio-within t,
    )

pub moved_velocity-new_v-requires : goal.moved_velocity-new_v-requires
moved_velocity-new_v-requires c =
    let t = (goal.at.moved_velocity-new_v-requires c).After-tendencies_at-at_west in (
      subst (Within velocity_limits) (sym (old-v t)) (c.requires.0.vs.each (k t) (below t)),
      abs-as (v-is t) (tendency_v-size c.requires.0.given c.loop-i-test.true c.requires.1),
      ratio-within t,
    )

pub bounds-u-k : goal.bounds-u-k
bounds-u-k c = let l = below (goal.at.bounds-u-k c).After-tendencies_at-at_west in omega (arith, l, c.loop-i.invariant.0.long, c.requires.3)

pub bounds-v-k : goal.bounds-v-k
bounds-v-k c = let l = below (goal.at.bounds-v-k c).After-tendencies_at-at_west in omega (arith, l, c.loop-i.invariant.1.long, c.requires.4)

pub loop-i-preserved : goal.loop-i-preserved
unfolding new_u new_v
loop-i-preserved c =
    let t = (goal.at.loop-i-preserved c).After-tendencies_at-at_west in
    let inv = c.loop-i.invariant in
    let p = c.loop-i-test.true in
    let r = c.requires.1 in
    let fit = fit-in c.requires.0.given p r in
    let e = c.tendencies_at-at_west.ensures in
    let x = c.moved_velocity-new_u in
    let y = c.moved_velocity-new_v in (
      row-filled _ _ _ inv.0 p r (held-is w64 x.type_inv (x.ensures ∙ moved_by (old-u t) (u-is t) (ratio-is t))),
      row-filled _ _ _ inv.1 p r (held-is w64 y.type_inv (y.ensures ∙ moved_by (old-v t) (v-is t) (ratio-is t))),
      handing-more inv.2 (omega (arith, inv.2.long, c.requires.2.long)) r (share-held (abs-as e.north (north-size fit)) ∙ e.north),
      to-east p (share-held (abs-as e.east (east-size fit)) ∙ e.east),
    )

pub returns : goal.returns
returns c =
    let inv = c.loop-i.invariant in
    let all = c.loop-i-test.false in
    (row-whole _ _ _ inv.0 all, row-whole _ _ _ inv.1 all, handing-all inv.2 all c.requires.2.long)
