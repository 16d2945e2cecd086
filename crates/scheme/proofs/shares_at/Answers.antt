-- `scheme::shares_at` meets its contract. Assumes nothing.
use mathlib.Core.Path.{◌≡◌, sym, subst, ◌∙◌}
use lib.ListN.{length}
use mir.Syntax.{w64}
use Rattle.model.specs.Numbers.{bottom_limits}
use Rattle.model.specs.State.{walled_west, walled_south, corners, FieldWithin, lent_state}
use Rattle.model.specs.Scheme.{B, D, divergence}
use Rattle.integers.specs.Bounds.{abs-as, held, held-is}
use Rattle.integers.specs.Magnitudes.{vorticity-size}
use Rattle.grid.specs.Stencils.{around-below}
use Rattle.grid.specs.Corners.{corners-more, Below4, corners-below}
use Rattle.scheme.specs.Ready.{walled, reads, Flow}
use Rattle.scheme.specs.Shares.{AreShares, weights_in, fluxes_in, head_in}
use Rattle.scheme.specs.Around.{weights-around, fluxes-around, bernoulli-around}
use Rattle.scheme.specs.SchemeSizes.{B-size, fit-in}
use Rattle.scheme.proofs.shares_at.Goals as goal
use Rattle.scheme.proofs.shares_at.Goals.{After-cell_corners-k, After-bernoulli_at-bernoulli}

corners-in : (c : After-cell_corners-k) → Below4 (corners (lent_state c.args.s.now)) c.cell_corners-k.result
corners-in c =
    let s = lent_state c.args.s.now in
    corners-below (corners-more (walled_west s) c.requires.1) (corners-more (walled_south s) c.requires.2) c.cell_corners-k.ensures

-- the fields as the functions that read them ask for them: cells are counted by the length of h
flow : (c : After-cell_corners-k) → let s = lent_state c.args.s.now in Flow (length s.h) s c.around-a.result
flow c =
    let s = c.requires.0.state in
    let around = around-below (record { columns = s.columns; rows = s.rows; column = c.requires.1; row = c.requires.2 }) c.around-a.ensures in
    subst (λ m. Flow m (lent_state c.args.s.now) c.around-a.result) (sym s.depths.long) (record { depths = s.depths; us = s.us; vs = s.vs; around = around })

-- what each call tells is the model's
module _ (c : After-bernoulli_at-bernoulli) where
  weights-are : c.weights_of-weights.result ≡ weights_in (walled c.args.s.now) c.args.q.now c.args.i c.args.j
  weights-are = weights-around (walled c.args.s.now) c.cell_corners-k.ensures c.args.q.now c.corners_at.result c.weights_of-weights.result c.corners_at.ensures c.weights_of-weights.ensures

  fluxes-are : c.fluxes_at-fluxes.result ≡ fluxes_in (walled c.args.s.now) c.args.i c.args.j
  fluxes-are = fluxes-around (walled c.args.s.now) c.around-a.ensures c.fluxes_at-fluxes.result c.requires.1 c.requires.2 c.fluxes_at-fluxes.ensures

  bernoulli-is : held w64 c.bernoulli_at-bernoulli.result ≡ B (walled c.args.s.now) c.args.i c.args.j
  bernoulli-is = held-is w64 c.bernoulli_at-bernoulli.type_inv (c.bernoulli_at-bernoulli.ensures ∙ bernoulli-around (walled c.args.s.now) c.around-a.ensures)

pub corners_at-requires : goal.corners_at-requires
corners_at-requires c =
    let b = corners-in (goal.at.corners_at-requires c).After-cell_corners-k in
    let q = c.requires.0.vorticity in ((reads q b.ne).inside, (reads q b.nw).inside, (reads q b.sw).inside, (reads q b.se).inside)

pub weights_of-weights-requires : goal.weights_of-weights-requires
weights_of-weights-requires c =
    let b = corners-in (goal.at.weights_of-weights-requires c).After-cell_corners-k in
    let q = c.requires.0.vorticity.each in
    let e = c.corners_at.ensures in
    record {
      ne = abs-as e.0 (vorticity-size (q _ b.ne));
      nw = abs-as e.1 (vorticity-size (q _ b.nw));
      sw = abs-as e.2 (vorticity-size (q _ b.sw));
      se = abs-as e.3 (vorticity-size (q _ b.se));
    }

pub fluxes_at-fluxes-requires : goal.fluxes_at-fluxes-requires
fluxes_at-fluxes-requires c = flow (goal.at.fluxes_at-fluxes-requires c).After-cell_corners-k

pub bernoulli_at-bernoulli-requires : goal.bernoulli_at-bernoulli-requires
bernoulli_at-bernoulli-requires c =
    let s = c.requires.0.state in
    (s.gravity, flow (goal.at.bernoulli_at-bernoulli-requires c).After-cell_corners-k, subst (λ m. FieldWithin bottom_limits m c.args.s.now.b.now) (sym s.depths.long) s.bottoms)

pub shares_of-requires : goal.shares_of-requires
shares_of-requires c =
    let p = c.requires in
    let k = (goal.at.shares_of-requires c).After-bernoulli_at-bernoulli in
    rw (weights-are k, fluxes-are k, bernoulli-is k) (fit-in p.0 p.1 p.2, B-size p.0.state p.1 p.2)

pub returns : goal.returns
unfolding D divergence
returns c =
    let s = walled c.args.s.now in
    let k = (goal.at.returns c).After-bernoulli_at-bernoulli in
    let e : AreShares (weights_in s c.args.q.now c.args.i c.args.j) (fluxes_in s c.args.i c.args.j) (head_in s c.args.i c.args.j) c.shares_of.result = rw (weights-are k, fluxes-are k, bernoulli-is k) at c.shares_of.ensures in
    record { depth = e.depth; west = e.west; east = e.east; south = e.south; north = e.north }
