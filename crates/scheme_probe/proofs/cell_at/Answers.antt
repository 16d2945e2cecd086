-- `scheme_probe::cell_at` meets its contract. Assumes nothing.
use mathlib.Core.Path.{sym, subst, ◌∙◌}
use mathlib.Core.List.{List}
use lib.Dec.{lit≤}
use lib.IntN.{ℤ}
use Rattle.model.specs.State.{State, lent_state, walled_west, walled_south, cells, corners}
use Rattle.integers.specs.Magnitudes.{depth-size, bottom-size, velocity-size, vorticity-size}
use Rattle.grid.specs.Stencils.{Below, around-below}
use Rattle.grid.specs.Corners.{corners-more, Below4, corners-below}
use Rattle.scheme.specs.Ready.{TendenciesReady}
use Rattle.scheme_probe.specs.Held.{Holds, holds}
use Rattle.scheme_probe.specs.Cells.{weight-around, west-around, east-around, south-around, north-around, bernoulli-around}
use Rattle.scheme_probe.proofs.cell_at.Goals as goal
use Rattle.scheme_probe.proofs.cell_at.Goals.{After-cell_corners-k}

-- a double holds each number of the fields
record Held (s : State) (q : List ℤ) : Type 0 where
  h : Holds (cells s) s.h
  b : Holds (cells s) s.b
  u : Holds (cells s) s.u
  v : Holds (cells s) s.v
  vorticities : Holds (corners s) q

held_in : {s : State} {q : List ℤ} → TendenciesReady s q → Held s q
held_in r =
    let s = r.state in
    record {
      h = holds 100000 (λ x p. depth-size p) (lit≤ tt) s.depths;
      b = holds 100000 (λ x p. bottom-size p) (lit≤ tt) s.bottoms;
      u = holds 5000 (λ x p. velocity-size p) (lit≤ tt) s.us;
      v = holds 5000 (λ x p. velocity-size p) (lit≤ tt) s.vs;
      vorticities = holds 2000000 (λ x p. vorticity-size p) (lit≤ tt) r.vorticity;
    }

module _ (c : After-cell_corners-k) where
  below : Below (cells (lent_state c.args.s.now)) c.around-a.result
  below =
      let p = c.requires in
      around-below (record { columns = p.0.state.columns; rows = p.0.state.rows; column = p.1; row = p.2 }) c.around-a.ensures

  corners-in : Below4 (corners (lent_state c.args.s.now)) c.cell_corners-k.result
  corners-in =
      let s = lent_state c.args.s.now in
      corners-below (corners-more (walled_west s) c.requires.1) (corners-more (walled_south s) c.requires.2) c.cell_corners-k.ensures

pub corners_at-requires : goal.corners_at-requires
corners_at-requires c =
    let k = (goal.at.corners_at-requires c).After-cell_corners-k in
    subst (λ m. Holds m c.args.q.now × Below4 m c.cell_corners-k.result) (sym c.requires.0.vorticity.long) ((held_in c.requires.0).vorticities, corners-in k)

pub weights_of-requires : goal.weights_of-requires
weights_of-requires c =
    let b = corners-in (goal.at.weights_of-requires c).After-cell_corners-k in
    let q = c.requires.0.vorticity.each in
    let e = c.corners_at.ensures in
    record {
      ne = record { number = _; is = e.0; small = vorticity-size (q _ b.ne) };
      nw = record { number = _; is = e.1; small = vorticity-size (q _ b.nw) };
      sw = record { number = _; is = e.2; small = vorticity-size (q _ b.sw) };
      se = record { number = _; is = e.3; small = vorticity-size (q _ b.se) };
    }

pub flux_at-requires : goal.flux_at-requires
flux_at-requires c =
    let f = held_in c.requires.0 in
    let b = below (goal.at.flux_at-requires c).After-cell_corners-k in (f.u _ b.here, f.h _ b.west, f.h _ b.here)

pub flux_at-requires-2 : goal.flux_at-requires-2
flux_at-requires-2 c =
    let f = held_in c.requires.0 in
    let b = below (goal.at.flux_at-requires-2 c).After-cell_corners-k in (f.u _ b.east, f.h _ b.here, f.h _ b.east)

pub flux_at-requires-3 : goal.flux_at-requires-3
flux_at-requires-3 c =
    let f = held_in c.requires.0 in
    let b = below (goal.at.flux_at-requires-3 c).After-cell_corners-k in (f.v _ b.here, f.h _ b.south, f.h _ b.here)

pub flux_at-requires-4 : goal.flux_at-requires-4
flux_at-requires-4 c =
    let f = held_in c.requires.0 in
    let b = below (goal.at.flux_at-requires-4 c).After-cell_corners-k in (f.v _ b.north, f.h _ b.here, f.h _ b.north)

pub bernoulli_at-requires : goal.bernoulli_at-requires
bernoulli_at-requires c =
    let f = held_in c.requires.0 in
    let b = below (goal.at.bernoulli_at-requires c).After-cell_corners-k in
    (c.requires.0.state.gravity, f.h _ b.here, f.b _ b.here, f.u _ b.here, f.u _ b.east, f.v _ b.here, f.v _ b.north)

pub returns : goal.returns
returns c =
    let s = lent_state c.args.s.now in
    let q = c.args.q.now in
    let r = c.around-a.ensures in
    let o = c.cell_corners-k.ensures in
    let told = c.corners_at.result in
    let read = c.corners_at.ensures in
    let rows = c.weights_of.ensures in
    record {
      p = rows.0 ∙ weight-around s o q 0 told read;
      m = rows.1 ∙ weight-around s o q 1 told read;
      e = rows.2 ∙ weight-around s o q 2 told read;
      f = rows.3 ∙ weight-around s o q 3 told read;
      west = c.flux_at.ensures ∙ west-around s r;
      east = c.flux_at-2.ensures ∙ east-around s r c.requires.1;
      south = c.flux_at-3.ensures ∙ south-around s r;
      north = c.flux_at-4.ensures ∙ north-around s r c.requires.2;
      bernoulli = c.bernoulli_at.ensures ∙ bernoulli-around s r;
    }
