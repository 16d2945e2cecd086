-- `scheme::tendencies_at` meets its contract. Assumes nothing.
use mathlib.Core.Path.{◌≡◌, sym, ap₂, ◌∙◌}
use mathlib.Core.Bool.{false, cond}
use lib.Dec.{eqb}
use borrow.Author.Rules.{rules}
use mir.Facts.{to_z-of_z}
use mir.Syntax.{w64}
use Rattle.model.specs.State.{closed_west, closed_south}
use Rattle.model.specs.Scheme.{to_west, to_south}
use Rattle.integers.specs.Bounds.{Abs, abs-as, held, held-is}
use Rattle.grid.specs.Cells.{previous-lt}
use Rattle.scheme.specs.Ready.{walled}
use Rattle.scheme.specs.Shares.{most_share, Fit, weights_in, fluxes_in, head_in, east_share_at, north_share_at, u-edge, v-edge}
use Rattle.scheme.specs.SchemeSizes.{share-held, west-size, east-size, south-size, north-size, fit-in}
use Rattle.scheme.specs.Masking.{west-walled, south-walled}
use Rattle.scheme.specs.Handing.{west-beyond, south-beyond}
use Rattle.scheme.proofs.tendencies_at.Goals as goal
use Rattle.scheme.proofs.tendencies_at.Goals.{After-other_share-from_south}

-- with all that the two edges need worked out
module _ (c : After-other_share-from_south) where
  -- whether the edges are closed
  west-closed : c.is_walled-wall_west.result ≡ closed_west (walled c.args.s.now) c.args.i c.args.j
  west-closed = c.is_walled-wall_west.ensures ∙ west-walled (walled c.args.s.now) c.args.i c.args.j

  south-closed : c.is_walled-wall_south.result ≡ closed_south (walled c.args.s.now) c.args.i c.args.j
  south-closed = c.is_walled-wall_south.ensures ∙ south-walled (walled c.args.s.now) c.args.i c.args.j

  -- the cell's own shares
  own : let s = walled c.args.s.now in Fit (weights_in s c.args.q.now c.args.i c.args.j) (fluxes_in s c.args.i c.args.j) (head_in s c.args.i c.args.j)
  own = let p = c.requires in fit-in p.0 p.1 p.2

  own-west : Abs c.shares_at-own.result.west most_share
  own-west = abs-as c.shares_at-own.ensures.west (west-size own)

  own-south : Abs c.shares_at-own.result.south most_share
  own-south = abs-as c.shares_at-own.ensures.south (south-size own)

  east-is : held w64 c.shares_at-own.result.east ≡ east_share_at (walled c.args.s.now) c.args.q.now c.args.i c.args.j
  east-is = let e = c.shares_at-own.ensures.east in share-held (abs-as e (east-size own)) ∙ e

  north-is : held w64 c.shares_at-own.result.north ≡ north_share_at (walled c.args.s.now) c.args.q.now c.args.i c.args.j
  north-is = let e = c.shares_at-own.ensures.north in share-held (abs-as e (north-size own)) ∙ e

  -- the shares of the cells beyond the edges, where these are open
  from-west : let s = walled c.args.s.now in closed_west s c.args.i c.args.j ≡ false
      → held w64 c.other_share-from_west.result ≡ east_share_at s c.args.q.now (to_west s c.args.i) c.args.j
  from-west o =
      let x = c.other_share-from_west in
      held-is w64 x.type_inv (x.ensures ∙ ap₂ (cond (eqb c.args.s.now.p.w 1)) east-is (to_z-of_z c.ranges.west) ∙ west-beyond c.requires.3 c.requires.1 o)

  from-south : let s = walled c.args.s.now in closed_south s c.args.i c.args.j ≡ false
      → held w64 c.other_share-from_south.result ≡ north_share_at s c.args.q.now c.args.i (to_south s c.args.j)
  from-south o =
      let x = c.other_share-from_south in
      held-is w64 x.type_inv (x.ensures ∙ ap₂ (cond (eqb c.args.s.now.p.n 1)) north-is (to_z-of_z c.ranges.south) ∙ south-beyond c.requires.4 c.requires.2 o)

pub edge_tendency-requires : goal.edge_tendency-requires
edge_tendency-requires c =
    let k = (goal.at.edge_tendency-requires c).After-other_share-from_south in
    let p = c.requires in (
      abs-as (share-held (own-west k)) (own-west k),
      λ o. abs-as (from-west k (sym (west-closed k) ∙ o)) (east-size (fit-in p.0 (previous-lt _ _ p.0.state.columns.some) p.2)),
    )

pub edge_tendency-requires-2 : goal.edge_tendency-requires-2
edge_tendency-requires-2 c =
    let k = (goal.at.edge_tendency-requires-2 c).After-other_share-from_south in
    let p = c.requires in (
      abs-as (share-held (own-south k)) (own-south k),
      λ o. abs-as (from-south k (sym (south-closed k) ∙ o)) (north-size (fit-in p.0 p.1 (previous-lt _ _ p.0.state.rows.some))),
    )

pub returns : goal.returns
returns c =
    let k = (goal.at.returns c).After-other_share-from_south in
    let s = walled c.args.s.now in
    let e = c.shares_at-own.ensures in
    record {
      depth = held-is w64 (search rules) e.depth;
      u = held-is w64 c.edge_tendency.type_inv (c.edge_tendency.ensures ∙ u-edge s c.args.q.now c.args.i c.args.j (west-closed k) (share-held (own-west k) ∙ e.west) (from-west k));
      v = held-is w64 c.edge_tendency-2.type_inv (c.edge_tendency-2.ensures ∙ v-edge s c.args.q.now c.args.i c.args.j (south-closed k) (share-held (own-south k) ∙ e.south) (from-south k));
      east = east-is k;
      north = north-is k;
    }
