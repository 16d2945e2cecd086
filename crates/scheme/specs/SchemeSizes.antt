-- How large the numbers of the scheme become, for a state within the limits. Assumes nothing.
use Rattle.std.specs.Prelude.{◌≡◌, Bool, List, [], ◌∷◌, ℕ, zero, suc, ◌*◌, ◌<◌, T, leb, ℤ, pos, nat_abs, get_or}
use Rattle.std.proofs.Common.{leb→le}
use Rattle.std.specs.Int.{w64}
use Rattle.std.proofs.Math.Facts.{and_yes}
use Rattle.model.specs.Numbers.{Within, all, depth_limits, bottom_limits, velocity_limits, gravity_limits}
use Rattle.model.specs.Grid.{at}
use Rattle.model.specs.State.{State, Side, cells, walled_west, walled_south, corner_columns, corner_rows, FieldWithin}
use Rattle.model.specs.Scheme.{corner_weight, weight, flux_u, flux_v, B}
use Rattle.model.specs.Weights.{weights, weight_at, weighted}
use Rattle.integers.specs.Ring.{Expr, var, con, ◌⊕◌, ◌⊖◌, ◌⊗◌}
use Rattle.integers.specs.Bounds.{Abs, Sizes, ∎, ◌◂◌, held, size, exact}
use Rattle.integers.specs.Magnitudes.{depth-size, bottom-size, velocity-size, gravity-size, vorticity-size}
use Rattle.grid.specs.Cells.{cell-lt, previous-lt, next-lt}
use Rattle.grid.specs.Corners.{corners-some, corners-more}
use Rattle.scheme.specs.Ready.{ReadsAt, reads, StateReady, TendenciesReady}
use Rattle.scheme.specs.Shares.{most_corner, most_weight, most_flux, most_bernoulli, most_head, most_share, flux_at, squares_at, geopotential_at, Fit, west_share, east_share, south_share, north_share, weights_in, fluxes_in, head_in}
use Rattle.scheme.specs.declared.Weights.{Weights}
use Rattle.scheme.specs.declared.Fluxes.{Fluxes}

-- ---- weights

-- a test that holds of each element holds of the one at any index, and of what stands for one past the end
every : {A : Type 0} (p : A → Bool) (l : List A) (k : ℕ) (d : A) → T (all p l) → T (p d) → T (p (get_or l k d))
every p [] k d h e = e
every p (x ∷ l) zero d h e = (and_yes (p x) (all p l) h).0
every p (x ∷ l) (suc k) d h e = every p l k d (and_yes (p x) (all p l) h).1 e

abbrev small : ℤ → Bool
small z = leb (nat_abs z) 2

pub table-size : (row corner : ℕ) → Abs (weight_at row corner) 2
unfolding weights weight_at
table-size row corner = record { abs = leb→le _ 2 (every small (get_or weights row []) corner (pos 0) (every (all small) weights row [] tt tt) tt) }

-- a row's weights over four corners
abbrev pub weighted_expr : Expr
weighted_expr = var 0 ⊗ var 4 ⊕ var 1 ⊗ var 5 ⊕ var 2 ⊗ var 6 ⊕ var 3 ⊗ var 7

weighted-size : (row : ℕ) {ne nw sw se : ℤ} → Abs ne most_corner → Abs nw most_corner → Abs sw most_corner → Abs se most_corner → Abs (weighted row ne nw sw se) most_weight
unfolding weighted
weighted-size row a b c d =
    size weighted_expr
    (table-size row 0 ◂ table-size row 1 ◂ table-size row 2 ◂ table-size row 3 ◂ a ◂ b ◂ c ◂ d ◂ ∎)
    tt

-- ---- by index

abbrev pub flux_expr : Expr
flux_expr = var 0 ⊗ (var 1 ⊕ var 2)

abbrev pub squares_expr : Expr
squares_expr = var 0 ⊗ var 0 ⊕ var 1 ⊗ var 1

abbrev pub geopotential_expr : Expr
geopotential_expr = con (pos 4) ⊗ var 0 ⊗ (var 1 ⊕ var 2)

-- the numbers of each, and their sizes
module _ {x : List ℤ} {k l : ℕ} where
  pub flux-sizes : {h : List ℤ} → ReadsAt velocity_limits x k → ReadsAt depth_limits h l → ReadsAt depth_limits h k
      → Sizes (get_or x k (pos 0) ∷ get_or h l (pos 0) ∷ get_or h k (pos 0) ∷ []) (5000 ∷ 100000 ∷ 100000 ∷ [])
  flux-sizes a b c = velocity-size a.value ◂ depth-size b.value ◂ depth-size c.value ◂ ∎

  pub flux-size : {h : List ℤ} → ReadsAt velocity_limits x k → ReadsAt depth_limits h l → ReadsAt depth_limits h k → Abs (flux_at x h k l) most_flux
  flux-size a b c = size flux_expr (flux-sizes a b c) tt

  pub squares-sizes : ReadsAt velocity_limits x k → ReadsAt velocity_limits x l → Sizes (get_or x k (pos 0) ∷ get_or x l (pos 0) ∷ []) (5000 ∷ 5000 ∷ [])
  squares-sizes a b = velocity-size a.value ◂ velocity-size b.value ◂ ∎

  pub squares-size : ReadsAt velocity_limits x k → ReadsAt velocity_limits x l → Abs (squares_at x k l) 50000000
  squares-size a b = size squares_expr (squares-sizes a b) tt

module _ {g : ℤ} {h b : List ℤ} {k : ℕ} where
  pub geopotential-sizes : Within gravity_limits g → ReadsAt depth_limits h k → ReadsAt bottom_limits b k
      → Sizes (g ∷ get_or h k (pos 0) ∷ get_or b k (pos 0) ∷ []) (10000 ∷ 100000 ∷ 100000 ∷ [])
  geopotential-sizes a b c = gravity-size a ◂ depth-size b.value ◂ bottom-size c.value ◂ ∎

  pub geopotential-size : Within gravity_limits g → ReadsAt depth_limits h k → ReadsAt bottom_limits b k → Abs (geopotential_at g h b k) 8000000000
  geopotential-size a b c = size geopotential_expr (geopotential-sizes a b c) tt

-- ---- shares

-- a Bernoulli value, scaled as the tendencies are
abbrev pub head_expr : Expr
head_expr = con (pos 786432) ⊗ var 0

-- the weights P, M, E, F, the fluxes west, east, south, north, and the scaled Bernoulli value
module _ {ws : Weights ℤ} {fs : Fluxes} {head : ℤ} (h : Fit ws fs head) where
  pub fit-sizes : Sizes (ws.p ∷ ws.m ∷ ws.e ∷ ws.f ∷ fs.west ∷ fs.east ∷ fs.south ∷ fs.north ∷ head ∷ [])
      (most_weight ∷ most_weight ∷ most_weight ∷ most_weight ∷ most_flux ∷ most_flux ∷ most_flux ∷ most_flux ∷ most_head ∷ [])
  fit-sizes = h.p ◂ h.m ◂ h.e ◂ h.f ◂ h.west ◂ h.east ◂ h.south ◂ h.north ◂ h.bernoulli ◂ ∎

-- the shares as expressions over these
abbrev pub west_expr : Expr
west_expr = var 0 ⊗ var 7 ⊕ var 1 ⊗ var 6 ⊖ var 2 ⊗ var 5 ⊖ var 8

abbrev pub east_expr : Expr
east_expr = var 1 ⊗ var 7 ⊕ var 0 ⊗ var 6 ⊕ var 2 ⊗ var 4 ⊕ var 8

abbrev pub south_expr : Expr
south_expr = con (pos 0) ⊖ var 0 ⊗ var 5 ⊖ var 1 ⊗ var 4 ⊖ var 3 ⊗ var 7 ⊖ var 8

abbrev pub north_expr : Expr
north_expr = con (pos 0) ⊖ var 0 ⊗ var 4 ⊖ var 1 ⊗ var 5 ⊕ var 3 ⊗ var 6 ⊕ var 8

-- such a share is kept by the machine
pub share-held : {x : ℤ} → Abs x most_share → held w64 x ≡ x
share-held h = exact w64 (var 0) (h ◂ ∎) tt

module _ {ws : Weights ℤ} {fs : Fluxes} {head : ℤ} (h : Fit ws fs head) where
  pub west-size : Abs (west_share ws fs head) most_share
  west-size = size west_expr (fit-sizes h) tt

  pub east-size : Abs (east_share ws fs head) most_share
  east-size = size east_expr (fit-sizes h) tt

  pub south-size : Abs (south_share ws fs head) most_share
  south-size = size south_expr (fit-sizes h) tt

  pub north-size : Abs (north_share ws fs head) most_share
  north-size = size north_expr (fit-sizes h) tt

-- ---- of a state

speed : {w n : ℕ} {f : List ℤ} {i j : ℕ} → FieldWithin velocity_limits (w * n) f → i < w → j < n → Abs (at w f i j) 5000
speed f p r = velocity-size (reads f (cell-lt p r)).value

-- of a state whose depths are within the limits
module _ (s : State) (h : FieldWithin depth_limits (cells s) s.h) {i j : ℕ} (p : i < s.w) (r : j < s.n) where
  pub flux_u-size : Side s.w → FieldWithin velocity_limits (cells s) s.u → Abs (flux_u s i j) most_flux
  unfolding flux_u
  flux_u-size l u = flux-size (reads u (cell-lt p r)) (reads h (cell-lt (previous-lt s.w i l.some) r)) (reads h (cell-lt p r))

  pub flux_v-size : Side s.n → FieldWithin velocity_limits (cells s) s.v → Abs (flux_v s i j) most_flux
  unfolding flux_v
  flux_v-size l v = flux-size (reads v (cell-lt p r)) (reads h (cell-lt p (previous-lt s.n j l.some))) (reads h (cell-lt p r))

module _ {s : State} (l : StateReady s) {i j : ℕ} (p : i < s.w) (r : j < s.n) where
  pub B-size : Abs (B s i j) most_bernoulli
  unfolding B
  B-size =
      let east = next-lt s.w i l.columns.some in
      let north = next-lt s.n j l.rows.some in
      size (var 0 ⊗ var 0 ⊕ var 1 ⊗ var 1 ⊕ var 2 ⊗ var 2 ⊕ var 3 ⊗ var 3 ⊕ con (pos 4) ⊗ var 4 ⊗ (var 5 ⊕ var 6))
      (speed l.us p r ◂ speed l.us east r ◂ speed l.vs p r ◂ speed l.vs p north ◂ gravity-size l.gravity
      ◂ depth-size (reads l.depths (cell-lt p r)).value ◂ bottom-size (reads l.bottoms (cell-lt p r)).value ◂ ∎)
      tt

module _ {s : State} {q : List ℤ} (l : TendenciesReady s q) {i j : ℕ} (p : i < s.w) (r : j < s.n) where
  weight-size : (row : ℕ) → Abs (weight s q row i j) most_weight
  unfolding corner_weight
  weight-size row =
      let west = corners-more (walled_west s) p in
      let south = corners-more (walled_south s) r in
      let east = next-lt (corner_columns s) i (corners-some (walled_west s) l.state.columns.some) in
      let north = next-lt (corner_rows s) j (corners-some (walled_south s) l.state.rows.some) in
      weighted-size row
      (vorticity-size (reads l.vorticity (cell-lt east north)).value)
      (vorticity-size (reads l.vorticity (cell-lt west north)).value)
      (vorticity-size (reads l.vorticity (cell-lt west south)).value)
      (vorticity-size (reads l.vorticity (cell-lt east south)).value)

  pub fit-in : Fit (weights_in s q i j) (fluxes_in s i j) (head_in s i j)
  fit-in =
      let east = next-lt s.w i l.state.columns.some in
      let north = next-lt s.n j l.state.rows.some in
      record {
        p = weight-size 0;
        m = weight-size 1;
        e = weight-size 2;
        f = weight-size 3;
        west = flux_u-size s l.state.depths p r l.state.columns l.state.us;
        east = flux_u-size s l.state.depths east r l.state.columns l.state.us;
        south = flux_v-size s l.state.depths p r l.state.rows l.state.vs;
        north = flux_v-size s l.state.depths p north l.state.rows l.state.vs;
        bernoulli = size head_expr (B-size l.state p r ◂ ∎) tt;
      }
