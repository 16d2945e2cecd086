-- How far 01's tendencies in doubles are from the whole ones: -D is the same; Tu and Tv are near, and of narrow numbers the same.
-- The formulas stand here once more as terms, and the checker computes how far off they are. Assumes nothing.
use Rattle.std.specs.Prelude.{List, [], ◌∷◌, ℕ, ◌+◌, ◌*◌, ◌<◌, T, leb, ℤ, pos, neg_ℤ, get_or}
use Rattle.std.proofs.Common.{arith}
use Rattle.std.specs.Float.Ieee.{size, span, climb}
use Rattle.model.specs.Numbers.{bernoulli_scale}
use Rattle.model.specs.Grid.{next}
use Rattle.model.specs.State.{State, cells, walled_west, walled_south, corner_columns, corner_rows, corners}
use Rattle.model.specs.Weights.{weights, weight_at, weighted}
use Rattle.model.specs.Scheme as Whole
use Rattle.model.specs.Scheme.{to_east, to_west, to_north, to_south, divergence, momentum_u, momentum_v, corner_weight}
use Rattle.model.specs.Doubles as Double
use Rattle.model.specs.Doubles.{IsWhole, IsNear}
use Rattle.integers.specs.Bounds.{Abs, Sizes, ∎, ◌◂◌, sized}
use Rattle.grid.specs.Cells.{cell-lt, previous-lt, next-lt}
use Rattle.grid.specs.Corners.{corners-some, corners-more}
use Rattle.doubles.specs.Near.{near-exact}
use Rattle.doubles.specs.Terms.{Term, var, con, minus, ◌⊕◌, ◌⊖◌, ◌⊗◌, near, tame, error}

-- ---- how large the numbers are

-- how far from zero depths, bottom heights, velocities and potential vorticity are at most
pub record Most : Type 0 where
  pub depth : ℕ
  pub bottom : ℕ
  pub velocity : ℕ
  pub corner : ℕ

-- by 01's bounds, and by 02's narrow ones
abbrev pub wide_sizes : Most
wide_sizes = record { depth = 100000; bottom = 100000; velocity = 5000; corner = 2000000 }

abbrev pub narrow_sizes : Most
narrow_sizes = record { depth = 10000; bottom = 10000; velocity = 500; corner = 1000000 }

pub record Sized (m : Most) (s : State) (q : List ℤ) : Type 0 where
  pub g : Abs s.G 10000
  pub h : (k : ℕ) → k < cells s → Abs (get_or s.h k (pos 0)) m.depth
  pub b : (k : ℕ) → k < cells s → Abs (get_or s.b k (pos 0)) m.bottom
  pub u : (k : ℕ) → k < cells s → Abs (get_or s.u k (pos 0)) m.velocity
  pub v : (k : ℕ) → k < cells s → Abs (get_or s.v k (pos 0)) m.velocity
  pub corner : (k : ℕ) → k < corners s → Abs (get_or q k (pos 0)) m.corner

-- ---- cells, and what the formulas read around them

record Spot (s : State) : Type 0 where
  i : ℕ
  j : ℕ
  column : i < s.w
  row : j < s.n

some : {i w : ℕ} → i < w → 0 < w
some h = omega arith

module _ {s : State} where
  abbrev east : Spot s → Spot s
  east c = record { i = to_east s c.i; j = c.j; column = next-lt s.w c.i (some c.column); row = c.row }

  abbrev west : Spot s → Spot s
  west c = record { i = to_west s c.i; j = c.j; column = previous-lt s.w c.i (some c.column); row = c.row }

  abbrev north : Spot s → Spot s
  north c = record { i = c.i; j = to_north s c.j; column = c.column; row = next-lt s.n c.j (some c.row) }

  abbrev south : Spot s → Spot s
  south c = record { i = c.i; j = to_south s c.j; column = c.column; row = previous-lt s.n c.j (some c.row) }

  abbrev index : Spot s → ℕ
  index c = c.j * s.w + c.i

  index-lt : (c : Spot s) → index c < cells s
  index-lt c = cell-lt c.column c.row

  -- what a field has there
  abbrev on : List ℤ → Spot s → ℤ
  on f c = get_or f (index c) (pos 0)

  -- the next corner to the east, and to the north
  abbrev east_of : Spot s → ℕ
  east_of c = next (corner_columns s) c.i

  abbrev north_of : Spot s → ℕ
  north_of c = next (corner_rows s) c.j

-- what a formula is made of: gravity; the corners ne, nw, sw, se of a cell; a flux, which is a velocity and two depths; a Bernoulli value,
-- which is four velocities, a depth and a bottom height
data Piece (s : State) : Type 0 where
  gravity : Piece s
  corners_at : Spot s → Piece s
  flux-u : Spot s → Piece s
  flux-v : Spot s → Piece s
  bernoulli : Spot s → Piece s

-- the numbers of pieces, one after the other, and their sizes
module _ {s : State} (q : List ℤ) where
  abbrev numbers_of : Piece s → List ℤ → List ℤ
  numbers_of gravity l = s.G ∷ l
  numbers_of (corners_at c) l =
      Whole.corner s q (east_of c) (north_of c) ∷ Whole.corner s q c.i (north_of c) ∷ Whole.corner s q c.i c.j ∷ Whole.corner s q (east_of c) c.j ∷ l
  numbers_of (flux-u c) l = on s.u c ∷ on s.h (west c) ∷ on s.h c ∷ l
  numbers_of (flux-v c) l = on s.v c ∷ on s.h (south c) ∷ on s.h c ∷ l
  numbers_of (bernoulli c) l = on s.u c ∷ on s.u (east c) ∷ on s.v c ∷ on s.v (north c) ∷ on s.h c ∷ on s.b c ∷ l

  abbrev numbers : List (Piece s) → List ℤ
  numbers [] = []
  numbers (p ∷ l) = numbers_of p (numbers l)

module _ {s : State} (m : Most) where
  abbrev sizes_of : Piece s → List ℕ → List ℕ
  sizes_of gravity l = 10000 ∷ l
  sizes_of (corners_at c) l = m.corner ∷ m.corner ∷ m.corner ∷ m.corner ∷ l
  sizes_of (flux-u c) l = m.velocity ∷ m.depth ∷ m.depth ∷ l
  sizes_of (flux-v c) l = m.velocity ∷ m.depth ∷ m.depth ∷ l
  sizes_of (bernoulli c) l = m.velocity ∷ m.velocity ∷ m.velocity ∷ m.velocity ∷ m.depth ∷ m.bottom ∷ l

  abbrev sizes : List (Piece s) → List ℕ
  sizes [] = []
  sizes (p ∷ l) = sizes_of p (sizes l)

module _ {m : Most} {s : State} {q : List ℤ} (z : Sized m s q) where
  h : (c : Spot s) → Abs (on s.h c) m.depth
  h c = z.h (index c) (index-lt c)

  b : (c : Spot s) → Abs (on s.b c) m.bottom
  b c = z.b (index c) (index-lt c)

  u : (c : Spot s) → Abs (on s.u c) m.velocity
  u c = z.u (index c) (index-lt c)

  v : (c : Spot s) → Abs (on s.v c) m.velocity
  v c = z.v (index c) (index-lt c)

  corner : {x y : ℕ} → x < corner_columns s → y < corner_rows s → Abs (Whole.corner s q x y) m.corner
  corner p r = z.corner _ (cell-lt p r)

  -- a cell's corners are corners of the grid
  column-in : (c : Spot s) → c.i < corner_columns s
  column-in c = corners-more (walled_west s) c.column

  row_in : (c : Spot s) → c.j < corner_rows s
  row_in c = corners-more (walled_south s) c.row

  east-in : (c : Spot s) → east_of c < corner_columns s
  east-in c = next-lt (corner_columns s) c.i (corners-some (walled_west s) (some c.column))

  north-in : (c : Spot s) → north_of c < corner_rows s
  north-in c = next-lt (corner_rows s) c.j (corners-some (walled_south s) (some c.row))

  piece-sized : (p : Piece s) {zs : List ℤ} {bs : List ℕ} → Sizes zs bs → Sizes (numbers_of q p zs) (sizes_of m p bs)
  piece-sized gravity l = z.g ◂ l
  piece-sized (corners_at c) l =
      corner (east-in c) (north-in c) ◂ corner (column-in c) (north-in c) ◂ corner (column-in c) (row_in c) ◂ corner (east-in c) (row_in c) ◂ l
  piece-sized (flux-u c) l = u c ◂ h (west c) ◂ h c ◂ l
  piece-sized (flux-v c) l = v c ◂ h (south c) ◂ h c ◂ l
  piece-sized (bernoulli c) l = u c ◂ u (east c) ◂ v c ◂ v (north c) ◂ h c ◂ b c ◂ l

  pieces-sized : (l : List (Piece s)) → Sizes (numbers q l) (sizes m l)
  pieces-sized [] = ∎
  pieces-sized (p ∷ l) = piece-sized p (pieces-sized l)

-- ---- the formulas as terms, over variables from k on

abbrev flux : ℕ → Term
flux k = var k ⊗ (var (k + 1) ⊕ var (k + 2))

-- a row of the weight table over four corners
abbrev pub weigh : (row k : ℕ) → Term
weigh row k =
    con (weight_at row 0) ⊗ var k
    ⊕ con (weight_at row 1) ⊗ var (k + 1)
    ⊕ con (weight_at row 2) ⊗ var (k + 2)
    ⊕ con (weight_at row 3) ⊗ var (k + 3)

-- gravity is var 0
abbrev bernoulli_at : ℕ → Term
bernoulli_at k =
    var k ⊗ var k ⊕ var (k + 1) ⊗ var (k + 1) ⊕ var (k + 2) ⊗ var (k + 2) ⊕ var (k + 3) ⊗ var (k + 3)
    ⊕ con (pos 4) ⊗ var 0 ⊗ (var (k + 4) ⊕ var (k + 5))

abbrev h_term : Term
h_term = minus (flux 0 ⊖ flux 3 ⊕ flux 6 ⊖ flux 9)

abbrev h_pieces : {s : State} → Spot s → List (Piece s)
h_pieces c = flux-u (east c) ∷ flux-u c ∷ flux-v (north c) ∷ flux-v c ∷ []

-- gravity is followed by two cells' corners from 1 and 5, six fluxes from 9, 12, 15, 18, 21 and 24, and Bernoulli values from 27 and 33
abbrev u_term : Term
u_term =
    weigh 0 1 ⊗ flux 9
    ⊕ weigh 1 5 ⊗ flux 12
    ⊕ weigh 0 5 ⊗ flux 15
    ⊕ weigh 1 1 ⊗ flux 18
    ⊖ weigh 2 1 ⊗ flux 21
    ⊕ weigh 2 5 ⊗ flux 24
    ⊖ con bernoulli_scale ⊗ (bernoulli_at 27 ⊖ bernoulli_at 33)

abbrev u_pieces : {s : State} → Spot s → List (Piece s)
u_pieces c =
    gravity ∷ corners_at c ∷ corners_at (west c)
    ∷ flux-v (north c) ∷ flux-v (north (west c)) ∷ flux-v (west c) ∷ flux-v c
    ∷ flux-u (east c) ∷ flux-u (west c)
    ∷ bernoulli c ∷ bernoulli (west c)
    ∷ []

abbrev v_term : Term
v_term =
    minus (weigh 0 1 ⊗ flux 9)
    ⊖ weigh 1 1 ⊗ flux 12
    ⊖ weigh 0 5 ⊗ flux 15
    ⊖ weigh 1 5 ⊗ flux 18
    ⊖ weigh 3 1 ⊗ flux 21
    ⊕ weigh 3 5 ⊗ flux 24
    ⊖ con bernoulli_scale ⊗ (bernoulli_at 27 ⊖ bernoulli_at 33)

abbrev v_pieces : {s : State} → Spot s → List (Piece s)
v_pieces c =
    gravity ∷ corners_at c ∷ corners_at (south c)
    ∷ flux-u (east c) ∷ flux-u c ∷ flux-u (south c) ∷ flux-u (east (south c))
    ∷ flux-v (north c) ∷ flux-v (south c)
    ∷ bernoulli c ∷ bernoulli (south c)
    ∷ []

-- ---- a tendency is its term

-- the checks that `near` asks for, of pieces of these sizes
abbrev Worked : {s : State} → Most → List (Piece s) → Term → (k : ℕ) → Type 0
Worked m l e k = T (tame (sized (sizes m l)) e) × T (leb (error (sized (sizes m l)) e) k)

module _ {m : Most} {s : State} {q : List ℤ} (z : Sized m s q) (c : Spot s) {k : ℕ} where
  h-by : Worked m (h_pieces c) h_term k → IsNear k (Double.tendency_h s c.i c.j) (neg_ℤ (Whole.D s c.i c.j))
  unfolding Double.tendency_h Double.D Double.flux_u Double.flux_v Whole.D divergence Whole.flux_u Whole.flux_v
  h-by t = near h_term (pieces-sized z (h_pieces c)) t.0 t.1

  u-by : Worked m (u_pieces c) u_term k → IsNear k (Double.Tu s q c.i c.j) (Whole.Tu s q c.i c.j)
  unfolding Double.Tu Double.weight Double.B Double.flux_u Double.flux_v Whole.Tu momentum_u corner_weight weighted Whole.B Whole.flux_u Whole.flux_v
  u-by t = near u_term (pieces-sized z (u_pieces c)) t.0 t.1

  v-by : Worked m (v_pieces c) v_term k → IsNear k (Double.Tv s q c.i c.j) (Whole.Tv s q c.i c.j)
  unfolding Double.Tv Double.weight Double.B Double.flux_u Double.flux_v Whole.Tv momentum_v corner_weight weighted Whole.B Whole.flux_u Whole.flux_v
  v-by t = near v_term (pieces-sized z (v_pieces c)) t.0 t.1

-- ---- computed: within the limits, and narrow

-- the checker refuses 28
abbrev pub most_error : ℕ
most_error = 29

abbrev cell : {s : State} {i j : ℕ} → i < s.w → j < s.n → Spot s
cell {i = i} {j = j} p r = record { i = i; j = j; column = p; row = r }

module _ {s : State} {q : List ℤ} where
  pub depth-exact : Sized wide_sizes s q → {i j : ℕ} → i < s.w → j < s.n → IsWhole (Double.tendency_h s i j) (neg_ℤ (Whole.D s i j))
  unfolding size span climb
  depth-exact z p r = near-exact (h-by z (cell p r) (tt, tt))

  pub u-near : Sized wide_sizes s q → {i j : ℕ} → i < s.w → j < s.n → IsNear most_error (Double.Tu s q i j) (Whole.Tu s q i j)
  unfolding size span climb weights weight_at
  u-near z p r = u-by z (cell p r) (tt, tt)

  pub v-near : Sized wide_sizes s q → {i j : ℕ} → i < s.w → j < s.n → IsNear most_error (Double.Tv s q i j) (Whole.Tv s q i j)
  unfolding size span climb weights weight_at
  v-near z p r = v-by z (cell p r) (tt, tt)

  pub u-exact : Sized narrow_sizes s q → {i j : ℕ} → i < s.w → j < s.n → IsWhole (Double.Tu s q i j) (Whole.Tu s q i j)
  unfolding size span climb weights weight_at
  u-exact z p r = near-exact (u-by z (cell p r) (tt, tt))

  pub v-exact : Sized narrow_sizes s q → {i j : ℕ} → i < s.w → j < s.n → IsWhole (Double.Tv s q i j) (Whole.Tv s q i j)
  unfolding size span climb weights weight_at
  v-exact z p r = near-exact (v-by z (cell p r) (tt, tt))
