-- A cell in doubles, and what is worked out at it. Assumes nothing.
use Rattle.std.specs.Prelude.{◌≡◌, refl, Bool, ◌||◌, List, ℕ, ◌<◌, ℤ, pos, length, get_or, Float}
use Rattle.std.proofs.Common.{sym, ◌∙◌}
use Rattle.std.proofs.Math.Path.{ap, ap₂}
use Rattle.std.proofs.Math.Bool.{true, false, cond}
use Rattle.std.specs.Float.Ieee.{neg}
use Rattle.model.specs.Numbers.{bernoulli_scale}
use Rattle.model.specs.State.{State, cells, corner_columns, corner_rows, boundary_of, wall_south, closed_west, closed_south}
use Rattle.model.specs.Weights.{weight_at}
use Rattle.model.specs.Scheme.{to_east, to_west, to_north, to_south}
use Rattle.model.specs.Doubles.{◌⊞◌, ◌⊟◌, ◌⊠◌, double, weight, flux_u, flux_v, D, B, Tu, Tv, tendency_h, tendency_u, tendency_v}
use Rattle.integers.specs.Bounds.{Abs}
use Rattle.grid.specs.Cells.{previous-next}
use Rattle.grid.specs.Stencils.{IsAround}
use Rattle.grid.specs.Corners.{AreCorners}
use Rattle.grid.specs.declared.Stencil.{Stencil}
use Rattle.grid.specs.declared.Corners.{Corners}
use Rattle.scheme.specs.Ready.{TendenciesReady}
use Rattle.scheme.specs.Shares.{most_corner}
use Rattle.scheme_probe.specs.declared.Cell.{Cell}
use Rattle.scheme_probe.specs.declared.Doubles.{Doubles}
use Rattle.scheme_probe.specs.declared.Given.{Given}

-- of fields, by index
abbrev pub flux_at : (x h : List ℤ) → ℕ → ℕ → Float
flux_at x h k l = double (get_or x k (pos 0)) ⊠ (double (get_or h l (pos 0)) ⊞ double (get_or h k (pos 0)))

-- and of a state
abbrev pub bernoulli_at : State → (here east north : ℕ) → Float
bernoulli_at s here east north =
    double (get_or s.u here (pos 0)) ⊠ double (get_or s.u here (pos 0))
    ⊞ double (get_or s.u east (pos 0)) ⊠ double (get_or s.u east (pos 0))
    ⊞ double (get_or s.v here (pos 0)) ⊠ double (get_or s.v here (pos 0))
    ⊞ double (get_or s.v north (pos 0)) ⊠ double (get_or s.v north (pos 0))
    ⊞ double (pos 4) ⊠ double s.G ⊠ (double (get_or s.h here (pos 0)) ⊞ double (get_or s.b here (pos 0)))

-- of corners, each of which is the double of a whole number within the bounds of q
pub record IsCorner (x : Float) : Type 0 where
  pub number : ℤ
  pub is : x ≡ double number
  pub small : Abs number most_corner

pub record CornersWithin (c : Corners Float) : Type 0 where
  pub ne : IsCorner c.ne
  pub nw : IsCorner c.nw
  pub sw : IsCorner c.sw
  pub se : IsCorner c.se

-- a row of the table
abbrev pub weighted_by : ℕ → Corners Float → Float
weighted_by row c =
    double (weight_at row 0) ⊠ c.ne
    ⊞ double (weight_at row 1) ⊠ c.nw
    ⊞ double (weight_at row 2) ⊠ c.sw
    ⊞ double (weight_at row 3) ⊠ c.se

-- r is the model's cell (i, j)
pub record IsCell (s : State) (q : List ℤ) (i j : ℕ) (r : Cell) : Type 0 where
  pub p : r.weights.p ≡ weight s q 0 i j
  pub m : r.weights.m ≡ weight s q 1 i j
  pub e : r.weights.e ≡ weight s q 2 i j
  pub f : r.weights.f ≡ weight s q 3 i j
  pub west : r.west ≡ flux_u s i j
  pub east : r.east ≡ flux_u s (to_east s i) j
  pub south : r.south ≡ flux_v s i j
  pub north : r.north ≡ flux_v s i (to_north s j)
  pub bernoulli : r.bernoulli ≡ B s i j

-- r is what a cell has in Tv at its north edge, and what the model's cell (i, j) has there
pub record Gives (own : Cell) (r : Given) : Type 0 where
  pub p : r.p ≡ own.weights.p ⊠ own.west
  pub m : r.m ≡ own.weights.m ⊠ own.east
  pub f : r.f ≡ own.weights.f ⊠ own.south
  pub bernoulli : r.bernoulli ≡ own.bernoulli

pub record IsGiven (s : State) (q : List ℤ) (i j : ℕ) (r : Given) : Type 0 where
  pub p : r.p ≡ weight s q 0 i j ⊠ flux_u s i j
  pub m : r.m ≡ weight s q 1 i j ⊠ flux_u s (to_east s i) j
  pub f : r.f ≡ weight s q 3 i j ⊠ flux_v s i j
  pub bernoulli : r.bernoulli ≡ B s i j

pub given : {s : State} {q : List ℤ} {i j : ℕ} {own : Cell} {r : Given} → IsCell s q i j own → Gives own r → IsGiven s q i j r
given c g =
    record {
      p = g.p ∙ ap₂ (λ x y. x ⊠ y) c.p c.west;
      m = g.m ∙ ap₂ (λ x y. x ⊠ y) c.m c.east;
      f = g.f ∙ ap₂ (λ x y. x ⊠ y) c.f c.south;
      bernoulli = g.bernoulli ∙ c.bernoulli;
    }

-- r is what the cell to the south of cell (i, j) gives, unless there is a wall between them: it is not used then
pub record FromSouth (s : State) (q : List ℤ) (i j : ℕ) (r : Given) : Type 0 where
  pub given : wall_south (boundary_of s.kind) j ≡ false → IsGiven s q i (to_south s j) r

-- the cell, the one to its west, and what comes from the south
pub record AreCells (s : State) (q : List ℤ) (i j : ℕ) (own west : Cell) (south : Given) : Type 0 where
  pub here : IsCell s q i j own
  pub to-west : IsCell s q (to_west s i) j west
  pub to-south : FromSouth s q i j south

pub record AreDoubles (s : State) (q : List ℤ) (i j : ℕ) (r : Doubles) : Type 0 where
  pub h : r.h ≡ tendency_h s i j
  pub u : r.u ≡ tendency_u s q i j
  pub v : r.v ≡ tendency_v s q i j

-- what the doubles of a state are made of is within the limits, and there is a byte of barriers for each cell
abbrev pub Ready : State → List ℤ → Type 0
Ready s q = TendenciesReady s q × (length s.barriers ≡ cells s)

-- ---- what is read around a cell is the model's

-- its weights, by its corners
pub weight-around : (s : State) {i j : ℕ} {a : Corners ℕ} → AreCorners (corner_columns s) (corner_rows s) i j a → (q : List ℤ) (row : ℕ) (c : Corners Float)
    → (c.ne ≡ double (get_or q a.ne (pos 0))) × (c.nw ≡ double (get_or q a.nw (pos 0)))
    × (c.sw ≡ double (get_or q a.sw (pos 0))) × (c.se ≡ double (get_or q a.se (pos 0)))
    → weighted_by row c ≡ weight s q row i j
unfolding weight
weight-around s r q row c e = rw (e.0, e.1, e.2, e.3, r.ne, r.nw, r.sw, r.se)

module _ (s : State) {i j : ℕ} {a : Stencil} (r : IsAround s.w s.n i j a) where
  pub west-around : flux_at s.u s.h a.here a.west ≡ flux_u s i j
  unfolding flux_u
  west-around = rw (r.here, r.west)

  pub east-around : i < s.w → flux_at s.u s.h a.east a.here ≡ flux_u s (to_east s i) j
  unfolding flux_u
  east-around p = rw (r.here, r.east, previous-next p)

  pub south-around : flux_at s.v s.h a.here a.south ≡ flux_v s i j
  unfolding flux_v
  south-around = rw (r.here, r.south)

  pub north-around : j < s.n → flux_at s.v s.h a.north a.here ≡ flux_v s i (to_north s j)
  unfolding flux_v
  north-around p = rw (r.here, r.north, previous-next p)

  pub bernoulli-around : bernoulli_at s a.here a.east a.north ≡ B s i j
  unfolding B
  bernoulli-around = rw (r.here, r.east, r.north)

-- ---- from a cell and those beside it to its doubles

-- the formulas that the code works out
abbrev pub convergence_of : Cell → Float
convergence_of own = neg (own.east ⊟ own.west ⊞ own.north ⊟ own.south)

abbrev pub momentum_u : (own west : Cell) → Float
momentum_u own west =
    own.weights.p ⊠ own.north
    ⊞ west.weights.m ⊠ west.north
    ⊞ west.weights.p ⊠ west.south
    ⊞ own.weights.m ⊠ own.south
    ⊟ own.weights.e ⊠ own.east
    ⊞ west.weights.e ⊠ west.west
    ⊟ double bernoulli_scale ⊠ (own.bernoulli ⊟ west.bernoulli)

abbrev pub momentum_v : Cell → Given → Float
momentum_v own south =
    neg (own.weights.p ⊠ own.east)
    ⊟ own.weights.m ⊠ own.west
    ⊟ south.p
    ⊟ south.m
    ⊟ own.weights.f ⊠ own.north
    ⊞ south.f
    ⊟ double bernoulli_scale ⊠ (own.bernoulli ⊟ south.bernoulli)

-- an open edge has no wall
no-wall : (s : State) (i j : ℕ) → closed_south s i j ≡ false → wall_south (boundary_of s.kind) j ≡ false
unfolding closed_south
no-wall s i j e = first _ _ e
  where
    first : (a b : Bool) → (a || b) ≡ false → a ≡ false
    first true b e = e
    first false b e = refl

module _ {s : State} {q : List ℤ} {i j : ℕ} {own west : Cell} {south : Given} (c : AreCells s q i j own west south) where
  pub convergence-is : convergence_of own ≡ tendency_h s i j
  unfolding tendency_h D
  convergence-is = let o = c.here in rw (o.east, o.west, o.north, o.south)

  u-is : momentum_u own west ≡ Tu s q i j
  unfolding Tu
  u-is =
      let o = c.here in
      let w = c.to-west in
      rw (o.p, o.m, o.e, o.north, o.south, o.east, o.bernoulli, w.p, w.m, w.e, w.north, w.south, w.west, w.bernoulli)

  v-is : wall_south (boundary_of s.kind) j ≡ false → momentum_v own south ≡ Tv s q i j
  unfolding Tv
  v-is z =
      let o = c.here in
      let t = c.to-south.given z in
      rw (o.p, o.m, o.f, o.east, o.west, o.north, o.bernoulli, t.p, t.m, t.f, t.bernoulli)

  -- 0 on a closed edge
  pub at-west : {closed : Bool} {t r : Float} → closed ≡ closed_west s i j → t ≡ momentum_u own west → r ≡ cond closed (double (pos 0)) t → r ≡ tendency_u s q i j
  unfolding tendency_u
  at-west e f h = h ∙ ap₂ (λ b x. cond b (double (pos 0)) x) e (f ∙ u-is)

  pub at-south : {closed : Bool} {t r : Float} → closed ≡ closed_south s i j → t ≡ momentum_v own south → r ≡ cond closed (double (pos 0)) t → r ≡ tendency_v s q i j
  unfolding tendency_v
  at-south {closed} {t} {r} = by closed
    where
      by : (closed : Bool) → closed ≡ closed_south s i j → t ≡ momentum_v own south → r ≡ cond closed (double (pos 0)) t → r ≡ tendency_v s q i j
      by true e f h = h ∙ ap (λ b. cond b (double (pos 0)) (Tv s q i j)) e
      by false e f h = h ∙ ap₂ (λ b x. cond b (double (pos 0)) x) e (f ∙ v-is (no-wall s i j (sym e)))
