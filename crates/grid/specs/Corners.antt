-- The corners of a grid, as code finds them: how many a side has, the cells around a corner, and the corners of a cell. Assumes nothing.
use Rattle.std.specs.Prelude.{◌≡◌, refl, Bool, true, false, ◌||◌, ℕ, ◌+◌, ◌*◌, ◌≤◌, ◌<◌, eqb}
use Rattle.std.proofs.Common.{sym, subst, arith}
use Rattle.std.proofs.lemmas.Bool.{eqb-false, or_parts}
use Rattle.model.specs.Grid.{next, previous, corners_of, lower, upper, on_wall}
use Rattle.model.specs.State.{Side, boundary_of, wall_west, wall_south}
use Rattle.grid.specs.Cells.{cell-lt, next-lt, previous-lt, previous-inner}
use Rattle.grid.specs.declared.Corners.{Corners}

-- ---- a side

pub corners-some : (walled : Bool) {w : ℕ} → 1 ≤ w → 1 ≤ corners_of walled w
corners-some false h = h
corners-some true h = omega arith

pub corners-more : (walled : Bool) {w x : ℕ} → x < w → x < corners_of walled w
corners-more false h = h
corners-more true h = omega arith

pub corners-next : (walled : Bool) (w : ℕ) → corners_of walled w ≤ w + 1
corners-next false w = omega arith
corners-next true w = omega arith

pub lower-lt : (walled : Bool) {w x : ℕ} → 1 ≤ w → x < corners_of walled w → lower walled w x < w
lower-lt false {w} {x} h p = previous-lt w x h
lower-lt true h p = omega arith

pub upper_lt : (walled : Bool) {w x : ℕ} → 1 ≤ w → x < corners_of walled w → upper walled w x < w
upper_lt false h p = p
upper_lt true h p = omega arith

-- a corner on no wall has 01's places beside it
pub record Inner (walled : Bool) (w x : ℕ) : Type 0 where
  pub place : x < w
  pub below : lower walled w x ≡ previous w x
  pub above : upper walled w x ≡ x

pub inner : (walled : Bool) {w x : ℕ} → x < corners_of walled w → on_wall walled w x ≡ false → Inner walled w x
inner false p h = record { place = p; below = refl; above = refl }
inner true {w} {x} p h =
    let n = or_parts (eqb x 0) (eqb x w) h in
    let a = eqb-false x 0 n.0 in
    let b = eqb-false x w n.1 in
    let l : x < w = omega arith in
    record { place = l; below = sym (previous-inner w x (omega arith) l); above = omega arith }

-- ---- a corner

-- a corner of a grid of that kind
pub record Corner (kind w n x y : ℕ) : Type 0 where
  pub columns : Side w
  pub rows : Side n
  pub column : x < corners_of (wall_west (boundary_of kind) 0) w
  pub row : y < corners_of (wall_south (boundary_of kind) 0) n

-- whether it is on a wall
abbrev pub on_a_wall : (kind w n x y : ℕ) → Bool
on_a_wall kind w n x y = on_wall (wall_west (boundary_of kind) 0) w x || on_wall (wall_south (boundary_of kind) 0) n y

-- four indices below m
pub record Below4 (m : ℕ) (a : Corners ℕ) : Type 0 where
  pub ne : a.ne < m
  pub nw : a.nw < m
  pub sw : a.sw < m
  pub se : a.se < m

-- the cells around corner (x, y): on a wall, the cells inside
pub record AreCells (kind w n x y : ℕ) (a : Corners ℕ) : Type 0 where
  pub ne : a.ne ≡ upper (wall_south (boundary_of kind) 0) n y * w + upper (wall_west (boundary_of kind) 0) w x
  pub nw : a.nw ≡ upper (wall_south (boundary_of kind) 0) n y * w + lower (wall_west (boundary_of kind) 0) w x
  pub sw : a.sw ≡ lower (wall_south (boundary_of kind) 0) n y * w + lower (wall_west (boundary_of kind) 0) w x
  pub se : a.se ≡ lower (wall_south (boundary_of kind) 0) n y * w + upper (wall_west (boundary_of kind) 0) w x

at : {w n k l m : ℕ} → k ≡ m * w + l → l < w → m < n → k < w * n
at {w} {n} e x y = subst (λ (k : ℕ). k < w * n) (sym e) (cell-lt x y)

pub cells-below : {kind w n x y : ℕ} {a : Corners ℕ} → Corner kind w n x y → AreCells kind w n x y a → Below4 (w * n) a
cells-below {kind} {w} {n} {x} {y} p r =
    let a = wall_west (boundary_of kind) 0 in
    let b = wall_south (boundary_of kind) 0 in
    let east = upper_lt a p.columns.some p.column in
    let west = lower-lt a p.columns.some p.column in
    let north = upper_lt b p.rows.some p.row in
    let south = lower-lt b p.rows.some p.row in
    record { ne = at r.ne east north; nw = at r.nw west north; sw = at r.sw west south; se = at r.se east south }

-- ---- the corners of cell (i, j), in a grid of corners with so many columns and rows

pub record AreCorners (columns rows i j : ℕ) (a : Corners ℕ) : Type 0 where
  pub ne : a.ne ≡ next rows j * columns + next columns i
  pub nw : a.nw ≡ next rows j * columns + i
  pub sw : a.sw ≡ j * columns + i
  pub se : a.se ≡ j * columns + next columns i

pub corners-below : {columns rows i j : ℕ} {a : Corners ℕ} → i < columns → j < rows → AreCorners columns rows i j a → Below4 (columns * rows) a
corners-below {columns} {rows} {i} {j} p q r =
    let east = next-lt columns i (omega arith) in
    let north = next-lt rows j (omega arith) in
    record { ne = at r.ne east north; nw = at r.nw p north; sw = at r.sw p q; se = at r.se east q }
