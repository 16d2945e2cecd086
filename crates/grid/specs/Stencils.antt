-- The cells around a cell, as code finds them. Assumes nothing.
use Rattle.std.specs.Prelude.{◌≡◌, ℕ, ◌+◌, ◌*◌, ◌<◌}
use Rattle.std.proofs.Common.{sym, subst}
use Rattle.model.specs.Grid.{next, previous}
use Rattle.grid.specs.Cells.{Cell, cell-lt, next-lt, previous-lt}
use Rattle.grid.specs.declared.Stencil.{Stencil}

-- each index is the model's
pub record IsAround (w n i j : ℕ) (a : Stencil) : Type 0 where
  pub here : a.here ≡ j * w + i
  pub east : a.east ≡ j * w + next w i
  pub west : a.west ≡ j * w + previous w i
  pub north : a.north ≡ next n j * w + i
  pub south : a.south ≡ previous n j * w + i
  pub northeast : a.northeast ≡ next n j * w + next w i
  pub southwest : a.southwest ≡ previous n j * w + previous w i

-- each is one of m cells
pub record Below (m : ℕ) (a : Stencil) : Type 0 where
  pub here : a.here < m
  pub east : a.east < m
  pub west : a.west < m
  pub north : a.north < m
  pub south : a.south < m
  pub northeast : a.northeast < m
  pub southwest : a.southwest < m

at : {w n k l m : ℕ} → k ≡ m * w + l → l < w → m < n → k < w * n
at {w} {n} e x y = subst (λ (k : ℕ). k < w * n) (sym e) (cell-lt x y)

pub around-below : {w n i j : ℕ} {a : Stencil} → Cell w n i j → IsAround w n i j a → Below (w * n) a
around-below {w} {n} {i} {j} p r =
    let east = next-lt w i p.columns.some in
    let west = previous-lt w i p.columns.some in
    let north = next-lt n j p.rows.some in
    let south = previous-lt n j p.rows.some in
    record {
      here = at r.here p.column p.row;
      east = at r.east east p.row;
      west = at r.west west p.row;
      north = at r.north p.column north;
      south = at r.south p.column south;
      northeast = at r.northeast east north;
      southwest = at r.southwest west south;
    }
