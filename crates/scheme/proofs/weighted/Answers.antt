-- `scheme::weighted` meets its contract. Assumes nothing.
use Rattle.std.proofs.Common.{◌∙◌, List, [], ◌∷◌, ℤ, w64}
use Rattle.model.specs.Weights.{weighted}
use Rattle.integers.specs.Ring.{var, ◌⊕◌, ◌⊗◌}
use Rattle.integers.specs.Bounds.{Sizes, ∎, ◌◂◌, abs-as, fits, exact}
use Rattle.scheme.specs.SchemeSizes.{weighted_expr, table-size}
use Rattle.scheme.specs.Shares.{most_corner}
use Rattle.scheme.proofs.weighted.Goals as goal
use Rattle.scheme.proofs.weighted.Goals.{After-weight_at-se}

-- the row's weights, and the corners
abbrev terms : After-weight_at-se → List ℤ
terms c =
    let q = c.args.c in
    c.weight_at-ne.result ∷ c.weight_at-nw.result ∷ c.weight_at-sw.result ∷ c.weight_at-se.result ∷ q.ne ∷ q.nw ∷ q.sw ∷ q.se ∷ []

sizes : (c : After-weight_at-se) → Sizes (terms c) (2 ∷ 2 ∷ 2 ∷ 2 ∷ most_corner ∷ most_corner ∷ most_corner ∷ most_corner ∷ [])
sizes c =
    let row = c.args.row in
    let q = c.requires.1 in
    abs-as c.weight_at-ne.ensures (table-size row 0) ◂ abs-as c.weight_at-nw.ensures (table-size row 1)
    ◂ abs-as c.weight_at-sw.ensures (table-size row 2) ◂ abs-as c.weight_at-se.ensures (table-size row 3)
    ◂ q.ne ◂ q.nw ◂ q.sw ◂ q.se ◂ ∎

pub overflow_mul-result : goal.overflow_mul-result
overflow_mul-result c = fits (var 0 ⊗ var 4) (sizes (goal.at.overflow_mul-result c).After-weight_at-se) tt

pub overflow_mul-result-2 : goal.overflow_mul-result-2
overflow_mul-result-2 c = fits (var 1 ⊗ var 5) (sizes (goal.at.overflow_mul-result-2 c).After-weight_at-se) tt

pub overflow_add-result : goal.overflow_add-result
overflow_add-result c = fits (var 0 ⊗ var 4 ⊕ var 1 ⊗ var 5) (sizes (goal.at.overflow_add-result c).After-weight_at-se) tt

pub overflow_mul-result-3 : goal.overflow_mul-result-3
overflow_mul-result-3 c = fits (var 2 ⊗ var 6) (sizes (goal.at.overflow_mul-result-3 c).After-weight_at-se) tt

pub overflow_add-result-2 : goal.overflow_add-result-2
overflow_add-result-2 c = fits (var 0 ⊗ var 4 ⊕ var 1 ⊗ var 5 ⊕ var 2 ⊗ var 6) (sizes (goal.at.overflow_add-result-2 c).After-weight_at-se) tt

pub overflow_mul-result-4 : goal.overflow_mul-result-4
overflow_mul-result-4 c = fits (var 3 ⊗ var 7) (sizes (goal.at.overflow_mul-result-4 c).After-weight_at-se) tt

pub overflow_add-result-3 : goal.overflow_add-result-3
overflow_add-result-3 c = fits weighted_expr (sizes (goal.at.overflow_add-result-3 c).After-weight_at-se) tt

pub returns : goal.returns
unfolding weighted
returns c = exact w64 weighted_expr (sizes (goal.at.returns c).After-weight_at-se) tt ∙ rw (c.weight_at-ne.ensures, c.weight_at-nw.ensures, c.weight_at-sw.ensures, c.weight_at-se.ensures)
