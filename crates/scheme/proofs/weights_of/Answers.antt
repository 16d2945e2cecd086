-- `scheme::weights_of` meets its contract: each sum of corners fits, and is its row of the table. Assumes nothing.
use Rattle.std.proofs.Common.{◌∙◌, [], ◌∷◌, ℤ, w64}
use Rattle.integers.specs.Ring.{Expr, var, ◌⊕◌}
use Rattle.integers.specs.Bounds.{Sizes, ∎, ◌◂◌, fits, exact}
use Rattle.integers.specs.Formulas.{sum_all, sum_p, sum_m, sum_e, sum_f, formulas}
use Rattle.scheme.specs.Shares.{most_corner, CornersWithin}
use Rattle.grid.specs.declared.Corners.{Corners}
use Rattle.scheme.proofs.weights_of.Goals as goal

-- a sum over ne, nw, sw, se
abbrev over : ((ne nw sw se : Expr) → Expr) → Expr
over e = e (var 0) (var 1) (var 2) (var 3)

sizes : {q : Corners ℤ} → CornersWithin q → Sizes (q.ne ∷ q.nw ∷ q.sw ∷ q.se ∷ []) (most_corner ∷ most_corner ∷ most_corner ∷ most_corner ∷ [])
sizes q = q.ne ◂ q.nw ◂ q.sw ◂ q.se ◂ ∎

pub overflow_add-result : goal.overflow_add-result
overflow_add-result c = fits (over sum_all ⊕ var 0) (sizes c.requires) tt

pub overflow_add-result-2 : goal.overflow_add-result-2
overflow_add-result-2 c = fits (over sum_p) (sizes c.requires) tt

pub overflow_add-result-3 : goal.overflow_add-result-3
overflow_add-result-3 c = fits (over sum_all ⊕ var 1) (sizes c.requires) tt

pub overflow_add-result-4 : goal.overflow_add-result-4
overflow_add-result-4 c = fits (over sum_m) (sizes c.requires) tt

pub returns : goal.returns
returns c =
    let q = c.args.c in
    let s = sizes c.requires in (
      exact w64 (over sum_p) s tt ∙ formulas.p q.ne q.nw q.sw q.se,
      exact w64 (over sum_m) s tt ∙ formulas.m q.ne q.nw q.sw q.se,
      exact w64 (over sum_e) s tt ∙ formulas.e q.ne q.nw q.sw q.se,
      exact w64 (over sum_f) s tt ∙ formulas.f q.ne q.nw q.sw q.se,
    )
