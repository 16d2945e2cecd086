-- `scheme::depth_around` meets its contract. Assumes nothing.
use Rattle.std.proofs.Common.{List, [], ◌∷◌, ℕ, ℤ, pos, get_or, w64}
use Rattle.model.specs.Numbers.{depth_limits}
use Rattle.integers.specs.Ring.{var, ◌⊕◌}
use Rattle.integers.specs.Bounds.{Sizes, ∎, ◌◂◌, fits, exact}
use Rattle.integers.specs.Magnitudes.{depth_sum, depth-size}
use Rattle.scheme.specs.Ready.{ReadsAt}
use Rattle.scheme.proofs.depth_around.Goals as goal

sizes : {h : List ℤ} {ne nw se sw : ℕ}
    → ReadsAt depth_limits h ne × ReadsAt depth_limits h nw × ReadsAt depth_limits h se × ReadsAt depth_limits h sw
    → Sizes (get_or h ne (pos 0) ∷ get_or h nw (pos 0) ∷ get_or h se (pos 0) ∷ get_or h sw (pos 0) ∷ []) (100000 ∷ 100000 ∷ 100000 ∷ 100000 ∷ [])
sizes p = depth-size p.0.value ◂ depth-size p.1.value ◂ depth-size p.2.value ◂ depth-size p.3.value ◂ ∎

pub overflow_add-result : goal.overflow_add-result
overflow_add-result c = fits (var 0 ⊕ var 1) (sizes c.requires) tt

pub overflow_add-result-2 : goal.overflow_add-result-2
overflow_add-result-2 c = fits (var 0 ⊕ var 1 ⊕ var 2) (sizes c.requires) tt

pub overflow_add-result-3 : goal.overflow_add-result-3
overflow_add-result-3 c = fits depth_sum (sizes c.requires) tt

pub returns : goal.returns
returns c = exact w64 depth_sum (sizes c.requires) tt
