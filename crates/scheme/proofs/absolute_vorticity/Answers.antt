-- `scheme::absolute_vorticity` meets its contract. The sum is built from left to right, and each partial sum fits by the sizes of its
-- terms; the last one is Z itself. Assumes nothing.
use Rattle.std.proofs.Common.{List, [], ◌∷◌, ℕ, ℤ, pos, get_or, w64}
use Rattle.model.specs.Numbers.{Within, coriolis_limits, velocity_limits}
use Rattle.integers.specs.Ring.{var, ◌⊕◌, ◌⊖◌}
use Rattle.integers.specs.Bounds.{Sizes, ∎, ◌◂◌, fits, exact}
use Rattle.integers.specs.Magnitudes.{absolute_vorticity, coriolis-size, velocity-size}
use Rattle.scheme.specs.Ready.{ReadsAt}
use Rattle.scheme.proofs.absolute_vorticity.Goals as goal

sizes : {c : ℤ} {u v : List ℤ} {ne nw se : ℕ}
    → Within coriolis_limits c × ReadsAt velocity_limits v ne × ReadsAt velocity_limits v nw × ReadsAt velocity_limits u se × ReadsAt velocity_limits u ne
    → Sizes (c ∷ get_or v ne (pos 0) ∷ get_or v nw (pos 0) ∷ get_or u se (pos 0) ∷ get_or u ne (pos 0) ∷ []) (10000 ∷ 5000 ∷ 5000 ∷ 5000 ∷ 5000 ∷ [])
sizes p = coriolis-size p.0 ◂ velocity-size p.1.value ◂ velocity-size p.2.value ◂ velocity-size p.3.value ◂ velocity-size p.4.value ◂ ∎

pub overflow_add-result : goal.overflow_add-result
overflow_add-result c = fits (var 0 ⊕ var 1) (sizes c.requires) tt

pub overflow_sub-result : goal.overflow_sub-result
overflow_sub-result c = fits (var 0 ⊕ var 1 ⊖ var 2) (sizes c.requires) tt

pub overflow_add-result-2 : goal.overflow_add-result-2
overflow_add-result-2 c = fits (var 0 ⊕ var 1 ⊖ var 2 ⊕ var 3) (sizes c.requires) tt

pub overflow_sub-result-2 : goal.overflow_sub-result-2
overflow_sub-result-2 c = fits absolute_vorticity (sizes c.requires) tt

pub returns : goal.returns
returns c = rw c.if-wall.false (exact w64 absolute_vorticity (sizes c.requires) tt)
