-- `scheme_totals::sum_depths` meets its contract: what has been added is the sum over the cells passed. Assumes nothing.
use Rattle.std.proofs.Common.{◌<◌, ◌≤◌, ◌*◌, sym, ap, ◌∙◌, zero-le, arith, List, ℕ, ℤ, pos, length, get_or}
use native.Mathlib.Nat.{le_antisymm}
use Rattle.model.specs.Numbers.{depth_limits}
use Rattle.model.specs.Grid.{sum_to}
use Rattle.model.specs.State.{FieldWithin}
use Rattle.integers.specs.Bounds.{Abs}
use Rattle.integers.specs.Magnitudes.{depth-size}
use Rattle.theorems.specs.Depth.{total-sum}
use Rattle.scheme_totals.specs.Summing.{sum-none, sum_more, sum-most, added-fits, added_is}
use Rattle.scheme_totals.proofs.sum_depths.Goals as goal

abbrev depth : List ℤ → ℕ → ℤ
depth h k = get_or h k (pos 0)

-- the sizes of the sum so far, and of what is added to it
module _ {h : List ℤ} {k : ℕ} (r : FieldWithin depth_limits (length h) h × (length h ≤ 4096)) (l : k < length h) where
  so_far : Abs (sum_to k (depth h)) (4096 * 100000)
  so_far = sum-most 4096 (omega (arith, r.1, l)) (λ i p. depth-size (r.0.each i (omega (arith, p, l))))

  added : Abs (depth h k) 100000
  added = depth-size (r.0.each k l)

pub loop-depth-init : goal.loop-depth-init
loop-depth-init c = (zero-le, sym (sum-none (depth c.args.h.now)))

pub overflow_add-sum : goal.overflow_add-sum
overflow_add-sum c =
    let t = c.loop-depth-test.true in added-fits c.loop-depth.sum-bits c.loop-depth.invariant.1 (so_far c.requires t) (added c.requires t) tt

pub loop-depth-preserved : goal.loop-depth-preserved
loop-depth-preserved c =
    let l = c.loop-depth in
    let t = c.loop-depth-test.true in
    (omega arith, added_is l.sum-bits l.invariant.1 (so_far c.requires t) (added c.requires t) tt ∙ sym (sum_more l.depth-index (depth c.args.h.now)))

pub returns : goal.returns
returns c =
    let l = c.loop-depth in
    let h = c.args.h.now in
    l.invariant.1 ∙ ap (λ (k : ℕ). sum_to k (depth h)) (le_antisymm l.invariant.0 c.loop-depth-test.false) ∙ sym (total-sum h)
