-- The sum of a field, and of the depths after a pass: what flows through an edge leaves one cell and enters another. Assumes nothing.
use Rattle.std.specs.Prelude.{◌≡◌, refl, List, [], ◌∷◌, ℕ, ◌*◌, ℤ, pos, ◌+ℤ◌, ◌-ℤ◌, length, get_or}
use Rattle.std.proofs.Common.{sym, ap, ap₂, ◌∙◌, mul_comm}
use Rattle.std.proofs.Math.IntN.{+ℤ_idr}
use Rattle.model.specs.Numbers.{total}
use Rattle.model.specs.Grid.{next, at, by_cell, sum_to}
use Rattle.model.specs.Scheme.{divergence}
use Rattle.integers.specs.Ring.{Identity, ring, ◌⊕◌, ◌⊖◌, ◌⊜◌}
use Rattle.grid.specs.Sums.{grid, grid-cong, grid-add, sum_head, sum_rows}
use Rattle.theorems.specs.Conservation.{mass-law}
use Rattle.grid.specs.CellFields.{length-by_cell, at-by_cell}

-- a list's total is a sum over its indices
pub total-sum : (l : List ℤ) → total l ≡ sum_to (length l) (λ k. get_or l k (pos 0))
unfolding total sum_to
total-sum [] = refl
total-sum (x ∷ l) = ap (λ z. x +ℤ z) (total-sum l) ∙ sym (sum_head (length l) (λ k. get_or (x ∷ l) k (pos 0)))

pub total-grid : (w n : ℕ) (l : List ℤ) → length l ≡ w * n → total l ≡ grid w n (at w l)
total-grid w n l e = total-sum l ∙ ap (λ m. sum_to m (λ k. get_or l k (pos 0))) (e ∙ mul_comm w n) ∙ sum_rows w n (λ k. get_or l k (pos 0))

total-by_cell : (w n : ℕ) (f : ℕ → ℕ → ℤ) → total (by_cell w n f) ≡ grid w n f
total-by_cell w n f = total-grid w n (by_cell w n f) (length-by_cell w n f) ∙ grid-cong w n (λ i j p q. at-by_cell w n f i j p q)

regroup : Identity 3 (λ a b c. a ⊖ b ⊕ c ⊕ b ⊜ a ⊕ c)
regroup = ring tt

pub depth_sum : (w n : ℕ) (h inflow : List ℤ) (X Y : ℕ → ℕ → ℤ) → length h ≡ w * n → length inflow ≡ w * n
    → total (by_cell w n (λ i j. at w h i j -ℤ (X (next w i) j -ℤ X i j +ℤ Y i (next n j) -ℤ Y i j) +ℤ at w inflow i j)) ≡ total h +ℤ total inflow
unfolding divergence
depth_sum w n h inflow X Y lh li =
    let d : ℕ → ℕ → ℤ = λ i j. X (next w i) j -ℤ X i j +ℤ Y i (next n j) -ℤ Y i j in
    let f : ℕ → ℕ → ℤ = λ i j. at w h i j -ℤ d i j +ℤ at w inflow i j in
    total-by_cell w n f
    ∙ sym (+ℤ_idr (grid w n f))
    ∙ ap (λ z. grid w n f +ℤ z) (sym (mass-law w n X Y))
    ∙ sym (grid-add w n f d)
    ∙ grid-cong w n (λ i j p q. regroup.at (at w h i j) (d i j) (at w inflow i j))
    ∙ grid-add w n (at w h) (at w inflow)
    ∙ ap₂ ◌+ℤ◌ (sym (total-grid w n h lh)) (sym (total-grid w n inflow li))
