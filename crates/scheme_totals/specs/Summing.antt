-- Loops that sum: what has been summed on the way, how large it is, and that the machine sums it. Assumes nothing.
use Rattle.std.specs.Prelude.{◌≡◌, refl, [], ◌∷◌, ℕ, zero, suc, ◌+◌, ◌*◌, ◌≤◌, ◌<◌, T, ℤ, pos, ◌+ℤ◌}
use Rattle.std.proofs.Math.Path.{sym}
use Rattle.std.proofs.Common.{ap, subst, ◌∙◌, zero-le, le_trans, add-le-add, suc-mul, mul-le-mul_right, add-one, arith, SFits, to_z}
use Rattle.std.proofs.Math.IntN.{+ℤ_assoc, +ℤ_idr}
use Rattle.std.specs.Int.{w64}
use Rattle.model.specs.Grid.{sum_to, sum_grid}
use Rattle.integers.specs.Laws.{abs-add}
use Rattle.integers.specs.Ring.{Expr, var, ◌⊕◌, ◌and◌, and_l, and_r}
use Rattle.integers.specs.Bounds.{Abs, ∎, ◌◂◌, held, below, small, sized, fits, exact}

-- ---- one after the other

pub sum-none : (f : ℕ → ℤ) → sum_to 0 f ≡ pos 0
unfolding sum_to
sum-none f = refl

pub sum_more : (k : ℕ) (f : ℕ → ℤ) → sum_to (k + 1) f ≡ sum_to k f +ℤ f k
unfolding sum_to
sum_more k f = rw add-one

-- ---- by rows and columns

-- the rows before row j, and the i first cells of row j
abbrev pub sum_before : ℕ → (ℕ → ℕ → ℤ) → ℕ → ℕ → ℤ
sum_before w f j i = sum_grid w j f +ℤ sum_to i (λ i. f i j)

module _ (w : ℕ) (f : ℕ → ℕ → ℤ) where
  pub grid-none : sum_grid w 0 f ≡ pos 0
  unfolding sum_grid
  grid-none = sum-none (λ j. sum_to w (λ i. f i j))

  pub row-begun : (j : ℕ) → sum_grid w j f ≡ sum_before w f j 0
  row-begun j = sym (ap (λ x. sum_grid w j f +ℤ x) (sum-none (λ i. f i j)) ∙ +ℤ_idr (sum_grid w j f))

  pub row_more : (j i : ℕ) → sum_before w f j i +ℤ f i j ≡ sum_before w f j (i + 1)
  row_more j i = +ℤ_assoc (sum_grid w j f) (sum_to i (λ i. f i j)) (f i j) ∙ sym (ap (λ x. sum_grid w j f +ℤ x) (sum_more i (λ i. f i j)))

  pub row-ended : (j : ℕ) → sum_before w f j w ≡ sum_grid w (j + 1) f
  unfolding sum_grid
  row-ended j = sym (sum_more j (λ j. sum_to w (λ i. f i j)))

-- ---- sizes

-- of k summands, each between -b and b
sum-size : (k : ℕ) {f : ℕ → ℤ} {b : ℕ} → ((i : ℕ) → i < k → Abs (f i) b) → Abs (sum_to k f) (k * b)
unfolding sum_to
sum-size zero h = record { abs = zero-le }
sum-size (suc k) {f} {b} h =
    record {
      abs = rw (suc-mul k b) (le_trans (abs-add (sum_to k f) (f k)) (add-le-add (sum-size k (λ i l. h i (omega arith))).abs (h k (omega arith)).abs));
    }

-- of m at most
pub sum-most : {k : ℕ} (m : ℕ) {f : ℕ → ℤ} {b : ℕ} → k ≤ m → ((i : ℕ) → i < k → Abs (f i) b) → Abs (sum_to k f) (m * b)
sum-most {k} m {b = b} l h = record { abs = le_trans (sum-size k h).abs (mul-le-mul_right b l) }

grid-most : {w n : ℕ} (m : ℕ) {f : ℕ → ℕ → ℤ} {b : ℕ} → w ≤ m → n ≤ m → ((i j : ℕ) → i < w → j < n → Abs (f i j) b) → Abs (sum_grid w n f) (m * (m * b))
unfolding sum_grid
grid-most m p q h = sum-most m q (λ j l. sum-most m p (λ i k. h i j k l))

-- of what a grid of m rows and columns at most has before a cell
pub before-most : {w n i j : ℕ} (m : ℕ) {f : ℕ → ℕ → ℤ} {b : ℕ} → w ≤ m → n ≤ m → i ≤ w → j < n → ((i j : ℕ) → i < w → j < n → Abs (f i j) b) → Abs (sum_before w f j i) (m * (m * b) + m * b)
before-most {w} {n} {i} {j} m {f} p q r s h =
    record {
      abs = le_trans (abs-add (sum_grid w j f) (sum_to i (λ i. f i j)))
          (add-le-add (grid-most m p (omega arith) (λ i j k l. h i j k (omega arith))).abs (sum-most m (omega arith) (λ i k. h i j (omega arith) s)).abs);
    }

-- ---- a turn, as the machine makes it: y is added to a sum x, which is kept as its bits, n

abbrev turn : Expr
turn = var 0 ⊕ var 1

module _ (n : ℕ) {x y : ℤ} {a b : ℕ} (e : to_z w64 n ≡ x) (p : Abs x a) (q : Abs y b) (t : T (below w64 (sized (a ∷ b ∷ [])) turn)) where
  kept : held w64 x ≡ to_z w64 n
  kept =
      let s = sized (a ∷ b ∷ []) in
      exact w64 (var 0) (p ◂ ∎) (and_l (small w64 s (var 0)) (small w64 s (var 1)) (and_r (small w64 s turn) (small w64 s (var 0) and small w64 s (var 1)) t)) ∙ sym e

  pub added-fits : SFits w64 (to_z w64 n +ℤ held w64 y)
  added-fits = subst (λ (z : ℤ). SFits w64 (z +ℤ held w64 y)) kept (fits turn (p ◂ q ◂ ∎) t)

  pub added_is : held w64 (to_z w64 n +ℤ held w64 y) ≡ x +ℤ y
  added_is = ap (λ (z : ℤ). held w64 (z +ℤ held w64 y)) (sym kept) ∙ exact w64 turn (p ◂ q ◂ ∎) t
