-- Sums of integers over a range and over a grid, and their invariance under a cyclic shift. Assumes nothing.
use Rattle.std.specs.Prelude.{◌≡◌, refl, ℕ, zero, suc, ◌+◌, ◌-◌, ◌*◌, ◌%◌, ◌<◌, ℤ, pos, ◌+ℤ◌, ◌*ℤ◌}
use Rattle.std.proofs.Common.{sym, ◌∙◌, ap, mod-eq_of_lt, add-zero, add-suc, add-one, zero-mul, suc-mul, arith}
use Rattle.std.proofs.Math.Nat.{mod_self, mod-add-mod, add-mod_right}
use Rattle.std.proofs.Math.IntN.{+ℤ_assoc, +ℤ_comm, +ℤ_idr, zero-*ℤ, *ℤ_comm}
pub use Rattle.model.specs.Grid.{sum_to, sum_grid as grid, next as east, previous as west}
use Rattle.integers.specs.Laws.{+-inner, distl}

pub sum-cong : (n : ℕ) {f g : ℕ → ℤ} → ((i : ℕ) → i < n → f i ≡ g i) → sum_to n f ≡ sum_to n g
unfolding sum_to
sum-cong zero h = refl
sum-cong (suc n) {f} {g} h = ap (λ x. x +ℤ f n) (sum-cong n (λ i l. h i (omega arith))) ∙ ap (λ x. sum_to n g +ℤ x) (h n (omega arith))

pub sum-zero : (n : ℕ) → sum_to n (λ i. pos 0) ≡ pos 0
unfolding sum_to
sum-zero zero = refl
sum-zero (suc n) = +ℤ_idr (sum_to n (λ i. pos 0)) ∙ sum-zero n

pub sum-add : (n : ℕ) (f g : ℕ → ℤ) → sum_to n (λ i. f i +ℤ g i) ≡ sum_to n f +ℤ sum_to n g
unfolding sum_to
sum-add zero f g = refl
sum-add (suc n) f g = ap (λ x. x +ℤ (f n +ℤ g n)) (sum-add n f g) ∙ +-inner (sum_to n f) (sum_to n g) (f n) (g n)

pub sum-scale : (n : ℕ) (c : ℤ) (f : ℕ → ℤ) → sum_to n (λ i. c *ℤ f i) ≡ c *ℤ sum_to n f
unfolding sum_to
sum-scale zero c f = sym (*ℤ_comm c (pos 0) ∙ zero-*ℤ c)
sum-scale (suc n) c f = ap (λ x. x +ℤ c *ℤ f n) (sum-scale n c f) ∙ sym (distl c (sum_to n f) (f n))

-- the first summand apart
pub sum_head : (n : ℕ) (f : ℕ → ℤ) → sum_to (suc n) f ≡ f zero +ℤ sum_to n (λ i. f (suc i))
unfolding sum_to
sum_head zero f = +ℤ_comm (pos 0) (f zero)
sum_head (suc n) f = ap (λ x. x +ℤ f (suc n)) (sum_head n f) ∙ +ℤ_assoc (f zero) (sum_to n (λ i. f (suc i))) (f (suc n))

-- ---- a cycle of w places

pub east-west : (w i : ℕ) → i < w → east w (west w i) ≡ i
east-west w i l = mod-add-mod (i + (w - 1)) w 1 ∙ ap (λ x. x % w) (around w i l) ∙ add-mod_right i w ∙ mod-eq_of_lt l
  where
    around : (w i : ℕ) → i < w → i + (w - 1) + 1 ≡ i + w
    around w i l = omega arith

pub shift-east : (w : ℕ) (f : ℕ → ℤ) → sum_to w (λ i. f (east w i)) ≡ sum_to w f
unfolding sum_to
shift-east zero f = refl
shift-east (suc n) f =
    ap (λ x. sum_to n (λ i. f ((i + 1) % suc n)) +ℤ f x) (ap (λ x. x % suc n) (add-one n) ∙ mod_self (suc n))
    ∙ ap (λ x. x +ℤ f zero) (sum-cong n (λ i l. ap f (mod-eq_of_lt (below n i l) ∙ add-one i)))
    ∙ +ℤ_comm (sum_to n (λ i. f (suc i))) (f zero) ∙ sym (sum_head n f)
  where
    below : (n i : ℕ) → i < n → i + 1 < suc n
    below n i l = omega arith

-- by any number of places
pub shift : (w a : ℕ) (f : ℕ → ℤ) → sum_to w (λ i. f ((i + a) % w)) ≡ sum_to w f
shift w zero f = sum-cong w (λ i l. ap (λ x. f (x % w)) (add-zero i) ∙ ap f (mod-eq_of_lt l))
shift w (suc a) f = sum-cong w (λ i l. ap f (sym (mod-add-mod (i + 1) w a ∙ ap (λ x. x % w) (step i a)))) ∙ shift-east w (λ i. f ((i + a) % w)) ∙ shift w a f
  where
    step : (i a : ℕ) → i + 1 + a ≡ i + suc a
    step i a = omega arith

-- ---- a grid of w columns and n rows

module _ (w n : ℕ) where
  pub grid-cong : {f g : ℕ → ℕ → ℤ} → ((i j : ℕ) → i < w → j < n → f i j ≡ g i j) → grid w n f ≡ grid w n g
  unfolding grid
  grid-cong h = sum-cong n (λ j m. sum-cong w (λ i l. h i j l m))

  pub grid-zero : grid w n (λ i j. pos 0) ≡ pos 0
  unfolding grid
  grid-zero = sum-cong n (λ j m. sum-zero w) ∙ sum-zero n

  pub grid-add : (f g : ℕ → ℕ → ℤ) → grid w n (λ i j. f i j +ℤ g i j) ≡ grid w n f +ℤ grid w n g
  unfolding grid
  grid-add f g = sum-cong n (λ j m. sum-add w (λ i. f i j) (λ i. g i j)) ∙ sum-add n (λ j. sum_to w (λ i. f i j)) (λ j. sum_to w (λ i. g i j))

  pub grid_scale : (c : ℤ) (f : ℕ → ℕ → ℤ) → grid w n (λ i j. c *ℤ f i j) ≡ c *ℤ grid w n f
  unfolding grid
  grid_scale c f = sum-cong n (λ j m. sum-scale w c (λ i. f i j)) ∙ sum-scale n c (λ j. sum_to w (λ i. f i j))

  pub grid-shift : (a b : ℕ) (f : ℕ → ℕ → ℤ) → grid w n (λ i j. f ((i + a) % w) ((j + b) % n)) ≡ grid w n f
  unfolding grid
  grid-shift a b f = sum-cong n (λ j m. shift w a (λ i. f i ((j + b) % n))) ∙ shift n b (λ j. sum_to w (λ i. f i j))

-- ---- a grid that is kept row by row in a list

pub sum-append : (a b : ℕ) (f : ℕ → ℤ) → sum_to (a + b) f ≡ sum_to a f +ℤ sum_to b (λ i. f (a + i))
unfolding sum_to
sum-append a zero f = ap (λ x. sum_to x f) (add-zero a) ∙ sym (+ℤ_idr (sum_to a f))
sum-append a (suc b) f =
    ap (λ x. sum_to x f) (add-suc a b) ∙ ap (λ x. x +ℤ f (a + b)) (sum-append a b f) ∙ +ℤ_assoc (sum_to a f) (sum_to b (λ i. f (a + i))) (f (a + b))

-- a loop over all cells in one run sums what the grid sums
pub sum_rows : (w n : ℕ) (f : ℕ → ℤ) → sum_to (n * w) f ≡ grid w n (λ i j. f (j * w + i))
unfolding sum_to grid
sum_rows w zero f = ap (λ x. sum_to x f) (zero-mul w)
sum_rows w (suc n) f =
    ap (λ x. sum_to x f) (suc-mul n w) ∙ sum-append (n * w) w f ∙ ap (λ x. x +ℤ sum_to w (λ i. f (n * w + i))) (sum_rows w n f)
