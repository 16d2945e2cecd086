-- What stands in a field that was filled cell by cell, and past it. Assumes nothing.
use Rattle.std.specs.Prelude.{◌≡◌, refl, List, [], ◌∷◌, ℕ, zero, suc, ◌*◌, ◌/◌, ◌%◌, ◌+◌, ◌<◌, ℤ, pos, length, get_or, take, drop, replicate}
use Rattle.std.proofs.Common.{sym, ap, subst, ◌∙◌, not-suc-le-zero, le_of_suc-le-suc, mod-lt, div-lt_iff_lt-mul, mul_comm, take_at, drop_at, ext_get_or}
use Rattle.std.proofs.Math.ListN.{get_or-append}
use Rattle.model.specs.Grid.{tabulate, by_cell, filled, at}
use Rattle.grid.specs.Cells.{cell-lt, by_index}

module _ {A : Type 0} where
  pub length-tabulate : (m : ℕ) (f : ℕ → A) → length (tabulate m f) ≡ m
  length-tabulate zero f = refl
  length-tabulate (suc m) f = ap suc (length-tabulate m (λ k. f (suc k)))

  pub get_d_tabulate : (m : ℕ) (f : ℕ → A) (k : ℕ) (z : A) → k < m → get_or (tabulate m f) k z ≡ f k
  get_d_tabulate zero f k z h = absurd (not-suc-le-zero h)
  get_d_tabulate (suc m) f zero z h = refl
  get_d_tabulate (suc m) f (suc k) z h = get_d_tabulate m (λ k. f (suc k)) k z (le_of_suc-le-suc h)

  -- a list by its elements, and one element again and again
  pub tabulate-get : (m : ℕ) (l : List A) (z : A) → length l ≡ m → tabulate m (λ k. get_or l k z) ≡ l
  tabulate-get m l z e = ap (λ m. tabulate m (λ k. get_or l k z)) (sym e) ∙ own l
    where
      own : (l : List A) → tabulate (length l) (λ k. get_or l k z) ≡ l
      own [] = refl
      own (x ∷ l) = ap (◌∷◌ x) (own l)

  pub tabulate-same : (m : ℕ) (a : A) → tabulate m (λ k. a) ≡ replicate m a
  tabulate-same zero a = refl
  tabulate-same (suc m) a = ap (◌∷◌ a) (tabulate-same m a)

  pub same_at : (m : ℕ) (a : A) (k : ℕ) → get_or (replicate m a) k a ≡ a
  same_at zero a k = refl
  same_at (suc m) a zero = refl
  same_at (suc m) a (suc k) = same_at m a k

  -- the part filled, and the rest
  pub take-filled : (m : ℕ) (l d : List A) → length l ≡ m → take m (filled m l d) ≡ l
  take-filled m l d e = take_at l (drop m d) m e

  pub drop-filled : (m : ℕ) (l d : List A) → length l ≡ m → drop m (filled m l d) ≡ drop m d
  drop-filled m l d e = drop_at l (drop m d) m e

  pub get_or-filled : (m : ℕ) (l d : List A) (k : ℕ) (z : A) → length l ≡ m → k < m → get_or (filled m l d) k z ≡ get_or l k z
  get_or-filled m l d k z e h = get_or-append l (drop m d) z k (rw e h)

  -- a field of any elements, filled cell by cell
  pub length-by_cell : (w n : ℕ) (f : ℕ → ℕ → A) → length (by_cell w n f) ≡ w * n
  unfolding by_cell
  length-by_cell w n f = length-tabulate (w * n) (λ k. f (k % w) (k / w))

  pub any-by_cell : (w n : ℕ) (f : ℕ → ℕ → A) (k : ℕ) (z : A) → k < w * n → get_or (by_cell w n f) k z ≡ f (k % w) (k / w)
  unfolding by_cell
  any-by_cell w n f k z l = get_d_tabulate (w * n) (λ k. f (k % w) (k / w)) k z l

-- of numbers
pub get_or-by_cell : (w n : ℕ) (f : ℕ → ℕ → ℤ) (k : ℕ) → k < w * n → get_or (by_cell w n f) k (pos 0) ≡ f (k % w) (k / w)
get_or-by_cell w n f k l = any-by_cell w n f k (pos 0) l

pub at-by_cell : (w n : ℕ) (f : ℕ → ℕ → ℤ) (i j : ℕ) → i < w → j < n → at w (by_cell w n f) i j ≡ f i j
at-by_cell w n f i j p q =
    get_or-by_cell w n f (j * w + i) (cell-lt p q) ∙ by_index f j p

-- an index has its row
pub row_lt : {w n k : ℕ} → 0 < w → k < w * n → k / w < n
row_lt {w} {n} z h = (div-lt_iff_lt-mul z).1 (rw (mul_comm w n) at h)

-- what holds at every cell holds at every index
pub by_cell-each : (w n : ℕ) {g : ℕ → ℕ → ℤ} (P : ℤ → Type 0) → 0 < w → ((i j : ℕ) → i < w → j < n → P (g i j)) → (k : ℕ) → k < w * n → P (get_or (by_cell w n g) k (pos 0))
by_cell-each w n {g} P z h k l = subst P (sym (get_or-by_cell w n g k l)) (h (k % w) (k / w) (mod-lt k z) (row_lt z l))

-- what agrees at every cell is one field
pub by_cell-cong : (w n : ℕ) {f g : ℕ → ℕ → ℤ} → 0 < w → ((i j : ℕ) → i < w → j < n → f i j ≡ g i j) → by_cell w n f ≡ by_cell w n g
by_cell-cong w n {f} {g} z e =
    ext_get_or (pos 0) (by_cell w n f) (by_cell w n g) (length-by_cell w n f ∙ sym (length-by_cell w n g))
    (λ k l.
    let h : k < w * n = rw (length-by_cell w n f) at l in
    get_or-by_cell w n f k h ∙ e (k % w) (k / w) (mod-lt k z) (row_lt z h) ∙ sym (get_or-by_cell w n g k h))
