-- Cells and neighbours, as code finds them: without a division. Assumes nothing.
use Rattle.std.specs.Prelude.{◌≡◌, ℕ, ◌+◌, ◌-◌, ◌*◌, ◌/◌, ◌%◌, ◌≤◌, ◌<◌}
use Rattle.std.proofs.Common.{ap, sym, ◌∙◌, mod-eq_of_lt, mod-lt, zero-add, mul_comm, suc-mul, mul-le-mul, add-one, arith}
use Rattle.std.proofs.Math.Nat.{mod-add-mod, add-mod_right}
use Rattle.std.proofs.Math.Arith.{digits_lt, digits_div, digits_mod}
use Rattle.model.specs.Grid.{next, previous}
use Rattle.model.specs.State.{Side}

-- a cell of a grid
pub record Cell (w n i j : ℕ) : Type 0 where
  pub columns : Side w
  pub rows : Side n
  pub column : i < w
  pub row : j < n

-- ---- indices

pub cells-most : {w n : ℕ} → Side w → Side n → w * n ≤ 4096
cells-most p q = mul-le-mul p.most q.most

pub cell-lt : {w n i j : ℕ} → i < w → j < n → j * w + i < w * n
cell-lt {w} {n} p q = rw (mul_comm w n) (digits_lt q p)

-- the index after a row's last cell is the next row's first
pub row-end : {w i : ℕ} (j : ℕ) → i ≡ w → j * w + i ≡ (j + 1) * w
row-end {w} {i} j e = ap (λ x. j * w + x) e ∙ sym (ap (λ x. x * w) (add-one j) ∙ suc-mul j w)

-- what goes by an index and its column and row goes by the cell
pub by_index : {A : Type 0} {w i : ℕ} (f : ℕ → ℕ → A) (j : ℕ) → i < w → f ((j * w + i) % w) ((j * w + i) / w) ≡ f i j
by_index {w = w} {i = i} f j p = ap (λ x. f x ((j * w + i) / w)) (digits_mod j p) ∙ ap (f i) (digits_div j p)

-- ---- neighbours

pub next-lt : (w i : ℕ) → 0 < w → next w i < w
next-lt w i p = mod-lt (i + 1) p

pub previous-lt : (w i : ℕ) → 0 < w → previous w i < w
previous-lt w i p = mod-lt (i + (w - 1)) p

pub next-inner : (w i : ℕ) → i + 1 < w → next w i ≡ i + 1
next-inner w i l = mod-eq_of_lt l

pub previous-first : (w i : ℕ) → i ≡ 0 → i < w → previous w i ≡ w - 1
previous-first w i e l = ap (λ x. (x + (w - 1)) % w) e ∙ mod-eq_of_lt (omega arith) ∙ zero-add (w - 1)

pub previous-inner : (w i : ℕ) → 0 < i → i < w → previous w i ≡ i - 1
previous-inner w i k l = ap (λ x. x % w) (around w i k l) ∙ add-mod_right (i - 1) w ∙ mod-eq_of_lt (omega arith)
  where
    around : (w i : ℕ) → 0 < i → i < w → i + (w - 1) ≡ i - 1 + w
    around w i k l = omega arith

-- the only place has itself before it
pub previous-only : {w i : ℕ} → w ≡ 1 → i < w → previous w i ≡ i
previous-only {w} {i} e p = previous-first w i (omega arith) p ∙ only w i e p
  where
    only : (w i : ℕ) → w ≡ 1 → i < w → w - 1 ≡ i
    only w i e p = omega arith

-- the place before one counted on without a wrap, and before the next one
pub previous-after : {w i : ℕ} → i < w → previous w (i + 1) ≡ i
previous-after {w} {i} p = ap (λ x. x % w) (on w i p) ∙ add-mod_right i w ∙ mod-eq_of_lt p
  where
    on : (w i : ℕ) → i < w → i + 1 + (w - 1) ≡ i + w
    on w i p = omega arith

pub previous-next : {w i : ℕ} → i < w → previous w (next w i) ≡ i
previous-next {w} {i} p = mod-add-mod (i + 1) w (w - 1) ∙ previous-after p
