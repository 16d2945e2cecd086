-- The cells of a grid of w columns and n rows: cell (i, j) has index j·w + i, and indices wrap in both ways. And the corners of a side, which has
-- its own at a wall (02, U5).
use Rattle.std.specs.Prelude.{Bool, true, false, ◌||◌, cond, List, [], ◌∷◌, ◌++◌, ℕ, zero, suc, ◌+◌, ◌-◌, ◌*◌, ◌/◌, ◌%◌, min, eqb, ℤ, pos, ◌+ℤ◌, get_or, drop}
use Rattle.std.specs.Prelude.{Option, None, Some}

-- the next place on a side of w places, and the one before
abbrev pub next : ℕ → ℕ → ℕ
next w i = (i + 1) % w

abbrev pub previous : ℕ → ℕ → ℕ
previous w i = (i + (w - 1)) % w

-- the corners of a side of w places: one before each place, which without walls is the one after the last place too; with walls at its ends
-- the side has one corner more
abbrev pub corners_of : (walled : Bool) → ℕ → ℕ
corners_of false w = w
corners_of true w = w + 1

-- the places beside corner x, the lower and the upper one: without walls they wrap; at a wall both are the one inside
abbrev pub lower : (walled : Bool) → (w x : ℕ) → ℕ
lower false w x = previous w x
lower true w x = x - 1

abbrev pub upper : (walled : Bool) → (w x : ℕ) → ℕ
upper false w x = x
upper true w x = min x (w - 1)

-- whether corner x is on a wall
abbrev pub on_wall : (walled : Bool) → (w x : ℕ) → Bool
on_wall false w x = false
on_wall true w x = eqb x 0 || eqb x w

-- what a field has at cell (i, j)
abbrev pub at : ℕ → List ℤ → ℕ → ℕ → ℤ
at w f i j = get_or f (j * w + i) (pos 0)

-- f 0, …, f (m - 1)
abbrev pub tabulate : {A : Type 0} → ℕ → (ℕ → A) → List A
tabulate zero f = []
tabulate (suc m) f = f 0 ∷ tabulate m (λ k. f (suc k))

-- a field of the grid, from what it has at each cell
unfoldable pub by_cell : {A : Type 0} → ℕ → ℕ → (ℕ → ℕ → A) → List A
by_cell w n f = tabulate (w * n) (λ k. f (k % w) (k / w))

-- a destination d whose first m places are filled with the list l: the places past it keep their values
abbrev pub filled : {A : Type 0} → ℕ → List A → List A → List A
filled m l d = l ++ drop m d

-- f 0 + … + f (n - 1), and the sum over the cells of the grid
unfoldable pub sum_to : ℕ → (ℕ → ℤ) → ℤ
sum_to zero f = pos 0
sum_to (suc n) f = sum_to n f +ℤ f n

unfoldable pub sum_grid : ℕ → ℕ → (ℕ → ℕ → ℤ) → ℤ
sum_grid w n f = sum_to n (λ j. sum_to w (λ i. f i j))

-- the first of the m indices from k on at which the test holds: a scan that ends at the first one found
unfoldable pub first_from : (ℕ → Bool) → ℕ → ℕ → Option ℕ
first_from bad zero k = None
first_from bad (suc m) k = cond (bad k) (Some k) (first_from bad m (suc k))
