-- Sums over a torus of w columns and n rows of a polynomial in fields at nearby cells, by computation.
-- The variables of an expression (Ring.antt) are coded: `scalar k` is a number that does not depend on the cell, and `field f x y` is
-- field f at x - 2 columns east and y - 2 rows north of the cell, for x and y below 8: `field f 2 2` is the cell itself.
-- The sum over the torus of a monomial does not change when the monomial is moved, so each is moved as far west and south as it goes
-- (`canon`), and a sum is zero where the coefficients then are (`grid-law`). Assumes nothing.
use Rattle.std.specs.Prelude.{◌≡◌, refl, Bool, true, false, List, [], ◌∷◌, ℕ, zero, suc, ◌+◌, ◌-◌, ◌*◌, ◌/◌, ◌%◌, ◌<◌, min, T, ltb, eqb, get_or, ℤ, pos, ◌+ℤ◌, ◌-ℤ◌, ◌*ℤ◌}
use Rattle.std.proofs.Common.{sym, ◌∙◌, ap, arith, eqb→eq}
use Rattle.std.proofs.Math.Path.{fun_ext}
use Rattle.std.proofs.Math.Nat.{mod-add-mod, add-mod_right}
use Rattle.std.proofs.Math.IntN.{+ℤ_idl, +ℤ_idr}
use Rattle.integers.specs.Ring.{Expr, var, ◌⊕◌, ◌⊖◌, ◌⊜◌, Identity, ring, den, Mono, Terms, none, term, terms, leaf, gather, zeros, ◌and◌, and_l, and_r, dm, dt, terms-den, gather-den, zeros-den}
use Rattle.grid.specs.Sums.{grid, grid-cong, grid-zero, grid-add, grid-shift, east, west}

abbrev pub scalar : ℕ → Expr
scalar k = var k

abbrev pub field : ℕ → ℕ → ℕ → Expr
field f x y = var (64 + f * 64 + x * 8 + y)

-- ---- moving a monomial

abbrev low_x : Mono → ℕ
low_x [] = 8
low_x (c ∷ m) = elim (ltb c 64) [ true ↦ low_x m | false ↦ min (c / 8 % 8) (low_x m) ]

abbrev low_y : Mono → ℕ
low_y [] = 8
low_y (c ∷ m) = elim (ltb c 64) [ true ↦ low_y m | false ↦ min (c % 8) (low_y m) ]

abbrev down : ℕ → Mono → Mono
down s [] = []
down s (c ∷ m) = elim (ltb c 64) [ true ↦ c | false ↦ c - s ] ∷ down s m

-- the atom d, k columns and l rows on, is the atom c; the tests say which of the two is a scalar
abbrev moved : Bool → Bool → ℕ → ℕ → ℕ → ℕ → Bool
moved true true k l c d = eqb c d
moved true false k l c d = false
moved false true k l c d = false
moved false false k l c d = eqb (c / 64) (d / 64) and eqb (d / 8 % 8 + k) (c / 8 % 8) and eqb (d % 8 + l) (c % 8)

abbrev all_moved : ℕ → ℕ → Mono → Mono → Bool
all_moved k l [] [] = true
all_moved k l [] (d ∷ m') = false
all_moved k l (c ∷ m) [] = false
all_moved k l (c ∷ m) (d ∷ m') = moved (ltb c 64) (ltb d 64) k l c d and all_moved k l m m'

abbrev keep : Bool → Mono → Mono → Mono
keep true m m' = m'
keep false m m' = m

abbrev try_move : ℕ → ℕ → Mono → Mono → Mono
try_move k l m m' = keep (all_moved k l m m') m m'

abbrev pub canon : Mono → Mono
canon m = try_move (low_x m) (low_y m) m (down (low_x m * 8 + low_y m) m)

abbrev pub canon_terms : Terms → Terms
canon_terms none = none
canon_terms (term c m p) = term c (canon m) (canon_terms p)

abbrev pub cancels : Expr → Bool
cancels e = zeros (gather (canon_terms (terms e)) leaf)

-- ---- what an expression stands for at a cell

abbrev value : List ℤ → List (ℕ → ℕ → ℤ) → Bool → ℕ → ℕ → ℕ → ℤ
value ks fs true c i j = get_or ks c (pos 0)
value ks fs false c i j = get_or fs (c / 64 - 1) (λ i j. pos 0) i j

-- the place a - 2 steps east of i, on a cycle of w places
abbrev pub place : ℕ → ℕ → ℕ → ℕ
place w i zero = west w (west w i)
place w i (suc zero) = west w i
place w i (suc (suc zero)) = i
place w i (suc (suc (suc zero))) = east w i
place w i (suc (suc (suc (suc zero)))) = east w (east w i)
place w i (suc (suc (suc (suc (suc a))))) = (i + suc (suc (suc a))) % w

module _ (w n : ℕ) (ks : List ℤ) (fs : List (ℕ → ℕ → ℤ)) where
  -- the valuation of the variables at the cell (i, j)
  abbrev pub cell : ℕ → ℕ → ℕ → ℤ
  cell i j c = value ks fs (ltb c 64) c (place w i (c / 8 % 8)) (place n j (c % 8))

  -- the same with the cell at (i + 2, j + 2)
  abbrev base : ℕ → ℕ → ℕ → ℤ
  base i j c = value ks fs (ltb c 64) c ((i + c / 8 % 8) % w) ((j + c % 8) % n)

step : (w i k a b : ℕ) → a + k ≡ b → (i + b) % w ≡ ((i + k) % w + a) % w
step w i k a b e = ap (λ x. x % w) (sum i k a b e) ∙ sym (mod-add-mod (i + k) w a)
  where
    sum : (i k a b : ℕ) → a + k ≡ b → i + b ≡ i + k + a
    sum i k a b e = omega arith

west-at : (w i a : ℕ) → 0 < w → west w ((i + suc a) % w) ≡ (i + a) % w
west-at w i a h = mod-add-mod (i + suc a) w (w - 1) ∙ ap (λ x. x % w) (sum w i a h) ∙ add-mod_right (i + a) w
  where
    sum : (w i a : ℕ) → 0 < w → i + suc a + (w - 1) ≡ i + a + w
    sum w i a h = omega arith

east-at : (w i a : ℕ) → east w ((i + a) % w) ≡ (i + suc a) % w
east-at w i a = sym (step w i a 1 (suc a) (omega arith))

place_at : (w i a : ℕ) → 0 < w → place w ((i + 2) % w) a ≡ (i + a) % w
place_at w i zero h = ap (west w) (west-at w i 1 h) ∙ west-at w i 0 h
place_at w i (suc zero) h = west-at w i 1 h
place_at w i (suc (suc zero)) h = refl
place_at w i (suc (suc (suc zero))) h = east-at w i 2
place_at w i (suc (suc (suc (suc zero)))) h = ap (east w) (east-at w i 2) ∙ east-at w i 3
place_at w i (suc (suc (suc (suc (suc a))))) h = sym (step w i 2 (suc (suc (suc a))) (suc (suc (suc (suc (suc a))))) (omega arith))

module _ (w n : ℕ) (ks : List ℤ) (fs : List (ℕ → ℕ → ℤ)) where
  value-moved : (b b' : Bool) (k l c d : ℕ) → T (moved b b' k l c d) → (i j : ℕ)
      → value ks fs b c ((i + c / 8 % 8) % w) ((j + c % 8) % n) ≡ value ks fs b' d (((i + k) % w + d / 8 % 8) % w) (((j + l) % n + d % 8) % n)
  value-moved true true k l c d t i j = ap (λ x. get_or ks x (pos 0)) (eqb→eq c d t)
  value-moved true false k l c d t i j = absurd t
  value-moved false true k l c d t i j = absurd t
  value-moved false false k l c d t i j =
      ap (λ x. get_or fs (x - 1) (λ i j. pos 0) ((i + c / 8 % 8) % w) ((j + c % 8) % n)) (eqb→eq (c / 64) (d / 64) (and_l (eqb (c / 64) (d / 64)) _ t))
      ∙ ap (λ x. get_or fs (d / 64 - 1) (λ i j. pos 0) x ((j + c % 8) % n)) (step w i k (d / 8 % 8) (c / 8 % 8) (eqb→eq _ _ (and_l (eqb (d / 8 % 8 + k) (c / 8 % 8)) _ t')))
      ∙ ap (λ x. get_or fs (d / 64 - 1) (λ i j. pos 0) (((i + k) % w + d / 8 % 8) % w) x) (step n j l (d % 8) (c % 8) (eqb→eq _ _ (and_r (eqb (d / 8 % 8 + k) (c / 8 % 8)) _ t')))
    where
      t' : T (eqb (d / 8 % 8 + k) (c / 8 % 8) and eqb (d % 8 + l) (c % 8))
      t' = and_r (eqb (c / 64) (d / 64)) _ t

  mono-moved : (k l : ℕ) (m m' : Mono) → T (all_moved k l m m') → (i j : ℕ) → dm (base w n ks fs i j) m ≡ dm (base w n ks fs ((i + k) % w) ((j + l) % n)) m'
  mono-moved k l [] [] t i j = refl
  mono-moved k l [] (d ∷ m') t i j = absurd t
  mono-moved k l (c ∷ m) [] t i j = absurd t
  mono-moved k l (c ∷ m) (d ∷ m') t i j =
      ap (λ x. x *ℤ dm (base w n ks fs i j) m) (value-moved (ltb c 64) (ltb d 64) k l c d (and_l (moved (ltb c 64) (ltb d 64) k l c d) _ t) i j)
      ∙ ap (λ x. base w n ks fs ((i + k) % w) ((j + l) % n) d *ℤ x) (mono-moved k l m m' (and_r (moved (ltb c 64) (ltb d 64) k l c d) _ t) i j)

  try_move-sum : (c : ℤ) (k l : ℕ) (m m' : Mono) → grid w n (λ i j. c *ℤ dm (base w n ks fs i j) m) ≡ grid w n (λ i j. c *ℤ dm (base w n ks fs i j) (try_move k l m m'))
  try_move-sum c k l m m' = go (all_moved k l m m') (mono-moved k l m m')
    where
      go : (b : Bool) → (T b → (i j : ℕ) → dm (base w n ks fs i j) m ≡ dm (base w n ks fs ((i + k) % w) ((j + l) % n)) m')
          → grid w n (λ i j. c *ℤ dm (base w n ks fs i j) m) ≡ grid w n (λ i j. c *ℤ dm (base w n ks fs i j) (keep b m m'))
      go true h = grid-cong w n (λ i j p q. ap (λ x. c *ℤ x) (h tt i j)) ∙ grid-shift w n k l (λ i j. c *ℤ dm (base w n ks fs i j) m')
      go false h = refl

  canon-sum : (p : Terms) → grid w n (λ i j. dt (base w n ks fs i j) p) ≡ grid w n (λ i j. dt (base w n ks fs i j) (canon_terms p))
  canon-sum none = refl
  canon-sum (term c m p) =
      grid-add w n (λ i j. c *ℤ dm (base w n ks fs i j) m) (λ i j. dt (base w n ks fs i j) p)
      ∙ ap (λ x. x +ℤ grid w n (λ i j. dt (base w n ks fs i j) p)) (try_move-sum c (low_x m) (low_y m) m (down (low_x m * 8 + low_y m) m))
      ∙ ap (λ x. grid w n (λ i j. c *ℤ dm (base w n ks fs i j) (canon m)) +ℤ x) (canon-sum p)
      ∙ sym (grid-add w n (λ i j. c *ℤ dm (base w n ks fs i j) (canon m)) (λ i j. dt (base w n ks fs i j) (canon_terms p)))

  base-law : (e : Expr) → T (cancels e) → grid w n (λ i j. den (base w n ks fs i j) e) ≡ pos 0
  base-law e t =
      grid-cong w n (λ i j p q. sym (terms-den (base w n ks fs i j) e))
      ∙ canon-sum (terms e)
      ∙ grid-cong w n (λ i j p q. sym (gather-den (base w n ks fs i j) (canon_terms (terms e)) leaf ∙ +ℤ_idr (dt (base w n ks fs i j) (canon_terms (terms e))))
      ∙ zeros-den (base w n ks fs i j) (gather (canon_terms (terms e)) leaf) t)
      ∙ grid-zero w n

  centred : (i j : ℕ) → i < w → j < n → (e : Expr) → den (cell w n ks fs ((i + 2) % w) ((j + 2) % n)) e ≡ den (base w n ks fs i j) e
  centred i j p q e = ap (λ ρ. den ρ e) (fun_ext (λ c.
      ap (λ x. value ks fs (ltb c 64) c x (place n ((j + 2) % n) (c % 8))) (place_at w i (c / 8 % 8) (some i w p))
      ∙ ap (λ x. value ks fs (ltb c 64) c ((i + c / 8 % 8) % w) x) (place_at n j (c % 8) (some j n q))))
    where
      some : (i w : ℕ) → i < w → 0 < w
      some i w p = omega arith

back : Identity 2 (λ x y. x ⊖ y ⊕ y ⊜ x)
back = ring tt

-- the sum over the torus of an expression that cancels
pub grid-law : (e : Expr) → T (cancels e) → (w n : ℕ) (ks : List ℤ) (fs : List (ℕ → ℕ → ℤ)) → grid w n (λ i j. den (cell w n ks fs i j) e) ≡ pos 0
grid-law e t w n ks fs =
    sym (grid-shift w n 2 2 (λ i j. den (cell w n ks fs i j) e)) ∙ grid-cong w n (λ i j p q. centred w n ks fs i j p q e) ∙ base-law w n ks fs e t

-- two expressions whose difference cancels have the same sum
pub grid-same : (a b : Expr) → T (cancels (a ⊖ b)) → (w n : ℕ) (ks : List ℤ) (fs : List (ℕ → ℕ → ℤ)) → grid w n (λ i j. den (cell w n ks fs i j) a) ≡ grid w n (λ i j. den (cell w n ks fs i j) b)
grid-same a b t w n ks fs =
    let x : ℕ → ℕ → ℤ = λ i j. den (cell w n ks fs i j) a in
    let y : ℕ → ℕ → ℤ = λ i j. den (cell w n ks fs i j) b in
    grid-cong w n (λ i j p q. sym (back.at (x i j) (y i j)))
    ∙ grid-add w n (λ i j. x i j -ℤ y i j) y
    ∙ ap (λ z. z +ℤ grid w n y) (grid-law (a ⊖ b) t w n ks fs)
    ∙ +ℤ_idl (grid w n y)
