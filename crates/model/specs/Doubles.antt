-- 01's tendencies in double precision (02, U3): its formulas, each operation rounded once. A product comes before the sum that it is in, and
-- a sum goes from left to right: sums round, so another grouping would give other doubles. And when a grid is narrow.
use Rattle.std.specs.Prelude.{◌≡◌, Bool, true, false, cond, List, [], ◌∷◌, ℕ, ◌*◌, ◌≤◌, ℤ, pos, neg_ℤ, ◌-ℤ◌, nat_abs, Float}
use Rattle.std.specs.Prelude.{Option, None, Some}
use Rattle.std.specs.Float.{nan, inf, fin, binary64}
use Rattle.std.specs.Float.Ieee.{up, down, of_int, add, sub, mul, neg}
use Rattle.model.specs.Numbers.{bernoulli_scale}
use Rattle.model.specs.Grid.{next, at, by_cell}
use Rattle.model.specs.State.{State, corner_columns, corner_rows, closed_west, closed_south}
use Rattle.model.specs.Tests.{first_found}
use Rattle.model.specs.Refusals.{Taken, narrowed, value_tests}
use Rattle.model.specs.Weights.{weight_at}
use Rattle.model.specs.Scheme.{to_east, to_west, to_north, to_south}
use Rattle.model.specs.declared.Field.TheVariants.{Depth, Bottom, VelocityU, VelocityV, Vorticity}
use Rattle.model.specs.declared.Refusal.TheVariants.{Value}

-- ---- a double and a whole number

-- n with a sign
abbrev pub signed : Bool → ℕ → ℤ
signed false n = pos n
signed true n = neg_ℤ (pos n)

-- the double x is the whole number z: it is finite, ±m·2^e, its size is a whole number n, and z is n with its sign. A zero of either sign
-- is 0
abbrev pub IsWhole : Float → ℤ → Type 0
IsWhole nan z = ⊥
IsWhole (inf s) z = ⊥
IsWhole (fin s m e) z = (n : ℕ) × (m * up e ≡ n * down e) × (z ≡ signed s n)

-- x is a whole number at most k from z
pub record IsNear (k : ℕ) (x : Float) (z : ℤ) : Type 0 where
  pub whole : ℤ
  pub is : IsWhole x whole
  pub close : nat_abs (whole -ℤ z) ≤ k

-- ---- operations, each rounded once

infixl 60 ◌⊞◌ ◌⊟◌
infixl 70 ◌⊠◌
abbrev pub ◌⊞◌ : Float → Float → Float
x ⊞ y = add binary64 x y

abbrev pub ◌⊟◌ : Float → Float → Float
x ⊟ y = sub binary64 x y

abbrev pub ◌⊠◌ : Float → Float → Float
x ⊠ y = mul binary64 x y

-- a whole number as a double: those of a state, of q and of the table are held whole
abbrev pub double : ℤ → Float
double z = of_int binary64 z

-- ---- the tendencies, as Scheme.antt has them in whole numbers

module _ (s : State) where
  abbrev h : ℕ → ℕ → Float
  h i j = double (at s.w s.h i j)

  abbrev b : ℕ → ℕ → Float
  b i j = double (at s.w s.b i j)

  abbrev u : ℕ → ℕ → Float
  u i j = double (at s.w s.u i j)

  abbrev v : ℕ → ℕ → Float
  v i j = double (at s.w s.v i j)

  unfoldable pub flux_u : ℕ → ℕ → Float
  flux_u i j = u i j ⊠ (h (to_west s i) j ⊞ h i j)

  unfoldable pub flux_v : ℕ → ℕ → Float
  flux_v i j = v i j ⊠ (h i (to_south s j) ⊞ h i j)

  unfoldable pub D : ℕ → ℕ → Float
  D i j = flux_u (to_east s i) j ⊟ flux_u i j ⊞ flux_v i (to_north s j) ⊟ flux_v i j

  unfoldable pub B : ℕ → ℕ → Float
  B i j =
      u i j ⊠ u i j
      ⊞ u (to_east s i) j ⊠ u (to_east s i) j
      ⊞ v i j ⊠ v i j
      ⊞ v i (to_north s j) ⊠ v i (to_north s j)
      ⊞ double (pos 4) ⊠ double s.G ⊠ (h i j ⊞ b i j)

  -- the negation of D: of still water it is -0.0
  unfoldable pub tendency_h : ℕ → ℕ → Float
  tendency_h i j = neg (D i j)

  unfoldable pub h_doubles : List Float
  h_doubles = by_cell s.w s.n tendency_h

  module _ (q : List ℤ) where
    abbrev corner : ℕ → ℕ → Float
    corner x y = double (at (corner_columns s) q x y)

    -- a row of the weight table over the corners ne, nw, sw, se of a cell
    unfoldable pub weight : ℕ → ℕ → ℕ → Float
    weight row i j =
        let east = next (corner_columns s) i in
        let north = next (corner_rows s) j in
        double (weight_at row 0) ⊠ corner east north
        ⊞ double (weight_at row 1) ⊠ corner i north
        ⊞ double (weight_at row 2) ⊠ corner i j
        ⊞ double (weight_at row 3) ⊠ corner east j

    unfoldable pub Tu : ℕ → ℕ → Float
    Tu i j =
        weight 0 i j ⊠ flux_v i (to_north s j)
        ⊞ weight 1 (to_west s i) j ⊠ flux_v (to_west s i) (to_north s j)
        ⊞ weight 0 (to_west s i) j ⊠ flux_v (to_west s i) j
        ⊞ weight 1 i j ⊠ flux_v i j
        ⊟ weight 2 i j ⊠ flux_u (to_east s i) j
        ⊞ weight 2 (to_west s i) j ⊠ flux_u (to_west s i) j
        ⊟ double bernoulli_scale ⊠ (B i j ⊟ B (to_west s i) j)

    unfoldable pub Tv : ℕ → ℕ → Float
    Tv i j =
        neg (weight 0 i j ⊠ flux_u (to_east s i) j)
        ⊟ weight 1 i j ⊠ flux_u i j
        ⊟ weight 0 i (to_south s j) ⊠ flux_u i (to_south s j)
        ⊟ weight 1 i (to_south s j) ⊠ flux_u (to_east s i) (to_south s j)
        ⊟ weight 3 i j ⊠ flux_v i (to_north s j)
        ⊞ weight 3 i (to_south s j) ⊠ flux_v i (to_south s j)
        ⊟ double bernoulli_scale ⊠ (B i j ⊟ B i (to_south s j))

    -- a closed edge's tendency is +0.0
    unfoldable pub tendency_u : ℕ → ℕ → Float
    tendency_u i j = cond (closed_west s i j) (double (pos 0)) (Tu i j)

    unfoldable pub tendency_v : ℕ → ℕ → Float
    tendency_v i j = cond (closed_south s i j) (double (pos 0)) (Tv i j)

    unfoldable pub u_doubles : List Float
    u_doubles = by_cell s.w s.n tendency_u

    unfoldable pub v_doubles : List Float
    v_doubles = by_cell s.w s.n tendency_v

-- ---- narrow

-- the fields that are looked at, all of each: where one cell is probed too
abbrev pub narrow_fields : State → List ℤ → List Taken
narrow_fields s q =
    narrowed s Depth s.h
    ∷ narrowed s Bottom s.b
    ∷ narrowed s VelocityU s.u
    ∷ narrowed s VelocityV s.v
    ∷ narrowed s Vorticity q
    ∷ []

abbrev pub is_none : {R : Type 0} → Option R → Bool
is_none None = true
is_none (Some r) = false

-- none of their numbers is outside the narrow bounds
unfoldable pub narrow : State → List ℤ → Bool
narrow s q = is_none (first_found (value_tests Value (narrow_fields s q)))
