-- The weights of a cell in doubles: each sum of corners (02, U4) is its row of the table, bit by bit. Assumes nothing.
use Rattle.std.specs.Prelude.{◌≡◌, [], ◌∷◌, ℕ, ℤ}
use Rattle.std.specs.Float.Ieee.{size, span, climb}
use Rattle.model.specs.Weights.{weights, weight_at, weighted}
use Rattle.integers.specs.Bounds.{Sizes, valued}
use Rattle.integers.specs.Formulas.{formulas}
use Rattle.doubles.specs.Terms.{Term, var, ◌⊕◌, ◌⊖◌, doubled}
use Rattle.doubles.specs.Plain.{same-double}
use Rattle.doubles.specs.Bound.{wide_sizes, weigh}

-- the sums as terms, over ne, nw, sw, se
abbrev all : Term
all = var 0 ⊕ var 1 ⊕ var 2 ⊕ var 3

abbrev pub sum_p : Term
sum_p = all ⊕ var 0 ⊕ var 2

abbrev pub sum_m : Term
sum_m = all ⊕ var 1 ⊕ var 3

abbrev pub sum_e : Term
sum_e = (var 0 ⊕ var 1) ⊖ (var 2 ⊕ var 3)

abbrev pub sum_f : Term
sum_f = (var 1 ⊕ var 2) ⊖ (var 0 ⊕ var 3)

-- corners within the bounds of q
abbrev pub CornerSizes : (ne nw sw se : ℤ) → Type 0
CornerSizes ne nw sw se = let most = wide_sizes.corner in Sizes (ne ∷ nw ∷ sw ∷ se ∷ []) (most ∷ most ∷ most ∷ most ∷ [])

-- worked out in doubles, a sum of corners is that row of the table
abbrev IsRow : (ne nw sw se : ℤ) → Term → (row : ℕ) → Type 0
IsRow ne nw sw se e row = let ρ = valued (ne ∷ nw ∷ sw ∷ se ∷ []) in doubled ρ e ≡ doubled ρ (weigh row 0)

module _ {ne nw sw se : ℤ} (h : CornerSizes ne nw sw se) where
  pub p-row : IsRow ne nw sw se sum_p 0
  unfolding size span climb weights weight_at weighted
  p-row = same-double h sum_p (weigh 0 0) (tt, tt, tt) (tt, tt, tt) (formulas.p ne nw sw se)

  pub m-row : IsRow ne nw sw se sum_m 1
  unfolding size span climb weights weight_at weighted
  m-row = same-double h sum_m (weigh 1 0) (tt, tt, tt) (tt, tt, tt) (formulas.m ne nw sw se)

  pub e-row : IsRow ne nw sw se sum_e 2
  unfolding size span climb weights weight_at weighted
  e-row = same-double h sum_e (weigh 2 0) (tt, tt, tt) (tt, tt, tt) (formulas.e ne nw sw se)

  pub f-row : IsRow ne nw sw se sum_f 3
  unfolding size span climb weights weight_at weighted
  f-row = same-double h sum_f (weigh 3 0) (tt, tt, tt) (tt, tt, tt) (formulas.f ne nw sw se)
