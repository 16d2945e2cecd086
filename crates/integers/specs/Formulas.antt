-- The rows of the weight table are sums of corners (02, U4): four polynomial identities. Assumes nothing.
use Rattle.std.specs.Prelude.{ℕ}
use Rattle.model.specs.Weights.{weights, weight_at, weighted}
use Rattle.model.specs.Claims.{FormulaClaim}
use Rattle.integers.specs.Ring.{Expr, con, ◌⊕◌, ◌⊖◌, ◌⊗◌, ◌⊜◌, Identity, ring}

-- the sums, and a row of the table
module _ (ne nw sw se : Expr) where
  abbrev pub sum_all : Expr
  sum_all = ne ⊕ nw ⊕ sw ⊕ se

  abbrev pub sum_p : Expr
  sum_p = sum_all ⊕ ne ⊕ sw

  abbrev pub sum_m : Expr
  sum_m = sum_all ⊕ nw ⊕ se

  abbrev pub sum_e : Expr
  sum_e = (ne ⊕ nw) ⊖ (sw ⊕ se)

  abbrev pub sum_f : Expr
  sum_f = (nw ⊕ sw) ⊖ (ne ⊕ se)

  abbrev row : ℕ → Expr
  row r = con (weight_at r 0) ⊗ ne ⊕ con (weight_at r 1) ⊗ nw ⊕ con (weight_at r 2) ⊗ sw ⊕ con (weight_at r 3) ⊗ se

p-law : Identity 4 (λ ne nw sw se. sum_p ne nw sw se ⊜ row ne nw sw se 0)
unfolding weights weight_at
p-law = ring tt

m-law : Identity 4 (λ ne nw sw se. sum_m ne nw sw se ⊜ row ne nw sw se 1)
unfolding weights weight_at
m-law = ring tt

e-law : Identity 4 (λ ne nw sw se. sum_e ne nw sw se ⊜ row ne nw sw se 2)
unfolding weights weight_at
e-law = ring tt

f-law : Identity 4 (λ ne nw sw se. sum_f ne nw sw se ⊜ row ne nw sw se 3)
unfolding weights weight_at
f-law = ring tt

pub formulas : FormulaClaim
unfolding weighted
formulas = record { p = p-law.at; m = m-law.at; e = e-law.at; f = f-law.at }
