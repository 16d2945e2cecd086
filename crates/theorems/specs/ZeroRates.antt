-- What the tendency call fills in has scaled energy rate zero, and scaled enstrophy rate zero where no edge is closed. Assumes nothing.
use Rattle.std.specs.Prelude.{◌≡◌, refl, Bool, false, cond, List, ℕ, ◌+◌, ◌*◌, ◌<◌, T, ℤ, pos, neg_ℤ, ◌+ℤ◌, ◌-ℤ◌, ◌*ℤ◌, get_or, replicate}
use Rattle.std.proofs.Common.{sym, ap, subst, ◌∙◌, arith}
use Rattle.std.proofs.Math.IntN.{zero-*ℤ, neg_ℤ-neg_ℤ}
use Rattle.grid.specs.Cells.{previous-lt}
use Rattle.std.proofs.lemmas.Bool.{or_parts}
use Rattle.grid.specs.CellFields.{same_at, at-by_cell}
use Rattle.model.specs.Grid.{at, previous, sum_grid, corners_of}
use Rattle.model.specs.State.{State, cells, boundary_of, walled_west, walled_south, barrier_at, closed_west, closed_south, WithinLimits, OpenEverywhere}
use Rattle.model.specs.Scheme.{divergence, momentum_u, momentum_v, corner_weight, to_west, to_south, flux_u, flux_v, D, B, corner, Tu, Tv, tendency_u, tendency_v, h_tendencies, u_tendencies, v_tendencies}
use Rattle.model.specs.Rates.{energy_rate, vorticity_tendency, D4, enstrophy_rate}
use Rattle.model.specs.Claims.{Holds, EnergyClaim, AnyCornersEnergyClaim, EnstrophyClaim, PeriodicEnstrophyClaim}
use Rattle.std.specs.Prelude.{Ok}
use Rattle.grid.specs.Sums.{grid-cong}
use Rattle.theorems.specs.Conservation.{energy-law, enstrophy-law}
use Rattle.theorems.specs.Filling.{tendencies-accepted, tendencies-fill}

-- ---- energy

no-flux : (x k : ℤ) → x ≡ pos 0 → x *ℤ k ≡ pos 0
no-flux x k e = ap (λ z. z *ℤ k) e ∙ zero-*ℤ k

no-flux-u : (s : State) → WithinLimits s → (i j : ℕ) → i < s.w → j < s.n → T (closed_west s i j) → flux_u s i j ≡ pos 0
unfolding flux_u
no-flux-u s l i j p q c = no-flux (at s.w s.u i j) (at s.w s.h (to_west s i) j +ℤ at s.w s.h i j) (l.still-west i j p q c)

no-flux-v : (s : State) → WithinLimits s → (i j : ℕ) → i < s.w → j < s.n → T (closed_south s i j) → flux_v s i j ≡ pos 0
unfolding flux_v
no-flux-v s l i j p q c = no-flux (at s.w s.v i j) (at s.w s.h i (to_south s j) +ℤ at s.w s.h i j) (l.still-south i j p q c)

-- whatever the weights P, M, E and F are, so with any q: of lists that hold the tendencies of a state
energy-held : (s : State) (q dh du dv : List ℤ) → WithinLimits s → Holds s dh (λ i j. neg_ℤ (D s i j)) → Holds s du (tendency_u s q)
    → Holds s dv (tendency_v s q) → energy_rate s dh du dv ≡ pos 0
unfolding energy_rate D tendency_u tendency_v Tu Tv
energy-held s q dh du dv l h u v =
    grid-cong s.w s.n (λ i j a b.
    λ k.
    pos 2 *ℤ flux_u s i j *ℤ u i j a b k
    +ℤ pos 2 *ℤ flux_v s i j *ℤ v i j a b k
    -ℤ pos 1572864 *ℤ B s i j *ℤ (ap neg_ℤ (h i j a b) ∙ neg_ℤ-neg_ℤ (D s i j)) k)
    ∙ energy-law s.w s.n (flux_u s) (flux_v s) (B s) _ _ _ _ (closed_west s) (closed_south s) (no-flux-u s l) (no-flux-v s l)

pub energy-zero : EnergyClaim
energy-zero s q dh du dv dh' du' dv' p =
    let f = tendencies-fill s q dh du dv dh' du' dv' p in
    energy-held s q dh' du' dv' ((tendencies-accepted s q dh du dv dh' du' dv' (Ok tt) p).0 refl).0 f.0 f.1 f.2

pub any-corners-energy : AnyCornersEnergyClaim
unfolding h_tendencies u_tendencies v_tendencies
any-corners-energy s q l =
    energy-held s q _ _ _ l
    (at-by_cell s.w s.n (λ i j. neg_ℤ (D s i j)))
    (at-by_cell s.w s.n (tendency_u s q))
    (at-by_cell s.w s.n (tendency_v s q))

-- ---- enstrophy

-- no edge is closed, so there is no wall: the corners are w by n
no-walls : (s : State) → WithinLimits s → OpenEverywhere s → (walled_west s ≡ false) × (walled_south s ≡ false)
unfolding closed_west closed_south
no-walls s l o = ((or_parts _ _ (o.west 0 0 l.columns.some l.rows.some)).0, (or_parts _ _ (o.south 0 0 l.columns.some l.rows.some)).0)

-- the law with the corners of such a grid
module _ (w n : ℕ) (U W B : ℕ → ℕ → ℤ) (q : List ℤ) where
  abbrev Spun : (columns rows : ℕ) → Type 0
  Spun columns rows =
      let c : ℕ → ℕ → ℤ = at columns q in
      let k : ℕ → ℕ → ℕ → ℤ = corner_weight columns rows c in
      let d : ℕ → ℕ → ℤ = divergence w n U W in
      let x : ℕ → ℕ → ℤ = momentum_u w n U W B (k 0) (k 1) (k 2) (k 3) in
      let y : ℕ → ℕ → ℤ = momentum_v w n U W B (k 0) (k 1) (k 2) (k 3) in
      sum_grid w n (λ i j.
      c i j *ℤ (y i j -ℤ y (previous w i) j +ℤ x i (previous n j) -ℤ x i j)
      +ℤ pos 3 *ℤ c i j *ℤ c i j *ℤ (d i j +ℤ d (previous w i) j +ℤ d i (previous n j) +ℤ d (previous w i) (previous n j)))
      ≡ pos 0

  spun : (a b : Bool) → a ≡ false → b ≡ false → Spun (corners_of a w) (corners_of b n)
  spun a b e f = subst (λ a. Spun (corners_of a w) (corners_of b n)) (sym e) (subst (λ b. Spun w (corners_of b n)) (sym f) (enstrophy-law w n U W B (at w q)))

pub enstrophy-zero : EnstrophyClaim
unfolding enstrophy_rate vorticity_tendency D4 D tendency_u tendency_v Tu Tv
enstrophy-zero s q dh du dv dh' du' dv' o t =
    let l = ((tendencies-accepted s q dh du dv dh' du' dv' (Ok tt) t).0 refl).0 in
    let z = no-walls s l o in
    let f = tendencies-fill s q dh du dv dh' du' dv' t in
    let u : (i j : ℕ) → i < s.w → j < s.n → at s.w du' i j ≡ Tu s q i j = λ i j p r. f.1 i j p r ∙ ap (λ c. cond c (pos 0) (Tu s q i j)) (o.west i j p r) in
    let v : (i j : ℕ) → i < s.w → j < s.n → at s.w dv' i j ≡ Tv s q i j = λ i j p r. f.2 i j p r ∙ ap (λ c. cond c (pos 0) (Tv s q i j)) (o.south i j p r) in
    let d : (i j : ℕ) → i < s.w → j < s.n → neg_ℤ (at s.w dh' i j) ≡ D s i j = λ i j p r. ap neg_ℤ (f.0 i j p r) ∙ neg_ℤ-neg_ℤ (D s i j) in
    grid-cong s.w s.n (λ i j p r.
    let p' = previous-lt s.w i (some i s.w p) in
    let r' = previous-lt s.n j (some j s.n r) in
    λ k.
    corner s q i j *ℤ (v i j p r k -ℤ v (to_west s i) j p' r k +ℤ u i (to_south s j) p r' k -ℤ u i j p r k)
    +ℤ pos 3 *ℤ corner s q i j *ℤ corner s q i j *ℤ (d i j p r k +ℤ d (to_west s i) j p' r k +ℤ d i (to_south s j) p r' k +ℤ d (to_west s i) (to_south s j) p' r' k))
    ∙ spun s.w s.n (flux_u s) (flux_v s) (B s) q (walled_west s) (walled_south s) z.0 z.1
  where
    some : (i w : ℕ) → i < w → 0 < w
    some i w p = omega arith

-- kind 0 without barriers has no closed edge
periodic-open : (s : State) → s.kind ≡ 0 → s.barriers ≡ replicate (cells s) 0 → OpenEverywhere s
unfolding closed_west closed_south boundary_of
periodic-open s e n = record { west = λ i j p q. rw (e, none-at i j); south = λ i j p q. rw (e, none-at i j) }
  where
    none-at : (i j : ℕ) → barrier_at s i j ≡ 0
    none-at i j = ap (λ l. get_or l (j * s.w + i) 0) n ∙ same_at (cells s) 0 (j * s.w + i)

pub periodic-enstrophy : PeriodicEnstrophyClaim
periodic-enstrophy s q dh du dv dh' du' dv' e n t = enstrophy-zero s q dh du dv dh' du' dv' (periodic-open s e n) t
