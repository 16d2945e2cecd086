-- What a cell gives to the tendencies of its edges: 01's sums, taken cell by cell. Assumes nothing.
use Rattle.std.specs.Prelude.{◌≡◌, refl, Bool, true, false, List, ℕ, ℤ, neg_ℤ, ◌-ℤ◌, ◌*ℤ◌, get_or}
use Rattle.std.proofs.Common.{sym, ◌∙◌}
use Rattle.std.proofs.Math.Path.{ap, ap₂}
use Rattle.std.proofs.Math.Bool.{cond}
use Rattle.std.proofs.Math.IntN.{pos, ◌+ℤ◌, +ℤ_idl}
use Rattle.model.specs.State.{State, closed_west, closed_south}
use Rattle.model.specs.Weights.{weighted}
use Rattle.model.specs.Scheme.{D, weight, flux_u, flux_v, B, Tu, Tv, tendency_u, tendency_v, momentum_u, momentum_v, to_east, to_west, to_north, to_south}
use Rattle.integers.specs.Ring.{Expr, con, ◌⊕◌, ◌⊖◌, ◌⊗◌, ◌⊜◌, Identity, ring}
use Rattle.integers.specs.Bounds.{Abs}
use Rattle.grid.specs.declared.Corners.{Corners}
use Rattle.scheme.specs.declared.Weights.{Weights}
use Rattle.scheme.specs.declared.Fluxes.{Fluxes}
use Rattle.scheme.specs.declared.Shares.{Shares}
use Rattle.scheme.specs.declared.CellTendencies.{CellTendencies}

-- ---- bounds of each, with q within its own and a state within the limits; a row of the table is bounded by its largest entry

abbrev pub most_corner : ℕ
most_corner = 2000000

abbrev pub most_weight : ℕ
most_weight = 16000000

abbrev pub most_flux : ℕ
most_flux = 1000000000

abbrev pub most_bernoulli : ℕ
most_bernoulli = 8100000000

-- 786,432 times that
abbrev pub most_head : ℕ
most_head = 6370099200000000

-- three products of a weight and a flux, and that
abbrev pub most_share : ℕ
most_share = 54370099200000000

-- two shares
abbrev pub most_tendency : ℕ
most_tendency = 108740198400000000

-- ---- of fields, by index

abbrev pub flux_at : (x h : List ℤ) → ℕ → ℕ → ℤ
flux_at x h k l = get_or x k (pos 0) *ℤ (get_or h l (pos 0) +ℤ get_or h k (pos 0))

abbrev pub squares_at : List ℤ → ℕ → ℕ → ℤ
squares_at x k l = get_or x k (pos 0) *ℤ get_or x k (pos 0) +ℤ get_or x l (pos 0) *ℤ get_or x l (pos 0)

abbrev pub geopotential_at : ℤ → (h b : List ℤ) → ℕ → ℤ
geopotential_at g h b k = pos 4 *ℤ g *ℤ (get_or h k (pos 0) +ℤ get_or b k (pos 0))

-- ---- of a cell's corners

abbrev pub weighted_by : ℕ → Corners ℤ → ℤ
weighted_by row c = weighted row c.ne c.nw c.sw c.se

pub record CornersWithin (c : Corners ℤ) : Type 0 where
  pub ne : Abs c.ne most_corner
  pub nw : Abs c.nw most_corner
  pub sw : Abs c.sw most_corner
  pub se : Abs c.se most_corner

-- ---- of a cell's weights, fluxes, and Bernoulli value as the tendencies scale it

module _ (ws : Weights ℤ) (fs : Fluxes) (head : ℤ) where
  abbrev pub west_share : ℤ
  west_share = ws.p *ℤ fs.north +ℤ ws.m *ℤ fs.south -ℤ ws.e *ℤ fs.east -ℤ head

  abbrev pub east_share : ℤ
  east_share = ws.m *ℤ fs.north +ℤ ws.p *ℤ fs.south +ℤ ws.e *ℤ fs.west +ℤ head

  abbrev pub south_share : ℤ
  south_share = pos 0 -ℤ ws.p *ℤ fs.east -ℤ ws.m *ℤ fs.west -ℤ ws.f *ℤ fs.north -ℤ head

  abbrev pub north_share : ℤ
  north_share = pos 0 -ℤ ws.p *ℤ fs.west -ℤ ws.m *ℤ fs.east +ℤ ws.f *ℤ fs.south +ℤ head

  -- each is small enough that its products and sums fit
  pub record Fit : Type 0 where
    pub p : Abs ws.p most_weight
    pub m : Abs ws.m most_weight
    pub e : Abs ws.e most_weight
    pub f : Abs ws.f most_weight
    pub west : Abs fs.west most_flux
    pub east : Abs fs.east most_flux
    pub south : Abs fs.south most_flux
    pub north : Abs fs.north most_flux
    pub bernoulli : Abs head most_head

  pub record AreShares (r : Shares) : Type 0 where
    pub depth : r.depth ≡ neg_ℤ (fs.east -ℤ fs.west +ℤ fs.north -ℤ fs.south)
    pub west : r.west ≡ west_share
    pub east : r.east ≡ east_share
    pub south : r.south ≡ south_share
    pub north : r.north ≡ north_share

-- ---- of a state and a potential vorticity

abbrev pub weights_in : State → List ℤ → ℕ → ℕ → Weights ℤ
weights_in s q i j = record { p = weight s q 0 i j; m = weight s q 1 i j; e = weight s q 2 i j; f = weight s q 3 i j }

abbrev pub fluxes_in : State → ℕ → ℕ → Fluxes
fluxes_in s i j = record { west = flux_u s i j; east = flux_u s (to_east s i) j; south = flux_v s i j; north = flux_v s i (to_north s j) }

abbrev pub head_in : State → ℕ → ℕ → ℤ
head_in s i j = pos 786432 *ℤ B s i j

module _ (s : State) (q : List ℤ) (i j : ℕ) where
  abbrev pub west_share_at : ℤ
  west_share_at = west_share (weights_in s q i j) (fluxes_in s i j) (head_in s i j)

  abbrev pub east_share_at : ℤ
  east_share_at = east_share (weights_in s q i j) (fluxes_in s i j) (head_in s i j)

  abbrev pub south_share_at : ℤ
  south_share_at = south_share (weights_in s q i j) (fluxes_in s i j) (head_in s i j)

  abbrev pub north_share_at : ℤ
  north_share_at = north_share (weights_in s q i j) (fluxes_in s i j) (head_in s i j)

  pub record IsShares (r : Shares) : Type 0 where
    pub depth : r.depth ≡ neg_ℤ (D s i j)
    pub west : r.west ≡ west_share_at
    pub east : r.east ≡ east_share_at
    pub south : r.south ≡ south_share_at
    pub north : r.north ≡ north_share_at

-- ---- the two shares of an edge are its tendency

-- over weights and fluxes of the edge's own cell and of the cell to its west (w) or south (s), and their Bernoulli values
abbrev scale : Expr
scale = con (pos 786432)

u-law : Identity 14 (λ P M E t s b B Pw Mw Ew tw sw aw Bw.
    (P ⊗ t ⊕ M ⊗ s ⊖ E ⊗ b ⊖ scale ⊗ B) ⊕ (Mw ⊗ tw ⊕ Pw ⊗ sw ⊕ Ew ⊗ aw ⊕ scale ⊗ Bw)
    ⊜ P ⊗ t ⊕ Mw ⊗ tw ⊕ Pw ⊗ sw ⊕ M ⊗ s ⊖ E ⊗ b ⊕ Ew ⊗ aw ⊖ scale ⊗ (B ⊖ Bw))
u-law = ring tt

v-law : Identity 14 (λ P M F a b t B Ps Ms Fs as' bs ss Bs.
    (con (pos 0) ⊖ P ⊗ b ⊖ M ⊗ a ⊖ F ⊗ t ⊖ scale ⊗ B) ⊕ (con (pos 0) ⊖ Ps ⊗ as' ⊖ Ms ⊗ bs ⊕ Fs ⊗ ss ⊕ scale ⊗ Bs)
    ⊜ con (pos 0) ⊖ P ⊗ b ⊖ M ⊗ a ⊖ Ps ⊗ as' ⊖ Ms ⊗ bs ⊖ F ⊗ t ⊕ Fs ⊗ ss ⊖ scale ⊗ (B ⊖ Bs))
v-law = ring tt

masked : (closed : Bool) {x y : ℤ} → (closed ≡ false → x ≡ y) → cond closed (pos 0) x ≡ cond closed (pos 0) y
masked true e = refl
masked false e = e refl

module _ (s : State) (q : List ℤ) (i j : ℕ) where
  pub u-shares : west_share_at s q i j +ℤ east_share_at s q (to_west s i) j ≡ Tu s q i j
  unfolding Tu momentum_u
  u-shares =
      let i' = to_west s i in
      u-law.at (weight s q 0 i j) (weight s q 1 i j) (weight s q 2 i j) (flux_v s i (to_north s j)) (flux_v s i j) (flux_u s (to_east s i) j) (B s i j)
      (weight s q 0 i' j) (weight s q 1 i' j) (weight s q 2 i' j) (flux_v s i' (to_north s j)) (flux_v s i' j) (flux_u s i' j) (B s i' j)

  pub v-shares : south_share_at s q i j +ℤ north_share_at s q i (to_south s j) ≡ Tv s q i j
  unfolding Tv momentum_v
  v-shares =
      let j' = to_south s j in
      let e = to_east s i in
      v-law.at (weight s q 0 i j) (weight s q 1 i j) (weight s q 3 i j) (flux_u s i j) (flux_u s e j) (flux_v s i (to_north s j)) (B s i j)
      (weight s q 0 i j') (weight s q 1 i j') (weight s q 3 i j') (flux_u s i j') (flux_u s e j') (flux_v s i j') (B s i j')
      ∙ ap
      (λ z. z -ℤ weight s q 1 i j *ℤ flux_u s i j -ℤ weight s q 0 i j' *ℤ flux_u s i j' -ℤ weight s q 1 i j' *ℤ flux_u s e j'
      -ℤ weight s q 3 i j *ℤ flux_v s i (to_north s j) +ℤ weight s q 3 i j' *ℤ flux_v s i j' -ℤ pos 786432 *ℤ (B s i j -ℤ B s i j'))
      (+ℤ_idl (neg_ℤ (weight s q 0 i j *ℤ flux_u s e j)))

  -- a closed edge has none, so that the other share matters where the edge is open
  pub u-edge : {closed : Bool} {own other : ℤ} → closed ≡ closed_west s i j → own ≡ west_share_at s q i j
      → (closed_west s i j ≡ false → other ≡ east_share_at s q (to_west s i) j) → cond closed (pos 0) (own +ℤ other) ≡ tendency_u s q i j
  unfolding tendency_u
  u-edge {closed} e a b = masked closed (λ o. ap₂ ◌+ℤ◌ a (b (sym e ∙ o)) ∙ u-shares) ∙ ap (λ c. cond c (pos 0) (Tu s q i j)) e

  pub v-edge : {closed : Bool} {own other : ℤ} → closed ≡ closed_south s i j → own ≡ south_share_at s q i j
      → (closed_south s i j ≡ false → other ≡ north_share_at s q i (to_south s j)) → cond closed (pos 0) (own +ℤ other) ≡ tendency_v s q i j
  unfolding tendency_v
  v-edge {closed} e a b = masked closed (λ o. ap₂ ◌+ℤ◌ a (b (sym e ∙ o)) ∙ v-shares) ∙ ap (λ c. cond c (pos 0) (Tv s q i j)) e

-- ---- what a cell holds, and hands on

pub record AreTendencies (s : State) (q : List ℤ) (i j : ℕ) (r : CellTendencies) : Type 0 where
  pub depth : r.depth ≡ neg_ℤ (D s i j)
  pub u : r.u ≡ tendency_u s q i j
  pub v : r.v ≡ tendency_v s q i j
  pub east : r.east ≡ east_share_at s q i j
  pub north : r.north ≡ north_share_at s q i j
