-- What a cell needs of the cells to its west and south, and what a row hands on to the row to its north. Assumes nothing.
use Rattle.std.specs.Prelude.{◌≡◌, refl, Bool, true, false, cond, List, ℕ, ◌+◌, ◌≤◌, ◌<◌, eqb, ℤ, length, set}
use Rattle.std.proofs.Common.{sym, ap, ◌∙◌, arith, length-set, eqb-true}
use Rattle.std.proofs.lemmas.Bool.{eqb-false}
use Rattle.model.specs.Grid.{previous}
use Rattle.model.specs.State.{State, closed_west, closed_south}
use Rattle.model.specs.Scheme.{to_west, to_south}
use Rattle.grid.specs.Cells.{previous-after, previous-only}
use Rattle.grid.specs.Places.{Each, each_none, each_more, each-past, each_all}
use Rattle.scheme.specs.Shares.{east_share_at, north_share_at}

-- ---- a cell

-- x is the share of the cell to the west of cell (i, j), and of the cell to its south, where that is used: not at a closed edge, and
-- not where the side has one place, so that the cell is its own neighbour
pub record FromWest (s : State) (q : List ℤ) (i j : ℕ) (x : ℤ) : Type 0 where
  pub share : closed_west s i j ≡ false → 1 < s.w → x ≡ east_share_at s q (to_west s i) j

pub record FromSouth (s : State) (q : List ℤ) (i j : ℕ) (x : ℤ) : Type 0 where
  pub share : closed_south s i j ≡ false → 1 < s.n → x ≡ north_share_at s q i (to_south s j)

-- g the shares of a side's places, x the one handed to place i: beyond the edge is place i itself where it is the only one
beyond : {w i : ℕ} {x : ℤ} (g : ℕ → ℤ) → i < w → (1 < w → x ≡ g (previous w i)) → cond (eqb w 1) (g i) x ≡ g (previous w i)
beyond {w} {i} {x} g p h = by (eqb w 1) refl
  where
    by : (one : Bool) → eqb w 1 ≡ one → cond one (g i) x ≡ g (previous w i)
    by true e = ap g (sym (previous-only (eqb-true w 1 e) p))
    by false e = h (omega (arith, eqb-false w 1 e))

module _ {s : State} {q : List ℤ} {i j : ℕ} {x : ℤ} where
  pub west-beyond : FromWest s q i j x → i < s.w → closed_west s i j ≡ false → cond (eqb s.w 1) (east_share_at s q i j) x ≡ east_share_at s q (to_west s i) j
  west-beyond h p o = beyond (λ k. east_share_at s q k j) p (h.share o)

  pub south-beyond : FromSouth s q i j x → j < s.n → closed_south s i j ≡ false → cond (eqb s.n 1) (north_share_at s q i j) x ≡ north_share_at s q i (to_south s j)
  south-beyond h p o = beyond (λ k. north_share_at s q i k) p (h.share o)

  -- what a cell gives is what the next one needs
  pub to-east : i < s.w → x ≡ east_share_at s q i j → FromWest s q (i + 1) j x
  to-east p e = record { share = λ o l. e ∙ ap (λ k. east_share_at s q k j) (sym (previous-after p)) }

  pub to-north : j < s.n → x ≡ north_share_at s q i j → FromSouth s q i (j + 1) x
  to-north p e = record { share = λ o l. e ∙ ap (north_share_at s q i) (sym (previous-after p)) }

-- ---- a row

-- places a to e of l have what row j needs of the row to its south
abbrev pub Handed : State → List ℤ → (j a e : ℕ) → List ℤ → Type 0
Handed s q j a e l = Each (λ i x. FromSouth s q i j x) a e l

-- the first w places have it
pub record HandedNorth (s : State) (q : List ℤ) (j : ℕ) (l : List ℤ) : Type 0 where
  pub long : s.w ≤ length l
  pub all : Handed s q j 0 s.w l

pub handed-all : {s : State} {q : List ℤ} {j i : ℕ} {l : List ℤ} → Handed s q j 0 i l → s.w ≤ i → s.w ≤ length l → HandedNorth s q j l
handed-all h p r = record { long = r; all = each_all h p }

-- a loop over row j that found l₀ and has passed i columns: there stands what the row to the north needs, and further on what row j does
pub record Handing (s : State) (q : List ℤ) (j : ℕ) (l₀ : List ℤ) (i : ℕ) (l : List ℤ) : Type 0 where
  pub long : length l ≡ length l₀
  pub given : Handed s q (j + 1) 0 i l
  pub ahead : Handed s q j i s.w l

module _ {s : State} {q : List ℤ} {j : ℕ} {l₀ : List ℤ} where
  pub handing-none : HandedNorth s q j l₀ → Handing s q j l₀ 0 l₀
  handing-none h = record { long = refl; given = each_none; ahead = h.all }

  module _ {i : ℕ} {l : List ℤ} (h : Handing s q j l₀ i l) where
    pub handing-more : {x : ℤ} → i < length l → j < s.n → x ≡ north_share_at s q i j → Handing s q j l₀ (i + 1) (set l i x)
    handing-more {x} p r e = record { long = length-set l i x ∙ h.long; given = each_more h.given p (to-north r e); ahead = each-past x h.ahead }

    pub handing-all : s.w ≤ i → s.w ≤ length l₀ → HandedNorth s q (j + 1) l
    handing-all p r = handed-all h.given p (omega (arith, h.long))
