-- What a row needs of the row to its south, whose places it takes over for the row to its north. Assumes nothing.
use Rattle.std.specs.Prelude.{List, ℕ, ◌+◌, ◌≤◌, ◌<◌, ℤ, length, get_or, set}
use Rattle.std.proofs.Common.{sym, subst, arith, length-set}
use Rattle.model.specs.State.{State}
use Rattle.grid.specs.Cells.{previous-after}
use Rattle.grid.specs.Places.{Each, each_more, each-past, each_all}
use Rattle.scheme_probe.specs.Cells.{IsGiven, FromSouth}
use Rattle.scheme_probe.specs.declared.Given.{Given}

-- the first w places of l have what row j needs of the row to its south
pub record RowFromSouth (s : State) (q : List ℤ) (j : ℕ) (l : List Given) : Type 0 where
  pub long : s.w ≤ length l
  pub each : Each (λ i r. FromSouth s q i j r) 0 s.w l

-- a loop over row j that has passed i columns: there stands what the row to the north needs, and further on what row j does
pub record Handing (s : State) (q : List ℤ) (j i : ℕ) (l : List Given) : Type 0 where
  pub long : s.w ≤ length l
  pub behind : Each (λ i r. FromSouth s q i (j + 1) r) 0 i l
  pub ahead : Each (λ i r. FromSouth s q i j r) i s.w l

module _ {s : State} {q : List ℤ} {j : ℕ} {l : List Given} where
  module _ {i : ℕ} (h : Handing s q j i l) where
    pub handing-south : (d : Given) → i < s.w → FromSouth s q i j (get_or l i d)
    handing-south d p = h.ahead.at d i (omega arith) p

    pub handing-more : {x : Given} → i < s.w → j < s.n → IsGiven s q i j x → Handing s q j (i + 1) (set l i x)
    handing-more {x} p r g =
        record {
          long = subst (λ m. s.w ≤ m) (sym (length-set l i x)) h.long;
          behind = each_more h.behind (omega (arith, h.long)) (record { given = λ o. subst (λ j. IsGiven s q i j x) (sym (previous-after r)) g });
          ahead = each-past x h.ahead;
        }

    pub handing-all : s.w ≤ i → RowFromSouth s q (j + 1) l
    handing-all p = record { long = h.long; each = each_all h.behind p }
