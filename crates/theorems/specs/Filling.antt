-- What an accepted potential vorticity or tendency call fills in, at every cell, and when it is accepted. Assumes nothing.
use Rattle.std.specs.Prelude.{◌≡◌, refl, ◌↔◌, List, [], ◌∷◌, ℕ, ◌+◌, ◌*◌, ◌/◌, ◌%◌, ◌<◌, ℤ, pos, neg_ℤ, length, get_or, take, drop}
use Rattle.std.proofs.Common.{sym, ap, ◌∙◌}
use Rattle.std.specs.Prelude.{Option, None, Some}
use Rattle.model.specs.Grid.{at, filled, by_cell}
use Rattle.model.specs.State.{State, corner_columns, corner_rows, corners, WithinLimits}
use Rattle.model.specs.Scheme.{D, tendency_u, tendency_v, h_tendencies, u_tendencies, v_tendencies, vorticity_at, vorticity}
use Rattle.model.specs.Promises.{left_by, answer_of, vorticity_tests, vorticity_test, VorticityPromise, tendencies_test, TendenciesPromise}
use Rattle.model.specs.Claims.{HoldsCorners, TendenciesAcceptedClaim, TendenciesClaim}
use Rattle.model.specs.declared.Refusal.{Refusal}
use Rattle.theorems.specs.Truth.{◌⟫◌, differ}
use Rattle.theorems.specs.TestLaws.{passes}
use Rattle.theorems.specs.Limits.{accepted, tendencies-taken}
use Rattle.grid.specs.Cells.{cell-lt, by_index}
use Rattle.grid.specs.CellFields.{length-by_cell, any-by_cell, get_or-filled, take-filled, drop-filled}
use Rattle.std.specs.Prelude.{Ok}

-- ---- accepted is tested and passed

pub done-iff : (o : Option Refusal) → (answer_of o ≡ Ok tt) ↔ (o ≡ None)
done-iff None = (λ h. refl, λ h. refl)
done-iff (Some r) = (λ h. differ (cc h), λ h. differ (cc h))

pub tendencies-accepted : TendenciesAcceptedClaim
tendencies-accepted s q dh du dv dh' du' dv' answer p =
    let i = done-iff (tendencies_test s q (length dh) (length du) (length dv)) ⟫ tendencies-taken s q (length dh) (length du) (length dv) in (
      λ e. let x = i.0 (sym p.answers ∙ e) in (x.0.0, x.0.1, x.1, x.2, x.3),
      λ x. p.answers ∙ i.1 ((x.0, x.1), x.2, x.3, x.4),
    )

-- ---- what is left in a destination

-- a destination d whose first w·n places are filled by cell, by a call that no test refused
pub record Left {A : Type 0} (w n : ℕ) (f : ℕ → ℕ → A) (d d' : List A) : Type 0 where
  pub each : (k : ℕ) (z : A) → k < w * n → get_or d' k z ≡ f (k % w) (k / w)
  pub first : take (w * n) d' ≡ by_cell w n f
  pub rest : drop (w * n) d' ≡ drop (w * n) d

module _ {A : Type 0} (w n : ℕ) (f : ℕ → ℕ → A) (d d' : List A) where
  -- past w·n places nothing changes, refused or not
  pub left-rest : (o : Option Refusal) → d' ≡ left_by o (filled (w * n) (by_cell w n f) d) d → drop (w * n) d' ≡ drop (w * n) d
  left-rest None h = ap (drop (w * n)) h ∙ drop-filled (w * n) (by_cell w n f) d (length-by_cell w n f)
  left-rest (Some r) h = ap (drop (w * n)) h

  pub left : (o : Option Refusal) → o ≡ None → d' ≡ left_by o (filled (w * n) (by_cell w n f) d) d → Left w n f d d'
  left o e h =
      let l = by_cell w n f in
      let z : d' ≡ filled (w * n) l d = h ∙ ap (λ o. left_by o (filled (w * n) l d) d) e in
      let m = length-by_cell w n f in
      record {
        each = λ k x p. ap (λ y. get_or y k x) z ∙ get_or-filled (w * n) l d k x m p ∙ any-by_cell w n f k x p;
        first = ap (take (w * n)) z ∙ take-filled (w * n) l d m;
        rest = left-rest o h;
      }

-- of numbers, at a cell
left_at : {w n : ℕ} {f : ℕ → ℕ → ℤ} {d d' : List ℤ} → Left w n f d d' → (i j : ℕ) → i < w → j < n → at w d' i j ≡ f i j
left_at {w} {f = f} l i j p q = l.each (j * w + i) (pos 0) (cell-lt p q) ∙ by_index f j p

-- what the tendency call leaves
pub record Tendencies (s : State) (q dh du dv dh' du' dv' : List ℤ) : Type 0 where
  pub h : Left s.w s.n (λ i j. neg_ℤ (D s i j)) dh dh'
  pub u : Left s.w s.n (tendency_u s q) du du'
  pub v : Left s.w s.n (tendency_v s q) dv dv'

pub tendencies-left : (s : State) (q dh du dv dh' du' dv' : List ℤ) → TendenciesPromise s q dh du dv (Ok tt) dh' du' dv'
    → Tendencies s q dh du dv dh' du' dv'
unfolding h_tendencies u_tendencies v_tendencies
tendencies-left s q dh du dv dh' du' dv' p =
    let t = tendencies_test s q (length dh) (length du) (length dv) in
    let e = (done-iff t).0 (sym p.answers) in
    record {
      h = left s.w s.n (λ i j. neg_ℤ (D s i j)) dh dh' t e (cc p.fills);
      u = left s.w s.n (tendency_u s q) du du' t e (cc p.fills);
      v = left s.w s.n (tendency_v s q) dv dv' t e (cc p.fills);
    }

pub tendencies-fill : TendenciesClaim
tendencies-fill s q dh du dv dh' du' dv' p =
    let t = tendencies-left s q dh du dv dh' du' dv' p in
    (left_at t.h, left_at t.u, left_at t.v, t.h.rest, t.u.rest, t.v.rest)

-- the potential vorticity of a state that is within the limits
pub record Vorticities (s : State) (d d' : List ℤ) : Type 0 where
  pub inside : WithinLimits s
  pub corner : HoldsCorners s d' (vorticity_at s)
  pub first : take (corners s) d' ≡ vorticity s
  pub rest : drop (corners s) d' ≡ drop (corners s) d

pub vorticity-fill : (s : State) (d d' : List ℤ) → VorticityPromise s d (Ok tt) d' → Vorticities s d d'
unfolding vorticity_test vorticity
vorticity-fill s d d' p =
    let e = (done-iff (vorticity_test s (length d))).0 (sym p.answers) in
    let l = left (corner_columns s) (corner_rows s) (vorticity_at s) d d' (vorticity_test s (length d)) e (cc p.fills) in
    record {
      inside = ((passes (vorticity_tests s (length d)) ⟫ accepted.call s [] (corners s) (length d ∷ [])).0 e).0;
      corner = left_at l;
      first = l.first;
      rest = l.rest;
    }
