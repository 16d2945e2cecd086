-- A pass takes the tendencies that the public calls fill in; a step leads within the limits, and adds the inflow to total depth.
-- Assumes nothing.
use Rattle.std.specs.Prelude.{◌≡◌, refl, Bool, true, false, cond, List, [], ◌∷◌, ℕ, ◌*◌, ◌<◌, eqb, ℤ, pos, ◌+ℤ◌, ◌*ℤ◌, length, take}
use Rattle.std.proofs.Common.{sym, ap, ap₂, subst, ◌∙◌}
use Rattle.std.specs.Prelude.{Option, None, Some}
use Rattle.std.proofs.Math.Dec.{T}
use Rattle.model.specs.Numbers.{rnd, total}
use Rattle.model.specs.Grid.{at, by_cell}
use Rattle.model.specs.State.{State, with_flow, cells, corners, closed_west, closed_south, WithinLimits}
use Rattle.model.specs.Refusals.{Taken, taken, length_tests}
use Rattle.model.specs.Scheme.{vorticity, Tu, Tv, tendency_u, tendency_v}
use Rattle.model.specs.Step.{Place, place, leaves_tests, X, Y, new_depth, new_u, new_v, pass, leaves, Outcome, moved, stuck, passed, second, two_pass, after_step, step_test, step_state_by, step_state}
use Rattle.model.specs.Claims.{EachPasses, Given, PassClaim, StepClaim}
use Rattle.model.specs.declared.Refusal.{Refusal}
use Rattle.model.specs.declared.Field.TheVariants.{Depth, VelocityU, VelocityV}
use Rattle.theorems.specs.Truth.{eq_iff, differ}
use Rattle.theorems.specs.TestLaws.{passes}
use Rattle.theorems.specs.Limits.{each-iff}
use Rattle.grid.specs.CellFields.{length-by_cell, at-by_cell}
use Rattle.theorems.specs.Filling.{tendencies-fill, vorticity-fill}
use Rattle.integers.specs.Rounding.{rnd-zero}
use Rattle.theorems.specs.Depth.{depth_sum}

-- ---- a pass, by the public calls

module _ (base given : State) (du dv : List ℤ) (ew : given.w ≡ base.w) (en : given.n ≡ base.n) (g : Given given du dv) (i j : ℕ) (p : i < base.w) (r : j < base.n) where
  abbrev q : List ℤ
  q = take (corners given) g.q

  own : q ≡ vorticity given
  own = (vorticity-fill given g.d g.q g.vorticity).first

  given-u : tendency_u given (vorticity given) i j ≡ at base.w du i j
  given-u =
      ap (λ x. tendency_u given x i j) (sym own)
      ∙ sym ((tendencies-fill given q g.dh₀ g.du₀ g.dv₀ g.dh du dv g.tendencies).1 i j (subst (λ w. i < w) (sym ew) p) (subst (λ n. j < n) (sym en) r))
      ∙ ap (λ w. at w du i j) ew

  given-v : tendency_v given (vorticity given) i j ≡ at base.w dv i j
  given-v =
      ap (λ x. tendency_v given x i j) (sym own)
      ∙ sym ((tendencies-fill given q g.dh₀ g.du₀ g.dv₀ g.dh du dv g.tendencies).2 i j (subst (λ w. i < w) (sym ew) p) (subst (λ n. j < n) (sym en) r))
      ∙ ap (λ w. at w dv i j) ew

pub pass-given : PassClaim
unfolding pass new_u new_v
pass-given base given inflow du dv ew en g = (
  λ i j p r. at-by_cell base.w base.n (new_u given base (vorticity given)) i j p r
      ∙ ap (λ x. at base.w base.u i j +ℤ rnd x (pos 3145728 *ℤ given.R)) (given-u base given du dv ew en g i j p r),
  λ i j p r. at-by_cell base.w base.n (new_v given base (vorticity given)) i j p r
      ∙ ap (λ x. at base.w base.v i j +ℤ rnd x (pos 3145728 *ℤ given.R)) (given-v base given du dv ew en g i j p r),
)

-- ---- refusal 6 is not given

stuck≢ : {A : Type 0} {p : ℕ} {x : Place} {t : State} → stuck p x ≡ moved t → A
stuck≢ h = differ (cc h)

passed_on : (o : Option Place) (p : ℕ) (later : Outcome) (t : State) → passed o p later ≡ moved t → (o ≡ None) × (later ≡ moved t)
passed_on None p later t h = (refl, h)
passed_on (Some x) p later t h = stuck≢ h

same-moved : (s t : State) → moved s ≡ moved t → s ≡ t
same-moved s t h = cc

-- both passes leave no bound, and the second is what the step comes to
record Moved (s : State) (inflow : List ℤ) (t : State) : Type 0 where
  first : leaves (pass s s inflow) ≡ None
  second : leaves (pass s (pass s s inflow) inflow) ≡ None
  result : pass s (pass s s inflow) inflow ≡ t

moves : (s t : State) (inflow : List ℤ) → two_pass s inflow ≡ moved t → Moved s inflow t
unfolding two_pass second
moves s t inflow h =
    let r = pass s s inflow in
    let e = pass s r inflow in
    let p = passed_on (leaves r) 1 (second s r inflow) t h in
    let q = passed_on (leaves e) 2 (moved e) t p.1 in
    record { first = p.0; second = q.0; result = same-moved e t q.1 }

-- ---- the limits

closed-rest : (a x b : ℤ) (c : Bool) → a ≡ pos 0 → T c → a +ℤ rnd (cond c (pos 0) x) b ≡ pos 0
closed-rest a x b true e t = ap₂ ◌+ℤ◌ e (rnd-zero b)
closed-rest a x b false e t = absurd t

-- the two states have the same closed edges
pub record SameWalls (g s : State) : Type 0 where
  pub west : (i j : ℕ) → closed_west g i j ≡ closed_west s i j
  pub south : (i j : ℕ) → closed_south g i j ≡ closed_south s i j

pass-walls : (s g : State) (inflow : List ℤ) → SameWalls (pass s g inflow) s
unfolding pass closed_west closed_south
pass-walls s g inflow = record { west = λ i j. refl; south = λ i j. refl }

-- so a velocity on a closed edge of the base s, which is 0, stays 0
module _ (s g : State) (q : List ℤ) (same : SameWalls g s) (l : WithinLimits s) (i j : ℕ) (p : i < s.w) (r : j < s.n) where
  pub rests-west : T (closed_west s i j) → new_u g s q i j ≡ pos 0
  unfolding new_u tendency_u
  rests-west t = closed-rest (at s.w s.u i j) (Tu g q i j) (pos 3145728 *ℤ g.R) (closed_west g i j) (l.still-west i j p r t) (subst T (sym (same.west i j)) t)

  pub rests-south : T (closed_south s i j) → new_v g s q i j ≡ pos 0
  unfolding new_v tendency_v
  rests-south t = closed-rest (at s.w s.v i j) (Tv g q i j) (pos 3145728 *ℤ g.R) (closed_south g i j) (l.still-south i j p r t) (subst T (sym (same.south i j)) t)

-- what a pass gives has a number for each cell
abbrev stepped : State → List Taken
stepped r = taken r Depth r.h ∷ taken r VelocityU r.u ∷ taken r VelocityV r.v ∷ []

pass-long : (s g : State) (inflow : List ℤ) → EachPasses (length_tests (stepped (pass s g inflow)))
unfolding pass
pass-long s g inflow = (long (new_depth g s inflow), (long (new_u g s (vorticity g)), (long (new_v g s (vorticity g)), tt)))
  where
    long : (f : ℕ → ℕ → ℤ) → T (eqb (length (by_cell s.w s.n f)) (s.w * s.n))
    long f = (eq_iff (length (by_cell s.w s.n f)) (s.w * s.n)).1 (length-by_cell s.w s.n f)

-- a pass from a state within the limits, with the tendencies of a state that has the same walls, keeps the limits where it leaves no bound
pass-within : (s g : State) (inflow : List ℤ) → SameWalls g s → WithinLimits s → leaves (pass s g inflow) ≡ None → WithinLimits (pass s g inflow)
unfolding pass leaves
pass-within s g inflow same l h =
    let q = vorticity g in
    let e = (each-iff place (stepped (pass s g inflow))).0 (pass-long s g inflow, (passes (leaves_tests (pass s g inflow))).0 h) in
    record {
      columns = l.columns;
      rows = l.rows;
      boundary = l.boundary;
      gravity = l.gravity;
      coriolis = l.coriolis;
      ratio = l.ratio;
      depths = e.0;
      bottoms = l.bottoms;
      us = e.1.0;
      vs = e.1.1.0;
      bars = l.bars;
      still-west = λ i j a b t. at-by_cell s.w s.n (new_u g s q) i j a b ∙ rests-west s g q same l i j a b (subst T ((pass-walls s g inflow).west i j) t);
      still-south = λ i j a b t. at-by_cell s.w s.n (new_v g s q) i j a b ∙ rests-south s g q same l i j a b (subst T ((pass-walls s g inflow).south i j) t);
    }

-- so pass 1, with the state's own tendencies
pub first-within : (s : State) (inflow : List ℤ) → WithinLimits s → leaves (pass s s inflow) ≡ None → WithinLimits (pass s s inflow)
first-within s inflow l h = pass-within s s inflow (record { west = λ i j. refl; south = λ i j. refl }) l h

-- and leaves no bound where it keeps them
none_left : (r : State) → WithinLimits r → leaves r ≡ None
unfolding leaves
none_left r l = (passes (leaves_tests r)).1 ((each-iff place (stepped r)).1 (l.depths, (l.us, (l.vs, tt)))).1

by-passes : (s : State) (inflow : List ℤ) (a b : Option Place) → leaves (pass s s inflow) ≡ a → leaves (pass s (pass s s inflow) inflow) ≡ b
    → two_pass s inflow ≡ passed a 1 (passed b 2 (moved (pass s (pass s s inflow) inflow)))
unfolding two_pass second
by-passes s inflow a b p q = ap₂ (λ x y. passed x 1 (passed y 2 (moved (pass s (pass s s inflow) inflow)))) p q

pub step-within : StepClaim
step-within = record {
  moves = λ s t inflow l. (
    λ h.
        let m = moves s t inflow h in (
          first-within s inflow l m.first,
          subst WithinLimits m.result (pass-within s (pass s s inflow) inflow (pass-walls s s inflow) l m.second),
          sym m.result,
        ),
    λ p. by-passes s inflow None None (none_left (pass s s inflow) p.0) (ap leaves (sym p.2) ∙ none_left t p.1) ∙ ap moved (sym p.2),
  );
  stuck-1 = λ s inflow x p. by-passes s inflow (Some x) (leaves (pass s (pass s s inflow) inflow)) p refl;
  stuck-2 = λ s inflow x p q. by-passes s inflow None (Some x) p q;
}

-- ---- total depth

pub step-total : (s t : State) (inflow : List ℤ) → WithinLimits s → length inflow ≡ cells s → two_pass s inflow ≡ moved t → total t.h ≡ total s.h +ℤ total inflow
unfolding pass new_depth
step-total s t inflow l e h =
    let g = pass s s inflow in
    ap (λ x. total x.h) (sym (moves s t inflow h).result) ∙ depth_sum s.w s.n s.h inflow (X g) (Y g) l.depths.long e

pub step-cells : (s t : State) (inflow : List ℤ) → two_pass s inflow ≡ moved t → cells t ≡ cells s
unfolding pass
step-cells s t inflow h = ap cells (sym (moves s t inflow h).result)

-- ---- the step call, accepted or refused

after-outcome : (s : State) (inflow : List ℤ) → WithinLimits s → (o : Outcome) → two_pass s inflow ≡ o → WithinLimits (after_step s o) × (cells (after_step s o) ≡ cells s)
after-outcome s inflow l (moved t) h = (((step-within.moves s t inflow l).0 h).1, step-cells s t inflow h)
after-outcome s inflow l (stuck p x) h = (l, refl)

after_test : (s : State) (inflow : List ℤ) → WithinLimits s → (x : Option Refusal)
    → WithinLimits (step_state_by x s (two_pass s inflow)) × (cells (step_state_by x s (two_pass s inflow)) ≡ cells s)
after_test s inflow l None = after-outcome s inflow l (two_pass s inflow) refl
after_test s inflow l (Some r) = (l, refl)

-- what it leaves is within the limits, and has as many cells
pub step-leaves : (s : State) (inflow : List ℤ) (room : ℕ) → WithinLimits s → WithinLimits (step_state s inflow room) × (cells (step_state s inflow room) ≡ cells s)
unfolding step_state
step-leaves s inflow room l = after_test s inflow l (step_test s inflow room)

-- it changes h, u and v alone
keeps-outcome : (s : State) (inflow : List ℤ) (o : Outcome) → two_pass s inflow ≡ o → let t = after_step s o in t ≡ with_flow s t.h t.u t.v
unfolding pass
keeps-outcome s inflow (moved t) h = let e = (moves s t inflow h).result in sym e ∙ ap (λ t. with_flow s t.h t.u t.v) e
keeps-outcome s inflow (stuck p x) h = refl

keeps-test : (s : State) (inflow : List ℤ) (x : Option Refusal) → let t = step_state_by x s (two_pass s inflow) in t ≡ with_flow s t.h t.u t.v
keeps-test s inflow None = keeps-outcome s inflow (two_pass s inflow) refl
keeps-test s inflow (Some r) = refl

pub step_keeps : (s : State) (inflow : List ℤ) (room : ℕ) → let t = step_state s inflow room in t ≡ with_flow s t.h t.u t.v
unfolding step_state
step_keeps s inflow room = keeps-test s inflow (step_test s inflow room)
