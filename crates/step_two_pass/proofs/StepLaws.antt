-- From what a pass makes, and the scan of it, to the model's step. Assumes nothing.
use mathlib.Core.Path.{◌≡◌, refl, sym, ap, subst, ◌∙◌}
use mathlib.Core.List.{List}
use Rattle.std.specs.Prelude.{Option, None, Some, Result, Ok, Err}
use Prim.Native.Nat.{ℕ, ◌≤◌}
use lib.IntN.{ℤ}
use lib.ListN.{length}
use Rattle.model.specs.State.{State, with_flow, cells, corners}
use Rattle.model.specs.Step.{Place, Outcome, pass, new_depth, new_u, new_v, leaves, moved, passed, second, two_pass}
use Rattle.model.specs.Scheme.{vorticity}
use Rattle.model.specs.declared.Breach.{Breach}
use Rattle.theorems.specs.Truth.{differ}
use Rattle.theorems.specs.Stepping.{first-within}
use Rattle.grid.specs.CellFields.{length-by_cell}
use Rattle.step_pass.specs.Spaces.{PassReady}
use Rattle.step_two_pass.specs.Outcomes.{bounds_by, Room, Stepped, StepReady}

-- ---- what the scan tells

pub kept-none : (pass : ℕ) (o : Option Place) → Ok tt ≡ bounds_by pass o → o ≡ None
kept-none pass None e = refl
kept-none pass (Some x) e = differ (cc e)

-- what a pass comes to where it leaves a bound, whatever would come next
left : (pass : ℕ) {r : Breach} {s : State} (o : Option Place) (later : Outcome) → Err r ≡ bounds_by pass o → Stepped s (passed o pass later) (Err r) s
left pass None later e = differ (cc e)
left pass (Some x) later e = record { answers = e; leads = refl }

-- ---- what a pass makes

-- in a state t that may take it, of the base b and the tendencies of g, which are lent as b' and g'
pub made : {b g t b' g' : State} (inflow : List ℤ) {h u v : List ℤ} → Room b t → g' ≡ g → b' ≡ b → with_flow b' h u v ≡ pass b' g' inflow → with_flow t h u v ≡ pass b g inflow
made {b} {g} {t} {b'} {g'} inflow {h} {u} {v} r e f p =
    ap (λ t. with_flow t h u v) r.alike ∙ subst (λ b. with_flow b h u v ≡ pass b g inflow) f (subst (λ g. with_flow b' h u v ≡ pass b' g inflow) e p)

-- what it has made may be made anew
pub made-room : (b g : State) (inflow : List ℤ) → Room b (pass b g inflow)
unfolding pass
made-room b g inflow =
    record {
      alike = refl;
      sized = record {
        h = length-by_cell b.w b.n (new_depth g b inflow);
        u = length-by_cell b.w b.n (new_u g b (vorticity g));
        v = length-by_cell b.w b.n (new_v g b (vorticity g));
      };
    }

-- so many numbers, as the state has cells
pub as_many : {s t : State} → Room s t → (length t.h ≡ cells s) × (length t.u ≡ cells s) × (length t.v ≡ cells s)
as_many r = let c = ap cells r.alike in (r.sized.h ∙ c, r.sized.u ∙ c, r.sized.v ∙ c)

-- ---- both passes

come-to : {s t : State} {o o' : Outcome} {answer : Result Unit Breach} → o ≡ o' → Stepped s o' answer t → Stepped s o answer t
come-to {s} {t} {answer = answer} e x = subst (λ o. Stepped s o answer t) (sym e) x

module _ (s : State) (inflow : List ℤ) where
  abbrev first : State
  first = pass s s inflow

  abbrev result : State
  result = pass s first inflow

  -- pass 2 goes by the scan of pass 1, and the step by that of pass 2
  second-first : Ok tt ≡ bounds_by 1 (leaves first) → two_pass s inflow ≡ second s first inflow
  unfolding two_pass
  second-first h = ap (λ o. passed o 1 (second s first inflow)) (kept-none 1 (leaves first) h)

  pub both : {t : State} → Ok tt ≡ bounds_by 1 (leaves first) → Ok tt ≡ bounds_by 2 (leaves result) → t ≡ result → Stepped s (two_pass s inflow) (Ok tt) t
  unfolding second
  both h k e = come-to (second-first h ∙ ap (λ o. passed o 2 (moved result)) (kept-none 2 (leaves result) k)) (record { answers = refl; leads = e })

  pub first-stuck : {r : Breach} → Err r ≡ bounds_by 1 (leaves first) → Stepped s (two_pass s inflow) (Err r) s
  unfolding two_pass
  first-stuck h = left 1 (leaves first) (second s first inflow) h

  pub second_stuck : {r : Breach} → Ok tt ≡ bounds_by 1 (leaves first) → Err r ≡ bounds_by 2 (leaves result) → Stepped s (two_pass s inflow) (Err r) s
  unfolding second
  second_stuck h k = come-to (second-first h) (left 2 (leaves result) (moved result) k)

  module _ {k : ℕ} {t₁ t₂ : State} (r : StepReady s inflow k t₁ t₂) where
    -- pass 1's result gives the tendencies of pass 2
    pub second-ready : {m : ℕ} → m ≡ k → Ok tt ≡ bounds_by 1 (leaves first) → PassReady first s inflow m t₂.h t₂.u t₂.v
    unfolding pass
    second-ready {m} e h =
        let l = as_many r.room-second in
        record {
          given = first-within s inflow r.state (kept-none 1 (leaves first) h);
          base = r.state;
          alike = refl;
          entering = r.entering;
          fits = subst (λ (m : ℕ). corners s ≤ m) (sym e) r.fits;
          room-h = l.0;
          room-u = l.1;
          room-v = l.2;
        }
