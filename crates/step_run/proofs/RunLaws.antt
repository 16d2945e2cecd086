-- From what a step answers to what it has come to, and to the next step. Assumes nothing.
use mathlib.Core.Path.{◌≡◌, refl, sym, ap, subst, ◌∙◌}
use mathlib.Core.List.{List}
use Prim.Native.Nat.{ℕ, ◌≤◌}
use lib.IntN.{ℤ}
use Rattle.model.specs.Numbers.{inflow_limits}
use Rattle.model.specs.State.{State, with_flow, cells, corners, FieldWithin}
use Rattle.std.specs.Prelude.{Ok, Err}
use Rattle.model.specs.Answers.{breach}
use Rattle.model.specs.declared.Breach.{Breach}
use Rattle.model.specs.Step.{pass, place, moved, stuck, two_pass}
use Rattle.model.specs.Step as Model
use Rattle.theorems.specs.Truth.{differ}
use Rattle.theorems.specs.Theorems.{theorems}
use Rattle.step_two_pass.specs.Outcomes.{Stepped, Room, StepReady}

pub came-moved : {s t : State} (o : Model.Outcome) → Stepped s o (Ok tt) t → o ≡ moved t
came-moved (moved r) h = ap moved (sym h.leads)
came-moved (stuck p x) h = differ (cc h.answers)

pub came-stuck : {s t : State} {b : Breach} (o : Model.Outcome) → Stepped s o (Err b) t → (o ≡ stuck b.pass (place b.field b.cell)) × (t ≡ s)
came-stuck (moved r) h = differ (cc h.answers)
came-stuck {b = b} (stuck q x) h =
    let e : b ≡ breach q x.field x.cell = cc h.answers in
    (ap (λ (b : Breach). stuck b.pass (place b.field b.cell)) (sym e), h.leads)

-- a state that a step has led to is ready for the next one, where there is as much room as before
room-next : (s t : State) {x : State} → t ≡ with_flow s t.h t.u t.v → Room s x → Room t x
room-next s t {x} e r = record { alike = r.alike ∙ sym (ap (λ s. with_flow s x.h x.u x.v) e); sized = r.sized }

pub ready-next : {s t x y x' y' : State} {inflow : List ℤ} {k₀ k : ℕ} → StepReady s inflow k₀ x y → two_pass s inflow ≡ moved t → k ≡ k₀ → Room s x' → Room s y'
    → StepReady t inflow k x' y'
unfolding pass
ready-next {s} {t} {inflow = inflow} {k = k} r e f a b =
    let m = (theorems.step.moves s t inflow r.state).0 e in
    let same : cells t ≡ cells s = ap cells m.2 in
    let alike : t ≡ with_flow s t.h t.u t.v = subst (λ t. t ≡ with_flow s t.h t.u t.v) (sym m.2) refl in
    record {
      state = m.1;
      entering = subst (λ (k : ℕ). FieldWithin inflow_limits k inflow) (sym same) r.entering;
      fits = subst (λ (m : ℕ). m ≤ k) (sym (ap corners m.2)) (subst (λ (k : ℕ). corners s ≤ k) (sym f) r.fits);
      room-first = room-next s t alike a;
      room-second = room-next s t alike b;
    }
