-- The balance speaks of the C interface. A call of `basin_step` or `basin_run` is a link of a history, accepted or refused; and over any
-- history, where `basin_total_depth` returns 0 before it, it returns 0 after it too, and gives what it gave before plus the inflow due.
-- Assumes nothing.
use mathlib.Core.Path.{◌≡◌, sym, ap, ◌∙◌}
use mathlib.Core.List.{List, ◌∷◌}
use contract.Lifetimes.{Lfts}
use denote.Triple.Clauses.{AtExit}
use borrow.Fn.Kinds.{Dens, res_t, ended_of}
use native.Mathlib.Omega.{arith}
use lib.IntN.{ℤ, ◌+ℤ◌}
use lib.ListN.{get_or}
use Rattle.model.specs.State.{State, state_of}
use Rattle.model.specs.Answers.{total_numbers, total_in}
use Rattle.model.specs.Claims.{raised}
use Rattle.model.specs.Histories.{Call, step, run, History, stepped, ran, inflow_due}
use Rattle.std.specs.Prelude.{Ok, Err}
use Rattle.model.specs.Answers.{TotalAnswer}
use Rattle.theorems.specs.Theorems.{theorems}
use Rattle.basin.proofs.Applied.{from_one}
use Rattle.basin.specs.FromC.{parameters}
use Rattle.basin.proofs.basin_step.Kinds as step-kinds
use Rattle.basin.proofs.basin_step.Reads as step-reads
use Rattle.basin.proofs.basin_run.Kinds as run-kinds
use Rattle.basin.proofs.basin_run.Reads as run-reads
use Rattle.basin.proofs.basin_total_depth.Kinds as depth-kinds
use Rattle.basin.proofs.basin_total_depth.Reads as depth-reads
use Rattle.basin.proofs.Calls.{StepCall, RunCall, DepthCall, step_call, run_call, depth_call}

pub step-link : (c : StepCall) {calls : List Call} {t : State} → History c.after calls t → History c.before (step c.inflow c.work ∷ calls) t
step-link c more = stepped c.told.promise more

pub run-link : (c : RunCall) {calls : List Call} {t : State} → History c.after calls t → History c.before (run c.inflow c.steps c.work ∷ calls) t
run-link c more = ran c.told.promise more

-- where a call returns 0, its total is there
given : (c : DepthCall) → c.returned ≡ 0 → c.told.answer ≡ Ok c.total'
given c z = by c.told.answer c.told.holds (sym c.told.told.returns ∙ z)
  where
    by : (x : TotalAnswer) → c.total' ≡ get_or (total_in x) 0 c.total → get_or (total_numbers x) 0 0 ≡ 0 → x ≡ Ok c.total'
    by (Ok x) h n = ap Ok (sym h)
    by (Err r) h n = absurd (omega (arith, from_one r, n))

same_total : {x y : ℤ} → ◌≡◌ {A = TotalAnswer} (Ok x) (Ok y) → x ≡ y
same_total e = cc e

pub depth-balance : (first last : DepthCall) {calls : List Call} → first.returned ≡ 0 → History first.state calls last.state
    → (last.returned ≡ 0) × (last.total' ≡ first.total' +ℤ inflow_due first.state calls)
depth-balance first last {calls} z made =
    let e = theorems.balance first.state last.state calls first.told.answer last.told.answer made first.told.promise last.told.promise
    ∙ ap (raised (inflow_due first.state calls)) (given first z) in
    let q = last.told.told.returns ∙ ap (λ x. get_or (total_numbers x) 0 0) e in
    (q, same_total (sym (given last q) ∙ e))

-- ---- the same of the code itself: from what a caller learns of a call, of its own parameters

module _ (κs : Lfts 8) (a : Dens κs step-kinds.ps) (returned : (res_t step-kinds.r κs).Denot) (e : AtExit (ended_of 8 step-kinds.ps step-kinds.r) κs) where
  pub code-step-link : step-reads.Learnt κs a returned e → {calls : List Call} {t : State}
      → let (w, (n, (kind, (g, (c, (r, (h, (b, (u, (v, (barriers, (inflow, (work, _))))))))))))) = a in
      let (_, (_, (_, (_, (_, (_, (h', (_, (u', (v', _)))))))))) = e in
      let p = parameters w n kind g c r in
      History (state_of p h'.now b.now u'.now v'.now barriers.now) calls t → History (state_of p h.now b.now u.now v.now barriers.now) (step inflow.now work.now ∷ calls) t
  code-step-link told more = step-link (step_call κs a returned e told) more

module _ (κs : Lfts 8) (a : Dens κs run-kinds.ps) (returned : (res_t run-kinds.r κs).Denot) (e : AtExit (ended_of 8 run-kinds.ps run-kinds.r) κs) where
  pub code-run-link : run-reads.Learnt κs a returned e → {calls : List Call} {t : State}
      → let (w, (n, (kind, (g, (c, (r, (h, (b, (u, (v, (barriers, (inflow, (steps, (work, _)))))))))))))) = a in
      let (_, (_, (_, (_, (_, (_, (h', (_, (u', (v', _)))))))))) = e in
      let p = parameters w n kind g c r in
      History (state_of p h'.now b.now u'.now v'.now barriers.now) calls t → History (state_of p h.now b.now u.now v.now barriers.now) (run inflow.now steps work.now ∷ calls) t
  code-run-link told more = run-link (run_call κs a returned e told) more

module _ (κs κs' : Lfts 7) (a : Dens κs depth-kinds.ps) (a' : Dens κs' depth-kinds.ps) (returned : (res_t depth-kinds.r κs).Denot) (returned' : (res_t depth-kinds.r κs').Denot)
    (e : AtExit (ended_of 7 depth-kinds.ps depth-kinds.r) κs) (e' : AtExit (ended_of 7 depth-kinds.ps depth-kinds.r) κs') where
  pub code-depth-balance : depth-reads.Learnt κs a returned e → depth-reads.Learnt κs' a' returned' e' → {calls : List Call} → returned ≡ 0
      → let (w, (n, (kind, (g, (c, (r, (h, (b, (u, (v, (barriers, _))))))))))) = a in
      let (w', (n', (kind', (g', (c', (r', (h', (b', (u', (v', (barriers', _))))))))))) = a' in
      let (_, (_, (_, (_, (_, (_, (_, (_, (_, (_, (_, (total, _)))))))))))) = e in
      let (_, (_, (_, (_, (_, (_, (_, (_, (_, (_, (_, (total', _)))))))))))) = e' in
      let s = state_of (parameters w n kind g c r) h.now b.now u.now v.now barriers.now in
      History s calls (state_of (parameters w' n' kind' g' c' r') h'.now b'.now u'.now v'.now barriers'.now)
      → (returned' ≡ 0) × (total'.now ≡ total.now +ℤ inflow_due s calls)
  code-depth-balance first last z made = depth-balance (depth_call κs a returned e first) (depth_call κs' a' returned' e' last) z made
