-- Any list of step and run calls keeps the limits, and total depth balances over it. Assumes nothing.
use Rattle.std.specs.Prelude.{◌≡◌, refl, List, ◌∷◌, ℕ, suc, ℤ, pos, ◌+ℤ◌, ◌*ℤ◌, length}
use Rattle.std.proofs.Common.{sym, ap, subst, ◌∙◌}
use Rattle.std.specs.Prelude.{Option, None, Some}
use Rattle.std.proofs.Math.IntN.{+ℤ_assoc, +ℤ_comm, +ℤ_idr, zero-*ℤ, suc_ℤ-*ℤ}
use Rattle.model.specs.Numbers.{total}
use Rattle.model.specs.State.{State, cells, WithinLimits}
use Rattle.model.specs.Step.{Outcome, moved, stuck, Ran, two_pass, outcome_answer, after_step, step_test, step_answer_by, step_state_by, step_answer, step_state, run_from, run_test, run_by, run_of}
use Rattle.model.specs.Totals.{total_depth, energy4}
use Rattle.model.specs.Histories.{Call, step, run, inflow_of, step_count, run_count, steps_done, state_after, inflow_due, History, nothing, stepped, ran}
use Rattle.model.specs.Promises.{total_test, total_answer, TotalDepthPromise}
use Rattle.model.specs.Claims.{Steps, start, onward, raised, BalanceClaim, TotalsClaim, KeptClaim}
use Rattle.model.specs.declared.Refusal.{Refusal}
use Rattle.std.specs.Prelude.{Ok, Err}
use Rattle.model.specs.Answers.{TotalAnswer}
use Rattle.theorems.specs.Truth.{some≢}
use Rattle.theorems.specs.Limits.{total-taken, step-taken, run-taken}
use Rattle.theorems.specs.Runs.{run-told}
use Rattle.theorems.specs.Stepping.{step-within, step-total, step-cells}

-- ---- from a state within the limits

-- t is within the limits, and k steps' inflow above s
record Linked (s t : State) (k : ℕ) (inflow : List ℤ) : Type 0 where
  inside : WithinLimits t
  balance : total t.h ≡ total s.h +ℤ pos k *ℤ total inflow

none_done : (x k : ℤ) → x ≡ x +ℤ pos 0 *ℤ k
none_done x k = sym (ap (λ z. x +ℤ z) (zero-*ℤ k) ∙ +ℤ_idr x)

stays : (s : State) (inflow : List ℤ) → WithinLimits s → Linked s s 0 inflow
stays s inflow l = record { inside = l; balance = none_done (total s.h) (total inflow) }

one-done : (m : ℕ) (a b c x : ℤ) → b ≡ a +ℤ x → c ≡ b +ℤ pos m *ℤ x → c ≡ a +ℤ pos (suc m) *ℤ x
one-done m a b c x p q =
    q ∙ ap (λ z. z +ℤ pos m *ℤ x) p ∙ +ℤ_assoc a x (pos m *ℤ x) ∙ ap (λ z. a +ℤ z) (+ℤ_comm x (pos m *ℤ x) ∙ sym (suc_ℤ-*ℤ (pos m) x))

steps-linked : (inflow : List ℤ) (k : ℕ) (s t : State) → length inflow ≡ cells s → WithinLimits s → Steps inflow k s t → Linked s t k inflow
steps-linked inflow k s t e l (start {s = x}) = stays x inflow l
steps-linked inflow k s t e l (onward {m = m} {s = x} {t = y} {e = z} h r) =
    let d = steps-linked inflow m y z (e ∙ sym (step-cells x y inflow h)) ((step-within.moves x y inflow l).0 h).1 r in
    record { inside = d.inside; balance = one-done m (total x.h) (total y.h) (total z.h) (total inflow) (step-total x y inflow l e h) d.balance }

step_by : (s : State) (inflow : List ℤ) → WithinLimits s → (length inflow ≡ cells s) → (o : Outcome) → two_pass s inflow ≡ o
    → Linked s (after_step s o) (step_count (outcome_answer o)) inflow
step_by s inflow l e (moved t) h = steps-linked inflow 1 s t e l (onward h start)
step_by s inflow l e (stuck p x) h = stays s inflow l

step-tested : (s : State) (inflow : List ℤ) → WithinLimits s → (x : Option Refusal) → (x ≡ None → length inflow ≡ cells s)
    → Linked s (step_state_by x s (two_pass s inflow)) (step_count (step_answer_by x (two_pass s inflow))) inflow
step-tested s inflow l None e = step_by s inflow l (e refl) (two_pass s inflow) refl
step-tested s inflow l (Some r) e = stays s inflow l

run-tested : (s : State) (inflow : List ℤ) → WithinLimits s → (x : Option Refusal) → (x ≡ None → length inflow ≡ cells s) → (r : Ran)
    → Steps inflow (run_count (run_by x s r).answer) s (run_by x s r).state → Linked s (run_by x s r).state (run_count (run_by x s r).answer) inflow
run-tested s inflow l None e r h = steps-linked inflow (run_count r.answer) s r.state (e refl) l h
run-tested s inflow l (Some x) e r h = stays s inflow l

call-linked : (s : State) → WithinLimits s → (c : Call) → Linked s (state_after s c) (steps_done s c) (inflow_of c)
unfolding step_state step_answer step_test run_of run_test
call-linked s l (step inflow work) = step-tested s inflow l (step_test s inflow (length work)) (λ e. ((step-taken s inflow (length work)).0 e).1.long)
call-linked s l (run inflow m work) =
    run-tested s inflow l (run_test s inflow m (length work)) (λ e. ((run-taken s inflow m (length work)).0 e).0.1.long) (run_from m 0 s inflow) (run-told s inflow m (length work)).0

-- ---- from a state that is refused: every call refuses it

abbrev Refuses : State → Type 0
Refuses s = WithinLimits s → ⊥

step-refused : (s : State) (o : Outcome) (x : Option Refusal) → (x ≡ None → ⊥) → step_state_by x s o ≡ s
step-refused s o None n = absurd (n refl)
step-refused s o (Some r) n = refl

run-refused : (s : State) (r : Ran) (x : Option Refusal) → (x ≡ None → ⊥) → (run_by x s r).state ≡ s
run-refused s r None n = absurd (n refl)
run-refused s r (Some x) n = refl

call-refused : (s : State) → Refuses s → (c : Call) → state_after s c ≡ s
unfolding step_state step_test run_of run_test
call-refused s n (step inflow work) = step-refused s (two_pass s inflow) (step_test s inflow (length work)) (λ e. n ((step-taken s inflow (length work)).0 e).0)
call-refused s n (run inflow m work) = run-refused s (run_from m 0 s inflow) (run_test s inflow m (length work)) (λ e. n ((run-taken s inflow m (length work)).0 e).0.0)

-- ---- lists of calls

record Balanced (s : State) (calls : List Call) (t : State) : Type 0 where
  inside : WithinLimits t
  balance : total t.h ≡ total s.h +ℤ inflow_due s calls

add-up : (a b c x y : ℤ) → b ≡ a +ℤ x → c ≡ b +ℤ y → c ≡ a +ℤ (x +ℤ y)
add-up a b c x y p q = q ∙ ap (λ z. z +ℤ y) p ∙ +ℤ_assoc a x y

joined : (s : State) (c : Call) (calls : List Call) (t e : State) → WithinLimits s → t ≡ state_after s c → (WithinLimits t → Balanced t calls e) → Balanced s (c ∷ calls) e
unfolding inflow_due
joined s c calls t e i p h =
    let l = call-linked s i c in
    let b = h (subst WithinLimits (sym p) l.inside) in
    record {
      inside = b.inside;
      balance = add-up (total s.h) (total (state_after s c).h) (total e.h) (pos (steps_done s c) *ℤ total (inflow_of c)) (inflow_due (state_after s c) calls) l.balance
          (subst (λ (x : State). total e.h ≡ total x.h +ℤ inflow_due x calls) p b.balance);
    }

balanced : (s : State) (calls : List Call) (t : State) → WithinLimits s → History s calls t → Balanced s calls t
unfolding inflow_due
balanced s calls t l (nothing {s = x}) = record { inside = l; balance = sym (+ℤ_idr (total x.h)) }
balanced s calls t l (stepped {s = x} {t = y} {e = z} {inflow = i} {work = k} {calls = cs} p r) = joined x (step i k) cs y z l p.steps (λ m. balanced y cs z m r)
balanced s calls t l (ran {s = x} {t = y} {e = z} {inflow = i} {work = k} {m = n} {calls = cs} p r) = joined x (run i n k) cs y z l p.steps (λ m. balanced y cs z m r)

unmoved : (s : State) (calls : List Call) (t : State) → Refuses s → History s calls t → t ≡ s
unmoved s calls t n (nothing {s = x}) = refl
unmoved s calls t n (stepped {s = x} {t = y} {e = z} {inflow = i} {work = k} {calls = cs} p r) =
    let e : y ≡ x = p.steps ∙ call-refused x n (step i k) in unmoved y cs z (subst Refuses (sym e) n) r ∙ e
unmoved s calls t n (ran {s = x} {t = y} {e = z} {inflow = i} {work = k} {m = m} {calls = cs} p r) =
    let e : y ≡ x = p.steps ∙ call-refused x n (run i m k) in unmoved y cs z (subst Refuses (sym e) n) r ∙ e

-- ---- total depth before and after

pub totals : TotalsClaim
unfolding total_test
totals = record {
  depth = λ s answer l p. p.answers ∙ ap (λ x. total_answer x (total_depth s)) ((total-taken s).1 l);
  energy = λ s answer l p. p.answers ∙ ap (λ x. total_answer x (energy4 s)) ((total-taken s).1 l);
}

by-test : (s t : State) (calls : List Call) (before after : TotalAnswer) → History s calls t → TotalDepthPromise s before → TotalDepthPromise t after
    → (x : Option Refusal) → total_test s ≡ x → after ≡ raised (inflow_due s calls) before
unfolding total_test total_depth
by-test s t calls before after h p q None e =
    let l = (total-taken s).0 e in
    let b = balanced s calls t l h in
    totals.depth t after b.inside q ∙ ap Ok b.balance ∙ ap (raised (inflow_due s calls)) (sym (totals.depth s before l p))
by-test s t calls before after h p q (Some r) e =
    let n : Refuses s = λ l. some≢ (sym e ∙ (total-taken s).1 l) in
    let here : before ≡ Err r = p.answers ∙ ap (λ x. total_answer x (total_depth s)) e in
    let there : after ≡ Err r = q.answers ∙ ap (λ (x : State). total_answer (total_test x) (total_depth x)) (unmoved s calls t n h) ∙ ap (λ x. total_answer x (total_depth s)) e in
    there ∙ ap (raised (inflow_due s calls)) (sym here)

pub balance : BalanceClaim
balance s t calls before after h p q = by-test s t calls before after h p q (total_test s) refl

pub kept : KeptClaim
kept s t calls l h = (balanced s calls t l h).inside
