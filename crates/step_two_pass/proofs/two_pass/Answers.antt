-- `step_two_pass::two_pass` meets its contract. Assumes nothing.
use Rattle.std.proofs.Common.{◌≡◌, length, sym, ap, subst, ◌∙◌}
use Rattle.std.proofs.lemmas.Result.{err_from_is_err_and}
use Rattle.model.specs.State.{State, lent_state, state_at, with_flow}
use Rattle.model.specs.Step.{pass, leaves}
use Rattle.step_pass.specs.Spaces.{PassReady}
use Rattle.step_two_pass.specs.Outcomes.{bounds_by}
use Rattle.step_two_pass.proofs.StepLaws.{made, made-room, both, first-stuck, second_stuck, second-ready}
use Rattle.step_two_pass.proofs.two_pass.Goals as goal
use Rattle.step_two_pass.proofs.two_pass.Goals.{After-test_result}

-- ---- pass 1 is there

abbrev state : After-test_result → State
state c = state_at c.args.s.now

abbrev first : After-test_result → State
first c = pass (state c) (state c) c.args.inflow.now

first-made : (c : After-test_result) → with_flow (state_at c.args.first.now) c.pass.new.h c.pass.new.u c.pass.new.v ≡ first c
first-made c = made c.args.inflow.now c.requires.room-first c.lent.ensures c.lent-2.ensures c.pass.ensures

scanned : (c : After-test_result) → c.test_result.result ≡ bounds_by 1 (leaves (first c))
scanned c = c.test_result.ensures ∙ ap (λ t. bounds_by 1 (leaves t)) (c.lent-3.ensures ∙ first-made c)

pub returns-in_err-test_result-clause-steps : goal.returns-in_err-test_result-clause-steps
returns-in_err-test_result-clause-steps c =
    let f = (goal.at.returns-in_err-test_result-clause-steps c).After-test_result in
    let p = err_from_is_err_and c.from_residual.result c.from_residual.ensures.1 in
    rw (p.1, p.2) (first-stuck (state f) c.args.inflow.now (sym c.in_err-test_result.was ∙ scanned f))

-- ---- pass 2, with its tendencies

pub pass-requires-2 : goal.pass-requires-2
pass-requires-2 c =
    let f = (goal.at.pass-requires-2 c).After-test_result in
    let inflow = c.args.inflow.now in
    let t = c.args.second.now in
    let k = length c.pass.new.q in
    let ready = second-ready (state f) inflow c.requires c.pass.auto.q (sym c.in_ok-test_result.was ∙ scanned f) in
    subst (λ g. PassReady g (lent_state c.lent-5.result) inflow k t.h.now t.u.now t.v.now) (sym (c.lent-4.ensures ∙ first-made f))
    (subst (λ b. PassReady (first f) b inflow k t.h.now t.u.now t.v.now) (sym c.lent-5.ensures) ready)

pub returns-in_err-test_result-2-clause-steps : goal.returns-in_err-test_result-2-clause-steps
returns-in_err-test_result-2-clause-steps c =
    let f = (goal.at.returns-in_err-test_result-2-clause-steps c).After-test_result in
    let is = c.lent-6.ensures ∙ made c.args.inflow.now c.requires.room-second (c.lent-4.ensures ∙ first-made f) c.lent-5.ensures c.pass-2.ensures in
    let p = err_from_is_err_and c.from_residual-in_err-test_result-2.result c.from_residual-in_err-test_result-2.ensures.1 in
    rw (p.1, p.2)
    (second_stuck (state f) c.args.inflow.now (sym c.in_ok-test_result.was ∙ scanned f)
    (sym c.in_err-test_result-2.was ∙ c.test_result-2.ensures ∙ ap (λ t. bounds_by 2 (leaves t)) is))

pub returns-clause-steps : goal.returns-clause-steps
returns-clause-steps c =
    let f = (goal.at.returns-clause-steps c).After-test_result in
    let s = state f in
    let inflow = c.args.inflow.now in
    let there = made c.args.inflow.now c.requires.room-second (c.lent-4.ensures ∙ first-made f) c.lent-5.ensures c.pass-2.ensures in
    let taken = ap state_at c.take_state.ensures ∙ ap (λ (t : State). with_flow s t.h t.u t.v) (c.lent-7.ensures ∙ there) ∙ sym (made-room s (first f) inflow).alike in
    both s inflow (sym c.in_ok-test_result.was ∙ scanned f) (sym c.in_ok-test_result-2.was ∙ c.test_result-2.ensures ∙ ap (λ t. bounds_by 2 (leaves t)) (c.lent-6.ensures ∙ there)) taken
