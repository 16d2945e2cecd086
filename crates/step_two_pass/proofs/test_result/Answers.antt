-- That the first scan that finds something tells is 01's order h, u, v. Assumes nothing.
use Rattle.std.proofs.Common.{◌≡◌, List, [], ◌∷◌, ◌++◌, ℕ, ℤ, length, sym, ap, ◌∙◌}
use Rattle.std.proofs.lemmas.Result.{err_from_is_err_and}
use Rattle.std.specs.Prelude.{Result}
use Rattle.model.specs.State.{State, lent_state, cells}
use Rattle.model.specs.Tests.{Test, first_found}
use Rattle.model.specs.Step.{Place, leaves}
use Rattle.model.specs.declared.Breach.{Breach}
use Rattle.model.specs.declared.Field.{Field}
use Rattle.model.specs.declared.Field.TheVariants.{Depth, VelocityU, VelocityV}
use Rattle.step_two_pass.specs.Outcomes.{bounds_by, field_test}
use Rattle.step_two_pass.proofs.ScanLaws.{kept_first, left_first}
use Rattle.step_two_pass.proofs.test_result.Goals as goal

-- what is told of a field, of m numbers
told : (pass : ℕ) (field : Field) {m : ℕ} (f : List ℤ) {r : Result Unit Breach} → r ≡ bounds_by pass (first_found (field_test field (length f) f ∷ [])) → length f ≡ m
    → r ≡ bounds_by pass (first_found (field_test field m f ∷ []))
told pass field f p e = p ∙ ap (λ m. bounds_by pass (first_found (field_test field m f ∷ []))) e

-- the tests of a result
module _ (s : State) where
  abbrev h : List (Test Place)
  h = field_test Depth (cells s) s.h ∷ []

  abbrev u : List (Test Place)
  u = field_test VelocityU (cells s) s.u ∷ []

  abbrev v : List (Test Place)
  v = field_test VelocityV (cells s) s.v ∷ []

pub returns-in_err-test_bounds : goal.returns-in_err-test_bounds
unfolding leaves
returns-in_err-test_bounds c =
    let s = lent_state c.args.s.now in
    let pass = c.args.pass in
    let p = err_from_is_err_and c.from_residual.result c.from_residual.ensures.1 in
    rw (p.1, p.2) (sym (left_first pass (h s) (u s ++ v s) (sym (told pass Depth s.h c.in_err-test_bounds.ensures c.requires.h))))

pub returns-in_err-test_bounds-2 : goal.returns-in_err-test_bounds-2
unfolding leaves
returns-in_err-test_bounds-2 c =
    let s = lent_state c.args.s.now in
    let pass = c.args.pass in
    let p = err_from_is_err_and c.from_residual-in_err-test_bounds-2.result c.from_residual-in_err-test_bounds-2.ensures.1 in
    rw (p.1, p.2)
    (sym (kept_first pass (h s) (u s ++ v s) (sym (told pass Depth s.h c.in_ok-test_bounds.ensures c.requires.h))
    ∙ left_first pass (u s) (v s) (sym (told pass VelocityU s.u c.in_err-test_bounds-2.ensures c.requires.u))))

pub returns : goal.returns
unfolding leaves
returns c =
    let s = lent_state c.args.s.now in
    let pass = c.args.pass in
    told pass VelocityV s.v c.test_bounds-3.ensures c.requires.v
    ∙ sym (kept_first pass (h s) (u s ++ v s) (sym (told pass Depth s.h c.in_ok-test_bounds.ensures c.requires.h))
    ∙ kept_first pass (u s) (v s) (sym (told pass VelocityU s.u c.in_ok-test_bounds-2.ensures c.requires.u)))
