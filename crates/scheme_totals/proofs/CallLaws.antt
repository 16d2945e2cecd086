-- From the tests of a call to its answer: once for both totals, over the number x. Assumes nothing.
use Rattle.std.proofs.Common.{◌≡◌, ℤ, sym, ap, ◌∙◌}
use Rattle.std.specs.Prelude.{Option, Ok, Err}
use Rattle.model.specs.State.{State, WithinLimits}
use Rattle.model.specs.Promises.{total_tests, total_test, total_answer}
use Rattle.model.specs.declared.Refusal.{Refusal}
use Rattle.theorems.specs.Limits.{total-taken}
use Rattle.tests.specs.Links.{answers, accepted-none, refused-some}

module _ (s : State) where
  pub total-passed : answers (total_tests s) ≡ Ok tt → WithinLimits s
  unfolding total_test
  total-passed e = (total-taken s).0 (accepted-none (total_test s) (sym e))

  pub total-told : {x y : ℤ} → answers (total_tests s) ≡ Ok tt → y ≡ x → Ok y ≡ total_answer (total_test s) x
  unfolding total_test
  total-told {x} e f = ap Ok f ∙ sym (ap (λ (o : Option Refusal). total_answer o x) (accepted-none (total_test s) (sym e)))

  pub total-refused : (x : ℤ) {r : Refusal} → answers (total_tests s) ≡ Err r → Err r ≡ total_answer (total_test s) x
  unfolding total_test
  total-refused x {r} e = sym (ap (λ (o : Option Refusal). total_answer o x) (refused-some (total_test s) r (sym e)))
