-- From the tests of a probe, as the code makes them, to its promise. Assumes nothing.
use Rattle.std.specs.Prelude.{◌≡◌, Bool, true, false, List, ℕ, ◌/◌, ◌%◌, ◌<◌, ℤ}
use Rattle.std.proofs.Math.Path.{refl, sym, ap}
use Rattle.std.proofs.Common.{◌∙◌}
use Rattle.std.specs.Prelude.{Option, None, Some, Ok, Err}
use Rattle.model.specs.State.{State, cells}
use Rattle.model.specs.Answers.{told_probe}
use Rattle.model.specs.Tests.{first_found}
use Rattle.model.specs.Refusals.{value_tests}
use Rattle.model.specs.Doubles.{tendency_h, tendency_u, tendency_v, narrow_fields, is_none, narrow}
use Rattle.model.specs.Promises.{answer_of, precision_of, marked, probe_answer, probe_test, probe_of, ProbePromise}
use Rattle.model.specs.declared.ProbeAnswer.{ProbeAnswer}
use Rattle.model.specs.declared.Precision.{Precision}
use Rattle.model.specs.declared.Refusal.{Refusal}
use Rattle.model.specs.declared.Refusal.TheVariants.{Value}
use Rattle.theorems.specs.Truth.{differ}
use Rattle.theorems.specs.Limits.{probe-taken}
use Rattle.theorems.specs.RoundTrip.{bars-long}
use Rattle.tests.specs.Links.{answers}
use Rattle.scheme.specs.Ready.{ready}
use Rattle.scheme_probe.specs.Cells.{Ready, AreDoubles}
use Rattle.scheme_probe.specs.declared.Doubles.{Doubles}

-- ---- exact or near, by what the tests of narrow answer

exact_by : (o : Option Refusal) → answer_of o ≡ Ok tt → Precision.Exact ≡ precision_of (is_none o)
exact_by None e = refl
exact_by (Some r) e = differ (cc e)

near_by : (o : Option Refusal) {r : Refusal} → answer_of o ≡ Err r → Precision.Near ≡ precision_of (is_none o)
near_by None e = differ (cc e)
near_by (Some r) e = refl

module _ (s : State) (q : List ℤ) where
  pub exact-told : answers (value_tests Value (narrow_fields s q)) ≡ Ok tt → Precision.Exact ≡ precision_of (narrow s q)
  unfolding narrow
  exact-told = exact_by (first_found (value_tests Value (narrow_fields s q)))

  pub near-told : {r : Refusal} → answers (value_tests Value (narrow_fields s q)) ≡ Err r → Precision.Near ≡ precision_of (narrow s q)
  unfolding narrow
  near-told = near_by (first_found (value_tests Value (narrow_fields s q)))

-- and whether all is narrow, by which of the two it is
pub if-exact : (n : Bool) → Precision.Exact ≡ precision_of n → true ≡ n
if-exact true e = refl
if-exact false e = differ (cc e)

pub if-near : (n : Bool) → Precision.Near ≡ precision_of n → false ≡ n
if-near true e = differ (cc e)
if-near false e = refl

-- ---- the probe of a cell

module _ (s : State) (q : List ℤ) (k : ℕ) where
  -- once its tests have passed
  pub probe-passed : probe_test s q k ≡ None → Ready s q × (k < cells s)
  probe-passed e =
      let a = (probe-taken s q k).0 e in
      ((ready a.0.0 a.0.1, bars-long s a.0.0), a.1)

  by : {o : Option Refusal} {r : ProbeAnswer} {d : Doubles} → probe_test s q k ≡ o → AreDoubles s q (k % s.w) (k / s.w) d
      → r ≡ probe_answer o (narrow s q) d.h d.u d.v
      → ProbePromise s q k r
  unfolding probe_of
  by {o} e d h =
      let a = h ∙ (λ i. probe_answer (sym e i) (narrow s q) (d.h i) (d.u i) (d.v i)) in
      record { answers = a; tells = ap told_probe a }

  pub probe-done : {exact : Bool} {d : Doubles} {r : ProbeAnswer} → probe_test s q k ≡ None → exact ≡ narrow s q
      → AreDoubles s q (k % s.w) (k / s.w) d → r ≡ marked exact d.h d.u d.v → ProbePromise s q k r
  probe-done {d = d} e n a h = by {o = None} e a (h ∙ ap (λ b. marked b d.h d.u d.v) n)

  pub probe-refused : {r : Refusal} → probe_test s q k ≡ Some r → ProbePromise s q k (ProbeAnswer.Refused r)
  unfolding probe_of
  probe-refused {r} e =
      let i = k % s.w in
      let j = k / s.w in
      let a = sym (ap (λ o. probe_answer o (narrow s q) (tendency_h s i j) (tendency_u s q i j) (tendency_v s q i j)) e) in
      record { answers = a; tells = ap told_probe a }
