-- A refusal is told of the record that it was found in. Assumes nothing.
use Rattle.std.proofs.Common.{◌≡◌, List, ℕ, refl, sym, ap, ap₂, subst, ◌∙◌, Ok, Err}
use Rattle.std.specs.Prelude.{Result}
use Rattle.std.specs.Result.{MatchResult, IsErrAnd}
use Rattle.std.proofs.lemmas.Result.{err_from_is_err_and}
use Rattle.model.specs.declared.Refusal.{Refusal}
use Rattle.model.specs.declared.CompareError.{CompareError}
use Rattle.model.specs.declared.CompareError.TheVariants.{First, Second}
use Rattle.record_tests.specs.RecordTested.{Accepted}
use Rattle.record_compare.specs.Read.{rooms, compared_read}
use Rattle.record_compare.specs.CompareLaws.{first-refused, second-refused, both_read}
use Rattle.record_compare.proofs.compare.Goals as goal

-- an error by way of `map_err` is what its function makes of the refusal
of_refusal : {A : Type 0} {f : Refusal → CompareError} {Q : Refusal → CompareError → Type 0} (a : Result A Refusal) {r : Result A CompareError} {y : CompareError}
    → ((w : Refusal) (x : CompareError) → Q w x → x ≡ f w) → MatchResult a (λ x. r ≡ Ok x) (λ w. IsErrAnd r (Q w)) → r ≡ Err y → (w : Refusal) × (a ≡ Err w) × (y ≡ f w)
of_refusal (Ok x) q m e = absurd (cc (m, e))
of_refusal (Err w) {r} {y} q m e =
    let p = err_from_is_err_and r m in
    let h : y ≡ p.0 = cc (e, p.1) in
    (w, refl, h ∙ q w p.0 p.2)

of_ok : {A : Type 0} (f : Refusal → CompareError) (a : Result A Refusal) {r : Result A CompareError} {x : A}
    → MatchResult a (λ x. r ≡ Ok x) (λ w. IsErrAnd r (λ x. x ≡ f w)) → r ≡ Ok x → a ≡ Ok x
of_ok f (Ok y) m e = ap Ok (cc (m, e))
of_ok f (Err w) {r} m e = let p = err_from_is_err_and r m in absurd (cc (p.1, e))

-- a record that was examined: its bytes, and that they pass
own : {bytes rec : List ℕ} → (bytes ≡ rec) × Accepted rec rooms → Accepted bytes rooms
own x = subst (λ b. Accepted b rooms) (sym x.0) x.1

pub returns-in_err-first : goal.returns-in_err-first
returns-in_err-first c =
    let p = err_from_is_err_and c.from_residual.result c.from_residual.ensures.1 in
    let w = of_refusal {f = First} c.examine.result (λ w x h. h) c.map_err.ensures.cases c.in_err-first.was in
    rw (p.1, p.2, w.2) (first-refused (rw w.1 at c.examine.ensures))

pub returns-in_err-second : goal.returns-in_err-second
returns-in_err-second c =
    let p = err_from_is_err_and c.from_residual-in_err-second.result c.from_residual-in_err-second.ensures.1 in
    let w = of_refusal {f = Second} c.examine-2.result (λ w x h. h) c.map_err-2.ensures.cases c.in_err-second.was in
    let x = rw (of_ok First c.examine.result c.map_err.ensures.cases c.in_ok-first.was) at c.examine.ensures in
    rw (p.1, p.2, w.2) (second-refused x.1 (rw w.1 at c.examine-2.ensures))

pub returns : goal.returns
returns c =
    let x = rw (of_ok First c.examine.result c.map_err.ensures.cases c.in_ok-first.was) at c.examine.ensures in
    let y = rw (of_ok Second c.examine-2.result c.map_err-2.ensures.cases c.in_ok-second.was) at c.examine-2.ensures in
    both_read (record { first_read = x.1; second-read = y.1 }) (c.compare_read.ensures ∙ ap₂ compared_read x.0 y.0)
