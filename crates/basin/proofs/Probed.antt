-- How far to trust the doubles that C gets: where a probe and `basin_tendencies` return 0 on the same state and q, doubles told as exact are
-- the numbers that `basin_tendencies` leaves, and those told as near are at most 64 away; -D is the same. Assumes nothing.
use mathlib.Core.Path.{◌≡◌, refl, sym, ap, subst, ◌∙◌}
use mathlib.Core.List.{List, [], ◌∷◌}
use Prim.Native.Nat.{ℕ, ◌<◌}
use native.Mathlib.Omega.{arith}
use lib.ListN.{get_or}
use lib.Ieee.{Float, nan}
use Rattle.model.specs.State.{cells}
use Rattle.model.specs.Answers.{precision_numbers, probe_numbers, doubles_in, probe_grid_numbers}
use Rattle.model.specs.Promises.{ProbePromise, ProbeGridPromise}
use Rattle.model.specs.Claims.{Equal, Close}
use Rattle.std.specs.Prelude.{Ok, Err}
use Rattle.model.specs.declared.ProbeAnswer.{ProbeAnswer}
use Rattle.model.specs.Answers.{ProbeGridAnswer}
use Rattle.model.specs.declared.Precision.{Precision}
use Rattle.answers.specs.Told.{Told, or_kept}
use Rattle.theorems.specs.Theorems.{theorems}
use Rattle.basin.proofs.Applied.{from_one, promised}
use Rattle.basin.proofs.Calls.{TendenciesCall, ProbeCall, ProbeGridCall}

-- ---- what the second number tells, where 0 is returned

exact-precision : (p : Precision) {r : ℕ} {answer : List ℕ} → Told (precision_numbers p) r answer → get_or answer 1 0 ≡ 0 → p ≡ Precision.Exact
exact-precision Precision.Exact t e = refl
exact-precision Precision.Near t e = absurd (omega (arith, sym (ap (λ l. get_or l 1 0) t.holds) ∙ e))

near-precision : (p : Precision) {r : ℕ} {answer : List ℕ} → Told (precision_numbers p) r answer → get_or answer 1 0 ≡ 1 → p ≡ Precision.Near
near-precision Precision.Exact t e = absurd (omega (arith, sym (ap (λ l. get_or l 1 0) t.holds) ∙ e))
near-precision Precision.Near t e = refl

exact-told : (x : ProbeAnswer) {r : ℕ} {answer : List ℕ} → Told (probe_numbers x) r answer → r ≡ 0 → get_or answer 1 0 ≡ 0
    → (a : Float) × (b : Float) × (c : Float) × (x ≡ ProbeAnswer.Exact a b c)
exact-told (ProbeAnswer.Exact a b c) t z e = (a, b, c, refl)
exact-told (ProbeAnswer.Near a b c) t z e = absurd (omega (arith, sym (ap (λ l. get_or l 1 0) t.holds) ∙ e))
exact-told (ProbeAnswer.Refused y) t z e = absurd (omega (arith, from_one y, sym t.returns ∙ z))

near-told : (x : ProbeAnswer) {r : ℕ} {answer : List ℕ} → Told (probe_numbers x) r answer → r ≡ 0 → get_or answer 1 0 ≡ 1
    → (a : Float) × (b : Float) × (c : Float) × (x ≡ ProbeAnswer.Near a b c)
near-told (ProbeAnswer.Exact a b c) t z e = absurd (omega (arith, sym (ap (λ l. get_or l 1 0) t.holds) ∙ e))
near-told (ProbeAnswer.Near a b c) t z e = (a, b, c, refl)
near-told (ProbeAnswer.Refused y) t z e = absurd (omega (arith, from_one y, sym t.returns ∙ z))

grid-exact-told : (x : ProbeGridAnswer) {r : ℕ} {answer : List ℕ} → Told (probe_grid_numbers x) r answer → r ≡ 0 → get_or answer 1 0 ≡ 0 → x ≡ Ok Precision.Exact
grid-exact-told (Ok x) t z e = ap Ok (exact-precision x t e)
grid-exact-told (Err y) t z e = absurd (omega (arith, from_one y, sym t.returns ∙ z))

grid-near-told : (x : ProbeGridAnswer) {r : ℕ} {answer : List ℕ} → Told (probe_grid_numbers x) r answer → r ≡ 0 → get_or answer 1 0 ≡ 1 → x ≡ Ok Precision.Near
grid-near-told (Ok x) t z e = ap Ok (near-precision x t e)
grid-near-told (Err y) t z e = absurd (omega (arith, from_one y, sym t.returns ∙ z))

-- ---- a cell

module _ (t : TendenciesCall) (p : ProbeCall) (same-state : p.state ≡ t.state) (same-q : p.q ≡ t.q) (done : t.returned ≡ 0) (told : p.returned ≡ 0) where
  -- the three lent doubles, at the cell's index
  abbrev Each : (ℕ → (a b c : Float) → Type 0) → Type 0
  Each R = let d = p.doubles' in R p.cell (get_or d 0 nan) (get_or d 1 nan) (get_or d 2 nan)

  doubles-are : {a b c : Float} {x : ProbeAnswer} → p.told.answer ≡ x → doubles_in x ≡ a ∷ b ∷ c ∷ [] → p.doubles' ≡ a ∷ b ∷ c ∷ []
  doubles-are e d = p.told.holds ∙ ap (λ x. or_kept (doubles_in x) p.doubles) e ∙ ap (λ l. or_kept l p.doubles) d

  on_same : {x : ProbeAnswer} → p.told.answer ≡ x → ProbePromise t.state t.q p.cell x
  on_same e =
      subst (ProbePromise t.state t.q p.cell) e
      (subst (λ s. ProbePromise s t.q p.cell p.told.answer) same-state
      (subst (λ q. ProbePromise p.state q p.cell p.told.answer) same-q p.told.promise))

  pub exact-doubles : get_or p.answer 1 0 ≡ 0 → Each (λ k a b c. Equal k a b c t.dh' t.du' t.dv')
  exact-doubles e =
      let x = exact-told p.told.answer p.told.told told e in
      subst (λ d. Equal p.cell (get_or d 0 nan) (get_or d 1 nan) (get_or d 2 nan) t.dh' t.du' t.dv') (sym (doubles-are x.3 refl))
      (theorems.probe.equal t.state t.q _ _ _ _ _ _ p.cell x.0 x.1 x.2 (on_same x.3) (promised t done))

  pub near-doubles : get_or p.answer 1 0 ≡ 1 → Each (λ k a b c. Close k a b c t.dh' t.du' t.dv')
  near-doubles e =
      let x = near-told p.told.answer p.told.told told e in
      subst (λ d. Close p.cell (get_or d 0 nan) (get_or d 1 nan) (get_or d 2 nan) t.dh' t.du' t.dv') (sym (doubles-are x.3 refl))
      (theorems.probe.close t.state t.q _ _ _ _ _ _ p.cell x.0 x.1 x.2 (on_same x.3) (promised t done))

-- ---- the grid, at every cell

module _ (t : TendenciesCall) (p : ProbeGridCall) (same-state : p.state ≡ t.state) (same-q : p.q ≡ t.q) (done : t.returned ≡ 0) (told : p.returned ≡ 0) where
  abbrev Promised : ProbeGridAnswer → Type 0
  Promised x = ProbeGridPromise t.state t.q p.dh p.du p.dv x p.dh' p.du' p.dv'

  grid-on-same : {x : ProbeGridAnswer} → p.told.answer ≡ x → Promised x
  grid-on-same e =
      subst Promised e
      (subst (λ s. ProbeGridPromise s t.q p.dh p.du p.dv p.told.answer p.dh' p.du' p.dv') same-state
      (subst (λ q. ProbeGridPromise p.state q p.dh p.du p.dv p.told.answer p.dh' p.du' p.dv') same-q p.told.promise))

  pub exact-grid : get_or p.answer 1 0 ≡ 0 → (k : ℕ) → k < cells t.state
      → Equal k (get_or p.dh' k nan) (get_or p.du' k nan) (get_or p.dv' k nan) t.dh' t.du' t.dv'
  exact-grid e k l =
      theorems.probe-grid.equal t.state t.q _ _ _ _ _ _ _ _ _ _ _ _ k l (grid-on-same (grid-exact-told p.told.answer p.told.told told e)) (promised t done)

  pub near-grid : get_or p.answer 1 0 ≡ 1 → (k : ℕ) → k < cells t.state
      → Close k (get_or p.dh' k nan) (get_or p.du' k nan) (get_or p.dv' k nan) t.dh' t.du' t.dv'
  near-grid e k l =
      theorems.probe-grid.close t.state t.q _ _ _ _ _ _ _ _ _ _ _ _ k l (grid-on-same (grid-near-told p.told.answer p.told.told told e)) (promised t done)
