-- The loops have passed the cells before (i, j). Assumes nothing.
use Rattle.std.proofs.Common.{◌≡◌, ◌+◌, ◌*◌, ◌<◌, true, false, not, ◌&&◌, ℤ, pos, get_or, eqb, refl, sym, ap, ap₂, ◌∙◌, arith, of_z, w64}
use lib.Signed.{mag}
use Rattle.std.proofs.lemmas.Bool.{ne_eqb}
use Rattle.model.specs.Numbers.{eqℤ}
use Rattle.integers.specs.Bounds.{zero_bits}
use Rattle.grid.specs.Barred.{closed_at}
use Rattle.grid.specs.Cells.{cell-lt, by_index}
use Rattle.grid.specs.Scanning.{scanned-at, scanned-more, scanned-bad, rows-scanned}
use Rattle.tests.specs.Sought.{edges_of, moving_at}
use Rattle.tests.proofs.first_moving.Goals as goal
use Rattle.tests.proofs.first_moving.Goals.{else-is_closed-via-then-is_closed+else-number_at-ne0, else-is_closed-via-else-is_closed}

-- a number is 0 where its bits are
zero-not : (x : ℤ) → mag x < 9223372036854775808 → (of_z w64 x ≡ 0 → ⊥) → not (eqℤ x (pos 0)) ≡ true
zero-not x h n = ap not (sym (zero_bits x (record { sfits = h }))) ∙ ap not (ne_eqb (of_z w64 x) 0 n)

zero-is : (x : ℤ) → mag x < 9223372036854775808 → of_z w64 x ≡ 0 → not (eqℤ x (pos 0)) ≡ false
zero-is x h e = ap not (sym (zero_bits x (record { sfits = h })) ∙ ap (λ k. eqb k 0) e)

pub returns-then-number_at-ne0 : goal.returns-then-number_at-ne0
returns-then-number_at-ne0 g c =
    let x = c.number_at.result in
    let n = not (eqℤ x (pos 0)) in
    let h = cell-lt c.loop-i-test.true c.scan-test.true in
    let t = edges_of c.args.p c.args.barriers.now in
    let e : (closed_at t c.args.edge c.loop-i.i c.scan.j && not (eqℤ x (pos 0))) ≡ true =
    ap₂ (λ a b. a && b) (sym (c.is_closed.ensures t refl (sym c.barrier_at-barrier.ensures)) ∙ c.if-is_closed.true) (zero-not x c.number_at.type_inv c.if-number_at-ne0.true) in
    sym (scanned-bad c.loop-i.invariant.1 h (by_index (moving_at t c.args.edge (get_or (g.N.Numbers.numbers c.args.f.now) (c.scan.j * c.args.p.w + c.loop-i.i) (pos 0))) c.scan.j c.loop-i-test.true ∙ ap (λ (z : ℤ). moving_at t c.args.edge z c.loop-i.i c.scan.j) (sym c.number_at.ensures) ∙ e))

pub loop-i-preserved : goal.loop-i-preserved
loop-i-preserved g c =
    let t = edges_of c.args.p c.args.barriers.now in
    let y = get_or (g.N.Numbers.numbers c.args.f.now) (c.scan.j * c.args.p.w + c.loop-i.i) (pos 0) in
    let h = cell-lt c.loop-i-test.true c.scan-test.true in
    let told = sym (c.is_closed.ensures t refl (sym c.barrier_at-barrier.ensures)) in
    let still : (closed_at t c.args.edge c.loop-i.i c.scan.j && not (eqℤ y (pos 0))) ≡ false =
    elim c.else-is_closed.branch [
      | else-is_closed-via-then-is_closed+else-number_at-ne0 w ↦ ap₂ (λ a b. a && b) (told ∙ w.if-is_closed.true) (ap (λ (z : ℤ). not (eqℤ z (pos 0))) (sym w.number_at.ensures) ∙ zero-is w.number_at.result w.number_at.type_inv w.if-number_at-ne0.false)
      | else-is_closed-via-else-is_closed w ↦ ap (λ a. a && not (eqℤ y (pos 0))) (told ∙ w.if-is_closed.false)
    ] in
    (omega arith, scanned-at (scanned-more c.loop-i.invariant.1 h (by_index (moving_at t c.args.edge y) c.scan.j c.loop-i-test.true ∙ still)) (omega arith), c.loop-i.invariant.2)

pub returns-after-scan : goal.returns-after-scan
returns-after-scan g c = let p = c.args.p in c.scan.invariant.2 ∙ sym (rows-scanned p.w p.n c.scan.invariant.0 c.scan-test.false c.scan.invariant.1)
