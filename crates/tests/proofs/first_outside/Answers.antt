-- The loop has passed the numbers before k. Assumes nothing.
use Rattle.std.proofs.Common.{◌≡◌, ◌<◌, not, sym, ap, ◌∙◌, to_z, of_z, w64, ℤ, length}
use mir.Facts.{to_z-of_z}
use Rattle.model.specs.Numbers.{within}
use Rattle.integers.specs.Ranges.{between}
use Rattle.grid.specs.Scanning.{scanned-more, scanned-bad, scanned-all}
use Rattle.tests.proofs.first_outside.Goals as goal

pub returns-then-not-contains : goal.returns-then-not-contains
returns-then-not-contains g c =
    let l = c.loop-k-test.true in
    let h : c.loop-k.k < length (g.N.Numbers.numbers c.args.f.now) = rw c.count-k-end.ensures at l in
    let e : to_z w64 (of_z w64 c.number_at.result) ≡ c.number_at.result = to_z-of_z {w = w64} (record { sfits = c.number_at.type_inv }) in
    sym (scanned-bad c.loop-k.invariant h (ap not (ap (λ (z : ℤ). within (between c.args.l) z) (sym (e ∙ c.number_at.ensures)) ∙ sym c.contains.ensures ∙ c.if-not-contains.true)))

pub loop-k-preserved : goal.loop-k-preserved
loop-k-preserved g c =
    let l = c.loop-k-test.true in
    let h : c.loop-k.k < length (g.N.Numbers.numbers c.args.f.now) = rw c.count-k-end.ensures at l in
    let e : to_z w64 (of_z w64 c.number_at.result) ≡ c.number_at.result = to_z-of_z {w = w64} (record { sfits = c.number_at.type_inv }) in
    scanned-more c.loop-k.invariant h (ap not (ap (λ (z : ℤ). within (between c.args.l) z) (sym (e ∙ c.number_at.ensures)) ∙ sym c.contains.ensures ∙ c.if-not-contains.false))

pub returns : goal.returns
returns g c = sym (scanned-all c.loop-k.invariant (rw (← c.count-k-end.ensures) c.loop-k-test.false))
