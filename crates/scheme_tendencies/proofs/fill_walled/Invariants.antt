-- j rows are filled, and the shares that the row before gives to row j are at hand.
use mathlib.Core.Path.{◌≡◌}
use Prim.Native.Nat.{◌*◌, ◌≤◌}
use lib.IntN.{neg_ℤ}
use lib.ListN.{length}
use Rattle.model.specs.Scheme.{D, tendency_u, tendency_v}
use Rattle.grid.specs.WritingLoops.{Writing, field}
use Rattle.scheme.specs.Ready.{walled}
use Rattle.scheme.specs.Handing.{HandedNorth}
use Rattle.scheme_tendencies.proofs.fill_walled.Given as goal

abbrev pub invariant-loop-j : goal.invariant-loop-j
invariant-loop-j l =
    let t = walled l.s in
    (l.j ≤ t.n)
    × Writing 0 (field t.w t.n (λ i j. neg_ℤ (D t i j))) l.initial.dh (l.j * t.w) l.dh
    × Writing 0 (field t.w t.n (tendency_u t l.q)) l.initial.du (l.j * t.w) l.du
    × Writing 0 (field t.w t.n (tendency_v t l.q)) l.initial.dv (l.j * t.w) l.dv
    × HandedNorth t l.q l.j l.handed
    × (length l.handed ≡ 64)
