-- j rows are stored, and the shares that the row before gives to row j are at hand.
use mathlib.Core.Path.{◌≡◌}
use Prim.Native.Nat.{◌*◌, ◌≤◌}
use lib.ListN.{length}
use Rattle.model.specs.Step.{new_u, new_v}
use Rattle.grid.specs.WritingLoops.{Writing, field}
use Rattle.scheme.specs.Ready.{walled}
use Rattle.scheme.specs.Handing.{HandedNorth}
use Rattle.step_pass.specs.Spaces.{moving}
use Rattle.step_pass.proofs.fill_velocity.Given as goal

abbrev pub invariant-loop-j : goal.invariant-loop-j
invariant-loop-j l =
    let t = walled l.s in
    let base = moving t l.base_u l.base_v in
    (l.j ≤ t.n)
    × Writing 0 (field t.w t.n (new_u t base l.q)) l.initial.u (l.j * t.w) l.u
    × Writing 0 (field t.w t.n (new_v t base l.q)) l.initial.v (l.j * t.w) l.v
    × HandedNorth t l.q l.j l.handed
    × (length l.handed ≡ 64)
    × (length l.u ≡ t.w * t.n)
    × (length l.v ≡ t.w * t.n)
