use Rattle.std.specs.Prelude.{◌≡◌, ◌+◌, ◌*◌, ◌≤◌, None}
use Rattle.grid.specs.Scanning.{Scanned}
use Rattle.tests.specs.Sought.{edges_of, moving_at, bad_in}
use Rattle.tests.proofs.first_moving.Given as goal

-- the loops have passed the cells before (i, j), and found none
abbrev pub invariant-loop-i : goal.invariant-loop-i
invariant-loop-i g l =
    let p = l.p in
    (l.i ≤ p.w) × Scanned (bad_in (moving_at (edges_of p l.barriers) l.edge) p.w (g.N.Numbers.numbers l.f)) (p.w * p.n) (l.j * p.w + l.i) × (l.found ≡ None)

abbrev pub invariant-scan : goal.invariant-scan
invariant-scan g l =
    let p = l.p in
    (l.j ≤ p.n) × Scanned (bad_in (moving_at (edges_of p l.barriers) l.edge) p.w (g.N.Numbers.numbers l.f)) (p.w * p.n) (l.j * p.w) × (l.found ≡ None)
