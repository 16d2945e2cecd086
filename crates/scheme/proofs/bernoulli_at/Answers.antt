-- `scheme::bernoulli_at` meets its contract. Assumes nothing.
use mathlib.Core.Path.{◌≡◌, ap, ◌∙◌}
use mathlib.Core.List.{[], ◌∷◌}
use Prim.Native.Nat.{ℕ}
use lib.IntN.{ℤ}
use mir.Syntax.{w64}
use Rattle.model.specs.State.{State}
use Rattle.grid.specs.declared.Stencil.{Stencil}
use Rattle.integers.specs.Ring.{Expr, var, ◌⊕◌}
use Rattle.integers.specs.Bounds.{Abs, Sizes, ∎, ◌◂◌, abs-as, fits, exact}
use Rattle.integers.specs.Magnitudes.{gravity-size}
use Rattle.scheme.specs.Ready.{Flow, reads}
use Rattle.scheme.specs.Shares.{squares_at, geopotential_at}
use Rattle.scheme.specs.SchemeSizes.{squares-size, geopotential-size}
use Rattle.scheme.proofs.bernoulli_at.Goals as goal
use Rattle.scheme.proofs.bernoulli_at.Goals.{After-geopotential}

abbrev sum : Expr
sum = var 0 ⊕ var 1 ⊕ var 2

third : (c : After-geopotential) → let s = c.args.s.now in c.geopotential.result ≡ geopotential_at s.p.g s.h.now s.b.now c.args.a.here
third c =
    let s = c.args.s.now in
    c.geopotential.ensures ∙ ap (λ (g : ℤ). geopotential_at g s.h.now s.b.now c.args.a.here) (exact w64 (var 0) (gravity-size c.requires.0 ◂ ∎) tt)

-- the squares are small
u-size : {m : ℕ} {s : State} {a : Stencil} {z : ℤ} → Flow m s a → z ≡ squares_at s.u a.here a.east → Abs z 50000000
u-size f e = let a = f.around in abs-as e (squares-size (reads f.us a.here) (reads f.us a.east))

v-size : {m : ℕ} {s : State} {a : Stencil} {z : ℤ} → Flow m s a → z ≡ squares_at s.v a.here a.north → Abs z 50000000
v-size f e = let a = f.around in abs-as e (squares-size (reads f.vs a.here) (reads f.vs a.north))

sizes : (c : After-geopotential) → Sizes (c.squares.result ∷ c.squares-2.result ∷ c.geopotential.result ∷ []) (50000000 ∷ 50000000 ∷ 8000000000 ∷ [])
sizes c =
    let f = c.requires.1 in
    let here = f.around.here in
    u-size f c.squares.ensures ◂ v-size f c.squares-2.ensures ◂ abs-as (third c) (geopotential-size c.requires.0 (reads f.depths here) (reads c.requires.2 here)) ◂ ∎

pub overflow_add-result : goal.overflow_add-result
overflow_add-result c = let f = c.requires.1 in fits (var 0 ⊕ var 1) (u-size f c.squares.ensures ◂ v-size f c.squares-2.ensures ◂ ∎) tt

pub overflow_add-result-2 : goal.overflow_add-result-2
overflow_add-result-2 c = fits sum (sizes c) tt

pub returns : goal.returns
returns c = exact w64 sum (sizes c) tt ∙ rw (c.squares.ensures, c.squares-2.ensures, third c)
