-- The order of timestamps: by second, then millisecond. Assumes nothing.
use Rattle.std.specs.Prelude.{◌≡◌, ◌↔◌, false, ◌&&◌, ℕ, ◌<◌, T, eqb, ltb}
use Rattle.std.proofs.Common.{sym, inl, inr, arith}
use Rattle.model.specs.Record.{newer}
use Rattle.model.specs.Claims.{Later}
use Rattle.model.specs.declared.Timestamp.{Timestamp}
use Rattle.theorems.specs.Truth.{◌⟫◌, and-iff, or-iff, lt_iff, eq_iff, both, either, not_T}

pub newer-iff : (a b : Timestamp) → T (newer a b) ↔ Later a b
unfolding newer
newer-iff a b =
    let seconds = lt_iff b.seconds a.seconds in
    let level = eq_iff b.seconds a.seconds in
    let milliseconds = lt_iff b.milliseconds a.milliseconds in
    or-iff (ltb b.seconds a.seconds) (eqb b.seconds a.seconds && ltb b.milliseconds a.milliseconds)
    ⟫ either seconds (and-iff (eqb b.seconds a.seconds) (ltb b.milliseconds a.milliseconds) ⟫ both level milliseconds)

-- of two timestamps at most one is later, and where none is they are one
pub not-both : (a b : Timestamp) → Later a b → Later b a → ⊥
not-both a b (inl x) (inl y) = omega arith
not-both a b (inl x) (inr y) = let e = y.0 in omega arith
not-both a b (inr x) (inl y) = let e = x.0 in omega arith
not-both a b (inr x) (inr y) = let l = x.1 in let m = y.1 in omega arith

pub not_itself : (a : Timestamp) → Later a a → ⊥
not_itself a l = not-both a a l l

pub neither : (a b : Timestamp) → (Later a b → ⊥) → (Later b a → ⊥) → a ≡ b
neither a b x y =
    let e = level a.seconds b.seconds (λ l. x (inl l)) (λ l. y (inl l)) in
    let m = level a.milliseconds b.milliseconds (λ l. x (inr (sym e, l))) (λ l. y (inr (e, l))) in
    λ i. record { seconds = e i; milliseconds = m i }
  where
    level : (a b : ℕ) → (b < a → ⊥) → (a < b → ⊥) → a ≡ b
    level a b x y = omega arith

-- the same, of the test that computes
pub never : (a b : Timestamp) → T (newer a b) → T (newer b a) → ⊥
never a b p q = not-both a b ((newer-iff a b).0 p) ((newer-iff b a).0 q)

pub not-newer : (a : Timestamp) → newer a a ≡ false
not-newer a = not_T (newer a a) (λ t. not_itself a ((newer-iff a a).0 t))
