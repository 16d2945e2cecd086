-- What code asks of signed numbers: that the result of each operation fits the width. The size of an expression is computed from
-- the sizes of its variables; where each part is small enough, the machine's arithmetic, which keeps a value as its bits and reads
-- it back, is that of ℤ. So a function's needs are `fits e sizes tt`, and its result is `exact e sizes tt`. Assumes nothing.
use Rattle.std.specs.Prelude.{◌≡◌, refl, Bool, List, [], ◌∷◌, ℕ, zero, suc, ◌+◌, ◌-◌, ◌*◌, ◌^◌, ◌<◌, ◌≤◌, max, T, leb, ltb, eqb, get_or, ◌≤ℤ◌, ℤ, pos, negsuc, neg_ℤ, nat_abs, ◌+ℤ◌, ◌-ℤ◌, ◌*ℤ◌}
use Rattle.std.proofs.Common.{sym, ◌∙◌, ap, ap₂, subst, zero-le, le_refl, le_trans, le_of_eq, lt_of_le_of_lt, mul-le-mul, add-le-add, arith, leb→le, le→leb, ltb→lt, ne_eqb, to_z-of_z}
use Rattle.std.proofs.Math.Nat.{le-suc}
use Rattle.std.specs.Int.Signed.{mag, non_neg}
use Rattle.std.specs.Int.{Width, w64}
use mir.Val.{Fits, SFits, hbits, to_z, of_z}
use Rattle.model.specs.Numbers.{Limits, ◌to◌, Within, eqℤ}
use Rattle.std.proofs.lemmas.Int.{unsigned_abs-mul}
use Rattle.integers.specs.Laws.{abs_neg, abs-add}
use Rattle.integers.specs.Ring.{Expr, var, con, ◌⊕◌, ◌⊖◌, ◌⊗◌, den, ◌and◌, and_l, and_r}

-- ---- the machine

-- a number that went through its bits
abbrev pub held : Width → ℤ → ℤ
held w z = to_z w (of_z w z)

-- what the machine makes of an expression, and the result of its last operation before that is kept
abbrev pub mach : Width → (ℕ → ℤ) → Expr → ℤ
mach w ρ (var n) = held w (ρ n)
mach w ρ (con z) = z
mach w ρ (a ⊕ b) = held w (mach w ρ a +ℤ mach w ρ b)
mach w ρ (a ⊖ b) = held w (mach w ρ a -ℤ mach w ρ b)
mach w ρ (a ⊗ b) = held w (mach w ρ a *ℤ mach w ρ b)

abbrev pub raw : Width → (ℕ → ℤ) → Expr → ℤ
raw w ρ (var n) = ρ n
raw w ρ (con z) = z
raw w ρ (a ⊕ b) = mach w ρ a +ℤ mach w ρ b
raw w ρ (a ⊖ b) = mach w ρ a -ℤ mach w ρ b
raw w ρ (a ⊗ b) = mach w ρ a *ℤ mach w ρ b

-- ---- what an expression is at most

abbrev pub bound : (ℕ → ℕ) → Expr → ℕ
bound A (var n) = A n
bound A (con z) = nat_abs z
bound A (a ⊕ b) = bound A a + bound A b
bound A (a ⊖ b) = bound A a + bound A b
bound A (a ⊗ b) = bound A a * bound A b

-- each part is below the width's half
abbrev pub small : Width → (ℕ → ℕ) → Expr → Bool
small w A e = ltb (bound A e) (2 ^ hbits w)

abbrev pub below : Width → (ℕ → ℕ) → Expr → Bool
below w A (var n) = small w A (var n)
below w A (con z) = small w A (con z)
below w A (a ⊕ b) = small w A (a ⊕ b) and below w A a and below w A b
below w A (a ⊖ b) = small w A (a ⊖ b) and below w A a and below w A b
below w A (a ⊗ b) = small w A (a ⊗ b) and below w A a and below w A b

pub split : (a b c : Bool) → T (a and b and c) → T a × T b × T c
split a b c t = (and_l a (b and c) t, and_l b c (and_r a (b and c) t), and_r b c (and_r a (b and c) t))

mag-le : (x : ℤ) → mag x ≤ nat_abs x
mag-le (pos a) = le_refl a
mag-le (negsuc a) = le-suc a

module _ (ρ : ℕ → ℤ) (A : ℕ → ℕ) (h : (n : ℕ) → nat_abs (ρ n) ≤ A n) where
  bounded : (e : Expr) → nat_abs (den ρ e) ≤ bound A e
  bounded (var n) = h n
  bounded (con z) = le_refl (nat_abs z)
  bounded (a ⊕ b) = le_trans (abs-add (den ρ a) (den ρ b)) (add-le-add (bounded a) (bounded b))
  bounded (a ⊖ b) = le_trans (abs-add (den ρ a) (neg_ℤ (den ρ b))) (add-le-add (bounded a) (le_trans (le_of_eq (abs_neg (den ρ b))) (bounded b)))
  bounded (a ⊗ b) = le_trans (le_of_eq (unsigned_abs-mul (den ρ a) (den ρ b))) (mul-le-mul (bounded a) (bounded b))

  module _ (w : Width) where
    ok : (e : Expr) → T (small w A e) → SFits w (den ρ e)
    ok e t = record { sfits = lt_of_le_of_lt (le_trans (mag-le (den ρ e)) (bounded e)) (ltb→lt (bound A e) (2 ^ hbits w) t) }

    top : (e : Expr) → T (below w A e) → T (small w A e)
    top (var n) t = t
    top (con z) t = t
    top (a ⊕ b) t = (split (small w A (a ⊕ b)) (below w A a) (below w A b) t).0
    top (a ⊖ b) t = (split (small w A (a ⊖ b)) (below w A a) (below w A b) t).0
    top (a ⊗ b) t = (split (small w A (a ⊗ b)) (below w A a) (below w A b) t).0

    -- an operation whose operands are their values, and whose result fits
    kept : (f : ℤ → ℤ → ℤ) {x y x' y' : ℤ} → SFits w (f x' y') → x ≡ x' → y ≡ y' → held w (f x y) ≡ f x' y'
    kept f o p q = ap (held w) (ap₂ f p q) ∙ to_z-of_z o

    -- what the machine makes of an expression is its value, also before the last result is kept
    mach-is : (e : Expr) → T (below w A e) → mach w ρ e ≡ den ρ e
    mach-is (var n) t = to_z-of_z (ok (var n) t)
    mach-is (con z) t = refl
    mach-is (a ⊕ b) t = let s = split (small w A (a ⊕ b)) (below w A a) (below w A b) t in kept ◌+ℤ◌ (ok (a ⊕ b) s.0) (mach-is a s.1) (mach-is b s.2)
    mach-is (a ⊖ b) t = let s = split (small w A (a ⊖ b)) (below w A a) (below w A b) t in kept ◌-ℤ◌ (ok (a ⊖ b) s.0) (mach-is a s.1) (mach-is b s.2)
    mach-is (a ⊗ b) t = let s = split (small w A (a ⊗ b)) (below w A a) (below w A b) t in kept ◌*ℤ◌ (ok (a ⊗ b) s.0) (mach-is a s.1) (mach-is b s.2)

    raw-is : (e : Expr) → T (below w A e) → raw w ρ e ≡ den ρ e
    raw-is (var n) t = refl
    raw-is (con z) t = refl
    raw-is (a ⊕ b) t = let s = split (small w A (a ⊕ b)) (below w A a) (below w A b) t in ap₂ ◌+ℤ◌ (mach-is a s.1) (mach-is b s.2)
    raw-is (a ⊖ b) t = let s = split (small w A (a ⊖ b)) (below w A a) (below w A b) t in ap₂ ◌-ℤ◌ (mach-is a s.1) (mach-is b s.2)
    raw-is (a ⊗ b) t = let s = split (small w A (a ⊗ b)) (below w A a) (below w A b) t in ap₂ ◌*ℤ◌ (mach-is a s.1) (mach-is b s.2)

-- ---- the laws, over a list of values and a list of their sizes

-- z is between -a and a
pub record Abs (z : ℤ) (a : ℕ) : Type 0 where
  pub abs : nat_abs z ≤ a

infixr 40 ◌◂◌
pub data Sizes : List ℤ → List ℕ → Type 0 where
  ∎ : Sizes [] []
  ◌◂◌ : {z : ℤ} {a : ℕ} {zs : List ℤ} {bs : List ℕ} → Abs z a → Sizes zs bs → Sizes (z ∷ zs) (a ∷ bs)

-- the value of variable n, and its size
abbrev pub valued : List ℤ → ℕ → ℤ
valued zs n = get_or zs n (pos 0)

abbrev pub sized : List ℕ → ℕ → ℕ
sized bs n = get_or bs n 0

pub each : {zs : List ℤ} {bs : List ℕ} → Sizes zs bs → (n : ℕ) → nat_abs (valued zs n) ≤ sized bs n
each ∎ n = zero-le
each (p ◂ ps) zero = p.abs
each (p ◂ ps) (suc n) = each ps n

-- the result of the expression's last operation fits
pub fits : (e : Expr) {zs : List ℤ} {bs : List ℕ} {w : Width} → Sizes zs bs → T (below w (sized bs) e) → SFits w (raw w (valued zs) e)
fits e {zs} {bs} {w} h t = subst (SFits w) (sym (raw-is (valued zs) (sized bs) (each h) w e t)) (ok (valued zs) (sized bs) (each h) w e (top (valued zs) (sized bs) (each h) w e t))

-- what the machine makes of the expression is its value
pub exact : (w : Width) (e : Expr) {zs : List ℤ} {bs : List ℕ} → Sizes zs bs → T (below w (sized bs) e) → mach w (valued zs) e ≡ den (valued zs) e
exact w e {zs} {bs} h t = mach-is (valued zs) (sized bs) (each h) w e t

-- and its size
pub size : (e : Expr) {zs : List ℤ} {bs : List ℕ} {b : ℕ} → Sizes zs bs → T (leb (bound (sized bs) e) b) → Abs (den (valued zs) e) b
size e {zs} {bs} {b} h t = record { abs = le_trans (bounded (valued zs) (sized bs) (each h) e) (leb→le (bound (sized bs) e) b t) }

-- ---- where sizes come from

-- a number within limits is at most the larger end from 0
abs-between : (lo hi z : ℤ) → lo ≤ℤ z → z ≤ℤ hi → nat_abs z ≤ max (nat_abs lo) (nat_abs hi)
abs-between lo (pos b) (pos n) p q = omega (arith, leb→le n b q.le)
abs-between lo (negsuc b) (pos n) p q = absurd q.le
abs-between (pos a) hi (negsuc n) p q = absurd p.le
abs-between (negsuc a) hi (negsuc n) p q = omega (arith, leb→le n a p.le)

pub abs-within : {l : Limits} {z : ℤ} {b : ℕ} → Within l z → T (leb (max (nat_abs l.least) (nat_abs l.most)) b) → Abs z b
abs-within {l} {z} {b} p t = record { abs = le_trans (abs-between l.least l.most z p.low p.high) (leb→le (max (nat_abs l.least) (nat_abs l.most)) b t) }

-- and the other way round, where they are the same from 0
pub within-abs : (k : ℕ) (x : ℤ) → nat_abs x ≤ suc k → Within (neg_ℤ (pos (suc k)) to pos (suc k)) x
within-abs k (pos n) h = record { low = record { le = tt }; high = record { le = le→leb n (suc k) h } }
within-abs k (negsuc n) h = record { low = record { le = le→leb n k (omega arith) }; high = record { le = tt } }

-- a number that is another has its size
pub abs-as : {x y : ℤ} {b : ℕ} → x ≡ y → Abs y b → Abs x b
abs-as {b = b} e h = subst (λ (z : ℤ). Abs z b) (sym e) h

-- what a slice or a callee handed over, as the machine reads it
pub held-is : (w : Width) {y z : ℤ} → mag y < 2 ^ hbits w → y ≡ z → held w y ≡ z
held-is w p e = to_z-of_z (record { sfits = p }) ∙ e

-- a number that is not negative becomes an unsigned one
pub unsigned : {z : ℤ} (n : ℕ) → z ≡ pos n → n < 2 ^ 64 → T (non_neg z) × Fits w64 (nat_abs z)
unsigned n e l = subst (λ (z : ℤ). T (non_neg z) × Fits w64 (nat_abs z)) (sym e) (tt, record { fits = l })

-- ---- a test for zero, which code makes on the bits

pub zero_bits : (z : ℤ) → SFits w64 z → eqb (of_z w64 z) 0 ≡ eqℤ z (pos 0)
zero_bits (pos n) h = refl
zero_bits (negsuc n) h = ne_eqb (2 ^ 64 - suc n) 0 (λ e. omega (arith, h.sfits))
