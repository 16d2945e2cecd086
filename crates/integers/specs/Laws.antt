-- The laws of ℤ that the kit lacks: those of a commutative ring (distributivity, associativity of the product, the product of a
-- negation), and the sizes of sums. Assumes nothing.
use Rattle.std.specs.Prelude.{◌≡◌, refl, Bool, true, false, cond, ℕ, zero, suc, ◌+◌, ◌-◌, ◌≤◌, ltb}
use Rattle.std.proofs.Common.{sym, ◌∙◌, ap, le_refl, arith, ltb-true, ltb-false}
use lib.IntN.{ℤ, pos, negsuc, suc_ℤ, pred_ℤ, neg_ℤ, ◌+ℤ◌, ◌-ℤ◌, ◌*ℤ◌, nat_abs, neg_ℤ-+ℤ, one, +ℤ_assoc, +ℤ_comm, +ℤ_idl, +ℤ_invl, suc_ℤ-+ℤ, pred_ℤ-+ℤ, suc_ℤ-*ℤ, pred_ℤ-*ℤ, zero-*ℤ, *ℤ_comm, *ℤ-one, +ℤ-neg_ℤ_cancel}

pub +-swap : (a b c : ℤ) → (a +ℤ b) +ℤ c ≡ (a +ℤ c) +ℤ b
+-swap a b c = +ℤ_assoc a b c ∙ ap (λ x. a +ℤ x) (+ℤ_comm b c) ∙ sym (+ℤ_assoc a c b)

pub +-lswap : (a b c : ℤ) → a +ℤ (b +ℤ c) ≡ b +ℤ (a +ℤ c)
+-lswap a b c = sym (+ℤ_assoc a b c) ∙ ap (λ x. x +ℤ c) (+ℤ_comm a b) ∙ +ℤ_assoc b a c

pub +-inner : (a b c d : ℤ) → (a +ℤ b) +ℤ (c +ℤ d) ≡ (a +ℤ c) +ℤ (b +ℤ d)
+-inner a b c d = sym (+ℤ_assoc (a +ℤ b) c d) ∙ ap (λ x. x +ℤ d) (+-swap a b c) ∙ +ℤ_assoc (a +ℤ c) b d

-- induction by successor and predecessor
ind : (P : ℤ → Type 0) → P (pos zero) → ((a : ℤ) → P a → P (suc_ℤ a)) → ((a : ℤ) → P a → P (pred_ℤ a)) → (k : ℤ) → P k
ind P z s p (pos zero) = z
ind P z s p (pos (suc n)) = s (pos n) (ind P z s p (pos n))
ind P z s p (negsuc zero) = p (pos zero) z
ind P z s p (negsuc (suc n)) = p (negsuc n) (ind P z s p (negsuc n))

pub distr : (a b c : ℤ) → (a +ℤ b) *ℤ c ≡ a *ℤ c +ℤ b *ℤ c
distr a b c = ind (λ a. (a +ℤ b) *ℤ c ≡ a *ℤ c +ℤ b *ℤ c)
    (ap (λ x. x *ℤ c) (+ℤ_idl b) ∙ sym (ap (λ x. x +ℤ b *ℤ c) (zero-*ℤ c) ∙ +ℤ_idl (b *ℤ c)))
    (λ a h. ap (λ x. x *ℤ c) (suc_ℤ-+ℤ a b) ∙ suc_ℤ-*ℤ (a +ℤ b) c ∙ ap (λ x. x +ℤ c) h ∙ +-swap (a *ℤ c) (b *ℤ c) c ∙ ap (λ x. x +ℤ b *ℤ c) (sym (suc_ℤ-*ℤ a c)))
    (λ a h. ap (λ x. x *ℤ c) (pred_ℤ-+ℤ a b) ∙ pred_ℤ-*ℤ (a +ℤ b) c ∙ ap (λ x. x -ℤ c) h ∙ +-swap (a *ℤ c) (b *ℤ c) (neg_ℤ c) ∙ ap (λ x. x +ℤ b *ℤ c) (sym (pred_ℤ-*ℤ a c)))
    a

pub distl : (a b c : ℤ) → a *ℤ (b +ℤ c) ≡ a *ℤ b +ℤ a *ℤ c
distl a b c = *ℤ_comm a (b +ℤ c) ∙ distr b c a ∙ ap (λ x. x +ℤ c *ℤ a) (*ℤ_comm b a) ∙ ap (λ x. a *ℤ b +ℤ x) (*ℤ_comm c a)

pub neg_unique : (x y : ℤ) → x +ℤ y ≡ pos zero → x ≡ neg_ℤ y
neg_unique x y h = sym (+ℤ-neg_ℤ_cancel x y) ∙ ap (λ z. z -ℤ y) h ∙ +ℤ_idl (neg_ℤ y)

-- a difference that is zero
pub eq-of-sub : (x y : ℤ) → x -ℤ y ≡ pos zero → x ≡ y
eq-of-sub x y h = neg_unique x (neg_ℤ y) h ∙ lib.IntN.neg_ℤ-neg_ℤ y

pub neg-mul : (a c : ℤ) → neg_ℤ a *ℤ c ≡ neg_ℤ (a *ℤ c)
neg-mul a c = neg_unique (neg_ℤ a *ℤ c) (a *ℤ c) (sym (distr (neg_ℤ a) a c) ∙ ap (λ x. x *ℤ c) (+ℤ_invl a) ∙ zero-*ℤ c)

pub *-assoc : (a b c : ℤ) → (a *ℤ b) *ℤ c ≡ a *ℤ (b *ℤ c)
*-assoc a b c = ind (λ a. (a *ℤ b) *ℤ c ≡ a *ℤ (b *ℤ c))
    (ap (λ x. x *ℤ c) (zero-*ℤ b) ∙ zero-*ℤ c ∙ sym (zero-*ℤ (b *ℤ c)))
    (λ a h. ap (λ x. x *ℤ c) (suc_ℤ-*ℤ a b) ∙ distr (a *ℤ b) b c ∙ ap (λ x. x +ℤ b *ℤ c) h ∙ sym (suc_ℤ-*ℤ a (b *ℤ c)))
    (λ a h. ap (λ x. x *ℤ c) (pred_ℤ-*ℤ a b) ∙ distr (a *ℤ b) (neg_ℤ b) c ∙ ap (λ x. x +ℤ neg_ℤ b *ℤ c) h ∙ ap (λ x. a *ℤ (b *ℤ c) +ℤ x) (neg-mul b c) ∙ sym (pred_ℤ-*ℤ a (b *ℤ c)))
    a

pub one-* : (a : ℤ) → pos 1 *ℤ a ≡ a
unfolding one
one-* a = *ℤ_comm (pos 1) a ∙ *ℤ-one a

pub *-swap : (a b c : ℤ) → a *ℤ (b *ℤ c) ≡ b *ℤ (a *ℤ c)
*-swap a b c = sym (*-assoc a b c) ∙ ap (λ x. x *ℤ c) (*ℤ_comm a b) ∙ *-assoc b a c

pub *-inner : (a b c d : ℤ) → (a *ℤ b) *ℤ (c *ℤ d) ≡ (a *ℤ c) *ℤ (b *ℤ d)
*-inner a b c d = *-assoc a b (c *ℤ d) ∙ ap (λ x. a *ℤ x) (*-swap b c d) ∙ sym (*-assoc a c (b *ℤ d))

-- ---- sizes

pub abs_neg : (z : ℤ) → nat_abs (neg_ℤ z) ≡ nat_abs z
abs_neg (pos zero) = refl
abs_neg (pos (suc n)) = refl
abs_neg (negsuc n) = refl

either : (t : Bool) {x y b : ℕ} → suc x ≤ b → y ≤ b → nat_abs (cond t (negsuc x) (pos y)) ≤ b
either true p q = p
either false p q = q

pub abs-add : (x y : ℤ) → nat_abs (x +ℤ y) ≤ nat_abs x + nat_abs y
abs-add (pos a) (pos b) = le_refl (a + b)
abs-add (pos a) (negsuc b) = either (ltb a (suc b)) (omega arith) (omega arith)
abs-add (negsuc a) (pos b) = either (ltb b (suc a)) (omega arith) (omega arith)
abs-add (negsuc a) (negsuc b) = omega arith

-- the distance of two numbers that are not negative
apart : (x y : ℕ) (t : Bool) → ltb x (suc y) ≡ t → nat_abs (cond t (negsuc (suc y - suc x)) (pos (x - suc y))) ≡ (x - suc y) + (suc y - x)
apart x y true e = omega (arith, ltb-true x (suc y) e)
apart x y false e = omega (arith, ltb-false x (suc y) e)

pub abs-sub : (x y : ℕ) → nat_abs (pos x -ℤ pos y) ≡ (x - y) + (y - x)
abs-sub x zero = omega arith
abs-sub x (suc y) = apart x y (ltb x (suc y)) refl

-- a negation drawn out of a product and a difference
pub mul-neg : (a c : ℤ) → a *ℤ neg_ℤ c ≡ neg_ℤ (a *ℤ c)
mul-neg a c = *ℤ_comm a (neg_ℤ c) ∙ neg-mul c a ∙ ap neg_ℤ (*ℤ_comm c a)

pub neg-sub : (x y : ℤ) → neg_ℤ x -ℤ neg_ℤ y ≡ neg_ℤ (x -ℤ y)
neg-sub x y = sym (neg_ℤ-+ℤ x (neg_ℤ y))
