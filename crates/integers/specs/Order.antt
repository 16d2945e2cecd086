-- The order of ℤ: its laws, and inequalities between polynomials by a certificate. A ≤ B follows where B - A is, by the laws of a
-- ring, a sum of products of numbers that are not negative: what the hypotheses say, squares and numerals. Assumes nothing.
use Rattle.std.specs.Prelude.{◌≡◌, refl, Bool, true, false, cond, List, [], ◌∷◌, ℕ, zero, suc, ◌+◌, ◌-◌, ◌*◌, ◌≤◌, ◌<◌, T, ltb, get_or, ◌≤ℤ◌, ℤ, pos, negsuc, ◌+ℤ◌, ◌-ℤ◌, ◌*ℤ◌}
use Rattle.std.proofs.Common.{sym, ◌∙◌, ap, ap₂, subst, arith, leb→le, le→leb, ltb→lt}
use Rattle.std.specs.Int.Signed.{le_z}
use Rattle.std.proofs.Math.IntN.{sub_ℕ}
use Rattle.integers.specs.Ring.{Expr, var, con, ◌⊕◌, ◌⊖◌, ◌⊗◌, ◌⊜◌, den, vanishes, bind, ring-law, Identity, ring}

-- ---- a number that is not negative

pub record Nat (z : ℤ) : Type 0 where
  pub nat : ℕ
  pub is : z ≡ pos nat

nat-of : (n : ℕ) → Nat (pos n)
nat-of n = record { nat = n; is = refl }

nat-add : {x y : ℤ} → Nat x → Nat y → Nat (x +ℤ y)
nat-add p q = record { nat = p.nat + q.nat; is = ap₂ ◌+ℤ◌ p.is q.is }

nat-mul : {x y : ℤ} → Nat x → Nat y → Nat (x *ℤ y)
nat-mul p q = record { nat = p.nat * q.nat; is = ap₂ ◌*ℤ◌ p.is q.is }

nat-square : (x : ℤ) → Nat (x *ℤ x)
nat-square (pos a) = record { nat = a * a; is = refl }
nat-square (negsuc a) = record { nat = suc a * suc a; is = refl }

-- ---- the order is that the difference is not negative

sub-nat : (a b : ℕ) → b ≤ a → sub_ℕ a b ≡ pos (a - b)
sub-nat a b h = go (ltb a b) (ltb→lt a b)
  where
    go : (c : Bool) → (T c → a < b) → cond c (negsuc (b - suc a)) (pos (a - b)) ≡ pos (a - b)
    go true f = let l : a < b = f tt in absurd (omega arith)
    go false f = refl

diff : (x y : ℤ) → T (le_z x y) → Nat (y -ℤ x)
diff (pos zero) (pos b) t = record { nat = b + 0; is = refl }
diff (pos (suc a)) (pos b) t = record { nat = b - suc a; is = sub-nat b (suc a) (leb→le (suc a) b t) }
diff (pos a) (negsuc b) t = absurd t
diff (negsuc a) (pos b) t = record { nat = b + suc a; is = refl }
diff (negsuc a) (negsuc b) t = record { nat = suc a - suc b; is = sub-nat (suc a) (suc b) (suc-le a b (leb→le b a t)) }
  where
    suc-le : (a b : ℕ) → b ≤ a → suc b ≤ suc a
    suc-le a b h = omega arith

nat-diff : {x y : ℤ} → x ≤ℤ y → Nat (y -ℤ x)
nat-diff {x} {y} h = diff x y h.le

up : (x : ℤ) (n : ℕ) → T (le_z x (x +ℤ pos n))
up (pos a) n = le→leb a (a + n) (omega arith)
up (negsuc a) n = go (ltb n (suc a)) (ltb→lt n (suc a))
  where
    go : (c : Bool) → (T c → n < suc a) → T (le_z (negsuc a) (cond c (negsuc (suc a - suc n)) (pos (n - suc a))))
    go true f = le→leb (suc a - suc n) a (omega arith)
    go false f = tt

back : Identity 2 (λ x y. x ⊕ (y ⊖ x) ⊜ y)
back = ring tt

pub ≤-of-nat : (x y : ℤ) → Nat (y -ℤ x) → x ≤ℤ y
≤-of-nat x y d = record { le = subst (λ z. T (le_z x z)) (sym (ap (λ z. x +ℤ z) d.is) ∙ back.at x y) (up x d.nat) }

-- ---- a certificate

infix 40 ◌≼◌
pub data Fact : Type 0 where
  ◌≼◌ : Expr → Expr → Fact

abbrev pub gap : Fact → Expr
gap (a ≼ b) = b ⊖ a

abbrev pub Holds : (ℕ → ℤ) → Fact → Type 0
Holds ρ (a ≼ b) = den ρ a ≤ℤ den ρ b

infixl 60 ◌⊹◌
infixl 70 ◌⋆◌
pub data Cert : Type 0 where
  hyp : ℕ → Cert
  num : ℕ → Cert
  square : Expr → Cert
  ◌⊹◌ : Cert → Cert → Cert
  ◌⋆◌ : Cert → Cert → Cert

abbrev pub reads : List Fact → Cert → Expr
reads fs (hyp k) = gap (get_or fs k (con (pos 0) ≼ con (pos 0)))
reads fs (num n) = con (pos n)
reads fs (square e) = e ⊗ e
reads fs (c ⊹ d) = reads fs c ⊕ reads fs d
reads fs (c ⋆ d) = reads fs c ⊗ reads fs d

abbrev pub All : (ℕ → ℤ) → List Fact → Type 0
All ρ [] = Unit {0}
All ρ (f ∷ fs) = Holds ρ f × All ρ fs

gap-nat : (ρ : ℕ → ℤ) (f : Fact) → Holds ρ f → Nat (den ρ (gap f))
gap-nat ρ (a ≼ b) h = nat-diff h

hyp-nat : (ρ : ℕ → ℤ) (fs : List Fact) → All ρ fs → (k : ℕ) → Nat (den ρ (gap (get_or fs k (con (pos 0) ≼ con (pos 0)))))
hyp-nat ρ [] h k = nat-of 0
hyp-nat ρ (f ∷ fs) h zero = gap-nat ρ f h.0
hyp-nat ρ (f ∷ fs) h (suc k) = hyp-nat ρ fs h.1 k

reads-nat : (ρ : ℕ → ℤ) (fs : List Fact) → All ρ fs → (c : Cert) → Nat (den ρ (reads fs c))
reads-nat ρ fs h (hyp k) = hyp-nat ρ fs h k
reads-nat ρ fs h (num n) = nat-of n
reads-nat ρ fs h (square e) = nat-square (den ρ e)
reads-nat ρ fs h (c ⊹ d) = nat-add (reads-nat ρ fs h c) (reads-nat ρ fs h d)
reads-nat ρ fs h (c ⋆ d) = nat-mul (reads-nat ρ fs h c) (reads-nat ρ fs h d)

-- ---- an inequality stated once, as a function of the expressions for its variables

pub record Entailment : Type 0 where
  pub given : List Fact
  pub shows : Fact
  pub why : Cert

abbrev pub Entailments : ℕ → Type 0
Entailments zero = Entailment
Entailments (suc n) = Expr → Entailments n

abbrev pub Shows : (n : ℕ) → ℕ → (ℕ → ℤ) → Entailments n → Type 0
Shows zero k ρ q = All ρ q.given → Holds ρ q.shows
Shows (suc n) k ρ f = (x : ℤ) → Shows n (suc k) (bind ρ k x) (f (var k))

abbrev pub checks : (n : ℕ) → ℕ → Entailments n → Bool
checks zero k q = vanishes (gap q.shows ⊖ reads q.given q.why)
checks (suc n) k f = checks n (suc k) (f (var k))

holds : (ρ : ℕ → ℤ) (f : Fact) → Nat (den ρ (gap f)) → Holds ρ f
holds ρ (a ≼ b) d = ≤-of-nat (den ρ a) (den ρ b) d

showing : (n k : ℕ) (ρ : ℕ → ℤ) (f : Entailments n) → T (checks n k f) → Shows n k ρ f
showing zero k ρ q t = λ h. holds ρ q.shows (subst Nat (sym (ring-law (gap q.shows) (reads q.given q.why) t ρ)) (reads-nat ρ q.given h q.why))
showing (suc n) k ρ f t = λ x. showing n (suc k) (bind ρ k x) (f (var k)) t

-- `law : Inequality 2 (λ x y. record { given = (x ≼ y) ∷ []; shows = ..; why = hyp 0 })`, `law = order tt`; then `law.at a b (h, tt)`
pub record Inequality (n : ℕ) (f : Entailments n) : Type 0 where
  pub at : Shows n zero (λ i. pos 0) f

pub order : {n : ℕ} {f : Entailments n} → T (checks n zero f) → Inequality n f
order {n} {f} t = record { at = showing n zero (λ i. pos 0) f t }

-- ---- the laws of the order

trans' : Inequality 3 (λ x y z. record { given = (x ≼ y) ∷ (y ≼ z) ∷ []; shows = x ≼ z; why = hyp 0 ⊹ hyp 1 })
trans' = order tt

pub ≤_trans : {x y z : ℤ} → x ≤ℤ y → y ≤ℤ z → x ≤ℤ z
≤_trans {x} {y} {z} p q = trans'.at x y z (p, (q, tt))

add' : Inequality 4 (λ x y z t. record { given = (x ≼ y) ∷ (z ≼ t) ∷ []; shows = x ⊕ z ≼ y ⊕ t; why = hyp 0 ⊹ hyp 1 })
add' = order tt

pub ≤-add : {x y z t : ℤ} → x ≤ℤ y → z ≤ℤ t → (x +ℤ z) ≤ℤ (y +ℤ t)
≤-add {x} {y} {z} {t} p q = add'.at x y z t (p, (q, tt))

mul⁺ : Inequality 3 (λ k x y. record { given = (con (pos 0) ≼ k) ∷ (x ≼ y) ∷ []; shows = k ⊗ x ≼ k ⊗ y; why = hyp 0 ⋆ hyp 1 })
mul⁺ = order tt

pub ≤-mul : {k x y : ℤ} → pos 0 ≤ℤ k → x ≤ℤ y → (k *ℤ x) ≤ℤ (k *ℤ y)
≤-mul {k} {x} {y} p q = mul⁺.at k x y (p, (q, tt))
