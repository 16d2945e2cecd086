-- Polynomial identities over ℤ by computation. An expression is read as its terms (`terms`), these are gathered in a search tree by
-- their monomials (`gather`), and the identity holds where each coefficient is zero. Assumes nothing.
use Rattle.std.specs.Prelude.{◌≡◌, refl, Bool, true, false, List, [], ◌∷◌, T, leb, ℤ, pos, negsuc, neg_ℤ, ◌+ℤ◌, ◌-ℤ◌, ◌*ℤ◌}
use Rattle.std.proofs.Common.{sym, ◌∙◌, ap, ap₂, eqb→eq}
use Prim.Native.Nat.{ℕ, zero, suc, compare, Ordering}
use Rattle.std.proofs.Math.Dec.{compare_is_eq}
use Rattle.std.proofs.Math.IntN.{+ℤ_assoc, +ℤ_idl, +ℤ_idr, zero-*ℤ, *ℤ_comm, neg_ℤ-+ℤ}
use Rattle.integers.specs.Laws.{+-lswap, distr, distl, neg-mul, eq-of-sub, *-assoc, one-*, *-swap, *-inner}

infixl 60 ◌⊕◌ ◌⊖◌
infixl 70 ◌⊗◌
pub data Expr : Type 0 where
  var : ℕ → Expr
  con : ℤ → Expr
  ◌⊕◌ : Expr → Expr → Expr
  ◌⊖◌ : Expr → Expr → Expr
  ◌⊗◌ : Expr → Expr → Expr

abbrev pub den : (ℕ → ℤ) → Expr → ℤ
den ρ (var n) = ρ n
den ρ (con z) = z
den ρ (a ⊕ b) = den ρ a +ℤ den ρ b
den ρ (a ⊖ b) = den ρ a -ℤ den ρ b
den ρ (a ⊗ b) = den ρ a *ℤ den ρ b

infixr 30 ◌and◌
abbrev pub ◌and◌ : Bool → Bool → Bool
true and b = b
false and b = false

-- ---- monomials: sorted lists of variables

abbrev pub Mono : Type 0
Mono = List ℕ

abbrev pub mput : ℕ → Mono → Mono
mput x [] = x ∷ []
mput x (y ∷ m) = elim (leb x y) [ true ↦ x ∷ y ∷ m | false ↦ y ∷ mput x m ]

abbrev pub mmul : Mono → Mono → Mono
mmul [] n = n
mmul (x ∷ m) n = mput x (mmul m n)

abbrev pub mcmp : Mono → Mono → Ordering
mcmp [] [] = Ordering.eq
mcmp [] (y ∷ n) = Ordering.lt
mcmp (x ∷ m) [] = Ordering.gt
mcmp (x ∷ m) (y ∷ n) = elim (compare x y) [ Ordering.lt ↦ Ordering.lt | Ordering.eq ↦ mcmp m n | Ordering.gt ↦ Ordering.gt ]

-- ---- terms

pub data Terms : Type 0 where
  none : Terms
  term : ℤ → Mono → Terms → Terms

abbrev pub tadd : Terms → Terms → Terms
tadd none q = q
tadd (term c m p) q = term c m (tadd p q)

abbrev pub tneg : Terms → Terms
tneg none = none
tneg (term c m p) = term (neg_ℤ c) m (tneg p)

-- one term times the terms p, and then the terms r
abbrev pub tscale : ℤ → Mono → Terms → Terms → Terms
tscale c m none r = r
tscale c m (term d n p) r = term (c *ℤ d) (mmul m n) (tscale c m p r)

abbrev pub tmul : Terms → Terms → Terms
tmul none q = none
tmul (term c m p) q = tscale c m q (tmul p q)

abbrev pub terms : Expr → Terms
terms (var n) = term (pos 1) (n ∷ []) none
terms (con z) = term z [] none
terms (a ⊕ b) = tadd (terms a) (terms b)
terms (a ⊖ b) = tadd (terms a) (tneg (terms b))
terms (a ⊗ b) = tmul (terms a) (terms b)

-- ---- a search tree of coefficients

pub data Tree : Type 0 where
  leaf : Tree
  node : Tree → Mono → ℤ → Tree → Tree

abbrev pub put : Mono → ℤ → Tree → Tree
put m c leaf = node leaf m c leaf
put m c (node l n d r) = elim (mcmp m n) [ Ordering.lt ↦ node (put m c l) n d r | Ordering.eq ↦ node l n (c +ℤ d) r | Ordering.gt ↦ node l n d (put m c r) ]

abbrev pub gather : Terms → Tree → Tree
gather none t = t
gather (term c m p) t = gather p (put m c t)

abbrev pub is_zero : ℤ → Bool
is_zero (pos zero) = true
is_zero (pos (suc n)) = false
is_zero (negsuc n) = false

abbrev pub zeros : Tree → Bool
zeros leaf = true
zeros (node l n d r) = is_zero d and (zeros l and zeros r)

abbrev pub vanishes : Expr → Bool
vanishes e = zeros (gather (terms e) leaf)

-- ---- soundness

pub and_l : (a b : Bool) → T (a and b) → T a
and_l true b t = tt
and_l false b t = t

pub and_r : (a b : Bool) → T (a and b) → T b
and_r true b t = t
and_r false b t = absurd t

is_zero-eq : (z : ℤ) → T (is_zero z) → z ≡ pos zero
is_zero-eq (pos zero) t = refl
is_zero-eq (pos (suc n)) t = absurd t
is_zero-eq (negsuc n) t = absurd t

mcmp-eq : (m n : Mono) → T (compare_is_eq (mcmp m n)) → m ≡ n
mcmp-eq [] [] t = refl
mcmp-eq [] (y ∷ n) t = absurd t
mcmp-eq (x ∷ m) [] t = absurd t
mcmp-eq (x ∷ m) (y ∷ n) t = go (compare x y) (eqb→eq x y) (mcmp-eq m n) t
  where
    go : (o : Ordering) → (T (compare_is_eq o) → x ≡ y) → (T (compare_is_eq (mcmp m n)) → m ≡ n)
        → T (compare_is_eq (elim o [ Ordering.lt ↦ Ordering.lt | Ordering.eq ↦ mcmp m n | Ordering.gt ↦ Ordering.gt ])) → x ∷ m ≡ y ∷ n
    go Ordering.lt e h t = absurd t
    go Ordering.eq e h t = ap (λ z. z ∷ m) (e tt) ∙ ap (λ z. y ∷ z) (h t)
    go Ordering.gt e h t = absurd t

module _ (ρ : ℕ → ℤ) where
  abbrev pub dm : Mono → ℤ
  dm [] = pos 1
  dm (x ∷ m) = ρ x *ℤ dm m

  abbrev pub dt : Terms → ℤ
  dt none = pos 0
  dt (term c m p) = c *ℤ dm m +ℤ dt p

  abbrev pub dr : Tree → ℤ
  dr leaf = pos 0
  dr (node l n d r) = (d *ℤ dm n +ℤ dr l) +ℤ dr r

  mput-den : (x : ℕ) (m : Mono) → dm (mput x m) ≡ ρ x *ℤ dm m
  mput-den x [] = refl
  mput-den x (y ∷ m) = go (leb x y) (mput-den x m)
    where
      go : (b : Bool) → dm (mput x m) ≡ ρ x *ℤ dm m → dm (elim b [ true ↦ x ∷ y ∷ m | false ↦ y ∷ mput x m ]) ≡ ρ x *ℤ (ρ y *ℤ dm m)
      go true h = refl
      go false h = ap (λ z. ρ y *ℤ z) h ∙ *-swap (ρ y) (ρ x) (dm m)

  mmul-den : (m n : Mono) → dm (mmul m n) ≡ dm m *ℤ dm n
  mmul-den [] n = sym (one-* (dm n))
  mmul-den (x ∷ m) n = mput-den x (mmul m n) ∙ ap (λ z. ρ x *ℤ z) (mmul-den m n) ∙ sym (*-assoc (ρ x) (dm m) (dm n))

  tadd-den : (p q : Terms) → dt (tadd p q) ≡ dt p +ℤ dt q
  tadd-den none q = sym (+ℤ_idl (dt q))
  tadd-den (term c m p) q = ap (λ z. c *ℤ dm m +ℤ z) (tadd-den p q) ∙ sym (+ℤ_assoc (c *ℤ dm m) (dt p) (dt q))

  tneg-den : (p : Terms) → dt (tneg p) ≡ neg_ℤ (dt p)
  tneg-den none = refl
  tneg-den (term c m p) = ap (λ z. z +ℤ dt (tneg p)) (neg-mul c (dm m)) ∙ ap (λ z. neg_ℤ (c *ℤ dm m) +ℤ z) (tneg-den p) ∙ sym (neg_ℤ-+ℤ (c *ℤ dm m) (dt p))

  tscale-den : (c : ℤ) (m : Mono) (p r : Terms) → dt (tscale c m p r) ≡ (c *ℤ dm m) *ℤ dt p +ℤ dt r
  tscale-den c m none r = sym (ap (λ z. z +ℤ dt r) (*ℤ_comm (c *ℤ dm m) (pos 0) ∙ zero-*ℤ (c *ℤ dm m)) ∙ +ℤ_idl (dt r))
  tscale-den c m (term d n p) r =
      ap (λ z. (c *ℤ d) *ℤ z +ℤ dt (tscale c m p r)) (mmul-den m n)
      ∙ ap (λ z. z +ℤ dt (tscale c m p r)) (*-inner c d (dm m) (dm n))
      ∙ ap (λ z. (c *ℤ dm m) *ℤ (d *ℤ dm n) +ℤ z) (tscale-den c m p r)
      ∙ sym (+ℤ_assoc ((c *ℤ dm m) *ℤ (d *ℤ dm n)) ((c *ℤ dm m) *ℤ dt p) (dt r))
      ∙ ap (λ z. z +ℤ dt r) (sym (distl (c *ℤ dm m) (d *ℤ dm n) (dt p)))

  tmul-den : (p q : Terms) → dt (tmul p q) ≡ dt p *ℤ dt q
  tmul-den none q = sym (zero-*ℤ (dt q))
  tmul-den (term c m p) q = tscale-den c m q (tmul p q) ∙ ap (λ z. (c *ℤ dm m) *ℤ dt q +ℤ z) (tmul-den p q) ∙ sym (distr (c *ℤ dm m) (dt p) (dt q))

  pub terms-den : (e : Expr) → dt (terms e) ≡ den ρ e
  terms-den (var n) = +ℤ_idr (pos 1 *ℤ (ρ n *ℤ pos 1)) ∙ one-* (ρ n *ℤ pos 1) ∙ *ℤ_comm (ρ n) (pos 1) ∙ one-* (ρ n)
  terms-den (con z) = +ℤ_idr (z *ℤ pos 1) ∙ *ℤ_comm z (pos 1) ∙ one-* z
  terms-den (a ⊕ b) = tadd-den (terms a) (terms b) ∙ ap₂ ◌+ℤ◌ (terms-den a) (terms-den b)
  terms-den (a ⊖ b) = tadd-den (terms a) (tneg (terms b)) ∙ ap₂ ◌+ℤ◌ (terms-den a) (tneg-den (terms b) ∙ ap neg_ℤ (terms-den b))
  terms-den (a ⊗ b) = tmul-den (terms a) (terms b) ∙ ap₂ ◌*ℤ◌ (terms-den a) (terms-den b)

  put-den : (m : Mono) (c : ℤ) (t : Tree) → dr (put m c t) ≡ c *ℤ dm m +ℤ dr t
  put-den m c leaf = +ℤ_idr (c *ℤ dm m +ℤ pos 0)
  put-den m c (node l n d r) = go (mcmp m n) (mcmp-eq m n) (put-den m c l) (put-den m c r)
    where
      go : (o : Ordering) → (T (compare_is_eq o) → m ≡ n) → dr (put m c l) ≡ c *ℤ dm m +ℤ dr l → dr (put m c r) ≡ c *ℤ dm m +ℤ dr r
          → dr (elim o [ Ordering.lt ↦ node (put m c l) n d r | Ordering.eq ↦ node l n (c +ℤ d) r | Ordering.gt ↦ node l n d (put m c r) ])
          ≡ c *ℤ dm m +ℤ ((d *ℤ dm n +ℤ dr l) +ℤ dr r)
      go Ordering.lt e hl hr =
          ap (λ z. (d *ℤ dm n +ℤ z) +ℤ dr r) hl ∙ ap (λ z. z +ℤ dr r) (+-lswap (d *ℤ dm n) (c *ℤ dm m) (dr l)) ∙ +ℤ_assoc (c *ℤ dm m) (d *ℤ dm n +ℤ dr l) (dr r)
      go Ordering.eq e hl hr =
          ap (λ z. (z +ℤ dr l) +ℤ dr r) (distr c d (dm n) ∙ ap (λ z. c *ℤ dm z +ℤ d *ℤ dm n) (sym (e tt)))
          ∙ ap (λ z. z +ℤ dr r) (+ℤ_assoc (c *ℤ dm m) (d *ℤ dm n) (dr l)) ∙ +ℤ_assoc (c *ℤ dm m) (d *ℤ dm n +ℤ dr l) (dr r)
      go Ordering.gt e hl hr = ap (λ z. (d *ℤ dm n +ℤ dr l) +ℤ z) hr ∙ +-lswap (d *ℤ dm n +ℤ dr l) (c *ℤ dm m) (dr r)

  pub gather-den : (p : Terms) (t : Tree) → dr (gather p t) ≡ dt p +ℤ dr t
  gather-den none t = sym (+ℤ_idl (dr t))
  gather-den (term c m p) t = gather-den p (put m c t) ∙ ap (λ z. dt p +ℤ z) (put-den m c t) ∙ +-lswap (dt p) (c *ℤ dm m) (dr t) ∙ sym (+ℤ_assoc (c *ℤ dm m) (dt p) (dr t))

  pub zeros-den : (t : Tree) → T (zeros t) → dr t ≡ pos 0
  zeros-den leaf h = refl
  zeros-den (node l n d r) h =
      ap (λ z. (z *ℤ dm n +ℤ dr l) +ℤ dr r) (is_zero-eq d (and_l (is_zero d) (zeros l and zeros r) h))
      ∙ ap (λ z. (z +ℤ dr l) +ℤ dr r) (zero-*ℤ (dm n))
      ∙ ap (λ z. (pos 0 +ℤ z) +ℤ dr r) (zeros-den l (and_l (zeros l) (zeros r) (and_r (is_zero d) (zeros l and zeros r) h)))
      ∙ ap (λ z. (pos 0 +ℤ pos 0) +ℤ z) (zeros-den r (and_r (zeros l) (zeros r) (and_r (is_zero d) (zeros l and zeros r) h)))

  vanish : (e : Expr) → T (vanishes e) → den ρ e ≡ pos 0
  vanish e h = sym (terms-den e) ∙ sym (gather-den (terms e) leaf ∙ +ℤ_idr (dt (terms e))) ∙ zeros-den (gather (terms e) leaf) h

-- two expressions that agree at every valuation
pub ring-law : (a b : Expr) → T (vanishes (a ⊖ b)) → (ρ : ℕ → ℤ) → den ρ a ≡ den ρ b
ring-law a b h ρ = eq-of-sub (den ρ a) (den ρ b) (vanish ρ (a ⊖ b) h)

-- ---- an identity stated once, as a function of the expressions for its variables

infix 40 ◌⊜◌
pub record Eqn : Type 0 where
  pub lhs : Expr
  pub rhs : Expr

abbrev pub ◌⊜◌ : Expr → Expr → Eqn
a ⊜ b = record { lhs = a; rhs = b }

abbrev pub Body : ℕ → Type 0
Body zero = Eqn
Body (suc n) = Expr → Body n

abbrev pub bind : (ℕ → ℤ) → ℕ → ℤ → ℕ → ℤ
bind ρ k x i = elim (compare i k) [ Ordering.lt ↦ ρ i | Ordering.eq ↦ x | Ordering.gt ↦ ρ i ]

-- what the equation says, for all values of its n variables, which are numbered from k
abbrev pub Says : (n : ℕ) → ℕ → (ℕ → ℤ) → Body n → Type 0
Says zero k ρ q = den ρ q.lhs ≡ den ρ q.rhs
Says (suc n) k ρ f = (x : ℤ) → Says n (suc k) (bind ρ k x) (f (var k))

abbrev pub passes : (n : ℕ) → ℕ → Body n → Bool
passes zero k q = vanishes (q.lhs ⊖ q.rhs)
passes (suc n) k f = passes n (suc k) (f (var k))

says : (n k : ℕ) (ρ : ℕ → ℤ) (f : Body n) → T (passes n k f) → Says n k ρ f
says zero k ρ q t = ring-law q.lhs q.rhs t ρ
says (suc n) k ρ f t = λ x. says n (suc k) (bind ρ k x) (f (var k)) t

-- `law : Identity 2 (λ x y. x ⊗ y ⊜ y ⊗ x)`, `law = ring tt`; then `law.at a b : a *ℤ b ≡ b *ℤ a`
pub record Identity (n : ℕ) (f : Body n) : Type 0 where
  pub at : Says n zero (λ i. pos 0) f

pub ring : {n : ℕ} {f : Body n} → T (passes n zero f) → Identity n f
ring {n} {f} t = record { at = says n zero (λ i. pos 0) f t }
