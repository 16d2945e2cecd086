-- An exact expression that never gives -0.0 is the double of its whole number. So two of them that are one whole number are one double,
-- bit by bit. Assumes nothing.
use Rattle.std.specs.Prelude.{◌≡◌, Bool, true, false, cond, ◌&&◌, ◌||◌, ◌⊎◌, List, T, leb, ltb, ℤ, pos, negsuc, neg_ℤ, nat_abs, ◌+ℤ◌, ◌*ℤ◌, Float}
use Rattle.std.proofs.Math.Path.{refl}
use Rattle.std.proofs.Common.{sym, ap, ap₂, ◌∙◌, inl, inr, mul-pos, zero-lt-suc, arith, leb→le, le→leb}
use Rattle.std.proofs.lemmas.Bool.{false≢true}
use Prim.Native.Nat.{ℕ, zero, suc, ◌+◌, ◌-◌, ◌*◌, ◌/◌, ◌%◌, ◌^◌, ◌≤◌, ◌<◌, compare}
use Rattle.std.proofs.Math.IntN.{neg_ℤ-+ℤ}
use Rattle.std.specs.Float.{inf, Format, binary64}
use Rattle.std.specs.Float.Ieee.{prec, low, emax, size, nearest, unlike, round, units, odd, of_int, sub}
use Rattle.model.specs.Doubles.{signed, IsWhole, double, ◌⊞◌, ◌⊠◌}
use Rattle.std.proofs.lemmas.Int.{unsigned_abs-mul}
use Rattle.integers.specs.Laws.{abs_neg}
use Rattle.integers.specs.Ring.{◌and◌, and_l, and_r}
use Rattle.integers.specs.Bounds.{Sizes, valued, sized, split}
use Rattle.doubles.specs.Near.{is_zero, near-exact}
use Rattle.doubles.specs.Floats.{sign_of, Value, value-of, Rounds, add_rounds, mul-rounds, neg-whole}
use Rattle.doubles.specs.Terms.{Term, var, con, minus, ◌⊕◌, ◌⊖◌, ◌⊗◌, whole, doubled, most, product_error, error, small, tame, of-int, near}

-- ---- what was rounded once is the double of its whole number, unless it is -0.0

rounds-double : {x : Float} {z : ℤ} {u : Bool} → Rounds binary64 x z u → (z ≡ pos 0 → u ≡ false) → x ≡ double z
unfolding of_int
rounds-double {z = z} {u = u} r h = r.is ∙ go r.sign r.size r.of r.zero-sign
  where
    go : (s : Bool) (n : ℕ) → z ≡ signed s n → (n ≡ 0 → s ≡ u) → round binary64 s n 1 ≡ double z
    go false n o k = ap double (sym o)
    go true zero o k = absurd (false≢true (sym (k refl ∙ h o)))
    go true (suc n) o k = ap double (sym o)

-- rounding keeps the sign
sign-round : (f : Format) (s : Bool) (n d : ℕ) → sign_of (round f s n d) ≡ s
unfolding round units odd
sign-round f s n d =
    let m = n * 2 ^ low f in
    let k = size (m / d) - prec f in
    let u = d * 2 ^ k in
    of-units (nearest (m / u) (compare (m % u * 2) u)) k
  where
    of-odd : (d q k l : ℕ) → sign_of (odd d s q k l) ≡ s
    of-odd d zero k l = refl
    of-odd d (suc q) k l = refl

    of-units : (q k : ℕ) → sign_of (units f s q k) ≡ s
    of-units q k = go (ltb (q * 2 ^ k) (2 ^ (low f + suc (emax f))))
      where
        go : (b : Bool) → sign_of (cond b (odd (suc (prec f)) s q k (low f)) (inf s)) ≡ s
        go true = of-odd (suc (prec f)) q k (low f)
        go false = refl

-- the double of 0 is +0.0
plus-zero : {x : Float} {z : ℤ} → x ≡ double z → z ≡ pos 0 → sign_of x ≡ false
unfolding of_int
plus-zero e o = ap sign_of (e ∙ ap double o) ∙ sign-round binary64 false 0 1

-- ---- a sum is -0.0 only where both operands are: it is its number's double where one of them is

not-both : (s t : Bool) (m n : ℕ) → signed s m +ℤ signed t n ≡ pos 0 → (signed s m ≡ pos 0 → s ≡ false) ⊎ (signed t n ≡ pos 0 → t ≡ false)
    → (s && t) ≡ false
not-both false t m n e o = refl
not-both true false m n e o = refl
not-both true true m n e o = absurd (go o)
  where
    none : m + n ≡ 0
    none = sym (abs_neg (pos (m + n))) ∙ ap nat_abs (neg_ℤ-+ℤ (pos m) (pos n) ∙ e)

    left : m ≡ 0
    left = omega (arith, none)

    right : n ≡ 0
    right = omega (arith, none)

    go : (signed true m ≡ pos 0 → true ≡ false) ⊎ (signed true n ≡ pos 0 → true ≡ false) → ⊥
    go (inl f) = false≢true (sym (f (ap (λ k. neg_ℤ (pos k)) left)))
    go (inr f) = false≢true (sym (f (ap (λ k. neg_ℤ (pos k)) right)))

sum-double : (x y : Float) (p q : ℤ) → IsWhole x p → IsWhole y q → (x ≡ double p) ⊎ (y ≡ double q) → x ⊞ y ≡ double (p +ℤ q)
sum-double x y p q v w o =
    let a = value-of x p v in
    let b = value-of y q w in
    rounds-double (add_rounds binary64 x y p q v w)
    (λ e. not-both (sign_of x) (sign_of y) a.size b.size (sym (ap₂ ◌+ℤ◌ a.is b.is) ∙ e) (plus a b o))
  where
    plus : (a : Value x p) (b : Value y q) → (x ≡ double p) ⊎ (y ≡ double q)
        → (signed (sign_of x) a.size ≡ pos 0 → sign_of x ≡ false) ⊎ (signed (sign_of y) b.size ≡ pos 0 → sign_of y ≡ false)
    plus a b (inl e) = inl (λ z. plus-zero e (a.is ∙ z))
    plus a b (inr e) = inr (λ z. plus-zero e (b.is ∙ z))

-- ---- and a product with a positive number only where the other factor is -0.0

product-double : (c : ℕ) (y : Float) (q : ℤ) → suc c ≤ 2 ^ 53 → IsWhole y q → y ≡ double q
    → double (pos (suc c)) ⊠ y ≡ double (pos (suc c) *ℤ q)
unfolding of_int
product-double c y q h w e =
    rounds-double (mul-rounds binary64 (double (pos (suc c))) y (pos (suc c)) q (of-int (pos (suc c)) h) w)
    (λ z. ap₂ unlike above (plus-zero e (factor q z)))
  where
    above : sign_of (double (pos (suc c))) ≡ false
    above = sign-round binary64 false (suc c) 1

    factor : (q : ℤ) → pos (suc c) *ℤ q ≡ pos 0 → q ≡ pos 0
    factor q z = is_zero q (cut (nat_abs q) (sym (unsigned_abs-mul (pos (suc c)) q) ∙ ap nat_abs z))
      where
        cut : (n : ℕ) → suc c * n ≡ 0 → n ≤ 0
        cut zero z = omega arith
        cut (suc n) z = absurd (omega arith)

-- ---- expressions

abbrev positive : Term → Bool
positive (var n) = false
positive (con (pos zero)) = false
positive (con (pos (suc c))) = true
positive (con (negsuc n)) = false
positive (minus a) = false
positive (a ⊕ b) = false
positive (a ⊖ b) = false
positive (a ⊗ b) = false

-- never -0.0
abbrev pub plain : Term → Bool
plain (var n) = true
plain (con z) = true
plain (minus a) = false
plain (a ⊕ b) = plain a || plain b
plain (a ⊖ b) = plain a
plain (a ⊗ b) = positive a and plain b

-- what is computed of an expression over numbers of these sizes: nothing in it is rounded, and it is never -0.0
abbrev pub Plainly : List ℕ → Term → Type 0
Plainly bs e = T (tame (sized bs) e) × T (leb (error (sized bs) e) 0) × T (plain e)

-- the first of these: nothing in it is rounded
abbrev Exact : List ℕ → Term → Type 0
Exact bs e = T (tame (sized bs) e) × (error (sized bs) e ≤ 0)

one_of : (a b : Bool) {P Q : Type 0} → (T a → P) → (T b → Q) → T (a || b) → P ⊎ Q
one_of true b f g t = inl (f tt)
one_of false b f g t = inr (g t)

-- the operands of an exact sum are exact; those of a difference too, since its size and its error are the sum's
operands : (bs : List ℕ) (a b : Term) → Exact bs (a ⊕ b) → Exact bs a × Exact bs b
operands bs a b x =
    let A = sized bs in
    let t = split (small (most A a + most A b) (error A a + error A b)) (tame A a) (tame A b) x.0 in
    let none = both (error A a) (error A b) _ x.1 in
    ((t.1, none.0), (t.2, none.1))
  where
    both : (m n s : ℕ) → m + n + s ≤ 0 → (m ≤ 0) × (n ≤ 0)
    both m n s h = (omega arith, omega arith)

-- and so is what is multiplied by a positive number
multiplied : (bs : List ℕ) (c : ℕ) (b : Term) → Exact bs (con (pos (suc c)) ⊗ b) → (suc c ≤ 2 ^ 53) × Exact bs b
multiplied bs c b x =
    let A = sized bs in
    let t = split (small (suc c * most A b) (product_error (suc c) (most A b) 0 (error A b))) (leb (suc c) (2 ^ 53)) (tame A b) x.0 in
    (leb→le (suc c) (2 ^ 53) t.1, (t.2, alone (suc c + 0) (error A b) _ _ (omega arith) x.1))
  where
    alone : (m n r s : ℕ) → 0 < m → r + m * n + s ≤ 0 → n ≤ 0
    alone m zero r s z h = omega arith
    alone m (suc n) r s z h = absurd (omega (arith, mul-pos z (zero-lt-suc n)))

module _ {zs : List ℤ} {bs : List ℕ} (h : Sizes zs bs) where
  exactly : (e : Term) → Exact bs e → IsWhole (doubled (valued zs) e) (whole (valued zs) e)
  exactly e x = near-exact (near e h x.0 (le→leb _ 0 x.1))

  times : (a b : Term) → T (positive a) → Exact bs (a ⊗ b) → (Exact bs b → doubled (valued zs) b ≡ double (whole (valued zs) b))
      → doubled (valued zs) (a ⊗ b) ≡ double (whole (valued zs) (a ⊗ b))
  times (con (pos (suc c))) b k x f =
      let y = multiplied bs c b x in
      product-double c (doubled (valued zs) b) (whole (valued zs) b) y.0 (exactly b y.1) (f y.1)
  times (var n) b k x f = absurd k
  times (con (pos zero)) b k x f = absurd k
  times (con (negsuc n)) b k x f = absurd k
  times (minus a) b k x f = absurd k
  times (a ⊕ a') b k x f = absurd k
  times (a ⊖ a') b k x f = absurd k
  times (a ⊗ a') b k x f = absurd k

  by_parts : (e : Term) → Exact bs e → T (plain e) → doubled (valued zs) e ≡ double (whole (valued zs) e)
  unfolding sub
  by_parts (var n) x p = refl
  by_parts (con z) x p = refl
  by_parts (minus a) x p = absurd p
  by_parts (a ⊕ b) x p =
      let y = operands bs a b x in
      sum-double (doubled (valued zs) a) (doubled (valued zs) b) (whole (valued zs) a) (whole (valued zs) b)
      (exactly a y.0) (exactly b y.1)
      (one_of (plain a) (plain b) (by_parts a y.0) (by_parts b y.1) p)
  by_parts (a ⊖ b) x p =
      let y = operands bs a b x in
      sum-double (doubled (valued zs) a) _ (whole (valued zs) a) (neg_ℤ (whole (valued zs) b))
      (exactly a y.0) (neg-whole (doubled (valued zs) b) (whole (valued zs) b) (exactly b y.1))
      (inl (by_parts a y.0 p))
  by_parts (a ⊗ b) x p = times a b (and_l (positive a) (plain b) p) x (λ y. by_parts b y (and_r (positive a) (plain b) p))

  -- the law
  pub plain-double : (e : Term) → Plainly bs e → doubled (valued zs) e ≡ double (whole (valued zs) e)
  plain-double e t = by_parts e (t.0, leb→le _ 0 t.1) t.2

  -- one whole number is one double
  pub same-double : (a b : Term) → Plainly bs a → Plainly bs b → whole (valued zs) a ≡ whole (valued zs) b
      → doubled (valued zs) a ≡ doubled (valued zs) b
  same-double a b t r e = plain-double a t ∙ ap double e ∙ sym (plain-double b r)
