-- Numbers as bytes, and fields of numbers, there and back: once for every count of bytes. Assumes nothing.
use Rattle.std.specs.Prelude.{◌≡◌, refl, List, [], ◌∷◌, ◌++◌, ℕ, zero, suc, ◌+◌, ◌-◌, ◌*◌, min, ◌/◌, ◌%◌, ◌^◌, ◌<◌, ℤ, pos, length, take, drop, get_or}
use Rattle.std.proofs.Common.{sym, ap, ap₂, subst, ◌∙◌, zero-le, suc-le-suc, mod-eq_of_lt, mul-zero, zero-mul, suc-mul, mul-suc, zero-add, add_comm, add_assoc, add-mul, mul_assoc, arith, lit<, length-append, length-take, length-drop, take-append-drop, take_at, drop_at, drop-drop, to_z-of_z}
use Rattle.std.proofs.Math.Path.{fun_ext}
use Rattle.std.proofs.Math.Nat.{pow-succ', mod-one}
use Rattle.std.proofs.Math.Arith.{mod-mul, digits_lt, digits_div, digits_mod}
use Rattle.std.specs.Int.{Width}
use mir.Val.{to_z, of_z, SFits, bits}
use Rattle.std.proofs.Math.Facts.{of_z-to_z, Fits-of_z}
use Rattle.model.specs.Grid.{tabulate}
use Rattle.model.specs.Record.{bytes, unsigned_from, unsigned, each_by, numbers}

-- ---- unsigned numbers

abbrev pub AllBytes : List ℕ → Type 0
AllBytes [] = Unit
AllBytes (x ∷ l) = (x < 256) × AllBytes l

pub bytes_drop : (k : ℕ) (l : List ℕ) → AllBytes l → AllBytes (drop k l)
bytes_drop zero l h = h
bytes_drop (suc k) [] h = tt
bytes_drop (suc k) (x ∷ l) h = bytes_drop k l h.1

pub bytes_take : (k : ℕ) (l : List ℕ) → AllBytes l → AllBytes (take k l)
bytes_take zero l h = tt
bytes_take (suc k) [] h = tt
bytes_take (suc k) (x ∷ l) h = (h.0, bytes_take k l h.1)

pub length-bytes : (k x : ℕ) → length (bytes k x) ≡ k
length-bytes zero x = refl
length-bytes (suc k) x = ap suc (length-bytes k x)

pow-positive : (k : ℕ) → 0 < 256 ^ k
pow-positive zero = lit< tt
pow-positive (suc k) = rw (pow-succ' 256 k) (more (256 ^ k) (pow-positive k))
  where
    more : (p : ℕ) → 0 < p → 0 < 256 * p
    more p h = omega arith

-- the last k bytes of x stand for x without what is above them
unsigned_bytes : (a k x : ℕ) → unsigned_from a (bytes k x) ≡ a * 256 ^ k + x % 256 ^ k
unsigned_bytes a zero x = rw (mod-one x) (plain a)
  where
    plain : (a : ℕ) → a ≡ a * 1 + 0
    plain a = omega arith
unsigned_bytes a (suc k) x =
    unsigned_bytes (a * 256 + x / 256 ^ k % 256) k x
    ∙ ap (λ z. z + x % 256 ^ k) (add-mul (a * 256) (x / 256 ^ k % 256) (256 ^ k)) ∙ add_assoc (a * 256 * 256 ^ k) (x / 256 ^ k % 256 * 256 ^ k) (x % 256 ^ k)
    ∙ ap₂ ◌+◌ (mul_assoc a 256 (256 ^ k)) (sym (mod-mul x {m = 256} {c = 256 ^ k} (lit< tt) (pow-positive k)))
    ∙ ap (λ p. a * p + x % p) (sym (pow-succ' 256 k))

pub there_back : (k x : ℕ) → x < 256 ^ k → unsigned (bytes k x) ≡ x
there_back k x h = unsigned_bytes 0 k x ∙ ap₂ ◌+◌ (zero-mul (256 ^ k)) (mod-eq_of_lt h) ∙ zero-add x

-- what bytes stand for, above what stands before them
record Split (c : ℕ) (l : List ℕ) : Type 0 where
  low : ℕ
  small : low < 256 ^ length l
  sum : unsigned_from c l ≡ c * 256 ^ length l + low

split : (c : ℕ) (l : List ℕ) → AllBytes l → Split c l
split c [] h = record { low = 0; small = lit< tt; sum = plain c }
  where
    plain : (c : ℕ) → c ≡ c * 1 + 0
    plain c = omega arith
split c (x ∷ l) h =
    let s = split (c * 256 + x) l h.1 in
    let p = 256 ^ length l in
    record {
      low = x * p + s.low;
      small = subst (λ z. x * p + s.low < z) (sym (pow-succ' 256 (length l))) (digits_lt h.0 s.small);
      sum = s.sum ∙ ap (λ z. z + s.low) (add-mul (c * 256) x p) ∙ add_assoc (c * 256 * p) (x * p) s.low
          ∙ ap (λ z. z + (x * p + s.low)) (mul_assoc c 256 p ∙ ap (λ z. c * z) (sym (pow-succ' 256 (length l))));
    }

pub back-there : (c : ℕ) (l : List ℕ) → AllBytes l → bytes (length l) (unsigned_from c l) ≡ l
back-there c [] h = refl
back-there c (x ∷ l) h =
    let s = split (c * 256 + x) l h.1 in
    let p = 256 ^ length l in
    ap₂ ◌∷◌ (ap (λ z. z / p % 256) s.sum ∙ ap (λ z. z % 256) (digits_div (c * 256 + x) s.small) ∙ digits_mod c h.0) (back-there (c * 256 + x) l h.1)

pub back-bytes : (k : ℕ) (l : List ℕ) → length l ≡ k → AllBytes l → bytes k (unsigned l) ≡ l
back-bytes k l e h = ap (λ n. bytes n (unsigned l)) (sym e) ∙ back-there 0 l h

pub small_of : (l : List ℕ) → AllBytes l → unsigned l < 256 ^ length l
small_of l h = let s = split 0 l h in subst (λ z. z < 256 ^ length l) (sym (s.sum ∙ nought (256 ^ length l) s.low)) s.small
  where
    nought : (p r : ℕ) → 0 * p + r ≡ r
    nought p r = omega arith

-- ---- signed numbers of z bytes, and fields of them

pub record EachFits (w : Width) (l : List ℤ) : Type 0 where
  pub each : (k : ℕ) → k < length l → SFits w (get_or l k (pos 0))

fits-tail : {w : Width} {x : ℤ} {l : List ℤ} → EachFits w (x ∷ l) → EachFits w l
fits-tail h = record { each = λ k p. h.each (suc k) (suc-le-suc p) }

-- a number further on in a value is one less far on in the value's rest
later : (z k : ℕ) (v : List ℕ) → drop (suc k * z) v ≡ drop (k * z) (drop z v)
later z k v = ap (λ n. drop n v) (suc-mul k z ∙ add_comm (k * z) z) ∙ sym (drop-drop (k * z) z v)

module _ (z : ℕ) (w : Width) (wide : 2 ^ bits w ≡ 256 ^ z) where
  abbrev put : ℤ → List ℕ
  put x = bytes z (of_z w x)

  abbrev get : List ℕ → ℤ
  get l = to_z w (unsigned l)

  pub get-put : (x : ℤ) → SFits w x → get (put x) ≡ x
  get-put x f = ap (to_z w) (there_back z (of_z w x) (subst (λ p. of_z w x < p) wide (Fits-of_z {w = w} f).fits)) ∙ to_z-of_z {w = w} f

  pub put-get : (l : List ℕ) → length l ≡ z → AllBytes l → put (get l) ≡ l
  put-get l e h =
      ap (bytes z) (of_z-to_z {w = w} (record { fits = subst (λ p. unsigned l < p) (ap (λ k. 256 ^ k) e ∙ sym wide) (small_of l h) })) ∙ back-bytes z l e h

  pub length-each : (l : List ℤ) → length (each_by put l) ≡ z * length l
  length-each [] = sym (mul-zero z)
  length-each (x ∷ l) = length-append (put x) (each_by put l) ∙ ap₂ ◌+◌ (length-bytes z (of_z w x)) (length-each l) ∙ add_comm z (z * length l) ∙ sym (mul-suc z (length l))

  pub numbers-put : (l : List ℤ) → EachFits w l → numbers get z (length l) (each_by put l) ≡ l
  numbers-put [] h = refl
  numbers-put (x ∷ l) h =
      let v = put x ++ each_by put l in
      let e = length-bytes z (of_z w x) in
      ap₂ ◌∷◌
      (ap (λ n. get (take z (drop n v))) (zero-mul z) ∙ ap get (take_at (put x) (each_by put l) z e) ∙ get-put x (h.each 0 (suc-le-suc zero-le)))
      (ap (tabulate (length l)) (fun_ext (λ k. ap (λ r. get (take z r)) (later z k v ∙ ap (drop (k * z)) (drop_at (put x) (each_by put l) z e)))) ∙ numbers-put l (fits-tail h))

  pub put-numbers : (m : ℕ) (v : List ℕ) → length v ≡ z * m → AllBytes v → each_by put (numbers get z m v) ≡ v
  put-numbers zero [] e h = refl
  put-numbers zero (a ∷ v) e h = absurd (let y : suc (length v) ≡ 0 = e ∙ mul-zero z in omega arith)
  put-numbers (suc m) v e h =
      let y : length v ≡ z * m + z = e ∙ mul-suc z m in
      ap₂ ◌++◌
      (ap (λ n. put (get (take z (drop n v)))) (zero-mul z) ∙ put-get (take z v) (length-take z v ∙ short (length v) (z * m) z y) (bytes_take z v h))
      (ap (λ f. each_by put (tabulate m f)) (fun_ext (λ k. ap (λ r. get (take z r)) (later z k v))) ∙ put-numbers m (drop z v) (length-drop z v ∙ less (length v) (z * m) z y) (bytes_drop z v h))
      ∙ take-append-drop z v
    where
      short : (n p z : ℕ) → n ≡ p + z → min z n ≡ z
      short n p z e = omega arith

      less : (n p z : ℕ) → n ≡ p + z → n - z ≡ p
      less n p z e = omega arith
