-- The number stands within the value. Assumes nothing.
use Rattle.std.proofs.Common.{List, ℕ, ◌+◌, ◌*◌, ◌<◌, ◌≤◌, ◌≡◌, pos, length, get_or, take, drop, subst, sym, ap, ◌∙◌, arith, w64}
use Rattle.integers.specs.Bounds.{held-is}
use Rattle.record_bytes.specs.declared.Size.{Size}
use Rattle.record_bytes.specs.NumberSizes.{size_of, signed_by, numbers_by}
use Rattle.record_bytes.specs.ByteLoops.{number_is, number-within, numbers-long}
use Rattle.record_tests.proofs.EncodedNumbers.number_at.Goals as goal

module _ (z : Size) (m : ℕ) (value : List ℕ) {k each : ℕ} (e : each ≡ size_of z) (h : k < length (numbers_by z m value)) where
  below : k < m
  below = subst (λ n. k < n) (numbers-long z m value) h

  inside : length value ≡ m * size_of z → k * each + size_of z ≤ length value
  inside l = rw (e, l) (number-within (size_of z) below)

  number : signed_by z (take (size_of z) (drop (k * each) value)) ≡ get_or (numbers_by z m value) k (pos 0)
  number = ap (λ n. signed_by z (take (size_of z) (drop (k * n) value))) e ∙ sym (number_is z m value k below)

pub overflow_mul-at : goal.overflow_mul-at
overflow_mul-at c = let e = c.args.self.now in omega (arith, inside e.size e.count e.value.now c.bytes.ensures c.requires e.long)

pub number_at-requires : goal.number_at-requires
number_at-requires c = let e = c.args.self.now in inside e.size e.count e.value.now c.bytes.ensures c.requires e.long

pub returns : goal.returns
returns c =
    let e = c.args.self.now in
    held-is w64 c.number_at.type_inv (c.number_at.ensures ∙ number e.size e.count e.value.now c.bytes.ensures c.requires)
