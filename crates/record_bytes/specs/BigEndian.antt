-- The library's big-endian bytes of a number are the model's. Assumes nothing.
use Rattle.std.specs.Prelude.{◌≡◌, List, [], ◌∷◌, ℕ, length, get_or}
use Rattle.std.proofs.Common.{div-one, arith}
use Rattle.std.proofs.lemmas.Grind.{common_steps}
use Rattle.std.specs.Int.{w16, w64, to_be_bytes, from_be_bytes}
use Rattle.model.specs.Record.{bytes, unsigned}

-- all eight of a number, and the last two
pub eight_bytes : (x : ℕ) → to_be_bytes w64 x ≡ bytes 8 x
eight_bytes x = rw (div-one x)

pub two_bytes : (x : ℕ) {l : List ℕ} → l ≡ to_be_bytes w64 x → get_or l 6 0 ∷ get_or l 7 0 ∷ [] ≡ bytes 2 x
two_bytes x e = rw (e, div-one x)

-- the number in two, and in eight
pub two-read : (l : List ℕ) → length l ≡ 2 → from_be_bytes w16 (get_or l 0 0 ∷ get_or l 1 0 ∷ []) ≡ unsigned l
two-read l h = grind (arith, common_steps)

pub eight-read : (l : List ℕ) → length l ≡ 8 → from_be_bytes w64 l ≡ unsigned l
eight-read l h = grind (arith, common_steps)
