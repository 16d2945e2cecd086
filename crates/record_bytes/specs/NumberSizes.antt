-- Signed numbers by how many bytes they take: the model's `signed2`, `signed4`, `bytes2` and `bytes4` are these at two and at four.
use Rattle.std.specs.Prelude.{List, ℕ, ℤ}
use Rattle.std.specs.Int.{Width, w16, w32}
use Rattle.std.proofs.Common.{to_z, of_z}
use Rattle.model.specs.Record.{bytes, unsigned, numbers, each_by}
use Rattle.record_bytes.specs.declared.Size.{Size}
use Rattle.record_bytes.specs.declared.Size.TheVariants.{Two, Four}

abbrev pub size_of : Size → ℕ
size_of Two = 2
size_of Four = 4

abbrev pub width_of : Size → Width
width_of Two = w16
width_of Four = w32

abbrev pub signed_by : Size → List ℕ → ℤ
signed_by z l = to_z (width_of z) (unsigned l)

abbrev pub bytes_by : Size → ℤ → List ℕ
bytes_by z x = bytes (size_of z) (of_z (width_of z) x)

-- m numbers in a value, and the value of a field of numbers
abbrev pub numbers_by : Size → ℕ → List ℕ → List ℤ
numbers_by z m value = numbers (signed_by z) (size_of z) m value

abbrev pub value_by : Size → List ℤ → List ℕ
value_by z f = each_by (bytes_by z) f
