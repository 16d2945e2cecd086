-- `record_read::fill` meets its contract: each value's numbers are the state's own field. Assumes nothing.
use mathlib.Core.Path.{◌≡◌, sym, ap, ap₂, ◌∙◌}
use mathlib.Core.List.{List}
use Prim.Native.Nat.{ℕ}
use lib.IntN.{ℤ}
use lib.ListN.{get_or}
use Rattle.model.specs.Grid.{tabulate, filled}
use Rattle.model.specs.State.{cells}
use Rattle.model.specs.Record.{value_of}
use Rattle.record_bytes.specs.declared.Size.{Size}
use Rattle.record_bytes.specs.declared.Size.TheVariants.{Two, Four}
use Rattle.record_bytes.specs.NumberSizes.{numbers_by}
use Rattle.record_tags.specs.Places.{parts_in, IsValue}
use Rattle.record_tests.specs.RecordTested.{state_read}
use Rattle.record_tests.proofs.ValueLaws.{h-is, b-is, u-is, v-is, barriers-are, value-numbers}
use Rattle.record_read.proofs.fill.Goals as goal

-- the numbers of a value are the field's
own : {rec value : List ℕ} {t : ℕ} → IsValue rec t value → (z : Size) (d : List ℤ) {m : ℕ} {f d' : List ℤ} → cells (state_read rec) ≡ m
    → f ≡ numbers_by z (cells (state_read rec)) (value_of t (parts_in rec)) → d' ≡ filled m (numbers_by z m value) d → d' ≡ filled (cells (state_read rec)) f d
own v z d {m} e p q = q ∙ ap₂ (λ n l. filled n l d) (sym e) (value-numbers v z (sym e) p)

-- its bytes are the barriers
own-bytes : {rec value : List ℕ} → IsValue rec 9 value → (d : List ℕ) {m : ℕ} {d' : List ℕ} → cells (state_read rec) ≡ m
    → d' ≡ filled m (tabulate m (λ k. get_or value k 0)) d → d' ≡ filled (cells (state_read rec)) (state_read rec).barriers d
own-bytes {rec} v d e q = q ∙ ap₂ (λ n l. filled n (tabulate n (λ k. get_or l k 0)) d) (sym e) v.is ∙ ap (λ l. filled (cells (state_read rec)) l d) (sym (barriers-are rec))

pub returns : goal.returns
returns c =
    let a = c.args in
    let e = c.requires.0 in
    λ i. record {
      h = own c.value_of.ensures Four a.h.now e (h-is a.rec.now.bytes.now) c.read_numbers.ensures i;
      b = own c.value_of-2.ensures Four a.b.now e (b-is a.rec.now.bytes.now) c.read_numbers-2.ensures i;
      u = own c.value_of-3.ensures Two a.u.now e (u-is a.rec.now.bytes.now) c.read_numbers-3.ensures i;
      v = own c.value_of-4.ensures Two a.v.now e (v-is a.rec.now.bytes.now) c.read_numbers-4.ensures i;
      barriers = own-bytes c.value_of-5.ensures a.barriers.now e c.read_bytes.ensures i;
    }
