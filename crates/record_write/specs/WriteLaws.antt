-- Laws of the writer, over plain lists: its parts, one after the other, are the record; and what its tests give.
-- Assumes nothing.
use Rattle.std.specs.Prelude.{◌≡◌, List, [], ◌∷◌, ◌++◌, ℕ, zero, suc, ◌≤◌, ◌<◌, ℤ, pos, length, get_or, take, drop}
use Rattle.std.proofs.Common.{sym, ap, ap₂, subst, length-take-le, take-append-drop, ◌∙◌, append_assoc, append-nil, arith, lit<, SFits}
use Rattle.std.specs.Int.{w16, w32, w64}
use Rattle.integers.specs.Bounds.{held}
use Rattle.model.specs.Grid.{filled}
use Rattle.model.specs.State.{State, state_of}
use Rattle.model.specs.Record.{bytes, bytes2, bytes4, each_by, parts_of, encode, record_length}
use Rattle.model.specs.Promises.{answer_of, write_tests, write_test}
use Rattle.model.specs.declared.Parameters.{Parameters}
use Rattle.model.specs.declared.Timestamp.{Timestamp}
use Rattle.std.specs.Prelude.{Ok}
use Rattle.theorems.specs.Truth.{◌⟫◌}
use Rattle.theorems.specs.TestLaws.{passes}
use Rattle.theorems.specs.Limits.{write-iff}
use Rattle.theorems.specs.NumbersAsBytes.{EachFits}
use Rattle.theorems.specs.RoundTrip.{each_fits, depth-fits, bottom-fits, velocity-fits, gravity-fits, coriolis-fits, ratio-fits, length-encode}
use Rattle.tests.specs.Links.{accepted-none}
use Rattle.record_bytes.specs.declared.Size.TheVariants.{Four}
use Rattle.record_bytes.specs.ByteLoops.{number-held}
use Rattle.record_bytes.specs.declared.Writer.{Writer}
use Rattle.record_bytes.specs.Puts.{written, ahead, HasRoom, Puts, puts_then}
use Rattle.record_write.specs.FieldBytes.{field_of, constants_of, scalars_of, fields_of, milliseconds_of, barriers_of, ScalarsReady, FieldsReady, WriteReady}

-- ---- fields

-- a head, and behind it a value of the length that it tells, are a field
pub field_put : {w v u : Writer} {tag m : ℕ} {value : List ℕ} → length value ≡ m → Puts w (tag ∷ bytes 2 m) v → Puts v value u → Puts w (field_of tag value) u
unfolding field_of
field_put {w} {u = u} {tag} {value = value} l p q = subst (λ n. Puts w ((tag ∷ bytes 2 n) ++ value) u) (sym l) (puts_then p q)

-- one field after four
four-then : (a b c d e : List ℕ) → (a ++ (b ++ (c ++ d))) ++ e ≡ a ++ (b ++ (c ++ (d ++ e)))
four-then a b c d e = append_assoc a (b ++ (c ++ d)) e ∙ ap (λ l. a ++ l) (append_assoc b (c ++ d) e ∙ ap (λ l. b ++ l) (append_assoc c d e))

-- ---- the whole record, of a state within the limits

three-fit : {g c r : ℤ} → SFits w32 g → SFits w32 c → SFits w32 r → EachFits w32 (g ∷ c ∷ r ∷ [])
three-fit {g} {c} {r} x y z = record { each = each }
  where
    each : (k : ℕ) → k < 3 → SFits w32 (get_or (g ∷ c ∷ r ∷ []) k (pos 0))
    each zero l = x
    each (suc zero) l = y
    each (suc (suc zero)) l = z
    each (suc (suc (suc k))) l = absurd (omega arith)

-- as the machine holds them, they are the same
module _ {g c r : ℤ} (e : EachFits w32 (g ∷ c ∷ r ∷ [])) where
  held-are : g ∷ c ∷ r ∷ [] ≡ held w64 g ∷ held w64 c ∷ held w64 r ∷ []
  held-are = rw (number-held Four (e.each 0 (lit< tt)), number-held Four (e.each 1 (lit< tt)), number-held Four (e.each 2 (lit< tt)))

  pub constants-room : {w : Writer} → HasRoom w (constants_of (g ∷ c ∷ r ∷ [])) → HasRoom w (constants_of (held w64 g ∷ held w64 c ∷ held w64 r ∷ [])) × EachFits w32 (held w64 g ∷ held w64 c ∷ held w64 r ∷ [])
  constants-room {w} h = subst (λ l. HasRoom w (constants_of l) × EachFits w32 l) held-are (h, e)

  pub constants-put : {w v : Writer} → Puts w (constants_of (held w64 g ∷ held w64 c ∷ held w64 r ∷ [])) v → Puts w (constants_of (g ∷ c ∷ r ∷ [])) v
  constants-put {w} {v} p = subst (λ l. Puts w (constants_of l) v) (sym held-are) p

module _ (p : Parameters) (h b u v : List ℤ) (barriers : List ℕ) where
  abbrev state : State
  state = state_of p h b u v barriers

  pub scalars-ready : {d : List ℕ} → WriteReady state d → ScalarsReady p
  scalars-ready q =
      let l = q.state in
      record {
        columns = omega (arith, l.columns.most);
        rows = omega (arith, l.rows.most);
        constants = three-fit (gravity-fits p.g l.gravity) (coriolis-fits p.c l.coriolis) (ratio-fits p.r l.ratio);
      }

  pub fields-ready : {d : List ℕ} → WriteReady state d → FieldsReady h b u v
  fields-ready q =
      let l = q.state in
      record {
        depths = each_fits w32 depth-fits l.depths;
        bottoms = each_fits w32 bottom-fits l.bottoms;
        us = each_fits w16 velocity-fits l.us;
        vs = each_fits w16 velocity-fits l.vs;
      }

  -- all fields of the record
  abbrev pub joined_fields : Timestamp → List ℕ
  joined_fields t = scalars_of p t.seconds ++ (fields_of h b u v ++ (milliseconds_of t.milliseconds ++ barriers_of barriers))

  parts-joined : (t : Timestamp) → joined_fields t ≡ encode state t
  unfolding encode parts_of field_of
  parts-joined t =
      let four = field_of 4 (each_by bytes4 h) in
      let five = field_of 5 (each_by bytes4 b) in
      let six = field_of 6 (each_by bytes2 u) in
      let seven = field_of 7 (each_by bytes2 v) in
      let eight = milliseconds_of t.milliseconds in
      ap (λ l. scalars_of p t.seconds ++ l)
      (four-then four five six seven (eight ++ barriers_of barriers)
      ∙ ap (λ l. four ++ (five ++ (six ++ (seven ++ (eight ++ ((9 ∷ bytes 2 (length barriers)) ++ l)))))) (sym (append-nil barriers)))

  record-long : (t : Timestamp) {d : List ℕ} → WriteReady state d → length (joined_fields t) ≡ record_length state
  record-long t q = ap length (parts-joined t) ∙ length-encode state q.state t

  pub record-room : (t : Timestamp) {d : List ℕ} → WriteReady state d → length (joined_fields t) ≤ length d
  record-room t q = omega (arith, record-long t q, q.room)

  -- put from the front on, they are the record
  pub record-put : (t : Timestamp) {w v : Writer} → WriteReady state w.out.now → w.at ≡ 0 → Puts w (joined_fields t) v
      → (v.at ≡ record_length state) × (v.out.now ≡ filled (record_length state) (encode state t) w.out.now)
  record-put t {w} {v} q e p =
      let l = joined_fields t in
      let put : written v ≡ l = p.put ∙ ap (λ k. take k w.out.now ++ l) e in
      let rest : ahead v ≡ drop (record_length state) w.out.now = p.rest ∙ rw (e, record-long t q) in (
        sym (length-take-le v.at v.out.now v.within) ∙ ap length put ∙ record-long t q,
        sym (take-append-drop v.at v.out.now) ∙ ap₂ ◌++◌ (put ∙ parts-joined t) rest,
      )

-- ---- the tests have passed

module _ (s : State) (t : Timestamp) (d : List ℕ) where
  pub write_ready : (Ok tt) ≡ answer_of (write_test s t (length d)) → WriteReady s d
  unfolding write_test
  write_ready e =
      let a = (passes (write_tests s t (length d)) ⟫ write-iff s t (length d)).0 (accepted-none (write_test s t (length d)) e) in
      record { state = a.0; room = a.2 }
