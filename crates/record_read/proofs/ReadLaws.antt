-- From the tests of a record, as the code makes them, to the reader's promise. Assumes nothing.
use mathlib.Core.Path.{◌≡◌, refl, sym, ap, ap₂, subst, ◌∙◌}
use mathlib.Core.Bool.{Bool, true, false, ◌&&◌}
use mathlib.Core.List.{List, [], ◌∷◌}
use Rattle.std.specs.Prelude.{Option}
use Prim.Native.Nat.{ℕ, ◌≤◌, min}
use native.Mathlib.Omega.{arith}
use lib.Dec.{leb}
use lib.ListN.{length}
use borrow.Author.Tests.{leb-true, leb-false, le-leb, lt-leb}
use Rattle.grid.specs.Cells
use Rattle.model.specs.State.{State, Fields, parameters_of, cells}
use Rattle.model.specs.Answers.{told_read}
use Rattle.model.specs.Tests.{must, ◌then◌, first_found}
use Rattle.model.specs.Refusals.{room_tests}
use Rattle.model.specs.Record.{timestamp_in, Decoded, accepted, refused, judged, decode}
use Rattle.model.specs.Promises.{read_answer, rooms_in, put, read_into, read_of, ReadPromise}
use Rattle.model.specs.Claims.{EachRoom, BytesOf}
use Rattle.model.specs.declared.Parameters.{Parameters}
use Rattle.model.specs.declared.Timestamp.{Timestamp}
use Rattle.model.specs.declared.Refusal.{Refusal}
use Rattle.model.specs.declared.Refusal.TheVariants.{Destination}
use Rattle.std.specs.Prelude.{Ok, Err}
use Rattle.model.specs.Answers.{header}
use Rattle.theorems.specs.Damage.{whole-iff}
use Rattle.theorems.specs.RoundTrip.{Fit, fields-iff}
use Rattle.theorems.specs.Rewrite.{decoded-within}
use Rattle.record_tags.specs.Places.{parts_in}
use Rattle.record_tests.specs.RecordTested.{state_read, Accepted}
use Rattle.record_tests.proofs.OrderLaws.{decoded, rooms-alike}

-- ---- the shortest destination stands for all five

room-both : (m a b : ℕ) → leb m (min a b) ≡ (leb m a && leb m b)
room-both m a b = by (leb m a) refl (leb m b) refl
  where
    by : (x : Bool) → leb m a ≡ x → (y : Bool) → leb m b ≡ y → leb m (min a b) ≡ (x && y)
    by true p true q = let h = leb-true m a p in let k = leb-true m b q in le-leb m (min a b) (omega arith)
    by true p false q = let k = leb-false m b q in lt-leb m (min a b) (omega arith)
    by false p y q = let h = leb-false m a p in lt-leb m (min a b) (omega arith)

ask-both : (x y : Bool) (r : Refusal) (o : Option Refusal) → must (x && y) r then o ≡ must x r then (must y r then o)
ask-both true y r o = refl
ask-both false y r o = refl

room-two : (m a b : ℕ) (l : List ℕ) → first_found (room_tests m (min a b ∷ l)) ≡ first_found (room_tests m (a ∷ b ∷ l))
room-two m a b l = ap (λ t. must t Destination then first_found (room_tests m l)) (room-both m a b) ∙ ask-both (leb m a) (leb m b) Destination (first_found (room_tests m l))

rooms-least : (m a b c d e : ℕ) → first_found (room_tests m (min (min (min (min a b) c) d) e ∷ [])) ≡ first_found (room_tests m (a ∷ b ∷ c ∷ d ∷ e ∷ []))
rooms-least m a b c d e =
    room-two m (min (min (min a b) c) d) e []
    ∙ room-two m (min (min a b) c) d (e ∷ [])
    ∙ room-two m (min a b) c (d ∷ e ∷ [])
    ∙ room-two m a b (c ∷ d ∷ e ∷ [])

-- the room in the shortest of the five
abbrev pub least : Fields → ℕ
least d = min (min (min (min (length d.h) (length d.b)) (length d.u)) (length d.v)) (length d.barriers)

-- ---- a record that passes every test

module _ {rec : List ℕ} where
  fits : {rooms : List ℕ} → Accepted rec rooms → Fit (state_read rec) (timestamp_in (parts_in rec)) (parts_in rec) rooms
  unfolding state_read
  fits {rooms} a = (fields-iff (parts_in rec) rooms ((whole-iff rec (parts_in rec)).0 a.walks).1).0 a.passes

  pub bytes_of : {rooms : List ℕ} → Accepted rec rooms → BytesOf (cells (state_read rec)) (parts_in rec)
  bytes_of a = (fits a).0

  pub cells-most : {rooms : List ℕ} → Accepted rec rooms → cells (state_read rec) ≤ 4096
  cells-most a = let l = (fits a).3 in Cells.cells-most l.columns l.rows

  read_as : {rooms : List ℕ} → Accepted rec rooms → decode rec rooms ≡ accepted (state_read rec) (timestamp_in (parts_in rec))
  read_as {rooms} a = decoded rec rooms a.walks ∙ ap (λ o. judged o (state_read rec) (timestamp_in (parts_in rec))) a.passes

-- from what `examine` finds, with the shortest destination, to the promise
module _ (rec : List ℕ) (d : Fields) {r : ℕ} (l : r ≡ least d) where
  alike : read_of rec d ≡ decode rec (r ∷ [])
  unfolding read_of
  alike =
      sym (ap (λ r. decode rec (r ∷ [])) l
      ∙ rooms-alike rec (least d ∷ []) (rooms_in d) (λ s k. rooms-least (cells s) (length d.h) (length d.b) (length d.u) (length d.v) (length d.barriers)))

  promised : (o : Decoded) {d' : Fields} → read_of rec d ≡ o → d' ≡ read_into o d → ReadPromise rec d (read_answer o) d'
  promised o e f = let a = sym (ap read_answer e) in record { answers = a; tells = ap told_read a; fills = f ∙ sym (ap (λ o. read_into o d) e) }

  pub read-refused : {w : Refusal} → decode rec (r ∷ []) ≡ refused w → ReadPromise rec d (Err w) d
  read-refused {w} e = promised (refused w) (alike ∙ e) refl

  module _ (a : Accepted rec (r ∷ [])) where
    abbrev s : State
    s = state_read rec

    read-accepted : read_of rec d ≡ accepted s (timestamp_in (parts_in rec))
    read-accepted = alike ∙ read_as a

    pub read-room : EachRoom (cells s) (rooms_in d)
    unfolding read_of
    read-room = (decoded-within rec (rooms_in d) s (timestamp_in (parts_in rec)) read-accepted).1

    pub read_done : {p : Parameters} {t : Timestamp} {d' : Fields} → p ≡ parameters_of s → t ≡ timestamp_in (parts_in rec) → d' ≡ put s d → ReadPromise rec d (Ok (header p t)) d'
    read_done {d' = d'} e f x = subst (λ a. ReadPromise rec d a d') (sym (ap₂ (λ p t. Ok (header p t)) e f)) (promised (accepted s (timestamp_in (parts_in rec))) read-accepted x)
