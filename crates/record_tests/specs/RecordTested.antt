-- What is read of a record that passes test 7, and what its tests find.
use Rattle.std.specs.Prelude.{◌≡◌, List, ℕ, None, Result, Ok, Err}
use Rattle.model.specs.State.{State, parameters_of}
use Rattle.model.specs.Record.{whole, walked, state_in, timestamp_in, record_test, refused, decode}
use Rattle.model.specs.declared.Parameters.{Parameters}
use Rattle.model.specs.declared.Refusal.{Refusal}
use Rattle.record_tags.specs.Places.{parts_in}
use Rattle.record_tags.specs.declared.Record.{Record}

-- the state that the fields of a record mean
unfoldable pub state_read : List ℕ → State
state_read rec = state_in (parts_in rec)

-- p is what tags 1 and 2 say
pub record Meant (rec : List ℕ) (p : Parameters) : Type 0 where
  pub parameters : p ≡ parameters_of (state_read rec)

-- all tests have passed, for destinations of so many places
pub record Accepted (rec rooms : List ℕ) : Type 0 where
  pub walks : walked rec ≡ whole (parts_in rec)
  pub passes : record_test (state_read rec) (timestamp_in (parts_in rec)) (parts_in rec) rooms ≡ None

-- what they find: the record, with the places of its tags, or the first refusal
abbrev pub Examined : List ℕ → List ℕ → Result Record Refusal → Type 0
Examined rec rooms (Ok r) = (r.bytes.now ≡ rec) × Accepted rec rooms
Examined rec rooms (Err r) = decode rec rooms ≡ refused r
