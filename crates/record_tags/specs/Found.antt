-- What test 7 tells of a record.
use Rattle.std.specs.Prelude.{◌≡◌, List, ℕ, Result, Ok, Err}
use Rattle.model.specs.Record.{damaged, walked}
use Rattle.model.specs.declared.Refusal.{Refusal}
use Rattle.record_tags.specs.declared.Record.{Record}

-- the record itself, with the places of its tags, or that it is damaged
abbrev pub Found : List ℕ → Result Record Refusal → Type 0
Found rec (Ok r) = r.bytes.now ≡ rec
Found rec (Err r) = walked rec ≡ damaged r
