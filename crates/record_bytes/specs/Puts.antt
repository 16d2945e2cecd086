-- Bytes put into a lent slice, one after the other. Assumes nothing.
use Rattle.std.specs.Prelude.{◌≡◌, List, ◌++◌, ◌≤◌, ℕ, length, take, drop}
use Rattle.std.proofs.Common.{ap, sym, ◌∙◌, append_assoc, drop-drop, length-append, length-drop, arith}
use Rattle.record_bytes.specs.declared.Writer.{Writer}

-- the bytes that are put so far, and those that stand in the places after them
abbrev pub written : Writer → List ℕ
written w = take w.at w.out.now

abbrev pub ahead : Writer → List ℕ
ahead w = drop w.at w.out.now

-- there is room for l
pub record HasRoom (w : Writer) (l : List ℕ) : Type 0 where
  pub room : length l ≤ length (ahead w)

-- what a put of l leaves: l put too, the places after it as they were, and the slice the same
pub record Puts (w : Writer) (l : List ℕ) (v : Writer) : Type 0 where
  pub put : written v ≡ written w ++ l
  pub rest : ahead v ≡ drop (length l) (ahead w)
  pub same : v.out.ghost_name ≡ w.out.ghost_name

module _ {w : Writer} {x : List ℕ} where
  -- the room for the first of two puts, and then for the second
  pub room-first : (y : List ℕ) → HasRoom w (x ++ y) → HasRoom w x
  room-first y h = record { room = omega (arith, length-append x y, h.room) }

  pub room-then : {y : List ℕ} {v : Writer} → Puts w x v → HasRoom w (x ++ y) → HasRoom v y
  room-then {y} p h = record { room = omega (arith, length-append x y, ap length p.rest, length-drop (length x) (ahead w), h.room) }

  -- which are one put
  pub puts_then : {y : List ℕ} {v u : Writer} → Puts w x v → Puts v y u → Puts w (x ++ y) u
  puts_then {y} p q = record {
    put = q.put ∙ ap (λ l. l ++ y) p.put ∙ append_assoc (written w) x y;
    rest = q.rest ∙ ap (drop (length y)) p.rest ∙ drop-drop (length y) (length x) (ahead w) ∙ ap (λ n. drop n (ahead w)) (sym (length-append x y));
    same = q.same ∙ p.same;
  }

pub ruleset puts = (room-first, room-then, puts_then)
