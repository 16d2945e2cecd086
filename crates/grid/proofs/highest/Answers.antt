-- `grid::highest` meets its contract: the greatest byte is one of the bytes, and where there is none, 0 stands at each place. Assumes
-- nothing.
use Rattle.std.proofs.Common.{rules, ◌≡◌, ◌≤◌, ℕ, List, length, get_or, arith, All, Contains, IfSome, IsNone, Option, Some, None}
use Rattle.std.specs.Option.{unwrap_or}
use Rattle.std.proofs.lemmas.List.{get_or_past}
use Rattle.std.proofs.lemmas.List.Elements.{All-get_or}
use Rattle.std.proofs.lemmas.Grind.{common_steps}
use Rattle.grid.proofs.highest.Goals as goal

top : (xs : List ℕ) (r : Option ℕ) → (IsNone r → length xs ≡ 0) → IfSome r (λ m. All (λ x. x ≤ m) xs) → IfSome r (Contains xs)
    → ((k : ℕ) → get_or xs k 0 ≤ unwrap_or r 0) × ((k : ℕ) × (get_or xs k 0 ≡ unwrap_or r 0))
top xs None n a c = grind (arith, common_steps, get_or_past)
top xs (Some m) n a c = grind (arith, common_steps, All-get_or)

pub returns : goal.returns
returns c = rw c.unwrap_or.ensures (top c.args.bytes.now c.max.result (search rules) (search rules) (search rules))
