-- Words and lines put one after the other. Assumes nothing.
use Rattle.std.specs.Prelude.{◌≡◌, List, ◌++◌, ℕ, zero, suc, ◌+◌}
use Rattle.std.proofs.Common.{sym, ap, ◌∙◌, append_assoc, append-nil, add-one}
use Rattle.model.specs.Grid.{tabulate}
use Rattle.model.specs.Program.{lines}

-- a line more
pub lines_more : (k : ℕ) (f : ℕ → List ℕ) → lines (tabulate (k + 1) f) ≡ lines (tabulate k f) ++ f k
lines_more k f = ap (λ m. lines (tabulate m f)) (add-one k) ∙ last k f
  where
    last : (k : ℕ) (f : ℕ → List ℕ) → lines (tabulate (suc k) f) ≡ lines (tabulate k f) ++ f k
    last zero f = append-nil (f 0)
    last (suc k) f = ap (λ l. f 0 ++ l) (last k (λ i. f (suc i))) ∙ sym (append_assoc (f 0) (lines (tabulate k (λ i. f (suc i)))) (f (suc k)))
