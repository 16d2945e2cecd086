-- The limits that a range of the code stands for.
use Rattle.model.specs.Numbers.{Limits, ◌to◌}
use Rattle.integers.specs.declared.Range.{Range}

abbrev pub between : Range → Limits
between r = r.least to r.most
