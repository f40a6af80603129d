-- The lines that are gathered, as the code has them: the first of an array, and zero behind them.
use Rattle.std.specs.Prelude.{◌≡◌, List, ◌≤◌, take}
use Rattle.classifier.specs.declared.Separator.{Separator}
use Rattle.classifier.specs.declared.splits.Gathered.TheInside.{Inside}
use Rattle.classifier.specs.Inside.Sets.{Lines, three_of}

unfoldable pub gathered_lines : Inside → List Separator
gathered_lines g = take g.count g.lines

abbrev pub gathered : Inside → Lines
gathered g = record { lines = gathered_lines g; whole = g.whole }

pub record Kept (g : Inside) : Type 0 where
  pub is : g.lines ≡ three_of (gathered_lines g)
  pub few : g.count ≤ 3
