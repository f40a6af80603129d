-- Children that are tokens.
use Rattle.std.specs.Prelude.{List, ℕ, ◌<◌, get_or}
use Rattle.tables.specs.declared.Child.{Child}
use Rattle.tables.specs.Children.{no_child}

pub record Tokened (cs : List Child) : Type 0 where
  pub below : (d : ℕ) → d < 4 → (get_or cs d no_child).token < 52
