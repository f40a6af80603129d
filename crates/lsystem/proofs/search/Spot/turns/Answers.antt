-- `Spot::turns`: the bits of the definition.
use mathlib.Core.Path.{refl}
use Rattle.strides.specs.Searches.{turns_at}
use Rattle.lsystem.proofs.search.Spot.turns.Goals as goal

pub returns : goal.returns
unfolding turns_at
returns c = refl
