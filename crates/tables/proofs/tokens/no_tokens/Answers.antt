-- `tokens::no_tokens` has no token yet.
use mathlib.Core.Path.{refl}
use Rattle.tables.specs.Inside.Sources.{letters_in}
use Rattle.tables.proofs.tokens.no_tokens.Goals as goal

pub returns : goal.returns
unfolding letters_in
returns c = (refl, (refl, refl))
