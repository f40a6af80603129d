-- `tokens::with_token` puts the byte behind the tokens so far.
use mathlib.Core.Path.{refl}
use Rattle.tables.specs.Inside.Sources.{letters_in}
use Rattle.tables.proofs.SourceLaws.{token_more}
use Rattle.tables.proofs.tokens.with_token.Goals as goal

pub returns : goal.returns
unfolding letters_in
returns c = (refl, (refl, token_more c.args.source c.args.b c.requires))
