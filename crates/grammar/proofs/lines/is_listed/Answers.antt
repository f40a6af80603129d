-- `lines::is_listed` asks all lines for the letter in uppercase.
use mathlib.Core.Path.{◌∙◌}
use native.Mathlib.Omega.{arith}
use Rattle.grammar.proofs.WordByteLaws.{upper_ascii}
use Rattle.grammar.proofs.TallyLaws.{listed}
use Rattle.grammar.proofs.lines.is_listed.Goals as goal

pub is_named-requires : goal.is_named-requires
is_named-requires c = omega (arith, c.min.ensures)

pub returns : goal.returns
returns c = listed _ c.args.b c.is_named.ensures (c.to_ascii_uppercase.ensures.value ∙ upper_ascii c.args.b) c.min.ensures
