-- `tokens::with_listed` keeps the byte that is a letter of a listed motif.
use Rattle.tables.proofs.SourceLaws.{listed_yes, listed_no}
use Rattle.tables.proofs.tokens.with_listed.Goals as goal

pub returns-then-is_listed : goal.returns-then-is_listed
returns-then-is_listed c = listed_yes c.args.source c.args.b c.is_listed.ensures c.if-is_listed.true c.with_token.result c.with_token.ensures

pub returns : goal.returns
returns c = listed_no c.args.source c.args.b c.is_listed.ensures c.if-is_listed.false
