-- `tally::rule_word` tallies a rule's bytes, each by `rule_byte`.
use Rattle.grammar.specs.Inside.Places.{lines_by}
use borrow.Author.Rules.{rules}
use Rattle.grammar.proofs.TallyLaws.{rule_tallied}
use Rattle.grammar.proofs.tally.rule_word.Goals as goal

pub returns : goal.returns
returns c = λ text. rule_tallied (lines_by text c.args.lines) _ (λ b k h. search rules) c.args.w.now _ c.tallied.ensures
