-- `Grammar::children` goes along the token's rule, which has four children.
use Rattle.tables.proofs.RuleChildLaws.{rule_four, rule_along}
use Rattle.tables.proofs.accepted.Grammar.children.Goals as goal

pub along-requires : goal.along-requires
along-requires c = rule_four c.args.self.now.ready c.args.token c.requires c.rule_into-n.result c.rule_into-n.new.out c.rule_into-n.ensures.0

pub returns : goal.returns
returns c = rule_along c.args.self.now.ready c.args.token c.requires c.rule_into-n.result c.rule_into-n.new.out c.rule_into-n.ensures.0 c.along.ensures
