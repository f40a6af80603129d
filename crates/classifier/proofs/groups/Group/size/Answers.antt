-- `Group::size` counts the digits that it has.
use Rattle.std.proofs.Common.{rules}
use Rattle.classifier.proofs.SetLaws.{size_is}
use Rattle.classifier.proofs.groups.Group.size.Goals as goal

pub returns : goal.returns
returns c = size_is c.args.self.now.children.now _ (search rules) (search rules)
