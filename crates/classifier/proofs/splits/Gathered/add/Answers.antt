-- `Gathered::add` looks for the line first.
use Rattle.classifier.proofs.GatherLaws.{held_room, more_kept, more_view, there}
use Rattle.classifier.proofs.splits.Gathered.add.Goals as goal

pub bounds-self-inside-self-inside : goal.bounds-self-inside-self-inside
bounds-self-inside-self-inside c = held_room c.self.invariant c.self.view_is c.requires

pub invariant_of-self : goal.invariant_of-self
invariant_of-self c = more_kept c.self.invariant c.self.view_is c.args.s c.requires

pub returns-then-index_of-self : goal.returns-then-index_of-self
returns-then-index_of-self c = more_view c.self.invariant c.self.view_is c.args.s c.requires c.index_of.ensures.place c.if-index_of-self.true

pub returns-else-index_of-self : goal.returns-else-index_of-self
returns-else-index_of-self c = there c.self.invariant c.self.view_is c.args.s c.index_of.ensures.place c.if-index_of-self.false
