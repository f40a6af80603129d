-- `is_ascending`: what `is_sorted_by` answers is what the definition does.
use Rattle.std.proofs.Common.{ltb, rules, tests}
use Rattle.std.proofs.lemmas.List.Sorted.{answers_always}
use Rattle.fold.proofs.ListLaws.{ascends}
use Rattle.fold.proofs.folding.is_ascending.Goals as goal

pub returns : goal.returns
returns c = ascends c.args.positions.now _ (c.is_sorted_by.ensures.cases ltb (answers_always _ _ _ (λ f a r g h. search (rules, tests))))
