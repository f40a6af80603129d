-- `all_inside`: by every entry, or by the last.
use Rattle.std.proofs.Common.{◌≡◌, true, sym, ◌∙◌, rules, arith}
use Rattle.fold.specs.Folds.{ascending}
use Rattle.fold.proofs.ListLaws.{none_below, last_below}
use Rattle.fold.proofs.folding.all_inside.Goals as goal

pub returns-in-Some : goal.returns-in-Some
returns-in-Some c =
    let xs = c.args.positions.now in
    let up : ascending xs ≡ true = sym c.requires ∙ c.if-not-ordered.false in
    let last = c.in-Some.ensures.item.3 in
    rw (last.1 0) (last_below c.args.limit xs up (omega (arith, last.0)))

pub returns-in-None : goal.returns-in-None
returns-in-None c = search (rules, none_below)
