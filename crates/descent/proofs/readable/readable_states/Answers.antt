-- `readable_states`: every state by its own part of the table.
use mathlib.Core.Path.{refl, ◌∙◌}
use native.Mathlib.Omega.{arith}
use borrow.Author.Rules.{rules}
use Rattle.std.proofs.lemmas.Iterator.{YieldsList-from_range}
use Rattle.std.proofs.lemmas.Iterator.Search.{all_from_yields_List}
use Rattle.tables.specs.Descent.{readable_state}
use Rattle.descent.proofs.TableTestLaws.{all_numbers, part_readable}
use Rattle.descent.proofs.readable.readable_states.Goals as goal

pub returns : goal.returns
returns c =
    let test = readable_state c.args.table.now c.args.states in
    all_from_yields_List test _ _ c.all.result c.all.ensures.ran (YieldsList-from_range 0 c.args.states c.args.states refl (omega arith)) (λ k b q called. search (rules, part_readable))
    ∙ all_numbers test c.args.states
