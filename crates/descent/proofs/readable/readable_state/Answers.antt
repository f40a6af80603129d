-- `readable_state`: its three ranges.
use mathlib.Core.Path.{sym, ◌∙◌}
use Rattle.std.proofs.Common.{rules, tests}
use Rattle.std.proofs.lemmas.Iterator.{YieldsList-from_slice}
use Rattle.std.proofs.lemmas.Iterator.Search.{all_from_yields_List}
use Rattle.tables.specs.Descent.{readable_child, readable_size, readable_flavor}
use Rattle.descent.proofs.TableTestLaws.{state_children, state_sizes, state_flavors}
use Rattle.descent.proofs.readable.readable_state.Goals as goal
use Rattle.descent.proofs.readable.readable_state.Goals.{then-all, else-all}

pub returns-then-all-2 : goal.returns-then-all-2
returns-then-all-2 c =
    let t = c.args.part.now in
    let children = all_from_yields_List (readable_child c.args.states) _ _ c.all.result c.all.ensures.ran (YieldsList-from_slice _ c.iter.ensures.rest) (λ e b q called. search (rules, tests)) in
    let flavors = all_from_yields_List readable_flavor _ _ c.all-then-all-2.result c.all-then-all-2.ensures.ran (YieldsList-from_slice _ c.iter-then-all-2.ensures.rest) (λ e b q called. search (rules, tests)) in
    elim c.if-all.branch [
      | then-all w ↦ (let sizes = all_from_yields_List readable_size _ _ w.all-then-all.result w.all-then-all.ensures.ran (YieldsList-from_slice _ w.iter-then-all.ensures.rest) (λ e b q called. search (rules, tests)) in state_flavors t c.args.states c.requires.1 children w.if-all.true sizes (sym w.value-is ∙ c.if-all-2.true) flavors)
      | else-all w ↦ cc
    ]

pub returns-else-all-2 : goal.returns-else-all-2
returns-else-all-2 c =
    let t = c.args.part.now in
    let children = all_from_yields_List (readable_child c.args.states) _ _ c.all.result c.all.ensures.ran (YieldsList-from_slice _ c.iter.ensures.rest) (λ e b q called. search (rules, tests)) in
    elim c.if-all.branch [
      | then-all w ↦ (let sizes = all_from_yields_List readable_size _ _ w.all-then-all.result w.all-then-all.ensures.ran (YieldsList-from_slice _ w.iter-then-all.ensures.rest) (λ e b q called. search (rules, tests)) in c.if-all-2.false ∙ state_sizes t c.args.states c.requires.1 children w.if-all.true sizes (sym w.value-is ∙ c.if-all-2.false))
      | else-all w ↦ c.if-all-2.false ∙ state_children t c.args.states c.requires.1 children w.if-all.false
    ]
