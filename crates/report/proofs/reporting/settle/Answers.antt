-- `settle`: in order, each once, and zeros behind.
use borrow.Author.Rules.{rules}
use Rattle.report.proofs.SettleLaws.{settles}
use Rattle.report.proofs.reporting.settle.Goals as goal

pub order-requires : goal.order-requires
order-requires c = search (rules, settles)

pub returns : goal.returns
returns c =
    let zeros = c.fill.ensures.after (λ y e. e) in
    search (rules, settles)
