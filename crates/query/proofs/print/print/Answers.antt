-- The text's length decides whether it is put into the buffer.
use Rattle.query.proofs.PrintLaws.{print_laws}
use borrow.Author.Rules.{rules}
use Rattle.query.proofs.print.print.Goals as goal

pub slice_bounds-text-end : goal.slice_bounds-text-end
slice_bounds-text-end c = search (rules, print_laws)

pub slice_bounds-put_bytes-end : goal.slice_bounds-put_bytes-end
slice_bounds-put_bytes-end c = search (rules, print_laws)

pub returns-then-end-out : goal.returns-then-end-out
returns-then-end-out c = search (rules, print_laws)

pub returns : goal.returns
returns c = search (rules, print_laws)
