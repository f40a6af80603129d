-- `descend_table`: 26, and then what is told of the part.
use Rattle.descent.proofs.LevelStateLaws.{by_part}
use borrow.Author.Rules.{rules}
use Rattle.descent.proofs.descend_table.Goals as goal

pub returns-then-is_past : goal.returns-then-is_past
returns-then-is_past c = search (rules, by_part)

pub overflow_mul-end : goal.overflow_mul-end
overflow_mul-end c = search (rules, by_part)

pub overflow_add-end : goal.overflow_add-end
overflow_add-end c = search (rules, by_part)

pub offset_bounds-table-start : goal.offset_bounds-table-start
offset_bounds-table-start c = search (rules, by_part)

pub slice_bounds-descend_part-end : goal.slice_bounds-descend_part-end
slice_bounds-descend_part-end c = search (rules, by_part)

pub returns : goal.returns
returns c = search (rules, by_part)
