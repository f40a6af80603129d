-- The place after the number says whether it is written: the space, the sign, and the digits.
use Rattle.text.proofs.PutLaws.{number_laws, minus_room}
use borrow.Author.Rules.{rules}
use Rattle.text.proofs.put.put_digits.Goals as goal

pub overflow_add-from : goal.overflow_add-from
overflow_add-from g c = search (rules, number_laws)

pub overflow_add-from-2 : goal.overflow_add-from-2
overflow_add-from-2 g c = search (rules, number_laws)

pub returns-then-end-out : goal.returns-then-end-out
returns-then-end-out g c = search (rules, number_laws)

pub write_lead-after_space-requires : goal.write_lead-after_space-requires
write_lead-after_space-requires g c = search (rules, number_laws)

pub write_lead-after_minus-requires : goal.write_lead-after_minus-requires
write_lead-after_minus-requires g c = search (rules, minus_room)

pub write_digits-requires : goal.write_digits-requires
write_digits-requires g c = search (rules, number_laws)

pub returns : goal.returns
returns g c = search (rules, number_laws)
