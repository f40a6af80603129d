-- `code_byte`: the first byte, or the byte of the position that a shift brings down.
use native.Mathlib.Omega.{arith}
use borrow.Author.Rules.{rules}
use Rattle.code.specs.Codes.{code_length}
use Rattle.code.proofs.CodeLaws.{first_byte, later_byte}
use Rattle.code.proofs.code_byte.Goals as goal

pub returns-then-k-eq0 : goal.returns-then-k-eq0
returns-then-k-eq0 c = search (rules, first_byte)

pub overflow_sub-later : goal.overflow_sub-later
unfolding code_length
overflow_sub-later c = omega arith

pub returns : goal.returns
returns c = search (rules, later_byte)
