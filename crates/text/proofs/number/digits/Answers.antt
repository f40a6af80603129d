-- The digits one by one: those before the index wrote `value`, and the rest of the word after it gives what the whole gives.
use native.Mathlib.Omega.{arith}
use borrow.Author.Rules.{rules}
use Rattle.text.proofs.NumberLaws.{word_laws, shifted_most}
use Rattle.text.proofs.number.digits.Goals as goal

pub returns-then-d-base : goal.returns-then-d-base
returns-then-d-base c = search (rules, word_laws)

pub returns-then-value-before : goal.returns-then-value-before
returns-then-value-before c = search (rules, word_laws)

pub overflow_mul-shifted : goal.overflow_mul-shifted
overflow_mul-shifted c = omega (arith, shifted_most _ _ _ (omega arith) c.if-value-before.false)

pub overflow_sub-most : goal.overflow_sub-most
overflow_sub-most c = omega (arith, shifted_most _ _ _ (omega arith) c.if-value-before.false)

pub returns-then-d-most : goal.returns-then-d-most
returns-then-d-most c = search (rules, word_laws)

pub overflow_add-value : goal.overflow_add-value
overflow_add-value c = omega (arith, shifted_most _ _ _ (omega arith) c.if-value-before.false)

pub loop-b-preserved : goal.loop-b-preserved
loop-b-preserved c = search (rules, word_laws)

pub returns : goal.returns
returns c = search (rules, word_laws)
