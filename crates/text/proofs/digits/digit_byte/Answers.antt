-- A digit below ten, and one from ten on.
use Rattle.text.proofs.DigitLaws.{byte_small, byte_large}
use borrow.Author.Rules.{rules}
use Rattle.text.proofs.digits.digit_byte.Goals as goal

pub returns-then-d-lt10 : goal.returns-then-d-lt10
returns-then-d-lt10 c = search (rules, byte_small, byte_large)

pub returns : goal.returns
returns c = search (rules, byte_small, byte_large)
