-- `word::mirrored` swaps what the definition swaps: each arm by the range that the byte is in.
use Rattle.grammar.proofs.WordByteLaws.{bytes}
use borrow.Author.Rules.{rules}
use Rattle.grammar.proofs.word.mirrored.Goals as goal

pub returns-in-43 : goal.returns-in-43
returns-in-43 c = search (rules, bytes)

pub returns-in-45 : goal.returns-in-45
returns-in-45 c = search (rules, bytes)

pub returns-in-65-to-90 : goal.returns-in-65-to-90
returns-in-65-to-90 c = search (rules, bytes)

pub returns-in-97-to-122 : goal.returns-in-97-to-122
returns-in-97-to-122 c = search (rules, bytes)

pub returns-in_default : goal.returns-in_default
returns-in_default c = search (rules, bytes)

pub returns-in_default-2 : goal.returns-in_default-2
returns-in_default-2 c = search (rules, bytes)

pub returns-in_default-3 : goal.returns-in_default-3
returns-in_default-3 c = search (rules, bytes)
