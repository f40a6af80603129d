-- `joined`: the number so far, with the bits of what is left after it, is the whole number.
use borrow.Author.Rules.{rules}
use Rattle.code.proofs.ByteLaws.{joining}
use Rattle.code.proofs.joined.Goals as goal

pub with_byte-v-requires : goal.with_byte-v-requires
with_byte-v-requires c = search (rules, joining)

pub loop-b-preserved : goal.loop-b-preserved
loop-b-preserved c = search (rules, joining)

pub returns : goal.returns
returns c = search (rules, joining)
