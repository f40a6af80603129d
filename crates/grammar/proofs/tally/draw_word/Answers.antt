-- `tally::draw_word` tallies a draw's bytes, each by `draw_byte`.
use borrow.Author.Rules.{rules}
use Rattle.grammar.proofs.TallyLaws.{draw_tallied}
use Rattle.grammar.proofs.tally.draw_word.Goals as goal

pub returns : goal.returns
returns c = draw_tallied _ (λ b k h. search rules) c.args.w.now _ c.tallied.ensures
