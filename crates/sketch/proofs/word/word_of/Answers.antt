-- `word::word_of`: by the passes that are left.
use Rattle.sketch.proofs.MarkLaws.{word_none, word_draw, word_rule}
use Rattle.sketch.proofs.word.word_of.Goals as goal

pub returns-then-left-eq0 : goal.returns-then-left-eq0
returns-then-left-eq0 c = word_none _ _ c.if-left-eq0.true

pub returns-then-left-eq1 : goal.returns-then-left-eq1
returns-then-left-eq1 c = word_draw _ c.args.b c.to_ascii_uppercase.ensures.value c.if-left-eq1.true c.words_of-words.ensures.1

pub returns : goal.returns
returns c = word_rule _ c.args.b c.to_ascii_uppercase.ensures.value c.if-left-eq0.false c.if-left-eq1.false c.words_of-words.ensures.0
