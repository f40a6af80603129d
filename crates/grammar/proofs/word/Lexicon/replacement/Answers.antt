-- `Lexicon::replacement` gives the way that the definition takes: by what each of the two searches found.
use mathlib.Core.Path.{◌∙◌}
use Rattle.grammar.proofs.WordByteLaws.{upper_ascii}
use Rattle.grammar.proofs.BookLaws.{word_along, word_back, word_itself}
use Rattle.grammar.proofs.word.Lexicon.replacement.Goals as goal

pub returns-in-Some : goal.returns-in-Some
returns-in-Some c = word_along _ _ c.in-Some.ensures

pub returns-in-Some-find : goal.returns-in-Some-find
returns-in-Some-find c = word_back _ _ c.in_default.ensures (c.to_ascii_uppercase.ensures.value ∙ upper_ascii c.args.b) c.in-Some-find.ensures

pub returns-in-None : goal.returns-in-None
returns-in-None c = word_itself _ _ c.in_default.ensures (c.to_ascii_uppercase.ensures.value ∙ upper_ascii c.args.b) c.in-None.ensures
