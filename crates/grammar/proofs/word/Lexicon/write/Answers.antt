-- `Lexicon::write` puts a byte's word at the front: by the way that the word is made.
use mathlib.Core.Path.{refl}
use Rattle.whole.proofs.Fill.{set_first}
use Rattle.grammar.proofs.WordByteLaws.{length_reversed}
use Rattle.grammar.proofs.BookLaws.{room_for, wrote}
use Rattle.grammar.proofs.word.Lexicon.write.Goals as goal

pub write_along-requires : goal.write_along-requires
write_along-requires c = room_for c.in-Along.ensures refl c.requires

pub write_back-requires : goal.write_back-requires
write_back-requires c = room_for c.in-Back.ensures (length_reversed _) c.requires

pub bounds-out-0 : goal.bounds-out-0
bounds-out-0 c = room_for c.in-Itself.ensures refl c.requires

pub returns-in-Along : goal.returns-in-Along
returns-in-Along c = wrote c.in-Along.ensures refl _ c.write_along.ensures

pub returns-in-Back : goal.returns-in-Back
returns-in-Back c = wrote c.in-Back.ensures (length_reversed _) _ c.write_back.ensures

pub returns-in-Itself : goal.returns-in-Itself
returns-in-Itself c = wrote c.in-Itself.ensures refl _ (set_first _ c.args.out.now (room_for c.in-Itself.ensures refl c.requires))
