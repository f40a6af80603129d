-- `tokens::source_of` has the capitals and then the small letters.
use Rattle.tables.proofs.SourceLaws.{tokens_are}
use Rattle.tables.specs.Inside.Sources.{listed_from}
use mathlib.Core.List.{◌++◌}
use mathlib.Core.Path.{◌∙◌, ap}
use Rattle.tables.proofs.tokens.source_of.Goals as goal

pub returns : goal.returns
returns c =
    let motifs = c.with_letters-motifs in
    let none = c.no_tokens in
    let lines = c.args.lines in
    (c.with_letters.ensures.0 ∙ motifs.ensures.0 ∙ none.ensures.0, λ text. c.with_letters.ensures.1.1 ∙ ap (λ l. l ++ listed_from motifs.result.lines 26 97) (motifs.ensures.1.1 ∙ ap (λ l. l ++ listed_from none.result.lines 26 65) none.ensures.1.1) ∙ tokens_are text lines none.ensures.0 (motifs.ensures.0 ∙ none.ensures.0))
