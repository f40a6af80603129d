-- `tokens::token_of` finds the letter's place among the tokens.
use Rattle.std.proofs.Common.{arith, rules, tests, eqb}
use Rattle.std.proofs.lemmas.Iterator.{YieldsList-from_slice}
use Rattle.std.proofs.lemmas.Iterator.Search.{position_from_yields_List}
use Rattle.tables.specs.Inside.Sources.{letters_in}
use Rattle.tables.proofs.SourceLaws.{place_found}
use Rattle.tables.proofs.tokens.token_of.Goals as goal

pub returns : goal.returns
unfolding letters_in
returns c =
    let s = c.args.source in
    place_found s.bytes s.count c.args.b (omega (arith, s.room, s.few))
    (position_from_yields_List (λ a. eqb a c.args.b) _ _ c.position.result c.position.ensures.ran (YieldsList-from_slice _ c.iter.ensures.rest) (λ x b q k. search (rules, tests)))
    c.unwrap_or.ensures
