-- `scan::until` finds the place of the first byte b, or the end.
use mathlib.Core.Path.{◌≡◌, sym, ◌∙◌}
use borrow.Author.Rules.{rules}
use borrow.Author.Tests.{tests}
use Rattle.std.proofs.lemmas.Iterator.{IsFirst-from_position, YieldsList-from_slice}
use Rattle.grammar.proofs.CutLaws.{until_first}
use Rattle.grammar.proofs.scan.until.Goals as goal

pub returns : goal.returns
returns c =
    let first = IsFirst-from_position _ _ _ (λ x. x ≡ c.args.b) (λ x. x ≡ c.args.b → ⊥) c.position.ensures.ran (YieldsList-from_slice c.args.s.now (cc)) (λ x q k. search (rules, tests)) (λ x q k. search (rules, tests)) in
    c.unwrap_or.ensures ∙ sym (until_first c.args.b c.args.s.now _ first)
