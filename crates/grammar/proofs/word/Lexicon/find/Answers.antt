-- `Lexicon::find` gives the book's word: that of the first row with the letter.
use mathlib.Core.Path.{◌≡◌, refl}
use native.Mathlib.Omega.{arith}
use borrow.Author.Rules.{rules}
use borrow.Author.Tests.{tests}
use Rattle.std.proofs.lemmas.Iterator.{IsFirst-from_position, YieldsList-from_slice}
use Rattle.grammar.proofs.BookLaws.{found_here, found_nothing}
use Rattle.grammar.proofs.word.Lexicon.find.Goals as goal

pub returns-in_err-i : goal.returns-in_err-i
returns-in_err-i c =
    let first = IsFirst-from_position _ _ _ (λ x. x ≡ c.args.b) (λ x. x ≡ c.args.b → ⊥) c.position.ensures.ran (YieldsList-from_slice c.iter.result.rest.now refl) (λ x q k. search (rules, tests)) (λ x q k. search (rules, tests)) in
    rw c.from_residual.ensures (found_nothing c.args.self.now.bytes.now c.args.self.now.book c.args.b _ c.min-rows.ensures c.iter.ensures.rest (omega arith) (rw c.in_err-i.was at first))

pub returns : goal.returns
returns c =
    let first = IsFirst-from_position _ _ _ (λ x. x ≡ c.args.b) (λ x. x ≡ c.args.b → ⊥) c.position.ensures.ran (YieldsList-from_slice c.iter.result.rest.now refl) (λ x q k. search (rules, tests)) (λ x q k. search (rules, tests)) in
    found_here _ _ _ _ c.min-rows.ensures c.iter.ensures.rest _ (rw c.in_ok-i.was at first) c.word.ensures
