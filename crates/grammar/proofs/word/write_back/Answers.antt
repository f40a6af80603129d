-- `word::write_back` puts the reversed word at the front: after as many turns, as many bytes of it are there.
use mathlib.Core.Path.{◌≡◌, refl, ◌∙◌}
use native.Mathlib.Omega.{arith}
use mathlib.Core.List.{reverse}
use lib.ListN.{length, length-set, length-reverse}
use Rattle.std.proofs.lemmas.List.{length_push}
use Rattle.std.proofs.lemmas.List.FromFn.{length-enumerate_from}
use Rattle.std.proofs.lemmas.Iterator.Adapters.{YieldsList-from_rev_slice}
use Rattle.std.proofs.lemmas.Iterator.Consumers.{YieldsList-from_enumerate, YieldsList-turn, YieldsList-end}
use Rattle.whole.proofs.Fill.{poured_more, poured_all}
use Rattle.grammar.specs.Words.{reversed}
use Rattle.grammar.proofs.WordByteLaws.{length_reversed, reversed_turn}
use Rattle.grammar.proofs.word.write_back.Goals as goal

pub loop-i-init : goal.loop-i-init
loop-i-init c = (refl, refl)

pub bounds-out-i : goal.bounds-out-i
bounds-out-i c =
    let t = reversed_turn c.args.s.now (YieldsList-turn (YieldsList-from_enumerate (YieldsList-from_rev_slice c.args.s.now (cc)) (cc)) c.loop-i.yielded _ c.loop-i.yielded_by _ _ (c.in-Some.i, c.in-Some.b) c.in-Some.is c.next.ensures.steps) in
    omega (arith, c.requires)

pub loop-i-preserved : goal.loop-i-preserved
loop-i-preserved c =
    let t = reversed_turn c.args.s.now (YieldsList-turn (YieldsList-from_enumerate (YieldsList-from_rev_slice c.args.s.now (cc)) (cc)) c.loop-i.yielded _ c.loop-i.yielded_by _ _ (c.in-Some.i, c.in-Some.b) c.in-Some.is c.next.ensures.steps) in
    (simp length-set c.loop-i.invariant.0, rw (length_push c.loop-i.yielded (c.in-Some.i, c.in-Some.b), c.loop-i.invariant.1, t.1.0) (poured_more (reversed c.args.s.now) c.args.out.now _ 0 _ (rw length_reversed t.0) (omega (arith, t.0)) (c.mirrored.ensures ∙ t.1.1)))

pub returns : goal.returns
returns c =
    let t = YieldsList-end (YieldsList-from_enumerate (YieldsList-from_rev_slice c.args.s.now (cc)) (cc)) c.loop-i.yielded _ c.loop-i.yielded_by _ _ c.in-None.is c.next.ensures.steps in
    let all : length c.loop-i.yielded ≡ length c.args.s.now = t.1 ∙ length-enumerate_from 0 (reverse c.args.s.now) ∙ length-reverse c.args.s.now in
    poured_all (reversed c.args.s.now) c.args.out.now _ _ (length_reversed c.args.s.now) (omega arith) (omega arith) c.loop-i.invariant.1
