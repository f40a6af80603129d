-- `nets::walk_end` walks along the word: after i turns, along its first i bytes, at most 8 further with each.
use mathlib.Core.Path.{ap}
use native.Mathlib.Omega.{arith}
use Rattle.turtle.specs.Plane.{origin}
use Rattle.turtle.specs.Walk.{turtle}
use Rattle.grammar.proofs.NetLaws.{walk_start, walk_near, walk_next, walk_end}
use Rattle.grammar.proofs.nets.walk_end.Goals as goal

pub loop-b-init : goal.loop-b-init
unfolding origin
loop-b-init c = walk_start c.args.w.now (ap (λ p. turtle p 0) c.new.ensures)

pub stepped-t-requires : goal.stepped-t-requires
stepped-t-requires c = walk_near c.loop-b.invariant (omega (arith, c.requires))

pub loop-b-preserved : goal.loop-b-preserved
loop-b-preserved c = walk_next c.loop-b.invariant c.loop-b-test.true c.stepped-t.ensures

pub returns : goal.returns
returns c = walk_end c.loop-b.invariant c.requires (omega arith) c.loop-b-test.false
