-- `Lexicon::has_room` compares the length after a pass with the room: what is used up and what is to come make the whole.
use native.Mathlib.Omega.{arith}
use Rattle.grammar.proofs.ExpandLaws.{left_next, left_short, left_enough}
use Rattle.grammar.proofs.word.Lexicon.has_room.Goals as goal

pub loop-b-init : goal.loop-b-init
loop-b-init c = record { sum = omega arith }

pub returns-in_default : goal.returns-in_default
returns-in_default c = left_short c.loop-b.invariant c.loop-b-test.true c.len.ensures (omega (arith, c.in_default.ensures))

pub loop-b-preserved : goal.loop-b-preserved
loop-b-preserved c = rw c.in-Some.ensures.1 (left_next c.loop-b.invariant c.loop-b-test.true c.len.ensures c.in-Some.ensures.0)

pub returns : goal.returns
returns c = left_enough c.loop-b.invariant c.loop-b-test.false
