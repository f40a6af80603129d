-- `walk::rot_times` is `rots`: after each turn of the loop q is p rotated so many times, which is as short as p.
use mathlib.Core.Path.{refl, sym, ap, ◌∙◌, subst}
use native.Mathlib.Numerals.{add-one}
use Rattle.turtle.specs.Plane.{rot, rots}
use Rattle.turtle.specs.Inside.Sizes.{Short}
use Rattle.turtle.proofs.WalkLaws.{rots_small}
use Rattle.turtle.proofs.walk.rot_times.Goals as goal

pub loop-init : goal.loop-init
unfolding rots
loop-init c = refl

pub rot60-q-requires : goal.rot60-q-requires
rot60-q-requires c = subst Short (sym c.loop.invariant) (rots_small c.loop.counter c.requires)

pub loop-preserved : goal.loop-preserved
unfolding rots
loop-preserved c = c.rot60-q.ensures ∙ rw add-one (ap rot c.loop.invariant)
