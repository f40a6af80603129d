-- `touches`: whether one of those so far meets it.
use mathlib.Core.Path.{◌≡◌}
use lib.ListN.{take}
use Rattle.std.specs.List.{list_any}
use Rattle.treated.specs.Inside.Grounds.{meets}
use Rattle.treated.proofs.touches.Given as goal

abbrev pub invariant-loop-ground : goal.invariant-loop-ground
invariant-loop-ground l = l.met ≡ list_any (λ g. meets g l.own) (take l.ground-index l.grounds)
