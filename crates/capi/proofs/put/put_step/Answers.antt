-- `put::put_step`: one of the slices is too short, or they get eight values and two.
use mathlib.Core.Path.{refl}
use native.Mathlib.Omega.{arith}
use lib.ListN.{length-set}
use borrow.Author.Rules.{rules}
use mir.Syntax.{w32}
use Rattle.triple.proofs.LentLaws.{first_short, second_short}
use Rattle.capi.proofs.SignedLaws.{both_signed}
use Rattle.capi.proofs.put.put_step.Goals as goal

pub returns-then-numbers-lt8 : goal.returns-then-numbers-lt8
returns-then-numbers-lt8 c = first_short _ _ refl (search rules) (search rules)

pub returns-then-places-lt2 : goal.returns-then-places-lt2
returns-then-places-lt2 c = second_short _ _ refl (search rules) (search rules)

pub bounds-numbers-1 : goal.bounds-numbers-1
bounds-numbers-1 c = simp length-set (omega arith)

pub bounds-numbers-2 : goal.bounds-numbers-2
bounds-numbers-2 c = simp length-set (omega arith)

pub bounds-numbers-3 : goal.bounds-numbers-3
bounds-numbers-3 c = simp length-set (omega arith)

pub bounds-numbers-4 : goal.bounds-numbers-4
bounds-numbers-4 c = simp length-set (omega arith)

pub bounds-numbers-5 : goal.bounds-numbers-5
bounds-numbers-5 c = simp length-set (omega arith)

pub bounds-numbers-6 : goal.bounds-numbers-6
bounds-numbers-6 c = simp length-set (omega arith)

pub bounds-numbers-7 : goal.bounds-numbers-7
bounds-numbers-7 c = simp length-set (omega arith)

pub shape_of-numbers : goal.shape_of-numbers
shape_of-numbers c = simp length-set (omega arith)

pub returns : goal.returns
returns c = both_signed w32 _ _ _ _ (search rules) (search rules) (search rules)
