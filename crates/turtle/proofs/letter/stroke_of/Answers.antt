-- `letter::stroke_of` looks the byte up among the ten rows: each arm is its row, the rest is a byte of no row.
use borrow.Author.Rules.{rules}
use mathlib.Core.Path.{refl}
use Rattle.turtle.specs.Letters.{toggled, letters, stroke_of}
use Rattle.turtle.proofs.LetterLaws.{letter_at, no_letter}
use Rattle.turtle.proofs.letter.stroke_of.Goals as goal

pub new-requires : goal.new-requires
new-requires c = tt

pub new-requires-in-69 : goal.new-requires-in-69
new-requires-in-69 c = tt

pub new-requires-in-69-2 : goal.new-requires-in-69-2
new-requires-in-69-2 c = tt

pub new-requires-in-69-3 : goal.new-requires-in-69-3
new-requires-in-69-3 c = tt

pub new-requires-in-101 : goal.new-requires-in-101
new-requires-in-101 c = tt

pub new-requires-in-101-2 : goal.new-requires-in-101-2
new-requires-in-101-2 c = tt

pub new-requires-in-101-3 : goal.new-requires-in-101-3
new-requires-in-101-3 c = tt

pub new-requires-in-101-4 : goal.new-requires-in-101-4
new-requires-in-101-4 c = tt

pub new-requires-in-83 : goal.new-requires-in-83
new-requires-in-83 c = tt

pub new-requires-in-83-2 : goal.new-requires-in-83-2
new-requires-in-83-2 c = tt

pub new-requires-in-83-3 : goal.new-requires-in-83-3
new-requires-in-83-3 c = tt

pub new-requires-in-83-4 : goal.new-requires-in-83-4
new-requires-in-83-4 c = tt

pub new-requires-in-115 : goal.new-requires-in-115
new-requires-in-115 c = tt

pub new-requires-in-115-2 : goal.new-requires-in-115-2
new-requires-in-115-2 c = tt

pub new-requires-in-115-3 : goal.new-requires-in-115-3
new-requires-in-115-3 c = tt

pub new-requires-in-115-4 : goal.new-requires-in-115-4
new-requires-in-115-4 c = tt

pub new-requires-in-85 : goal.new-requires-in-85
new-requires-in-85 c = tt

pub new-requires-in-85-2 : goal.new-requires-in-85-2
new-requires-in-85-2 c = tt

pub new-requires-in-85-3 : goal.new-requires-in-85-3
new-requires-in-85-3 c = tt

pub new-requires-in-85-4 : goal.new-requires-in-85-4
new-requires-in-85-4 c = tt

pub new-requires-in-117 : goal.new-requires-in-117
new-requires-in-117 c = tt

pub new-requires-in-117-2 : goal.new-requires-in-117-2
new-requires-in-117-2 c = tt

pub new-requires-in-117-3 : goal.new-requires-in-117-3
new-requires-in-117-3 c = tt

pub new-requires-in-117-4 : goal.new-requires-in-117-4
new-requires-in-117-4 c = tt

pub new-requires-in-68 : goal.new-requires-in-68
new-requires-in-68 c = tt

pub new-requires-in-68-2 : goal.new-requires-in-68-2
new-requires-in-68-2 c = tt

pub new-requires-in-68-3 : goal.new-requires-in-68-3
new-requires-in-68-3 c = tt

pub new-requires-in-68-4 : goal.new-requires-in-68-4
new-requires-in-68-4 c = tt

pub new-requires-in-100 : goal.new-requires-in-100
new-requires-in-100 c = tt

pub new-requires-in-100-2 : goal.new-requires-in-100-2
new-requires-in-100-2 c = tt

pub new-requires-in-100-3 : goal.new-requires-in-100-3
new-requires-in-100-3 c = tt

pub new-requires-in-100-4 : goal.new-requires-in-100-4
new-requires-in-100-4 c = tt

pub new-requires-in-84 : goal.new-requires-in-84
new-requires-in-84 c = tt

pub new-requires-in-84-2 : goal.new-requires-in-84-2
new-requires-in-84-2 c = tt

pub new-requires-in-84-3 : goal.new-requires-in-84-3
new-requires-in-84-3 c = tt

pub new-requires-in-84-4 : goal.new-requires-in-84-4
new-requires-in-84-4 c = tt

pub new-requires-in-116 : goal.new-requires-in-116
new-requires-in-116 c = tt

pub new-requires-in-116-2 : goal.new-requires-in-116-2
new-requires-in-116-2 c = tt

pub new-requires-in-116-3 : goal.new-requires-in-116-3
new-requires-in-116-3 c = tt

pub new-requires-in-116-4 : goal.new-requires-in-116-4
new-requires-in-116-4 c = tt

pub returns-in-69 : goal.returns-in-69
unfolding toggled letters stroke_of
returns-in-69 c = letter_at c.in-69.is c.new.ensures c.new-in-69.ensures c.new-in-69-2.ensures c.new-in-69-3.ensures refl

pub returns-in-101 : goal.returns-in-101
unfolding toggled letters stroke_of
returns-in-101 c = letter_at c.in-101.is c.new-in-101.ensures c.new-in-101-2.ensures c.new-in-101-3.ensures c.new-in-101-4.ensures refl

pub returns-in-83 : goal.returns-in-83
unfolding toggled letters stroke_of
returns-in-83 c = letter_at c.in-83.is c.new-in-83.ensures c.new-in-83-2.ensures c.new-in-83-3.ensures c.new-in-83-4.ensures refl

pub returns-in-115 : goal.returns-in-115
unfolding toggled letters stroke_of
returns-in-115 c = letter_at c.in-115.is c.new-in-115.ensures c.new-in-115-2.ensures c.new-in-115-3.ensures c.new-in-115-4.ensures refl

pub returns-in-85 : goal.returns-in-85
unfolding toggled letters stroke_of
returns-in-85 c = letter_at c.in-85.is c.new-in-85.ensures c.new-in-85-2.ensures c.new-in-85-3.ensures c.new-in-85-4.ensures refl

pub returns-in-117 : goal.returns-in-117
unfolding toggled letters stroke_of
returns-in-117 c = letter_at c.in-117.is c.new-in-117.ensures c.new-in-117-2.ensures c.new-in-117-3.ensures c.new-in-117-4.ensures refl

pub returns-in-68 : goal.returns-in-68
unfolding toggled letters stroke_of
returns-in-68 c = letter_at c.in-68.is c.new-in-68.ensures c.new-in-68-2.ensures c.new-in-68-3.ensures c.new-in-68-4.ensures refl

pub returns-in-100 : goal.returns-in-100
unfolding toggled letters stroke_of
returns-in-100 c = letter_at c.in-100.is c.new-in-100.ensures c.new-in-100-2.ensures c.new-in-100-3.ensures c.new-in-100-4.ensures refl

pub returns-in-84 : goal.returns-in-84
unfolding toggled letters stroke_of
returns-in-84 c = letter_at c.in-84.is c.new-in-84.ensures c.new-in-84-2.ensures c.new-in-84-3.ensures c.new-in-84-4.ensures refl

pub returns-in-116 : goal.returns-in-116
unfolding toggled letters stroke_of
returns-in-116 c = letter_at c.in-116.is c.new-in-116.ensures c.new-in-116-2.ensures c.new-in-116-3.ensures c.new-in-116-4.ensures refl

pub returns-in_default : goal.returns-in_default
unfolding letters
returns-in_default c = search (rules, no_letter)
