-- What a descent over a lent table answers: the cell's corner sum and flavor, or a refusal's number.
use Rattle.std.specs.Prelude.{pos, Result, Ok, Err}
use Rattle.triple.specs.Refusals.{Told, told, refused, number_of}
use Rattle.tables.specs.Descent.{Leaf}
use Rattle.descent.specs.declared.TableCell.{TableCell}
use Rattle.triple.specs.declared.refusal.Refusal.{Refusal}

abbrev pub said_leaf : TableCell → Leaf
said_leaf c = record { sum = c.sum; flavor = pos c.flavor }

abbrev pub said_descent : Result TableCell Refusal → Told Leaf
said_descent (Ok c) = told (said_leaf c)
said_descent (Err e) = refused (number_of e)
