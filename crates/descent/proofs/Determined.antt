-- The contract of the descent over a lent table allows one answer alone. What an answer says has a left inverse: so two answers that say the same are the same.
use mathlib.Core.Path.{◌≡◌, refl, ap}
use mathlib.Core.List.{List}
use Prim.Native.Nat.{ℕ}
use lib.IntN.{ℤ, nat_abs}
use Rattle.std.specs.Prelude.{Result, Ok, Err}
use Rattle.triple.proofs.Determined.{one_to_one, determined, numbered, answer_of}
use Rattle.tables.specs.Descent.{Leaf, descent_in}
use Rattle.descent.specs.Answers.{said_descent}
use Rattle.triple.specs.declared.refusal.Refusal.{Refusal}
use Rattle.descent.specs.declared.TableCell.{TableCell}

abbrev cell_in : Leaf → Result TableCell Refusal
cell_in l = Ok (record { sum = l.sum; flavor = nat_abs l.flavor })

descent_back : (a : Result TableCell Refusal) → answer_of cell_in Err (said_descent a) ≡ a
descent_back (Ok c) = refl
descent_back (Err e) = ap Err (numbered e)

pub said_descent_one_to_one : (a b : Result TableCell Refusal) → said_descent a ≡ said_descent b → a ≡ b
said_descent_one_to_one = one_to_one said_descent (answer_of cell_in Err) descent_back

pub descent_determined : (table : List ℤ) (start states r token s : ℕ) (a b : Result TableCell Refusal)
    → said_descent a ≡ descent_in table start states r token s → said_descent b ≡ descent_in table start states r token s → a ≡ b
descent_determined table start states r token s = determined said_descent said_descent_one_to_one
