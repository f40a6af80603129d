-- What a call gives: its values, or a refusal's number. The numbers, by the refusals' names.
use Rattle.std.specs.Prelude.{Result, Ok, Err, Bool, true, false, ℕ}
use Rattle.triple.specs.declared.refusal.Refusal.{Refusal}
use Rattle.triple.specs.declared.refusal.Refusal.TheVariants as Is

pub data Told (A : Type 0) : Type 0 where
  told : A → Told A
  refused : ℕ → Told A

unfoldable pub number_of : Refusal → ℕ
number_of Is.Resolution = 1
number_of Is.Orientation = 2
number_of Is.Position = 3
number_of Is.Sum = 4
number_of Is.Bounds = 5
number_of Is.Pair = 6
number_of Is.Node = 7
number_of Is.Digit = 8
number_of Is.Point = 9
number_of Is.Room = 10
number_of Is.Code = 11
number_of Is.Shape = 12
number_of Is.Motif = 13
number_of Is.Rule = 14
number_of Is.Children = 15
number_of Is.Heading = 16
number_of Is.Draw = 17
number_of Is.Turns = 18
number_of Is.Net = 19
number_of Is.Split = 20
number_of Is.Line = 21
number_of Is.Table = 22
number_of Is.Passes = 23
number_of Is.Spare = 24
number_of Is.Order = 25
number_of Is.Part = 26
number_of Is.Polygon = 27
number_of Is.Retired = 28
number_of Is.Long = 29

-- what an answer of the code says
abbrev pub said : {A : Type 0} → Result A Refusal → Told A
said (Ok a) = told a
said (Err e) = refused (number_of e)

-- refused by e where the test holds; else what comes after it
abbrev pub refuse : {A : Type 0} → Bool → Refusal → Told A → Told A
refuse true e t = refused (number_of e)
refuse false e t = t

-- what comes of the values that a call gives; a refusal stays what it is
infixl 1 ◌>>=◌
abbrev pub ◌>>=◌ : {A B : Type 0} → Told A → (A → Told B) → Told B
told a >>= f = f a
refused n >>= f = refused n
