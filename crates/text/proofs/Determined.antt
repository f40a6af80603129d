-- Each contract of this crate allows one result alone. What an answer says has a left inverse: so two answers that say the same are the same.
use mathlib.Core.Path.{◌≡◌, sym, ◌∙◌}
use mathlib.Core.List.{List}
use Prim.Native.Nat.{ℕ}
use lib.IntN.{ℤ}
use Rattle.std.specs.Prelude.{Option, Float}
use Rattle.text.specs.Decimals.{u8, u64, i32, i64, decimal_at}
use Rattle.text.specs.Patterns.{f64}
use Rattle.text.specs.Puts.{Put}

-- ---- a word read as a number
pub byte_determined : (word : List ℕ) (a b : Option ℕ) → a ≡ u8 word → b ≡ u8 word → a ≡ b
byte_determined word a b p q = p ∙ sym q

pub natural_determined : (word : List ℕ) (a b : Option ℕ) → a ≡ u64 word → b ≡ u64 word → a ≡ b
natural_determined word a b p q = p ∙ sym q

pub integer_determined : (word : List ℕ) (a b : Option ℤ) → a ≡ i32 word → b ≡ i32 word → a ≡ b
integer_determined word a b p q = p ∙ sym q

pub wide_integer_determined : (word : List ℕ) (a b : Option ℤ) → a ≡ i64 word → b ≡ i64 word → a ≡ b
wide_integer_determined word a b p q = p ∙ sym q

pub float_determined : (word : List ℕ) (a b : Option Float) → a ≡ f64 word → b ≡ f64 word → a ≡ b
float_determined word a b p q = p ∙ sym q

pub decimal_at_determined : (s : List ℕ) (at : ℕ) (a b : Option (ℤ × ℕ)) → a ≡ decimal_at s at → b ≡ decimal_at s at → a ≡ b
decimal_at_determined s at a b p q = p ∙ sym q

-- ---- a text put at a place: the place after it and every byte of the slice, whichever function puts it
pub put_determined : (slice : List ℕ) (at : ℕ) (text x y : List ℕ) (p q : ℕ) → Put slice at text x p → Put slice at text y q → (p ≡ q) × (x ≡ y)
put_determined slice at text x y p q a b = (a.place_is ∙ sym b.place_is, a.slice_is ∙ sym b.slice_is)
