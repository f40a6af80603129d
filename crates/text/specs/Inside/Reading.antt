-- Digits of any base, read one by one.
use Rattle.std.specs.Prelude.{◌&&◌, cond, List, ℕ, leb, Option, Some, None}
use Rattle.text.specs.Digits.{all_digits, value_after}

-- the number that the digits w write after v, where it is at most a bound
unfoldable pub digits_up_to : ℕ → ℕ → ℕ → List ℕ → Option ℕ
digits_up_to base most v w = cond (all_digits base w && leb (value_after base v w) most) (Some (value_after base v w)) None
