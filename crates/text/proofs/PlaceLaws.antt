-- A decimal at a place: as many bytes as its sign and its digits are, read as a word.
use mathlib.Core.Path.{◌≡◌, refl, ap}
use mathlib.Core.Bool.{Bool, true, false, cond}
use mathlib.Core.List.{List, [], ◌∷◌}
use Prim.Native.Nat.{ℕ, suc, ◌+◌, ◌-◌, ◌^◌, ◌≤◌, ◌<◌}
use native.Mathlib.Numerals.{add-one}
use native.Mathlib.Omega.{arith}
use borrow.Author.Tests.{lt-ltb, le-ltb, eq-eqb, ne_eqb}
use lib.Dec.{ltb, eqb}
use lib.IntN.{ℤ}
use lib.ListN.{length, get_or, take, drop, length-take, length-drop, drop_of_length-le}
use lib.Seq.{drop-cons, take_all, length-take-le}
use mir.Syntax.{w64}
use mir.Val.{Fits}
use Rattle.std.specs.Prelude.{Option, Some, None}
use Rattle.text.specs.Digits.{digit_of}
use Rattle.text.specs.Decimals.{signed, i64, digit_count, decimal_length, with_place, decimal_at}

-- ---- the digits in front
pub digit_count_most : (s : List ℕ) → digit_count s ≤ length s
unfolding digit_count
digit_count_most [] = omega arith
digit_count_most (b ∷ s) = go (ltb (digit_of b) 10) (digit_count_most s)
  where
    go : (u : Bool) → digit_count s ≤ length s → cond u (suc (digit_count s)) 0 ≤ suc (length s)
    go true h = omega arith
    go false h = omega arith

-- the first i are digits; x is what is sought, d the digit at i
module _ (s : List ℕ) (i x : ℕ) (o : i + digit_count (drop i s) ≡ x) where
  pub digits_past : length s ≤ i → i ≡ x
  unfolding digit_count
  digits_past h = let e : digit_count (drop i s) ≡ 0 = ap digit_count (drop_of_length-le s h) in omega arith

  module _ (h : i < length s) (d : ℕ) (e : d ≡ digit_of (get_or s i 0)) where
    pub digits_end : 10 ≤ d → i ≡ x
    unfolding digit_count
    digits_end k = let z : digit_count (drop i s) ≡ 0 = rw (drop-cons s i 0 h, ← e, le-ltb d 10 k) in omega arith

    pub digits_next : d < 10 → i + 1 + digit_count (drop (i + 1) s) ≡ x
    unfolding digit_count
    digits_next k = let z : digit_count (drop i s) ≡ suc (digit_count (drop (i + 1) s)) = rw (add-one, drop-cons s i 0 h, ← e, lt-ltb d 10 k) in omega arith

pub ruleset digit_count_laws = (digits_past, digits_end, digits_next)

-- ---- the sign before them
after_sign : (b : ℕ) (s : List ℕ) → take (length (b ∷ s) - 1) (drop 1 (b ∷ s)) ≡ s
after_sign b s = take_all (suc (length s) - 1) s (omega arith)

pub length_empty : (s : List ℕ) → length s ≡ 0 → 0 ≡ decimal_length s
unfolding decimal_length
length_empty [] e = refl
length_empty (b ∷ s) e = absurd (omega arith)

pub length_minus : (s : List ℕ) (n : ℕ) → (length s ≡ 0 → ⊥) → get_or s 0 0 ≡ 45 → n ≡ digit_count (take (length s - 1) (drop 1 s)) → 1 + n ≡ decimal_length s
unfolding decimal_length
length_minus [] n z e p = absurd (z refl)
length_minus (b ∷ s) n z e p = rw (eq-eqb b 45 e) (omega (arith, rw (after_sign b s) at p))

pub length_plain : (s : List ℕ) (n : ℕ) → (length s ≡ 0 → ⊥) → (get_or s 0 0 ≡ 45 → ⊥) → n ≡ digit_count s → n ≡ decimal_length s
unfolding decimal_length
length_plain [] n z e p = absurd (z refl)
length_plain (b ∷ s) n z e p = rw (ne_eqb b 45 e) p

pub decimal_length_most : (s : List ℕ) → decimal_length s ≤ length s
unfolding decimal_length
decimal_length_most [] = omega arith
decimal_length_most (b ∷ s) = go (eqb b 45)
  where
    go : (u : Bool) → cond u (suc (digit_count s)) (digit_count (b ∷ s)) ≤ suc (length s)
    go true = omega (arith, digit_count_most s)
    go false = digit_count_most (b ∷ s)

pub minus_fits : (s : List ℕ) (n : ℕ) → (length s ≡ 0 → ⊥) → get_or s 0 0 ≡ 45 → n ≡ digit_count (take (length s - 1) (drop 1 s)) → length s < 2 ^ 64 → Fits w64 (1 + n)
minus_fits s n z e p l = record { fits = omega (arith, length_minus s n z e p, decimal_length_most s) }

pub ruleset decimal_length_laws = (length_empty, length_minus, length_plain, minus_fits)

-- ---- the decimal
module _ (s : List ℕ) (at : ℕ) where
  pub past_unread : length s < at → None ≡ decimal_at s at
  unfolding decimal_at decimal_length signed
  past_unread h = rw (drop_of_length-le s {i = at} (omega arith))

  -- the rest of the bytes, and what is read of it
  module _ (n : ℕ) (r : Option ℤ) (e : n ≡ decimal_length (take (length s - at) (drop at s))) (p : r ≡ i64 (take n (take (length s - at) (drop at s)))) where
    rest : take (length s - at) (drop at s) ≡ drop at s
    rest = take_all (length s - at) (drop at s) (omega (arith, length-drop at s))

    by_word : with_place (at + n) (r) ≡ decimal_at s at
    unfolding decimal_at
    by_word = rw (p, e, rest)

    pub placed_unread : r ≡ None → None ≡ decimal_at s at
    placed_unread u = rw u at by_word

    pub placed_read : (z : ℤ) → r ≡ Some z → Some (z, at + n) ≡ decimal_at s at
    placed_read z u = rw u at by_word

  -- as many bytes as are read are there
  module _ (n : ℕ) (e : n ≡ decimal_length (take (length s - at) (drop at s))) where
    rest_most : n ≤ length (take (length s - at) (drop at s))
    rest_most = omega (arith, decimal_length_most (take (length s - at) (drop at s)))

    pub rest_counted : length (take n (take (length s - at) (drop at s))) ≡ n
    rest_counted = length-take-le n (take (length s - at) (drop at s)) rest_most

    pub place_fits : at ≤ length s → length s < 2 ^ 64 → Fits w64 (at + n)
    place_fits h l = record { fits = omega (arith, rest_most, length-take (length s - at) (drop at s), length-drop at s) }

pub ruleset placed_laws = (past_unread, placed_unread, placed_read, rest_counted, place_fits)
