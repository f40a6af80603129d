-- Decimals as they are written, by their last digit, and how many digits they have.
use mathlib.Core.Path.{◌≡◌, refl, sym, ap, ◌∙◌}
use mathlib.Core.List.{List, [], ◌∷◌, ◌++◌, append_assoc}
use Prim.Native.Nat.{ℕ, zero, suc, ◌+◌, ◌*◌, ◌/◌, ◌%◌, ◌^◌, ◌≤◌, ◌<◌}
use native.Mathlib.Decide.{dec_lt}
use native.Mathlib.Nat.{pow-suc, one-le-pow}
use native.Mathlib.Omega.{arith}
use borrow.Author.Tests.{lt-ltb, le-ltb}
use lib.ListN.{length, length-append}
use Rattle.text.specs.Decimals.{digits, natural}

module _ (most n : ℕ) (w : List ℕ) where
  digits_one : n < 10 → digits (suc most) n w ≡ (48 + n) ∷ w
  unfolding digits
  digits_one h = simp (lt-ltb n 10 h)

  digits_more : 10 ≤ n → digits (suc most) n w ≡ digits most (n / 10) ((48 + n % 10) ∷ w)
  unfolding digits
  digits_more h = simp (le-ltb n 10 h)

-- any bound that is large enough gives the same digits, in front of what is there
digits_of : (most more n : ℕ) (w : List ℕ) → n ≤ most → n ≤ more → digits most n w ≡ digits more n [] ++ w
unfolding digits
digits_of zero zero n w h k = refl
digits_of zero (suc more) n w h k = sym (ap (λ (l : List ℕ). l ++ w) (digits_one more n [] (omega arith)))
digits_of (suc most) zero n w h k = digits_one most n w (omega arith)
digits_of (suc most) (suc more) n w h k = elim (dec_lt n 10) [
  | yes l ↦ digits_one most n w l ∙ sym (ap (λ (l : List ℕ). l ++ w) (digits_one more n [] l))
  | no l ↦
      let m : 10 ≤ n = omega arith in
      digits_more most n w m
      ∙ digits_of most more (n / 10) ((48 + n % 10) ∷ w) (omega arith) (omega arith)
      ∙ sym (append_assoc (digits more (n / 10) []) ((48 + n % 10) ∷ []) w)
      ∙ sym (ap (λ (l : List ℕ). l ++ w) (digits_more more n [] m ∙ digits_of more more (n / 10) ((48 + n % 10) ∷ []) (omega arith) (omega arith)))
]

pub natural_one : (n : ℕ) → n < 10 → natural n ≡ (48 + n) ∷ []
unfolding natural
natural_one zero h = digits_of zero 1 zero [] (omega arith) (omega arith) ∙ ap (λ (l : List ℕ). l ++ []) (digits_one zero zero [] h)
natural_one (suc n) h = digits_one n (suc n) [] h

pub natural_more : (n : ℕ) → 10 ≤ n → natural n ≡ natural (n / 10) ++ ((48 + n % 10) ∷ [])
unfolding natural
natural_more zero h = absurd (omega arith)
natural_more (suc n) h = digits_more n (suc n) [] h ∙ digits_of n (suc n / 10) (suc n / 10) ((48 + suc n % 10) ∷ []) (omega arith) (omega arith)

-- ---- how many digits
pub length_more : (n : ℕ) → 10 ≤ n → length (natural n) ≡ length (natural (n / 10)) + 1
length_more n h = ap length (natural_more n h) ∙ length-append (natural (n / 10)) ((48 + n % 10) ∷ [])

pub some_digit : (n : ℕ) → 1 ≤ length (natural n)
some_digit n = elim (dec_lt n 10) [ yes l ↦ omega (arith, ap length (natural_one n l)) | no l ↦ omega (arith, length_more n (omega arith)) ]

-- below a power of ten, and from one on
pub length_most : (k n : ℕ) → n < 10 ^ suc k → length (natural n) ≤ suc k
length_most zero n h = omega (arith, ap length (natural_one n (omega (arith, h))))
length_most (suc k) n h = elim (dec_lt n 10) [
  | yes l ↦ omega (arith, ap length (natural_one n l))
  | no l ↦ omega (arith, length_more n (omega arith), length_most k (n / 10) (omega (arith, pow-suc 10 (suc k))))
]

pub length_least : (k n : ℕ) → 10 ^ k ≤ n → suc k ≤ length (natural n)
length_least zero n h = some_digit n
length_least (suc k) n h =
    let p : 10 * 10 ^ k ≤ n = omega (arith, pow-suc 10 k) in
    let o : 0 < 10 ^ k = one-le-pow k 10 (omega arith) in
    omega (arith, length_more n (omega arith), length_least k (n / 10) (omega arith))

pub natural_most : (n : ℕ) → n < 2 ^ 64 → length (natural n) ≤ 20
natural_most n h = length_most 19 n (omega arith)
