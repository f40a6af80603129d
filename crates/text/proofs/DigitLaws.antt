-- Digits counted by powers of ten, and stored from the last to the first.
use mathlib.Core.Path.{◌≡◌, refl, sym, ap, ◌∙◌}
use mathlib.Core.Bool.{Bool, true, false, not, beq}
use mathlib.Core.List.{List, [], ◌∷◌, ◌++◌, append_assoc, append-nil}
use Prim.Native.Nat.{ℕ, zero, suc, ◌+◌, ◌-◌, ◌*◌, ◌/◌, ◌%◌, ◌^◌, ◌≤◌, ◌<◌, max}
use native.Mathlib.Decide.{dec_lt}
use native.Mathlib.Nat.{pow-suc, one-le-pow}
use native.Mathlib.Omega.{arith}
use borrow.Author.Tests.{lt-ltb, le-ltb, eq-eqb}
use lib.Dec.{T}
use lib.Ieee.{Float, nan, inf, fin, is_nan, eq, level, up, down, binary64, to_bits}
use lib.ListN.{length, set, length-append}
use lib.Seq.{sets, set_comm}
use Rattle.text.specs.Digits.{digit_byte}
use Rattle.text.specs.Decimals.{natural}
use Rattle.text.specs.Patterns.{hex_digits}
use Rattle.text.specs.Inside.Putting.{lowest}
use Rattle.text.proofs.DecimalLaws.{natural_one, natural_more, some_digit, length_more, length_most, length_least}

-- ---- how many digits n has, by the power of ten that it has reached; 0 has one as 1 has
pub length_is : (n m k : ℕ) → m ≡ max n 1 → 10 ^ k ≤ m → m < 10 * 10 ^ k → k + 1 ≡ length (natural n)
length_is zero m zero e l h = omega (arith, ap length (natural_one 0 (omega arith)))
length_is zero m (suc k) e l h = absurd (omega (arith, pow-suc 10 k, one-le-pow k 10 (omega arith)))
length_is (suc n) m k e l h = omega (arith, length_least k (suc n) (omega arith), length_most k (suc n) (omega (arith, pow-suc 10 k)))

-- ---- a text stored from its last byte on: what is in front is left, up to place i
pub record Backward (text front before out : List ℕ) (i end : ℕ) : Type 0 where
  pub behind : List ℕ
  pub splits : text ≡ front ++ behind
  pub ends : i + length behind ≡ end
  pub stored : out ≡ sets before i behind

-- a store in front of others
set_sets : (l : List ℕ) (j i b : ℕ) (w : List ℕ) → j < i → set (sets l i w) j b ≡ sets (set l j b) i w
set_sets l j i b [] h = refl
set_sets l j i b (a ∷ w) h =
    set_sets (set l i a) j (suc i) b w (omega arith)
    ∙ ap (λ (m : List ℕ). sets m (suc i) w) (set_comm l i j a b (λ e. omega arith))

module _ (text front before out : List ℕ) (i end : ℕ) (s : Backward text front before out i end) where
  backward_more : (rest : List ℕ) (b j : ℕ) → front ≡ rest ++ (b ∷ []) → suc j ≡ i → Backward text rest before (set out j b) j end
  backward_more rest b j e f = record {
    behind = b ∷ s.behind;
    splits = s.splits ∙ ap (λ (l : List ℕ). l ++ s.behind) e ∙ append_assoc rest (b ∷ []) s.behind;
    ends = omega (arith, s.ends);
    stored = ap (λ (l : List ℕ). set l j b) s.stored ∙ set_sets before j i b s.behind (omega arith) ∙ ap (λ (k : ℕ). sets (set before j b) k s.behind) (sym f);
  }

pub backward_none : (text before : List ℕ) (end : ℕ) → Backward text text before before end end
backward_none text before end = record { behind = []; splits = sym (append-nil text); ends = omega arith; stored = refl }

pub backward_all : (text before out : List ℕ) (i end : ℕ) → Backward text [] before out i end → out ≡ sets before (end - length text) text
backward_all text before out i end s =
    let p : i ≡ end - length text = omega (arith, s.ends, ap length s.splits) in
    s.stored ∙ ap (λ (w : List ℕ). sets before i w) (sym s.splits) ∙ ap (λ (k : ℕ). sets before k text) p

-- ---- the byte of a digit
pub byte_small : (d : ℕ) → d < 10 → 48 + d ≡ digit_byte d
unfolding digit_byte
byte_small d h = rw (lt-ltb d 10 h)

pub byte_large : (d : ℕ) → 10 ≤ d → 55 + d ≡ digit_byte d
unfolding digit_byte
byte_large d h = rw (le-ltb d 10 h)

-- ---- the lowest digits of a number in a base
module _ (base : ℕ) where
  pub lowest_length : (n v : ℕ) → length (lowest base n v) ≡ n
  unfolding lowest
  lowest_length zero v = refl
  lowest_length (suc n) v = length-append (lowest base n (v / base)) (digit_byte (v % base) ∷ []) ∙ omega (arith, lowest_length n (v / base))

  lowest_more : (i v : ℕ) → 0 < i → lowest base i v ≡ lowest base (i - 1) (v / base) ++ (digit_byte (v % base) ∷ [])
  unfolding lowest
  lowest_more i v h =
      let e : suc (i - 1) ≡ i = omega arith in
      ap (λ (k : ℕ). lowest base k v) (sym e)

  lowest_none : (i v : ℕ) → i ≡ 0 → lowest base i v ≡ []
  unfolding lowest
  lowest_none i v e = rw e

-- those of a pattern, and those of a decimal
pub lowest_hex : (n v : ℕ) → lowest 16 n v ≡ hex_digits n v
unfolding lowest hex_digits
lowest_hex zero v = refl
lowest_hex (suc n) v = ap (λ (w : List ℕ). w ++ (digit_byte (v % 16) ∷ [])) (lowest_hex n (v / 16))

pub hex_length : (n v : ℕ) → length (hex_digits n v) ≡ n
hex_length n v = ap length (sym (lowest_hex n v)) ∙ lowest_length 16 n v

pub lowest_natural : (k n : ℕ) → k ≡ length (natural n) → lowest 10 k n ≡ natural n
unfolding lowest
lowest_natural zero n e = absurd (omega (arith, some_digit n))
lowest_natural (suc k) n e = elim (dec_lt n 10) [
  | yes l ↦
      let z : k ≡ 0 = omega (arith, ap length (natural_one n l)) in
      let m : n % 10 ≡ n = omega arith in
      rw (z, natural_one n l, m) (ap (λ (b : ℕ). b ∷ []) (sym (byte_small n l)))
  | no l ↦
      let m : 10 ≤ n = omega arith in
      let h : k ≡ length (natural (n / 10)) = omega (arith, length_more n m) in
      rw (natural_more n m, lowest_natural k (n / 10) h) (ap (λ (b : ℕ). natural (n / 10) ++ (b ∷ [])) (sym (byte_small (n % 10) (omega arith))))
]

-- i of them are left
abbrev pub Left : ℕ → ℕ → ℕ → ℕ → ℕ → ℕ → List ℕ → List ℕ → Type 0
Left base count n rest at i before out = Backward (lowest base count n) (lowest base i rest) before out (at + i) (at + count)

module _ (base count n rest at i : ℕ) (before out : List ℕ) (s : Left base count n rest at i before out) where
  pub digit_next : 0 < i → (b : ℕ) → b ≡ digit_byte (rest % base) → Left base count n (rest / base) at (i - 1) before (set out (at + (i - 1)) b)
  digit_next h b e = backward_more _ _ _ _ _ _ s (lowest base (i - 1) (rest / base)) b (at + (i - 1)) (rw e (lowest_more base i rest h)) (omega arith)

  pub digits_done : i ≤ 0 → out ≡ sets before at (lowest base count n)
  digits_done h =
      let z : i ≡ 0 = omega arith in
      let p : at + count - length (lowest base count n) ≡ at = omega (arith, lowest_length base count n) in
      let all : Backward (lowest base count n) [] before out (at + i) (at + count) = rw (lowest_none base i rest z) at s in
      backward_all _ _ _ _ _ all ∙ ap (λ (k : ℕ). sets before k (lowest base count n)) p

pub digits_none : (base count n at : ℕ) (before : List ℕ) → Left base count n n at count before before
digits_none base count n at before = backward_none _ _ _

pub ruleset digits_laws = (digits_none, digit_next, digits_done)

-- ---- a float's bits, by whether it is equal to itself
pub same_number : (x : Float) → eq x x ≡ true → T (not (is_nan x))
unfolding eq is_nan
same_number nan h = let z : ◌≡◌ {A = ℕ} 0 1 = cc in absurd (omega arith)
same_number (inf s) h = tt
same_number (fin s m e) h = tt

beq_self : (s : Bool) → beq s s ≡ true
beq_self true = refl
beq_self false = refl

pub nan_bits : (x : Float) → eq x x ≡ false → 9221120237041090560 ≡ to_bits binary64 x
unfolding eq to_bits
nan_bits nan h = refl
nan_bits (inf s) h = let z : ◌≡◌ {A = ℕ} 0 1 = cc (beq_self s) in absurd (omega arith)
nan_bits (fin s m e) h =
    let k = m * up e * down e in
    let f : level s k s k ≡ true = simp (eq-eqb k k refl, beq_self s) in
    let z : ◌≡◌ {A = ℕ} 0 1 = cc in
    absurd (omega arith)
