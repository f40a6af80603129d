-- A fraction a / c below 1, rounded to an f64: how far off that is at most, that below a half it is exact where a has few digits, and what two of them sum to.
use mathlib.Core.Path.{◌≡◌, refl, sym, ap, ◌∙◌, subst, subst₂}
use mathlib.Core.Bool.{Bool, true, false, not, ◌&&◌, true≢false}
use Prim.Native.Nat.{ℕ, zero, suc, ◌+◌, ◌-◌, ◌*◌, ◌/◌, ◌%◌, ◌^◌, ◌≤◌, ◌<◌, compare, Ordering}
use native.Mathlib.Omega.{arith}
use native.Mathlib.Decide.{dec_lt}
use native.Mathlib.Nat.{mul-one, one-mul, mul_comm, mul_assoc, mul_right_comm, mul-pos, le_trans, le_of_eq, lt_of_le_of_lt, lt_of_lt_of_le, suc-mul, add-mul, div-add-mod', mod-lt, mul-le-mul_right, le_refl, div-lt_iff_lt-mul, mul-lt-mul_of_pos_right, mul-le-mul_left, div-mul-le_self, lt_of_mul-lt-mul_right, eq_of_mul-eq-mul_right, lt_irrefl, sub-add_cancel}
use lib.Dec.{T, ltb, leb, eqb, ltb→lt, leb→le, nleb→lt, eqb→eq, eqb_refl, is_le, compare_is_eq, lit≤, lit<}
use lib.Arith.{lt_of_le-ne}
use lib.IntN.{ℤ, pos, negsuc}
use lib.Pow.{pow_pos, pow_mono, pow-add, pow-lt, shl_lt}
use lib.Ieee.{Float, nan, inf, fin, binary64, up, down, size, round, sum, add, le, fits, nearest}
use lib.Ieee.Fits.{down_pos, and_l, and_r, nearest-le}
use lib.Ieee.Digits.{size-le}
use lib.Ieee.Exact.{HasValue, round_exact}
use lib.Ieee.Nearest.{closest}
use lib.Ieee.Order.{round_mono, drop}
use lib.Ieee.Scale.{round_same, grid, overflow, round_val}
use lib.Ieee.Positive.{values_of_le, positive_of_value, positive, between}
use lib.Ieee.Back.{round_whole}

-- ---- two numbers compared
abbrev Cmp : Ordering → ℕ → ℕ → Type 0
Cmp Ordering.lt a b = a < b
Cmp Ordering.eq a b = a ≡ b
Cmp Ordering.gt a b = b < a

cmp : (a b : ℕ) → Cmp (compare a b) a b
cmp a b = go (compare a b) (leb→le a b) (nleb→lt a b) (eqb→eq a b) (λ (e : a ≡ b). subst (λ (x : ℕ). T (eqb a x)) e (eqb_refl a))
  where
    go : (o : Ordering) → (T (is_le o) → a ≤ b) → (T (not (is_le o)) → b < a) → (T (compare_is_eq o) → a ≡ b) → (a ≡ b → T (compare_is_eq o)) → Cmp o a b
    go Ordering.lt h k e n = lt_of_le-ne (h tt) n
    go Ordering.eq h k e n = e tt
    go Ordering.gt h k e n = k tt

-- ---- a / c below 1, rounded: in units of 2 ^ -1074 it is at most half of 2 ^ 1021 units below
-- in units of 2 ^ -1074
abbrev pub units : ℕ → ℕ → ℕ
units a c = grid binary64 a c

-- how many of them are 1
abbrev pub unit : ℕ
unit = 2 ^ 1074

half_near : (n u : ℕ) → 0 < u → n * 2 ≤ closest n u * u * 2 + u
half_near n u U = go (compare (n % u * 2) u) (cmp (n % u * 2) u) (div-add-mod' n u)
  where
    go : (o : Ordering) → Cmp o (n % u * 2) u → n / u * u + n % u ≡ n → n * 2 ≤ nearest (n / u) o * u * 2 + u
    go Ordering.lt h k = omega arith
    go Ordering.eq h k = let w : (n / u + n / u % 2) * u ≡ n / u * u + n / u % 2 * u = add-mul (n / u) (n / u % 2) u in omega arith
    go Ordering.gt h k = let w : suc (n / u) * u ≡ n / u * u + u = suc-mul (n / u) u in let l : n % u < u = mod-lt n U in omega arith

-- the digits dropped
dropped : (a c : ℕ) → 0 < c → a < c → drop 53 (a * unit) c ≤ 1021
dropped a c C h =
    let l : a * unit < 2 ^ 1074 * c = lt_of_lt_of_le (mul-lt-mul_of_pos_right h (pow_pos 1074)) (le_of_eq (mul_comm c unit)) in
    let k : size (a * unit / c) ≤ 1074 = size-le (a * unit / c) 1074 ((div-lt_iff_lt-mul C).1 l) in
    omega arith

-- `omega` takes no number of more than 38 digits, so what it proves has variables in their place
err_join : (n q v w r g : ℕ) → n * 2 ≤ q * 2 + v → q ≡ g → v ≤ w → n * 2 ≤ g * 2 + w
err_join n q v w r g h e l = omega arith

pub grid_error : (a c : ℕ) → 0 < c → a < c → a * unit * 2 ≤ units a c * c * 2 + c * 2 ^ 1021
grid_error a c C h =
    let n = a * unit in
    let k = drop 53 n c in
    let q = closest n (c * 2 ^ k) in
    err_join n (q * (c * 2 ^ k)) (c * 2 ^ k) (c * 2 ^ 1021) 0 (q * 2 ^ k * c)
    (half_near n (c * 2 ^ k) (mul-pos C (pow_pos k)))
    (ap (λ (z : ℕ). q * z) (mul_comm c (2 ^ k)) ∙ sym (mul_assoc q (2 ^ k) c))
    (mul-le-mul_left c (pow_mono (dropped a c C h)))

under_join : (x y p v l w o : ℕ) → v ≤ x → x ≡ y + p → y < l → p ≤ w → l + w ≤ o → v < o
under_join x y p v l w o a b c d e = omega arith

grid_under : (a c : ℕ) → 0 < c → a < c → units a c < overflow binary64
grid_under a c C h =
    let n = a * unit in
    let k = drop 53 n c in
    let u = c * 2 ^ k in
    let b : n / u * 2 ^ k * c ≤ n = le_trans (le_of_eq (mul_right_comm (n / u) (2 ^ k) c ∙ mul_assoc (n / u) c (2 ^ k))) (div-mul-le_self n u) in
    let l : n < 2 ^ 1074 * c = lt_of_lt_of_le (mul-lt-mul_of_pos_right h (pow_pos 1074)) (le_of_eq (mul_comm c unit)) in
    let m : n / u * 2 ^ k < 2 ^ 1074 = lt_of_mul-lt-mul_right c (lt_of_le_of_lt b l) in
    under_join (suc (n / u) * 2 ^ k) (n / u * 2 ^ k) (2 ^ k) (units a c) (2 ^ 1074) (2 ^ 1021) (2 ^ (1074 + 1024))
    (mul-le-mul_right (2 ^ k) (nearest-le (n / u) (compare (n % u * 2) u))) (suc-mul (n / u) (2 ^ k)) m (pow_mono (dropped a c C h)) (lit≤ tt)

pub rounded : (a c : ℕ) → 0 < c → a < c → HasValue (round binary64 false a c) false (units a c) unit
rounded a c C h = round_val binary64 a c (grid_under a c C h)

-- ---- a sum of two such
pub add_is : (x y : Float) (a b : ℕ) → HasValue x false a unit → HasValue y false b unit → add binary64 x y ≡ round binary64 false (a + b) unit
unfolding add sum
add_is nan y a b p q = absurd p
add_is (inf s) y a b p q = absurd p
add_is (fin true m e) y a b p q = absurd (true≢false p.0)
add_is (fin false m e) nan a b p q = absurd q
add_is (fin false m e) (inf t) a b p q = absurd q
add_is (fin false m e) (fin true n d) a b p q = absurd (true≢false q.0)
add_is (fin false m e) (fin false n d) a b p q =
    let X = m * up e * down d in
    let Y = n * up d * down e in
    let Z = down e * down d in
    round_same binary64 false (X + Y) Z (a + b) unit (mul-pos (down_pos e) (down_pos d)) (pow_pos 1074)
    (add-mul X Y unit
    ∙ ap (λ (z : ℕ). z + Y * unit) (mul_right_comm (m * up e) (down d) unit ∙ ap (λ (z : ℕ). z * down d) p.1 ∙ mul_assoc a (down e) (down d))
    ∙ ap (λ (z : ℕ). a * Z + z) (mul_right_comm (n * up d) (down e) unit ∙ ap (λ (z : ℕ). z * down e) q.1 ∙ mul_assoc b (down d) (down e) ∙ ap (λ (z : ℕ). b * z) (mul_comm (down d) (down e)))
    ∙ sym (add-mul a b Z))

-- (2 ^ 54 - 1) / 2 ^ 54, a tie, rounds to 1
tie_up : round binary64 false (2 ^ 54 - 1) (2 ^ 54) ≡ fin false 1 (pos 0)
unfolding round
tie_up = refl

one_join : (n l w : ℕ) → l ≡ w * 2 ^ 53 → l * 2 ≤ n * 2 + w → (2 ^ 54 - 1) * l ≤ n * 2 ^ 54
one_join n l w e h = omega arith

pub one_of_grid : (n : ℕ) → unit * 2 ≤ n * 2 + 2 ^ 1021 → T (le (fin false 1 (pos 0)) (round binary64 false n unit))
one_of_grid n h = subst (λ (x : Float). T (le x (round binary64 false n unit))) tie_up (round_mono binary64 (2 ^ 54 - 1) (2 ^ 54) n unit (lit< tt) (pow_pos 1074) (one_join n unit (2 ^ 1021) refl h))

-- ---- a fraction below a half is exact
pub same_value : (x : Float) (a c b d : ℕ) → HasValue x false a c → HasValue x false b d → a * d ≡ b * c
same_value nan a c b d p q = absurd p
same_value (inf s) a c b d p q = absurd p
same_value (fin s m e) a c b d p q =
    eq_of_mul-eq-mul_right (down e) (down_pos e) (a * d) (b * c)
    (mul_right_comm a d (down e) ∙ ap (λ (z : ℕ). z * d) (sym p.1) ∙ mul_right_comm (m * up e) c d ∙ ap (λ (z : ℕ). z * c) q.1 ∙ mul_right_comm b (down e) c)

-- the parts of `fits`: the digits, and the exponent's end
pub fits_says : (s : Bool) (m : ℕ) (e : ℤ) → T (fits binary64 (fin s m e)) → (m < 2 ^ 53) × (down e ≤ 2 ^ 1074)
unfolding fits
fits_says s zero e t = (lit< tt, flat e (eqb→eq (up e * down e) 1 t))
  where
    flat : (e : ℤ) → up e * down e ≡ 1 → down e ≤ 2 ^ 1074
    flat (pos k) h = lit≤ tt
    flat (negsuc k) h = le_trans (le_of_eq (sym (one-mul (2 ^ suc k)) ∙ h)) (lit≤ tt)
fits_says s (suc m) e t =
    let p = eqb (suc m % 2) 1 in
    let q = ltb (suc m) (2 ^ 53) in
    let r = leb (down e) (2 ^ 1074) in
    let u : T (p && q && r) = and_l (p && q && r) (ltb (suc m * up e) (2 ^ 1024 * down e)) t in
    (ltb→lt (suc m) (2 ^ 53) (and_r p q (and_l (p && q) r u)), leb→le (down e) (2 ^ 1074) (and_r (p && q) r u))

-- the exponent that makes up for down e
made_up : (e : ℤ) → down e ≤ 2 ^ 1074 → (j : ℕ) × (2 ^ 1074 ≡ 2 ^ j * down e) × (j ≤ 1074)
made_up (pos k) h = (1074, sym (mul-one (2 ^ 1074)), le_refl 1074)
made_up (negsuc k) h =
    let l : suc k ≤ 1074 = elim (dec_lt 1074 (suc k)) [ yes b ↦ absurd (lt_irrefl (2 ^ 1074) (lt_of_lt_of_le (pow-lt b) h)) | no b ↦ omega arith ] in
    (1074 - suc k, ap (λ (z : ℕ). 2 ^ z) (sym (sub-add_cancel l)) ∙ pow-add 2 (1074 - suc k) (suc k), omega arith)

pub frac_exact : (a : ℕ) (e : ℤ) → down e ≤ 2 ^ 1074 → a < 2 ^ 53 → HasValue (round binary64 false a (down e)) false a (down e)
frac_exact a e h l =
    let k = made_up e h in
    round_exact binary64 false a (down e) a k.0 (down_pos e) l
    (lt_of_lt_of_le (shl_lt 53 k.0 l) (pow_mono {j = 1074 + 1024} (le_trans (room k.0 k.2) (lit≤ tt))))
    (ap (λ (z : ℕ). a * z) k.1 ∙ sym (mul_assoc a (2 ^ k.0) (down e)))
  where
    room : (j : ℕ) → j ≤ 1074 → 53 + j ≤ 53 + 1074
    room j h = omega arith

-- a fraction of a half or more rounds to a half at least
pub high_half : (a c : ℕ) → 0 < c → a < c → c ≤ a * 2 → unit ≤ units a c * 2
high_half a c C b h =
    subst₂ (λ (x y : ℕ). x ≤ y) (one-mul unit) refl
    (values_of_le (round binary64 false 1 2) (round binary64 false a c) 1 2 (units a c) unit half_pos up half_val (rounded a c C b)
    (round_mono binary64 1 2 a c (lit< tt) C (le_trans (le_of_eq (one-mul c)) h)))
  where
    half_val : HasValue (round binary64 false 1 2) false 1 2
    half_val = round_exact binary64 false 1 2 1 1073 (lit< tt) (lit< tt) (lit< tt) refl

    half_pos : T (positive (round binary64 false 1 2))
    half_pos = positive_of_value (round binary64 false 1 2) 1 2 half_val (lit< tt)

    one_pos : T (positive (round binary64 false 1 1))
    one_pos = positive_of_value (round binary64 false 1 1) 1 1 (round_whole binary64 false 1 (lit≤ tt)) (lit< tt)

    up : T (positive (round binary64 false a c))
    up = between (round binary64 false 1 2) (round binary64 false a c) (round binary64 false 1 1) half_pos one_pos
        (round_mono binary64 1 2 a c (lit< tt) C (le_trans (le_of_eq (one-mul c)) h))
        (round_mono binary64 a c 1 1 C (lit< tt) (omega arith))
