-- Searches by threes: three levels from anywhere are three levels from the tile, and 64 times the digits so far; three bits of two numbers are three pairs of bits; and
-- the tiles above an axiom's lead to it by any bits.
use mathlib.Core.Path.{◌≡◌, ap, ◌∙◌}
use mathlib.Core.List.{List, [], ◌∷◌}
use Prim.Native.Nat.{ℕ, zero, suc, ◌+◌, ◌-◌, ◌*◌, ◌/◌, ◌%◌, ◌^◌, ◌<◌, ◌≤◌}
use native.Mathlib.Omega.{arith}
use native.Mathlib.Nat as N
use borrow.Author.Tests.{lt-ltb, le-ltb}
use lib.Bits.{bit_xor, xor_shr, xor_add_and}
use lib.Dec.{T}
use Rattle.whole.proofs.Claims.{Claim, lt, eq, below as tested, all, each}
use Rattle.a5.specs.Inside.Spots.{Spot}
use Rattle.strides.specs.declared.Search.{Search}
use Rattle.strides.specs.Inside.Sizes.{OnTile}
use Rattle.strides.specs.Inside.Tiles.{tile_words, entry_below, tile_below, digit_below, last_of}
use Rattle.strides.specs.Searches.{on_tile, below, turn_of, turn_at, digits_after, three_below, turns_at, digits_below, search_step, search_end}
use Rattle.strides.proofs.EntryLaws.{below_digits}

-- ---- from anywhere
gathered : (s a b c : ℕ) → 64 * s + (4 * (4 * (4 * 0 + a) + b) + c) ≡ 4 * (4 * (4 * s + a) + b) + c
gathered s a b c = omega arith

abbrev begun : Search → Search
begun q = record { row = q.row; s = 0 }

three_from : (q : Search) (c : ℕ) → let r = three_below (begun q) c in ◌≡◌ {A = Search} (record { row = r.row; s = 64 * q.s + r.s }) (three_below q c)
unfolding three_below below
three_from q c = let e = gathered q.s _ _ _ in λ i. record { row = (three_below q c).row; s = e i }

spread : (s d l : ℕ) → 256 * s + (4 * d + l) ≡ 4 * (64 * s + d) + l
spread s d l = omega arith

digits_from : (q : Search) (c : ℕ) → 256 * q.s + digits_below (begun q) c ≡ digits_below q c
unfolding digits_below
digits_from q c = spread q.s _ _ ∙ ap (λ r. 4 * r.s + last_of (r.row / 64)) (three_from q c)

-- ---- what the tables have at a tile's entry c
module _ (q : Search) (c : ℕ) (r : OnTile q.row) (l : c < 64) where
  on_tile_lem : on_tile ((q.row + c) / 64) ≡ begun q
  on_tile_lem = let e : 64 * ((q.row + c) / 64) ≡ q.row = omega (arith, r.first) in λ i. record { row = e i; s = 0 }

  within : q.row + c < 2624
  within = omega (arith, r.first, r.small)

  turns : (q.row + c) % 64 ≡ c
  turns = omega (arith, r.first)

  step_entry : search_step (q.row + c) ≡ three_below (begun q) c
  unfolding search_step
  step_entry = rw (lt-ltb (q.row + c) 2624 within) (λ i. three_below (on_tile_lem i) (turns i))

  end_entry : search_end (q.row + c) ≡ digits_below (begun q) c
  unfolding search_end
  end_entry = rw (lt-ltb (q.row + c) 2624 within) (λ i. digits_below (on_tile_lem i) (turns i))

  pub step_is : (e : Search) → e ≡ search_step (q.row + c) → ◌≡◌ {A = Search} (record { row = e.row; s = 64 * q.s + e.s }) (three_below q c)
  step_is e f = let g = f ∙ step_entry in (λ i. record { row = (g i).row; s = 64 * q.s + (g i).s }) ∙ three_from q c

  pub end_is : (e : ℕ) → e ≡ search_end (q.row + c) → 256 * q.s + e ≡ digits_below q c
  end_is e f = ap (λ e. 256 * q.s + e) (f ∙ end_entry) ∙ digits_from q c

-- ---- tiles lead to tiles
abbrev Small : ℕ → ℕ → List Claim
Small t i = lt (tile_below t i) 41 ∷ []

small_all : T (all 41 4 Small)
unfolding all tested tile_below entry_below tile_words
small_all = tt

tile_small : (t i : ℕ) → t < 41 → i < 4 → tile_below t i < 41
tile_small t i h l = (each 41 4 Small small_all t i h l).0

below_small : (q : Search) (i : ℕ) → q.row / 64 < 41 → i < 4 → (below q i).row / 64 < 41
unfolding below
below_small q i h l = omega (arith, tile_small (q.row / 64) i h l)

pair_small : (a b : ℕ) → a < 2 → b < 2 → a + 2 * b < 4
pair_small a b h l = omega arith

three_small : (q : Search) (c : ℕ) → q.row / 64 < 41 → c < 64 → (three_below q c).row / 64 < 41
unfolding three_below
three_small q c h l = below_small _ _ (below_small _ _ (below_small q _ h (pair_small _ _ (omega arith) (omega arith))) (pair_small _ _ (omega arith) (omega arith))) (pair_small _ _ (omega arith) (omega arith))

three_whole : (q : Search) (c : ℕ) → 64 * ((three_below q c).row / 64) ≡ (three_below q c).row
unfolding three_below below
three_whole q c = omega arith

module _ (q : Search) (c : ℕ) (r : OnTile q.row) (l : c < 64) where
  pub step_small : (e : Search) → e ≡ search_step (q.row + c) → (e.s < 64) × OnTile e.row
  step_small e f =
      let g = f ∙ step_entry q c r l in
      let t : q.row / 64 < 41 = omega (arith, r.small) in
      let n = three_small (begun q) c t l in
      let w = three_whole (begun q) c in
      rw g (below_digits q.row c t, record { first = omega arith; small = omega arith })

-- ---- three bits at once
abbrev Bits : ℕ → ℕ → List Claim
Bits a b =
    let c = a + 8 * b in
    eq (c / 4 % 2 + 2 * (c / 32)) (a / 4 + 2 * (b / 4)) ∷ eq (c / 2 % 2 + 2 * (c / 16 % 2)) (a / 2 % 2 + 2 * (b / 2 % 2)) ∷ eq (c % 2 + 2 * (c / 8 % 2)) (a % 2 + 2 * (b % 2)) ∷ []

bits_all : T (all 8 8 Bits)
unfolding all tested
bits_all = tt

low_bits : (a : ℕ) → (a % 8 / 4 ≡ a / 2 / 2 % 2) × ((a % 8 / 2 % 2 ≡ a / 2 % 2) × (a % 8 % 2 ≡ a % 2))
low_bits a = (omega arith, (omega arith, omega arith))

three_bits : (a b : ℕ) → let c = a % 8 + 8 * (b % 8) in
    (c / 4 % 2 + 2 * (c / 32) ≡ a / 2 / 2 % 2 + 2 * (b / 2 / 2 % 2)) × ((c / 2 % 2 + 2 * (c / 16 % 2) ≡ a / 2 % 2 + 2 * (b / 2 % 2)) × (c % 2 + 2 * (c / 8 % 2) ≡ a % 2 + 2 * (b % 2)))
three_bits a b =
    let z = each 8 8 Bits bits_all (a % 8) (b % 8) (omega arith) (omega arith) in
    let i = low_bits a in
    let j = low_bits b in
    (z.0 ∙ rw (i.0, j.0), (z.1.0 ∙ rw (i.1.0, j.1.0), z.1.1.0 ∙ rw (i.1.1, j.1.1)))

next_bit : (a n : ℕ) → a / 2 ^ n / 2 ≡ a / 2 ^ suc n
next_bit a n = N.div-div-eq-div-mul a (2 ^ n) 2 ∙ ap (λ m. a / m) (let e : 2 ^ n * 2 ≡ 2 ^ suc n = omega arith in e)

xor_bit : (a b n : ℕ) → bit_xor a b / 2 ^ n % 2 ≡ (a / 2 ^ n + b / 2 ^ n) % 2
xor_bit a b n = ap (λ m. m % 2) (xor_shr a b n) ∙ odd _ _ _ (xor_add_and (a / 2 ^ n) (b / 2 ^ n))
  where
    odd : (m r s : ℕ) → m + r * 2 ≡ s → m % 2 ≡ s % 2
    odd m r s e = omega arith

turn_bits : (n : ℕ) (p : Spot) → bit_xor p.x p.g / 2 ^ n % 2 + 2 * (bit_xor p.y p.g / 2 ^ n % 2) ≡ turn_at n p
unfolding turn_at turn_of
turn_bits n p = λ i. xor_bit p.x p.g n i + 2 * xor_bit p.y p.g n i

pub turns_small : (n : ℕ) (p : Spot) → turns_at n p < 64
unfolding turns_at
turns_small n p = omega arith

-- ---- the loop: three bits fewer are left
three_after : (n : ℕ) (p : Spot) (q : Search) → digits_after n p (three_below q (turns_at n p)) ≡ digits_after (suc (suc (suc n))) p q
unfolding digits_after three_below turns_at
three_after n p q =
    let a = bit_xor p.x p.g in
    let b = bit_xor p.y p.g in
    let t = three_bits (a / 2 ^ n) (b / 2 ^ n) in
    let second : a / 2 ^ n / 2 % 2 + 2 * (b / 2 ^ n / 2 % 2) ≡ turn_at (suc n) p = rw (next_bit a n, next_bit b n) (turn_bits (suc n) p) in
    let first : a / 2 ^ n / 2 / 2 % 2 + 2 * (b / 2 ^ n / 2 / 2 % 2) ≡ turn_at (suc (suc n)) p =
    rw (next_bit a n, next_bit b n, next_bit a (suc n), next_bit b (suc n)) (turn_bits (suc (suc n)) p) in
    let i = t.0 ∙ first in
    let j = t.1.0 ∙ second in
    let k = t.1.1 ∙ turn_bits n p in
    λ m. digits_after n p (below (below (below q (i m)) (j m)) (k m))

pub after_step : (n : ℕ) (p : Spot) (q : Search) → 3 ≤ n → digits_after (n - 3 + 3) p (three_below q (turns_at n p)) ≡ digits_after (n + 3) p q
after_step n p q h =
    let e : n - 3 + 3 ≡ n = omega arith in
    let f : n + 3 ≡ suc (suc (suc n)) = omega arith in
    rw (e, f) (three_after n p q)

pub after_end : (p : Spot) (q : Search) → digits_below q (turns_at 0 p) ≡ digits_after 3 p q
unfolding digits_after digits_below
after_end p q = three_after 0 p q

-- ---- from the tiles above an axiom's
above_entry : (t i : ℕ) → 35 ≤ t → entry_below t i ≡ t - 3
unfolding entry_below
above_entry t i h = rw (le-ltb t 35 h)

above_below : (t i : ℕ) → 35 ≤ t → t < 64 → below (on_tile t) i ≡ on_tile (t - 3)
unfolding below tile_below digit_below
above_below t i h l =
    let r : 64 * t / 64 ≡ t = omega arith in
    let e = ap (λ t. entry_below t i) r ∙ above_entry t i h in
    let a : (t - 3) % 64 ≡ t - 3 = omega arith in
    let b : (t - 3) / 64 ≡ 0 = omega arith in
    λ j. record { row = 64 * (ap (λ m. m % 64) e ∙ a) j; s = 0 + (ap (λ m. m / 64) e ∙ b) j }

pub after_above : (m n j : ℕ) (p : Spot) → 3 * m + j < 32 → digits_after (n + m) p (on_tile (32 + 3 * m + j)) ≡ digits_after n p (on_tile (32 + j))
unfolding digits_after
after_above zero n j p h =
    let e : n + 0 ≡ n = omega arith in
    let f : 32 + 3 * 0 + j ≡ 32 + j = omega arith in
    λ i. digits_after (e i) p (on_tile (f i))
after_above (suc m) n j p h =
    let e : n + suc m ≡ suc (n + m) = omega arith in
    let f : 32 + 3 * suc m + j - 3 ≡ 32 + 3 * m + j = omega arith in
    rw e (ap (digits_after (n + m) p) (above_below (32 + 3 * suc m + j) (turn_at (n + m) p) (omega arith) (omega arith) ∙ ap on_tile f) ∙ after_above m n j p (omega arith))
