-- What the code reads off an entry is the entry of the definition: each number fits its bits.
use mathlib.Core.Path.{◌≡◌, refl, sym, ap, ◌∙◌}
use Prim.Native.Nat.{ℕ, ◌+◌, ◌*◌, ◌/◌, ◌%◌, ◌<◌}
use native.Mathlib.Omega.{arith}
use native.Mathlib.Decide.{dec_lt}
use borrow.Author.Tests.{lt-ltb, le-ltb}
use Rattle.strides.specs.declared.Walk.{Walk}
use Rattle.strides.specs.declared.End.{End}
use Rattle.strides.specs.declared.Search.{Search}
use Rattle.strides.specs.Inside.Tiles.{entry_below, tile_below, digit_below, last_of}
use Rattle.strides.specs.Inside.Entries.{walk_entry, end_entry, search_entry}
use Rattle.strides.specs.Walks.{on_row_of, three_down, end_below, walk_step, walk_end}
use Rattle.strides.specs.Searches.{on_tile, below, three_below, digits_below, search_step, search_end}
use Rattle.strides.proofs.Rows.{three_x, three_row, three_whole, end_x, end_y}

-- ---- walks
unpacked : (x k y : ℕ) → x < 16 → k < 32 → let e = x + 64 * k + 2048 * y in (e % 16 ≡ x) × ((e / 2048 ≡ y) × (e / 64 % 32 ≡ k))
unpacked x k y h l = (omega arith, (omega arith, omega arith))

step_is : (w : Walk) (k : ℕ) → w.x < 16 → k < 32 → 64 * k ≡ w.row → (e : ℕ) → e ≡ w.x + w.row + 2048 * w.y
    → ◌≡◌ {A = Walk} (record { x = e % 16; y = e / 2048; row = 64 * (e / 64 % 32) }) w
step_is w k h l r e f =
    let u = unpacked w.x k w.y h l in
    let g : e ≡ w.x + 64 * k + 2048 * w.y = f ∙ ap (λ m. w.x + m + 2048 * w.y) (sym r) in
    let q = ap (λ m. 64 * m) (ap (λ e. e / 64 % 32) g ∙ u.1.1) ∙ r in
    λ i. record { x = (ap (λ e. e % 16) g ∙ u.0) i; y = (ap (λ e. e / 2048) g ∙ u.1.0) i; row = q i }

pub walk_entry_is : (i e : ℕ) → e ≡ walk_entry i → ◌≡◌ {A = Walk} (record { x = e % 16; y = e / 2048; row = 64 * (e / 64 % 32) }) (walk_step i)
unfolding walk_entry walk_step
walk_entry_is i e f = elim (dec_lt i 2368) [
  | yes h ↦
      let w = three_down (on_row_of (i / 64)) (i % 64) in
      let k : i / 64 < 37 = omega arith in
      let g : e ≡ w.x + w.row + 2048 * w.y = rw (lt-ltb i 2368 h) at f in
      rw (lt-ltb i 2368 h)
      (step_is w (w.row / 64) (three_x (i / 64) (i % 64) k (omega arith)) (omega (arith, three_row (i / 64) (i % 64) k (omega arith))) (three_whole (on_row_of (i / 64)) (i % 64)) e g)
  | no h ↦ (let g : e ≡ 0 = rw (le-ltb i 2368 (omega arith)) at f in rw (le-ltb i 2368 (omega arith), g))
]

end_unpacked : (x y f : ℕ) → x < 16 → y < 32 → let e = x + 16 * y + 512 * f in (e % 16 ≡ x) × ((e / 16 % 32 ≡ y) × (e / 512 ≡ f))
end_unpacked x y f h l = (omega arith, (omega arith, omega arith))

end_is : (w : End) → w.x < 16 → w.y < 32 → (e : ℕ) → e ≡ w.x + 16 * w.y + 512 * w.flavor → ◌≡◌ {A = End} (record { x = e % 16; flavor = e / 512; y = e / 16 % 32 }) w
end_is w h l e g =
    let u = end_unpacked w.x w.y w.flavor h l in
    λ i. record { x = (ap (λ e. e % 16) g ∙ u.0) i; flavor = (ap (λ e. e / 512) g ∙ u.1.1) i; y = (ap (λ e. e / 16 % 32) g ∙ u.1.0) i }

pub end_entry_is : (i e : ℕ) → e ≡ end_entry i → ◌≡◌ {A = End} (record { x = e % 16; flavor = e / 512; y = e / 16 % 32 }) (walk_end i)
unfolding end_entry walk_end
end_entry_is i e f = elim (dec_lt i 2368) [
  | yes h ↦
      let w = end_below (on_row_of (i / 64)) (i % 64) in
      let g : e ≡ w.x + 16 * w.y + 512 * w.flavor = rw (lt-ltb i 2368 h) at f in
      rw (lt-ltb i 2368 h) (end_is w (end_x (i / 64) (i % 64) (omega arith)) (end_y (i / 64) (i % 64) (omega arith)) e g)
  | no h ↦ (let g : e ≡ 0 = rw (le-ltb i 2368 (omega arith)) at f in rw (le-ltb i 2368 (omega arith), g))
]

-- ---- searches
pub digit_small : (t i : ℕ) → t < 64 → digit_below t i < 4
unfolding digit_below entry_below
digit_small t i h = elim (dec_lt t 35) [
  | yes l ↦ rw (lt-ltb t 35 l) (omega arith)
  | no l ↦ rw (le-ltb t 35 (omega arith)) (omega arith)
]

below_tile : (q : Search) (i : ℕ) → (below q i).row / 64 < 64
unfolding below tile_below
below_tile q i = omega arith

gathered : (s a b c : ℕ) → s ≡ 0 → a < 4 → b < 4 → c < 4 → 4 * (4 * (4 * s + a) + b) + c < 64
gathered s a b c e h k l = omega arith

-- the digits of three levels
pub below_digits : (row c : ℕ) → row / 64 < 41 → (three_below (record { row = row; s = 0 }) c).s < 64
unfolding three_below below
below_digits row c h =
    let p = below (record { row = row; s = 0 }) (c / 4 % 2 + 2 * (c / 32)) in
    gathered 0 _ _ _ refl (digit_small _ _ (omega arith)) (digit_small _ _ (below_tile (record { row = row; s = 0 }) (c / 4 % 2 + 2 * (c / 32)))) (digit_small _ _ (below_tile p (c / 2 % 2 + 2 * (c / 16 % 2))))

module _ (t c : ℕ) (h : t < 41) where
  three_digits : (three_below (on_tile t) c).s < 64
  three_digits = below_digits (64 * t) c (omega arith)

  below_row : 64 * ((three_below (on_tile t) c).row / 64) ≡ (three_below (on_tile t) c).row
  unfolding three_below below
  below_row = omega arith

  digits_small : digits_below (on_tile t) c < 256
  unfolding digits_below last_of
  digits_small = let d = three_digits in omega arith

search_unpacked : (s k : ℕ) → s < 64 → (64 * ((s + 64 * k) / 64) ≡ 64 * k) × ((s + 64 * k) % 64 ≡ s)
search_unpacked s k h = (omega arith, omega arith)

search_is : (q : Search) (k : ℕ) → q.s < 64 → 64 * k ≡ q.row → (e : ℕ) → e ≡ q.s + q.row → ◌≡◌ {A = Search} (record { row = 64 * (e / 64); s = e % 64 }) q
search_is q k h r e f =
    let u = search_unpacked q.s k h in
    let g : e ≡ q.s + 64 * k = f ∙ ap (λ m. q.s + m) (sym r) in
    λ i. record { row = (ap (λ e. 64 * (e / 64)) g ∙ u.0 ∙ r) i; s = (ap (λ e. e % 64) g ∙ u.1) i }

pub search_entry_is : (i e : ℕ) → e ≡ search_entry i → ◌≡◌ {A = Search} (record { row = 64 * (e / 64); s = e % 64 }) (search_step i)
unfolding search_entry search_step
search_entry_is i e f = elim (dec_lt i 2624) [
  | yes h ↦
      let q = three_below (on_tile (i / 64)) (i % 64) in
      let t : i / 64 < 41 = omega arith in
      let g : e ≡ q.s + q.row = rw (lt-ltb i 2624 h) at f in
      rw (lt-ltb i 2624 h) (search_is q (q.row / 64) (three_digits (i / 64) (i % 64) t) (below_row (i / 64) (i % 64) t) e g)
  | no h ↦ (let g : e ≡ 0 = rw (le-ltb i 2624 (omega arith)) at f in rw (le-ltb i 2624 (omega arith), g))
]

pub end_small : (i : ℕ) → search_end i < 256
unfolding search_end
end_small i = elim (dec_lt i 2624) [
  | yes h ↦ rw (lt-ltb i 2624 h) (digits_small (i / 64) (i % 64) (omega arith))
  | no h ↦ rw (le-ltb i 2624 (omega arith)) (omega arith)
]
