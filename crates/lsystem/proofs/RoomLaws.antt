-- A walk and a search have room, since a step of three levels takes as much of it as three levels fewer need; and each step leaves the rest to do.
use mathlib.Core.Path.{◌≡◌, refl, sym, ap, ◌∙◌, subst}
use Prim.Native.Nat.{ℕ, suc, ◌+◌, ◌-◌, ◌*◌, ◌/◌, ◌%◌, ◌^◌, ◌<◌, ◌≤◌}
use native.Mathlib.Omega.{arith}
use native.Mathlib.Nat as N
use Rattle.whole.proofs.Digits.{four_power}
use Rattle.whole.proofs.Powers.{four_by_shift}
use Rattle.tables.proofs.HornerLaws.{room_now}
use Rattle.a5.specs.Inside.Spots.{Spot}
use Rattle.strides.specs.declared.Walk.{Walk}
use Rattle.strides.specs.declared.Search.{Search}
use Rattle.strides.specs.declared.End.{End}
use Rattle.strides.specs.Walks.{on_row_of, three_down, end_below, end_after, walk_step, walk_end}
use Rattle.strides.specs.Searches.{on_tile, three_below, turns_at, digits_below, digits_after, search_step, search_end}
use Rattle.strides.proofs.EntryLaws.{end_small}
use Rattle.strides.proofs.WalkLaws as W
use Rattle.strides.proofs.SearchLaws as S
use Rattle.lsystem.specs.Inside.Rooms.{WalkRoom, SearchRoom, Walking, Searching}

-- ---- walks
pub walk_room_now : (n : ℕ) (w : Walk) → WalkRoom n w → WalkRoom 0 w
walk_room_now n w r = record { on = r.on; x = room_now 3 (2 ^ 30) n w.x r.x; y = room_now 5 (2 ^ 30) n w.y r.y }

eightfold : (n : ℕ) → 3 ≤ n → 2 ^ n ≡ 8 * 2 ^ (n - 3)
eightfold n h =
    let e : n ≡ suc (suc (suc (n - 3))) = omega arith in
    let f : 2 ^ suc (suc (suc (n - 3))) ≡ 8 * 2 ^ (n - 3) = omega arith in
    ap (λ n. 2 ^ n) e ∙ f

held : (x a c m b : ℕ) → a + c ≤ 8 * c → (x + c) * (8 * m) ≤ b → (8 * x + a + c) * m ≤ b
held x a c m b h l = omega (arith, N.mul-le-mul_right m h, l)

pub walk_room_step : (n : ℕ) (w : Walk) (c : ℕ) → 3 ≤ n → WalkRoom n w → c < 64 → WalkRoom (n - 3) (three_down w c)
walk_room_step n w c h r l =
    let q = walk_step (w.row + c) in
    let small = W.step_small w c r.on l q refl in
    let m = eightfold n h in
    subst (WalkRoom (n - 3)) (W.step_is w c r.on l q refl)
    (record {
      on = small.1.1;
      x = held w.x q.x 3 (2 ^ (n - 3)) (2 ^ 30) (omega (arith, small.0)) (rw m at r.x);
      y = held w.y q.y 5 (2 ^ (n - 3)) (2 ^ 30) (omega (arith, small.1.0)) (rw m at r.y);
    })

pub walk_room_start : (n k : ℕ) → n ≤ 27 → k < 37 → WalkRoom n (on_row_of k)
walk_room_start n k h l =
    let p : 2 ^ n ≤ 2 ^ 27 = N.pow-le-pow_right (omega arith) h in
    record { on = record { first = omega arith; small = omega arith }; x = omega (arith, p); y = omega (arith, p) }

-- nothing overflows in a step, nor at the end
module _ (w : Walk) (c : ℕ) (r : WalkRoom 0 w) (l : c < 64) where
  pub step_x : (q : Walk) → q ≡ walk_step (w.row + c) → 8 * w.x + q.x < 2 ^ 64
  step_x q e = omega (arith, r.x, (W.step_small w c r.on l q e).0)

  pub step_y : (q : Walk) → q ≡ walk_step (w.row + c) → 8 * w.y + q.y < 2 ^ 64
  step_y q e = omega (arith, r.y, (W.step_small w c r.on l q e).1.0)

  pub end_x : (e : End) → e ≡ walk_end (w.row + c) → 4 * w.x + e.x < 2 ^ 64
  end_x e f = omega (arith, r.x, (W.end_small w c r.on l e f).0)

  pub end_y : (e : End) → e ≡ walk_end (w.row + c) → 4 * w.y + e.y < 2 ^ 64
  end_y e f = omega (arith, r.y, (W.end_small w c r.on l e f).1)

-- ---- searches
fewer : (s m b : ℕ) → 0 < m → (s + 1) * m ≤ b → (s + 1) * 4 ^ 0 ≤ b
fewer s m b h l = omega (arith, N.mul-le-mul_left (s + 1) h, l)

pub search_room_now : (n : ℕ) (q : Search) → SearchRoom n q → SearchRoom 0 q
search_room_now n q r = record { on = r.on; s = fewer q.s (4 ^ n) (4 ^ 27) (four_power n) r.s }

gathered : (s a m b : ℕ) → a < 64 → (s + 1) * (64 * m) ≤ b → (64 * s + a + 1) * m ≤ b
gathered s a m b h l = omega (arith, N.mul-le-mul_right m h, l)

pub search_room_step : (n : ℕ) (q : Search) (c : ℕ) → 3 ≤ n → SearchRoom n q → c < 64 → SearchRoom (n - 3) (three_below q c)
search_room_step n q c h r l =
    let e = search_step (q.row + c) in
    let small = S.step_small q c r.on l e refl in
    let i : n ≡ suc (suc (suc (n - 3))) = omega arith in
    let m : 4 ^ suc (suc (suc (n - 3))) ≡ 64 * 4 ^ (n - 3) = omega arith in
    subst (SearchRoom (n - 3)) (S.step_is q c r.on l e refl)
    (record { on = small.1; s = gathered q.s e.s (4 ^ (n - 3)) (4 ^ 27) small.0 (rw (i, m) at r.s) })

pub search_room_start : (n k : ℕ) → n ≤ 27 → k < 41 → SearchRoom n (on_tile k)
search_room_start n k h l =
    let p : 4 ^ n ≤ 4 ^ 27 = N.pow-le-pow_right {n = 4} (omega arith) h in
    record { on = record { first = omega arith; small = omega arith }; s = omega (arith, p) }

module _ (q : Search) (c : ℕ) (r : SearchRoom 0 q) (l : c < 64) where
  pub step_s : (e : Search) → e ≡ search_step (q.row + c) → 64 * q.s + e.s < 2 ^ 64
  step_s e f = omega (arith, r.s, (S.step_small q c r.on l e f).0)

  pub end_s : (e : ℕ) → e ≡ search_end (q.row + c) → 256 * q.s + e < 2 ^ 64
  end_s e f = omega (arith, r.s, end_small (q.row + c), f)

-- ---- the loop of a walk
pub walking_start : (letter r s : ℕ) → (letter < 3) × ((0 < r) × (r ≤ 30))
    → let k = (r - 1) / 3 in Walking (end_after (r - 1) s (on_row_of (28 + letter))) s k (on_row_of (28 + 3 * (3 * k + 3 - r) + letter))
walking_start letter r s h =
    let k = (r - 1) / 3 in
    let e : 3 * k + 2 ≡ r - 1 + (3 * k + 3 - r) = omega arith in
    record {
      most = omega arith;
      room = walk_room_start (3 * k) (28 + 3 * (3 * k + 3 - r) + letter) (omega arith) (omega arith);
      rest = ap (λ m. end_after m s (on_row_of (28 + 3 * (3 * k + 3 - r) + letter))) e ∙ W.after_above (3 * k + 3 - r) (r - 1) s letter;
    }

module _ (end : End) (s k : ℕ) (w : Walk) (i : Walking end s k w) where
  pub walking_room : WalkRoom 0 w
  walking_room = walk_room_now (3 * k) w i.room

  pub walking_end : k ≡ 0 → end_below w (s % 64) ≡ end
  walking_end h = W.after_end s w ∙ ap (λ m. end_after (3 * m + 2) s w) (sym h) ∙ i.rest

  -- a step, by the three digits from a bit up
  digits_by_bits : 0 < k → s / 2 ^ (6 * (k - 1) + 6) % 64 ≡ s / 4 ^ (3 * k) % 64
  digits_by_bits h =
      let e : 6 * (k - 1) + 6 ≡ 2 * (3 * k) = omega arith in
      ap (λ m. s / m % 64) (ap (λ b. 2 ^ b) e ∙ four_by_shift (3 * k))

  pub walking_on : 0 < k → (c : ℕ) → c ≡ s / 2 ^ (6 * (k - 1) + 6) % 64 → (v : Walk) → v ≡ three_down w c → Walking end s (k - 1) v
  walking_on h c ec v ev =
      let m : 3 * k - 3 ≡ 3 * (k - 1) = omega arith in
      let e = ev ∙ ap (three_down w) (ec ∙ digits_by_bits h) in
      record {
        most = omega (arith, i.most);
        room = rw (e, ← m) (walk_room_step (3 * k) w (s / 4 ^ (3 * k) % 64) (omega arith) i.room (omega arith));
        rest = rw (e, ← m) (W.after_step (3 * k) s w (omega arith) ∙ i.rest);
      }

-- ---- the loop of a search
pub searching_start : (letter r : ℕ) (p : Spot) → (letter < 3) × ((0 < r) × (r ≤ 30))
    → let k = (r - 1) / 3 in Searching (digits_after r p (on_tile (32 + letter))) p k (on_tile (32 + 3 * (3 * k + 3 - r) + letter))
searching_start letter r p h =
    let k = (r - 1) / 3 in
    let e : 3 * k + 3 ≡ r + (3 * k + 3 - r) = omega arith in
    record {
      most = omega arith;
      room = search_room_start (3 * k) (32 + 3 * (3 * k + 3 - r) + letter) (omega arith) (omega arith);
      rest = ap (λ m. digits_after m p (on_tile (32 + 3 * (3 * k + 3 - r) + letter))) e ∙ S.after_above (3 * k + 3 - r) r letter p (omega arith);
    }

module _ (digits : ℕ) (p : Spot) (k : ℕ) (q : Search) (i : Searching digits p k q) where
  pub searching_room : SearchRoom 0 q
  searching_room = search_room_now (3 * k) q i.room

  pub searching_end : k ≡ 0 → digits_below q (turns_at (3 * k) p) ≡ digits
  searching_end h = ap (λ m. digits_below q (turns_at (3 * m) p)) h ∙ S.after_end p q ∙ ap (λ m. digits_after (3 * m + 3) p q) (sym h) ∙ i.rest

  pub searching_on : 0 < k → (c : ℕ) → c ≡ turns_at (3 * k) p → (v : Search) → v ≡ three_below q c → Searching digits p (k - 1) v
  searching_on h c ec v ev =
      let m : 3 * k - 3 ≡ 3 * (k - 1) = omega arith in
      let e = ev ∙ ap (three_below q) ec in
      record {
        most = omega (arith, i.most);
        room = rw (e, ← m) (search_room_step (3 * k) q (turns_at (3 * k) p) (omega arith) i.room (S.turns_small (3 * k) p));
        rest = rw (e, ← m) (S.after_step (3 * k) p q (omega arith) ∙ i.rest);
      }
