-- Frames and nodes: which are good, and where they stand in the descent.
use Rattle.std.proofs.Common.{◌≡◌, ℕ, zero, suc, ◌+◌, ◌*◌, ◌/◌, ◌%◌, ◌^◌, ◌<◌, ◌≤◌, true, false, ◌&&◌, T, eqb, ltb, leb, ℤ, nat_abs, sym, refl, ap, ◌∙◌, arith, lit≤, ltb→lt, leb→le, w64, Fits, SFits, le-leb}
use native.Mathlib.Nat as N
use borrow.Author.Tests.{lt-leb}
use lib.Ieee.{Float, binary64, of_int, to_signed, in_float, in_signed}
use lib.Ieee.Casts.{to_signed_in}
use mir.ValLaws.{to_z-of_z}
use Rattle.whole.proofs.Bools.{both_left, both_right, is_true, from_true}
use Rattle.whole.proofs.Floats.{int_in}
use Rattle.whole.proofs.View.{rd, v_abs, kept}
use Rattle.turtle.specs.Plane.{ab}
use Rattle.turtle.proofs.CornerLaws.{pair_is}
use Rattle.tables.specs.Table.{bit, state_of}
use Rattle.nodes.specs.declared.Frame.{Frame}
use Rattle.nodes.specs.declared.Node.{Node}
use Rattle.nodes.specs.declared.descent.Place.{Place}
use Rattle.nodes.specs.Nodes.{good_position, good_frame, good_node, can_step, is_flipped, frame_start, frame}
use Rattle.nodes.specs.Inside.Descents.{place_of_frame, frame_of_place, Room, Exact}
use Rattle.nodes.proofs.NodePositions.{GoodPosition, position_of_lem}

-- ---- a frame that is not good
module _ (n : Frame) where
  pub motif_high : 13 < n.motif → false ≡ good_frame n
  unfolding good_frame
  motif_high h = rw (lt-leb n.motif 13 h)

  pub flip_high : n.motif ≤ 13 → 1 < n.flip → false ≡ good_frame n
  unfolding good_frame
  flip_high m h = rw (le-leb n.motif 13 m, lt-leb n.flip 1 h)

-- ---- what a good frame has
pub record Good (n : Frame) : Type 0 where
  pub motif : n.motif ≤ 13
  pub flip : n.flip ≤ 1
  pub a : GoodPosition n.pos_a
  pub b : GoodPosition n.pos_b

pub good_of : (n : Frame) → good_frame n ≡ true → Good n
unfolding good_frame
good_of n e =
    let m = leb n.motif 13 in
    let f = leb n.flip 1 in
    let a = good_position n.pos_a in
    let b = good_position n.pos_b in
    let t = from_true e in
    let u = both_left (m && f && a) b t in
    let v = both_left (m && f) a u in
    record {
      motif = leb→le n.motif 13 (both_left m f v);
      flip = leb→le n.flip 1 (both_right m f v);
      a = position_of_lem n.pos_a (both_right (m && f) a u);
      b = position_of_lem n.pos_b (both_right (m && f && a) b t);
    }

-- what one has that has children
pub record Steps (n : Node) : Type 0 where
  pub orientation : n.orientation ≤ 5
  pub resolution : n.resolution ≤ 29
  pub good : good_frame n.frame ≡ true

pub steps_of : (n : Node) → can_step n ≡ true → Steps n
unfolding can_step good_node
steps_of n e =
    let o = leb n.orientation 5 in
    let r = leb n.resolution 30 in
    let f = good_frame n.frame in
    let t = from_true e in
    let g = both_left (o && r && f) (ltb n.resolution 30) t in
    let u = both_left (o && r) f g in
    record {
      orientation = leb→le n.orientation 5 (both_left o r u);
      resolution = omega (arith, ltb→lt n.resolution 30 (both_right (o && r && f) (ltb n.resolution 30) t));
      good = sym (is_true f (both_right (o && r) f g));
    }

-- ---- a frame is made
bit_is : (f : ℕ) → f ≤ 1 → bit (eqb f 1) ≡ f
bit_is zero h = refl
bit_is (suc zero) h = refl
bit_is (suc (suc f)) h = let none : ⊥ = omega arith in absurd none

pub made_in : (a : ℤ) → SFits w64 a → nat_abs a ≤ 2 ^ 38 → T (in_float binary64 (rd w64 a))
made_in a f h = rw (to_z-of_z w64 a f) (int_in a (N.le_trans h (lit≤ tt)))

pub made : (m f : ℕ) (a b : ℤ) → f ≤ 1 → SFits w64 a → SFits w64 b → (n : Frame) → n ≡ record { motif = m; flip = f; pos_a = of_int binary64 (rd w64 a); pos_b = of_int binary64 (rd w64 b) } → n ≡ frame m (eqb f 1) (ab a b)
unfolding frame
made m f a b h fa fb n e = e ∙ rw (bit_is f h, to_z-of_z w64 a fa, to_z-of_z w64 b fb)

pub ruleset making = (made_in, made)

-- ---- the place of a good frame
cut_kept : (x : Float) → rd w64 (to_signed 63 x) ≡ to_signed 63 x
cut_kept x = to_z-of_z w64 (to_signed 63 x) (record { sfits = to_signed_in 63 x })

module _ (n : Frame) (g : good_frame n ≡ true) where
  pub motif_fits : Fits w64 (2 * n.motif)
  motif_fits = record { fits = omega (arith, (good_of n g).motif) }

  pub state_fits : Fits w64 (2 * n.motif + n.flip)
  state_fits = record { fits = omega (arith, (good_of n g).motif, (good_of n g).flip) }

  state_is : 2 * n.motif + n.flip ≡ state_of n.motif (is_flipped n)
  unfolding state_of
  state_is = rw (bit_is n.flip (good_of n g).flip)

  pub exact_a : T (in_signed binary64 63 n.pos_a)
  exact_a = (good_of n g).a.exact

  pub exact_b : T (in_signed binary64 63 n.pos_b)
  exact_b = (good_of n g).b.exact

  pub place_read : ◌≡◌ {A = Place} (record { a = rd w64 (to_signed 63 n.pos_a); b = rd w64 (to_signed 63 n.pos_b); state = 2 * n.motif + n.flip }) (place_of_frame n)
  unfolding frame_start
  place_read = λ i. record { a = cut_kept n.pos_a i; b = cut_kept n.pos_b i; state = state_is i }

  frame_room : Room (2 ^ 37) 0 (place_of_frame n)
  unfolding frame_start
  frame_room = record {
    state = omega (arith, (good_of n g).motif, (good_of n g).flip, state_is);
    a = omega (arith, (good_of n g).a.small);
    b = omega (arith, (good_of n g).b.small);
  }

  pub place_room : {p : Place} → p ≡ place_of_frame n → Room (2 ^ 37) 0 p
  place_room e = rw e frame_room

pub ruleset placing = (motif_fits, state_fits, exact_a, exact_b, place_read)

-- ---- the frame at a place
module _ (p : Place) (x : Exact p) where
  read_a : rd w64 p.a ≡ p.a
  read_a = kept w64 refl (v_abs p.a (2 ^ 38) x.a) tt

  read_b : rd w64 p.b ≡ p.b
  read_b = kept w64 refl (v_abs p.b (2 ^ 38) x.b) tt

  pub exact_small_a : nat_abs (rd w64 p.a) ≤ 2 ^ 38
  exact_small_a = rw read_a x.a

  pub exact_small_b : nat_abs (rd w64 p.b) ≤ 2 ^ 38
  exact_small_b = rw read_b x.b

  pub frame_at : {n : Frame} → n ≡ frame (p.state / 2) (eqb (p.state % 2) 1) (ab (rd w64 p.a) (rd w64 p.b)) → n ≡ frame_of_place p
  frame_at e = e ∙ ap (frame (p.state / 2) (eqb (p.state % 2) 1)) (pair_is read_a read_b)

pub ruleset standing = (exact_small_a, exact_small_b, frame_at)
