-- A node of numbers that a caller hands over: what does not fit a node's field is refused as it would be.
use mathlib.Core.Path.{◌≡◌, refl, sym, ◌∙◌}
use mathlib.Core.Bool.{Bool, true, false, not, ◌&&◌}
use mathlib.Core.List.{List, [], ◌∷◌}
use mathlib.Core.Logic.{◌⊎◌, inl, inr}
use Prim.Native.Nat.{ℕ, ◌+◌, ◌<◌}
use native.Mathlib.Omega.{arith}
use borrow.Author.Tests.{ltb-true, ltb-false}
use lib.Dec.{T, leb, ltb}
use lib.IntN.{ℤ, pos, negsuc, nat_abs}
use lib.Ieee.{Float}
use lib.Signed.{lt_z, non_neg}
use mir.Syntax.{w8, w32}
use mir.Val.{Fits, SFits, to_z, of_z}
use mir.ValLaws.{to_z-of_z}
use Rattle.triple.specs.declared.refusal.Refusal.TheVariants as Is
use Rattle.triple.specs.Orientations.{curve_place}
use Rattle.triple.specs.Refusals.{refused, number_of, refuse}
use Rattle.nodes.specs.declared.Frame.{Frame}
use Rattle.nodes.specs.declared.Node.{Node}
use Rattle.nodes.specs.Nodes.{good_frame, good_node, can_step, step_to, child_step_of}
use Rattle.nodes.proofs.NodeLaws.{motif_high, flip_high}
use Rattle.triple.specs.Lent.{valued, CalledBoth}
use Rattle.capi.specs.Calls.{step_values, step_call}
use Rattle.capi.specs.Inside.Given.{clipped, frame_clipped}
use Rattle.capi.proofs.SignedLaws.{Fitting}

-- ---- a number clipped, by the tests that the code makes
module _ (greatest : ℕ) where
  negative : (z : ℤ) → lt_z z (pos 0) ≡ true → greatest + 1 ≡ clipped greatest z
  unfolding clipped
  negative (pos n) e = absurd (omega (arith, ltb-true n 0 e))
  negative (negsuc n) e = omega arith

  above : (z : ℤ) → lt_z (pos greatest) z ≡ true → greatest + 1 ≡ clipped greatest z
  unfolding clipped
  above (pos n) e = rw e (omega arith)
  above (negsuc n) e = omega arith

  within : (z : ℤ) → lt_z z (pos 0) ≡ false → lt_z (pos greatest) z ≡ false → nat_abs z ≡ clipped greatest z
  unfolding clipped
  within (pos n) h e = rw e
  within (negsuc n) h e = let z : ◌≡◌ {A = ℕ} 0 1 = cc in absurd (omega arith)

  small : greatest < 255 → (z : ℤ) → lt_z z (pos 0) ≡ false → lt_z (pos greatest) z ≡ false → T (non_neg z) × Fits w8 (nat_abs z)
  small g (pos n) h e = (tt, omega (arith, ltb-false greatest n e))
  small g (negsuc n) h e = let z : ◌≡◌ {A = ℕ} 0 1 = cc in absurd (omega arith)

  -- both are held as they are read back from their bits
  module _ (number : ℤ) (fits : SFits w32 number) where
    is : to_z w32 (of_z w32 number) ≡ number
    is = to_z-of_z w32 number fits

    pub clip_negative : lt_z (to_z w32 (of_z w32 number)) (pos 0) ≡ true → greatest + 1 ≡ clipped greatest number
    clip_negative e = negative number (rw is at e)

    module _ (short : greatest < 255) where
      limit : to_z w32 (of_z w32 (pos greatest)) ≡ pos greatest
      limit = to_z-of_z w32 (pos greatest) (omega arith)

      pub clip_above : lt_z (to_z w32 (of_z w32 (pos greatest))) (to_z w32 (of_z w32 number)) ≡ true → greatest + 1 ≡ clipped greatest number
      clip_above e = above number (rw (limit, is) at e)

      module _ (h : lt_z (to_z w32 (of_z w32 number)) (pos 0) ≡ false) (e : lt_z (to_z w32 (of_z w32 (pos greatest))) (to_z w32 (of_z w32 number)) ≡ false) where
        pub clip_within : nat_abs (to_z w32 (of_z w32 number)) ≡ clipped greatest number
        clip_within = rw is (within number (rw is at h) (rw (limit, is) at e))

        pub clip_fits : T (non_neg (to_z w32 (of_z w32 number))) × Fits w8 (nat_abs (to_z w32 (of_z w32 number)))
        clip_fits = rw is (small short number (rw is at h) (rw (limit, is) at e))

-- ---- a step from a clipped node
module _ (n : Node) (d : ℕ) where
  bad_step : false ≡ good_frame n.frame → valued step_values (child_step_of n d) ≡ refused (number_of Is.Node)
  unfolding child_step_of can_step good_node
  bad_step e = rw (← e) (go (leb n.orientation 5 && leb n.resolution 30))
    where
      go : (b : Bool) → valued step_values (refuse (not ((b && false) && ltb n.resolution 30)) Is.Node (refuse (ltb 3 d) Is.Digit (step_to n (curve_place n.orientation 1 d)))) ≡ refused (number_of Is.Node)
      go true = refl
      go false = refl

-- ---- the node that is given, and the one that the code makes of it
clipped_high : (greatest n : ℕ) → ltb greatest n ≡ true → greatest < clipped greatest (pos n)
unfolding clipped
clipped_high greatest n e = rw e (omega arith)

clipped_same : (greatest n : ℕ) → ltb greatest n ≡ false → clipped greatest (pos n) ≡ n
unfolding clipped
clipped_same greatest n e = rw e

clipped_negative : (greatest n : ℕ) → greatest < clipped greatest (negsuc n)
unfolding clipped
clipped_negative greatest n = omega arith

-- a motif or a flip that is too large
high : (f : Frame) → (13 < f.motif) ⊎ (1 < f.flip) → false ≡ good_frame f
high f (inl h) = motif_high f h
high f (inr h) = go (ltb 13 f.motif) refl
  where
    go : (b : Bool) → ltb 13 f.motif ≡ b → false ≡ good_frame f
    go true e = motif_high f (ltb-true 13 f.motif e)
    go false e = flip_high f (ltb-false 13 f.motif e) h

module _ (o r : ℕ) (a b : Float) (d : ℕ) where
  abbrev node : Frame → Node
  node f = record { orientation = o; resolution = r; frame = f }

  abbrev framed : ℕ → ℕ → Frame
  framed m f = record { motif = m; flip = f; pos_a = a; pos_b = b }

  -- of two that are not negative, one is too large
  high_step : (m f : ℕ) → (13 < m) ⊎ (1 < f) → (13 < clipped 13 (pos m)) ⊎ (1 < clipped 1 (pos f)) → valued step_values (child_step_of (node (frame_clipped (pos m) (pos f) a b)) d) ≡ step_call o r (pos m) (pos f) a b d
  unfolding step_call
  high_step m f h k = bad_step (node (frame_clipped (pos m) (pos f) a b)) d (high _ k) ∙ sym (bad_step (node (framed m f)) d (high _ h))

  pub step_given : (m f : ℤ) → valued step_values (child_step_of (node (frame_clipped m f a b)) d) ≡ step_call o r m f a b d
  unfolding step_call
  step_given (negsuc m) f = bad_step (node (frame_clipped (negsuc m) f a b)) d (high _ (inl (clipped_negative 13 m)))
  step_given (pos m) (negsuc f) = bad_step (node (frame_clipped (pos m) (negsuc f) a b)) d (high _ (inr (clipped_negative 1 f)))
  step_given (pos m) (pos f) = go (ltb 13 m) (ltb 1 f) refl refl
    where
      go : (s t : Bool) → ltb 13 m ≡ s → ltb 1 f ≡ t → valued step_values (child_step_of (node (frame_clipped (pos m) (pos f) a b)) d) ≡ step_call o r (pos m) (pos f) a b d
      go true t h k = high_step m f (inl (ltb-true 13 m h)) (inl (clipped_high 13 m h))
      go false true h k = high_step m f (inr (ltb-true 1 f k)) (inr (clipped_high 1 f k))
      go false false h k = rw (clipped_same 13 m h, clipped_same 1 f k)

-- ---- the same of numbers that are held as they are read back from their bits
module _ {x y : ℤ} (fits : Fitting w32 (x ∷ y ∷ [])) where
  abbrev made : Float → Float → Frame
  made a b = frame_clipped (to_z w32 (of_z w32 x)) (to_z w32 (of_z w32 y)) a b

  made_is : (a b : Float) → made a b ≡ frame_clipped x y a b
  made_is a b = rw (to_z-of_z w32 x fits.0, to_z-of_z w32 y fits.1.0)

  pub frame_made : {a b : Float} {m f : ℕ} → m ≡ clipped 13 (to_z w32 (of_z w32 x)) → f ≡ clipped 1 (to_z w32 (of_z w32 y)) → {n : Frame} → n ≡ record { motif = m; flip = f; pos_a = a; pos_b = b } → n ≡ frame_clipped x y a b
  frame_made {a} {b} h k e = (rw (h, k) at e) ∙ made_is a b

  module _ {a b : Float} {f : Frame} (is_made : f ≡ made a b) {o r : ℕ} {n : Node} (is_node : n ≡ record { orientation = o; resolution = r; frame = f }) (d : ℕ)
      (numbers : List ℤ) (places : List Float) {k : ℕ} {after : List ℤ} {placed : List Float} where
    pub step_called : CalledBoth (valued step_values (child_step_of n d)) numbers places k after placed → CalledBoth (step_call o r x y a b d) numbers places k after placed
    step_called p = rw (is_node, is_made ∙ made_is a b, step_given o r a b d x y) at p
