-- The turtle's walk of a word: of two words one after the other; and from a place that is moved or turned half about, which moves and turns each cell alike.
use mathlib.Core.Path.{◌≡◌, refl, sym, ◌∙◌, ap}
use mathlib.Core.Bool.{Bool, true, false}
use mathlib.Core.List.{List, [], ◌∷◌, ◌++◌, map}
use Prim.Native.Nat.{ℕ, ◌+◌, ◌*◌, ◌/◌, ◌%◌}
use native.Mathlib.Omega.{arith}
use Rattle.std.specs.Prelude.{Option, Some, None}
use Rattle.turtle.specs.declared.AB.{AB}
use Rattle.turtle.specs.declared.letter.Stroke.{Stroke}
use Rattle.turtle.specs.declared.walk.Turtle.{Turtle}
use Rattle.turtle.specs.declared.walk.DrawnCell.{DrawnCell}
use Rattle.turtle.specs.Plane.{origin, ◌⊕◌, thrice, rots, signed, facing, flipped}
use Rattle.turtle.specs.Letters.{toggled}
use Rattle.turtle.specs.Walk.{Sym, left, right, letter, turtle, start, move, corner, turned_flavor, cell, cells, final}
use Rattle.turtle.proofs.PlaneLaws.{sums, ⊕_assoc, ⊕_idl, ⊕_idr, thrice_⊕, thrice_origin, rots_⊕, rots_flip, signed_⊕, signed_origin, signed_flipped, thrice_signed}

-- ---- one word after the other
pub final_append : (w u : List (Sym Stroke)) (t : Turtle) → final (w ++ u) t ≡ final u (final w t)
unfolding final
final_append [] u t = refl
final_append (a ∷ w) u t = final_append w u (move a t)

pub cells_append : (w u : List (Sym Stroke)) (t : Turtle) → cells (w ++ u) t ≡ cells w t ++ cells u (final w t)
unfolding cells final
cells_append [] u t = refl
cells_append (left ∷ w) u t = cells_append w u (move left t)
cells_append (right ∷ w) u t = cells_append w u (move right t)
cells_append (letter s ∷ w) u t = ap (λ l. cell s t ∷ l) (cells_append w u (move (letter s) t))

-- ---- a cell's sum: three times where the turtle is, and the stroke's own corners turned
pub cell_sum : (s : Stroke) (t : Turtle) → (cell s t).sum ≡ thrice t.at ⊕ rots t.heading (s.p ⊕ s.q ⊕ s.r)
unfolding cell corner thrice
cell_sum s t = rw (rots_⊕, rots_⊕) (simp sums)

-- ---- moved by v, and turned half about where f
unfoldable spin : Bool → ℕ → ℕ
spin false h = h
spin true h = (h + 3) % 6

unfoldable onto : AB → Bool → Turtle → Turtle
onto v f t = turtle (v ⊕ signed f t.at) (spin f t.heading)

unfoldable pub placed : AB → Bool → DrawnCell → DrawnCell
placed v f c = record { sum = thrice v ⊕ signed f c.sum; flavor = turned_flavor (facing f) c.flavor }

-- ---- headings and flavors
rots_spin : (f : Bool) (h : ℕ) (p : AB) → rots (spin f h) p ≡ signed f (rots h p)
unfolding spin signed
rots_spin false h p = refl
rots_spin true h p = rots_flip h p

spin_plus : (f : Bool) (k h : ℕ) → (spin f h + k) % 6 ≡ spin f ((h + k) % 6)
unfolding spin
spin_plus false k h = refl
spin_plus true k h = omega arith

toggled_toggled : (h k b : ℕ) → toggled k (toggled h b) ≡ toggled (h + k) b
unfolding toggled
toggled_toggled h k b =
    let q : (b / 2 * 2 + (b + h) % 2) / 2 ≡ b / 2 = omega arith in
    let m : (b / 2 * 2 + (b + h) % 2 + k) % 2 ≡ (b + (h + k)) % 2 = omega arith in
    cc

toggled_mod : (h b : ℕ) → toggled (h % 6) b ≡ toggled h b
unfolding toggled
toggled_mod h b = omega arith

toggled_zero : (b : ℕ) → toggled 0 b ≡ b
unfolding toggled
toggled_zero b = omega arith

flavor_twice : (h k : ℕ) (f : Option ℕ) → turned_flavor k (turned_flavor h f) ≡ turned_flavor (h + k) f
unfolding turned_flavor
flavor_twice h k (Some b) = ap Some (toggled_toggled h k b)
flavor_twice h k None = refl

flavor_mod : (h : ℕ) (f : Option ℕ) → turned_flavor (h % 6) f ≡ turned_flavor h f
unfolding turned_flavor
flavor_mod h (Some b) = ap Some (toggled_mod h b)
flavor_mod h None = refl

flavor_zero : (f : Option ℕ) → turned_flavor 0 f ≡ f
unfolding turned_flavor
flavor_zero (Some b) = ap Some (toggled_zero b)
flavor_zero None = refl

flavor_spin : (f : Bool) (h : ℕ) (c : Option ℕ) → turned_flavor (spin f h) c ≡ turned_flavor (facing f) (turned_flavor h c)
unfolding spin facing
flavor_spin false h c = sym (flavor_zero _)
flavor_spin true h c = flavor_mod (h + 3) c ∙ sym (flavor_twice h 3 c)

flavor_flipped : (f k : Bool) (c : Option ℕ) → turned_flavor (facing f) (turned_flavor (facing k) c) ≡ turned_flavor (facing (flipped f k)) c
unfolding facing flipped
flavor_flipped false k c = flavor_zero _
flavor_flipped true false c = flavor_twice 0 3 c
flavor_flipped true true c = flavor_twice 3 3 c ∙ sym (flavor_mod 6 c)

-- ---- the walk from there
move_onto : (v : AB) (f : Bool) (a : Sym Stroke) (t : Turtle) → move a (onto v f t) ≡ onto v f (move a t)
unfolding move onto
move_onto v f left t = ap (turtle _) (spin_plus f 1 t.heading)
move_onto v f right t = ap (turtle _) (spin_plus f 5 t.heading)
move_onto v f (letter s) t = simp (rots_spin, signed_⊕, ⊕_assoc)

cell_onto : (v : AB) (f : Bool) (s : Stroke) (t : Turtle) → cell s (onto v f t) ≡ placed v f (cell s t)
unfolding cell placed onto
cell_onto v f s t = λ i. record { sum = same_sum i; flavor = flavor_spin f t.heading s.flavor i }
  where
    same_sum : (cell s (onto v f t)).sum ≡ (placed v f (cell s t)).sum
    same_sum = rw (cell_sum s t, cell_sum s (onto v f t)) (simp (rots_spin, thrice_⊕, thrice_signed, signed_⊕, ⊕_assoc))

final_onto : (v : AB) (f : Bool) (w : List (Sym Stroke)) (t : Turtle) → final w (onto v f t) ≡ onto v f (final w t)
unfolding final
final_onto v f [] t = refl
final_onto v f (a ∷ w) t = rw move_onto (final_onto v f w (move a t))

cells_onto : (v : AB) (f : Bool) (w : List (Sym Stroke)) (t : Turtle) → cells w (onto v f t) ≡ map (placed v f) (cells w t)
unfolding cells
cells_onto v f [] t = refl
cells_onto v f (left ∷ w) t = rw move_onto (cells_onto v f w (move left t))
cells_onto v f (right ∷ w) t = rw move_onto (cells_onto v f w (move right t))
cells_onto v f (letter s ∷ w) t = rw (cell_onto, move_onto, cells_onto v f w (move (letter s) t))

-- so a walk from where a child may be met, at heading 0 or 3, is the walk from the origin, placed there
onto_home : (v : AB) (f : Bool) (p : AB) → onto v f (turtle p 0) ≡ turtle (v ⊕ signed f p) (facing f)
unfolding onto spin facing
onto_home v false p = refl
onto_home v true p = refl

onto_start : (v : AB) (f : Bool) → onto v f start ≡ turtle v (facing f)
onto_start v f = onto_home v f origin ∙ rw (signed_origin, ⊕_idr)

module _ (w : List (Sym Stroke)) (v : AB) (h : ℕ) (f : Bool) (e : h ≡ facing f) where
  pub cells_from : cells w (turtle v h) ≡ map (placed v f) (cells w start)
  cells_from = rw (e, ← (onto_start v f)) (cells_onto v f w start)

  pub final_from : (p : AB) → final w start ≡ turtle p 0 → final w (turtle v h) ≡ turtle (v ⊕ signed f p) h
  final_from p k = rw (e, ← (onto_start v f), final_onto, k) (onto_home v f p)

-- ---- a placed cell
pub placed_placed : (v : AB) (f : Bool) (u : AB) (k : Bool) (c : DrawnCell) → placed v f (placed u k c) ≡ placed (v ⊕ signed f u) (flipped f k) c
unfolding placed
placed_placed v f u k c = simp (flavor_flipped, signed_⊕, ← (signed_flipped f k c.sum), thrice_⊕, thrice_signed, ⊕_assoc)

pub placed_start : (c : DrawnCell) → placed origin false c ≡ c
unfolding placed signed facing
placed_start c = simp (thrice_origin, flavor_zero, ⊕_idl)

pub placed_shift : (v : AB) (f : Bool) (c : DrawnCell) → record { sum = thrice v ⊕ (placed origin f c).sum; flavor = (placed origin f c).flavor } ≡ placed v f c
unfolding placed
placed_shift v f c = simp (thrice_origin, ⊕_idl)
