-- The pen and the buffer after two words, one after the other, and the room that each asks.
use mathlib.Core.Path.{◌≡◌, refl, ◌∙◌, subst}
use mathlib.Core.List.{List, [], ◌∷◌, ◌++◌}
use Prim.Native.Nat.{◌+◌, ◌*◌}
use native.Mathlib.Omega.{arith}
use lib.IntN.{ℤ}
use lib.ListN.{length}
use lib.Seq.{length-sets}
use Rattle.turtle.specs.declared.letter.Stroke.{Stroke}
use Rattle.turtle.specs.Plane.{◌⊕◌, rots}
use Rattle.turtle.specs.Inside.Sizes.{Small, SmallStroke}
use Rattle.turtle.specs.Walk.{Sym, left, right, letter, move, cell}
use Rattle.turtle.proofs.WalkLaws.{rots_small, add_small}
use Rattle.grammar.specs.Curves.{letter_count}
use Rattle.grammar.proofs.GrammarLaws.{letters_append}
use Rattle.grammar.proofs.StrokeLaws.{Every}
use Rattle.sketch.specs.declared.pen.Pen.{Pen}
use Rattle.sketch.specs.Inside.Pens.{place_of, entries_of, pen_on, ink, pen_after, inked, Room}

pub pen_append : (v w : List (Sym Stroke)) (p : Pen) → pen_after (v ++ w) p ≡ pen_after w (pen_after v p)
unfolding pen_after
pen_append [] w p = refl
pen_append (a ∷ v) w p = pen_append v w (pen_on a p)

pub ink_append : (v w : List (Sym Stroke)) (p : Pen) (out : List ℤ) → inked (v ++ w) p out ≡ inked w (pen_after v p) (inked v p out)
unfolding pen_after inked
ink_append [] w p out = refl
ink_append (a ∷ v) w p out = ink_append v w (pen_on a p) (ink a p out)

length_ink : (a : Sym Stroke) (p : Pen) (out : List ℤ) → length (ink a p out) ≡ length out
unfolding ink
length_ink left p out = refl
length_ink right p out = refl
length_ink (letter s) p out = length-sets out (4 * place_of p) (entries_of (cell s p.turtle))

pub length_inked : (w : List (Sym Stroke)) (p : Pen) (out : List ℤ) → length (inked w p out) ≡ length out
unfolding inked
length_inked [] p out = refl
length_inked (a ∷ w) p out = length_inked w (pen_on a p) (ink a p out) ∙ length_ink a p out

pub room_front : (v w : List (Sym Stroke)) {p : Pen} {out : List ℤ} → Room (v ++ w) p out → Room v p out
room_front v w r =
    record { fits = omega (arith, r.fits, letters_append v w); few = r.few; room = r.room; small = r.small; faces = r.faces }

room_step : (a : Sym Stroke) (w : List (Sym Stroke)) {p : Pen} {out : List ℤ} → Every SmallStroke (a ∷ []) → Room (a ∷ w) p out → Room w (pen_on a p) (ink a p out)
unfolding pen_on ink move letter_count
room_step left w e r = record { fits = r.fits; few = r.few; room = r.room; small = r.small; faces = omega arith }
room_step right w e r = record { fits = r.fits; few = r.few; room = r.room; small = r.small; faces = omega arith }
room_step (letter s) w {p} {out} e r =
    let more : 256 + 8 * p.drawn + 8 ≡ 256 + 8 * (p.drawn + 1) = omega arith in
    record {
      fits = omega (arith, r.fits);
      few = r.few;
      room = omega (arith, r.room, length-sets out (4 * place_of p) (entries_of (cell s p.turtle)));
      small = subst (λ n. Small n (p.turtle.at ⊕ rots p.turtle.heading s.step)) more (add_small r.small (rots_small p.turtle.heading e.0.step));
      faces = r.faces;
    }

pub room_rest : (v w : List (Sym Stroke)) {p : Pen} {out : List ℤ} → Every SmallStroke v → Room (v ++ w) p out → Room w (pen_after v p) (inked v p out)
unfolding pen_after inked
room_rest [] w e r = r
room_rest (left ∷ v) w e r = room_rest v w e (room_step left (v ++ w) tt r)
room_rest (right ∷ v) w e r = room_rest v w e (room_step right (v ++ w) tt r)
room_rest (letter s ∷ v) w e r = room_rest v w e.1 (room_step (letter s) (v ++ w) (e.0, tt) r)
