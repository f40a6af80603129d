-- A step that the pen draws: what the turtle's step tells, and the four entries of its cell.
use mathlib.Core.Path.{◌≡◌, refl, sym, ap, ◌∙◌, subst}
use mathlib.Core.List.{List, [], ◌∷◌, ◌++◌, append_assoc}
use Prim.Native.Nat.{ℕ, ◌+◌, ◌*◌, ◌≤◌, ◌<◌, ◌-◌}
use native.Mathlib.Omega.{arith}
use lib.IntN.{ℤ, pos}
use Rattle.std.proofs.lemmas.List.Edits.{sets-eq}
use lib.ListN.{length, take, drop}
use lib.Seq.{sets, drop-drop}
use mir.Syntax.{w32, w64}
use mir.Val.{Fits, SFits, to_z, of_z}
use mir.ValLaws.{to_z-of_z, to_z_pos}
use Rattle.std.specs.Prelude.{Ok, Err, Result}
use Rattle.triple.specs.declared.Triple.{Triple}
use Rattle.triple.specs.declared.refusal.Refusal.{Refusal}
use Rattle.triple.proofs.OrientationLaws.{place_below}
use Rattle.turtle.specs.declared.AB.{AB}
use Rattle.turtle.specs.declared.letter.Stroke.{Stroke}
use Rattle.turtle.specs.declared.walk.DrawnCell.{DrawnCell}
use Rattle.turtle.specs.declared.walk.Stepped.{Stepped}
use Rattle.turtle.specs.declared.walk.Turtle.{Turtle}
use Rattle.turtle.specs.Corners.{triple_of}
use Rattle.turtle.specs.Walk.{Sym, left, right, letter, symbol_of, step_by, step_of}
use Rattle.turtle.proofs.WalkLaws.{small_more}
use Rattle.grammar.specs.Curves.{letter_count}
use Rattle.grammar.proofs.NetLaws.{one_symbol, step_near}
use Rattle.lsystem.specs.Cells.{flavor_in}
use Rattle.sketch.specs.declared.pen.Pen.{Pen}
use Rattle.sketch.specs.Inside.Pens.{triple_in, entries_of, place_of, pen_at, pen_on, ink, pen_after, inked, Room}
use Rattle.triple.specs.Refusals.{said}

-- ---- the triple of a corner sum
module _ (p : AB) {a : Result Triple Refusal} (says : said a ≡ triple_of p) where
  pub triple_at : {t : Triple} → a ≡ Ok t → t ≡ triple_in (triple_of p)
  triple_at e = ap triple_in (sym (ap said e) ∙ says)

  pub triple_none : {r : Refusal} → a ≡ Err r → {t : Triple} → t ≡ record { x = pos 0; y = pos 0; z = pos 0 } → t ≡ triple_in (triple_of p)
  triple_none e f = f ∙ ap triple_in (sym (ap said e) ∙ says)

-- ---- the four entries
pub record Narrow (t : Triple) : Type 0 where
  pub x : SFits w32 t.x
  pub y : SFits w32 t.y
  pub z : SFits w32 t.z

pub put_four : (c : DrawnCell) (at : ℕ) (out : List ℤ) {t : Triple} {f : ℕ} → t ≡ triple_in (triple_of c.sum) → f ≡ flavor_in c.flavor → Narrow t → f < 256 → at + 4 ≤ length out
    → {part : List ℤ} → part ≡ to_z w32 (of_z w32 t.x) ∷ to_z w32 (of_z w32 t.y) ∷ to_z w32 (of_z w32 t.z) ∷ to_z w32 f ∷ [] → take at out ++ (part ++ drop (at + 4 - at) (drop at out)) ≡ sets out at (entries_of c)
unfolding entries_of
put_four c at out {t} {f} et ef n h room {part} e =
    let entries : part ≡ entries_of c = e ∙ rw (to_z-of_z w32 t.x n.x, to_z-of_z w32 t.y n.y, to_z-of_z w32 t.z n.z, to_z_pos w32 f (omega arith), et, ef) in
    let four : at + 4 - at ≡ 4 = omega arith in
    rw (entries, four, drop-drop) (sym (sets-eq (entries_of c) out at room ∙ append_assoc (take at out) (entries_of c) _))

-- ---- a step
-- the pen and the buffer by what the turtle's step tells
pen_by : Stepped → Pen → Pen
pen_by (Stepped.Drew c n) p = pen_at n (p.drawn + 1) p
pen_by (Stepped.Turned n) p = pen_at n p.drawn p
pen_by Stepped.NoDraw p = p
pen_by Stepped.Lost p = p

ink_by : Stepped → Pen → List ℤ → List ℤ
ink_by (Stepped.Drew c n) p out = sets out (4 * place_of p) (entries_of c)
ink_by (Stepped.Turned n) p out = out
ink_by Stepped.NoDraw p out = out
ink_by Stepped.Lost p out = out

drew_by : Stepped → ℕ
drew_by (Stepped.Drew c n) = 1
drew_by (Stepped.Turned n) = 0
drew_by Stepped.NoDraw = 0
drew_by Stepped.Lost = 0

record Steps (w : List (Sym Stroke)) (s : Stepped) (p : Pen) (out : List ℤ) : Type 0 where
  pen : pen_by s p ≡ pen_after w p
  ink : ink_by s p out ≡ inked w p out
  drew : drew_by s ≡ letter_count w

one_step : (w : List (Sym Stroke)) → length w ≤ 1 → (p : Pen) (out : List ℤ) → Steps w (step_by w p.turtle) p out
unfolding pen_by ink_by drew_by pen_after inked pen_on ink letter_count
one_step [] h p out = record { pen = refl; ink = refl; drew = refl }
one_step (left ∷ []) h p out = record { pen = refl; ink = refl; drew = refl }
one_step (right ∷ []) h p out = record { pen = refl; ink = refl; drew = refl }
one_step (letter s ∷ []) h p out = record { pen = refl; ink = refl; drew = refl }
one_step (left ∷ a ∷ w) h p out = absurd (omega arith)
one_step (right ∷ a ∷ w) h p out = absurd (omega arith)
one_step (letter s ∷ a ∷ w) h p out = absurd (omega arith)

module _ (b : ℕ) (p : Pen) (out : List ℤ) (r : Room (symbol_of b) p out) {s : Stepped} (stepped : s ≡ step_of b p.turtle) where
  step_is : step_by (symbol_of b) p.turtle ≡ s
  step_is = sym (stepped ∙ step_near b p.turtle (small_more (omega (arith, r.fits, r.few)) r.small, r.faces))

  steps : Steps (symbol_of b) s p out
  steps = subst (λ s. Steps (symbol_of b) s p out) step_is (one_step (symbol_of b) (one_symbol b) p out)

  -- a byte that draws nothing leaves the pen and the buffer
  pub nothing_pen : s ≡ Stepped.NoDraw → p ≡ pen_after (symbol_of b) p
  unfolding pen_by
  nothing_pen e = sym (ap (λ s. pen_by s p) e) ∙ steps.pen

  pub nothing_ink : s ≡ Stepped.NoDraw → out ≡ inked (symbol_of b) p out
  unfolding ink_by
  nothing_ink e = sym (ap (λ s. ink_by s p out) e) ∙ steps.ink

  pub lost_pen : s ≡ Stepped.Lost → p ≡ pen_after (symbol_of b) p
  unfolding pen_by
  lost_pen e = sym (ap (λ s. pen_by s p) e) ∙ steps.pen

  pub lost_ink : s ≡ Stepped.Lost → out ≡ inked (symbol_of b) p out
  unfolding ink_by
  lost_ink e = sym (ap (λ s. ink_by s p out) e) ∙ steps.ink

  -- a turn turns the turtle
  module _ {n : Turtle} (turned : s ≡ Stepped.Turned n) where
    pub turned_pen : pen_at n p.drawn p ≡ pen_after (symbol_of b) p
    unfolding pen_by
    turned_pen = sym (ap (λ s. pen_by s p) turned) ∙ steps.pen

    pub turned_ink : out ≡ inked (symbol_of b) p out
    unfolding ink_by
    turned_ink = sym (ap (λ s. ink_by s p out) turned) ∙ steps.ink

  -- a letter draws a cell
  module _ {c : DrawnCell} {n : Turtle} (drawn : s ≡ Stepped.Drew c n) where
    one_more : p.drawn < p.cells
    unfolding drew_by
    one_more = let one : 1 ≡ letter_count (symbol_of b) = sym (ap drew_by drawn) ∙ steps.drew in omega (arith, r.fits)

    pub drew_pen : pen_at n (p.drawn + 1) p ≡ pen_after (symbol_of b) p
    unfolding pen_by
    drew_pen = sym (ap (λ s. pen_by s p) drawn) ∙ steps.pen

    module _ {k : ℕ} (place : k ≡ place_of p) where
      pub drew_place : Fits w64 (4 * k)
      drew_place = record { fits = omega (arith, place_below p.backward p.cells p.drawn one_more, r.few) }

      pub drew_fits : 4 * k + 4 ≤ length out
      drew_fits = omega (arith, place_below p.backward p.cells p.drawn one_more, r.room)

      pub drew_ink : {last : List ℤ} → last ≡ sets out (4 * k) (entries_of c) → last ≡ inked (symbol_of b) p out
      unfolding ink_by
      drew_ink f = f ∙ ap (λ k. sets out (4 * k) (entries_of c)) place ∙ sym (ap (λ s. ink_by s p out) drawn) ∙ steps.ink

pub ruleset stepping = (nothing_pen, nothing_ink, lost_pen, lost_ink, turned_pen, turned_ink, drew_pen, drew_place, drew_fits, drew_ink)
