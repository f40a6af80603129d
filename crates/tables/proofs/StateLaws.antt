-- A state's splits and its row, in the form of what the code has in hand.
use mathlib.Core.Path.{◌≡◌, refl, sym, ap, ◌∙◌}
use mathlib.Core.Bool.{Bool}
use mathlib.Core.List.{List, [], ◌∷◌, ◌++◌, map}
use Prim.Native.Nat.{ℕ, ◌<◌}
use native.Mathlib.Omega.{arith}
use lib.IntN.{ℤ, pos}
use lib.ListN.{length, get_or, get_or-map, length-map}
use Rattle.std.proofs.lemmas.List.{get_or_default}
use Rattle.turtle.specs.declared.AB.{AB}
use Rattle.turtle.specs.Plane.{origin, facing}
use Rattle.turtle.specs.Walk.{turtle}
use Rattle.classifier.specs.declared.Classifier.{Classifier}
use Rattle.classifier.specs.declared.Corner.{Corner}
use Rattle.classifier.specs.Shapes.{point_of, no_corner, no_separator, classifier_of}
use Rattle.classifier.specs.Splits.{Polygon}
use Rattle.grammar.specs.Texts.{Line, lines_of}
use Rattle.grammar.specs.Curves.{strokes, letter_of}
use Rattle.grammar.proofs.GrammarLaws.{length_cells}
use Rattle.tables.specs.declared.Child.{Child}
use Rattle.tables.specs.declared.Drawn.{Drawn}
use Rattle.tables.specs.declared.Source.{Source}
use Rattle.tables.specs.declared.StateParts.{StateParts}
use Rattle.tables.specs.Children.{no_child, children, leaves, leaf, no_cell}
use Rattle.tables.specs.Classifier.{polygons, classes}
use Rattle.tables.specs.Table.{pair, leaf_of, three, up_to, state_row}
use Rattle.tables.specs.Inside.Frames.{starts}
use Rattle.tables.specs.Inside.Sources.{Ready}
use Rattle.tables.specs.Inside.Leaves.{leaf_in, IsDrawn}
use Rattle.tables.specs.Descent.{Leaf}
use Rattle.tables.specs.Inside.StateNumbers.{state_in, no_leaf, number_of, numbers_of}
use Rattle.tables.specs.Inside.Tokens.{Tokened}
use Rattle.tables.proofs.FrameLaws.{child_below}
use Rattle.tables.proofs.LeafLaws.{four_strokes}

-- ---- whether a token's children split
pub classes_are : (ls : List Line) (m : ℕ) (f : Bool) {gs : List Polygon} → gs ≡ polygons ls m f → {k : Classifier} → k ≡ classifier_of gs → k ≡ classes ls m f
unfolding classes
classes_are ls m f e g = g ∙ ap classifier_of e

pub whole_is : {k c : Classifier} → k ≡ c → k.whole ≡ c.whole
whole_is e = ap (λ k. k.whole) e

-- ---- the 41 numbers, by what they are of
row_of : Bool → List Child → (ℕ → AB) → (ℕ → Leaf) → Classifier → List ℤ
row_of f cs start leaf c =
    up_to (λ d. state_in f (get_or cs d no_child) ∷ []) 4
    ++ (up_to (λ d. pair (start d)) 4
    ++ (up_to (λ d. pair (leaf d).sum) 4
    ++ (up_to (λ d. (leaf d).flavor ∷ []) 4
    ++ (up_to (λ i. three (get_or c.separators i no_separator)) 3
    ++ up_to (λ p. pos (get_or c.choices p 0) ∷ []) 8))))

parts_row : (p : StateParts) → numbers_of p ≡ row_of p.flip p.children (λ d. point_of (get_or p.starts d no_corner)) (λ d. leaf_in (get_or p.leaves d no_leaf)) p.classes
unfolding numbers_of number_of row_of
parts_row p = refl

-- a row looks at four leaves alone
row_by : (f : Bool) (cs : List Child) (start : ℕ → AB) (l m : ℕ → Leaf) (c : Classifier) → ((d : ℕ) → d < 4 → l d ≡ m d) → row_of f cs start l c ≡ row_of f cs start m c
unfolding row_of
row_by f cs start l m c e = rw (e 0 (omega arith), e 1 (omega arith), e 2 (omega arith), e 3 (omega arith)) refl

module _ {text : List ℕ} {s : Source} (ready : Ready text s) {m : ℕ} (below : m < s.count) {cs : List Child} (are : cs ≡ children (lines_of text) m) (f : Bool) where
  abbrev ls : List Line
  ls = lines_of text

  state_row_lem : state_row ls m f ≡ row_of f (children ls m) (λ d. get_or (starts ls m f) d (point_of no_corner)) (λ d. leaf_of (leaf ls m f d)) (classes ls m f)
  unfolding state_row row_of starts
  state_row_lem = refl

  start_at : (at : List Corner) → map point_of at ≡ starts ls m f → (d : ℕ) → point_of (get_or at d no_corner) ≡ get_or (starts ls m f) d (point_of no_corner)
  start_at at e d = sym (get_or-map point_of at d no_corner) ∙ ap (λ l. get_or l d (point_of no_corner)) e

  module _ {d : Drawn} (drawn : IsDrawn (strokes ls 1 (letter_of ls m)) (turtle origin (facing f)) d) where
    leaves_four : length (leaves ls m f) ≡ 4
    unfolding leaves
    leaves_four = length_cells (strokes ls 1 (letter_of ls m)) (turtle origin (facing f)) ∙ four_strokes ready m below

    leaf_at : (i : ℕ) → i < 4 → leaf_in (get_or d.leaves i no_leaf) ≡ leaf_of (leaf ls m f i)
    unfolding leaves
    leaf_at i h =
        sym (get_or-map leaf_in d.leaves i no_leaf) ∙ ap (λ l. get_or l i (leaf_in no_leaf)) drawn.leaves
        ∙ get_or_default (map leaf_of (leaves ls m f)) i (leaf_in no_leaf) (leaf_of no_cell) (rw length-map (omega (arith, leaves_four))) ∙ get_or-map leaf_of (leaves ls m f) i no_cell

    pub parts_are : {k : Classifier} → k ≡ classes ls m f → (at : List Corner) → map point_of at ≡ starts ls m f
        → (t : Tokened cs) → numbers_of (record { children = cs; flip = f; starts = at; leaves = d.leaves; classes = k; tokened = t }) ≡ state_row ls m f
    parts_are e at starts_are t =
        parts_row _ ∙ row_by _ _ _ _ _ _ leaf_at ∙ (λ i. row_of f (are i) (λ d. start_at at starts_are d i) (λ d. leaf_of (leaf ls m f d)) (e i)) ∙ sym state_row_lem

  pub parts_tokened : Tokened cs
  parts_tokened = record { below = λ d h. omega (arith, child_below (record { ready = ready; below = below; are = are }) d h, s.few) }

pub ruleset stated = (classes_are, whole_is, parts_are, parts_tokened)
