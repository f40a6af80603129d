-- The tree of splits: what it is of a set by what its search found, both sides of a clean line are smaller sets, and a tree of at most four children has at most three lines.
use Rattle.std.proofs.lemmas.Option.{none-some, same_Some}
use Rattle.std.specs.Prelude.{Option, None, Some}
use mathlib.Core.Path.{◌≡◌, refl, sym, ap, subst, ◌∙◌}
use mathlib.Core.Bool.{Bool, true, false, not, ◌&&◌, cond}
use mathlib.Core.List.{List, [], ◌∷◌, ◌++◌}
use Prim.Native.Nat.{ℕ, zero, suc, ◌+◌, ◌<◌, ◌≤◌}
use native.Mathlib.Nat.{not-suc-le-zero}
use native.Mathlib.Omega.{arith}
use lib.Dec.{T, ltb}
use lib.ListN.{length, length-append}
use Rattle.whole.proofs.Bools.{both_left, both_right}
use Rattle.classifier.specs.declared.Separator.{Separator}
use Rattle.classifier.specs.Splits.{Polygon, Tree, only, split, stuck, over, all_edges, polygons_on, all_under, is_empty, clean, first_clean, split_by, tree_by, tree_of, separator_index, with_separator, collected}
use Rattle.classifier.specs.Inside.Sets.{first_digit}

-- ---- both sides of a clean line
side_sum : (s : Separator) (gs : List Polygon) → length (polygons_on true s gs) + length (polygons_on false s gs) ≡ length gs
unfolding polygons_on
side_sum s [] = omega arith
side_sum s (g ∷ gs) = go (over s g.corners) (side_sum s gs)
  where
    go : (b : Bool) → length (polygons_on true s gs) + length (polygons_on false s gs) ≡ length gs
        → length (cond b (g ∷ polygons_on true s gs) (polygons_on true s gs)) + length (cond b (polygons_on false s gs) (g ∷ polygons_on false s gs)) ≡ suc (length gs)
    go true h = omega arith
    go false h = omega arith

clean_of : (gs : List Polygon) (ss : List Separator) {s : Separator} → Some s ≡ first_clean gs ss → T (clean gs s)
clean_of gs [] {s} e = absurd (none-some s (sym e))
clean_of gs (t ∷ ss) {s} e = go (clean gs t) refl e (clean_of gs ss)
  where
    go : (b : Bool) → clean gs t ≡ b → Some s ≡ cond b (Some t) (first_clean gs ss) → (Some s ≡ first_clean gs ss → T (clean gs s)) → T (clean gs s)
    go true c e k = subst (λ u. T (clean gs u)) (sym (same_Some s t e)) (subst T (sym c) tt)
    go false c e k = k e

some_left : (gs : List Polygon) → T (not (is_empty gs)) → 0 < length gs
some_left [] t = absurd t
some_left (g ∷ gs) t = omega arith

pub record Sides (gs a b : List Polygon) : Type 0 where
  pub first : 0 < length a
  pub second : 0 < length b
  pub sum : length a + length b ≡ length gs

pub sides : {gs : List Polygon} (ss : List Separator) {s : Separator} → Some s ≡ first_clean gs ss → Sides gs (polygons_on true s gs) (polygons_on false s gs)
sides {gs} ss {s} e =
    let t = clean_of gs ss e in
    let u = both_left (all_under s (polygons_on false s gs) && not (is_empty (polygons_on true s gs))) (not (is_empty (polygons_on false s gs))) t in
    record {
      first = some_left (polygons_on true s gs) (both_right (all_under s (polygons_on false s gs)) (not (is_empty (polygons_on true s gs))) u);
      second = some_left (polygons_on false s gs) (both_right (all_under s (polygons_on false s gs) && not (is_empty (polygons_on true s gs))) (not (is_empty (polygons_on false s gs))) t);
      sum = side_sum s gs;
    }

-- ---- the tree of a set
module _ (again : List Polygon → Tree) where
  grown_none : (gs : List Polygon) → length gs ≡ 0 → tree_by again gs ≡ stuck
  grown_none [] h = refl
  grown_none (g ∷ gs) h = let z : ⊥ = omega arith in absurd z

  grown_only : (gs : List Polygon) → length gs ≡ 1 → tree_by again gs ≡ only (first_digit gs)
  grown_only [] h = let z : ⊥ = omega arith in absurd z
  grown_only (g ∷ []) h = refl
  grown_only (g ∷ (h ∷ gs)) k = let z : ⊥ = omega arith in absurd z

  grown_split : (gs : List Polygon) → 2 ≤ length gs → tree_by again gs ≡ split_by again gs (first_clean gs (all_edges gs))
  grown_split [] h = let z : ⊥ = omega arith in absurd z
  grown_split (g ∷ []) h = let z : ⊥ = omega arith in absurd z
  grown_split (g ∷ (h ∷ gs)) k = refl

module _ (n : ℕ) (gs : List Polygon) where
  pub tree_none : length gs ≡ 0 → tree_of n gs ≡ stuck
  unfolding tree_of
  tree_none h = go n
    where
      go : (n : ℕ) → tree_of n gs ≡ stuck
      go zero = grown_none (λ _. stuck) gs h
      go (suc n) = grown_none (tree_of n) gs h

  pub tree_only : length gs ≡ 1 → tree_of n gs ≡ only (first_digit gs)
  unfolding tree_of
  tree_only h = go n
    where
      go : (n : ℕ) → tree_of n gs ≡ only (first_digit gs)
      go zero = grown_only (λ _. stuck) gs h
      go (suc n) = grown_only (tree_of n) gs h

  pub tree_stuck : 2 ≤ length gs → None ≡ first_clean gs (all_edges gs) → tree_of n gs ≡ stuck
  unfolding tree_of
  tree_stuck h e = go n
    where
      go : (n : ℕ) → tree_of n gs ≡ stuck
      go zero = grown_split (λ _. stuck) gs h ∙ ap (split_by (λ _. stuck) gs) (sym e)
      go (suc n) = grown_split (tree_of n) gs h ∙ ap (split_by (tree_of n) gs) (sym e)

  pub tree_split : {s : Separator} → 2 ≤ length gs → Some s ≡ first_clean gs (all_edges gs) → tree_of (suc n) gs ≡ split s (tree_of n (polygons_on true s gs)) (tree_of n (polygons_on false s gs))
  unfolding tree_of
  tree_split h e = grown_split (tree_of n) gs h ∙ ap (split_by (tree_of n) gs) (sym e)

-- ---- how many lines it has
pub added_long : (ss : List Separator) (s : Separator) → length (with_separator ss s) ≤ suc (length ss)
added_long ss s = go (ltb (separator_index ss s) (length ss))
  where
    go : (b : Bool) → length (cond b ss (ss ++ (s ∷ []))) ≤ suc (length ss)
    go true = omega arith
    go false = omega (arith, length-append ss (s ∷ []))

abbrev Few : (List Polygon → Tree) → Type 0
Few again = (gs : List Polygon) (ss : List Separator) → 0 < length gs → suc (length (collected ss (again gs))) ≤ length ss + length gs

few_split : (again : List Polygon → Tree) → Few again → (gs : List Polygon) (ss : List Separator) (o : Option Separator) → o ≡ first_clean gs (all_edges gs) → 0 < length gs
    → suc (length (collected ss (split_by again gs o))) ≤ length ss + length gs
unfolding collected
few_split again k gs ss None e h = omega arith
few_split again k gs ss (Some s) e h =
    let d = sides (all_edges gs) e in
    omega (arith, d.sum, added_long ss s, k (polygons_on true s gs) (with_separator ss s) d.first, k (polygons_on false s gs) (collected (with_separator ss s) (again (polygons_on true s gs))) d.second)

few_grown : (again : List Polygon → Tree) → Few again → Few (tree_by again)
unfolding collected
few_grown again k [] ss h = absurd (not-suc-le-zero h)
few_grown again k (g ∷ []) ss h = omega arith
few_grown again k (g ∷ (i ∷ gs)) ss h = few_split again k (g ∷ i ∷ gs) ss _ refl h

pub lines_few : (n : ℕ) → Few (tree_of n)
unfolding tree_of collected
lines_few zero = few_grown (λ _. stuck) (λ gs ss h. omega arith)
lines_few (suc n) = few_grown (tree_of n) (lines_few n)
