-- The edges of footprints in order, a clean split, and the search for the first edge that is one.
use mathlib.Core.Path.{◌≡◌, refl, sym, ap, ◌∙◌}
use mathlib.Core.Bool.{Bool, true, false, cond}
use mathlib.Core.List.{List, [], ◌∷◌, ◌++◌, map}
use Rattle.std.proofs.lemmas.Option.{none-some}
use Rattle.std.specs.Prelude.{Option, None, Some}
use Prim.Native.Nat.{ℕ, zero, suc, ◌+◌, ◌-◌, ◌<◌, ◌≤◌}
use native.Mathlib.Nat.{not-suc-le-zero}
use native.Mathlib.Numerals.{add-one}
use native.Mathlib.Omega.{arith}
use native.Mathlib.Decide.{dec_lt}
use Rattle.std.specs.List.{find, range_with_len}
use Rattle.std.specs.Option.{option_map}
use Rattle.std.proofs.lemmas.List.FromFn.{fill_by_all}
use lib.ListN.{length, get_or}
use borrow.Author.Tests.{lt-ltb, le-ltb}
use Rattle.turtle.specs.declared.AB.{AB}
use Rattle.turtle.specs.Plane.{origin}
use Rattle.classifier.specs.declared.Placed.{Placed}
use Rattle.classifier.specs.declared.Separator.{Separator}
use Rattle.classifier.specs.Splits.{Polygon, line_through, edges_from, edges, all_edges, clean, first_clean}
use Rattle.classifier.specs.Shapes.{placed_corners, no_placed, no_separator, polygon_of}
use Rattle.classifier.specs.Inside.Sets.{kept, members_from, edge_at}
use Rattle.classifier.proofs.SetLaws.{next_digit, Passed}

-- ---- an edge by its number
module _ (ps : List AB) (i : ℕ) {p q : AB} {s : Separator} (next : ℕ) (p_is : p ≡ get_or ps i origin) (q_is : q ≡ get_or ps next origin) (e : s ≡ line_through p q) where
  pub edge_next : i + 1 < length ps → next ≡ i + 1 → s ≡ edge_at ps i
  unfolding edge_at
  edge_next h k = e ∙ rw (p_is, q_is, k, lt-ltb (i + 1) (length ps) h) refl

  pub edge_last : length ps ≤ i + 1 → next ≡ 0 → s ≡ edge_at ps i
  unfolding edge_at
  edge_last h k = e ∙ rw (p_is, q_is, k, le-ltb (i + 1) (length ps) h) refl

module _ (home : AB) where
  edges_long : (p : AB) (qs : List AB) → length (edges_from home p qs) ≡ suc (length qs)
  edges_long p [] = refl
  edges_long p (q ∷ qs) = ap suc (edges_long q qs)

  edge_in : (p : AB) (qs : List AB) (i : ℕ) → i < length qs → get_or (edges_from home p qs) i no_separator ≡ line_through (get_or (p ∷ qs) i origin) (get_or (p ∷ qs) (suc i) origin)
  edge_in p [] i h = absurd (not-suc-le-zero h)
  edge_in p (q ∷ qs) zero h = refl
  edge_in p (q ∷ qs) (suc i) h = edge_in q qs i (omega arith)

  edge_end : (p : AB) (qs : List AB) (i : ℕ) → i ≡ length qs → get_or (edges_from home p qs) i no_separator ≡ line_through (get_or (p ∷ qs) i origin) home
  edge_end p [] zero h = refl
  edge_end p [] (suc i) h = let z : ⊥ = omega arith in absurd z
  edge_end p (q ∷ qs) zero h = let z : ⊥ = omega arith in absurd z
  edge_end p (q ∷ qs) (suc i) h = edge_end q qs i (omega arith)

edge_count : (ps : List AB) → length (edges ps) ≡ length ps
edge_count [] = refl
edge_count (p ∷ ps) = edges_long p p ps

edge_at_lem : (ps : List AB) (i : ℕ) → i < length ps → get_or (edges ps) i no_separator ≡ edge_at ps i
unfolding edge_at
edge_at_lem [] i h = absurd (not-suc-le-zero h)
edge_at_lem (p ∷ ps) i h = elim (dec_lt i (length ps)) [ yes k ↦ rw (lt-ltb (i + 1) (length (p ∷ ps)) (omega arith), add-one) (edge_in p p ps i k) | no k ↦ rw (le-ltb (i + 1) (length (p ∷ ps)) (omega arith)) (edge_end p p ps i (omega arith)) ]

-- ---- along the edges of one footprint
edges_are : (ps : List AB) → edges ps ≡ map (edge_at ps) (range_with_len 0 (length ps))
edges_are ps = fill_by_all (edge_at ps) (edges ps) (length ps) no_separator (edge_count ps) (edge_at_lem ps)

-- the first that splits the set cleanly
pub first_is : (gs : List Polygon) (ps : List AB) {n : ℕ} {o : Option Separator} → n ≡ length ps → option_map (λ s. s) o ≡ find (clean gs) (map (edge_at ps) (range_with_len 0 n)) → o ≡ first_clean gs (edges ps)
first_is gs ps {n} {o} n_is e =
    sym (same o) ∙ e ∙ ap (λ (n : ℕ). find (clean gs) (map (edge_at ps) (range_with_len 0 n))) n_is ∙ ap (find (clean gs)) (sym (edges_are ps)) ∙ go (edges ps)
  where
    same : (o : Option Separator) → option_map (λ s. s) o ≡ o
    same None = refl
    same (Some s) = refl

    go : (ss : List Separator) → find (clean gs) ss ≡ first_clean gs ss
    go [] = refl
    go (s ∷ ss) = ap (cond (clean gs s) (Some s)) (go ss)

-- ---- along the footprints of a set
first_none : (gs : List Polygon) (a b : List Separator) → None ≡ first_clean gs a → first_clean gs (a ++ b) ≡ first_clean gs b
first_none gs [] b e = refl
first_none gs (s ∷ a) b e = go (clean gs s) e (first_none gs a b)
  where
    go : (t : Bool) → None ≡ cond t (Some s) (first_clean gs a) → (None ≡ first_clean gs a → first_clean gs (a ++ b) ≡ first_clean gs b) → cond t (Some s) (first_clean gs (a ++ b)) ≡ first_clean gs b
    go true e k = absurd (none-some s e)
    go false e k = k e

first_some : (gs : List Polygon) (a b : List Separator) {s : Separator} → Some s ≡ first_clean gs a → first_clean gs (a ++ b) ≡ Some s
first_some gs [] b {s} e = absurd (none-some s (sym e))
first_some gs (t ∷ a) b {s} e = go (clean gs t) e (first_some gs a b)
  where
    go : (u : Bool) → Some s ≡ cond u (Some t) (first_clean gs a) → (Some s ≡ first_clean gs a → first_clean gs (a ++ b) ≡ Some s) → cond u (Some t) (first_clean gs (a ++ b)) ≡ Some s
    go true e k = sym e
    go false e k = k e

-- all edges of a set's footprints from a digit on
abbrev pub seen : List Polygon → List Polygon → Option Separator
seen all gs = first_clean all (all_edges gs)

module _ (all : List Polygon) (gs : List Placed) (has : List Bool) where
  edges_kept : (b : Bool) (g : Polygon) (rest : List Polygon) → all_edges (kept b g rest) ≡ cond b (edges g.corners) [] ++ all_edges rest
  edges_kept true g rest = refl
  edges_kept false g rest = refl

  module _ {d : ℕ} (p : Passed (seen all) gs has d) (h : d < 4) where
    split : (b : Bool) → get_or has d false ≡ b → first_clean all (all_edges (kept b (polygon_of gs d) (members_from gs has (4 - (d + 1)) (d + 1)))) ≡ seen all (members_from gs has 4 0)
    split b e = rw (sym e) (sym (ap (seen all) (next_digit gs has h)) ∙ p.same)

    pub look_found : {s : Separator} → get_or has d false ≡ true → Some s ≡ first_clean all (edges (placed_corners (get_or gs d no_placed))) → Some s ≡ seen all (members_from gs has 4 0)
    look_found e k = sym (first_some all (edges (placed_corners (get_or gs d no_placed))) (all_edges (members_from gs has (4 - (d + 1)) (d + 1))) k) ∙ split true e

    pub look_next : get_or has d false ≡ true → None ≡ first_clean all (edges (placed_corners (get_or gs d no_placed))) → Passed (seen all) gs has (d + 1)
    look_next e k = record { same = sym (first_none all (edges (placed_corners (get_or gs d no_placed))) (all_edges (members_from gs has (4 - (d + 1)) (d + 1))) k) ∙ split true e; most = omega arith }

    pub look_past : get_or has d false ≡ false → Passed (seen all) gs has (d + 1)
    look_past e = record { same = split false e; most = omega arith }
