-- How large the numbers of an accepted grammar are: a token's rule has four children, each drawn by one stroke, and no step or corner of a
-- stroke is above 8. So nets after one pass are within 32, offsets and leaves' corner sums within 96; and leaves have flavors.
use mathlib.Core.Path.{◌≡◌, refl, sym, ◌∙◌, subst}
use mathlib.Core.Bool.{Bool, true, false}
use mathlib.Core.List.{List, [], ◌∷◌}
use Prim.Native.Nat.{ℕ, zero, suc, ◌+◌, ◌*◌, ◌/◌, ◌%◌, ◌^◌, ◌<◌, ◌≤◌}
use native.Mathlib.Omega.{arith}
use lib.Dec.{T, eqb, ltb→lt, lt→ltb}
use lib.ListN.{length, get_or}
use lib.IntN.{ℤ, pos, nat_abs}
use Rattle.std.specs.Prelude.{Option, Some, None}
use Rattle.whole.proofs.Parts.{abs_parts, up_dn}
use Rattle.turtle.specs.declared.AB.{AB}
use Rattle.turtle.specs.declared.letter.Stroke.{Stroke}
use Rattle.turtle.specs.declared.walk.Turtle.{Turtle}
use Rattle.turtle.specs.Plane.{origin, rots, signed, facing}
use Rattle.turtle.specs.Letters.{toggled}
use Rattle.turtle.specs.Walk.{Sym, left, right, letter, turtle, start, move, corner, turned_flavor, cell, cells, final}
use Rattle.turtle.specs.Inside.Sizes.{Within, Small, SmallStroke}
use Rattle.turtle.proofs.PlaneLaws.{rots_flip}
use Rattle.turtle.proofs.WalkLaws.{v_small, small_more, rots_small, add_small}
use Rattle.grammar.specs.Texts.{Line, lines_of}
use Rattle.grammar.specs.Curves.{strokes, drawing, net, token_bytes, letter_of, letter_count}
use Rattle.grammar.specs.Tests.{fine}
use Rattle.grammar.proofs.Grammars.{grammar_of, Upright, Accepted}
use Rattle.grammar.proofs.GrammarLaws.{length_cells}
use Rattle.grammar.proofs.StrokeLaws.{Every, every_stroke, strokes_small, is_flavor, Flavored, flavored}
use Rattle.grammar.proofs.Meaning.{accepted, linked}
use Rattle.tables.specs.Children.{children_along, children, offset_after, offset, leaves, leaf, no_cell}
use Rattle.tables.specs.Verdicts.{split_tests, verdict}
use Rattle.tables.proofs.Drawing.{drawing_length}

-- ---- pairs
pub origin_small : {n : ℕ} → Small n origin
unfolding origin
origin_small = small_more (omega arith) none
  where
    nothing : Within 0 (pos 0)
    nothing = record { low = record { le = tt }; high = record { le = tt } }

    none : Small 0 origin
    none = record { a = nothing; b = nothing; sum = nothing }

pub signed_small : (f : Bool) {n : ℕ} {p : AB} → Small n p → Small n (signed f p)
unfolding signed
signed_small false s = s
signed_small true {n} {p} s = subst (Small n) (rots_flip 0 p ∙ (unfold rots in refl)) (rots_small 3 s)

-- each coordinate, by its size
abs_within : {n : ℕ} {z : ℤ} → Within n z → nat_abs z ≤ n
abs_within {n} {z} w = omega (arith, abs_parts z, (v_small w).is tt, up_dn z)

pub small_abs : {n : ℕ} {p : AB} → Small n p → (nat_abs p.a ≤ n) × (nat_abs p.b ≤ n)
small_abs s = (abs_within s.a, abs_within s.b)

-- ---- a walk of short strokes, from a place that is at most k in size: 8 more for each stroke
pub final_small : (w : List (Sym Stroke)) (t : Turtle) {k : ℕ} → Every SmallStroke w → Small k t.at → Small (k + 8 * letter_count w) (final w t).at
unfolding final move letter_count
final_small [] t e s = small_more (omega arith) s
final_small (left ∷ w) t e s = final_small w (move left t) e s
final_small (right ∷ w) t e s = final_small w (move right t) e s
final_small (letter a ∷ w) t e s = small_more (omega arith) (final_small w (move (letter a) t) e.1 (add_small s (rots_small t.heading e.0.step)))

corner_small : (t : Turtle) {k : ℕ} {c : AB} → Small k t.at → Small 8 c → Small (k + 8) (corner t c)
unfolding corner
corner_small t s h = add_small s (rots_small t.heading h)

-- where a word goes on, there is room for what stands before
more : (k n : ℕ) {p : AB} → Small (k + 8) p → Small (k + 8 * suc n) p
more k n s = small_more (omega arith) s

pub cell_small : (w : List (Sym Stroke)) (t : Turtle) {k : ℕ} → Every SmallStroke w → Small k t.at → (d : ℕ) → Small (3 * (k + 8 * letter_count w)) (get_or (cells w t) d no_cell).sum
unfolding cells cell move letter_count
cell_small [] t e s d = origin_small
cell_small (left ∷ w) t e s d = cell_small w (move left t) e s d
cell_small (right ∷ w) t e s d = cell_small w (move right t) e s d
cell_small (letter a ∷ w) t e s zero =
    small_more (omega arith) (add_small (add_small (corner_small t s e.0.p) (corner_small t s e.0.q)) (corner_small t s e.0.r))
cell_small (letter a ∷ w) t e s (suc d) =
    small_more (omega arith) (cell_small w (move (letter a) t) e.1 (add_small s (rots_small t.heading e.0.step)) d)

-- ---- flavors along a walk
turned_flavor_lem : (h : ℕ) (f : Option ℕ) → T (is_flavor f) → T (is_flavor (turned_flavor h f))
unfolding turned_flavor toggled
turned_flavor_lem h (Some f) t = let b = ltb→lt f 4 t in lt→ltb (f / 2 * 2 + (f + h) % 2) 4 (omega arith)
turned_flavor_lem h None t = t

pub cell_flavored : (w : List (Sym Stroke)) (t : Turtle) → Every Flavored w → (d : ℕ) → d < letter_count w → T (is_flavor (get_or (cells w t) d no_cell).flavor)
unfolding cells cell letter_count
cell_flavored [] t e d b = let none : ⊥ = omega arith in absurd none
cell_flavored (left ∷ w) t e d b = cell_flavored w (move left t) e d b
cell_flavored (right ∷ w) t e d b = cell_flavored w (move right t) e d b
cell_flavored (letter a ∷ w) t e zero b = turned_flavor_lem t.heading a.flavor e.0
cell_flavored (letter a ∷ w) t e (suc d) b = cell_flavored w (move (letter a) t) e.1 d (omega arith)

-- ---- THE SIZES, of every token m of a text that is accepted
module _ (text : List ℕ) (p : verdict text ≡ fine) where
  abbrev ls : List Line
  ls = lines_of text

  short : (r b : ℕ) → Every SmallStroke (strokes ls r b)
  unfolding strokes
  short r b = strokes_small _

  -- r passes draw 4 ^ r strokes
  pub strokes_many : (r m : ℕ) → m < length (token_bytes ls) → letter_count (strokes ls r (letter_of ls m)) ≡ 4 ^ r
  unfolding drawing
  strokes_many r m b = sym (length_cells (strokes ls r (letter_of ls m)) start) ∙ drawing_length text p r m b

  pub net_small : (r m : ℕ) → m < length (token_bytes ls) → Small (8 * 4 ^ r) (net ls r (letter_of ls m))
  unfolding net
  net_small r m b = small_more (omega (arith, strokes_many r m b)) (final_small (strokes ls r (letter_of ls m)) start {k = 0} (short r (letter_of ls m)) origin_small)

  -- after one pass
  pub once_small : (m : ℕ) → m < length (token_bytes ls) → Small 32 (net ls 1 (letter_of ls m))
  once_small m b = net_small 1 m b

  after_small : (h : ℕ) (w : List (Sym ℕ)) (d : ℕ) → Upright (grammar_of ls) h w → Small (32 * d) (offset_after ls 1 (children_along h w) d)
  unfolding grammar_of Upright children_along offset_after
  after_small h [] zero u = origin_small
  after_small h [] (suc d) u = origin_small
  after_small h (left ∷ w) d u = after_small ((h + 1) % 6) w d u
  after_small h (right ∷ w) d u = after_small ((h + 5) % 6) w d u
  after_small h (letter m ∷ w) zero u = origin_small
  after_small h (letter m ∷ w) (suc d) u = small_more (omega arith) (add_small (signed_small (eqb h 3) (once_small m u.1)) (after_small h w d u.2))

  grammar_accepted : Accepted (grammar_of ls)
  unfolding verdict
  grammar_accepted = accepted text (split_tests ls) p

  -- where child d starts
  pub offset_small : (m d : ℕ) → m < length (token_bytes ls) → d < 4 → Small 96 (offset ls m d)
  unfolding offset children grammar_of
  offset_small m d b h = small_more (omega arith) (after_small 0 ((grammar_of ls).rule m) d (grammar_accepted.faced m b))

  -- the leaves' corner sums, in either frame
  pub leaf_small : (m : ℕ) (f : Bool) (d : ℕ) → m < length (token_bytes ls) → Small 96 (leaf ls m f d).sum
  unfolding leaves
  leaf_small m f d b =
      small_more (omega (arith, strokes_many 1 m b)) (cell_small (strokes ls 1 (letter_of ls m)) (turtle origin (facing f)) {k = 0} (short 1 (letter_of ls m)) origin_small d)

  -- their flavors, 0 to 3
  pub leaf_flavored : (m : ℕ) (f : Bool) (d : ℕ) → m < length (token_bytes ls) → d < 4 → T (is_flavor (leaf ls m f d).flavor)
  unfolding leaves verdict grammar_of
  leaf_flavored m f d b h =
      let e = flavored text (split_tests ls) p in
      let w : Every Flavored (strokes ls 1 (letter_of ls m)) = rw (linked text (split_tests ls) p 1 m b) (every_stroke (grammar_of ls) Flavored grammar_accepted.faced e 1 m b) in
      cell_flavored (strokes ls 1 (letter_of ls m)) (turtle origin (facing f)) w d (omega (arith, strokes_many 1 m b))
