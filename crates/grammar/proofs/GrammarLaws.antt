-- What a word draws after some passes: its parts' strokes one after the other. A token's walk from any place is its walk from the origin, placed there.
use mathlib.Core.Path.{◌≡◌, refl, sym, ◌∙◌, ap}
use mathlib.Core.Bool.{Bool}
use mathlib.Core.List.{List, [], ◌∷◌, ◌++◌, append_assoc, append-nil}
use Prim.Native.Nat.{ℕ, zero, suc, ◌+◌, ◌^◌, ◌<◌}
use native.Mathlib.Omega.{arith}
use lib.ListN.{length}
use Rattle.turtle.specs.declared.AB.{AB}
use Rattle.turtle.specs.declared.letter.Stroke.{Stroke}
use Rattle.turtle.specs.declared.walk.Turtle.{Turtle}
use Rattle.turtle.specs.Plane.{◌⊕◌, signed, facing}
use Rattle.turtle.specs.Walk.{Sym, left, right, letter, turtle, start, move, cells, final}
use Rattle.turtle.proofs.WordLaws.{final_from}
use Rattle.grammar.specs.Curves.{turned, letter_count}
use Rattle.grammar.proofs.Grammars.{Grammar, graft, expand, drawn, net_of}

-- ---- letters and turns of a word
pub letters_append : {A : Type 0} (w u : List (Sym A)) → letter_count (w ++ u) ≡ letter_count w + letter_count u
unfolding letter_count
letters_append [] u = omega arith
letters_append (left ∷ w) u = letters_append w u
letters_append (right ∷ w) u = letters_append w u
letters_append (letter a ∷ w) u = omega (arith, letters_append w u)

pub length_cells : (w : List (Sym Stroke)) (t : Turtle) → length (cells w t) ≡ letter_count w
unfolding cells letter_count
length_cells [] t = refl
length_cells (left ∷ w) t = length_cells w (move left t)
length_cells (right ∷ w) t = length_cells w (move right t)
length_cells (letter s ∷ w) t = ap suc (length_cells w (move (letter s) t))

pub final_heading : (w : List (Sym Stroke)) (t : Turtle) → (final w t).heading ≡ turned t.heading w
unfolding final move turned
final_heading [] t = refl
final_heading (left ∷ w) t = final_heading w _
final_heading (right ∷ w) t = final_heading w _
final_heading (letter s ∷ w) t = final_heading w _

-- ---- strokes
graft_append : {A B : Type 0} (f : A → List (Sym B)) (w u : List (Sym A)) → graft f (w ++ u) ≡ graft f w ++ graft f u
unfolding graft
graft_append f [] u = refl
graft_append f (left ∷ w) u = ap (λ l. left ∷ l) (graft_append f w u)
graft_append f (right ∷ w) u = ap (λ l. right ∷ l) (graft_append f w u)
graft_append f (letter a ∷ w) u = rw (graft_append f w u) (sym (append_assoc (f a) _ _))

module _ (g : Grammar) where
  expand_append : (r : ℕ) (w u : List (Sym ℕ)) → expand g r (w ++ u) ≡ expand g r w ++ expand g r u
  unfolding expand
  expand_append zero w u = refl
  expand_append (suc r) w u = rw graft_append (expand_append r _ _)

  pub drawn_nil : (r : ℕ) → drawn g r [] ≡ []
  unfolding drawn expand graft
  drawn_nil zero = refl
  drawn_nil (suc r) = drawn_nil r

  pub drawn_left : (r : ℕ) (w : List (Sym ℕ)) → drawn g r (left ∷ w) ≡ left ∷ drawn g r w
  unfolding drawn expand graft
  drawn_left zero w = refl
  drawn_left (suc r) w = drawn_left r _

  pub drawn_right : (r : ℕ) (w : List (Sym ℕ)) → drawn g r (right ∷ w) ≡ right ∷ drawn g r w
  unfolding drawn expand graft
  drawn_right zero w = refl
  drawn_right (suc r) w = drawn_right r _

  pub drawn_letter : (r m : ℕ) (w : List (Sym ℕ)) → drawn g r (letter m ∷ w) ≡ drawn g r (letter m ∷ []) ++ drawn g r w
  unfolding drawn
  drawn_letter r m w = ap (graft g.draw) (expand_append r (letter m ∷ []) w) ∙ graft_append g.draw _ _

  pub drawn_zero : (m : ℕ) → drawn g 0 (letter m ∷ []) ≡ g.draw m
  unfolding drawn expand graft
  drawn_zero m = append-nil (g.draw m)

  pub drawn_suc : (r m : ℕ) → drawn g (suc r) (letter m ∷ []) ≡ drawn g r (g.rule m)
  unfolding drawn expand graft
  drawn_suc r m = ap (drawn g r) (append-nil (g.rule m))

-- ---- every token's walk with r passes ends at heading 0, and has 4 ^ r strokes
pub record Level (g : Grammar) (r : ℕ) : Type 0 where
  pub home : (m : ℕ) → m < g.tokens → final (drawn g r (letter m ∷ [])) start ≡ turtle (net_of g r m) 0
  pub size : (m : ℕ) → m < g.tokens → letter_count (drawn g r (letter m ∷ [])) ≡ 4 ^ r

-- so it is from where a child may be met
module _ (g : Grammar) (r : ℕ) (l : Level g r) (m : ℕ) (b : m < g.tokens) where
  pub token_final : (v : AB) (h : ℕ) (f : Bool) → h ≡ facing f → final (drawn g r (letter m ∷ [])) (turtle v h) ≡ turtle (v ⊕ signed f (net_of g r m)) h
  token_final v h f e = final_from _ v h f e (net_of g r m) (l.home m b)

  pub token_length : (t : Turtle) → length (cells (drawn g r (letter m ∷ [])) t) ≡ 4 ^ r
  token_length t = rw length_cells (l.size m b)
