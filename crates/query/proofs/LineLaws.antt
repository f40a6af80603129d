-- A query line by its words w, in the form of what its reader has in hand: each word that was read, and what its reader said.
use mathlib.Core.Path.{◌≡◌, refl, sym, ◌∙◌}
use mathlib.Core.Bool.{Bool, true, false, cond, and-false}
use mathlib.Core.List.{List, []}
use Prim.Native.Nat.{ℕ, ◌^◌, ◌≤◌, ◌<◌}
use native.Mathlib.Omega.{arith}
use borrow.Author.Tests.{lt-ltb, le-ltb, eq-eqb, ne_eqb}
use lib.Ieee.{Float}
use lib.IntN.{ℤ}
use lib.ListN.{length, get_or}
use lib.Signed.{mag}
use mir.Syntax.{w32}
use mir.Val.{to_z, of_z}
use mir.ValLaws.{to_z-of_z}
use borrow.Author.Rules.{sfits_of}
use Rattle.std.specs.Prelude.{Option, Some, None}
use Rattle.triple.specs.declared.Triple.{Triple}
use Rattle.triple.specs.declared.refusal.Refusal.TheVariants as Is
use Rattle.triple.specs.Refusals.{Told, told, refused, number_of}
use Rattle.text.specs.Words.{words_of}
use Rattle.text.specs.Decimals.{u8, u64, i32}
use Rattle.text.specs.Patterns.{f64}
use Rattle.query.specs.declared.Query.{Query}
use Rattle.query.specs.Lines.{position_rest, cell_rest, point_rest, headed, starts, query_of}

-- ---- a reader said it of a word as it was cut, p, which is the word q
pub byte_of : (a : Option ℕ) {p q : List ℕ} → p ≡ q → a ≡ u8 p → a ≡ u8 q
byte_of a e s = rw e at s

pub natural_of : (a : Option ℕ) {p q : List ℕ} → p ≡ q → a ≡ u64 p → a ≡ u64 q
natural_of a e s = rw e at s

pub integer_of : (a : Option ℤ) {p q : List ℕ} → p ≡ q → a ≡ i32 p → a ≡ i32 q
integer_of a e s = rw e at s

pub float_of : (a : Option Float) {p q : List ℕ} → p ≡ q → a ≡ f64 p → a ≡ f64 q
float_of a e s = rw e at s

-- ---- the words after the orientation and the resolution
module _ (w : List (List ℕ)) (o r : ℕ) where
  -- P o r s
  module _ (a : Option ℕ) (s : a ≡ u64 (get_or w 3 [])) where
    pub position_unread : a ≡ None → refused (number_of Is.Line) ≡ position_rest o r w
    position_unread t = rw (← s, t)

    pub position_read : (n : ℕ) → a ≡ Some n → told (Query.Position o r n) ≡ position_rest o r w
    position_read n t = rw (← s, t)

  -- C o r x y z
  module _ (a : Option ℤ) (s : a ≡ i32 (get_or w 3 [])) where
    pub cell_unread : a ≡ None → refused (number_of Is.Line) ≡ cell_rest o r w
    cell_unread t = rw (← s, t)

    module _ (x : ℤ) (t : a ≡ Some x) (b : Option ℤ) (s' : b ≡ i32 (get_or w 4 [])) where
      pub cell_second : b ≡ None → refused (number_of Is.Line) ≡ cell_rest o r w
      cell_second t' = rw (← s, t, ← s', t')

      module _ (y : ℤ) (t' : b ≡ Some y) (c : Option ℤ) (s'' : c ≡ i32 (get_or w 5 [])) where
        pub cell_third : c ≡ None → refused (number_of Is.Line) ≡ cell_rest o r w
        cell_third t'' = rw (← s, t, ← s', t', ← s'', t'')

  -- a coordinate that is handed on is read back from its bits
  pub cell_read : (v : Triple) (x y z : ℤ) (a b c : Option ℤ) → v ≡ record { x = to_z w32 (of_z w32 x); y = to_z w32 (of_z w32 y); z = to_z w32 (of_z w32 z) } → mag x < 2 ^ 31 → mag y < 2 ^ 31 → mag z < 2 ^ 31
      → a ≡ Some x → a ≡ i32 (get_or w 3 []) → b ≡ Some y → b ≡ i32 (get_or w 4 []) → c ≡ Some z → c ≡ i32 (get_or w 5 [])
      → told (Query.Cell o r v) ≡ cell_rest o r w
  cell_read v x y z a b c d fx fy fz t s t' s' t'' s'' = rw (d, to_z-of_z w32 x (sfits_of fx), to_z-of_z w32 y (sfits_of fy), to_z-of_z w32 z (sfits_of fz), ← s, t, ← s', t', ← s'', t'')

  -- R o r i j
  module _ (a : Option Float) (s : a ≡ f64 (get_or w 3 [])) where
    pub point_unread : a ≡ None → refused (number_of Is.Line) ≡ point_rest o r w
    point_unread t = rw (← s, t)

    module _ (i : Float) (t : a ≡ Some i) (b : Option Float) (s' : b ≡ f64 (get_or w 4 [])) where
      pub point_second : b ≡ None → refused (number_of Is.Line) ≡ point_rest o r w
      point_second t' = rw (← s, t, ← s', t')

      pub point_read : (j : Float) → b ≡ Some j → told (Query.Point o r i j) ≡ point_rest o r w
      point_read j t' = rw (← s, t, ← s', t')

pub ruleset position_laws = (natural_of, position_unread, position_read)

pub ruleset cell_laws = (integer_of, cell_unread, cell_second, cell_third, cell_read)

pub ruleset point_laws = (float_of, point_unread, point_second, point_read)

-- ---- the letter and the count of words
module _ (letter n : ℕ) (w : List (List ℕ)) where
  starts_so : length w ≡ n → length (get_or w 0 []) ≡ 1 → get_or (get_or w 0 []) 0 0 ≡ letter → starts letter n w ≡ true
  unfolding starts
  starts_so c l b = simp (eq-eqb (length w) n c, eq-eqb (length (get_or w 0 [])) 1 l, eq-eqb (get_or (get_or w 0 []) 0 0) letter b)

  not_so_many : (length w ≡ n → ⊥) → starts letter n w ≡ false
  unfolding starts
  not_so_many c = simp (ne_eqb (length w) n c)

  not_one : (length (get_or w 0 []) ≡ 1 → ⊥) → starts letter n w ≡ false
  unfolding starts
  not_one l = simp (ne_eqb (length (get_or w 0 [])) 1 l, and-false)

  other_letter : (get_or (get_or w 0 []) 0 0 ≡ letter → ⊥) → starts letter n w ≡ false
  unfolding starts
  other_letter b = simp (ne_eqb (get_or (get_or w 0 []) 0 0) letter b, and-false)

-- ---- the query
pub chosen : List (List ℕ) → Told Query
chosen w = cond (starts 80 4 w) (headed position_rest w) (cond (starts 67 6 w) (headed cell_rest w) (cond (starts 82 5 w) (headed point_rest w) (refused (number_of Is.Line))))

module _ (line : List ℕ) where
  pub long_line : 64 < length line → refused (number_of Is.Line) ≡ query_of line
  unfolding query_of
  long_line h = simp (lt-ltb 64 (length line) h)

  pub short_line : length line ≤ 64 → (x : Told Query) → x ≡ chosen (words_of line) → x ≡ query_of line
  unfolding query_of chosen
  short_line h x e = e ∙ simp (le-ltb 64 (length line) h)

module _ (w : List (List ℕ)) where
  no_form : starts 80 4 w ≡ false → starts 67 6 w ≡ false → starts 82 5 w ≡ false → refused (number_of Is.Line) ≡ chosen w
  unfolding chosen
  no_form p c r = simp (p, c, r)

  no_word : headed position_rest w ≡ refused (number_of Is.Line) → headed cell_rest w ≡ refused (number_of Is.Line) → headed point_rest w ≡ refused (number_of Is.Line) → refused (number_of Is.Line) ≡ chosen w
  unfolding chosen
  no_word p c r = simp (p, c, r, cond_same)
    where
      cond_same : (t : Bool) (x : Told Query) → cond t x x ≡ x
      cond_same true x = refl
      cond_same false x = refl

  -- the first word is h
  module _ (h : List ℕ) (e : h ≡ get_or w 0 []) where
    pub no_letter : (length h ≡ 1 → ⊥) → refused (number_of Is.Line) ≡ chosen w
    no_letter d = let f : length (get_or w 0 []) ≡ 1 → ⊥ = rw e at d in no_form (not_one 80 4 w f) (not_one 67 6 w f) (not_one 82 5 w f)

    pub no_query : (get_or h 0 0 ≡ 80 → ⊥) → (get_or h 0 0 ≡ 67 → ⊥) → (get_or h 0 0 ≡ 82 → ⊥) → refused (number_of Is.Line) ≡ chosen w
    no_query p c r = no_form (other_letter 80 4 w (rw e at p)) (other_letter 67 6 w (rw e at c)) (other_letter 82 5 w (rw e at r))

    -- another letter stands there
    another : (letter wrong k : ℕ) → get_or h 0 0 ≡ letter → (letter ≡ wrong → ⊥) → starts wrong k w ≡ false
    another letter wrong k b d = other_letter wrong k w (λ f. d (sym (rw e at b) ∙ f))

    -- there are n words
    module _ (n : ℕ) (c : n ≡ length w) where
      miscounted : (letter k : ℕ) → (n ≡ k → ⊥) → starts letter k w ≡ false
      miscounted letter k d = not_so_many letter k w (λ f. d (c ∙ f))

      pub no_position : get_or h 0 0 ≡ 80 → (n ≡ 4 → ⊥) → refused (number_of Is.Line) ≡ chosen w
      no_position b d = no_form (miscounted 80 4 d) (another 80 67 6 b (λ z. omega arith)) (another 80 82 5 b (λ z. omega arith))

      pub no_cell : get_or h 0 0 ≡ 67 → (n ≡ 6 → ⊥) → refused (number_of Is.Line) ≡ chosen w
      no_cell b d = no_form (another 67 80 4 b (λ z. omega arith)) (miscounted 67 6 d) (another 67 82 5 b (λ z. omega arith))

      pub no_point : get_or h 0 0 ≡ 82 → (n ≡ 5 → ⊥) → refused (number_of Is.Line) ≡ chosen w
      no_point b d = no_form (another 82 80 4 b (λ z. omega arith)) (another 82 67 6 b (λ z. omega arith)) (miscounted 82 5 d)

  -- the orientation and the resolution
  module _ (a : Option ℕ) (s : a ≡ u8 (get_or w 1 [])) where
    pub no_orientation : a ≡ None → refused (number_of Is.Line) ≡ chosen w
    unfolding headed
    no_orientation t = no_word (rw (← s, t)) (rw (← s, t)) (rw (← s, t))

    module _ (o : ℕ) (t : a ≡ Some o) (b : Option ℕ) (s' : b ≡ u8 (get_or w 2 [])) where
      pub no_resolution : b ≡ None → refused (number_of Is.Line) ≡ chosen w
      unfolding headed
      no_resolution t' = no_word (rw (← s, t, ← s', t')) (rw (← s, t, ← s', t')) (rw (← s, t, ← s', t'))

      module _ (r : ℕ) (t' : b ≡ Some r) (h : List ℕ) (e : h ≡ get_or w 0 []) (one : length h ≡ 1) (n : ℕ) (c : n ≡ length w) (x : Told Query) where
        form : (letter k : ℕ) → get_or h 0 0 ≡ letter → n ≡ k → starts letter k w ≡ true
        form letter k m d = starts_so letter k w (sym c ∙ d) (rw e at one) (rw e at m)

        pub some_position : x ≡ position_rest o r w → get_or h 0 0 ≡ 80 → n ≡ 4 → x ≡ chosen w
        unfolding chosen headed
        some_position q m d = q ∙ rw (form 80 4 m d, ← s, t, ← s', t')

        pub some_cell : x ≡ cell_rest o r w → get_or h 0 0 ≡ 67 → n ≡ 6 → x ≡ chosen w
        unfolding chosen headed
        some_cell q m d = q ∙ rw (another h e 67 80 4 m (λ z. omega arith), form 67 6 m d, ← s, t, ← s', t')

        pub some_point : x ≡ point_rest o r w → get_or h 0 0 ≡ 82 → n ≡ 5 → x ≡ chosen w
        unfolding chosen headed
        some_point q m d = q ∙ rw (another h e 82 80 4 m (λ z. omega arith), another h e 82 67 6 m (λ z. omega arith), form 82 5 m d, ← s, t, ← s', t')

pub ruleset refusal_laws = (byte_of, long_line, short_line, no_letter, no_query, no_position, no_cell, no_point, no_orientation, no_resolution)

pub ruleset query_laws = (byte_of, short_line, some_position, some_cell, some_point)
