-- Following the table of an accepted grammar gives the cell at every place of its drawing: the entries of each
-- level are those that the descent over the grammar reads.
use mathlib.Core.Path.{◌≡◌, refl, ◌∙◌, ap}
use mathlib.Core.Bool.{Bool, false}
use mathlib.Core.List.{List, [], ◌∷◌}
use Prim.Native.Nat.{ℕ, zero, suc, ◌+◌, ◌*◌, ◌/◌, ◌%◌, ◌^◌, ◌<◌}
use native.Mathlib.Omega.{arith}
use lib.ListN.{length, get_or}
use Rattle.turtle.specs.declared.AB.{AB}
use Rattle.turtle.specs.Plane.{origin, facing}
use Rattle.turtle.specs.Walk.{Sym, left, right, letter, turtle, start, cells, final}
use Rattle.grammar.specs.Texts.{Line}
use Rattle.grammar.specs.Curves.{strokes, drawing, net, token_bytes, letter_of}
use Rattle.grammar.proofs.Grammars.{grammar_of, drawn, net_of, Upright, Accepted}
use Rattle.tables.specs.Children.{children_along, children, offset_after, offset, leaves, child, no_cell}
use Rattle.tables.specs.Table.{state_of, leaf_of, table_of}
use Rattle.tables.specs.Descent.{follow}
use Rattle.tables.proofs.Descents.{start_of, descend, child_token, drawn_length, descend_is}
use Rattle.tables.proofs.Entries.{child_entry, offset_entry, sum_entry, flavor_entry}

module _
    (ls : List Line)
    (ok : Accepted (grammar_of ls))
    (linked : (r m : ℕ) → m < length (token_bytes ls) → strokes ls r (letter_of ls m) ≡ drawn (grammar_of ls) r (letter m ∷ [])) where
  -- ---- the definition's children, offsets and leaves are the grammar's
  net_is : (r m : ℕ) → m < length (token_bytes ls) → net ls r (letter_of ls m) ≡ net_of (grammar_of ls) r m
  unfolding net net_of
  net_is r m b = ap (λ w. (final w start).at) (linked r m b)

  offset_after_lem : (r h : ℕ) (w : List (Sym ℕ)) (d : ℕ) → Upright (grammar_of ls) h w →
      offset_after ls r (children_along h w) d ≡ start_of (grammar_of ls) r (children_along h w) d
  unfolding grammar_of Upright children_along offset_after start_of
  offset_after_lem r h [] zero u = refl
  offset_after_lem r h [] (suc d) u = refl
  offset_after_lem r h (left ∷ w) d u = offset_after_lem r ((h + 1) % 6) w d u
  offset_after_lem r h (right ∷ w) d u = offset_after_lem r ((h + 5) % 6) w d u
  offset_after_lem r h (letter m ∷ w) zero u = refl
  offset_after_lem r h (letter m ∷ w) (suc d) u = rw (net_is r m u.1, offset_after_lem r h w d u.2)

  offset_is : (m d : ℕ) → m < length (token_bytes ls) → offset ls m d ≡ start_of (grammar_of ls) 1 (children_along 0 ((grammar_of ls).rule m)) d
  unfolding offset children grammar_of
  offset_is m d b = offset_after_lem 1 0 ((grammar_of ls).rule m) d (ok.faced m b)

  pub child_bound : (m d : ℕ) → m < length (token_bytes ls) → d < 4 → (child ls m d).token < length (token_bytes ls)
  unfolding children grammar_of
  child_bound m d b h = child_token (grammar_of ls) 0 ((grammar_of ls).rule m) d (ok.faced m b) (rw (ok.four m b) h)

  leaves_are : (m : ℕ) (f : Bool) → m < length (token_bytes ls) →
      leaves ls m f ≡ cells (drawn (grammar_of ls) 1 (letter m ∷ [])) (turtle origin (facing f))
  unfolding leaves
  leaves_are m f b = rw (linked 1 m b)

  follow_descends : (r : ℕ) (v : AB) (f : Bool) (m s : ℕ) → m < length (token_bytes ls) →
      follow (table_of ls) r v (state_of m f) s ≡ leaf_of (descend (grammar_of ls) r v f m s)
  unfolding follow descend grammar_of children
  follow_descends zero v f m s b =
      rw (sum_entry ls m f b (s % 4) (omega arith), flavor_entry ls m f b (s % 4) (omega arith), leaves_are m f b)
  follow_descends (suc r) v f m s b =
      let d : s / 4 ^ suc r % 4 < 4 = omega arith in
      rw (offset_entry ls m f b _ d, child_entry ls m f b _ d, offset_is m _ b) (follow_descends r _ _ _ s (child_bound m _ b d))

  -- ---- the theorem
  pub drawing_length : (r m : ℕ) → m < length (token_bytes ls) → length (drawing ls r (letter_of ls m)) ≡ 4 ^ r
  unfolding drawing grammar_of
  drawing_length r m b = rw (linked r m b) (drawn_length (grammar_of ls) ok r m b)

  pub follow_is_drawing : (r m s : ℕ) → m < length (token_bytes ls) → s < 4 ^ suc r →
      follow (table_of ls) r origin (2 * m) s ≡ leaf_of (get_or (drawing ls (suc r) (letter_of ls m)) s no_cell)
  unfolding drawing grammar_of state_of
  follow_is_drawing r m s b h =
      let e : 2 * m ≡ 2 * m + 0 = omega arith in
      rw (e, linked (suc r) m b) (follow_descends r origin false m s b ∙ ap leaf_of (descend_is (grammar_of ls) ok r m s b h))
