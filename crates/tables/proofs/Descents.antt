-- The descent finds the cell at every place of an accepted grammar's drawing: by induction on the passes, as each child's walk is
-- that of its token, placed where the walks before it end, and as one pass more doubles those places.
use mathlib.Core.Path.{◌≡◌, refl, sym, ◌∙◌, ap}
use mathlib.Core.Bool.{Bool, false}
use mathlib.Core.List.{List, [], ◌∷◌, ◌++◌, map}
use Prim.Native.Nat.{ℕ, zero, suc, ◌+◌, ◌*◌, ◌/◌, ◌%◌, ◌^◌, ◌<◌, ◌≤◌}
use native.Mathlib.Omega.{arith}
use native.Mathlib.Nat as N
use lib.Dec.{eqb}
use lib.ListN.{length, get_or, get_or-append}
use lib.Seq.{get_or-append-add}
use Rattle.turtle.specs.declared.AB.{AB}
use Rattle.turtle.specs.declared.walk.DrawnCell.{DrawnCell}
use Rattle.turtle.specs.Plane.{origin, ◌⊕◌, thrice, signed, facing, flipped, doubled}
use Rattle.turtle.specs.Walk.{Sym, left, right, letter, turtle, start, move, cells, final}
use Rattle.turtle.proofs.PlaneLaws.{sum_twice, ⊕_assoc, ⊕_idl, ⊕_idr, signed_⊕, doubled_signed}
use Rattle.turtle.proofs.WordLaws.{final_append, cells_append, cells_from, placed, placed_placed, placed_start, placed_shift}
use Rattle.grammar.specs.Curves.{turned, letter_count}
use Rattle.grammar.proofs.Grammars.{Grammar, drawn, net_of, Upright, Accepted}
use Rattle.grammar.proofs.GrammarLaws.{letters_append, final_heading, drawn_nil, drawn_left, drawn_right, drawn_letter, drawn_zero, drawn_suc, Level, token_final, token_length}
use Rattle.tables.specs.declared.Child.{Child}
use Rattle.tables.specs.Children.{children_along, no_child, no_cell}

-- where child d of a rule starts, r passes down
unfoldable pub start_of : Grammar → ℕ → List Child → ℕ → AB
start_of g r cs zero = origin
start_of g r [] (suc d) = origin
start_of g r (c ∷ cs) (suc d) = signed c.flip (net_of g r c.token) ⊕ start_of g r cs d

-- the cell s of the token m with 1 + r passes, for the token at v with flip f
unfoldable pub descend : Grammar → ℕ → AB → Bool → ℕ → ℕ → DrawnCell
descend g zero v f m s =
    let c = get_or (cells (drawn g 1 (letter m ∷ [])) (turtle origin (facing f))) (s % 4) no_cell in
    record { sum = thrice v ⊕ c.sum; flavor = c.flavor }
descend g (suc r) v f m s =
    let cs = children_along 0 (g.rule m) in
    let d = s / 4 ^ suc r % 4 in
    let c = get_or cs d no_child in
    descend g r (v ⊕ doubled r (signed f (start_of g 1 cs d))) (flipped f c.flip) c.token s

-- ---- the digit of s at n, and what stands below it
below : (n u d t : ℕ) → d < 4 → t < n → ((u * 4 + d) * n + t) % (4 * n) ≡ d * n + t
below n u d t h k =
    let e : (u * 4 + d) * n + t ≡ u * (4 * n) + (d * n + t) = omega (arith, N.add-mul (u * 4) d n, N.mul_assoc u 4 n) in
    let i : d ≤ 3 = omega arith in
    let l : d * n + t < 4 * n = omega (arith, N.mul-le-mul_right n i) in
    rw (e, N.mul-add-mod_self_right) (N.mod-eq_of_lt l)

digit : (s n : ℕ) → 0 < n → s % (4 * n) ≡ s / n % 4 * n + s % n
digit s n p =
    let c : s / n / 4 * 4 + s / n % 4 ≡ s / n = omega arith in
    let e : (s / n / 4 * 4 + s / n % 4) * n + s % n ≡ s = ap (λ q. q * n + s % n) c ∙ N.div-add-mod' s n in
    ap (λ x. x % (4 * n)) (sym e) ∙ below n (s / n / 4) (s / n % 4) (s % n) (omega arith) (N.mod-lt s p)

get_d_map : {A B : Type 0} (f : A → B) (l : List A) (n : ℕ) (a : A) (b : B) → n < length l → get_or (map f l) n b ≡ f (get_or l n a)
get_d_map f [] n a b h = let z : ⊥ = omega arith in absurd z
get_d_map f (c ∷ l) zero a b h = refl
get_d_map f (c ∷ l) (suc n) a b h = get_d_map f l n a b (omega arith)

pub get_d_past : {A : Type 0} (l k : List A) (a : A) (n i : ℕ) → length l ≡ n → get_or (l ++ k) (n + i) a ≡ get_or k i a
get_d_past l k a n i e = rw (← e) (get_or-append-add l k i a)

module _ (g : Grammar) (r : ℕ) (l : Level g r) where
  -- ---- a token's cell, from where a child may be met
  token_cell : (m : ℕ) → m < g.tokens → (v : AB) (h : ℕ) (f : Bool) (j : ℕ) → h ≡ facing f → j < 4 ^ r →
      get_or (cells (drawn g r (letter m ∷ [])) (turtle v h)) j no_cell ≡ placed v f (get_or (cells (drawn g r (letter m ∷ [])) start) j no_cell)
  token_cell m b v h f j e c =
      let i : j < length (cells (drawn g r (letter m ∷ [])) start) = rw (token_length g r l m b) c in
      rw (cells_from (drawn g r (letter m ∷ [])) v h f e) (get_d_map (placed v f) (cells (drawn g r (letter m ∷ [])) start) j no_cell no_cell i)

  -- ---- a word of children: where its walk ends, how many strokes it has, and its cell number d * 4 ^ r + j
  word_final : (h : ℕ) (w : List (Sym ℕ)) (v : AB) → Upright g h w →
      final (drawn g r w) (turtle v h) ≡ turtle (v ⊕ start_of g r (children_along h w) (length (children_along h w))) (turned h w)
  unfolding Upright final move children_along turned start_of
  word_final h [] v u = rw (drawn_nil, ⊕_idr)
  word_final h (left ∷ w) v u = rw drawn_left (word_final ((h + 1) % 6) w v u)
  word_final h (right ∷ w) v u = rw drawn_right (word_final ((h + 5) % 6) w v u)
  word_final h (letter m ∷ w) v u =
      rw (drawn_letter, final_append, token_final g r l m u.1 v h (eqb h 3) u.0, ← (⊕_assoc v _ _)) (word_final h w _ u.2)

  word_letters : (h : ℕ) (w : List (Sym ℕ)) → Upright g h w → letter_count (drawn g r w) ≡ letter_count w * 4 ^ r
  unfolding Upright letter_count
  word_letters h [] u = rw drawn_nil (omega (arith, N.zero-mul (4 ^ r)))
  word_letters h (left ∷ w) u = rw drawn_left (word_letters ((h + 1) % 6) w u)
  word_letters h (right ∷ w) u = rw drawn_right (word_letters ((h + 5) % 6) w u)
  word_letters h (letter m ∷ w) u =
      rw (drawn_letter, letters_append) (omega (arith, l.size m u.1, word_letters h w u.2, N.suc-mul (letter_count w) (4 ^ r)))

  word_cell : (h : ℕ) (w : List (Sym ℕ)) (v : AB) (d j : ℕ) → Upright g h w → d < letter_count w → j < 4 ^ r →
      get_or (cells (drawn g r w) (turtle v h)) (d * 4 ^ r + j) no_cell
      ≡ placed (v ⊕ start_of g r (children_along h w) d) (get_or (children_along h w) d no_child).flip
      (get_or (cells (drawn g r (letter (get_or (children_along h w) d no_child).token ∷ [])) start) j no_cell)
  unfolding Upright letter_count children_along cells move start_of
  word_cell h [] v d j u b c = let z : ⊥ = omega arith in absurd z
  word_cell h (left ∷ w) v d j u b c = rw drawn_left (word_cell ((h + 1) % 6) w v d j u b c)
  word_cell h (right ∷ w) v d j u b c = rw drawn_right (word_cell ((h + 5) % 6) w v d j u b c)
  word_cell h (letter m ∷ w) v zero j u b c =
      let n : 0 * 4 ^ r + j ≡ j = omega (arith, N.zero-mul (4 ^ r)) in
      let k : j < length (cells (drawn g r (letter m ∷ [])) (turtle v h)) = rw (token_length g r l m u.1) c in
      rw (drawn_letter g r m w, cells_append, n, ⊕_idr, get_or-append) (token_cell m u.1 v h (eqb h 3) j u.0 c)
  word_cell h (letter m ∷ w) v (suc d) j u b c =
      let n : suc d * 4 ^ r + j ≡ 4 ^ r + (d * 4 ^ r + j) = omega (arith, N.suc-mul d (4 ^ r)) in
      rw (
        drawn_letter g r m w,
        cells_append,
        n,
        get_d_past _ _ _ _ _ (token_length g r l m u.1 (turtle v h)),
        token_final g r l m u.1 v h (eqb h 3) u.0,
        ← (⊕_assoc v _ _),
      ) (word_cell h w _ d j u.2 (omega arith) c)

-- ---- each child is a token
pub child_token : (g : Grammar) (h : ℕ) (w : List (Sym ℕ)) (d : ℕ) → Upright g h w → d < letter_count w → (get_or (children_along h w) d no_child).token < g.tokens
unfolding Upright children_along letter_count
child_token g h [] d u b = let z : ⊥ = omega arith in absurd z
child_token g h (left ∷ w) d u b = child_token g ((h + 1) % 6) w d u b
child_token g h (right ∷ w) d u b = child_token g ((h + 5) % 6) w d u b
child_token g h (letter m ∷ w) zero u b = u.1
child_token g h (letter m ∷ w) (suc d) u b = child_token g h w d u.2 (omega arith)

-- ---- one pass more doubles where a word's children start if it doubles the tokens' nets
start_twice : (g : Grammar) (r : ℕ) → ((m : ℕ) → m < g.tokens → net_of g (suc r) m ≡ net_of g r m ⊕ net_of g r m) →
    (h : ℕ) (w : List (Sym ℕ)) (d : ℕ) → Upright g h w →
    start_of g (suc r) (children_along h w) d ≡ start_of g r (children_along h w) d ⊕ start_of g r (children_along h w) d
unfolding Upright children_along start_of
start_twice g r tw h [] zero u = sym (⊕_idl origin)
start_twice g r tw h [] (suc d) u = sym (⊕_idl origin)
start_twice g r tw h (left ∷ w) d u = start_twice g r tw ((h + 1) % 6) w d u
start_twice g r tw h (right ∷ w) d u = start_twice g r tw ((h + 5) % 6) w d u
start_twice g r tw h (letter m ∷ w) zero u = sym (⊕_idl origin)
start_twice g r tw h (letter m ∷ w) (suc d) u = rw (tw m u.1, start_twice g r tw h w d u.2, signed_⊕) (sum_twice _ _)

module _ (g : Grammar) (ok : Accepted g) where
  rule_final : (r : ℕ) → Level g r → (m : ℕ) → m < g.tokens →
      final (drawn g r (g.rule m)) start ≡ turtle (origin ⊕ start_of g r (children_along 0 (g.rule m)) (length (children_along 0 (g.rule m)))) (turned 0 (g.rule m))
  rule_final r l m b = word_final g r l 0 (g.rule m) origin (ok.faced m b)

  level : (r : ℕ) → Level g r
  unfolding net_of
  level zero = record {
    home = λ m b. ap (turtle (net_of g 0 m)) (rw drawn_zero (final_heading (g.draw m) start ∙ ok.draw_turns m b));
    size = λ m b. rw drawn_zero (ok.single m b);
  }
  level (suc r) = record {
    home = λ m b. ap (turtle (net_of g (suc r) m)) (rw drawn_suc (ap (λ t. t.heading) (rule_final r (level r) m b) ∙ ok.rule_turns m b));
    size = λ m b. rw drawn_suc (word_letters g r (level r) 0 (g.rule m) (ok.faced m b) ∙ rw (ok.four m b) (sym (N.pow-succ' 4 r)));
  }

  net_suc : (r m : ℕ) → m < g.tokens → net_of g (suc r) m ≡ start_of g r (children_along 0 (g.rule m)) (length (children_along 0 (g.rule m)))
  unfolding net_of
  net_suc r m b = ap (λ w. (final w start).at) (drawn_suc g r m) ∙ (ap (λ t. t.at) (rule_final r (level r) m b) ∙ ⊕_idl _)

  net_twice : (r m : ℕ) → m < g.tokens → net_of g (suc (suc r)) m ≡ net_of g (suc r) m ⊕ net_of g (suc r) m
  net_twice zero m b = ok.twice m b
  net_twice (suc r) m b = rw (net_suc (suc (suc r)) m b, net_suc (suc r) m b) (start_twice g (suc r) (net_twice r) 0 (g.rule m) _ (ok.faced m b))

  start_doubled : (r : ℕ) (w : List (Sym ℕ)) (d : ℕ) → Upright g 0 w → start_of g (suc r) (children_along 0 w) d ≡ doubled r (start_of g 1 (children_along 0 w) d)
  unfolding doubled
  start_doubled zero w d u = refl
  start_doubled (suc r) w d u = rw (start_twice g (suc r) (net_twice r) 0 w d u, start_doubled r w d u)

  descend_placed : (r : ℕ) (v : AB) (f : Bool) (m s : ℕ) → m < g.tokens →
      descend g r v f m s ≡ placed v f (get_or (cells (drawn g (suc r) (letter m ∷ [])) start) (s % 4 ^ suc r) no_cell)
  unfolding descend
  descend_placed zero v f m s b =
      rw (token_cell g 1 (level 1) m b origin (facing f) f (s % 4) refl (omega arith)) (placed_shift v f _)
  descend_placed (suc r) v f m s b =
      let d : s / 4 ^ suc r % 4 < letter_count (g.rule m) = rw (ok.four m b) (omega arith) in
      let p : 0 < 4 ^ suc r = N.one-le-pow (suc r) 4 (omega arith) in
      let u = ok.faced m b in
      rw (
        descend_placed r _ _ _ s (child_token g 0 (g.rule m) _ u d),
        doubled_signed,
        ← (placed_placed v f _ _ _),
        drawn_suc g (suc r) m,
        N.pow-succ' 4 (suc r),
        digit s (4 ^ suc r) p,
        word_cell g (suc r) (level (suc r)) 0 (g.rule m) origin _ _ u d (N.mod-lt s p),
        ⊕_idl,
        start_doubled r (g.rule m) _ u,
      )

  -- ---- the theorem
  pub drawn_length : (r m : ℕ) → m < g.tokens → length (cells (drawn g r (letter m ∷ [])) start) ≡ 4 ^ r
  drawn_length r m b = token_length g r (level r) m b start

  pub descend_is : (r m s : ℕ) → m < g.tokens → s < 4 ^ suc r →
      descend g r origin false m s ≡ get_or (cells (drawn g (suc r) (letter m ∷ [])) start) s no_cell
  descend_is r m s b k = descend_placed r origin false m s b ∙ placed_start _ ∙ rw (N.mod-eq_of_lt k)
