-- The lines that are gathered on the way through a tree, and the child that a pattern leads to.
use mathlib.Core.Path.{◌≡◌, refl, sym, ap, ap₂, subst, ◌∙◌}
use mathlib.Core.Bool.{Bool, true, false, ◌&&◌, cond}
use mathlib.Core.List.{List, [], ◌∷◌, ◌++◌}
use Rattle.std.specs.Prelude.{Option, None, Some}
use Prim.Native.Nat.{ℕ, zero, suc, ◌+◌, ◌/◌, ◌%◌, ◌^◌, ◌<◌, ◌≤◌}
use native.Mathlib.Omega.{arith}
use lib.Dec.{eqb}
use lib.ListN.{length, get_or, take, set, length-take}
use Rattle.std.proofs.lemmas.List.{take_more_set}
use borrow.Author.Tests.{lt-ltb, le-ltb}
use Rattle.std.specs.Ordering.{int_eq}
use Rattle.std.specs.List.{position_or_len}
use Rattle.std.proofs.lemmas.List.FromFn.{fill_by_all}
use Rattle.std.proofs.lemmas.List.Recursion.{is_position_or_len}
use Rattle.classifier.specs.declared.Classifier.{Classifier}
use Rattle.classifier.specs.declared.Separator.{Separator}
use Rattle.classifier.specs.declared.splits.Gathered.TheInside.{Inside}
use Rattle.classifier.specs.Splits.{Polygon, Tree, split, stuck, all_edges, polygons_on, first_clean, tree_of, whole, same_separator, separator_index, with_separator, collected, separators, choice}
use Rattle.classifier.specs.Shapes.{classifier_of}
use Rattle.classifier.specs.Inside.Sets.{Lines, first_digit, three_of, Through, Led}
use Rattle.classifier.specs.Inside.Gathered.{gathered, gathered_lines, Kept}
use Rattle.classifier.proofs.ComparisonLaws.{same_int}
use Rattle.classifier.proofs.TreeLaws.{Sides, sides, tree_none, tree_only, tree_stuck, tree_split, added_long, lines_few}

-- ---- the lines as the code has them
many : (n : ℕ) → suc (suc (suc n)) < 3 → ⊥
many n h = omega arith

three_put : (ss : List Separator) (s : Separator) → length ss < 3 → set (three_of ss) (length ss) s ≡ three_of (ss ++ (s ∷ []))
three_put [] s h = refl
three_put (a ∷ []) s h = refl
three_put (a ∷ (b ∷ [])) s h = refl
three_put (a ∷ (b ∷ (c ∷ ss))) s h = absurd (many (length ss) h)

-- no line yet
pub none_kept : (g : Inside) → g.lines ≡ three_of [] → g.count ≡ 0 → Kept g × (gathered g ≡ record { lines = []; whole = g.whole })
unfolding gathered_lines
none_kept g l n = (record { is = rw n l; few = omega arith }, rw n refl)

module _ {g : Inside} {now : Lines} (k : Kept g) (v : gathered g ≡ now) where
  held : g.lines ≡ three_of now.lines
  held = k.is ∙ ap (λ (l : Lines). three_of l.lines) v

  pub held_count : g.count ≡ length now.lines
  unfolding gathered_lines
  held_count = let long = ap length k.is in omega (arith, k.few, length-take g.count g.lines, ap (λ (l : Lines). length l.lines) v)

  pub held_room : length now.lines < 3 → g.count < 3
  held_room h = omega (arith, held_count)

  -- met a set that no edge splits
  pub stuck_kept : Kept (record { lines = g.lines; count = g.count; whole = false })
  unfolding gathered_lines
  stuck_kept = record { is = k.is; few = k.few }

  pub stuck_view : gathered (record { lines = g.lines; count = g.count; whole = false }) ≡ record { lines = now.lines; whole = false }
  unfolding gathered_lines
  stuck_view i = record { lines = (v i).lines; whole = false }

  -- one line more
  module _ (s : Separator) (room : length now.lines < 3) where
    lines_more : take (g.count + 1) (set g.lines g.count s) ≡ now.lines ++ (s ∷ [])
    unfolding gathered_lines
    lines_more = let long = ap length held in take_more_set g.lines g.count s (omega (arith, held_count)) ∙ ap (λ (l : Lines). l.lines ++ (s ∷ [])) v

    pub more_kept : Kept (record { lines = set g.lines g.count s; count = g.count + 1; whole = g.whole })
    unfolding gathered_lines
    more_kept = record {
      is = rw (lines_more, held, held_count) (three_put now.lines s room);
      few = omega (arith, held_room room);
    }

    pub more_view : {i : ℕ} → i ≡ separator_index now.lines s → i ≡ g.count → gathered (record { lines = set g.lines g.count s; count = g.count + 1; whole = g.whole }) ≡ record { lines = with_separator now.lines s; whole = now.whole }
    unfolding gathered_lines
    more_view e f =
        let fresh : with_separator now.lines s ≡ now.lines ++ (s ∷ []) = rw (le-ltb (separator_index now.lines s) (length now.lines) (omega (arith, held_count))) refl in
        λ i. record { lines = (lines_more ∙ sym fresh) i; whole = (v i).whole }

pub index_most : (ss : List Separator) (s : Separator) → separator_index ss s ≤ length ss
index_most [] s = omega arith
index_most (t ∷ ss) s = go (same_separator t s) (index_most ss s)
  where
    go : (b : Bool) → separator_index ss s ≤ length ss → cond b 0 (suc (separator_index ss s)) ≤ suc (length ss)
    go true h = omega arith
    go false h = omega arith

-- a line that is there already
pub there : {g : Inside} {now : Lines} → Kept g → gathered g ≡ now → (s : Separator) {i : ℕ} → i ≡ separator_index now.lines s → (i ≡ g.count → ⊥) → now ≡ record { lines = with_separator now.lines s; whole = now.whole }
there {g} {now} k v s e f =
    let in_list : with_separator now.lines s ≡ now.lines = rw (lt-ltb (separator_index now.lines s) (length now.lines) (omega (arith, held_count k v, index_most now.lines s))) refl in
    λ i. record { lines = sym in_list i; whole = now.whole }

-- ---- where a line stands
abbrev pub is_line : Separator → Separator → Bool
is_line s t = int_eq t.x s.x && int_eq t.y s.y && int_eq t.c s.c

pub index_is : (ss : List Separator) (s : Separator) {r : ℕ} → r ≡ position_or_len (is_line s) ss → r ≡ separator_index ss s
index_is ss s e = e ∙ sym (is_position_or_len (λ (ss : List Separator). separator_index ss s) (is_line s) refl step ss)
  where
    same : (t : Separator) → same_separator t s ≡ is_line s t
    same t = rw (same_int t.x s.x, same_int t.y s.y, same_int t.c s.c) refl

    step : (t : Separator) (ts : List Separator) → separator_index (t ∷ ts) s ≡ cond (is_line s t) 0 (1 + separator_index ts s)
    step t ts = let next : suc (separator_index ts s) ≡ 1 + separator_index ts s = omega arith in ap₂ (λ (b : Bool) (n : ℕ). cond b 0 n) (same t) next

-- ---- through the tree of a set
no_more : (w : Bool) → false ≡ w && false
no_more true = refl
no_more false = refl

as_before : (w : Bool) → w ≡ w && true
as_before true = refl
as_before false = refl

in_turn : (a b c : Bool) → (a && b) && c ≡ a && (b && c)
in_turn true b c = refl
in_turn false b c = refl

-- what is gathered from lines on through a tree
abbrev after : Lines → Tree → Lines
after l t = record { lines = collected l.lines t; whole = l.whole && whole t }

module _ (gs : List Polygon) (g : Lines) {r : Lines} where
  ended : (n : ℕ) → tree_of n gs ≡ stuck → r ≡ record { lines = g.lines; whole = false } → r ≡ after g (tree_of n gs)
  unfolding collected whole
  ended n t e = e ∙ rw t (λ i. record { lines = g.lines; whole = no_more g.whole i })

  pub through_none : length gs ≡ 0 → r ≡ record { lines = g.lines; whole = false } → Through gs g r
  through_none h e = record { by = λ n k. ended n (tree_none n gs h) e }

  pub through_stuck : 2 ≤ length gs → None ≡ first_clean gs (all_edges gs) → r ≡ record { lines = g.lines; whole = false } → Through gs g r
  through_stuck h f e = record { by = λ n k. ended n (tree_stuck n gs h f) e }

pub through_only : {gs : List Polygon} {g : Lines} → length gs ≡ 1 → Through gs g g
unfolding collected whole
through_only {gs} {g} h = record { by = λ n l. rw (tree_only n gs h) (λ i. record { lines = g.lines; whole = as_before g.whole i }) }

-- a set of two children or more that a line splits, and room for the lines of both sides
pub record Splitting (gs : List Polygon) (s : Separator) (g : Lines) : Type 0 where
  pub room : length g.lines + length gs ≤ 4
  pub two : 2 ≤ length gs
  pub found : Some s ≡ first_clean gs (all_edges gs)

at_least_two : (n : ℕ) → (n ≡ 0 → ⊥) → (n ≡ 1 → ⊥) → 2 ≤ n
at_least_two zero z o = absurd (z refl)
at_least_two (suc zero) z o = absurd (o refl)
at_least_two (suc (suc n)) z o = omega arith

pub two_of : (gs : List Polygon) {n : ℕ} → n ≡ length gs → (n ≡ 0 → ⊥) → (n ≡ 1 → ⊥) → 2 ≤ length gs
two_of gs {n} e z o = subst (λ k. 2 ≤ k) e (at_least_two n z o)

pub nothing_of : (gs : List Polygon) {r : Option Separator} → r ≡ first_clean gs (all_edges gs) → r ≡ None → None ≡ first_clean gs (all_edges gs)
nothing_of gs e f = sym f ∙ e

module _ {gs : List Polygon} {s : Separator} {g more : Lines} {a : List Polygon} (f : Splitting gs s g) (more_is : more ≡ record { lines = with_separator g.lines s; whole = g.whole }) (a_is : a ≡ polygons_on true s gs) where
  d : Sides gs (polygons_on true s gs) (polygons_on false s gs)
  d = sides (all_edges gs) f.found

  pub first_less : length a < length gs
  first_less = rw a_is (omega (arith, d.sum, d.second))

  first_some : 0 < length a
  first_some = rw a_is d.first

  pub first_room : length more.lines + length a ≤ 4
  first_room = rw more_is (omega (arith, added_long g.lines s, first_less, f.room))

  module _ {over : Lines} {b : List Polygon} (over_by : Through a more over) (b_is : b ≡ polygons_on false s gs) where
    sizes : length a + length b ≡ length gs
    sizes = rw (a_is, b_is) d.sum

    over_is : (n : ℕ) → length gs ≤ suc (suc n) → over ≡ after (record { lines = with_separator g.lines s; whole = g.whole }) (tree_of n a)
    over_is n h = over_by.by n (omega (arith, first_less)) ∙ ap (λ (l : Lines). after l (tree_of n a)) more_is

    pub second_less : length b < length gs
    second_less = omega (arith, sizes, first_some)

    pub second_room : length over.lines + length b ≤ 4
    second_room =
        let e = ap (λ (l : Lines). length l.lines) (over_is (length gs) (omega arith)) in
        omega (arith, lines_few (length gs) a (with_separator g.lines s) first_some, added_long g.lines s, sizes, f.room)

    pub through_split : {r : Lines} → Through b over r → Through gs g r
    unfolding collected whole
    through_split {r} by_b = record { by = go }
      where
        go : (n : ℕ) → length gs ≤ suc n → r ≡ after g (tree_of n gs)
        go zero h = let z : ⊥ = omega (arith, f.two) in absurd z
        go (suc n) h =
            let t : tree_of (suc n) gs ≡ split s (tree_of n a) (tree_of n b) = rw (a_is, b_is) (tree_split n gs f.two f.found) in
            by_b.by n (omega (arith, second_less))
            ∙ ap (λ (l : Lines). after l (tree_of n b)) (over_is n h)
            ∙ rw t (λ i. record { lines = collected (collected (with_separator g.lines s) (tree_of n a)) (tree_of n b); whole = in_turn g.whole (whole (tree_of n a)) (whole (tree_of n b)) i })

-- ---- the child that a pattern leads to
module _ {gs : List Polygon} {ss : List Separator} {pattern : ℕ} where
  pub led_none : length gs ≡ 0 → Led gs ss pattern 0
  unfolding choice
  led_none h = record { by = λ n k. rw (tree_none n gs h) refl }

  pub led_stuck : 2 ≤ length gs → None ≡ first_clean gs (all_edges gs) → Led gs ss pattern 0
  unfolding choice
  led_stuck h f = record { by = λ n k. rw (tree_stuck n gs h f) refl }

  pub led_only : {d : ℕ} → length gs ≡ 1 → d ≡ first_digit gs → Led gs ss pattern d
  unfolding choice
  led_only h e = record { by = λ n k. e ∙ rw (tree_only n gs h) refl }

module _ (gs : List Polygon) {s : Separator} (ss : List Separator) (pattern : ℕ) (two : 2 ≤ length gs) (found : Some s ≡ first_clean gs (all_edges gs)) {i : ℕ} (i_is : i ≡ separator_index ss s) {above : Bool}
    (above_is : above ≡ eqb (pattern / 2 ^ i % 2) 1) {a : List Polygon} (a_is : a ≡ polygons_on above s gs) where
  short : (b : Bool) → length (polygons_on b s gs) < length gs
  short true = let d = sides (all_edges gs) found in omega (arith, d.sum, d.second)
  short false = let d = sides (all_edges gs) found in omega (arith, d.sum, d.first)

  pub led_less : length a < length gs
  led_less = rw a_is (short above)

  pub led_split : {d : ℕ} → Led a ss pattern d → Led gs ss pattern d
  unfolding choice
  led_split {d} l = record { by = go }
    where
      turn : (b : Bool) (n : ℕ) → choice ss pattern (tree_of n (polygons_on b s gs)) ≡ cond b (choice ss pattern (tree_of n (polygons_on true s gs))) (choice ss pattern (tree_of n (polygons_on false s gs)))
      turn true n = refl
      turn false n = refl

      go : (n : ℕ) → length gs ≤ suc n → d ≡ choice ss pattern (tree_of n gs)
      go zero h = let z : ⊥ = omega (arith, two) in absurd z
      go (suc n) h = l.by n (omega (arith, led_less)) ∙ (rw (a_is, tree_split n gs two found, sym i_is, sym above_is) (turn above n))

-- ---- the classifier of four children
module _ (ps : List Polygon) (four : length ps ≡ 4) {found : Lines} (t : Through ps (record { lines = []; whole = true }) found) where
  found_is : found ≡ record { lines = separators (tree_of 3 ps); whole = whole (tree_of 3 ps) }
  unfolding separators
  found_is = t.by 3 (omega arith)

  pub classifier_is : (ss : List Separator) (cs : List ℕ) {w : Bool} → ss ≡ three_of found.lines → w ≡ found.whole → length cs ≡ 8 → ((i : ℕ) → i < 8 → Led ps found.lines i (get_or cs i 0)) → ◌≡◌ {A = Classifier} (record { separators = ss; choices = cs; whole = w }) (classifier_of ps)
  unfolding classifier_of
  classifier_is ss cs ss_is w_is n led = λ i. record {
    separators = (ss_is ∙ ap (λ (l : Lines). three_of l.lines) found_is) i;
    choices = fill_by_all (λ (k : ℕ). choice (separators (tree_of 3 ps)) k (tree_of 3 ps)) cs 8 0 n pick i;
    whole = (w_is ∙ ap (λ (l : Lines). l.whole) found_is) i;
  }
    where
      pick : (i : ℕ) → i < 8 → get_or cs i 0 ≡ choice (separators (tree_of 3 ps)) i (tree_of 3 ps)
      pick i h = (led i h).by 3 (omega arith) ∙ ap (λ (l : Lines). choice l.lines i (tree_of 3 ps)) found_is
