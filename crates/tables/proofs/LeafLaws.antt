-- A token's cells, one after the other, in the form of what the code has in hand.
use mathlib.Core.Path.{◌≡◌, refl, sym, ap, ◌∙◌, subst}
use mathlib.Core.Bool.{Bool, true, false, cond}
use mathlib.Core.Logic.{◌⊎◌, inl, inr}
use mathlib.Core.List.{List, [], ◌∷◌, ◌++◌, map, append_assoc, append-nil, map-append}
use Prim.Native.Nat.{ℕ, suc, ◌+◌, ◌*◌, ◌<◌, ◌≤◌}
use native.Mathlib.Numerals.{add-one}
use native.Mathlib.Omega.{arith}
use lib.Dec.{eqb}
use lib.IntN.{ℤ, pos, negsuc}
use lib.ListN.{length, get_or, take, drop, set, length-set, take-append-drop}
use lib.Seq.{take-suc, take-suc-set, take_all}
use mir.Syntax.{w8, w32, w64}
use mir.Val.{SFits, to_z, of_z}
use mir.ValLaws.{to_z-of_z}
use Rattle.std.specs.Prelude.{Option, Some, None, Result, Ok, Err}
use Rattle.whole.proofs.View.{v_bits, v_unsigned, v_upto, eq_by, fits, kept}
use Rattle.turtle.specs.declared.AB.{AB}
use Rattle.turtle.specs.declared.letter.Stroke.{Stroke}
use Rattle.turtle.specs.declared.walk.Turtle.{Turtle}
use Rattle.turtle.specs.declared.walk.DrawnCell.{DrawnCell}
use Rattle.turtle.specs.declared.walk.Corners.{Corners}
use Rattle.turtle.specs.declared.walk.Stepped.{Stepped}
use Rattle.turtle.specs.declared.walk.Unhosted.{Unhosted}
use Rattle.turtle.specs.Plane.{ab, origin, facing}
use Rattle.turtle.specs.Inside.Sizes.{Within, Small}
use Rattle.turtle.specs.Letters.{stroke_of}
use Rattle.turtle.specs.Walk.{Sym, left, right, letter, drawn, symbol_of, symbols_of, turtle, start, move, corner, corners, cell, cells, final, step_by, step_of, corners_of}
use Rattle.turtle.proofs.WalkLaws.{v_small, small_more, add_small, rots_small}
use Rattle.turtle.proofs.SymbolLaws.{symbols_append}
use Rattle.turtle.proofs.WordLaws.{final_append, cells_append}
use Rattle.turtle.proofs.LetterLaws.{stroke_small}
use Rattle.classifier.specs.declared.Corner.{Corner}
use Rattle.classifier.specs.Shapes.{point_of}
use Rattle.grammar.specs.Texts.{lines_of}
use Rattle.grammar.specs.Curves.{letter_count, strokes, drawing, letter_of}
use Rattle.grammar.specs.Tests.{fine}
use Rattle.grammar.specs.Inside.Places.{lines_by}
use Rattle.grammar.proofs.GrammarLaws.{letters_append, length_cells}
use Rattle.grammar.proofs.Meaning.{accepted, linked}
use Rattle.grammar.proofs.NetLaws.{one_symbol, step_near, corners_near}
use Rattle.tables.specs.declared.Drawn.{Drawn}
use Rattle.tables.specs.declared.DrawnLeaf.{DrawnLeaf}
use Rattle.tables.specs.declared.Source.{Source}
use Rattle.tables.specs.declared.leaves.CellWalk.{CellWalk}
use Rattle.tables.specs.Classifier.{footprint}
use Rattle.tables.specs.Table.{flavor_number, leaf_of}
use Rattle.tables.specs.Inside.Sources.{Ready}
use Rattle.tables.proofs.Follow.{drawing_length}
use Rattle.tables.proofs.RuleChildLaws.{length_letters, letter_is}
use Rattle.tables.specs.Inside.Leaves.{corners_in, leaf_in, leaves_in, Hosts, CellAdded, CellsOnward, IsDrawn}

-- ---- a pair that fits i8
module _ {p : AB} (s : Small 120 p) where
  pub a_fits : SFits w8 (to_z w64 (of_z w64 p.a))
  a_fits = fits (v_bits w64 p.a (v_small s.a)) tt

  pub b_fits : SFits w8 (to_z w64 (of_z w64 p.b))
  b_fits = fits (v_bits w64 p.b (v_small s.b)) tt

  pub narrowed : ab (to_z w8 (of_z w8 (to_z w64 (of_z w64 p.a)))) (to_z w8 (of_z w8 (to_z w64 (of_z w64 p.b)))) ≡ p
  narrowed =
      let ea = kept w8 (kept w64 refl (v_small s.a) tt) (v_small s.a) tt in
      let eb = kept w8 (kept w64 refl (v_small s.b) tt) (v_small s.b) tt in
      rw (ea, eb) refl

-- ---- a flavor's number
pub flavor_of : {f : ℕ} {flavor : Option ℕ} → f < 256 → flavor ≡ Some f → to_z w32 f ≡ flavor_number flavor
flavor_of {f} {flavor} h e =
    let v : to_z w32 f ≡ pos f = eq_by (v_unsigned w32 f 256 (omega arith)) (v_upto f 256 (omega arith)) tt (omega arith) in
    v ∙ rw e refl

pub flavor_none : {flavor : Option ℕ} → flavor ≡ None → negsuc 0 ≡ flavor_number flavor
flavor_none e = rw e refl

-- ---- at the origin
pub facing_small : (f : Bool) {h : ℕ} → h ≡ facing f → h < 6
unfolding facing
facing_small true e = omega arith
facing_small false e = omega arith

pub origin_small : {p : AB} → p ≡ ab (pos 0) (pos 0) → Small 0 p
origin_small e = rw e record { a = none; b = none; sum = none }
  where
    none : Within 0 (pos 0)
    none = record { low = record { le = tt }; high = record { le = tt } }

pub started_is : (f : Bool) {p : AB} {h : ℕ} → p ≡ ab (pos 0) (pos 0) → h ≡ facing f → turtle p h ≡ turtle origin (facing f)
unfolding origin
started_is f e g = rw (e, g) refl

-- ---- one cell more
map_snoc : {A B : Type 0} (f : A → B) (l : List A) (a : A) → map f (l ++ (a ∷ [])) ≡ map f l ++ (f a ∷ [])
map_snoc f l a = map-append f l (a ∷ [])

three_more : {A : Type 0} (l : List A) (n : ℕ) (p q r : A) → 3 * n + 2 < length l →
    take (3 * (n + 1)) (set (set (set l (3 * n) p) (3 * n + 1) q) (3 * n + 2) r) ≡ take (3 * n) l ++ (p ∷ q ∷ r ∷ [])
three_more l n p q r h =
    let k : 3 * (n + 1) ≡ suc (3 * n + 2) = omega arith in
    let k2 : 3 * n + 2 ≡ suc (3 * n + 1) = omega arith in
    let k1 : 3 * n + 1 ≡ suc (3 * n) = omega arith in
    let l1 = set l (3 * n) p in
    let l2 = set l1 (3 * n + 1) q in
    let n2 : length l2 ≡ length l = length-set l1 (3 * n + 1) q ∙ length-set l (3 * n) p in
    let third : take (suc (3 * n + 2)) (set l2 (3 * n + 2) r) ≡ take (3 * n + 2) l2 ++ (r ∷ []) = take-suc-set l2 (3 * n + 2) r (omega (arith, n2)) in
    let second : take (suc (3 * n + 1)) l2 ≡ take (3 * n + 1) l1 ++ (q ∷ []) = take-suc-set l1 (3 * n + 1) q (omega (arith, length-set l (3 * n) p)) in
    let first : take (suc (3 * n)) l1 ≡ take (3 * n) l ++ (p ∷ []) = take-suc-set l (3 * n) p (omega arith) in
    ap (λ i. take i (set l2 (3 * n + 2) r)) k ∙ third ∙ ap (λ t. t ++ (r ∷ [])) (ap (λ i. take i l2) k2 ∙ second ∙ ap (λ t. t ++ (q ∷ [])) (ap (λ i. take i l1) k1 ∙ first))
    ∙ append_assoc (take (3 * n) l ++ (p ∷ [])) (q ∷ []) (r ∷ []) ∙ append_assoc (take (3 * n) l) (p ∷ []) (q ∷ r ∷ [])

module _ (k n : CellWalk) (c : Corners) (d : DrawnCell) (t : Turtle) (room : k.count < 4) where
  pub added : {p q r s : Corner} {f z : ℤ} → point_of p ≡ c.p → point_of q ≡ c.q → point_of r ≡ c.r → point_of s ≡ d.sum → f ≡ flavor_number d.flavor → SFits w32 f →
      z ≡ to_z w32 (of_z w32 f) →
      n.corners ≡ set (set (set k.corners (3 * k.count) p) (3 * k.count + 1) q) (3 * k.count + 2) r → n.leaves ≡ set k.leaves k.count (record { sum = s; flavor = z }) →
      n.turtle ≡ t → n.count ≡ k.count + 1 → CellAdded k c d t n
  added {p} {q} {r} {s} {f} {z} ep eq er es ef fits ez ec el et en =
      let l : DrawnLeaf = record { sum = s; flavor = z } in
      let same : leaf_in l ≡ leaf_of d = λ i. record { sum = es i; flavor = (ez ∙ to_z-of_z w32 f fits ∙ ef) i } in
      record {
        turtle = et;
        count = en;
        corners = rw (en, ec) (ap (map point_of) (three_more k.corners k.count p q r (omega (arith, k.corners_room))) ∙ map-append point_of (take (3 * k.count) k.corners) (p ∷ q ∷ r ∷ []) ∙ rw (ep, eq, er) refl);
        leaves = rw (en, el, add-one, take-suc-set k.leaves k.count l (omega (arith, k.leaves_room))) (map_snoc leaf_in (take k.count k.leaves) l ∙ ap (λ v. leaves_in k ++ (v ∷ [])) same);
      }

-- ---- a step near the origin
near : (k : CellWalk) → k.count ≤ 4 → Small 65536 k.turtle.at × (k.turtle.heading < 6)
near k few = (small_more (omega arith) k.small, k.faces)

pub symbol_letter : (b : ℕ) (s : Stroke) → symbol_of b ≡ letter s ∷ [] → Some s ≡ stroke_of b
unfolding symbol_of
symbol_letter b s e = go (eqb b 43) (eqb b 45) (stroke_of b) e
  where
    go : (p q : Bool) (l : Option Stroke) → cond p (left ∷ []) (cond q (right ∷ []) (drawn l)) ≡ letter s ∷ [] → Some s ≡ l
    go true q l e = absurd (let z : ◌≡◌ {A = ℕ} 0 1 = cc in omega arith)
    go false true l e = absurd (let z : ◌≡◌ {A = ℕ} 0 1 = cc in omega arith)
    go false false (Some s') e = cc
    go false false None e = absurd (let z : ◌≡◌ {A = ℕ} 0 1 = cc in omega arith)

-- the stroke that a step drew
pub record Struck (b : ℕ) (t : Turtle) (c : DrawnCell) (n : Turtle) : Type 0 where
  pub stroke : Stroke
  pub symbol : symbol_of b ≡ letter stroke ∷ []
  pub drawn : c ≡ cell stroke t
  pub moved : n ≡ move (letter stroke) t

struck_by : (b : ℕ) (t : Turtle) (c : DrawnCell) (n : Turtle) (w : List (Sym Stroke)) → length w ≤ 1 → symbol_of b ≡ w → Stepped.Drew c n ≡ step_by w t → Struck b t c n
struck_by b t c n [] h e f = absurd (let z : ◌≡◌ {A = ℕ} 0 1 = cc in omega arith)
struck_by b t c n (left ∷ w) h e f = absurd (let z : ◌≡◌ {A = ℕ} 0 1 = cc in omega arith)
struck_by b t c n (right ∷ w) h e f = absurd (let z : ◌≡◌ {A = ℕ} 0 1 = cc in omega arith)
struck_by b t c n (letter s ∷ []) h e f = record { stroke = s; symbol = e; drawn = cc; moved = cc }
struck_by b t c n (letter s ∷ a ∷ w) h e f = absurd (omega arith)

module _ (k : CellWalk) (b : ℕ) (few : k.count + letter_count (symbol_of b) ≤ 4) {s : Stepped} (step : s ≡ step_of b k.turtle) where
  pub near_here : Small 65536 k.turtle.at × (k.turtle.heading < 6)
  near_here = near k (omega arith)

  stepped : s ≡ step_by (symbol_of b) k.turtle
  stepped = step ∙ step_near b k.turtle near_here

  module _ {c : DrawnCell} {n : Turtle} (drew : s ≡ Stepped.Drew c n) where
    pub struck : Struck b k.turtle c n
    struck = struck_by b k.turtle c n (symbol_of b) (one_symbol b) refl (sym drew ∙ stepped)

    pub drew_room : k.count < 4
    unfolding letter_count
    drew_room = let h : k.count + 1 ≤ 4 = rw struck.symbol at few in omega arith

    abbrev pub drew_hosts : {h : Result Corners Unhosted} → h ≡ corners_of b k.turtle → Hosts k.turtle h c n
    drew_hosts e =
        let l : Some struck.stroke ≡ stroke_of b = symbol_letter b struck.stroke struck.symbol in
        record {
          stroke = struck.stroke;
          small = stroke_small b l;
          hosted = e ∙ corners_near b k.turtle near_here ∙ rw (← l) refl;
          drawn = struck.drawn;
          moved = struck.moved;
        }

-- ---- the cell of a stroke
module _ (k : CellWalk) (few : k.count < 4) {h : Result Corners Unhosted} {d : DrawnCell} {t : Turtle} (hosts : Hosts k.turtle h d t) where
  abbrev stroke : Stroke
  stroke = hosts.stroke

  corner_small : {p : AB} → Small 8 p → Small (8 * k.count + 8) (corner k.turtle p)
  unfolding corner
  corner_small s = add_small k.small (rots_small k.turtle.heading s)

  pub hosted_small : {c : Corners} → h ≡ Ok c → (Small 40 c.p × (Small 40 c.q × Small 40 c.r)) × Small 120 d.sum
  unfolding corners cell
  hosted_small {c} e =
      let same : c ≡ corners stroke k.turtle = (let f = sym e ∙ hosts.hosted in cc) in
      let p = corner_small hosts.small.p in
      let q = corner_small hosts.small.q in
      let r = corner_small hosts.small.r in
      (rw same (small_more (omega arith) p, (small_more (omega arith) q, small_more (omega arith) r)), subst (λ d. Small 120 d.sum) (sym hosts.drawn) (small_more (omega arith) (add_small (add_small p q) r)))

  pub hosted_same : {c : Corners} → h ≡ Ok c → {n : CellWalk} → CellAdded k c d t n → (e : Corners) → h ≡ Ok e → CellAdded k e d t n
  hosted_same {c} f {n} a e g = let same : c ≡ e = (let i = sym f ∙ g in cc) in subst (λ e. CellAdded k e d t n) same a

  pub hosted_none : {u : Unhosted} → h ≡ Err u → ⊥
  hosted_none {u} e = let f = sym e ∙ hosts.hosted in let z : ◌≡◌ {A = ℕ} 0 1 = cc in omega arith

  pub hosted_onward : {n : CellWalk} → ((c : Corners) → h ≡ Ok c → CellAdded k c d t n) → CellsOnward k (letter stroke ∷ []) n
  unfolding letter_count footprint cells corners cell move final
  hosted_onward {n} added =
      let a = added (corners stroke k.turtle) hosts.hosted in
      record {
        count = a.count;
        corners = a.corners;
        leaves = a.leaves ∙ ap (λ d. leaves_in k ++ (leaf_of d ∷ [])) hosts.drawn;
        turtle = a.turtle ∙ hosts.moved;
      }

  -- the next turtle is as near as one cell more lets it be
  pub hosted_near : Small (8 * (k.count + 1)) t.at × (t.heading < 6)
  unfolding move
  hosted_near = rw hosts.moved (small_more (omega arith) (add_small k.small (rots_small k.turtle.heading hosts.small.step)), k.faces)

-- ---- a turn, and a byte that is passed over
module _ (k n : CellWalk) (t : Turtle) (et : n.turtle ≡ t) (ec : n.corners ≡ k.corners) (el : n.leaves ≡ k.leaves) (en : n.count ≡ k.count) where
  left_onward : t ≡ move left k.turtle → CellsOnward k (left ∷ []) n
  unfolding letter_count footprint cells move final
  left_onward e = record { count = omega (arith, en); corners = rw (en, ec) (sym (append-nil _)); leaves = rw (en, el) (sym (append-nil _)); turtle = et ∙ e }

  right_onward : t ≡ move right k.turtle → CellsOnward k (right ∷ []) n
  unfolding letter_count footprint cells move final
  right_onward e = record { count = omega (arith, en); corners = rw (en, ec) (sym (append-nil _)); leaves = rw (en, el) (sym (append-nil _)); turtle = et ∙ e }

  turn_by : (w : List (Sym Stroke)) → length w ≤ 1 → Stepped.Turned t ≡ step_by w k.turtle → CellsOnward k w n
  turn_by [] h e = absurd (let z : ◌≡◌ {A = ℕ} 0 1 = cc in omega arith)
  turn_by (left ∷ []) h e = left_onward cc
  turn_by (right ∷ []) h e = right_onward cc
  turn_by (letter s ∷ w) h e = absurd (let z : ◌≡◌ {A = ℕ} 0 1 = cc in omega arith)
  turn_by (left ∷ a ∷ w) h e = absurd (omega arith)
  turn_by (right ∷ a ∷ w) h e = absurd (omega arith)

-- a turn goes nowhere
turn_near : (k : CellWalk) (t : Turtle) (w : List (Sym Stroke)) → Stepped.Turned t ≡ step_by w k.turtle → Small (8 * k.count) t.at × (t.heading < 6)
unfolding move
turn_near k t [] e = absurd (let z : ◌≡◌ {A = ℕ} 0 1 = cc in omega arith)
turn_near k t (left ∷ w) e = let f : t ≡ move left k.turtle = cc in rw f (k.small, omega arith)
turn_near k t (right ∷ w) e = let f : t ≡ move right k.turtle = cc in rw f (k.small, omega arith)
turn_near k t (letter s ∷ w) e = absurd (let z : ◌≡◌ {A = ℕ} 0 1 = cc in omega arith)

none_onward : (k : CellWalk) → CellsOnward k [] k
unfolding letter_count footprint cells final
none_onward k = record { count = omega arith; corners = sym (append-nil _); leaves = sym (append-nil _); turtle = refl }

none_by : (k : CellWalk) (w : List (Sym Stroke)) → Stepped.NoDraw ≡ step_by w k.turtle → CellsOnward k w k
none_by k [] e = none_onward k
none_by k (left ∷ w) e = absurd (let z : ◌≡◌ {A = ℕ} 0 1 = cc in omega arith)
none_by k (right ∷ w) e = absurd (let z : ◌≡◌ {A = ℕ} 0 1 = cc in omega arith)
none_by k (letter s ∷ w) e = absurd (let z : ◌≡◌ {A = ℕ} 0 1 = cc in omega arith)

lost_by : (t : Turtle) (w : List (Sym Stroke)) → Stepped.Lost ≡ step_by w t → ⊥
lost_by t [] e = let z : ◌≡◌ {A = ℕ} 0 1 = cc in omega arith
lost_by t (left ∷ w) e = let z : ◌≡◌ {A = ℕ} 0 1 = cc in omega arith
lost_by t (right ∷ w) e = let z : ◌≡◌ {A = ℕ} 0 1 = cc in omega arith
lost_by t (letter s ∷ w) e = let z : ◌≡◌ {A = ℕ} 0 1 = cc in omega arith

-- ---- the cases of a byte
module _ (k : CellWalk) (b : ℕ) (few : k.count + letter_count (symbol_of b) ≤ 4) {s : Stepped} (step : s ≡ step_of b k.turtle) where
  pub byte_drew : {c : DrawnCell} {n : Turtle} → s ≡ Stepped.Drew c n → {h : Result Corners Unhosted} → h ≡ corners_of b k.turtle → {m : CellWalk} → ((cs : Corners) → h ≡ Ok cs → CellAdded k cs c n m) → CellsOnward k (symbol_of b) m
  byte_drew e f added =
      let hosts = drew_hosts k b few step e f in
      rw (struck k b few step e).symbol (hosted_onward k (drew_room k b few step e) hosts added)

  module _ {t : Turtle} (turned : s ≡ Stepped.Turned t) where
    pub byte_near : Small (8 * k.count) t.at × (t.heading < 6)
    byte_near = turn_near k t (symbol_of b) (sym turned ∙ stepped k b few step)

    pub byte_turned : {n : CellWalk} → n.turtle ≡ t → n.corners ≡ k.corners → n.leaves ≡ k.leaves → n.count ≡ k.count → CellsOnward k (symbol_of b) n
    byte_turned {n} et ec el en = turn_by k n t et ec el en (symbol_of b) (one_symbol b) (sym turned ∙ stepped k b few step)

  pub byte_passed : (s ≡ Stepped.NoDraw) ⊎ (s ≡ Stepped.Lost) → CellsOnward k (symbol_of b) k
  byte_passed = elim [
    | inl e ↦ none_by k (symbol_of b) (sym e ∙ stepped k b few step)
    | inr e ↦ absurd (lost_by k.turtle (symbol_of b) (sym e ∙ stepped k b few step))
  ]

-- ---- along a word
footprint_append : (u v : List (Sym Stroke)) (t : Turtle) → footprint (u ++ v) t ≡ footprint u t ++ footprint v (final u t)
unfolding footprint final
footprint_append [] v t = refl
footprint_append (left ∷ u) v t = footprint_append u v (move left t)
footprint_append (right ∷ u) v t = footprint_append u v (move right t)
footprint_append (letter s ∷ u) v t = ap (λ l. corner t s.p ∷ corner t s.q ∷ corner t s.r ∷ l) (footprint_append u v (move (letter s) t))

-- from t on along u
pub record Walked (u : List (Sym Stroke)) (t : Turtle) (k : CellWalk) : Type 0 where
  pub count : k.count ≡ letter_count u
  pub corners : corners_in k ≡ footprint u t
  pub leaves : leaves_in k ≡ map leaf_of (cells u t)
  pub turtle : k.turtle ≡ final u t

pub walked_start : (w : List ℕ) (t : Turtle) {k : CellWalk} → (k.count ≡ 0) × (k.turtle ≡ t) → Walked (symbols_of (take 0 w)) t k
unfolding symbols_of letter_count footprint cells final
walked_start w t {k} e =
    let none : 3 * k.count ≡ 0 = omega (arith, e.0) in
    record { count = e.0; corners = rw none refl; leaves = rw e.0 refl; turtle = e.1 }

module _ (w : List ℕ) (t : Turtle) {k : CellWalk} {i : ℕ} (so_far : Walked (symbols_of (take i w)) t k) (h : i < length w) where
  abbrev past : List (Sym Stroke)
  past = symbols_of (take i w)

  abbrev here : List (Sym Stroke)
  here = symbol_of (get_or w i 0)

  next_is : symbols_of (take (suc i) w) ≡ past ++ here
  unfolding symbols_of
  next_is = rw (take-suc w i 0 h, symbols_append) (ap (λ l. past ++ l) (append-nil here))

  rest_is : symbols_of w ≡ symbols_of (take (suc i) w) ++ symbols_of (drop (suc i) w)
  rest_is = ap symbols_of (sym (take-append-drop (suc i) w)) ∙ symbols_append (take (suc i) w) (drop (suc i) w)

  pub walked_room : letter_count (symbols_of w) ≡ 4 → k.count + letter_count here ≤ 4
  walked_room f = omega (arith, so_far.count, f, ap letter_count rest_is, letters_append (symbols_of (take (suc i) w)) (symbols_of (drop (suc i) w)), ap letter_count next_is, letters_append past here)

  cells_more : {A : Type 0} (f : DrawnCell → A) → map f (cells (past ++ here) t) ≡ map f (cells past t) ++ map f (cells here (final past t))
  cells_more f = rw cells_append (map-append f (cells past t) (cells here (final past t)))

  pub walked_next : {n : CellWalk} → CellsOnward k here n → Walked (symbols_of (take (i + 1) w)) t n
  walked_next {n} o =
      let all : past ++ here ≡ symbols_of (take (i + 1) w) = rw add-one (sym next_is) in
      subst (λ u. Walked u t n) all
      record {
        count = o.count ∙ rw so_far.count (sym (letters_append past here));
        corners = o.corners ∙ rw (so_far.corners, so_far.turtle) (sym (footprint_append past here t));
        leaves = o.leaves ∙ rw (so_far.leaves, so_far.turtle) (sym (cells_more leaf_of));
        turtle = o.turtle ∙ rw so_far.turtle (sym (final_append past here t));
      }

module _ (w : List ℕ) (t : Turtle) {k : CellWalk} {i : ℕ} (so_far : Walked (symbols_of (take i w)) t k) (four : letter_count (symbols_of w) ≡ 4) (h : length w ≤ i) where
  all : take i w ≡ w
  all = take_all i w h

  pub walked_four : k.count ≡ 4
  walked_four = so_far.count ∙ rw all four

  pub walked_end : {d : Drawn} → (d.corners ≡ k.corners) × ((d.leaves ≡ k.leaves) × (point_of d.end ≡ k.turtle.at)) → IsDrawn (symbols_of w) t d
  walked_end {d} e =
      let c : k.count ≡ 4 = walked_four in
      let near : Small 32 k.turtle.at = small_more (omega arith) k.small in
      record {
        corners = rw e.0 (ap (map point_of) (sym (take_all (3 * k.count) k.corners (omega (arith, k.corners_room)))) ∙ so_far.corners ∙ rw all refl);
        leaves = rw e.1.0 (ap (map leaf_in) (sym (take_all k.count k.leaves (omega (arith, k.leaves_room)))) ∙ so_far.leaves ∙ rw all refl);
        end = e.1.1 ∙ ap (λ t. t.at) so_far.turtle ∙ rw all refl;
        near = subst (Small 32) (sym e.1.1) near;
      }

-- ---- a token's strokes
pub four_strokes : {text : List ℕ} {s : Source} (r : Ready text s) (m : ℕ) → m < s.count → letter_count (strokes (lines_of text) 1 (letter_of (lines_of text) m)) ≡ 4
unfolding drawing
four_strokes {text} r m h =
    sym (length_cells (strokes (lines_of text) 1 (letter_of (lines_of text) m)) start)
    ∙ drawing_length (lines_of text) (accepted text fine r.fair) (linked text fine r.fair) 1 m (rw (sym (length_letters r)) h)

module _ {text : List ℕ} {s : Source} (r : Ready text s) (m : ℕ) (h : m < s.count) (n : ℕ) (last : List ℕ)
    (e : symbols_of (take n last) ≡ strokes (lines_by text s.lines) 1 (get_or s.bytes m 0)) where
  strokes_of : symbols_of (take n last) ≡ strokes (lines_of text) 1 (letter_of (lines_of text) m)
  strokes_of = e ∙ rw (r.lines, letter_is r m h) refl

  pub strokes_four : letter_count (symbols_of (take n last)) ≡ 4
  strokes_four = ap letter_count strokes_of ∙ four_strokes r m h

  pub strokes_drawn : {t : Turtle} {d : Drawn} → IsDrawn (symbols_of (take n last)) t d → IsDrawn (strokes (lines_of text) 1 (letter_of (lines_of text) m)) t d
  strokes_drawn {t} {d} i = subst (λ w. IsDrawn w t d) strokes_of i
