-- THE WALK: from the node of the orientation's own axiom, r steps by the digits of s, highest first, reach exactly the cell
-- that s names. A frame is a place of the table's descent, and a step goes one level down; what the descent reaches is drawn (`CellLaws`).
use Rattle.std.specs.Prelude.{Option, Some, None}
use Rattle.std.proofs.Common.{◌≡◌, ℕ, zero, suc, ◌+◌, ◌-◌, ◌*◌, ◌/◌, ◌%◌, ◌^◌, ◌<◌, ◌≤◌, Bool, true, false, cond, T, eqb, leb, List, [], ◌∷◌, ℤ, pos, negsuc, ◌+ℤ◌, ◌*ℤ◌, nat_abs, sym, refl, ap, ◌∙◌, arith, lit≤, le-ltb, lt-ltb, eq-eqb, ne_eqb, le-leb}
use native.Mathlib.Nat as N
use borrow.Author.Tests.{lt-leb}
use Rattle.whole.proofs.Claims.{Claim, eq, below as belowAll, all, each}
use Rattle.whole.proofs.Parts.{up, dn, add_parts, mul_up, mul_dn}
use Rattle.whole.proofs.Floats.{int_back}
use Rattle.triple.specs.Refusals.{told, ◌>>=◌}
use Rattle.triple.specs.Orientations.{axiom_motif, is_backward, place_from, curve_place}
use Rattle.turtle.specs.declared.walk.DrawnCell.{DrawnCell}
use Rattle.turtle.specs.Plane.{origin}
use Rattle.tables.specs.Table.{bit, state_of, flavor_number, leaf_of as drawnLeaf}
use Rattle.tables.specs.Descent.{entry, offset_at, follow}
use Rattle.lsystem.specs.declared.cell.Cell.{Cell}
use Rattle.lsystem.specs.Cells.{drawn_cell, cell_at, cell_of}
use Rattle.lsystem.proofs.CellCode.{axiom_state, axiom_state_small}
use Rattle.lsystem.proofs.CellLaws.{axiom_in, drawn_follow, cell_at_lem}
use Rattle.a5.specs.A5Table.{a5_table}
use Rattle.a5.proofs.Once.{cell_bounds}
use Rattle.nodes.specs.declared.descent.Place.{Place}
use Rattle.nodes.specs.Nodes.{good_frame, good_node, can_step, frame_start, frame, axiom_frame, axiom_node, child_cell, below, bounded, cell_below_of, step_to, child_step_of, frame_at, node_at}
use Rattle.nodes.specs.NodeAnswers.{axiom_node_of}
use Rattle.nodes.specs.NodeWalks.{walked_node, last_step}
use Rattle.nodes.specs.Inside.Descents.{step_at, down, descended, at_origin, place_of_frame, frame_of_place, Room}
use Rattle.nodes.proofs.DescentLaws.{entries, leaf_of, end_room, follow_end}
use Rattle.nodes.proofs.NodePositions.{int_position}
use Rattle.nodes.proofs.ChildLaws.{axiom_token, below_down, leaf_cell}

-- ---- the last digit of a place
module _ (o r s : ℕ) (l : s < 4 ^ suc r) where
  last_digit : (curve_place o (suc r) s / 4 ≡ curve_place o r (s / 4)) × (curve_place o (suc r) s % 4 ≡ curve_place o 1 (s % 4))
  unfolding curve_place place_from
  last_digit = go (is_backward o)
    where
      go : (b : Bool) → (cond b (4 ^ suc r - 1 - s) s / 4 ≡ cond b (4 ^ r - 1 - s / 4) (s / 4)) × (cond b (4 ^ suc r - 1 - s) s % 4 ≡ cond b (4 ^ 1 - 1 - s % 4) (s % 4))
      go true = (omega arith, omega arith)
      go false = (refl, refl)

-- ---- a descent by one digit more
descended_last : (r q : ℕ) (p : Place) → descended (suc r) q p ≡ down (descended r (q / 4) p) (q / 4 % 4)
unfolding descended
descended_last zero q p = refl
descended_last (suc r) q p =
    let e : q / 4 ^ suc (suc r) ≡ q / 4 / 4 ^ suc r = rw (N.div-div-eq-div-mul q 4 (4 ^ suc r), N.pow-succ' 4 (suc r)) in
    descended_last r q (down p (q / 4 ^ suc (suc r) % 4)) ∙ rw e

-- ---- a place's coordinates stay multiples of 4
pub record Fours (p : Place) : Type 0 where
  pub state : p.state < 28
  pub a : nat_abs p.a % 4 ≡ 0
  pub b : nat_abs p.b % 4 ≡ 0

abbrev Offset : ℕ → ℕ → List Claim
Offset k d = eq (nat_abs (offset_at a5_table k d).a % 4) 0 ∷ eq (nat_abs (offset_at a5_table k d).b % 4) 0 ∷ []

offset_all : T (all 28 4 Offset)
unfolding all belowAll entry a5_table
offset_all = tt

parts_four : (x : ℤ) → nat_abs x % 4 ≡ 0 → (up x % 4 ≡ 0) × (dn x % 4 ≡ 0)
unfolding up dn
parts_four (pos n) h = (h, refl)
parts_four (negsuc n) h = (refl, h)

four_parts : (z : ℤ) (m n : ℕ) → up z + n ≡ m + dn z → m % 4 ≡ 0 → n % 4 ≡ 0 → nat_abs z % 4 ≡ 0
unfolding up dn
four_parts (pos k) m n e hm hn = omega arith
four_parts (negsuc k) m n e hm hn = omega arith

twice_four : (x o : ℤ) → nat_abs x % 4 ≡ 0 → nat_abs o % 4 ≡ 0 → nat_abs (pos 2 *ℤ x +ℤ o) % 4 ≡ 0
twice_four x o hx ho =
    let px = parts_four x hx in
    let po = parts_four o ho in
    let ups : up (pos 2 *ℤ x) + up o ≡ 2 * up x + up o = rw (mul_up 2 x) in
    let dns : dn (pos 2 *ℤ x) + dn o ≡ 2 * dn x + dn o = rw (mul_dn 2 x) in
    four_parts (pos 2 *ℤ x +ℤ o) (2 * up x + up o) (2 * dn x + dn o) (omega (arith, add_parts (pos 2 *ℤ x) o)) (omega arith) (omega arith)

fours_down : (p : Place) (d : ℕ) → Fours p → d < 4 → Fours (down p d)
unfolding down step_at
fours_down p d f l =
    let c = each 28 4 Offset offset_all p.state d f.state l in
    record { state = (entries p.state d f.state l).0; a = twice_four p.a _ f.a c.0; b = twice_four p.b _ f.b c.1.0 }

fours_descended : (n q : ℕ) (p : Place) → Fours p → Fours (descended n q p)
unfolding descended
fours_descended zero q p f = f
fours_descended (suc n) q p f = fours_descended n q _ (fours_down p _ f (omega arith))

-- ---- the frame of a place, and the place of a frame
small : (x : ℤ) → (nat_abs x + 16) * 2 ^ 0 ≤ 2 ^ 34 → nat_abs x ≤ 2 ^ 36
small x h = omega arith

module _ (p : Place) (n : Room (2 ^ 34) 0 p) where
  pub place_back : place_of_frame (frame_of_place p) ≡ p
  unfolding frame frame_start state_of
  place_back =
      let a = int_back p.a (N.le_trans (small p.a n.a) (lit≤ tt)) in
      let b = int_back p.b (N.le_trans (small p.b n.b) (lit≤ tt)) in
      λ i. record { a = a i; b = b i; state = state i }
    where
      flip : (k : ℕ) → k < 2 → bit (eqb (bit (eqb k 1)) 1) ≡ k
      flip zero h = refl
      flip (suc zero) h = refl
      flip (suc (suc k)) h = let none : ⊥ = omega arith in absurd none

      state : 2 * (p.state / 2) + bit (eqb (bit (eqb (p.state % 2) 1)) 1) ≡ p.state
      state = omega (arith, flip (p.state % 2) (omega arith))

  pub place_good : Fours p → good_frame (frame_of_place p) ≡ true
  unfolding frame good_frame
  place_good f =
      rw (le-leb (p.state / 2) 13 (omega (arith, n.state)), flip (eqb (p.state % 2) 1), int_position p.a (small p.a n.a), int_position p.b (small p.b n.b), eq-eqb _ 0 f.a, eq-eqb _ 0 f.b)
    where
      flip : (b : Bool) → leb (bit b) 1 ≡ true
      flip true = refl
      flip false = refl

-- the axiom's place
axiom_place : (o : ℕ) → axiom_frame o ≡ frame_of_place (at_origin (2 * axiom_motif o))
unfolding axiom_frame origin
axiom_place o =
    let half : 2 * axiom_motif o / 2 ≡ axiom_motif o = omega arith in
    let even : eqb (2 * axiom_motif o % 2) 1 ≡ false = ne_eqb (2 * axiom_motif o % 2) 1 (omega arith) in
    rw (half, even, axiom_token o)

-- a drawn cell by its leaf
cell_same : (c e : DrawnCell) → drawnLeaf c ≡ drawnLeaf e → c ≡ e
cell_same c e h =
    let sum = ap (λ l. l.sum) h in
    let flavor = same c.flavor e.flavor (ap (λ l. l.flavor) h) in
    λ i. record { sum = sum i; flavor = flavor i }
  where
    same : (f g : Option ℕ) → flavor_number f ≡ flavor_number g → f ≡ g
    same (Some f) (Some g) e = cc
    same (Some f) None e = cc
    same None (Some g) e = cc
    same None None e = refl

-- ---- the frame below the cell that s names is the place that the digits of s descend to; q has one digit more
module _ (o : ℕ) where
  abbrev reached : ℕ → ℕ → Place
  reached r q = descended r q (at_origin (2 * axiom_motif o))

  reached_room : (r q : ℕ) → r ≤ 30 → Room (2 ^ 34) 0 (reached r q)
  reached_room r q k = end_room (2 * axiom_motif o) r q (axiom_state_small o) k

  reached_good : (r q : ℕ) → r ≤ 30 → good_frame (frame_of_place (reached r q)) ≡ true
  reached_good r q k = place_good (reached r q) (reached_room r q k) (fours_descended r q (at_origin (2 * axiom_motif o)) (record { state = axiom_state_small o; a = refl; b = refl }))

  pub frame_is : (r s q : ℕ) → r ≤ 30 → s < 4 ^ r → q / 4 ≡ curve_place o r s → frame_at o r s ≡ frame_of_place (reached r q)
  unfolding frame_at descended
  frame_is zero s q k l e = axiom_place o
  frame_is (suc r) s q k l e =
      let i : r ≤ 30 = omega arith in
      let j : s / 4 < 4 ^ r = omega arith in
      let x = last_digit o r s l in
      let d : q / 4 % 4 ≡ curve_place o 1 (s % 4) = ap (λ q. q % 4) e ∙ x.1 in
      let again : frame_at o r (s / 4) ≡ frame_of_place (reached r (q / 4)) = frame_is r (s / 4) (q / 4) i j (ap (λ q. q / 4) e ∙ x.0) in
      let p = reached r (q / 4) in
      ap (λ n. below n (curve_place o 1 (s % 4))) again
      ∙ ap (below (frame_of_place p)) (sym d)
      ∙ sym (below_down (frame_of_place p) (reached_good r (q / 4) i) (q / 4 % 4) (omega arith))
      ∙ ap (λ p. frame_of_place (down p (q / 4 % 4))) (place_back p (reached_room r (q / 4) i))
      ∙ ap frame_of_place (sym (descended_last r q (at_origin (2 * axiom_motif o))))

  pub frame_good : (r s : ℕ) → r ≤ 30 → s < 4 ^ r → good_frame (frame_at o r s) ≡ true
  frame_good r s k l =
      let e : 4 * curve_place o r s / 4 ≡ curve_place o r s = omega arith in
      rw (frame_is r s (4 * curve_place o r s) k l e) (reached_good r (4 * curve_place o r s) k)

  -- ---- one step
  module _ (h : o ≤ 5) (n s : ℕ) (k : n ≤ 29) (l : s < 4 ^ suc n) where
    abbrev q : ℕ
    q = curve_place o (suc n) s

    room : Room (2 ^ 34) 0 (reached n q)
    room = reached_room n q (omega arith)

    parent_is : frame_at o n (s / 4) ≡ frame_of_place (reached n q)
    parent_is = frame_is n (s / 4) q (omega arith) (omega arith) (last_digit o n s l).0

    pub parent_good : good_frame (frame_at o n (s / 4)) ≡ true
    parent_good = rw parent_is (reached_good n q (omega arith))

    -- the child's cell is the drawn one
    pub child_drawn : child_cell (frame_at o n (s / 4)) (curve_place o 1 (s % 4)) ≡ drawn_cell o (suc n) s
    child_drawn =
        let e = (last_digit o n s l).1 in
        let p = reached n q in
        rw (parent_is, ← e)
        (cell_same _ _
        (leaf_cell (frame_of_place p) (reached_good n q (omega arith)) (q % 4) (omega arith)
        ∙ ap (λ p. leaf_of p (q % 4)) (place_back p room)
        ∙ follow_end (2 * axiom_motif o) n q
        ∙ ap (λ j. follow a5_table n origin j q) (sym (axiom_state o h))
        ∙ drawn_follow o n s h l))

    in_place : bounded (suc n) (cell_at o (suc n) s) ≡ cell_at o (suc n) s
    in_place = rw (cell_at_lem o n s h k l, cell_bounds (axiom_in o) n (curve_place o (suc n) s))

    pub parent_steps : can_step (node_at o n (s / 4)) ≡ true
    unfolding can_step good_node node_at
    parent_steps = rw (le-leb o 5 h, le-leb n 30 (omega arith), parent_good, lt-ltb n 30 (omega arith))

    pub step_is : child_step_of (node_at o n (s / 4)) (s % 4) ≡ (cell_at o (suc n) s >>= λ c. told (record { cell = c; node = node_at o (suc n) s }))
    unfolding child_step_of step_to cell_below_of node_at frame_at cell_at
    step_is =
        let next : n + 1 ≡ suc n = omega arith in
        rw (parent_steps, le-ltb 3 (s % 4) (omega arith), next, child_drawn)
        (ap (λ x. x >>= λ c. told (record { cell = c; node = node_at o (suc n) s })) in_place)

    stepped : (c : Cell) → cell_at o (suc n) s ≡ told c → child_step_of (node_at o n (s / 4)) (s % 4) ≡ told (record { cell = c; node = node_at o (suc n) s })
    stepped c e = step_is ∙ rw e

    named_at : cell_of o (suc n) s ≡ cell_at o (suc n) s
    unfolding cell_of
    named_at = rw (le-ltb 30 (suc n) (omega arith), le-ltb 5 o h, lt-leb (4 ^ suc n) s l)

-- ---- the walk
module _ (o : ℕ) (h : o ≤ 5) where
  pub node_good : (r s : ℕ) → r ≤ 30 → s < 4 ^ r → good_node (node_at o r s) ≡ true
  unfolding good_node node_at
  node_good r s k l = rw (le-leb o 5 h, le-leb r 30 k, frame_good o r s k l)

  pub walk_nodes : (r s : ℕ) → r ≤ 30 → s < 4 ^ r → walked_node o r s ≡ told (node_at o r s)
  unfolding walked_node axiom_node_of axiom_node node_at frame_at
  walk_nodes zero s k l = rw (le-ltb 5 o h)
  walk_nodes (suc r) s k l =
      let i : r ≤ 29 = omega arith in
      rw (walk_nodes r (s / 4) (omega arith) (omega arith), stepped o h r s i l _ (cell_at_lem o r s h i l))

  -- THE WALK: the last of suc n steps answers the cell that s names, and the node below it
  pub walk_cell : (n s : ℕ) → n ≤ 29 → s < 4 ^ suc n → last_step o (suc n) s ≡ (cell_of o (suc n) s >>= λ c. told (record { cell = c; node = node_at o (suc n) s }))
  unfolding last_step
  walk_cell n s k l =
      let e : suc n - 1 ≡ n = omega arith in
      rw (e, walk_nodes n (s / 4) (omega arith) (omega arith), named_at o h n s k l) (step_is o h n s k l)
