-- Child steps: a frame's children by its place, the cell of a corner sum, and the step's refusals in their order.
use Rattle.std.specs.Prelude.{Result, Ok, Err, Option, Some, None}
use Rattle.std.proofs.Common.{◌≡◌, ℕ, zero, suc, ◌+◌, ◌*◌, ◌/◌, ◌%◌, ◌^◌, ◌<◌, ◌≤◌, Bool, true, false, cond, not, ◌&&◌, eqb, leb, ℤ, pos, ◌+ℤ◌, ◌-ℤ◌, ◌*ℤ◌, nat_abs, sym, refl, ap, ◌∙◌, arith, w8, w32, w64, Fits, SFits, le-ltb, lt-ltb, eq-eqb, ne_eqb, le-leb}
use borrow.Author.Tests.{not-true, not-false}
use mir.ValLaws.{to_z-of_z}
use Rattle.whole.proofs.View.{rd, v_within, fits}
use Rattle.triple.specs.declared.Triple.{Triple}
use Rattle.triple.specs.declared.orientation.Recipe.{Recipe}
use Rattle.triple.specs.declared.refusal.Refusal.{Refusal}
use Rattle.triple.specs.declared.refusal.Refusal.TheVariants as Is
use Rattle.triple.specs.Refusals.{Told, told, refused, number_of, refuse, said}
use Rattle.triple.specs.Orientations.{axiom_motif, axiom_of, recipe_of, place_from, curve_place, moved_by, shifted}
use Rattle.triple.specs.Triples.{is_in_bounds}
use Rattle.triple.proofs.OrientationLaws.{place_below}
use Rattle.turtle.specs.Plane.{ab, origin, ◌⊕◌, thrice, flipped}
use Rattle.turtle.specs.Corners.{triple_of}
use Rattle.turtle.specs.Inside.Sizes.{Within}
use Rattle.turtle.proofs.CornerLaws.{triple, triple_is}
use Rattle.grammar.specs.Curves.{place_in, token_of}
use Rattle.tables.specs.Children.{child}
use Rattle.tables.specs.Table.{state_of, flavor_number, leaf_of as drawnLeaf}
use Rattle.tables.specs.Descent.{child_at, offset_at}
use Rattle.tables.proofs.HornerLaws.{twice_place}
use Rattle.lsystem.specs.declared.cell.Cell.{Cell}
use Rattle.lsystem.specs.Cells.{flavor_in, named}
use Rattle.lsystem.proofs.CellLaws.{Spread, in_bounds_spread}
use Rattle.a5.specs.A5.{a5}
use Rattle.a5.specs.A5Table.{a5_table}
use Rattle.a5.proofs.A5Entries.{bytes, tokens_are, child_state, child_offset, leaf_sum, leaf_flavor_lem}
use Rattle.nodes.specs.declared.Frame.{Frame}
use Rattle.nodes.specs.declared.Node.{Node}
use Rattle.nodes.specs.declared.ChildStep.{ChildStep}
use Rattle.nodes.specs.declared.Wide.{Wide}
use Rattle.nodes.specs.declared.descent.Place.{Place}
use Rattle.nodes.specs.declared.descent.Drawn.{Drawn}
use Rattle.nodes.specs.Nodes.{good_frame, can_step, is_flipped, frame_start, frame, axiom_frame, axiom_node, child_cell, below, node_below, bounded, cell_below_of, step_to, child_step_of}
use Rattle.nodes.specs.NodeAnswers.{axiom_node_of, said_bounded}
use Rattle.nodes.specs.Inside.Descents.{step_at, down, leaf_from, place_of_frame, frame_of_place, named_by, Room, Exact}
use Rattle.nodes.proofs.DescentLaws.{leaf_of, leaf_sum_of, leaf_flavor_of, down_exact}
use Rattle.nodes.proofs.NodeLaws.{good_of, steps_of, place_room}

-- ---- the axiom's node
-- its motif is the token of its letter
pub axiom_token : (o : ℕ) → axiom_motif o ≡ token_of a5 (axiom_of o)
unfolding axiom_motif axiom_of token_of
axiom_token o = rw tokens_are (go (leb o 1) (leb o 3))
  where
    go : (a b : Bool) → cond a 0 (cond b 2 1) ≡ place_in bytes (65 + cond a 0 (cond b 2 1))
    go true b = refl
    go false true = refl
    go false false = refl

module _ (o : ℕ) where
  pub axiom_refused : 5 < o → refused (number_of Is.Orientation) ≡ axiom_node_of o
  unfolding axiom_node_of
  axiom_refused h = rw (lt-ltb 5 o h)

  pub axiom_told : o ≤ 5 → {w : Recipe} → w ≡ recipe_of o → {f : Frame} → f ≡ frame w.motif (eqb 0 1) (ab (pos 0) (pos 0)) → {n : Node} → n ≡ record { orientation = o; resolution = 0; frame = f } → told n ≡ axiom_node_of o
  unfolding axiom_node_of axiom_node axiom_frame origin recipe_of
  axiom_told h ew ef en = rw (le-ltb 5 o h, en, ef, ew, axiom_token o)

pub ruleset axioms = (axiom_refused, axiom_told)

-- ---- the children of a good frame, by its place
state_token : (m : ℕ) (f : Bool) → state_of m f / 2 ≡ m
unfolding state_of
state_token m false = omega arith
state_token m true = omega arith

state_flip : (m : ℕ) (f : Bool) → eqb (state_of m f % 2) 1 ≡ f
unfolding state_of
state_flip m false = ne_eqb ((2 * m + 0) % 2) 1 (omega arith)
state_flip m true = eq-eqb ((2 * m + 1) % 2) 1 (omega arith)

flavor_is : (g : Option ℕ) (f : ℕ) → pos f ≡ flavor_number g → f ≡ flavor_in g
flavor_is (Some g) f e = cc
flavor_is None f e = cc

module _ (n : Frame) (g : good_frame n ≡ true) (d : ℕ) (l : d < 4) where
  listed : n.motif < 14
  listed = omega (arith, (good_of n g).motif)

  -- the frame below is the place one level down
  pub below_down : frame_of_place (down (place_of_frame n) d) ≡ below n d
  unfolding below down step_at
  below_down =
      let f = is_flipped n in
      let k = state_of n.motif f in
      let c = child a5 n.motif d in
      let state : nat_abs (child_at a5_table k d) ≡ state_of c.token (flipped f c.flip) = ap nat_abs (child_state n.motif f d listed l) in
      let start = twice_place (frame_start n) (offset_at a5_table k d) ∙ ap (λ o. frame_start n ⊕ frame_start n ⊕ o) (child_offset n.motif f d listed l) in
      ap (λ j. frame (j / 2) (eqb (j % 2) 1) (ab (pos 2 *ℤ (frame_start n).a +ℤ (offset_at a5_table k d).a) (pos 2 *ℤ (frame_start n).b +ℤ (offset_at a5_table k d).b))) state
      ∙ rw (state_token, state_flip) (ap (frame c.token (flipped f c.flip)) start)

  -- the leaf where the frame is, as the table has it
  pub leaf_cell : drawnLeaf (child_cell n d) ≡ leaf_of (place_of_frame n) d
  unfolding child_cell leaf_of
  leaf_cell =
      let sum = leaf_sum n.motif (is_flipped n) d listed l in
      let flavor = leaf_flavor_lem n.motif (is_flipped n) d listed l in
      λ i. record { sum = thrice (frame_start n) ⊕ sym sum i; flavor = sym flavor i }

  -- and as the code has it
  module _ {p : Place} (ep : p ≡ place_of_frame n) {c : Drawn} (ec : c ≡ leaf_from p d) where
    drawn_sum : c.sum ≡ (child_cell n d).sum
    drawn_sum =
        let r = place_room n g ep in
        ap (λ (c : Drawn). c.sum) ec ∙ leaf_sum_of p d r.state l ∙ ap (λ p. (leaf_of p d).sum) ep ∙ sym (ap (λ l. l.sum) leaf_cell)

    drawn_flavor : c.flavor ≡ flavor_in (child_cell n d).flavor
    drawn_flavor =
        let r = place_room n g ep in
        flavor_is (child_cell n d).flavor c.flavor
        (ap (λ (c : Drawn). pos c.flavor) ec ∙ leaf_flavor_of p d r.state l ∙ ap (λ p. (leaf_of p d).flavor) ep ∙ sym (ap (λ l. l.flavor) leaf_cell))

-- ---- a triple, moved or not
module _ (moves : Bool) (r : ℕ) (t : Triple) {x y z : ℤ} where
  pub moved_side : moves ≡ true → x ≡ t.x -ℤ pos (2 ^ r) → y ≡ t.y +ℤ pos (2 ^ r) → z ≡ t.z → triple x y z ≡ moved_by moves r t
  unfolding moved_by
  moved_side e ex ey ez = triple_is ex ey ez ∙ rw e

  pub moved_none : moves ≡ false → x ≡ t.x → y ≡ t.y → z ≡ t.z → triple x y z ≡ moved_by moves r t
  unfolding moved_by
  moved_none e ex ey ez = triple_is ex ey ez ∙ rw e

-- ---- the cell of a corner sum, case by case
abbrev wide : Wide → Triple
wide w = triple w.x w.y w.z

spread_at : (r : ℕ) (t : Triple) → 0 < r → r ≤ 30 → is_in_bounds r t ≡ true → Spread 1073741824 t
spread_at zero t z h b = let none : ⊥ = omega arith in absurd none
spread_at (suc n) t z h b = in_bounds_spread n (omega arith) t b

narrow : (v : ℤ) → Within 1073741824 v → SFits w32 v
narrow v w = fits (v_within 1073741824 1073741824 w.low w.high) tt

module _ (moves : Bool) (r : ℕ) (c : Drawn) (a : Result Triple Refusal) (ea : said a ≡ triple_of c.sum) where
  pub cell_far : {e : Refusal} → a ≡ Err e → refused (number_of Is.Bounds) ≡ bounded r (named_by moves r c)
  unfolding named_by
  cell_far m = rw (← (ap said (sym m) ∙ ea))

  module _ (z : 0 < r) (h : r ≤ 30) {t : Triple} (m : a ≡ Ok t) (w : Wide) (ew : wide w ≡ moved_by moves r t)
      (fx : SFits w64 w.x) (fy : SFits w64 w.y) (fz : SFits w64 w.z)
      (b : Bool) (eb : b ≡ (leb r 30 && is_in_bounds r (triple (rd w64 w.x) (rd w64 w.y) (rd w64 w.z)))) where
    read_is : triple (rd w64 w.x) (rd w64 w.y) (rd w64 w.z) ≡ wide w
    read_is = triple_is (to_z-of_z w64 w.x fx) (to_z-of_z w64 w.y fy) (to_z-of_z w64 w.z fz)

    bounds_are : b ≡ is_in_bounds r (wide w)
    bounds_are = eb ∙ rw (le-leb r 30 h, read_is)

    cell_is : (u : Bool) → is_in_bounds r (wide w) ≡ u → refuse (not u) Is.Bounds (told (record { triple = wide w; flavor = c.flavor })) ≡ bounded r (named_by moves r c)
    unfolding named_by
    cell_is u eu = rw (← (ap said (sym m) ∙ ea), ← ew, eu)

    pub cell_out : not b ≡ true → refused (number_of Is.Bounds) ≡ bounded r (named_by moves r c)
    cell_out n = cell_is false (sym bounds_are ∙ not-true b n)

    module _ (n : not b ≡ false) where
      inside : is_in_bounds r (wide w) ≡ true
      inside = sym bounds_are ∙ not-false b n

      spread : Spread 1073741824 (wide w)
      spread = spread_at r (wide w) z h inside

      pub cell_fits_x : SFits w32 (rd w64 w.x)
      cell_fits_x = rw (to_z-of_z w64 w.x fx) (narrow w.x spread.x)

      pub cell_fits_y : SFits w32 (rd w64 w.y)
      cell_fits_y = rw (to_z-of_z w64 w.y fy) (narrow w.y spread.y)

      pub cell_fits_z : SFits w32 (rd w64 w.z)
      cell_fits_z = rw (to_z-of_z w64 w.z fz) (narrow w.z spread.z)

      pub cell_in : (u : Triple) → u ≡ triple (rd w32 (rd w64 w.x)) (rd w32 (rd w64 w.y)) (rd w32 (rd w64 w.z)) → told (record { triple = u; flavor = c.flavor }) ≡ bounded r (named_by moves r c)
      cell_in u eu =
          let back : u ≡ wide w = eu ∙ triple_is (to_z-of_z w32 _ cell_fits_x) (to_z-of_z w32 _ cell_fits_y) (to_z-of_z w32 _ cell_fits_z) ∙ read_is in
          rw back (cell_is true inside)

pub ruleset drawn_cells = (cell_far, cell_out, cell_fits_x, cell_fits_y, cell_fits_z, cell_in)

-- ---- the step to the child at the place d
pub below_exact : {p : Place} {d : ℕ} → Room (2 ^ 37) 0 p → d < 4 → {q : Place} → q ≡ down p d → Exact q
below_exact {p} {d} r l e = rw e (down_exact p d r l)

module _ (n : Node) (d : ℕ) (g : can_step n ≡ true) (l : d < 4) where
  good : good_frame n.frame ≡ true
  good = (steps_of n g).good

  pub next_fits : Fits w8 (n.resolution + 1)
  next_fits = record { fits = omega (arith, (steps_of n g).resolution) }

  pub next_most : n.resolution + 1 ≤ 30
  next_most = omega (arith, (steps_of n g).resolution)

  pub frame_good : {f : Frame} → f ≡ n.frame → good_frame f ≡ true
  frame_good e = rw e good

  module _ {p : Place} (ep : p ≡ place_of_frame n.frame) where
    pub cell_below : {w : Recipe} → w ≡ recipe_of n.orientation → {c : Drawn} → c ≡ leaf_from p d → {x : Told Cell} → x ≡ bounded (n.resolution + 1) (named_by w.shifted (n.resolution + 1) c) → x ≡ cell_below_of n d
    unfolding cell_below_of named named_by shifted recipe_of
    cell_below ew ec e = e ∙ rw (drawn_sum n.frame good d l ep ec, drawn_flavor n.frame good d l ep ec, ew)

    pub node_below_lem : {q : Place} → q ≡ down p d → {b : Frame} → b ≡ frame_of_place q → {t : Node} → t ≡ record { orientation = n.orientation; resolution = n.resolution + 1; frame = b } → t ≡ node_below n d
    node_below_lem eq eb et = et ∙ rw (eb ∙ ap frame_of_place (eq ∙ ap (λ p. down p d) ep) ∙ below_down n.frame good d l)

pub ruleset below_laws = (place_room, below_exact, next_fits, next_most, frame_good, cell_below, node_below_lem)

-- ---- the step by the digit d, case by case
pub place_of_four : (w : Recipe) (d : ℕ) {j : ℕ} → d ≤ 3 → j ≡ place_from w.backward 4 d → j < 4
place_of_four w d h e = rw e (place_below w.backward 4 d (omega arith))

module _ (n : Node) (d : ℕ) {g : Bool} (eg : g ≡ can_step n) where
  pub child_bad : not g ≡ true → refused (number_of Is.Node) ≡ child_step_of n d
  unfolding child_step_of
  child_bad b = rw (← eg, not-true g b)

  module _ (b : not g ≡ false) where
    pub can_told : can_step n ≡ true
    can_told = sym eg ∙ not-false g b

    pub child_no_digit : 3 < d → refused (number_of Is.Digit) ≡ child_step_of n d
    unfolding child_step_of
    child_no_digit l = rw (can_told, lt-ltb 3 d l)

    -- at the place of the digit
    module _ (l : d ≤ 3) {w : Recipe} (ew : w ≡ recipe_of n.orientation) {j : ℕ} (ej : j ≡ place_from w.backward 4 d) where
      place_is : j ≡ curve_place n.orientation 1 d
      unfolding curve_place recipe_of
      place_is = ej ∙ ap (λ (w : Recipe). place_from w.backward 4 d) ew

      answered : {x : Told ChildStep} → x ≡ step_to n j → x ≡ child_step_of n d
      unfolding child_step_of
      answered e = rw (can_told, le-ltb 3 d l) (e ∙ ap (step_to n) place_is)

      module _ {f : Option Cell} (ef : said_bounded f ≡ cell_below_of n j) where
        pub child_out : f ≡ None → refused (number_of Is.Bounds) ≡ child_step_of n d
        unfolding step_to
        child_out k = answered (rw (← (ap said_bounded (sym k) ∙ ef)))

        pub child_told : {v : Cell} → f ≡ Some v → {t : Node} → t ≡ node_below n j → told (record { cell = v; node = t }) ≡ child_step_of n d
        unfolding step_to
        child_told k et = answered (rw (← (ap said_bounded (sym k) ∙ ef), et))

pub ruleset steps = (place_of_four, child_bad, can_told, child_no_digit, child_out, child_told)
