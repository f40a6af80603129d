-- A text cut into rows and a row into fields, in the form of what the code has in hand: the place of the next LF or space.
use mathlib.Core.Path.{◌≡◌, refl, sym, ap, ◌∙◌, subst}
use mathlib.Core.Bool.{Bool, true, false, cond, ◌&&◌}
use mathlib.Core.List.{List, [], ◌∷◌, head-eq_of_cons-eq, tail-eq_of_cons-eq}
use Prim.Native.Nat.{ℕ, suc, ◌+◌, ◌-◌, ◌≤◌, ◌<◌}
use native.Mathlib.Numerals.{add-one}
use native.Mathlib.Omega.{arith}
use native.Mathlib.Decide.{dec_lt}
use lib.Dec.{leb, eqb, leb→le}
use lib.ListN.{length, get_or, take, drop, length-drop}
use lib.Seq.{length-take-le, drop-drop, get_or-take, take-take}
use borrow.Author.Tests.{eq-eqb, ne_eqb}
use Rattle.std.specs.Prelude.{Some, None}
use Rattle.std.proofs.Common.{Option}
use Rattle.std.specs.Option.{MatchOption, unwrap_or}
use Rattle.std.specs.List.{AllWithin, HoldsAt}
use Rattle.std.proofs.lemmas.Iterator.{index_from_first}
use Rattle.whole.proofs.Bools.{both_left, both_right, is_true, from_true}
use Rattle.text.specs.Words.{grown, words_of as fields_of, until}
use Rattle.grammar.specs.Texts.{Row, rows_of, prefixed, shaped, line_of}
use Rattle.whole.proofs.Slices.{drop_take}
use Rattle.grammar.specs.Inside.RowCuts.{ended, Cut, Misshapen, Three, WholeRow, FirstRow}

span : (n most : ℕ) → (leb 1 n && leb n most) ≡ true → (1 ≤ n) × (n ≤ most)
span n most e = let t = from_true e in (leb→le 1 n (both_left (leb 1 n) (leb n most) t), leb→le n most (both_right (leb 1 n) (leb n most) t))

-- ---- the place of the first b
module _ (b : ℕ) where
  pub until_most : (s : List ℕ) → until b s ≤ length s
  unfolding until
  until_most [] = omega arith
  until_most (c ∷ s) = go (eqb c b) (until_most s)
    where
      go : (u : Bool) → until b s ≤ length s → cond u 0 (suc (until b s)) ≤ suc (length s)
      go true h = omega arith
      go false h = omega arith

  -- by the first b, as a search finds it
  pub until_first : (s : List ℕ) (r : Option ℕ) → MatchOption r (AllWithin (λ x. x ≡ b → ⊥) s 0 (length s)) (λ i. (i < length s) × HoldsAt (λ x. x ≡ b) s i × AllWithin (λ x. x ≡ b → ⊥) s 0 i)
      → until b s ≡ unwrap_or r (length s)
  unfolding until
  until_first = index_from_first (until b) (λ x. x ≡ b) (λ x. x ≡ b → ⊥) refl (λ x s e. rw (eq-eqb x b e) refl) (λ x s e. rw (ne_eqb x b e) (sym (add-one _)))

-- ---- rows
pub rows_ended : (t : List ℕ) → until 10 t < length t → rows_of t ≡ ended (take (until 10 t) t) ∷ rows_of (drop (suc (until 10 t)) t)
unfolding until rows_of
rows_ended [] h = absurd (omega arith)
rows_ended (b ∷ t) h = go (eqb b 10) h (rows_ended t)
  where
    go : (u : Bool) → cond u 0 (suc (until 10 t)) < suc (length t) → (until 10 t < length t → rows_of t ≡ ended (take (until 10 t) t) ∷ rows_of (drop (suc (until 10 t)) t))
        → cond u (ended [] ∷ rows_of t) (prefixed b (rows_of t)) ≡ ended (take (cond u 0 (suc (until 10 t))) (b ∷ t)) ∷ rows_of (drop (suc (cond u 0 (suc (until 10 t)))) (b ∷ t))
    go true h rest = refl
    go false h rest = ap (prefixed b) (rest (omega arith))

abbrev unended : List ℕ → Row
unended w = record { bytes = w; ended = false }

rows_unended : (b : ℕ) (t : List ℕ) → until 10 (b ∷ t) ≡ suc (length t) → rows_of (b ∷ t) ≡ unended (b ∷ t) ∷ []
unfolding until rows_of
rows_unended b [] h = go (eqb b 10) h
  where
    go : (u : Bool) → ◌≡◌ {A = ℕ} (cond u 0 1) 1 → cond u (ended [] ∷ []) (unended (b ∷ []) ∷ []) ≡ unended (b ∷ []) ∷ []
    go true h = absurd (omega arith)
    go false h = refl
rows_unended b (c ∷ t) h = go (eqb b 10) h (rows_unended c t)
  where
    go : (u : Bool) → cond u 0 (suc (until 10 (c ∷ t))) ≡ suc (suc (length t)) → (until 10 (c ∷ t) ≡ suc (length t) → rows_of (c ∷ t) ≡ unended (c ∷ t) ∷ [])
        → cond u (ended [] ∷ rows_of (c ∷ t)) (prefixed b (rows_of (c ∷ t))) ≡ unended (b ∷ c ∷ t) ∷ []
    go true h rest = absurd (omega arith)
    go false h rest = ap (prefixed b) (rest (omega arith))

-- ---- fields
fields_cut : (w : List ℕ) → until 32 w < length w → fields_of w ≡ take (until 32 w) w ∷ fields_of (drop (suc (until 32 w)) w)
unfolding until fields_of
fields_cut [] h = absurd (omega arith)
fields_cut (b ∷ w) h = go (eqb b 32) h (fields_cut w)
  where
    go : (u : Bool) → cond u 0 (suc (until 32 w)) < suc (length w) → (until 32 w < length w → fields_of w ≡ take (until 32 w) w ∷ fields_of (drop (suc (until 32 w)) w))
        → cond u ([] ∷ fields_of w) (grown b (fields_of w)) ≡ take (cond u 0 (suc (until 32 w))) (b ∷ w) ∷ fields_of (drop (suc (cond u 0 (suc (until 32 w)))) (b ∷ w))
    go true h rest = refl
    go false h rest = ap (grown b) (rest (omega arith))

fields_one : (w : List ℕ) → length w ≤ until 32 w → fields_of w ≡ w ∷ []
unfolding until fields_of
fields_one [] h = refl
fields_one (b ∷ w) h = go (eqb b 32) h (fields_one w)
  where
    go : (u : Bool) → suc (length w) ≤ cond u 0 (suc (until 32 w)) → (length w ≤ until 32 w → fields_of w ≡ w ∷ []) → cond u ([] ∷ fields_of w) (grown b (fields_of w)) ≡ (b ∷ w) ∷ []
    go true h rest = absurd (omega arith)
    go false h rest = ap (grown b) (rest (omega arith))

some_field : (w : List ℕ) → 0 < length (fields_of w)
unfolding fields_of
some_field [] = omega arith
some_field (b ∷ w) = go (eqb b 32) (fields_of w) (some_field w)
  where
    go : (u : Bool) (fs : List (List ℕ)) → 0 < length fs → 0 < length (cond u ([] ∷ fs) (grown b fs))
    go true fs h = omega arith
    go false [] h = absurd (omega arith)
    go false (f ∷ fs) h = omega arith

-- ---- a row's shape, by its first two spaces
module _ (w : List ℕ) {a : ℕ} (ea : a ≡ until 32 w) where
  pub one_field : length w ≤ a → shaped (ended w) ≡ false
  unfolding shaped
  one_field h = rw (fields_one w (omega arith)) refl

  module _ (ha : a < length w) {r : List ℕ} {k : ℕ} (er : r ≡ drop (a + 1) w) (ek : k ≡ until 32 r) where
    first_field : fields_of w ≡ take a w ∷ fields_of r
    first_field = rw (er, add-one, ea) (fields_cut w (omega arith))

    pub two_fields : length r ≤ k → shaped (ended w) ≡ false
    unfolding shaped
    two_fields h = rw (first_field, fields_one r (omega arith)) refl

    module _ (hk : k < length r) {l : List ℕ} {d : ℕ} (el : l ≡ drop (k + 1) r) (ed : d ≡ until 32 l) where
      second_field : fields_of w ≡ take a w ∷ take k r ∷ fields_of l
      second_field = first_field ∙ ap (λ fs. take a w ∷ fs) (rw (el, add-one, ek) (fields_cut r (omega arith)))

      pub four_fields : d < length l → shaped (ended w) ≡ false
      unfolding shaped
      four_fields h =
          let more : (suc (suc (length (fields_of l))) ≡ 3) → ⊥ = λ e. omega (arith, ap length (fields_cut l (omega arith)), some_field (drop (suc (until 32 l)) l)) in
          rw (second_field, ne_eqb (suc (suc (length (fields_of l)))) 3 more) refl

      module _ (hd : length l ≤ d) where
        three_fields : fields_of w ≡ take a w ∷ take k r ∷ l ∷ []
        three_fields = second_field ∙ ap (λ fs. take a w ∷ take k r ∷ fs) (fields_one l (omega arith))

        sizes : shaped (ended w) ≡ ((leb 1 a && leb a 1) && (leb 1 k && leb k 24) && (leb 1 d && leb d 12))
        unfolding shaped
        sizes =
            let d_is : length l ≡ d = omega (arith, until_most 32 l) in
            rw (three_fields, length-take-le a w (omega arith), length-take-le k r (omega arith), d_is) refl

        module _ {u : Bool} (e : u ≡ (leb 1 a && leb a 1)) where
          pub bad_name : u ≡ false → shaped (ended w) ≡ false
          bad_name t = sizes ∙ (rw (sym e ∙ t) refl)

          module _ (t : u ≡ true) {v : Bool} (f : v ≡ (leb 1 k && leb k 24)) where
            pub bad_rule : v ≡ false → shaped (ended w) ≡ false
            bad_rule s = sizes ∙ (rw (sym e ∙ t, sym f ∙ s) refl)

            module _ (s : v ≡ true) {x : Bool} (g : x ≡ (leb 1 d && leb d 12)) where
              pub bad_draw : x ≡ false → shaped (ended w) ≡ false
              bad_draw y = sizes ∙ (rw (sym e ∙ t, sym f ∙ s, sym g ∙ y) refl)

              pub three : x ≡ true → Three w k (length w)
              unfolding line_of
              three y =
                  let ua = span a 1 (sym e ∙ t) in
                  let uk = span k 24 (sym f ∙ s) in
                  let ud = span d 12 (sym g ∙ y) in
                  let d_is : length l ≡ d = omega (arith, until_most 32 l) in
                  let a_is : a ≡ 1 = omega arith in
                  let r_is : r ≡ drop 2 w = er ∙ (rw a_is refl) in
                  let far : 2 + (k + 1) ≡ k + 3 = omega arith in
                  let l_is : l ≡ drop (k + 3) w = el ∙ (rw (r_is, drop-drop, far) refl) in
                  let length_l : length l ≡ length w - (k + 3) = ap length l_is ∙ length-drop (k + 3) w in
                  let named : get_or (take a w) 0 0 ≡ get_or w 0 0 = get_or-take a w 0 0 (omega arith) in
                  record {
                    size = refl;
                    good = sizes ∙ (rw (sym e ∙ t, sym f ∙ s, sym g ∙ y) refl);
                    line = rw three_fields (λ i. record { name = named i; rule = take k (r_is i); draw = l_is i });
                    rule_fits = omega arith;
                    draw_fits = omega arith;
                    long = omega arith;
                  }

-- ---- a row that has the shape, cut at its two spaces
shape_wrong : (w : List ℕ) → shaped (ended w) ≡ true → shaped (ended w) ≡ false → ⊥
shape_wrong w t f = let z : ◌≡◌ {A = ℕ} 0 1 = cc in omega arith

pub record Spaced (w : List ℕ) : Type 0 where
  pub long : ℕ
  pub cut : Three w long (length w)

module _ (w : List ℕ) (good : shaped (ended w) ≡ true) where
  abbrev name_long : ℕ
  name_long = until 32 w

  abbrev behind_name : List ℕ
  behind_name = drop (name_long + 1) w

  abbrev rule_long : ℕ
  rule_long = until 32 behind_name

  abbrev behind_rule : List ℕ
  behind_rule = drop (rule_long + 1) behind_name

  abbrev draw_long : ℕ
  draw_long = until 32 behind_rule

  spaced : name_long < length w → rule_long < length behind_name → length behind_rule ≤ draw_long → Spaced w
  spaced ha hk hd =
      let name = leb 1 name_long && leb name_long 1 in
      let rule = leb 1 rule_long && leb rule_long 24 in
      let draw = leb 1 draw_long && leb draw_long 12 in
      let all = from_true (sym (sizes w refl ha refl refl hk refl refl hd) ∙ good) in
      let front = both_left (name && rule) draw all in
      let name_good : name ≡ true = sym (is_true name (both_left name rule front)) in
      let rule_good : rule ≡ true = sym (is_true rule (both_right name rule front)) in
      let draw_good : draw ≡ true = sym (is_true draw (both_right (name && rule) draw all)) in
      record { long = rule_long; cut = three w refl ha refl refl hk refl refl hd refl name_good refl rule_good refl draw_good }

  pub shaped_three : Spaced w
  shaped_three = elim (dec_lt name_long (length w)) [
    | no h ↦ absurd (shape_wrong w good (one_field w refl (omega arith)))
    | yes ha ↦ elim (dec_lt rule_long (length behind_name)) [
      | no h ↦ absurd (shape_wrong w good (two_fields w refl ha refl refl (omega arith)))
      | yes hk ↦ elim (dec_lt draw_long (length behind_rule)) [
        | yes h ↦ absurd (shape_wrong w good (four_fields w refl ha refl refl hk refl refl h))
        | no hd ↦ spaced ha hk (omega arith)
      ]
    ]
  ]

-- ---- the first row, by the place of its LF
never_ended : (t : List ℕ) → 0 < length t → until 10 t ≡ length t → Misshapen t
unfolding shaped
never_ended [] z e = absurd (omega arith)
never_ended (b ∷ t) z e = record { row = unended (b ∷ t); rest = []; rows = rows_unended b t e; bad = refl }

module _ (t : List ℕ) {n : ℕ} (en : n ≡ until 10 t) where
  pub no_end : 0 < length t → length t ≤ n → Misshapen t
  no_end z h = never_ended t z (omega (arith, until_most 10 t))

  module _ (h : n < length t) {w : List ℕ} (ew : w ≡ take n (drop 0 t)) where
    rows_here : rows_of t ≡ ended w ∷ rows_of (drop (suc n) t)
    rows_here = rw (ew, en) (rows_ended t (omega arith))

    pub other_row : shaped (ended w) ≡ false → Misshapen t
    other_row e = record { row = ended w; rest = rows_of (drop (suc n) t); rows = rows_here; bad = e }

    pub first_line : {k m : ℕ} → Three w k m → Cut t k m
    first_line {k} {m} p =
        let long = p.long in
        let m_is : m ≡ n = p.size ∙ ap length ew ∙ length-take-le n t (omega arith) in
        let draw_is : drop (k + 3) w ≡ take (n - (k + 3)) (drop (k + 3) t) = rw ew (drop_take n (k + 3) t) in
        let rule_is : take k (drop 2 w) ≡ take k (drop 2 t) = rw (ew, drop_take n 2 t) (take-take k (n - 2) (drop 2 t) (omega arith)) in
        let named : get_or w 0 0 ≡ get_or t 0 0 = rw ew (get_or-take n t 0 0 (omega arith)) in
        rw m_is
        record {
          rows = rw (← ew) rows_here;
          good = rw (← ew) p.good;
          line = rw (← ew) (p.line ∙ λ i. record { name = named i; rule = rule_is i; draw = draw_is i });
          rule_fits = p.rule_fits;
          draw_fits = omega (arith, p.draw_fits);
          long = omega arith;
          inside = h;
        }

    pub first_shape : (s : Option (ℕ × ℕ)) → WholeRow w s → FirstRow t s
    first_shape (Some (k, m)) p = first_line p
    first_shape None p = other_row p

-- ---- a text whose first row has the shape
pub record FirstLine (t : List ℕ) (r : Row) (rest : List Row) : Type 0 where
  pub long : ℕ
  pub wide : ℕ
  pub cut : Cut t long wide
  pub here : r ≡ ended (take wide t)
  pub behind : rest ≡ rows_of (drop (suc wide) t)

some_bytes : (t : List ℕ) {r : Row} {rest : List Row} → rows_of t ≡ r ∷ rest → 0 < length t
unfolding rows_of
some_bytes [] {rest = rest} e = absurd (let z : 0 ≡ suc (length rest) = ap length e in omega arith)
some_bytes (b ∷ t) e = omega arith

module _ (t : List ℕ) {r : Row} {rest : List Row} (e : rows_of t ≡ r ∷ rest) (good : shaped r ≡ true) where
  unended_row : Misshapen t → ⊥
  unended_row m = let same : r ≡ m.row = head-eq_of_cons-eq (sym e ∙ m.rows) in let bad = m.bad in let z : ◌≡◌ {A = ℕ} 0 1 = cc in omega arith

  ended_row : until 10 t < length t → FirstLine t r rest
  ended_row h =
      let n = until 10 t in
      let same = sym e ∙ rows_ended t h in
      let three = shaped_three (take n t) (sym (ap shaped (head-eq_of_cons-eq same)) ∙ good) in
      record {
        long = three.long;
        wide = n;
        cut = subst (Cut t three.long) (length-take-le n t (omega arith)) (first_line t refl h refl three.cut);
        here = head-eq_of_cons-eq same;
        behind = tail-eq_of_cons-eq same;
      }

  pub shaped_first : FirstLine t r rest
  shaped_first = elim (dec_lt (until 10 t) (length t)) [ yes h ↦ ended_row h | no h ↦ absurd (unended_row (no_end t refl (some_bytes t e) (omega arith))) ]

pub ruleset shapes = (one_field, two_fields, four_fields, bad_name, bad_rule, bad_draw, three)
