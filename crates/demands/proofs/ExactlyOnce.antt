-- EXACTLY ONCE, over triples alone: `lsystem`'s laws speak of positions below 4 ^ r; a position that names anything is one.
use mathlib.Core.Path.{◌≡◌, refl, sym, ap, ◌∙◌}
use mathlib.Core.Bool.{Bool, true, false}
use Prim.Native.Nat.{ℕ, zero, suc, ◌^◌, ◌<◌, ◌≤◌}
use native.Mathlib.Omega.{arith}
use lib.Dec.{leb, ltb}
use borrow.Author.Tests.{le-ltb, lt-leb, leb-false}
use Rattle.triple.specs.declared.Triple.{Triple}
use Rattle.triple.specs.Refusals.{told, refused}
use Rattle.triple.specs.Triples.{is_in_bounds, closed_flavor}
use Rattle.lsystem.specs.declared.cell.Cell.{Cell}
use Rattle.lsystem.specs.declared.Position.{Position}
use Rattle.lsystem.specs.Cells.{drawn_cell, named, cell_at, cell_of, position_of}
use Rattle.lsystem.proofs.Numbering.{cell_on, position_names, triple_named_lem, unnamed_refused}
use Rattle.triple.proofs.RefusalLaws.{passed, told_same}
use Rattle.demands.specs.Demands.{triple_named, position_given, Numbering}
use Rattle.demands.proofs.ToldLaws.{told_refused, answered}

-- the curve is the drawing, from resolution 1 up
drawn : (o r s : ℕ) → o ≤ 5 → r ≤ 30 → 1 ≤ r → s < 4 ^ r → cell_of o r s ≡ named o r (drawn_cell o r s)
unfolding cell_of cell_at
drawn o zero s h k m l = let z : ⊥ = omega arith in absurd z
drawn o (suc n) s h k m l = rw (le-ltb 30 (suc n) k, le-ltb 5 o h, lt-leb (4 ^ suc n) s l)

module _ (o r : ℕ) (h : o ≤ 5) (k : r ≤ 30) where
  -- a position that names anything is below 4 ^ r
  below : (s : ℕ) (c : Cell) → cell_of o r s ≡ told c → s < 4 ^ r
  unfolding cell_of
  below s c e =
      let shallow = passed (ltb 30 r) _ e in
      let oriented = passed (ltb 5 o) _ shallow.1 in
      leb-false (4 ^ r) s (passed (leb (4 ^ r) s) _ oriented.1).0

  -- and names a triple in bounds, which gives it back, with the closed formula's flavor
  pub names : (s : ℕ) (t : Triple) → triple_named o r s ≡ told t → (is_in_bounds r t ≡ true) × (cell_of o r s ≡ told (cell_on r t)) × (position_of o r t ≡ told (record { s = s; flavor = closed_flavor r t }))
  names s t e =
      let a = answered (cell_of o r s) e in
      let n = position_names o r h k s (below s a.0 a.1) in
      let same : n.0 ≡ t = ap (λ (c : Cell). c.triple) (told_same (sym n.2 ∙ a.1)) ∙ a.2 in
      (rw same at n.1, rw same at n.2, rw same at n.3)

  -- a triple that has a position is in bounds
  had : (t : Triple) (p : Position) → position_of o r t ≡ told p → is_in_bounds r t ≡ true
  had t p e = go (is_in_bounds r t) refl
    where
      go : (b : Bool) → is_in_bounds r t ≡ b → is_in_bounds r t ≡ true
      go true b = b
      go false b = absurd (told_refused e (unnamed_refused o r h k t b).0.1)

  -- and is named by that position
  had_names : (t : Triple) (p : Position) → position_of o r t ≡ told p → (triple_named o r p.s ≡ told t) × (p.flavor ≡ closed_flavor r t)
  had_names t p e =
      let n = triple_named_lem o r h k t (had t p e) in
      let same : n.0 ≡ p.s = ap (λ (p : Position). p.s) (told_same (sym n.3 ∙ e)) in
      let flavor : closed_flavor r t ≡ p.flavor = ap (λ (p : Position). p.flavor) (told_same (sym n.3 ∙ e)) in
      (rw (← same, n.2), sym flavor)

  back : (s : ℕ) (t : Triple) → position_given o r t ≡ told s → triple_named o r s ≡ told t
  back s t e =
      let a = answered (position_of o r t) e in
      rw (← a.2) (had_names t a.0 a.1).0

  refused_out : (t : Triple) (n : ℕ) → position_of o r t ≡ refused n → (s : ℕ) → triple_named o r s ≡ told t → ⊥
  refused_out t n e s f = told_refused (names s t f).2 e

  unnamed_out : (t : Triple) → ((s : ℕ) → triple_named o r s ≡ told t → ⊥) → (n : ℕ) × (position_of o r t ≡ refused n)
  unnamed_out t none = go (is_in_bounds r t) refl
    where
      go : (b : Bool) → is_in_bounds r t ≡ b → (n : ℕ) × (position_of o r t ≡ refused n)
      go true b = let n = triple_named_lem o r h k t b in absurd (none n.0 (rw n.2))
      go false b = (unnamed_refused o r h k t b).0

  pub numbering : Numbering o r
  numbering = record {
    drawn = λ s m l. drawn o r s h k m l;
    in_bounds = λ s l. let n = position_names o r h k s l in (n.0, n.1, rw n.2);
    all = λ t b. let n = triple_named_lem o r h k t b in (n.0, n.1, rw n.2);
    once = λ s u t e f. ap (λ (p : Position). p.s) (told_same (sym (names s t e).2 ∙ (names u t f).2));
    back = λ s t. (λ e. rw (names s t e).2, back s t);
    refused_unnamed = λ t. (λ e. refused_out t e.0 e.1, unnamed_out t);
    flavor = λ s c e. ap (λ (c : Cell). c.flavor) (told_same (sym e ∙ (names s c.triple (rw e)).1));
    flavor_back = λ t p e. (had_names t p e).1;
  }
