-- The lookup, look by look, of a triple in bounds finds the position that the drawing has, by one pick for each level above the last and one comparison more
-- than the place's last digit on the axiom's curve; and the threshold of the bits may be any from -47 to 48.
use mathlib.Core.Path.{◌≡◌, refl, sym, ap, ◌∙◌, subst}
use mathlib.Core.Bool.{true}
use Prim.Native.Nat.{ℕ, zero, suc, ◌+◌, ◌-◌, ◌*◌, ◌%◌, ◌≤◌}
use native.Mathlib.Omega.{arith}
use lib.IntN.{ℤ}
use Rattle.std.specs.Prelude.{Result, Ok, Err}
use Rattle.triple.specs.declared.Triple.{Triple}
use Rattle.triple.specs.Refusals.{Told, told, refused, said}
use Rattle.triple.specs.Orientations.{axiom_motif, is_shifted, curve_place}
use Rattle.triple.specs.Triples.{is_in_bounds, closed_flavor}
use Rattle.triple.proofs.OrientationLaws.{six, place_place}
use Rattle.triple.proofs.RefusalLaws.{never}
use Rattle.turtle.specs.declared.AB.{AB}
use Rattle.turtle.specs.Plane.{origin}
use Rattle.turtle.specs.Corners.{corner_sum}
use Rattle.tables.specs.Patterns.{side_threshold}
use Rattle.a5.specs.Lookup.{◌⊖◌, lookup, AtPicks}
use Rattle.a5.proofs.Axioms.{first, shift, drawn, drawn_corner}
use Rattle.a5.proofs.Once.{position, position_small}
use Rattle.a5.proofs.Separators.{Safe}
use Rattle.a5.proofs.LookupLaws.{looks_at, ClearPick, SamePick, lookup_position, lookup_clear, lookup_same, picks_map}
use Rattle.lsystem.specs.declared.Position.{Position}
use Rattle.lsystem.specs.declared.Located.{Located}
use Rattle.lsystem.specs.Answers.{said_position}
use Rattle.lsystem.specs.Cells.{cell_of, position_of}
use Rattle.lsystem.specs.Looks.{unmoved, looked_up, AtLooks, looks_of, with_looks, located_of}
use Rattle.lsystem.proofs.CellLaws.{axiom_in}
use Rattle.lsystem.proofs.Numbering.{only_finds, seek_placed, cell_on, position_good, triple_named_lem}
use Rattle.triple.specs.declared.refusal.Refusal.{Refusal}

-- ---- where a lookup begins
unmoved_drawn : (o : ℕ) → o ≤ 5 → (r : ℕ) (t : Triple) → unmoved o r t ≡ drawn (axiom_in o) r t
unfolding unmoved is_shifted axiom_in
unmoved_drawn o h r t = six (λ o. unmoved o r t ≡ drawn (axiom_in o) r t) refl refl refl refl refl refl o h

axiom_first : (o : ℕ) → o ≤ 5 → 2 * axiom_motif o ≡ first (axiom_in o)
unfolding axiom_motif axiom_in
axiom_first = six (λ o. 2 * axiom_motif o ≡ first (axiom_in o)) refl refl refl refl refl refl

-- the threshold of every table is one that is safe
pub own_safe : Safe side_threshold
own_safe = record { low = record { le = tt }; high = record { le = tt } }

-- ---- from resolution 1 up
module _ (o n : ℕ) (h : o ≤ 5) (t : Triple) (b : is_in_bounds (suc n) t ≡ true) where
  abbrev begins : (ℕ → AB → Type 0) → Type 0
  begins P = P (2 * axiom_motif o) (corner_sum (unmoved o (suc n) t))

  -- what holds of the axiom's own lookup
  begin : (P : ℕ → AB → Type 0) → P (first (axiom_in o)) (corner_sum t ⊖ shift (axiom_in o) (suc n)) → begins P
  begin P p =
      subst (λ k. P k (corner_sum (unmoved o (suc n) t))) (sym (axiom_first o h))
      (subst (P (first (axiom_in o))) (sym (ap corner_sum (unmoved_drawn o h (suc n) t) ∙ drawn_corner (suc n) t (axiom_in o))) p)

  module _ (f : ℤ) (j : Safe f) where
    pub looked_up_lem : looked_up f o (suc n) t ≡ record { place = curve_place o (suc n) (position (axiom_in o) n t); picks = n; comparisons = position (axiom_in o) n t % 4 + 1 }
    unfolding looked_up
    looked_up_lem =
        let e = begin (λ k p. lookup f n k origin p ≡ looks_at n (position (axiom_in o) n t)) (lookup_position (axiom_in o) n t b f j) in
        rw e

    pub clear_looks : AtLooks ClearPick f o (suc n) t
    unfolding AtLooks
    clear_looks = begin (λ k p. AtPicks ClearPick f n k origin p) (lookup_clear (axiom_in o) n t b f j)

    pub same_looks : AtLooks SamePick f o (suc n) t
    unfolding AtLooks
    same_looks = begin (λ k p. AtPicks SamePick f n k origin p) (lookup_same (axiom_in o) n t b f j)

-- ---- at every resolution: what a lookup by a safe threshold comes to
module _ (o : ℕ) (h : o ≤ 5) (t : Triple) (f : ℤ) (j : Safe f) where
  -- the position is the drawing's
  pub looks_position : (r : ℕ) → r ≤ 30 → is_in_bounds r t ≡ true → position_of o r t ≡ told (record { s = (looked_up f o r t).place; flavor = closed_flavor r t })
  unfolding looked_up
  looks_position zero k b = position_good o 0 h k t b ∙ only_finds o t b
  looks_position (suc n) k b =
      position_good o (suc n) h k t b
      ∙ seek_placed o n h (omega arith) t b
      ∙ ap (λ s. told (record { s = s; flavor = closed_flavor (suc n) t })) (sym (ap (λ l. l.place) (looked_up_lem o n h t b f j)))

  -- and names the triple
  pub looks_names : (r : ℕ) → r ≤ 30 → is_in_bounds r t ≡ true → cell_of o r (looked_up f o r t).place ≡ told (cell_on r t)
  looks_names r k b =
      let n = triple_named_lem o r h k t b in
      let same : n.0 ≡ (looked_up f o r t).place = told_s (sym n.3 ∙ looks_position r k b) in
      ap (cell_of o r) (sym same) ∙ n.2
    where
      told_s : {p q : Position} → told p ≡ told q → p.s ≡ q.s
      told_s {p} {q} e = let z : p ≡ q = cc in ap (λ (p : Position). p.s) z

  pub looks_picks : (r : ℕ) → is_in_bounds r t ≡ true → (looked_up f o r t).picks ≡ r - 1
  unfolding looked_up
  looks_picks zero b = refl
  looks_picks (suc n) b = ap (λ l. l.picks) (looked_up_lem o n h t b f j) ∙ omega arith

  -- the last digit of the place on the axiom's curve
  pub looks_comparisons : (r : ℕ) → 1 ≤ r → is_in_bounds r t ≡ true → (looked_up f o r t).comparisons ≡ curve_place o r (looked_up f o r t).place % 4 + 1
  looks_comparisons zero z b = let y : ⊥ = omega arith in absurd y
  looks_comparisons (suc n) z b =
      rw (looked_up_lem o n h t b f j) (ap (λ p. p % 4 + 1) (sym (place_place o (suc n) _ (position_small (axiom_in o) n t b))))

  pub looks_clear : (r : ℕ) → is_in_bounds r t ≡ true → AtLooks ClearPick f o r t
  unfolding AtLooks
  looks_clear zero b = tt
  looks_clear (suc n) b = clear_looks o n h t b f j

  pub looks_alike : (r : ℕ) → is_in_bounds r t ≡ true → AtLooks SamePick f o r t
  unfolding AtLooks
  looks_alike zero b = tt
  looks_alike (suc n) b = same_looks o n h t b f j

pub looks_map : {P Q : ℕ → ℕ → AB → Type 0} → ((n k : ℕ) (p : AB) → P n k p → Q n k p) → (f : ℤ) (o r : ℕ) (t : Triple) → AtLooks P f o r t → AtLooks Q f o r t
unfolding AtLooks
looks_map g f o zero t a = tt
looks_map g f o (suc n) t a = picks_map g f n _ origin _ a

-- no look at resolution 0
pub no_looks : (f : ℤ) (o : ℕ) (t : Triple) → looked_up f o 0 t ≡ record { place = 0; picks = 0; comparisons = 0 }
unfolding looked_up
no_looks f o t = refl

-- any two safe thresholds find the same, by as many looks
pub looks_same : (o : ℕ) → o ≤ 5 → (t : Triple) (f g : ℤ) → Safe f → Safe g → (r : ℕ) → is_in_bounds r t ≡ true → looked_up f o r t ≡ looked_up g o r t
unfolding looked_up
looks_same o h t f g i j zero b = refl
looks_same o h t f g i j (suc n) b = looked_up_lem o n h t b f i ∙ sym (looked_up_lem o n h t b g j)

-- ---- what is answered, and the position alone
module _ (o r : ℕ) (t : Triple) where
  by_position : (found : Told Position) (a : Result Located Refusal) → said a ≡ with_looks o r t found → said_position a ≡ found
  unfolding with_looks
  by_position (told p) (Ok l) e = cc
  by_position (told p) (Err n) e = cc
  by_position (refused n) (Ok l) e = cc
  by_position (refused n) (Err m) e = cc

  pub position_said : (a : Result Located Refusal) → said a ≡ located_of o r t → said_position a ≡ position_of o r t
  unfolding located_of
  position_said = by_position (position_of o r t)

  -- its position, and its looks
  pub located_told : (l : Located) → located_of o r t ≡ told l → (position_of o r t ≡ told l.position) × (l.picks ≡ (looks_of o r t).picks) × (l.comparisons ≡ (looks_of o r t).comparisons)
  unfolding located_of with_looks
  located_told l e = go (position_of o r t) e
    where
      go : (found : Told Position) → with_looks o r t found ≡ told l → (found ≡ told l.position) × (l.picks ≡ (looks_of o r t).picks) × (l.comparisons ≡ (looks_of o r t).comparisons)
      go (told p) e = (cc, cc, cc)
      go (refused n) e = never e
