-- WHY MINUS ONE IS SAFE: every separator's value on the way of a lookup is a multiple of 48 and not 0, which is `a5`'s law of its footprints; the ends are computed.
use mathlib.Core.Path.{◌≡◌, refl, sym, ap, ◌∙◌}
use mathlib.Core.Bool.{Bool, true, false}
use Prim.Native.Nat.{ℕ, ◌≤◌}
use native.Mathlib.Omega.{arith}
use lib.IntN.{ℤ, pos, negsuc}
use lib.Signed.{le_z, ◌≤ℤ◌, ◌<ℤ◌}
use Rattle.whole.proofs.Bools.{is_true, is_false}
use Rattle.whole.proofs.Parts.{parts_le, parts_lt}
use Rattle.whole.proofs.View.{view, v_var, le_of, le_by, lt_by}
use Rattle.triple.specs.declared.Triple.{Triple}
use Rattle.triple.specs.Orientations.{axiom_motif, is_backward, is_shifted, place_from, curve_place}
use Rattle.triple.specs.Triples.{is_in_bounds}
use Rattle.turtle.specs.declared.AB.{AB}
use Rattle.turtle.specs.Plane.{origin, ◌⊕◌, neg, thrice, doubled}
use Rattle.turtle.specs.Corners.{corner_sum}
use Rattle.tables.specs.Descent.{entry}
use Rattle.tables.specs.Table.{bit}
use Rattle.tables.specs.Patterns.{side_threshold, pattern_of}
use Rattle.a5.specs.A5Table.{a5_table}
use Rattle.a5.specs.Lookup.{◌⊖◌, separator_value, side, choice, chosen, compared, lookup}
use Rattle.a5.proofs.Separators.{Safe}
use Rattle.a5.proofs.LookupLaws.{ClearPick, state_clear}
use Rattle.lsystem.specs.Looks.{unmoved, looked_up}
use Rattle.lsystem.proofs.LookLaws.{own_safe, looks_names, looks_clear, looks_alike, looks_map, looks_same}
use Rattle.demands.specs.Thresholds.{Multiples, NoZero, Serves, Threshold, low, high, Thresholds}

multiples : (n k : ℕ) (p : AB) → ClearPick n k p → Multiples n k p
multiples n k p c = λ i l. record { part = (c i l).part; is = (c i l).is }

no_zero : (n k : ℕ) (p : AB) → ClearPick n k p → NoZero n k p
no_zero n k p c = λ i l. (c i l).some

module _ (o r : ℕ) (t : Triple) (h : o ≤ 5) (k : r ≤ 30) (b : is_in_bounds r t ≡ true) where
  serves : (threshold : ℤ) → Safe threshold → Serves threshold o r t
  serves f j = record {
    digits = looks_map (λ n k p s. s f side_threshold j own_safe) side_threshold o r t (looks_alike o h t side_threshold own_safe r b);
    looks = looks_same o h t f side_threshold j own_safe r b;
    names = rw (looks_names o h t f j r k b);
  }

  pub threshold : Threshold o r t
  threshold =
      let clear = looks_clear o h t side_threshold own_safe r b in
      record {
        multiples = looks_map multiples side_threshold o r t clear;
        serves = λ f low high. serves f (record { low = low; high = up_to_48 f high });
        no_zero = looks_map no_zero side_threshold o r t clear;
        serves_wider = λ f low high. serves f (record { low = low; high = high });
      }
    where
      up_to_48 : (f : ℤ) → f ≤ℤ pos 0 → f ≤ℤ pos 48
      up_to_48 f l = let vf = v_var f in le_by vf (search view) tt (omega (arith, le_of vf (search view) tt l))

-- ---- at the ends
-- the child of the state A for each pattern whose first bit is 1
odd_patterns : (b c : Bool) → choice 0 (pattern_of 1 (bit b) (bit c)) ≡ 3
unfolding choice entry a5_table
odd_patterns false false = refl
odd_patterns false true = refl
odd_patterns true false = refl
odd_patterns true true = refl

below : (f : ℤ) → f ≤ℤ negsuc 47 → chosen f 0 0 (corner_sum low) ≡ 3
unfolding chosen side separator_value corner_sum entry a5_table
below f l = ap (λ b. choice 0 (pattern_of (bit b) (bit (le_z f (negsuc 95))) (bit (le_z f (negsuc 383))))) (sym (is_true (le_z f (negsuc 47)) l.le)) ∙ odd_patterns (le_z f (negsuc 95)) (le_z f (negsuc 383))

-- a value under the threshold
outside : (f v : ℤ) → v <ℤ f → le_z f v ≡ false
outside f v h = sym (is_false (le_z f v) (λ t. let z = parts_le {x = f} {y = v} (record { le = t }) in omega (arith, parts_lt h)))

above : (f : ℤ) → pos 49 ≤ℤ f → chosen f 0 0 (corner_sum high) ≡ 0
unfolding chosen side choice separator_value corner_sum entry a5_table
above f l =
    let vf = v_var f in
    let m = le_of (search view) vf tt l in
    rw (outside f (pos 48) (lt_by (search view) vf tt (omega (arith, m))), outside f (negsuc 191) (lt_by (search view) vf tt (omega (arith, m))), outside f (negsuc 479) (lt_by (search view) vf tt (omega (arith, m))))

pub thresholds : Thresholds
unfolding axiom_motif is_backward is_shifted place_from curve_place origin ◌⊕◌ neg thrice doubled corner_sum entry a5_table ◌⊖◌ separator_value side choice chosen compared lookup unmoved looked_up
thresholds = record {
  states = λ n k s h. multiples n k _ (state_clear n k s h);
  states_no_zero = λ n k s h. no_zero n k _ (state_clear n k s h);
  below = below;
  below_own = (refl, refl);
  above = above;
  above_own = (refl, refl);
  below_finds = (refl, refl);
  above_finds = (refl, refl);
}
