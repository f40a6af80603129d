-- A point's cell by exact fractions: nothing is rounded, and nothing here is a float but the point itself.
use Rattle.std.specs.Prelude.{◌≡◌, Bool, true, false, cond, ℕ, ◌*◌, ℤ, pos, neg_ℤ, ◌+ℤ◌, ◌-ℤ◌, ◌*ℤ◌, Float}
use Rattle.std.specs.Int.Signed.{le_z}
use Rattle.std.specs.Float.{nan, inf, fin}
use Rattle.std.specs.Float.Ieee.{up, down}
use Rattle.triple.specs.declared.Triple.{Triple}
use Rattle.triple.specs.Refusals.{Told}
use Rattle.triple.specs.Triples.{sum_of}
use Rattle.curve.specs.declared.PointCell.{PointCell}
use Rattle.curve.specs.Points.{floor, point_by}

-- ---- fractions over / under, of an under above 0
pub record Fraction : Type 0 where
  pub over : ℤ
  pub under : ℕ

-- m <= f
abbrev pub reaches : ℤ → Fraction → Bool
reaches m f = le_z (m *ℤ pos f.under) f.over

-- f - m
abbrev pub less_whole : Fraction → ℤ → Fraction
less_whole f m = record { over = f.over -ℤ m *ℤ pos f.under; under = f.under }

-- f + g
abbrev pub sum : Fraction → Fraction → Fraction
sum f g = record { over = f.over *ℤ pos g.under +ℤ g.over *ℤ pos f.under; under = f.under * g.under }

-- ---- a number is the fraction m * up e / down e, negative where s is true; what is none is taken for 0
unfoldable pub fraction_of : Float → Fraction
fraction_of nan = record { over = pos 0; under = 1 }
fraction_of (inf s) = record { over = pos 0; under = 1 }
fraction_of (fin s m e) = record { over = cond s (neg_ℤ (pos (m * up e))) (pos (m * up e)); under = down e }

-- (i - m) + (j - n)
unfoldable pub beyond : Float → Float → ℤ → ℤ → Fraction
beyond i j m n = sum (less_whole (fraction_of i) m) (less_whole (fraction_of j) n)

-- ---- the parity: 1 when (i - floor i) + (j - floor j) >= 1
unfoldable pub exact_parity : Float → Float → ℕ
exact_parity i j = cond (reaches (pos 1) (beyond i j (floor i) (floor j))) 1 0

-- THE CELL of the point (i, j) at resolution r, by exact fractions
unfoldable pub exact_point_of : ℕ → Float → Float → Told PointCell
exact_point_of r i j = point_by exact_parity r i j

-- ---- THE TRIANGLE of a triple (-n, m + n + parity, -m) holds a point: it is the half of the unit square at (m, n) that is
-- below the line where the two fractions sum to 1, for parity 0, or from that line on, for parity 1
pub record LiesIn (t : Triple) (i j : Float) : Type 0 where
  -- m <= i < m + 1
  pub i_least : reaches (neg_ℤ t.z) (fraction_of i) ≡ true
  pub i_most : reaches (neg_ℤ t.z +ℤ pos 1) (fraction_of i) ≡ false
  -- n <= j < n + 1
  pub j_least : reaches (neg_ℤ t.x) (fraction_of j) ≡ true
  pub j_most : reaches (neg_ℤ t.x +ℤ pos 1) (fraction_of j) ≡ false
  pub lower : sum_of t ≡ pos 0 → reaches (pos 1) (beyond i j (neg_ℤ t.z) (neg_ℤ t.x)) ≡ false
  pub upper : sum_of t ≡ pos 1 → reaches (pos 1) (beyond i j (neg_ℤ t.z) (neg_ℤ t.x)) ≡ true
