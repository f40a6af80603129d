-- A signed number is held and stored as it is read back from its bits, and that is the number.
use mathlib.Core.Path.{◌≡◌, refl, ◌∙◌, subst}
use mathlib.Core.List.{List, [], ◌∷◌}
use Prim.Native.Nat.{ℕ, ◌≤◌}
use lib.IntN.{ℤ, pos}
use lib.ListN.{length}
use lib.Seq.{sets}
use mir.Syntax.{Width, w32, w64}
use mir.Val.{SFits, to_z, of_z}
use mir.ValLaws.{to_z-of_z}
use Rattle.triple.specs.declared.Triple.{Triple}
use Rattle.triple.specs.Refusals.{Told, told}
use Rattle.turtle.specs.declared.AB.{AB}
use Rattle.curve.specs.declared.PointCell.{PointCell}
use Rattle.curve.specs.Points.{mark_of}
use Rattle.capi.specs.Calls.{point_values}
use Rattle.polygon.specs.Polygons.{wkt_of}
use Rattle.triple.specs.Lent.{Counted, Called, CalledBoth}
use Rattle.triple.proofs.LentLaws.{sets_front, put_whole, both_whole}

abbrev pub read_back_of : Width → List ℤ → List ℤ
read_back_of w [] = []
read_back_of w (v ∷ l) = to_z w (of_z w v) ∷ read_back_of w l

abbrev pub Fitting : Width → List ℤ → Type 0
Fitting w [] = Unit
Fitting w (v ∷ l) = SFits w v × Fitting w l

read_back : (w : Width) (l : List ℤ) → Fitting w l → read_back_of w l ≡ l
read_back w [] f = refl
read_back w (v ∷ l) f = rw (to_z-of_z w v f.0, read_back w l f.1)

pub put_signed : (w : Width) (values slice : List ℤ) → length values ≤ length slice → Fitting w values → Called (told values) slice 0 (sets slice 0 (read_back_of w values))
put_signed w values slice h f = rw (read_back w values f) (put_whole values slice h)

-- a point's values, its mark m as it was worked out
pub put_marked : (p : PointCell) (slice : List ℤ) {m : ℕ} → m ≡ mark_of p → 4 ≤ length slice → Fitting w32 (p.triple.x ∷ p.triple.y ∷ p.triple.z ∷ pos m ∷ [])
    → Called (told (point_values p)) slice 0 (sets slice 0 (read_back_of w32 (p.triple.x ∷ p.triple.y ∷ p.triple.z ∷ pos m ∷ [])))
put_marked p slice {m} e h f =
    let values : ℕ → List ℤ = λ m. p.triple.x ∷ p.triple.y ∷ p.triple.z ∷ pos m ∷ [] in
    subst (λ k. Called (told (values k)) slice 0 (sets slice 0 (read_back_of w32 (values m)))) e (put_signed w32 (values m) slice h f)

-- signed values for the first of two slices
pub both_signed : (w : Width) {B : Type 0} (values : List ℤ) (others : List B) (first : List ℤ) (second : List B) → length values ≤ length first → length others ≤ length second
    → Fitting w values → CalledBoth (told (values, others)) first second 0 (sets first 0 (read_back_of w values)) (sets second 0 others)
both_signed w values others first second h k f =
    let p = both_whole first second refl h k in
    rw (read_back w values f) (p.0, sets_front values first h ∙ p.1, sets_front others second k ∙ p.2)

-- ---- a triple and a pair by the numbers that were given
pub triple_made : {x y z : ℤ} → Fitting w32 (x ∷ y ∷ z ∷ []) → {t : Triple} → t ≡ record { x = to_z w32 (of_z w32 x); y = to_z w32 (of_z w32 y); z = to_z w32 (of_z w32 z) } → t ≡ record { x = x; y = y; z = z }
triple_made {x} {y} {z} f e = rw (to_z-of_z w32 x f.0, to_z-of_z w32 y f.1.0, to_z-of_z w32 z f.1.1.0) at e

pub pair_made : {a b : ℤ} → Fitting w64 (a ∷ b ∷ []) → {p : AB} → p ≡ record { a = to_z w64 (of_z w64 a); b = to_z w64 (of_z w64 b) } → p ≡ record { a = a; b = b }
pair_made {a} {b} f e = rw (to_z-of_z w64 a f.0, to_z-of_z w64 b f.1.0) at e

-- what a polygon's writer says of the one triple it says of the other
pub polygon_made : (r : ℕ) (slice : List ℕ) (says : Told ℕ) (after : List ℕ) {t u : Triple} → t ≡ u → Counted (wkt_of r t) slice says after → Counted (wkt_of r u) slice says after
polygon_made r slice says after e p = subst (λ (t : Triple). Counted (wkt_of r t) slice says after) e p
