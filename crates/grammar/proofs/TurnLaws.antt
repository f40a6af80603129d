-- Where the turns of a word of symbols lead, part by part. A word that leads from heading 0 to 0 leads from every heading to itself.
use mathlib.Core.Path.{◌≡◌, refl}
use mathlib.Core.List.{List, [], ◌∷◌, ◌++◌}
use Prim.Native.Nat.{ℕ, ◌+◌, ◌%◌, ◌<◌}
use native.Mathlib.Omega.{arith}
use Rattle.turtle.specs.Walk.{Sym, left, right, letter}
use Rattle.grammar.specs.Curves.{turned}

pub turned_append : {A : Type 0} (h : ℕ) (v w : List (Sym A)) → turned h (v ++ w) ≡ turned (turned h v) w
unfolding turned
turned_append h [] w = refl
turned_append h (left ∷ v) w = turned_append ((h + 1) % 6) v w
turned_append h (right ∷ v) w = turned_append ((h + 5) % 6) v w
turned_append h (letter a ∷ v) w = turned_append h v w

pub turned_small : {A : Type 0} (h : ℕ) (w : List (Sym A)) → h < 6 → turned h w < 6
unfolding turned
turned_small h [] k = k
turned_small h (left ∷ w) k = turned_small ((h + 1) % 6) w (omega arith)
turned_small h (right ∷ w) k = turned_small ((h + 5) % 6) w (omega arith)
turned_small h (letter a ∷ w) k = turned_small h w k

turned_by : {A : Type 0} (k h : ℕ) (w : List (Sym A)) → turned ((k + h) % 6) w ≡ (k + turned h w) % 6
unfolding turned
turned_by k h [] = refl
turned_by k h (left ∷ w) = let e : ((k + h) % 6 + 1) % 6 ≡ (k + (h + 1) % 6) % 6 = omega arith in rw e (turned_by k ((h + 1) % 6) w)
turned_by k h (right ∷ w) = let e : ((k + h) % 6 + 5) % 6 ≡ (k + (h + 5) % 6) % 6 = omega arith in rw e (turned_by k ((h + 5) % 6) w)
turned_by k h (letter a ∷ w) = turned_by k h w

-- a word that ends at heading 0 turns nowhere
pub turned_home : {A : Type 0} (h : ℕ) (w : List (Sym A)) → h < 6 → turned 0 w ≡ 0 → turned h w ≡ h
turned_home h w k e =
    let z : (h + 0) % 6 ≡ h = omega arith in
    omega (arith, rw z at (turned_by h 0 w))
