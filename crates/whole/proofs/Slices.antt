-- Parts of lists, as slices give them.
use mathlib.Core.Path.{◌≡◌, refl, sym, ap, ◌∙◌}
use mathlib.Core.List.{List, [], ◌∷◌, map, head-eq_of_cons-eq, tail-eq_of_cons-eq}
use Prim.Native.Nat.{ℕ, zero, suc, ◌-◌, ◌<◌}
use native.Mathlib.Nat.{le_refl, sub-zero}
use native.Mathlib.Omega.{arith}
use lib.ListN.{length, get_or, take, drop, length-drop}
use lib.Seq.{take_all, take-nil, drop-nil}

module _ {A : Type 0} where
  -- all that stands from a place on
  pub all_from : (l : List A) (n : ℕ) → take (length l - n) (drop n l) ≡ drop n l
  all_from l n = take_all (length l - n) (drop n l) (rw length-drop (le_refl (length l - n)))

  pub drop_take : (n k : ℕ) (l : List A) → drop k (take n l) ≡ take (n - k) (drop k l)
  drop_take n zero l = rw sub-zero refl
  drop_take zero (suc k) l = let z : zero - suc k ≡ 0 = omega arith in rw z refl
  drop_take (suc n) (suc k) [] = sym (take-nil (suc n - suc k))
  drop_take (suc n) (suc k) (a ∷ l) = let e : suc n - suc k ≡ n - k = omega arith in rw e (drop_take n k l)

  -- what stands at a place, by what stands from there on
  pub at_drop : (l : List A) (i : ℕ) {a : A} {rest : List A} → drop i l ≡ a ∷ rest → (i < length l) × (get_or l i a ≡ a) × (drop (suc i) l ≡ rest)
  at_drop [] i {a} {rest} e = let z : drop i [] ≡ [] = drop-nil i in let bad : 0 ≡ suc (length rest) = ap length (sym z ∙ e) in absurd (omega arith)
  at_drop (b ∷ l) zero e = (omega arith, head-eq_of_cons-eq e, tail-eq_of_cons-eq e)
  at_drop (b ∷ l) (suc i) e = let r = at_drop l i e in (omega (arith, r.0), r.1, r.2)

pub take_map : {A B : Type 0} (f : A → B) (n : ℕ) (l : List A) → take n (map f l) ≡ map f (take n l)
take_map f zero l = refl
take_map f (suc n) [] = refl
take_map f (suc n) (a ∷ l) = ap (λ r. f a ∷ r) (take_map f n l)
