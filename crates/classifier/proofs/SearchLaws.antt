-- What a search along a list answers, and what calls at each index give.
use mathlib.Core.Path.{◌≡◌, refl, sym, subst, ◌∙◌}
use mathlib.Core.Bool.{Bool, true, false, not, cond}
use mathlib.Core.List.{List}
use Prim.Native.Nat.{ℕ, zero, suc, ◌+◌, ◌<◌, ◌≤◌}
use native.Mathlib.Omega.{arith}
use native.Mathlib.Decide.{dec_lt}
use denote.Param.Members.{Mut}
use lib.Dec.{ltb}
use lib.ListN.{length, get_or}
use Rattle.std.proofs.Common.{Option, Some, None}
use Rattle.std.specs.Array.{IsFromFnResult, IsFromFnResultFrom}
use Rattle.std.specs.Fn.{Called}
use Rattle.std.specs.List.{position_or_len}
use Rattle.std.specs.Option.{unwrap_or}
use Rattle.std.proofs.lemmas.Bool.{ltb-false}
use Rattle.std.proofs.lemmas.List.Sums.{prefix_len-le-length}

-- ---- the place of the first that passes, or the length
pub place_or : {A : Type 0} (test : A → Bool) (xs : List A) (o : Option ℕ) {n r : ℕ} → o ≡ cond (ltb (position_or_len test xs) (length xs)) (Some (position_or_len test xs)) None → n ≡ length xs → r ≡ unwrap_or o n → r ≡ position_or_len test xs
place_or test xs o {n} {r} e n_is m = m ∙ go (ltb (position_or_len test xs) (length xs)) refl o e
  where
    go : (b : Bool) → ltb (position_or_len test xs) (length xs) ≡ b → (o : Option ℕ) → o ≡ cond b (Some (position_or_len test xs)) None → unwrap_or o n ≡ position_or_len test xs
    go true h o e = rw e refl
    go false h o e =
        let l : length xs ≤ position_or_len test xs = ltb-false (position_or_len test xs) (length xs) h in
        rw e (omega (arith, n_is, prefix_len-le-length (λ x. not (test x)) xs))

-- ---- what calls of a function at each index in turn gave
module _ {F B : Type 0} (g : Mut F (ℕ × Unit {0}) B) (f : F) (P : ℕ → B → Type 0) (each : (i : ℕ) (y : B) (q : F) → Called g f (i, tt) y q → (q ≡ f) × P i y) (ys : List B) where
  made_from : (n i : ℕ) (q : F) → q ≡ f → IsFromFnResultFrom g q ys i n → (k : ℕ) (d : B) → i ≤ k → k < i + n → P k (get_or ys k d)
  made_from zero i q e c k d a b = absurd (omega arith)
  made_from (suc n) i q e c k d a b =
      let c = subst (λ (q : F). IsFromFnResultFrom g q ys i (suc n)) e c in
      let here = each i c.1 c.0 c.3 in
      elim (dec_lt i k) [
        | yes l ↦ made_from n (i + 1) c.0 here.0 c.4 k d (omega arith) (omega arith)
        | no l ↦ let is : i ≡ k = omega arith in subst (λ (k : ℕ). P k (get_or ys k d)) is (subst (P i) (sym (c.2.1 d)) here.1)
      ]

  pub made_at : {n : ℕ} → IsFromFnResult g f ys n → (k : ℕ) (d : B) → k < n → P k (get_or ys k d)
  made_at {n} r k d l = made_from n 0 f refl r.each k d (omega arith) (omega arith)
