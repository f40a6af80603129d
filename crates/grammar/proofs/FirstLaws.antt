-- The first line at fault, as a loop over the lines finds it: the lines before the i-th are not at fault.
use mathlib.Core.Path.{◌≡◌, refl, ap, ◌∙◌}
use mathlib.Core.Bool.{Bool, true, false}
use mathlib.Core.List.{List}
use Prim.Native.Nat.{ℕ, zero, suc, ◌+◌, ◌≤◌, ◌<◌}
use native.Mathlib.Numerals.{add-one}
use native.Mathlib.Omega.{arith}
use lib.ListN.{length, get_or, take, drop, drop_of_length-le}
use lib.Seq.{take-suc, drop-cons, length-take-le}
use Rattle.grammar.specs.Tests.{first_from, first}

module _ {A : Type 0} (bad : List A → A → Bool) (ls : List A) where
  -- the first at fault from the i-th on
  abbrev pub first_at : ℕ → ℕ
  first_at i = first_from bad (take i ls) (drop i ls)

  module _ (i : ℕ) (d : A) (h : i < length ls) where
    pub first_next : bad (take i ls) (get_or ls i d) ≡ false → first_at i ≡ first_at (i + 1)
    first_next e = rw (add-one, take-suc ls i d, drop-cons ls i d, e) refl

    pub first_here : bad (take i ls) (get_or ls i d) ≡ true → first_at i ≡ i + 1
    first_here e = rw (add-one, drop-cons ls i d, e) (ap suc (length-take-le i ls (omega arith)))

  pub first_none : (i : ℕ) → length ls ≤ i → first_at i ≡ 0
  first_none i h = rw (drop_of_length-le ls {i = i} h) refl

  -- none of the first k is at fault
  pub first_passed : (d : A) (k : ℕ) → k ≤ length ls → ((j : ℕ) → j < k → bad (take j ls) (get_or ls j d) ≡ false) → first bad ls ≡ first_at k
  first_passed d zero h f = refl
  first_passed d (suc k) h f = first_passed d k (omega arith) (λ j g. f j (omega arith)) ∙ first_next k d (omega arith) (f k (omega arith)) ∙ ap first_at (add-one k)
