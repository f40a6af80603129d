-- Union, intersection and difference: what each covers, and what is true of them as lists.
use mathlib.Core.Bool.{Bool, true, false, not, ◌||◌, ◌&&◌, false≢true, or-true, or-false, or_self, or_comm, or_assoc, and_self, and_comm, and_assoc, and-not_self}
use mathlib.Core.Logic.{◌↔◌, ◌⊎◌, inl, inr, ⊎_elim}
use mathlib.Core.Path.{◌≡◌, refl, sym, ap, ap₂, ◌∙◌}
use mathlib.Core.List.Memᴰ
use mathlib.Core.List.{List, []}
use Prim.Native.Nat.{ℕ}
use native.Mathlib.Omega.{arith}
use Rattle.fold.specs.Cells.{Cell, Covered}
use Rattle.fold.specs.Inside.Pairs.{Laid}
use Rattle.area.specs.Areas.{held, keeps, made}
use Rattle.fold.specs.Foldings.{Lone}
use Rattle.whole.proofs.Bools.{both_true}
use Rattle.area.specs.declared.operation.Operation.TheVariants as For
use Rattle.area.proofs.Made.{laid_covered, made_covers, made_held, made_only, made_same}

either : (x y : Bool) → (x || y) ≡ true → (x ≡ true) ⊎ (y ≡ true)
either true y e = inl refl
either false y e = inr e

module _ (r : ℕ) where
  -- ---- the ground
  module _ (a b : List Cell) (la : Laid r 0 a) (lb : Laid r 0 b) (s : ℕ) where
    in_first : Covered r a s ↔ (held r a s ≡ true)
    in_first = laid_covered r 0 a la s

    in_second : Covered r b s ↔ (held r b s ≡ true)
    in_second = laid_covered r 0 b lb s

    pub union_covers : Covered r (made r For.Union a b) s ↔ (Covered r a s ⊎ Covered r b s)
    unfolding keeps
    union_covers =
        let m = made_covers r For.Union a b la lb s in (
          λ c. ⊎_elim (λ h. inl (in_first.1 h)) (λ h. inr (in_second.1 h)) (either (held r a s) (held r b s) (m.0 c)),
          ⊎_elim (λ c. m.1 (rw (in_first.0 c) refl)) (λ c. m.1 (ap (λ (y : Bool). held r a s || y) (in_second.0 c) ∙ or-true (held r a s))),
        )

    pub intersection_covers : Covered r (made r For.Intersection a b) s ↔ (Covered r a s × Covered r b s)
    unfolding keeps
    intersection_covers =
        let m = made_covers r For.Intersection a b la lb s in (
          λ c. (let h = both_true (held r a s) (held r b s) (m.0 c) in (in_first.1 h.0, in_second.1 h.1)),
          λ c. m.1 (ap₂ (λ (x y : Bool). x && y) (in_first.0 c.0) (in_second.0 c.1)),
        )

    pub difference_covers : Covered r (made r For.Difference a b) s ↔ (Covered r a s × (Covered r b s → ⊥))
    unfolding keeps
    difference_covers =
        let m = made_covers r For.Difference a b la lb s in (
          λ c. (let h = both_true (held r a s) (not (held r b s)) (m.0 c) in (in_first.1 h.0, λ d. false≢true (sym (ap not (in_second.0 d)) ∙ h.1))),
          λ c. m.1 (ap₂ (λ (x y : Bool). x && y) (in_first.0 c.0) (without (held r b s) (λ h. c.1 (in_second.1 h)))),
        )
      where
        without : (y : Bool) → (y ≡ true → ⊥) → not y ≡ true
        without true f = absurd (f refl)
        without false f = refl

  -- ---- as lists
  pub union_commutes : (a b : List Cell) → made r For.Union a b ≡ made r For.Union b a
  unfolding keeps
  union_commutes a b = made_same r For.Union For.Union a b b a (λ s. or_comm (held r a s) (held r b s))

  pub intersection_commutes : (a b : List Cell) → made r For.Intersection a b ≡ made r For.Intersection b a
  unfolding keeps
  intersection_commutes a b = made_same r For.Intersection For.Intersection a b b a (λ s. and_comm (held r a s) (held r b s))

  -- a folded area, with itself and with nothing
  module _ (a : List Cell) (la : Laid r 0 a) (lone : Lone a) where
    pub union_self : made r For.Union a a ≡ a
    unfolding keeps
    union_self = made_only r For.Union a a la la a la lone (λ s. sym (or_self (held r a s)))

    pub intersection_self : made r For.Intersection a a ≡ a
    unfolding keeps
    intersection_self = made_only r For.Intersection a a la la a la lone (λ s. sym (and_self (held r a s)))

    pub union_none : made r For.Union a [] ≡ a
    unfolding keeps held
    union_none = made_only r For.Union a [] la tt a la lone (λ s. sym (or-false (held r a s)))

    pub difference_self : made r For.Difference a a ≡ []
    unfolding keeps held
    difference_self = made_only r For.Difference a a la la [] tt (λ m p f. absurd (Memᴰ.not-nil (f 0 (omega arith)))) (λ s. sym (and-not_self (held r a s)))

  -- three areas
  module _ (a b c : List Cell) (la : Laid r 0 a) (lb : Laid r 0 b) (lc : Laid r 0 c) where
    less_three : (x y z : Bool) → ((x && not y) && not z) ≡ (x && not (y || z))
    less_three false y z = refl
    less_three true true z = refl
    less_three true false z = refl

    pub union_associates : made r For.Union (made r For.Union a b) c ≡ made r For.Union a (made r For.Union b c)
    unfolding keeps
    union_associates =
        made_same r For.Union For.Union (made r For.Union a b) c a (made r For.Union b c)
        (λ s. rw (made_held r For.Union a b la lb s, made_held r For.Union b c lb lc s) (or_assoc (held r a s) (held r b s) (held r c s)))

    pub intersection_associates : made r For.Intersection (made r For.Intersection a b) c ≡ made r For.Intersection a (made r For.Intersection b c)
    unfolding keeps
    intersection_associates =
        made_same r For.Intersection For.Intersection (made r For.Intersection a b) c a (made r For.Intersection b c)
        (λ s. rw (made_held r For.Intersection a b la lb s, made_held r For.Intersection b c lb lc s) (and_assoc (held r a s) (held r b s) (held r c s)))

    -- one after another is both at once
    pub difference_twice : made r For.Difference (made r For.Difference a b) c ≡ made r For.Difference a (made r For.Union b c)
    unfolding keeps
    difference_twice =
        made_same r For.Difference For.Difference (made r For.Difference a b) c a (made r For.Union b c)
        (λ s. rw (made_held r For.Difference a b la lb s, made_held r For.Union b c lb lc s) (less_three (held r a s) (held r b s) (held r c s)))
