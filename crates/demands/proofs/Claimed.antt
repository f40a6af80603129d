-- TREATED LISTS ARE CHECKED: `treated`'s laws, and cells by `fold`'s words.
use mathlib.Core.Path.{◌≡◌, refl}
use mathlib.Core.Logic.{◌↔◌, ◌⊎◌, inl, inr, ⊎_elim}
use mathlib.Core.Bool.{Bool, true, false, ◌&&◌, false≢true}
use Prim.Native.Nat.{ℕ, ◌-◌, ◌/◌, ◌^◌, ◌≤◌}
use lib.Dec.{leb, eqb}
use borrow.Author.Tests.{le-leb, eq-eqb, leb-true, eqb-true}
use Rattle.code.specs.declared.Reading.{Reading}
use Rattle.treated.specs.Treated.{contains}
use Rattle.treated.specs.Claims.{Claims}
use Rattle.treated.proofs.Examples.{good_examples}
use Rattle.treated.proofs.Claimed.{good_exactly, long_exactly, fault_exactly, first_fault, twice_contains}
use Rattle.demands.specs.TreatedLists.{Contains, TreatedLists}

contained : (x y : Reading) → (contains x y ≡ true) ↔ Contains x y
unfolding contains
contained x y = ((λ e. by (leb x.resolution y.resolution) e (leb-true _ _)), λ c. rw (le-leb _ _ c.0) (eq-eqb _ _ c.1))
  where
    by : (b : Bool) → (b && eqb (y.s / 4 ^ (y.resolution - x.resolution)) x.s) ≡ true → (b ≡ true → x.resolution ≤ y.resolution) → Contains x y
    by true e f = (f refl, eqb-true _ _ e)
    by false e f = absurd (false≢true e)

overlap : (x y : Reading) → x.resolution ≤ 30 → y.resolution ≤ 30 → ((p : ℕ) × Claims x p × Claims y p) ↔ (Contains x y ⊎ Contains y x)
overlap x y hx hy =
    let t = twice_contains x y hx hy in (
      (λ c. ⊎_elim (λ e. inl ((contained x y).0 e)) (λ e. inr ((contained y x).0 e)) (t.0 c)),
      (λ c. t.1 (⊎_elim (λ e. inl ((contained x y).1 e)) (λ e. inr ((contained y x).1 e)) c)),
    )

pub treated_lists : TreatedLists
treated_lists = record {
  each = λ list. record { yes = good_exactly list; named = fault_exactly list; first = first_fault list; long = long_exactly list };
  empty = good_examples.0;
  ground = λ x p h. ((λ e. (h, e)), λ c. c.1);
  overlap = overlap;
}
