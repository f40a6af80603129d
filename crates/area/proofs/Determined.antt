-- Each contract allows one result alone: one answer and one slice. What an answer says has a left inverse: so two answers that say the same are the same.
use mathlib.Core.Path.{◌≡◌, sym, ◌∙◌}
use mathlib.Core.List.{List}
use Prim.Native.Nat.{ℕ, ◌/◌}
use Rattle.std.specs.Prelude.{Result}
use Rattle.triple.specs.Lent.{valued, count_of, after_call}
use Rattle.triple.proofs.Determined.{determined, said_one_to_one}
use Rattle.area.specs.declared.operation.Operation.{Operation}
use Rattle.area.specs.declared.operation.Operation.TheVariants as For
use Rattle.area.specs.Areas.{made_call, size_call, contains_call}
use Rattle.triple.specs.Refusals.{said}
use Rattle.triple.specs.declared.refusal.Refusal.{Refusal}
use mathlib.Core.Bool.{Bool}

-- ---- the operations
module _ (o : Operation) (a b slice : List ℕ) where
  -- what a contract says of an answer and of the slice afterwards
  abbrev pub Made : Result ℕ Refusal → List ℕ → Type 0
  Made x out = (said x ≡ valued (λ n. n / 2) (count_of (made_call o a b) slice)) × (out ≡ after_call (made_call o a b) slice)

made_determined : (o : Operation) (a b slice : List ℕ) (x y : Result ℕ Refusal) (p q : List ℕ) → Made o a b slice x p → Made o a b slice y q → (x ≡ y) × (p ≡ q)
made_determined o a b slice x y p q e f = (determined said said_one_to_one x y e.0 f.0, e.1 ∙ sym f.1)

pub union_determined : (a b slice : List ℕ) (x y : Result ℕ Refusal) (p q : List ℕ) → Made For.Union a b slice x p → Made For.Union a b slice y q → (x ≡ y) × (p ≡ q)
union_determined = made_determined For.Union

pub intersection_determined : (a b slice : List ℕ) (x y : Result ℕ Refusal) (p q : List ℕ) → Made For.Intersection a b slice x p → Made For.Intersection a b slice y q → (x ≡ y) × (p ≡ q)
intersection_determined = made_determined For.Intersection

pub difference_determined : (a b slice : List ℕ) (x y : Result ℕ Refusal) (p q : List ℕ) → Made For.Difference a b slice x p → Made For.Difference a b slice y q → (x ≡ y) × (p ≡ q)
difference_determined = made_determined For.Difference

pub size_determined : (a : List ℕ) (r : ℕ) (x y : Result ℕ Refusal) → said x ≡ size_call a r → said y ≡ size_call a r → x ≡ y
size_determined a r = determined said said_one_to_one

pub contains_determined : (a : List ℕ) (m p : ℕ) (x y : Result Bool Refusal) → said x ≡ contains_call a m p → said y ≡ contains_call a m p → x ≡ y
contains_determined a m p = determined said said_one_to_one
