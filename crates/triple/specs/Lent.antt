-- A call that writes its values to a lent slice: how many they are or its status, and what the slice holds afterwards.
use Rattle.std.specs.Prelude.{◌≡◌, cond, List, [], ◌∷◌, ◌++◌, ℕ, ltb, length, drop}
use Rattle.triple.specs.declared.refusal.Refusal.TheVariants.{Room}
use Rattle.triple.specs.Refusals.{Told, told, refused, number_of, refuse}

-- what a call gives, as the values that it writes
abbrev pub valued : {A B : Type 0} → (A → B) → Told A → Told B
valued values (told a) = told (values a)
valued values (refused n) = refused n

-- ---- values for one slice; too short a slice is the last test
-- how many it writes
unfoldable pub count_of : {A : Type 0} → Told (List A) → List A → Told ℕ
count_of (told values) slice = refuse (ltb (length slice) (length values)) Room (told (length values))
count_of (refused n) slice = refused n

-- 0, or the number of the refusal
unfoldable pub status_of : {A : Type 0} → Told (List A) → List A → ℕ
status_of (told values) slice = cond (ltb (length slice) (length values)) (number_of Room) 0
status_of (refused n) slice = n

-- the values at the slice's front, and behind them what was there; as it was where the call is refused
unfoldable pub after_call : {A : Type 0} → Told (List A) → List A → List A
after_call (told values) slice = cond (ltb (length slice) (length values)) slice (values ++ drop (length values) slice)
after_call (refused n) slice = slice

-- the count, or the status, and the slice afterwards are the call's
abbrev pub Counted : {A : Type 0} → Told (List A) → List A → Told ℕ → List A → Type 0
Counted call slice said after = (said ≡ count_of call slice) × (after ≡ after_call call slice)

abbrev pub Called : {A : Type 0} → Told (List A) → List A → ℕ → List A → Type 0
Called call slice n after = (n ≡ status_of call slice) × (after ≡ after_call call slice)

-- ---- values for two slices: both are written, or none
-- the values, and a number that tells how many they are
abbrev pub counting : {A : Type 0} → (ℕ → ℕ) → Told (List A) → Told (List A × List ℕ)
counting f call = valued (λ values. (values, f (length values) ∷ [])) call

-- those for the first, where the second has room
unfoldable pub first_of : {A B : Type 0} → Told (List A × List B) → List B → Told (List A)
first_of (told (values, others)) second = refuse (ltb (length second) (length others)) Room (told values)
first_of (refused n) second = refused n

-- those for the second, where the first has room
unfoldable pub second_of : {A B : Type 0} → Told (List A × List B) → List A → Told (List B)
second_of (told (values, others)) first = refuse (ltb (length first) (length values)) Room (told others)
second_of (refused n) first = refused n

abbrev pub CalledBoth : {A B : Type 0} → Told (List A × List B) → List A → List B → ℕ → List A → List B → Type 0
CalledBoth call first second n x y =
    (n ≡ status_of (first_of call second) first) × (x ≡ after_call (first_of call second) first) × (y ≡ after_call (second_of call first) second)
