-- Each contract of this crate allows one answer alone. What an answer says, and a refusal's number, have left inverses: so two answers that say the same are the same.
use mathlib.Core.Path.{◌≡◌, refl, sym, ap, ◌∙◌}
use mathlib.Core.Bool.{Bool, ◌&&◌}
use mathlib.Core.List.{List, [], ◌∷◌}
use Prim.Native.Nat.{ℕ, ◌-◌}
use lib.Dec.{leb}
use lib.IntN.{ℤ, pos}
use lib.ListN.{get_or}
use Rattle.std.specs.Prelude.{Result, Ok, Err}
use Rattle.triple.specs.declared.Triple.{Triple}
use Rattle.triple.specs.declared.orientation.Recipe.{Recipe}
use Rattle.triple.specs.declared.refusal.Refusal.{Refusal}
use Rattle.triple.specs.declared.refusal.Refusal.TheVariants as Is
use Rattle.triple.specs.Refusals.{Told, told, refused, number_of, said}
use Rattle.triple.specs.Triples.{sum_of, is_in_bounds, parity_of, flavor_of}
use Rattle.triple.specs.Domain.{greatest_resolution, domain_of, row_count, position_count}
use Rattle.triple.specs.Orientations.{recipe_of, place_from}

pub one_to_one : {A B : Type 0} (says : A → B) (back : B → A) → ((a : A) → back (says a) ≡ a) → (a b : A) → says a ≡ says b → a ≡ b
one_to_one says back inverse a b p = sym (inverse a) ∙ ap back p ∙ inverse b

-- what is to be said then determines the answer
pub determined : {A B : Type 0} (says : A → B) → ((a b : A) → says a ≡ says b → a ≡ b) → {d : B} (a b : A) → says a ≡ d → says b ≡ d → a ≡ b
determined says one a b p q = one a b (p ∙ sym q)

-- ---- the refusals, from number 1 up
abbrev pub refusal_of : ℕ → Refusal
refusal_of n = get_or refusals (n - 1) Is.Resolution
  where
    refusals : List Refusal
    refusals =
        Is.Resolution ∷ Is.Orientation ∷ Is.Position ∷ Is.Sum ∷ Is.Bounds ∷ Is.Pair ∷ Is.Node ∷ Is.Digit ∷ Is.Point ∷ Is.Room ∷ Is.Code
        ∷ Is.Shape ∷ Is.Motif ∷ Is.Rule ∷ Is.Children ∷ Is.Heading ∷ Is.Draw ∷ Is.Turns ∷ Is.Net ∷ Is.Split ∷ Is.Line ∷ Is.Table
        ∷ Is.Passes ∷ Is.Spare ∷ Is.Order ∷ Is.Part ∷ Is.Polygon ∷ Is.Retired ∷ Is.Long ∷ []

pub numbered : (e : Refusal) → refusal_of (number_of e) ≡ e
unfolding number_of
numbered Is.Resolution = refl
numbered Is.Orientation = refl
numbered Is.Position = refl
numbered Is.Sum = refl
numbered Is.Bounds = refl
numbered Is.Pair = refl
numbered Is.Node = refl
numbered Is.Digit = refl
numbered Is.Point = refl
numbered Is.Room = refl
numbered Is.Code = refl
numbered Is.Shape = refl
numbered Is.Motif = refl
numbered Is.Rule = refl
numbered Is.Children = refl
numbered Is.Heading = refl
numbered Is.Draw = refl
numbered Is.Turns = refl
numbered Is.Net = refl
numbered Is.Split = refl
numbered Is.Line = refl
numbered Is.Table = refl
numbered Is.Passes = refl
numbered Is.Spare = refl
numbered Is.Order = refl
numbered Is.Part = refl
numbered Is.Polygon = refl
numbered Is.Retired = refl
numbered Is.Long = refl

pub number_one_to_one : (e f : Refusal) → number_of e ≡ number_of f → e ≡ f
number_one_to_one = one_to_one number_of refusal_of numbered

-- ---- the answers
abbrev pub answer_of : {A B : Type 0} → (B → A) → (Refusal → A) → Told B → A
answer_of value refusal (told v) = value v
answer_of value refusal (refused n) = refusal (refusal_of n)

said_back : {A : Type 0} (a : Result A Refusal) → answer_of Ok Err (said a) ≡ a
said_back (Ok v) = refl
said_back (Err e) = ap Err (numbered e)

pub said_one_to_one : {A : Type 0} (a b : Result A Refusal) → said a ≡ said b → a ≡ b
said_one_to_one = one_to_one said (answer_of Ok Err) said_back

-- ---- the operations
pub new_determined : (x y z : ℤ) (t u : Triple) → t ≡ record { x = x; y = y; z = z } → u ≡ record { x = x; y = y; z = z } → t ≡ u
new_determined x y z t u p q = p ∙ sym q

pub sum_determined : (t : Triple) (s u : ℤ) → s ≡ sum_of t → u ≡ sum_of t → s ≡ u
sum_determined t s u p q = p ∙ sym q

pub parity_determined : (t : Triple) (a b : Result ℕ Refusal) → said a ≡ parity_of t → said b ≡ parity_of t → a ≡ b
parity_determined t = determined said said_one_to_one

-- of `in_bounds`, and of `in_bounds_wide` at the triple of its numbers
pub in_bounds_determined : (r : ℕ) (t : Triple) (a b : Bool) → a ≡ (leb r greatest_resolution && is_in_bounds r t) → b ≡ (leb r greatest_resolution && is_in_bounds r t) → a ≡ b
in_bounds_determined r t a b p q = p ∙ sym q

pub flavor_determined : (r : ℕ) (t : Triple) (a b : Result ℕ Refusal) → said a ≡ flavor_of r t → said b ≡ flavor_of r t → a ≡ b
flavor_determined r t = determined said said_one_to_one

pub domain_determined : (o r : ℕ) (a b : Result Unit Refusal) → said a ≡ domain_of o r → said b ≡ domain_of o r → a ≡ b
domain_determined o r = determined said said_one_to_one

pub row_count_determined : (r : ℕ) (m n : ℤ) → m ≡ pos (row_count r) → n ≡ pos (row_count r) → m ≡ n
row_count_determined r m n p q = p ∙ sym q

pub position_count_determined : (r m n : ℕ) → m ≡ position_count r → n ≡ position_count r → m ≡ n
position_count_determined r m n p q = p ∙ sym q

pub recipe_determined : (o : ℕ) (v w : Recipe) → v ≡ recipe_of o → w ≡ recipe_of o → v ≡ w
recipe_determined o v w p q = p ∙ sym q

pub place_determined : (backward : Bool) (n place p q : ℕ) → p ≡ place_from backward n place → q ≡ place_from backward n place → p ≡ q
place_determined backward n place p q e f = e ∙ sym f

pub number_determined : (e : Refusal) (m n : ℕ) → m ≡ number_of e → n ≡ number_of e → m ≡ n
number_determined e m n p q = p ∙ sym q
