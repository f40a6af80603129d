-- Triples one after another: the tests of a report, and the positions that are gathered.
use mathlib.Core.Bool.{Bool, true, false, not, ◌&&◌}
use mathlib.Core.Path.{◌≡◌, refl, sym, ap, ◌∙◌}
use mathlib.Core.List.{List, [], ◌∷◌, ◌++◌, append-nil, map}
use Rattle.std.specs.Prelude.{Result, Ok, Err}
use Rattle.std.specs.List.{list_all}
use Rattle.std.specs.Simd.{first_chunks}
use Prim.Native.Nat.{ℕ, zero, suc, ◌+◌, ◌/◌, ◌<◌, ◌≤◌}
use native.Mathlib.Nat as N
use native.Mathlib.Omega.{arith}
use lib.Dec.{leb}
use lib.IntN.{ℤ}
use Rattle.std.proofs.lemmas.List.{length-map}
use lib.ListN.{length, get_or, set, drop_of_length-le}
use borrow.Author.Tests.{le-leb}
use Rattle.whole.proofs.Fill.{poured, poured_more, poured_all}
use Rattle.triple.specs.declared.Triple.{Triple}
use Rattle.triple.specs.declared.refusal.Refusal.{Refusal}
use Rattle.triple.specs.declared.refusal.Refusal.TheVariants as Is
use Rattle.triple.specs.Refusals.{told, refused, refuse, number_of, said}
use Rattle.triple.specs.Triples.{good_sum, is_in_bounds, parity_of}
use Rattle.triple.proofs.RefusalLaws.{never}
use Rattle.lsystem.specs.declared.Located.{Located}
use Rattle.lsystem.specs.Answers.{said_position}
use Rattle.lsystem.specs.Looks.{located_of}
use Rattle.lsystem.proofs.LookLaws.{position_said}
use Rattle.lsystem.specs.Cells.{position_of}
use Rattle.report.specs.Reports.{triples_in, every, place_in, places_of}
use Rattle.report.specs.Inside.Triples.{triple_of}

-- ---- where they stand
length_three : (n : ℕ) → (3 + n) / 3 ≡ suc (n / 3)
length_three n = omega arith

pub triples_length : (xs : List ℤ) → length (triples_in xs) ≡ length xs / 3
unfolding triples_in
triples_length [] = refl
triples_length (x ∷ []) = omega arith
triples_length (x ∷ y ∷ []) = omega arith
triples_length (x ∷ y ∷ z ∷ xs) = omega (arith, triples_length xs)

-- each is three numbers of the list
pub given_is : (xs : List ℤ) (n : ℕ) → n ≡ length xs / 3 → map triple_of (first_chunks 3 n xs) ≡ triples_in xs
unfolding triples_in
given_is [] zero e = refl
given_is [] (suc n) e = let z : ⊥ = omega arith in absurd z
given_is (x ∷ []) zero e = refl
given_is (x ∷ []) (suc n) e = let z : ⊥ = omega arith in absurd z
given_is (x ∷ y ∷ []) zero e = refl
given_is (x ∷ y ∷ []) (suc n) e = let z : ⊥ = omega arith in absurd z
given_is (x ∷ y ∷ z ∷ xs) zero e = let z : ⊥ = omega arith in absurd z
given_is (x ∷ y ∷ z ∷ xs) (suc n) e = ap (λ (ts : List Triple). record { x = x; y = y; z = z } ∷ ts) (given_is xs n (omega arith))

-- ---- a sum
module _ (t : Triple) {a : Result ℕ Refusal} (ea : said a ≡ parity_of t) where
  pub sum_good : {p : ℕ} → a ≡ Ok p → true ≡ good_sum t
  unfolding parity_of
  sum_good {p} m = go (good_sum t) _ (sym (ap said m) ∙ ea)
    where
      go : (b : Bool) (v : ℕ) → told p ≡ refuse (not b) Is.Sum (told v) → true ≡ b
      go true v e = refl
      go false v e = never (sym e)

  pub sum_bad : {e : Refusal} → a ≡ Err e → false ≡ good_sum t
  unfolding parity_of
  sum_bad {e} m = go (good_sum t) _ (sym (ap said m) ∙ ea)
    where
      go : (b : Bool) (v : ℕ) → refused (number_of e) ≡ refuse (not b) Is.Sum (told v) → false ≡ b
      go true v e = never e
      go false v e = refl

pub ruleset sums = (sum_good, sum_bad)

-- ---- a test of all
pub all_pass : (f : Triple → Bool) (given : List (List ℤ)) {ts : List Triple} → map triple_of given ≡ ts → list_all (λ t. f (triple_of t)) given ≡ every f ts
unfolding every
all_pass f [] e = rw (← e) refl
all_pass f (t ∷ given) e = rw (← e, all_pass f given refl) refl

pub bounds_told : (r : ℕ) (t : Triple) {b : Bool} → r ≤ 30 → b ≡ (leb r 30 && is_in_bounds r t) → b ≡ is_in_bounds r t
bounds_told r t h e = e ∙ ap (λ (x : Bool). x && is_in_bounds r t) (le-leb r 30 h)

-- ---- positions
module _ (o r : ℕ) (t : Triple) (a : Result Located Refusal) (ea : said a ≡ located_of o r t) where
  found : said_position a ≡ position_of o r t
  found = position_said o r t a ea

  pub place_told : {l : Located} → a ≡ Ok l → l.position.s ≡ place_in (position_of o r t)
  place_told m = ap place_in (sym (ap said_position m) ∙ found)

  pub place_none : {e : Refusal} → a ≡ Err e → 0 ≡ place_in (position_of o r t)
  place_none m = ap place_in (sym (ap said_position m) ∙ found)

pub ruleset places = (place_told, place_none)

pub places_length : (o r : ℕ) (ts : List Triple) → length (places_of o r ts) ≡ length ts
unfolding places_of
places_length o r [] = refl
places_length o r (t ∷ ts) = ap suc (places_length o r ts)

places_at : (o r : ℕ) (given : List (List ℤ)) (k : ℕ) → k < length given → get_or (places_of o r (map triple_of given)) k 0 ≡ place_in (position_of o r (triple_of (get_or given k [])))
unfolding places_of
places_at o r [] k h = let z : ⊥ = omega arith in absurd z
places_at o r (t ∷ given) zero h = refl
places_at o r (t ∷ given) (suc k) h = places_at o r given k (omega arith)

-- those of the first k stand in front of a slice
module _ (o r : ℕ) (given : List (List ℤ)) {ts : List Triple} (given_so : map triple_of given ≡ ts) (slice : List ℕ) (long : length slice ≡ length ts) where
  as_many : length given ≡ length slice
  as_many = sym (length-map given triple_of) ∙ ap length given_so ∙ sym long

  module _ {k : ℕ} {work : List ℕ} (front : work ≡ poured (places_of o r ts) k slice) (size : length work ≡ length slice) where
    pub gather_inside : k < length given → k < length work
    gather_inside h = omega (arith, as_many, size)

    pub gathered_more : k < length given → {t : Triple} → t ≡ triple_of (get_or given k []) → {s : ℕ} → s ≡ place_in (position_of o r t) → set work k s ≡ poured (places_of o r ts) (k + 1) slice
    gathered_more h {t} t_is {s} s_is =
        let at : s ≡ get_or (places_of o r (map triple_of given)) k 0 = s_is ∙ ap (λ (u : Triple). place_in (position_of o r u)) t_is ∙ sym (places_at o r given k h) in
        rw front (poured_more (places_of o r ts) slice k 0 s (omega (arith, places_length o r ts, long, as_many)) (omega (arith, as_many)) (rw given_so at at))

    pub gathered_all : length given ≤ k → k ≤ length given → work ≡ places_of o r ts
    gathered_all h l =
        poured_all (places_of o r ts) slice k (length slice) (places_length o r ts ∙ sym long) (omega (arith, as_many)) (omega (arith, as_many)) front
        ∙ ap (λ (l : List ℕ). places_of o r ts ++ l) (drop_of_length-le slice {i = length slice} (N.le_refl _)) ∙ append-nil (places_of o r ts)

pub ruleset gatherings = (gather_inside, gathered_more, gathered_all)
