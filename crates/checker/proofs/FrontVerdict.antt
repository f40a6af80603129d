-- The verdict on the front of a list, which is all of it or 4609 bytes, is the verdict on the whole.
use mathlib.Core.Path.{◌≡◌, sym, ap, ◌∙◌}
use mathlib.Core.List.{List, [], ◌++◌, append-nil}
use mathlib.Core.Logic.{◌⊎◌, inl, inr}
use Prim.Native.Nat.{ℕ, ◌<◌, ◌≤◌}
use native.Mathlib.Nat.{eq-or-lt_of_le}
use native.Mathlib.Omega.{arith}
use lib.ListN.{length, take, length-take}
use lib.Seq.{take-append_seam}
use Rattle.std.specs.Prelude.{Option, None, Some, IfSome}
use Rattle.std.specs.Io.KnownBytes.{Consumes, IsAtEnd}
use Rattle.triple.specs.Refusals.{Told}
use Rattle.treated.specs.Treated.{Verdict, check_of}
use Rattle.treated.proofs.FirstBytes.{check_front}

module _ (n : ℕ) (front : List ℕ) (long : length front ≡ 4609) (within : n ≤ length front) {t : Told Verdict} (told : t ≡ check_of (take n front)) where
  by_all : (xs ys : List ℕ) → xs ≡ take n front ++ ys → ys ≡ [] → t ≡ check_of xs
  by_all xs ys e end = told ∙ ap check_of (sym (e ∙ ap (λ (l : List ℕ). take n front ++ l) end ∙ append-nil (take n front)))

  by_front : (xs ys : List ℕ) → xs ≡ take n front ++ ys → n ≡ 4609 → t ≡ check_of xs
  by_front xs ys e full =
      let size : length (take n front) ≡ 4609 = omega (arith, long, within, full, length-take n front) in
      let same : take 4609 xs ≡ take n front = ap (take 4609) e ∙ ap (λ (k : ℕ). take k (take n front ++ ys)) (sym size) ∙ take-append_seam (take n front) ys in
      told ∙ ap check_of (sym same) ∙ check_front xs

  pub verdict_of_all : (a d : Option (List ℕ)) → Consumes a d (take n front) → (n < length front → IsAtEnd d) → IfSome a (λ list. t ≡ check_of list)
  verdict_of_all None d c whole = tt
  verdict_of_all (Some xs) None c whole = absurd c
  verdict_of_all (Some xs) (Some ys) c whole = go (eq-or-lt_of_le within)
    where
      go : (n ≡ length front) ⊎ (n < length front) → t ≡ check_of xs
      go (inl e) = by_front xs ys c (e ∙ long)
      go (inr l) = by_all xs ys c (whole l)
