-- The front of what a reader has, read on in a list behind the bytes that it gave before.
use mathlib.Core.Path.{◌≡◌, sym, ap, subst, ◌∙◌}
use mathlib.Core.List.{List, ◌++◌}
use Prim.Native.Nat.{ℕ, ◌+◌, ◌-◌, ◌≤◌}
use native.Mathlib.Nat.{le_refl}
use lib.ListN.{length, take, drop}
use lib.Seq.{take-add, take-append-le, drop_at, length-take-le}
use borrow.Rule.Slice.PartMut.{put_mid, post_of}
use Rattle.std.specs.Prelude.{Option}
use Rattle.std.specs.Io.KnownBytes.{Consumes, Keeps}
use Rattle.std.proofs.KnownBytes.{Consumes-trans, Consumes-kept}
use Rattle.std.proofs.lemmas.Slice.{take-put_mid_below}

-- a list of which the part behind n bytes was lent
module _ (n : ℕ) (list last : List ℕ) (within : n ≤ length list) where
  kept : take n (put_mid n (length list - n) list last) ≡ take n list
  kept = take-put_mid_below _ _ _ _ _ (le_refl _) within

  more : (count : ℕ) → count ≤ length last → take (n + count) (put_mid n (length list - n) list last) ≡ take n list ++ take count last
  more count fits =
      let post : List ℕ = post_of n (length list - n) list in
      let rest : drop n (put_mid n (length list - n) list last) ≡ last ++ post = drop_at (take n list) (last ++ post) n (length-take-le n list within) in
      take-add n count (put_mid n (length list - n) list last) ∙ (λ i. kept i ++ take count (rest i)) ∙ ap (λ (l : List ℕ). take n list ++ l) (take-append-le count last post fits)

  module _ (a b d : Option (List ℕ)) (so_far : Consumes a b (take n list)) where
    -- so many bytes more
    pub read_more : {m : ℕ} (count : ℕ) → m ≡ n + count → count ≤ length last → Consumes b d (take count last) → Consumes a d (take m (put_mid n (length list - n) list last))
    read_more count e fits next =
        subst (Consumes a d) (sym (ap (λ (m : ℕ). take m (put_mid n (length list - n) list last)) e ∙ more count fits)) (Consumes-trans a b d (take n list) (take count last) so_far next)

    -- none, where a signal cut the read short
    pub read_none : {m : ℕ} → m ≡ n → Keeps b d → Consumes a d (take m (put_mid n (length list - n) list last))
    read_none e keeps =
        subst (Consumes a d) (sym (ap (λ (m : ℕ). take m (put_mid n (length list - n) list last)) e ∙ kept)) (Consumes-kept a b d (take n list) so_far keeps)
