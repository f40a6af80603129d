-- A call that writes values to one slice and, of how many they are, a few numbers to another that has room for those: by what the operation counts and
-- leaves. And mending, where the other slice has no room.
use mathlib.Core.Path.{◌≡◌, refl, sym, ap, ◌∙◌}
use mathlib.Core.Bool.{Bool, true, false}
use mathlib.Core.List.{List, [], ◌∷◌, ◌++◌}
use Prim.Native.Nat.{ℕ, ◌<◌, ◌≤◌}
use native.Mathlib.Omega.{arith}
use lib.Dec.{ltb}
use lib.ListN.{length, drop}
use lib.Seq.{sets}
use Rattle.triple.specs.declared.refusal.Refusal.TheVariants.{Room}
use Rattle.triple.specs.Refusals.{Told, told, refused, refuse, number_of, ◌>>=◌}
use Rattle.triple.specs.Lent.{valued, count_of, after_call, Called, CalledBoth}
use Rattle.triple.proofs.RefusalLaws.{never, stepped}
use Rattle.triple.proofs.LentLaws.{wrote, counted_refused, counted_kept, put_whole, put_known, none_written, both_whole, first_short, second_short}
use Rattle.mend.specs.declared.Change.{Change}
use Rattle.mend.specs.Mends.{mend_of, changes_of, mend_call}
use Rattle.capi.specs.Calls.{change_number, mend_both, mend_step_both}

same_number : {A : Type 0} {m n : ℕ} → ◌≡◌ {A = Told A} (refused m) (refused n) → n ≡ m
same_number e = cc

-- a step that always answers refuses nothing
unstepped : {A B : Type 0} (g : A → B) (t : Told A) {n : ℕ} → (t >>= λ a. told (g a)) ≡ refused n → t ≡ refused n
unstepped g (told a) e = never (sym e)
unstepped g (refused m) e = ap refused (sym (same_number e))

module _ {A T : Type 0} (call : Told (List A)) (g : ℕ → T) (v : T → List ℕ) (first : List A) (second : List ℕ) where
  abbrev pub both : Told (List A × List ℕ)
  both = valued (λ values. (values, v (g (length values)))) call

  module _ {given : Told T} (answers : given ≡ (count_of call first >>= λ n. told (g n))) {after : List A} (leaves : after ≡ after_call call first) where
    pub numbers_told : {t : T} → given ≡ told t → length (v t) ≤ length second → {status : ℕ} {counted : List ℕ} → Called (told (v t)) second status counted → CalledBoth both first second status after counted
    numbers_told {t} is room c =
        let s = stepped (count_of call first) (sym answers ∙ is) in
        let w = wrote call first s.1 in
        let q = put_known (v t) second room c in
        let t_is : t ≡ g (length w.values) = cc (s.2, w.count) in
        let gives : both ≡ told (w.values, v t) =
        ap (valued (λ values. (values, v (g (length values))))) w.gave ∙ ap (λ (x : T). told (w.values, v x)) (sym t_is) in
        let r = both_whole first second gives (omega (arith, w.room, w.count)) room in
        let stored : after ≡ w.values ++ drop (length w.values) first = leaves ∙ w.stored ∙ ap (λ (k : ℕ). w.values ++ drop k first) (sym w.count) in
        (q.0 ∙ r.0, stored ∙ r.1, q.1 ∙ r.2)

    pub numbers_refused : {e : ℕ} → given ≡ refused e → {status : ℕ} → status ≡ e → CalledBoth both first second status after second
    unfolding count_of
    numbers_refused {e} is {status} p =
        let c = unstepped g (count_of call first) (sym answers ∙ is) in
        rw (leaves ∙ counted_kept call first c) (by call c)
      where
        by : (call : Told (List A)) → count_of call first ≡ refused e → CalledBoth (valued (λ values. (values, v (g (length values)))) call) first second status first second
        by (told values) c = let b = counted_refused values first (sym c) in first_short first second refl b.0 (p ∙ b.1)
        by (refused m) c = none_written first second {call = refused m} refl (p ∙ same_number c)

-- ---- no room for the numbers
pub mend_uncounted : (list out counts : List ℕ) → length counts < 2 → {n : ℕ} → n ≡ number_of Room → CalledBoth (mend_both list out) out counts n out counts
unfolding mend_call
mend_uncounted list out counts h {n} p = by (ltb (length out) (length list))
  where
    by : (b : Bool) → CalledBoth (valued (λ bytes. (bytes, length bytes ∷ length (changes_of list) ∷ [])) (refuse b Room (told (mend_of list)))) out counts n out counts
    by true = none_written out counts {call = refused (number_of Room)} refl p
    by false = second_short out counts refl h p

pub step_uncounted : (rest out counts : List ℕ) → length counts < 3 → {n : ℕ} → n ≡ number_of Room → CalledBoth (mend_step_both rest) out counts n out counts
step_uncounted rest out counts h p = second_short out counts refl h p

-- ---- a change's number
module _ {c : Change} where
  pub number_kept : c ≡ Change.Kept → 0 ≡ change_number c
  unfolding change_number
  number_kept e = rw e

  pub number_spare : c ≡ Change.Spare → 1 ≡ change_number c
  unfolding change_number
  number_spare e = rw e

  pub number_turned : c ≡ Change.Turned → 2 ≡ change_number c
  unfolding change_number
  number_turned e = rw e

  pub number_both : c ≡ Change.Both → 3 ≡ change_number c
  unfolding change_number
  number_both e = rw e

  pub number_dropped : c ≡ Change.Dropped → 4 ≡ change_number c
  unfolding change_number
  number_dropped e = rw e

pub ruleset change_numbers = (number_kept, number_spare, number_turned, number_both, number_dropped)

pub three_stored : (a b : ℕ) (slice : List ℕ) {n k : ℕ} → n ≡ k → 3 ≤ length slice → Called (told (a ∷ b ∷ k ∷ [])) slice 0 (sets slice 0 (a ∷ b ∷ n ∷ []))
three_stored a b slice e h = rw e (put_whole _ slice h)
