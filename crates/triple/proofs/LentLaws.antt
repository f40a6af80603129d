-- A call's count or status and its slices in each case, in the form of what the code has in hand: what was stored, what the operation answered.
use mathlib.Core.Path.{◌≡◌, refl, sym, ap, ◌∙◌}
use mathlib.Core.Logic.{⊎_elim}
use mathlib.Core.Bool.{Bool, true, false, cond}
use mathlib.Core.List.{List, [], ◌∷◌, ◌++◌, append_assoc}
use Prim.Native.Nat.{ℕ, ◌<◌, ◌≤◌}
use native.Mathlib.Nat.{zero-add, eq-zero-or-pos}
use native.Mathlib.Omega.{arith}
use lib.Dec.{ltb}
use lib.ListN.{length, take, drop, take-append-drop}
use lib.Seq.{sets, sets-eq, length-take-le, drop-append-le}
use borrow.Author.Tests.{lt-ltb, le-ltb, ltb-true, ltb-false}
use Rattle.triple.specs.declared.refusal.Refusal.TheVariants.{Room}
use Rattle.triple.specs.Refusals.{Told, told, refused, number_of, refuse}
use Rattle.triple.specs.Lent.{valued, count_of, status_of, after_call, Counted, Called, first_of, second_of, CalledBoth, counting}
use Rattle.triple.proofs.RefusalLaws.{never, refused_same}

-- ---- one slice
module _ {A : Type 0} (values slice : List A) where
  pub put_short : length slice < length values → {n : ℕ} → n ≡ number_of Room → Called (told values) slice n slice
  unfolding status_of after_call
  put_short h e = (rw (lt-ltb (length slice) (length values) h) e, rw (lt-ltb (length slice) (length values) h))

  pub sets_front : length values ≤ length slice → sets slice 0 values ≡ values ++ drop (length values) slice
  sets_front h = rw (sets-eq values slice 0 (rw zero-add h), zero-add)

  pub put_whole : length values ≤ length slice → Called (told values) slice 0 (sets slice 0 values)
  unfolding status_of after_call
  put_whole h = (rw (le-ltb (length slice) (length values) h), rw (le-ltb (length slice) (length values) h) (sets_front h))

  -- what a writer says that had room
  pub put_known : length values ≤ length slice → {n : ℕ} {after : List A} → Called (told values) slice n after → (n ≡ 0) × (after ≡ values ++ drop (length values) slice)
  unfolding status_of after_call
  put_known h p = rw (le-ltb (length slice) (length values) h) at p

-- ---- how many values were written, k of them
module _ {A : Type 0} (values slice : List A) {k : ℕ} (long : length values ≡ k) where
  pub count_short : length slice < k → Counted (told values) slice (refused (number_of Room)) slice
  unfolding count_of after_call
  count_short h = simp (long, lt-ltb (length slice) k h) (refl, refl)

  pub count_whole : k ≤ length slice → {after : List A} → after ≡ values ++ drop k slice → Counted (told values) slice (told k) after
  unfolding count_of after_call
  count_whole h e = simp (long, le-ltb (length slice) k h) (refl, e)

-- what a count says of the room
module _ {A : Type 0} (values slice : List A) {n : ℕ} where
  pub counted_told : told n ≡ count_of (told values) slice → (length values ≤ length slice) × (n ≡ length values)
  unfolding count_of
  counted_told e = go (ltb (length slice) (length values)) refl e
    where
      go : (b : Bool) → ltb (length slice) (length values) ≡ b → told n ≡ refuse b Room (told (length values)) → (length values ≤ length slice) × (n ≡ length values)
      go true i e = never (sym e)
      go false i e = (ltb-false (length slice) (length values) i, cc)

  pub counted_refused : refused n ≡ count_of (told values) slice → (length slice < length values) × (n ≡ number_of Room)
  unfolding count_of
  counted_refused e = go (ltb (length slice) (length values)) refl e
    where
      go : (b : Bool) → ltb (length slice) (length values) ≡ b → refused n ≡ refuse b Room (told (length values)) → (length slice < length values) × (n ≡ number_of Room)
      go true i e = (ltb-true (length slice) (length values) i, cc)
      go false i e = never e

-- what a count says of a call that told how many: its values, and what its slice has then
pub record Wrote {A : Type 0} (call : Told (List A)) (slice : List A) (n : ℕ) : Type 0 where
  pub values : List A
  pub gave : call ≡ told values
  pub count : length values ≡ n
  pub room : n ≤ length slice
  pub stored : after_call call slice ≡ values ++ drop n slice

pub wrote : {A : Type 0} (call : Told (List A)) (slice : List A) {n : ℕ} → count_of call slice ≡ told n → Wrote call slice n
unfolding count_of after_call
wrote (told values) slice {n} e =
    let fits = counted_told values slice (sym e) in
    let count : length values ≡ n = sym fits.1 in
    record {
      values = values;
      gave = refl;
      count = count;
      room = omega (arith, fits.0, count);
      stored = rw (le-ltb (length slice) (length values) fits.0, count) refl;
    }
wrote (refused m) slice e = never e

-- in the form of what the code has in hand: what the call gives
module _ {A : Type 0} {call : Told (List A)} (slice : List A) where
  module _ {n : ℕ} (gives : refused n ≡ call) where
    pub refused_count : refused n ≡ count_of call slice
    unfolding count_of
    refused_count = ap (λ (c : Told (List A)). count_of c slice) gives

    pub refused_kept : slice ≡ after_call call slice
    unfolding after_call
    refused_kept = ap (λ (c : Told (List A)). after_call c slice) gives

  module _ {values : List A} (gives : told values ≡ call) {k : ℕ} (long : length values ≡ k) where
    module _ (short : length slice < k) where
      pub short_count : refused (number_of Room) ≡ count_of call slice
      short_count = (count_short values slice long short).0 ∙ ap (λ (c : Told (List A)). count_of c slice) gives

      pub short_kept : slice ≡ after_call call slice
      short_kept = (count_short values slice long short).1 ∙ ap (λ (c : Told (List A)). after_call c slice) gives

    module _ (room : k ≤ length slice) where
      pub whole_count : told k ≡ count_of call slice
      whole_count = (count_whole values slice long room refl).0 ∙ ap (λ (c : Told (List A)). count_of c slice) gives

      pub whole_stored : {after : List A} → after ≡ values ++ drop k slice → after ≡ after_call call slice
      whole_stored e = (count_whole values slice long room e).1 ∙ ap (λ (c : Told (List A)). after_call c slice) gives

-- the slice of a call that was refused
pub counted_kept : {A : Type 0} (call : Told (List A)) (slice : List A) {n : ℕ} → count_of call slice ≡ refused n → after_call call slice ≡ slice
unfolding after_call
counted_kept (told values) slice e = rw (lt-ltb (length slice) (length values) (counted_refused values slice (sym e)).0)
counted_kept (refused m) slice e = refl

-- ---- a status, by what the operation answers
module _ {A B : Type 0} (values : A → List B) (slice : List B) {given t : Told A} (answers : given ≡ t) where
  pub call_told : {a : A} → given ≡ told a → {n : ℕ} {after : List B} → Called (told (values a)) slice n after → Called (valued values t) slice n after
  call_told e p = rw (sym answers, e) p

  pub call_refused : {e : ℕ} → given ≡ refused e → {n : ℕ} → n ≡ e → Called (valued values t) slice n slice
  unfolding status_of after_call
  call_refused f p = rw (sym answers, f) (p, refl)

-- ---- two slices
-- the slice is too short, whether the other is or not
either_short : {A : Type 0} (b : Bool) (values slice : List A) → length slice < length values → {n : ℕ} → n ≡ number_of Room → Called (refuse b Room (told values)) slice n slice
unfolding status_of after_call
either_short true values slice h p = (p, refl)
either_short false values slice h p = put_short values slice h p

module _ {A B : Type 0} (first : List A) (second : List B) where
  pub none_written : {call : Told (List A × List B)} {e : ℕ} → call ≡ refused e → {n : ℕ} → n ≡ e → CalledBoth call first second n first second
  unfolding status_of after_call first_of second_of
  none_written f p = rw f (p, refl, refl)

  module _ {call : Told (List A × List B)} {values : List A} {others : List B} (gives : call ≡ told (values, others)) where
    pub both_whole : length values ≤ length first → length others ≤ length second
        → CalledBoth call first second 0 (values ++ drop (length values) first) (others ++ drop (length others) second)
    unfolding status_of after_call first_of second_of
    both_whole h k =
        let e = le-ltb (length first) (length values) h in
        let f = le-ltb (length second) (length others) k in
        rw gives (simp (e, f), simp (e, f), simp (e, f))

    pub first_short : length first < length values → {n : ℕ} → n ≡ number_of Room → CalledBoth call first second n first second
    unfolding after_call first_of second_of
    first_short h p =
        let x = either_short (ltb (length second) (length others)) values first h p in
        rw gives (x.0, x.1, rw (lt-ltb (length first) (length values) h))

    pub second_short : length second < length others → {n : ℕ} → n ≡ number_of Room → CalledBoth call first second n first second
    unfolding status_of after_call first_of second_of
    second_short h p =
        let e = lt-ltb (length second) (length others) h in
        rw gives (rw e p, rw e, (either_short (ltb (length first) (length values)) others second h p).1)

-- a status, by what the operation answers
module _ {A B C : Type 0} (values : A → List B × List C) (first : List B) (second : List C) {given t : Told A} (answers : given ≡ t) where
  pub both_told : {a : A} → given ≡ told a → {n : ℕ} {x : List B} {y : List C} → CalledBoth (told (values a)) first second n x y → CalledBoth (valued values t) first second n x y
  both_told e p = rw (sym answers, e) p

  pub both_refused : {e : ℕ} → given ≡ refused e → {n : ℕ} → n ≡ e → CalledBoth (valued values t) first second n first second
  both_refused f = none_written first second (ap (valued values) (sym answers ∙ f))

-- a call's answer, by its count
valued_told : {A B : Type 0} (f : A → B) (t : Told A) {b : B} → told b ≡ valued f t → (a : A) × (t ≡ told a) × (b ≡ f a)
valued_told f (told a) e = (a, refl, cc)
valued_told f (refused n) e = never (sym e)

pub valued_refused : {A B : Type 0} (f : A → B) (t : Told A) {n : ℕ} → refused n ≡ valued f t → t ≡ refused n
valued_refused f (told a) e = never e
valued_refused f (refused m) e = ap refused (sym (refused_same e))

pub valued_same : {A : Type 0} (t : Told A) → t ≡ valued (λ a. a) t
valued_same (told a) = refl
valued_same (refused n) = refl

nothing_put : {A : Type 0} (values slice : List A) → length values ≡ 0 → values ++ drop (length values) slice ≡ slice
nothing_put [] slice e = refl
nothing_put (v ∷ values) slice e = let none : ⊥ = omega arith in absurd none

-- ---- values for one slice, and their count for another that has a place for it: the operation is lent the first n values of the one slice,
-- all where the other has a place and none where it has not
module _ {A : Type 0} (slice : List A) (out : List ℕ) {n : ℕ} (within : n ≤ length slice) (lent : n ≡ cond (ltb (length out) 1) 0 (length slice)) where
  lent_none : length out ≡ 0 → n ≡ 0
  lent_none z = lent ∙ rw z refl

  lent_all : 0 < length out → n ≡ length slice
  lent_all h = lent ∙ rw (le-ltb (length out) 1 h) refl

  size : length (take n slice) ≡ n
  size = length-take-le n slice within

  kept_behind : take n slice ++ drop n slice ≡ slice
  kept_behind = take-append-drop n slice

  put_behind : (values : List A) → length values ≤ n → (values ++ drop (length values) (take n slice)) ++ drop n slice ≡ values ++ drop (length values) slice
  put_behind values h =
      append_assoc values (drop (length values) (take n slice)) (drop n slice)
      ∙ ap (λ (l : List A). values ++ l) (sym (drop-append-le (length values) (take n slice) (drop n slice) (omega (arith, size))) ∙ ap (drop (length values)) kept_behind)

  module _ (call : Told (List A)) (f : ℕ → ℕ) {given : Told ℕ} (answers : given ≡ valued f (count_of call (take n slice))) {after : List A} (leaves : after ≡ after_call call (take n slice)) where
    pub lent_told : {k : ℕ} → given ≡ told k → {status : ℕ} {counted : List ℕ} → Called (told (k ∷ [])) out status counted → CalledBoth (counting f call) slice out status (after ++ drop n slice) counted
    unfolding count_of after_call status_of
    lent_told {k} g {status} {counted} c = go call (sym g ∙ answers) leaves
      where
        go : (call : Told (List A)) → told k ≡ valued f (count_of call (take n slice)) → after ≡ after_call call (take n slice) → CalledBoth (counting f call) slice out status (after ++ drop n slice) counted
        go (refused m) a l = never (sym a)
        go (told values) a l =
            let j = valued_told f (count_of (told values) (take n slice)) a in
            let fits = counted_told values (take n slice) (sym j.1) in
            let short : length values ≤ n = omega (arith, fits.0, size) in
            let left : after ≡ values ++ drop (length values) (take n slice) = l ∙ rw (le-ltb (length (take n slice)) (length values) fits.0) refl in
            let x : after ++ drop n slice ≡ values ++ drop (length values) slice = ap (λ (l : List A). l ++ drop n slice) left ∙ put_behind values short in
            let count : k ≡ f (length values) = j.2 ∙ ap f fits.1 in
            ⊎_elim
            (λ z.
            let p = rw z at c in
            let nothing = nothing_put values slice (omega (arith, lent_none z)) in
            let r = second_short slice out {values = values} {others = f (length values) ∷ []} refl (omega arith) p.0 in
            (r.0, x ∙ nothing ∙ r.1, p.1 ∙ r.2))
            (λ h.
            let q = put_known (k ∷ []) out h c in
            let r = both_whole slice out {values = values} {others = f (length values) ∷ []} refl (omega (arith, within)) h in
            (q.0 ∙ r.0, x ∙ r.1, q.1 ∙ ap (λ (k : ℕ). k ∷ drop 1 out) count ∙ r.2))
            (eq-zero-or-pos (length out))

    pub lent_refused : {e : ℕ} → given ≡ refused e → {status : ℕ} → status ≡ e → CalledBoth (counting f call) slice out status (after ++ drop n slice) out
    unfolding count_of
    lent_refused {e} g {status} p = go call (sym g ∙ answers) leaves
      where
        go : (call : Told (List A)) → refused e ≡ valued f (count_of call (take n slice)) → after ≡ after_call call (take n slice) → CalledBoth (counting f call) slice out status (after ++ drop n slice) out
        go call a l =
            let r = valued_refused f (count_of call (take n slice)) a in
            let kept : after ++ drop n slice ≡ slice = ap (λ (l : List A). l ++ drop n slice) (l ∙ counted_kept call (take n slice) r) ∙ kept_behind in
            rw kept (whole call r)
          where
            whole : (call : Told (List A)) → count_of call (take n slice) ≡ refused e → CalledBoth (counting f call) slice out status slice out
            whole (refused m) r = none_written slice out {call = refused m} refl (p ∙ sym (refused_same r))
            whole (told values) r =
                let b = counted_refused values (take n slice) (sym r) in
                ⊎_elim (λ z. second_short slice out {values = values} {others = f (length values) ∷ []} refl (omega arith) (p ∙ b.1))
                (λ h. first_short slice out {values = values} {others = f (length values) ∷ []} refl (omega (arith, b.0, lent_all h, size)) (p ∙ b.1))
                (eq-zero-or-pos (length out))
