-- The verdict on a list, code after code, and the loop of `check`: the verdict on what is ahead, behind the codes so far, is the whole list's.
use mathlib.Core.Path.{◌≡◌, refl, sym, ap, ◌∙◌}
use mathlib.Core.List.{List, [], ◌∷◌, ◌++◌}
use Prim.Native.Nat.{ℕ, zero, suc, ◌+◌, ◌-◌, ◌^◌, ◌<◌, ◌≤◌}
use native.Mathlib.Numerals.{add-one}
use native.Mathlib.Omega.{arith}
use lib.Dec.{T, leb, leb→le}
use lib.ListN.{length, get_or, take, drop, set, length-drop, length-append, length-set}
use lib.Seq.{drop-drop, get_or-drop, take-suc-set, length-take-le}
use mir.Syntax.{w8, w64}
use mir.Val.{Fits}
use Rattle.whole.proofs.Slices.{all_from}
use Rattle.triple.specs.declared.refusal.Refusal.TheVariants as Is
use Rattle.triple.specs.Refusals.{told, refused, number_of}
use Rattle.code.specs.declared.Reading.{Reading}
use Rattle.code.specs.Codes.{read_of}
use Rattle.treated.specs.declared.Fault.{Fault}
use Rattle.treated.specs.Treated.{judge_of, good, faulty, judged, check_from, check_of}
use Rattle.treated.specs.Inside.Grounds.{ground_of, judge_by}
use Rattle.treated.specs.declared.Ground.{Ground}
use Rattle.std.specs.Prelude.{Option, Some, None, Ok, Err, Result}
use Rattle.treated.proofs.JudgeLaws.{Stands, read_stands, Kept, judged_same, Fine, right_fine, kept_next}

-- ---- code after code
pub check_end : (n : ℕ) (before : List Reading) (rest : List ℕ) → length rest ≤ 0 → check_from n before rest ≡ told (good (length before))
unfolding check_from
check_end zero before [] h = refl
check_end (suc n) before [] h = refl
check_end n before (b ∷ rest) h = let z : ⊥ = omega arith in absurd z

pub check_long : (before : List Reading) (rest : List ℕ) → 0 < length rest → check_from zero before rest ≡ refused (number_of Is.Long)
unfolding check_from
check_long before [] h = let z : ⊥ = omega arith in absurd z
check_long before (b ∷ rest) h = refl

pub check_next : (n : ℕ) (before : List Reading) (rest : List ℕ) → 0 < length rest
    → check_from (suc n) before rest ≡ judged (judge_of before (read_of rest)) (λ f. told (faulty f (length before))) (λ x. check_from n (before ++ (x ∷ [])) (drop x.used rest))
unfolding check_from
check_next n before [] h = let z : ⊥ = omega arith in absurd z
check_next n before (b ∷ rest) h = refl

module _ (n : ℕ) (before : List Reading) (rest : List ℕ) (some : 0 < length rest) where
  pub check_wrong : {f : Fault} → judge_of before (read_of rest) ≡ Err f → check_from (suc n) before rest ≡ told (faulty f (length before))
  check_wrong e = check_next n before rest some ∙ rw e refl

  pub check_right : {x : Reading} → judge_of before (read_of rest) ≡ Ok x → check_from (suc n) before rest ≡ check_from n (before ++ (x ∷ [])) (drop x.used rest)
  check_right e = check_next n before rest some ∙ rw e refl

-- ---- the loop: n codes stand before the place `at`, and their grounds stand at the front of an array
pub record Checked (list : List ℕ) (grounds : List Ground) (first : Option ℕ) (at n : ℕ) : Type 0 where
  pub before : List Reading
  pub count : length before ≡ n
  pub inside : at ≤ length list
  pub few : n ≤ 512
  pub long : 512 ≤ length grounds
  pub kept : Kept before first (take n grounds)
  pub ahead : check_from (512 - n) before (drop at list) ≡ check_of list

pub checked_none : (list : List ℕ) (grounds : List Ground) → 512 ≤ length grounds → Checked list grounds None 0 0
unfolding check_of
checked_none list grounds s =
    record {
      before = [];
      count = refl;
      inside = omega arith;
      few = omega arith;
      long = s;
      kept = record { grounds_are = refl; shallow = tt; first_is = refl };
      ahead = refl;
    }

one_more : (n : ℕ) → n < 512 → 512 - n ≡ suc (512 - (n + 1))
one_more n room = omega arith

module _ {list : List ℕ} {grounds : List Ground} {first : Option ℕ} {at n : ℕ} (so_far : Checked list grounds first at n) where
  front_within : n ≤ length grounds
  front_within = omega (arith, so_far.few, so_far.long)

  pub grounds_front : n ≡ length (take n grounds)
  grounds_front = sym (length-take-le n grounds front_within)

  pub checked_good : length list ≤ at → told (good n) ≡ check_of list
  checked_good h =
      ap (λ (k : ℕ). told (good k)) (sym so_far.count)
      ∙ sym (check_end (512 - n) so_far.before (drop at list) (rw length-drop (omega arith))) ∙ so_far.ahead

  module _ (h : at < length list) where
    some : 0 < length (drop at list)
    some = rw length-drop (omega arith)

    pub checked_long : {most : ℕ} → most ≤ n → T (leb 512 most) → refused (number_of Is.Long) ≡ check_of list
    checked_long {most} full enough =
        let none : 512 - n ≡ 0 = omega (arith, leb→le 512 most enough) in
        sym (check_long so_far.before (drop at list) some) ∙ ap (λ (k : ℕ). check_from k so_far.before (drop at list)) (sym none) ∙ so_far.ahead

    module _ (small : (i : ℕ) → Fits w8 (get_or list i 0)) {j : Result Reading Fault} (j_is : j ≡ judge_by first (take n grounds) (read_of (take (length list - at) (drop at list)))) where
      small_rest : (i : ℕ) → Fits w8 (get_or (drop at list) i 0)
      small_rest i = rw (get_or-drop at list i 0) (small (at + i))

      is : judge_of so_far.before (read_of (drop at list)) ≡ j
      is =
          sym
          (j_is ∙ ap (λ (l : List ℕ). judge_by first (take n grounds) (read_of l)) (all_from list at)
          ∙ judged_same so_far.before first (take n grounds) so_far.kept (read_of (drop at list)) (λ x e. (read_stands (drop at list) small_rest e).shallow))

      pub checked_faulty : n < 512 → {f : Fault} → j ≡ Err f → told (faulty f n) ≡ check_of list
      checked_faulty room {f} e =
          ap (λ (k : ℕ). told (faulty f k)) (sym so_far.count)
          ∙ sym (check_wrong (512 - (n + 1)) so_far.before (drop at list) some (is ∙ e))
          ∙ ap (λ (k : ℕ). check_from k so_far.before (drop at list)) (sym (one_more n room)) ∙ so_far.ahead

      module _ (x : Reading) (e : j ≡ Ok x) where
        fine : Fine so_far.before (read_of (drop at list)) x
        fine = right_fine so_far.before (read_of (drop at list)) (is ∙ e)

        stands : Stands (drop at list) x
        stands = read_stands (drop at list) small_rest fine.sound

        pub right_shallow : x.resolution ≤ 30
        right_shallow = stands.shallow

        pub right_below : x.s < 4 ^ x.resolution
        right_below = stands.below

        within : at + x.used ≤ length list
        within = omega (arith, stands.there, length-drop at list)

        pub at_fits : length list < 2 ^ 64 → Fits w64 (at + x.used)
        at_fits l = record { fits = omega (arith, within) }

        pub ahead_less : length list - (at + x.used) < length list - at
        ahead_less = omega (arith, stands.some)

        pub checked_next : n < 512 → {g : Ground} → g ≡ ground_of x → {s : List Ground} → s ≡ set grounds n g → Checked list s (Some x.orientation) (at + x.used) (n + 1)
        checked_next room {g} g_is s_is =
            let next = kept_next so_far.before x so_far.kept right_shallow fine.oriented in
            let s : take (n + 1) (set grounds n g) ≡ take n grounds ++ (ground_of x ∷ []) =
            ap (λ (k : ℕ). take k (set grounds n g)) (add-one n) ∙ take-suc-set grounds n g (omega (arith, so_far.long)) ∙ ap (λ (v : Ground). take n grounds ++ (v ∷ [])) g_is in
            rw s_is
            record {
              before = so_far.before ++ (x ∷ []);
              count = length-append so_far.before (x ∷ []) ∙ ap (λ (k : ℕ). k + 1) so_far.count;
              inside = within;
              few = omega arith;
              long = rw length-set so_far.long;
              kept = rw s next;
              ahead =
                  ap (check_from (512 - (n + 1)) (so_far.before ++ (x ∷ []))) (sym (drop-drop x.used at list))
                  ∙ sym (check_right (512 - (n + 1)) so_far.before (drop at list) some (is ∙ e))
                  ∙ ap (λ (k : ℕ). check_from k so_far.before (drop at list)) (sym (one_more n room)) ∙ so_far.ahead;
            }

pub ruleset checking = (checked_none, grounds_front, checked_good, checked_long, checked_faulty, right_shallow, right_below, at_fits, ahead_less, checked_next)
