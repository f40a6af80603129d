-- What the calls answer, and the loop of `mend`: the pieces up to a place of the list stand at the front of the slice, and what is ahead is the mended rest.
use mathlib.Core.Path.{◌≡◌, refl, sym, ap, ap₂, ◌∙◌}
use mathlib.Core.List.{List, [], ◌++◌}
use Prim.Native.Nat.{ℕ, ◌+◌, ◌-◌, ◌*◌, ◌^◌, ◌<◌, ◌≤◌}
use native.Mathlib.Nat.{le_refl}
use native.Mathlib.Omega.{arith}
use lib.ListN.{length, take, drop, length-take, length-drop, length-append}
use lib.Seq.{take_all, drop_at, take_at, take-add, drop-drop}
use mir.Syntax.{w64}
use mir.Val.{Fits}
use borrow.Rule.Slice.PartMut.{put_mid}
use borrow.Author.Tests.{le-ltb, lt-ltb}
use Rattle.whole.proofs.Fill.{fronted, length_fronted, fronted_back}
use Rattle.triple.specs.declared.refusal.Refusal.TheVariants as Is
use Rattle.triple.specs.Refusals.{told, refused, number_of}
use Rattle.triple.specs.Lent.{after_call}
use Rattle.triple.proofs.LentLaws.{refused_count, refused_kept, short_count, short_kept, whole_count, whole_stored}
use Rattle.mend.specs.declared.Change.{Change}
use Rattle.mend.specs.declared.Change.TheVariants.{Kept}
use Rattle.mend.specs.declared.Stepped.{Stepped}
use Rattle.mend.specs.declared.Plan.{Plan}
use Rattle.mend.specs.Mends.{Piece, piece_of, pieces_of, mend_of, tellings, lines_at, lines_from, changes_of, step_of, mend_call, mended_to}
use Rattle.mend.specs.Inside.Plans.{piece_for, plan_step, Sure}
use Rattle.mend.proofs.PieceLaws.{piece_none, piece_within}
use Rattle.mend.proofs.PlanLaws.{plan_long, plan_taken, plan_change}
use Rattle.mend.proofs.ChangeLaws.{lines_count, few_lines}
use Rattle.mend.proofs.Pieces.{left, mend_none, mend_more, lines_more, pieces_none}

-- ---- one step
module _ (rest slice : List ℕ) where
  module _ (none : length rest ≡ 0) where
    pub none_told : told (record { taken = 0; written = 0; change = Kept }) ≡ step_of rest slice
    unfolding step_of
    none_told = rw (piece_none rest none) (rw (← whole_count slice {values = []} refl refl (omega arith)))

    pub none_left : slice ≡ after_call (told (piece_of rest).bytes) slice
    none_left = rw (piece_none rest none) (whole_stored slice {values = []} refl refl (omega arith) refl)

  -- of a plan that stands for the piece, and is followed
  module _ (p : Plan) (is : piece_for rest p ≡ piece_of rest) (sure : Sure rest p) {x : Stepped} (x_is : x ≡ plan_step p) where
    pub plan_writes : length (piece_of rest).bytes ≡ x.written
    plan_writes = ap (λ (q : Piece). length q.bytes) (sym is) ∙ plan_long rest p sure ∙ ap (λ (y : Stepped). y.written) (sym x_is)

    pub plan_takes : (piece_of rest).taken ≡ x.taken
    plan_takes = ap (λ (q : Piece). q.taken) (sym is) ∙ plan_taken rest p ∙ ap (λ (y : Stepped). y.taken) (sym x_is)

    pub plan_changes : (piece_of rest).change ≡ x.change
    plan_changes = ap (λ (q : Piece). q.change) (sym is) ∙ plan_change rest p ∙ ap (λ (y : Stepped). y.change) (sym x_is)

    pub short_told : length slice < x.written → refused (number_of Is.Room) ≡ step_of rest slice
    unfolding step_of
    short_told h = rw (← short_count slice {values = (piece_of rest).bytes} refl plan_writes h)

    pub short_left : length slice < x.written → slice ≡ after_call (told (piece_of rest).bytes) slice
    short_left h = short_kept slice refl plan_writes h

    module _ (room : x.written ≤ length slice) where
      pub step_told : told x ≡ step_of rest slice
      unfolding step_of
      step_told = rw (← whole_count slice {values = (piece_of rest).bytes} refl plan_writes room, plan_takes, plan_changes)

      pub step_laid : {out : List ℕ} → out ≡ after_call (told (piece_for rest p).bytes) slice → out ≡ after_call (told (piece_of rest).bytes) slice
      step_laid e = e ∙ ap (λ (q : Piece). after_call (told q.bytes) slice) is

      pub plan_fits : (plan_step p).written ≤ length slice
      plan_fits = rw (← x_is) room

      pub step_fronted : {out : List ℕ} → out ≡ after_call (told (piece_for rest p).bytes) slice → out ≡ fronted (piece_of rest).bytes slice
      step_fronted e = step_laid e ∙ sym (whole_stored slice refl plan_writes room (ap (λ (k : ℕ). (piece_of rest).bytes ++ drop k slice) plan_writes))

pub ruleset stepping = (none_told, none_left, short_told, short_left, step_told, step_laid, plan_fits)

-- ---- a list that the slice has no room for
module _ (list slice : List ℕ) (short : length slice < length list) where
  refuses : refused (number_of Is.Room) ≡ mend_call list slice
  unfolding mend_call
  refuses = simp (lt-ltb _ _ short)

  pub mend_short : refused (number_of Is.Room) ≡ mended_to list slice
  unfolding mended_to
  mend_short = rw (← refused_count slice refuses)

  pub mend_kept : slice ≡ after_call (mend_call list slice) slice
  mend_kept = refused_kept slice refuses

-- ---- of one that it has room for: the pieces before `at` are written to the first n bytes of what was d, and so many changes told
pub record Walked (list d out : List ℕ) (at n changes : ℕ) : Type 0 where
  pub fit : length list ≤ length d
  pub inside : at ≤ length list
  pub behind : n ≤ at
  pub few : changes ≤ 2 * at
  pub kept : length out ≡ length d
  pub place : n ≡ length (take n (mend_of list))
  pub ahead : drop n (mend_of list) ≡ mend_of (drop at list)
  pub so_far : out ≡ fronted (take n (mend_of list)) d
  pub lines : changes + length (lines_from at (pieces_of (drop at list))) ≡ length (changes_of list)

pub walked_none : (list d : List ℕ) → length list ≤ length d → Walked list d d 0 0 0
unfolding changes_of
walked_none list d h =
    record { fit = h; inside = omega arith; behind = le_refl 0; few = omega arith; kept = refl; place = refl; ahead = refl; so_far = refl; lines = omega arith }

-- a part that goes to a slice's end
part_end : (list : List ℕ) (at : ℕ) → take (length list - at) (drop at list) ≡ drop at list
part_end list at = take_all (length list - at) (drop at list) (rw length-drop (le_refl _))

module _ {list d out : List ℕ} {at n changes : ℕ} (before : Walked list d out at n changes) where
  pub place_within : n ≤ length out
  place_within = omega (arith, before.behind, before.inside, before.fit, before.kept)

  module _ (h : at < length list) where
    abbrev part : List ℕ
    part = take (length list - at) (drop at list)

    abbrev room : List ℕ
    room = take (length out - n) (drop n out)

    pub part_some : 0 < length part
    part_some = rw (part_end list at, length-drop at list) (omega arith)

    part_fits : length part ≤ length room
    part_fits = rw (part_end list at, part_end out n, length-drop at list, length-drop n out) (omega (arith, before.behind, before.fit, before.kept))

    module _ (p : Plan) (is : piece_for part p ≡ piece_of part) (sure : Sure part p) where
      pub piece_fits : (plan_step p).written ≤ length room
      piece_fits =
          let f = piece_within part part_some in
          omega (arith, f.there, f.short, part_fits, plan_writes part room p is sure refl)

      module _ {x : Stepped} (x_is : x ≡ plan_step p) where
        -- how far it goes
        pub taken_some : 0 < x.taken
        taken_some = omega (arith, (piece_within part part_some).some, plan_takes part room p is sure x_is)

        pub taken_inside : at + x.taken ≤ length list
        taken_inside = omega (arith, (piece_within part part_some).there, plan_takes part room p is sure x_is, ap length (part_end list at), length-drop at list)

        pub written_short : x.written ≤ x.taken
        written_short = omega (arith, (piece_within part part_some).short, plan_takes part room p is sure x_is, plan_writes part room p is sure x_is)

        -- the counts fit
        pub at_fits : length list < 2 ^ 64 → Fits w64 (at + x.taken)
        at_fits l = record { fits = omega (arith, taken_inside) }

        pub written_fits : length list < 2 ^ 64 → Fits w64 (n + x.written)
        written_fits l = record { fits = omega (arith, taken_inside, written_short, before.behind) }

        pub changes_fit : length list * 1 < 2 ^ 63 → {k : ℕ} → k ≡ length (tellings x.change) → Fits w64 (changes + k)
        changes_fit l k_is = record { fits = omega (arith, few_lines x.change, k_is, taken_some, taken_inside, before.few) }

        pub ahead_less : length list - (at + x.taken) < length list - at
        ahead_less = omega (arith, taken_some)

        pub walked_next : {last : List ℕ} → last ≡ after_call (told (piece_for part p).bytes) room → {k : ℕ} → k ≡ length (tellings x.change)
            → Walked list d (put_mid n (length out - n) out last) (at + x.taken) (n + x.written) (changes + k)
        walked_next {last} laid {k} k_is =
            let rest = drop at list in
            let same = part_end list at in
            let some : 0 < length rest = rw (← same) part_some in
            let m = mend_of list in
            let v = (piece_of rest).bytes in
            let taken : (piece_of rest).taken ≡ x.taken = ap (λ (l : List ℕ). (piece_of l).taken) (sym same) ∙ plan_takes part room p is sure x_is in
            let long : length v ≡ x.written = ap (λ (l : List ℕ). length (piece_of l).bytes) (sym same) ∙ plan_writes part room p is sure x_is in
            let change : (piece_of rest).change ≡ x.change = ap (λ (l : List ℕ). (piece_of l).change) (sym same) ∙ plan_changes part room p is sure x_is in
            let next : left rest ≡ drop (at + x.taken) list = drop-drop (piece_of rest).taken at list ∙ ap (λ (j : ℕ). drop (at + j) list) taken in
            let follows : drop n m ≡ v ++ mend_of (left rest) = before.ahead ∙ mend_more rest some in
            let grown : take (n + x.written) m ≡ take n m ++ v =
            take-add n x.written m ∙ ap (λ (l : List ℕ). take n m ++ l) (ap (take x.written) follows ∙ take_at v (mend_of (left rest)) x.written long) in
            let place : n + x.written ≡ length (take (n + x.written) m) = omega (arith, ap length grown, length-append (take n m) v, before.place, long) in
            let back : last ≡ fronted v room =
            step_fronted part room p is sure x_is (rw x_is piece_fits) laid ∙ ap (λ (l : List ℕ). fronted (piece_of l).bytes room) same in
            let so_far : put_mid n (length out - n) out last ≡ fronted (take (n + x.written) m) d =
            rw grown (fronted_back (take n m) v d out last n before.place before.so_far back) in
            let few = few_lines x.change in
            let told_here : length (lines_from at (pieces_of rest)) ≡ k + length (lines_from (at + x.taken) (pieces_of (left rest))) =
            ap length (lines_more at rest some) ∙ length-append (lines_at at (tellings (piece_of rest).change)) _
            ∙ ap₂ (λ (i j : ℕ). i + length (lines_from (at + j) (pieces_of (left rest)))) (lines_count at (tellings (piece_of rest).change) ∙ ap (λ (c : Change). length (tellings c)) change ∙ sym k_is) taken in
            record {
              fit = before.fit;
              inside = taken_inside;
              behind = omega (arith, written_short, before.behind);
              few = omega (arith, few, k_is, taken_some, before.few);
              kept = ap length so_far ∙ length_fronted (take (n + x.written) m) d (omega (arith, place, written_short, taken_inside, before.behind, before.fit));
              place = place;
              ahead = sym (drop-drop x.written n m) ∙ ap (drop x.written) follows ∙ drop_at v (mend_of (left rest)) x.written long ∙ ap mend_of next;
              so_far = so_far;
              lines = rw (← next) (omega (arith, before.lines, told_here));
            }

  -- at the end
  module _ (h : length list ≤ at) where
    none : length (drop at list) ≤ 0
    none = rw length-drop (omega arith)

    all : n ≡ length (mend_of list)
    all =
        let m = mend_of list in
        omega (arith, ap length (before.ahead ∙ mend_none (drop at list) none), length-drop n m, length-take n m, before.place)

    gives : told (mend_of list) ≡ mend_call list d
    unfolding mend_call
    gives = simp (le-ltb _ _ before.fit)

    enough : n ≤ length d
    enough = omega (arith, before.behind, before.inside, before.fit)

    pub walked_told : told (record { written = n; changes = changes }) ≡ mended_to list d
    unfolding mended_to
    walked_told =
        let lines : changes ≡ length (changes_of list) = omega (arith, before.lines, ap (λ (ps : List Piece). length (lines_from at ps)) (pieces_none (drop at list) none)) in
        rw (← whole_count d gives (sym all) enough, lines)

    pub walked_left : out ≡ after_call (mend_call list d) d
    walked_left =
        whole_stored d gives (sym all) enough
        (before.so_far ∙ ap (λ (w : List ℕ). fronted w d) (take_all n (mend_of list) (omega (arith, all))) ∙ ap (λ (k : ℕ). mend_of list ++ drop k d) (sym all))

pub ruleset walking = (mend_short, mend_kept, walked_none, place_within, part_some, piece_fits, at_fits, written_fits, changes_fit, ahead_less, walked_next, walked_told, walked_left)
