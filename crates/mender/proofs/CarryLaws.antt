-- A walk along a piece: what was written so far is followed by what the rest gives, whatever comes after the piece.
use Rattle.std.specs.Prelude.{Result}
use Rattle.std.proofs.Common.{◌≡◌, ℕ, ◌+◌, ◌-◌, ◌^◌, ◌<◌, ◌≤◌, Bool, true, false, List, [], ◌++◌, length, take, drop, sym, refl, ap, ◌∙◌, append_assoc, append-nil, le_refl, arith, length-append, length-drop, take_all, drop-drop, take_at, w64, Fits}
use borrow.Rule.Slice.PartMut.{put_mid}
use Rattle.whole.proofs.Fill.{fronted, length_fronted, fronted_back}
use Rattle.triple.specs.Refusals.{told, said}
use Rattle.triple.specs.declared.refusal.Refusal.{Refusal}
use Rattle.triple.specs.Lent.{after_call}
use Rattle.triple.proofs.LentLaws.{whole_count, whole_stored}
use Rattle.mend.specs.declared.Stepped.{Stepped}
use Rattle.mend.specs.Mends.{longest_code, piece_of, mend_of, step_of}
use Rattle.mend.proofs.PieceLaws.{piece_within}
use Rattle.mend.proofs.Fronts.{piece_front, mend_goes_on}
use Rattle.mender.specs.Carries.{Carried}
use Rattle.mender.specs.Inside.Steps.{limit_of, Given, whole_step}

-- ---- the limit of a piece
pub limit_inside : (last : Bool) (n : ℕ) {limit : ℕ} → limit ≡ limit_of last n → limit ≤ n
limit_inside true n e = omega (arith, e)
limit_inside false n e = omega (arith, e)

-- ---- a step with room is never refused
module _ (rest slice : List ℕ) (h : length (piece_of rest).bytes ≤ length slice) where
  step_roomy : step_of rest slice ≡ told (whole_step rest)
  unfolding step_of
  step_roomy = rw (← whole_count slice {values = (piece_of rest).bytes} refl refl h)

  pub step_given : (a : Result Stepped Refusal) → said a ≡ step_of rest slice → {x : Stepped} → Given (said a) x → x ≡ whole_step rest
  step_given a says {x} given = given (whole_step rest) (says ∙ step_roomy)

  step_fronts : {back : List ℕ} → back ≡ after_call (told (piece_of rest).bytes) slice → back ≡ fronted (piece_of rest).bytes slice
  step_fronts laid = laid ∙ sym (whole_stored slice {values = (piece_of rest).bytes} refl refl h refl)

-- ---- a walk so far
pub record Under (piece d out : List ℕ) (last : Bool) (at n : ℕ) : Type 0 where
  pub fit : length piece ≤ length d
  pub inside : at ≤ length piece
  pub behind : n ≤ at
  pub bytes : List ℕ
  pub place : n ≡ length bytes
  pub so_far : out ≡ fronted bytes d
  pub kept : length out ≡ length d
  pub ahead : (more : List ℕ) → (last ≡ true → more ≡ []) → mend_of (piece ++ more) ≡ bytes ++ mend_of (drop at piece ++ more)

pub under_none : (piece d : List ℕ) (last : Bool) → length piece ≤ length d → Under piece d d last 0 0
under_none piece d last h = record { fit = h; inside = omega arith; behind = le_refl 0; bytes = []; place = refl; so_far = refl; kept = refl; ahead = λ more e. refl }

-- a part that goes to a slice's end
part_end : (list : List ℕ) (at : ℕ) → take (length list - at) (drop at list) ≡ drop at list
part_end list at = take_all (length list - at) (drop at list) (rw length-drop (le_refl _))

-- within the limit a piece is the same with what comes
piece_same : (last : Bool) (piece : List ℕ) (at limit : ℕ) → limit ≡ limit_of last (length piece) → at < limit
    → (more : List ℕ) → (last ≡ true → more ≡ []) → piece_of (drop at piece ++ more) ≡ piece_of (drop at piece)
piece_same true piece at limit e h more none = rw (none refl) (ap piece_of (append-nil (drop at piece)))
piece_same false piece at limit e h more none = piece_front (drop at piece) more (rw (length-drop at piece) (omega (arith, e)))

module _ {piece d out : List ℕ} {last : Bool} {at n : ℕ} (before : Under piece d out last at n) where
  pub place_within : n ≤ length out
  place_within = omega (arith, before.behind, before.inside, before.fit, before.kept)

  module _ {limit : ℕ} (limit_is : limit ≡ limit_of last (length piece)) (h : at < limit) where
    pub at_within : at ≤ length piece
    at_within = before.inside

    abbrev part : List ℕ
    part = take (length piece - at) (drop at piece)

    abbrev room : List ℕ
    room = take (length out - n) (drop n out)

    part_some : 0 < length part
    part_some = rw (part_end piece at, length-drop at piece) (omega (arith, limit_inside last (length piece) limit_is))

    pub part_fits : length (piece_of part).bytes ≤ length room
    part_fits =
        let f = piece_within part part_some in
        rw (part_end out n, length-drop n out) (omega (arith, f.there, f.short, ap length (part_end piece at), length-drop at piece, before.behind, before.fit, before.inside, before.kept))

    module _ {x : Stepped} (x_is : x ≡ whole_step part) where
      taken : (piece_of part).taken ≡ x.taken
      taken = ap (λ (y : Stepped). y.taken) (sym x_is)

      written : length (piece_of part).bytes ≡ x.written
      written = ap (λ (y : Stepped). y.written) (sym x_is)

      taken_inside : at + x.taken ≤ length piece
      taken_inside = omega (arith, (piece_within part part_some).there, taken, ap length (part_end piece at), length-drop at piece, before.inside)

      written_short : x.written ≤ x.taken
      written_short = omega (arith, (piece_within part part_some).short, taken, written)

      pub at_fits : length piece < 2 ^ 64 → Fits w64 (at + x.taken)
      at_fits l = record { fits = omega (arith, taken_inside) }

      pub written_fits : length piece < 2 ^ 64 → Fits w64 (n + x.written)
      written_fits l = record { fits = omega (arith, taken_inside, written_short, before.behind) }

      pub ahead_less : length piece - (at + x.taken) < length piece - at
      ahead_less = omega (arith, (piece_within part part_some).some, taken, taken_inside)

      pub under_next : {back : List ℕ} → back ≡ after_call (told (piece_of part).bytes) room → Under piece d (put_mid n (length out - n) out back) last (at + x.taken) (n + x.written)
      under_next {back} laid =
          let rest = drop at piece in
          let same = part_end piece at in
          let some : 0 < length rest = rw (← same) part_some in
          let v = (piece_of rest).bytes in
          let long : length v ≡ x.written = ap (λ (l : List ℕ). length (piece_of l).bytes) (sym same) ∙ written in
          let takes : (piece_of rest).taken ≡ x.taken = ap (λ (l : List ℕ). (piece_of l).taken) (sym same) ∙ taken in
          let next : drop (piece_of rest).taken rest ≡ drop (at + x.taken) piece = drop-drop (piece_of rest).taken at piece ∙ ap (λ (j : ℕ). drop (at + j) piece) takes in
          let fronts : back ≡ fronted v room =
          step_fronts part room part_fits laid ∙ ap (λ (l : List ℕ). fronted (piece_of l).bytes room) same in
          let so_far : put_mid n (length out - n) out back ≡ fronted (before.bytes ++ v) d = fronted_back before.bytes v d out back n before.place before.so_far fronts in
          let grown = length-append before.bytes v in
          record {
            fit = before.fit;
            inside = taken_inside;
            behind = omega (arith, written_short, before.behind);
            bytes = before.bytes ++ v;
            place = omega (arith, grown, before.place, long);
            so_far = so_far;
            kept = ap length so_far ∙ length_fronted (before.bytes ++ v) d (omega (arith, grown, before.place, long, written_short, taken_inside, before.behind, before.fit));
            ahead = λ more none.
                before.ahead more none
                ∙ ap (λ (l : List ℕ). before.bytes ++ l)
                (mend_goes_on rest more some (piece_same last piece at limit limit_is h more none) ∙ ap (λ (l : List ℕ). v ++ mend_of (l ++ more)) next)
                ∙ sym (append_assoc before.bytes v (mend_of (drop (at + x.taken) piece ++ more)));
          }

  -- at the limit
  module _ {limit : ℕ} (limit_is : limit ≡ limit_of last (length piece)) (h : limit ≤ at) where
    all_taken : (b : Bool) → last ≡ b → b ≡ true → at ≡ length piece
    all_taken true e t = omega (arith, before.inside, limit_is ∙ ap (λ (b : Bool). limit_of b (length piece)) e)
    all_taken false e t = cc

    few_left : (b : Bool) → last ≡ b → length piece - at < longest_code
    few_left true e = omega (arith, before.inside, limit_is ∙ ap (λ (b : Bool). limit_of b (length piece)) e)
    few_left false e = omega (arith, before.inside, limit_is ∙ ap (λ (b : Bool). limit_of b (length piece)) e)

    pub carried : Carried piece out last (record { taken = at; written = n })
    carried =
        record {
          inside = before.inside;
          room = place_within;
          mends = λ more none.
              before.ahead more none
              ∙ ap (λ (l : List ℕ). l ++ mend_of (drop at piece ++ more))
              (sym (ap (take n) before.so_far ∙ take_at before.bytes (drop (length before.bytes) d) n (sym before.place)));
          all = λ e. all_taken last refl e;
          few = few_left last refl;
        }

pub ruleset carrying = (under_none, place_within, at_within, part_fits, at_fits, written_fits, ahead_less, under_next, carried)
