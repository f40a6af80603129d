-- What a writer answers, and its buffer afterwards, at each of its tests, in the form of what the code has in hand there; and the loop that writes.
use mathlib.Core.Path.{◌≡◌, sym, ◌∙◌}
use mathlib.Core.Bool.{false}
use mathlib.Core.List.{List, ◌++◌}
use Prim.Native.Nat.{ℕ, ◌+◌, ◌^◌, ◌≤◌, ◌<◌}
use native.Mathlib.Omega.{arith}
use lib.ListN.{length, drop, get_or, set}
use borrow.Author.Tests.{le-leb, lt-leb}
use Rattle.std.specs.Prelude.{Ok, Err, Result}
use Rattle.whole.proofs.Fill.{poured, poured_more, poured_all}
use Rattle.triple.specs.declared.refusal.Refusal.{Refusal}
use Rattle.triple.specs.declared.refusal.Refusal.TheVariants as Is
use Rattle.triple.specs.Refusals.{told, refused, number_of, said}
use Rattle.triple.specs.Domain.{domain_of, position_count}
use Rattle.triple.proofs.DomainLaws.{out_of_domain, in_domain_lem, shallow, oriented, positions_are}
use Rattle.triple.specs.Lent.{count_of, after_call}
use Rattle.triple.proofs.LentLaws.{refused_count, refused_kept, short_count, short_kept, whole_count, whole_stored}
use Rattle.triple.specs.Orientations.{is_backward}
use Rattle.code.specs.Codes.{code_length, code_bytes, forward_of, code_of}
use Rattle.code.proofs.CodeLaws.{length_code}
use Rattle.code.proofs.TurnLaws.{retired, current}

-- ---- the loop that writes: the code's first k bytes stand in the place of the buffer's
module _ (o r s : ℕ) (buffer : List ℕ) (k : ℕ) {out : List ℕ} {used : ℕ} (length_is : used ≡ code_length r) (front : out ≡ poured (code_bytes o r s) k buffer) where
  pub put_more : code_length r ≤ length buffer → k < used → {b : ℕ} → b ≡ get_or (code_bytes o r s) k 0 → set out k b ≡ poured (code_bytes o r s) (k + 1) buffer
  put_more room h e = let long = length_code o r s in rw front (poured_more (code_bytes o r s) buffer k 0 _ (omega arith) (omega arith) e)

  pub put_all : k ≤ used → used ≤ k → out ≡ code_bytes o r s ++ drop (code_length r) buffer
  put_all h l = poured_all (code_bytes o r s) buffer k (code_length r) (length_code o r s) (omega arith) (omega arith) front

pub ruleset putting = (put_more, put_all)

-- ---- the tests
module _ (o r s : ℕ) (buffer : List ℕ) where
  module _ {a : Result Unit Refusal} (ea : said a ≡ domain_of o r) where
    module _ {e : Refusal} (m : a ≡ Err e) where
      outside : refused (number_of e) ≡ code_of o r s
      unfolding code_of
      outside = out_of_domain o r a ea _ m

      pub outside_refused : refused (number_of e) ≡ count_of (code_of o r s) buffer
      outside_refused = refused_count buffer outside

      pub outside_left : buffer ≡ after_call (code_of o r s) buffer
      outside_left = refused_kept buffer outside

    module _ (m : a ≡ (Ok tt)) {f : ℕ} (f_is : f ≡ forward_of o) where
      module _ (other : f ≡ o → ⊥) where
        old : refused (number_of Is.Retired) ≡ code_of o r s
        unfolding code_of
        old = simp (retired o (oriented o r a ea m) f_is other) (in_domain_lem o r a ea m _)

        pub old_refused : refused (number_of Is.Retired) ≡ count_of (code_of o r s) buffer
        old_refused = refused_count buffer old

        pub old_left : buffer ≡ after_call (code_of o r s) buffer
        old_left = refused_kept buffer old

      module _ (same : f ≡ o) {count : ℕ} (count_is : count ≡ position_count r) where
        positions : count ≡ 4 ^ r
        positions = positions_are r (shallow o r a ea m) count_is

        written : is_backward o ≡ false
        written = current o (oriented o r a ea m) f_is same

        module _ (past : count ≤ s) where
          beyond : refused (number_of Is.Position) ≡ code_of o r s
          unfolding code_of
          beyond = simp (written, le-leb (4 ^ r) s (rw positions at past)) (in_domain_lem o r a ea m _)

          pub past_refused : refused (number_of Is.Position) ≡ count_of (code_of o r s) buffer
          past_refused = refused_count buffer beyond

          pub past_left : buffer ≡ after_call (code_of o r s) buffer
          past_left = refused_kept buffer beyond

        module _ (named : s < count) where
          given : told (code_bytes o r s) ≡ code_of o r s
          unfolding code_of
          given = simp (written, lt-leb (4 ^ r) s (rw positions at named)) (in_domain_lem o r a ea m _)

          module _ {used : ℕ} (length_is : used ≡ code_length r) where
            long : length (code_bytes o r s) ≡ used
            long = length_code o r s ∙ sym length_is

            pub short_refused : length buffer < used → refused (number_of Is.Room) ≡ count_of (code_of o r s) buffer
            short_refused = short_count buffer given long

            pub short_left : length buffer < used → buffer ≡ after_call (code_of o r s) buffer
            short_left = short_kept buffer given long

            pub whole_told : used ≤ length buffer → told used ≡ count_of (code_of o r s) buffer
            whole_told = whole_count buffer given long

            pub whole_left : used ≤ length buffer → {out : List ℕ} → out ≡ code_bytes o r s ++ drop (code_length r) buffer → out ≡ after_call (code_of o r s) buffer
            whole_left room e = whole_stored buffer given long room (rw length_is e)

    pub position_named : a ≡ (Ok tt) → {count : ℕ} → count ≡ position_count r → s < count → s < 4 ^ r
    position_named m count_is named = rw (positions_are r (shallow o r a ea m) count_is) at named

pub ruleset writing = (shallow, oriented, position_named, outside_refused, outside_left, old_refused, old_left, past_refused, past_left, short_refused, short_left, whole_told, whole_left)
