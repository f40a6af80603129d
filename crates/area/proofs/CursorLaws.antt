-- A cursor in an area: what the area covers from a place on up to the next place where it begins or ends, and the cursor there.
use mathlib.Core.Bool.{Bool, true, false}
use mathlib.Core.Path.{◌≡◌, refl, sym, ap, ap₂, subst, ◌∙◌}
use mathlib.Core.List.{List, ◌∷◌}
use Prim.Native.Nat.{ℕ, suc, ◌+◌, ◌-◌, ◌*◌, ◌^◌, ◌<◌, ◌≤◌}
use native.Mathlib.Nat as N
use native.Mathlib.Omega.{arith}
use lib.ListN.{length, get_or, drop}
use mir.Syntax.{w64}
use mir.Val.{Fits as WordFits}
use Rattle.whole.proofs.Digits.{four_power}
use Rattle.triple.specs.Domain.{position_count}
use Rattle.triple.proofs.DomainLaws.{positions_are}
use Rattle.fold.specs.Cells.{Cell, cell, cells_in}
use Rattle.fold.specs.Inside.Pairs.{Laid}
use Rattle.fold.proofs.PairLaws.{cells_next, cells_none}
use Rattle.fold.proofs.PairTestLaws.{ends_inside}
use Rattle.area.specs.Areas.{held, kept, keeps}
use Rattle.area.specs.Inside.Cursors.{Ahead, Reached, Stretched, Pieced}
use Rattle.area.specs.declared.operation.Operation.{Operation}
use Rattle.area.specs.declared.cursors.Stretch.{Stretch}
use Rattle.area.proofs.CellLaws.{in_cell, before_cell, after_cell, laid_clear, laid_ahead}

pub reached_start : (xs : List ℕ) → Laid 30 0 (cells_in xs) → Reached xs 0 0
reached_start xs l = record { within = omega arith; ahead = laid_ahead 30 0 (cells_in xs) l; same = λ s h. refl }

module _ (xs : List ℕ) (place i : ℕ) (got : Reached xs place i) where
  -- the cursor stays where the cell at it does not end
  keep : (s : ℕ) → place ≤ s → Ahead 30 s (cells_in (drop i xs)) → Reached xs s i
  keep s h a = record { within = got.within; ahead = a; same = λ t l. got.same t (omega arith) }

  pub stretch_none : length xs - i < 2 → place < 4 ^ 30 + 1 → Stretched xs place i (record { inside = false; end = 1152921504606846977; next = i })
  unfolding held
  stretch_none h l =
      let e = cells_none xs i h in
      let a : (s : ℕ) → Ahead 30 s (cells_in (drop i xs)) = λ s. rw e tt in
      record {
        more = l;
        most = N.le_refl _;
        level = λ s j k. sym (got.same s j) ∙ rw e refl;
        stays = λ s j k. keep s j (a s);
        moves = keep _ (omega arith) (a _);
      }

  module _ (h : 2 ≤ length xs - i) where
    abbrev m : ℕ
    m = get_or xs i 0

    abbrev p : ℕ
    p = get_or xs (i + 1) 0

    abbrev rest : List Cell
    rest = cells_in (drop (i + 2) xs)

    next : cells_in (drop i xs) ≡ cell m p ∷ rest
    next = cells_next xs i h

    front : Ahead 30 place (cell m p ∷ rest)
    front = subst (Ahead 30 place) next got.ahead

    pub stretch_shallow : m ≤ 30
    stretch_shallow = front.0

    module _ {n : ℕ} (size : n ≡ position_count (30 - m)) where
      e : n ≡ 4 ^ (30 - m)
      e = positions_are (30 - m) (omega arith) size

      stretch_ends : p * n + n ≤ 4 ^ 30
      stretch_ends = omega (arith, e, N.suc-mul p (4 ^ (30 - m)), ends_inside 30 m p front.0 front.1, ap (λ (x : ℕ). p * x) e)

      pub first_fits : WordFits w64 (p * n)
      first_fits = omega (arith, stretch_ends)

      pub end_fits : WordFits w64 (p * n + n)
      end_fits = omega (arith, stretch_ends)

      pub stretch_before : place < p * n → Stretched xs place i (record { inside = false; end = p * n; next = i })
      unfolding held
      stretch_before l =
          let f : p * n ≡ p * 4 ^ (30 - m) = ap (λ (x : ℕ). p * x) e in
          let w = stretch_ends in
          let z = four_power (30 - m) in
          let q = N.suc-mul p (4 ^ (30 - m)) in
          let a : (s : ℕ) → s ≤ p * n → Ahead 30 s (cells_in (drop i xs)) = λ s j. subst (Ahead 30 s) (sym next) (front.0, front.1, omega arith, front.3) in
          record {
            more = l;
            most = omega arith;
            level = λ s j k. sym (got.same s j) ∙ rw (next, before_cell (30 - m) p s (omega arith)) (laid_clear 30 _ rest s front.3 (omega arith));
            stays = λ s j k. keep s j (a s (omega arith));
            moves = keep _ (omega arith) (a _ (N.le_refl _));
          }

      pub stretch_within : p * n ≤ place → Stretched xs place i (record { inside = true; end = p * n + n; next = i + 2 })
      unfolding held
      stretch_within l =
          let f : p * n ≡ p * 4 ^ (30 - m) = ap (λ (x : ℕ). p * x) e in
          let w = stretch_ends in
          let q = N.suc-mul p (4 ^ (30 - m)) in
          let g : suc p * 4 ^ (30 - m) ≡ p * n + n = omega (arith, e) in
          record {
            more = omega (arith, front.2);
            most = omega arith;
            level = λ s j k. sym (got.same s j) ∙ rw (next, in_cell (30 - m) p s (omega arith) (omega arith)) refl;
            stays = λ s j k. keep s j (subst (Ahead 30 s) (sym next) (front.0, front.1, omega arith, front.3));
            moves = record {
              within = omega arith;
              ahead = laid_ahead 30 _ rest (subst (λ (x : ℕ). Laid 30 x rest) g front.3);
              same = λ s j. (let d : held 30 (cells_in (drop i xs)) s ≡ held 30 rest s = rw (next, after_cell (30 - m) p s (omega arith)) refl in sym d ∙ got.same s (omega (arith, front.2)));
            };
          }

pub ruleset stretching = (stretch_none, stretch_shallow, first_fits, end_fits, stretch_before, stretch_within)

-- ---- two areas
module _ (o : Operation) (a b : List ℕ) (place i j : ℕ) {x y : Stretch} (f : Stretched a place i x) (g : Stretched b place j y) {w : Bool} (kept_is : w ≡ kept o x.inside y.inside) where
  flat : (s : ℕ) → place ≤ s → s < x.end → s < y.end → keeps 30 o (cells_in a) (cells_in b) s ≡ w
  unfolding keeps
  flat s h d e = ap₂ (kept o) (f.level s h d) (g.level s h e) ∙ sym kept_is

  pub piece_first : x.end < y.end → Pieced o a b place (record { inside = w; end = x.end; i = x.next; j = j })
  piece_first h =
      record { more = f.more; most = f.most; level = λ s d e. flat s d e (omega arith); left = f.moves; right = g.stays x.end (N.le_of_lt f.more) h }

  pub piece_second : y.end < x.end → Pieced o a b place (record { inside = w; end = y.end; i = i; j = y.next })
  piece_second h =
      record { more = g.more; most = g.most; level = λ s d e. flat s d (omega arith) e; left = f.stays y.end (N.le_of_lt g.more) h; right = g.moves }

  pub piece_both : y.end ≤ x.end → x.end ≤ y.end → Pieced o a b place (record { inside = w; end = x.end; i = x.next; j = y.next })
  piece_both h l =
      let same : y.end ≡ x.end = omega arith in
      record { more = f.more; most = f.most; level = λ s d e. flat s d e (omega arith); left = f.moves; right = subst (λ (n : ℕ). Reached b n y.next) same g.moves }

pub ruleset piecing = (piece_first, piece_second, piece_both)
