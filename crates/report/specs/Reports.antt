-- Reports: triples in any order, repeated or not, as the folded area of their positions; and what the call gives and leaves.
use Rattle.std.specs.Prelude.{Bool, true, not, ◌&&◌, ◌||◌, List, [], ◌∷◌, ◌++◌, ℕ, ◌-◌, ◌*◌, ◌%◌, ◌^◌, ltb, eqb, ℤ, length, replicate}
use Rattle.triple.specs.declared.Triple.{Triple}
use Rattle.triple.specs.declared.refusal.Refusal.TheVariants as Is
use Rattle.triple.specs.Refusals.{Told, told, refused, refuse, ◌>>=◌}
use Rattle.triple.specs.Domain.{in_domain}
use Rattle.triple.specs.Triples.{good_sum, is_in_bounds}
use Rattle.triple.specs.Lent.{valued}
use Rattle.lsystem.specs.declared.Position.{Position}
use Rattle.lsystem.specs.Cells.{position_of}
use Rattle.fold.specs.Cells.{pairs}
use Rattle.fold.specs.Folds.{has, fold_of}
use Rattle.area.specs.Areas.{picked}

-- ---- triples
-- three numbers each; what is left at the end is no triple
unfoldable pub triples_in : List ℤ → List Triple
triples_in [] = []
triples_in (x ∷ []) = []
triples_in (x ∷ y ∷ []) = []
triples_in (x ∷ y ∷ z ∷ xs) = record { x = x; y = y; z = z } ∷ triples_in xs

-- all of them pass a test
unfoldable pub every : (Triple → Bool) → List Triple → Bool
every f [] = true
every f (t ∷ ts) = f t && every f ts

-- ---- their positions
abbrev pub place_in : Told Position → ℕ
place_in (told p) = p.s
place_in (refused n) = 0

unfoldable pub places_of : ℕ → ℕ → List Triple → List ℕ
places_of o r [] = []
places_of o r (t ∷ ts) = place_in (position_of o r t) ∷ places_of o r ts

-- ---- the call
-- THE PAIRS of the area that is reported: the fold of the positions of its triples
unfoldable pub report_call : ℕ → ℕ → List ℤ → Told (List ℕ)
report_call o r xs =
    in_domain o r
    (refuse (not (every good_sum (triples_in xs))) Is.Sum
    (refuse (not (every (is_in_bounds r) (triples_in xs))) Is.Bounds
    (refuse (not (eqb (length xs % 3) 0)) Is.Order
    (told (pairs (fold_of r (places_of o r (triples_in xs))))))))

-- room, which is tested last: one number of work for each triple, and two of the other slice, as many as there are where nothing folds
unfoldable pub too_short : List ℤ → List ℕ → List ℕ → Bool
too_short xs work out = ltb (length work) (length (triples_in xs)) || ltb (length out) (2 * length (triples_in xs))

-- THE PAIRS that it writes
unfoldable pub report_to : ℕ → ℕ → List ℤ → List ℕ → List ℕ → Told (List ℕ)
report_to o r xs work out = do
  area ← report_call o r xs
  refuse (too_short xs work out) Is.Room (told area)

-- those of a list's positions at resolution r, ascending, each once
unfoldable pub in_order : ℕ → List ℕ → List ℕ
in_order r xs = picked (has xs) 0 (4 ^ r)

-- and zeros behind them, up to as many as there were
unfoldable pub settled : ℕ → List ℕ → List ℕ
settled r xs = in_order r xs ++ replicate (length xs - length (in_order r xs)) 0

-- WHAT IT LEAVES in the front of work
unfoldable pub work_to : ℕ → ℕ → List ℤ → List ℕ → List ℕ → Told (List ℕ)
work_to o r xs work out = valued (λ area. settled r (places_of o r (triples_in xs))) (report_to o r xs work out)
