-- A triple by its three numbers, and what the tests of a report tell.
use Rattle.std.specs.Prelude.{true, ◌≡◌, List, ℕ, ◌≤◌, ℤ, pos, get_or}
use Rattle.triple.specs.declared.Triple.{Triple}
use Rattle.triple.specs.Triples.{good_sum, is_in_bounds}
use Rattle.report.specs.Reports.{triples_in, every}

abbrev pub triple_of : List ℤ → Triple
triple_of xs = record { x = get_or xs 0 (pos 0); y = get_or xs 1 (pos 0); z = get_or xs 2 (pos 0) }

-- a report that has passed its tests
pub record Reported (o r : ℕ) (xs : List ℤ) : Type 0 where
  pub shallow : r ≤ 30
  pub oriented : o ≤ 5
  pub good : every good_sum (triples_in xs) ≡ true
  pub bounded : every (is_in_bounds r) (triples_in xs) ≡ true
