-- THE DRAWING: of every text that is accepted, the descent over its table gives the cell at each place of the full drawing, and the drawing
-- has exactly 4 ^ r cells. What the tests say of the text is `grammar`'s `accepted` and `linked`; that the table follows the drawing, `Follow`'s.
use mathlib.Core.Path.{◌≡◌}
use mathlib.Core.List.{List}
use Prim.Native.Nat.{ℕ, suc, ◌*◌, ◌^◌, ◌<◌}
use lib.ListN.{length, get_or}
use Rattle.turtle.specs.Plane.{origin}
use Rattle.grammar.specs.Texts.{lines_of}
use Rattle.grammar.specs.Curves.{drawing, token_bytes, letter_of}
use Rattle.grammar.specs.Tests.{fine}
use Rattle.grammar.proofs.Meaning.{accepted, linked}
use Rattle.tables.specs.Children.{no_cell}
use Rattle.tables.specs.Table.{table_of, leaf_of}
use Rattle.tables.specs.Descent.{follow}
use Rattle.tables.specs.Verdicts.{split_tests, verdict}
use Rattle.tables.proofs.Follow as Follow

module _ (text : List ℕ) (p : verdict text ≡ fine) where
  -- the token m, r passes
  pub drawing_length : (r m : ℕ) → m < length (token_bytes (lines_of text)) → length (drawing (lines_of text) r (letter_of (lines_of text) m)) ≡ 4 ^ r
  unfolding verdict
  drawing_length = Follow.drawing_length (lines_of text) (accepted text (split_tests (lines_of text)) p) (linked text (split_tests (lines_of text)) p)

  -- the token m, r + 1 passes, the place s
  pub descent_is_drawing : (r m s : ℕ) → m < length (token_bytes (lines_of text)) → s < 4 ^ suc r
      → follow (table_of (lines_of text)) r origin (2 * m) s ≡ leaf_of (get_or (drawing (lines_of text) (suc r) (letter_of (lines_of text) m)) s no_cell)
  unfolding verdict
  descent_is_drawing = Follow.follow_is_drawing (lines_of text) (accepted text (split_tests (lines_of text)) p) (linked text (split_tests (lines_of text)) p)
