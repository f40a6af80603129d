-- A5's table as the code carries it: for each state a word of its children and one of its leaves.
use Rattle.std.specs.Prelude.{ℕ, ◌*◌, ℤ, pos, ◌-ℤ◌, slice_index}
use Rattle.nodes.specs.declared.words.TheConstants.{STEP_WORDS, LEAF_WORDS}

-- four children, each in 16 bits: state in 5, then offset a and offset b, each (offset + 16) / 4, in 4
unfoldable pub step_word : ℕ → ℕ
step_word k = slice_index STEP_WORDS k

-- four leaves of 10 bits: sum a and sum b, each (sum + 28) / 4, in 4, then the flavor in 2
unfoldable pub leaf_word : ℕ → ℕ
leaf_word k = slice_index LEAF_WORDS k

-- n fours, counted from `least` below 0
unfoldable pub spread : ℕ → ℕ → ℤ
spread least n = pos (4 * n) -ℤ pos least
