-- A5's children, offsets and leaves, as its grammar has them, are those of its table, which is compiled from its text; and they are small.
use mathlib.Core.Path.{◌≡◌, refl}
use mathlib.Core.Bool.{Bool}
use mathlib.Core.List.{List, [], ◌∷◌}
use Prim.Native.Nat.{ℕ, ◌<◌}
use lib.Dec.{T}
use lib.ListN.{length}
use lib.IntN.{pos, nat_abs}
use Rattle.whole.proofs.Claims.{Claim, le, Hold, below, all, each}
use Rattle.turtle.specs.Plane.{signed, flipped}
use Rattle.text.specs.Words.{words_of as fields_of}
use Rattle.grammar.specs.Texts.{rows_of, line_of, lines_of}
use Rattle.grammar.specs.Curves.{token_bytes}
use Rattle.tables.specs.Children.{child, offset, leaf}
use Rattle.tables.specs.Table.{state_of, flavor_number}
use Rattle.tables.specs.Descent.{entry, child_at, offset_at, sum_at, flavor_at}
use Rattle.tables.proofs.Entries.{child_entry, offset_entry, sum_entry, flavor_entry}
use Rattle.a5.specs.A5.{a5_text, a5}
use Rattle.a5.specs.A5Table.{a5_table}
use Rattle.a5.proofs.A5Compiled.{a5_table_is}

-- ---- A5's fourteen tokens
abbrev pub bytes : List ℕ
bytes = 65 ∷ 66 ∷ 67 ∷ 77 ∷ 80 ∷ 81 ∷ 82 ∷ 97 ∷ 98 ∷ 99 ∷ 109 ∷ 112 ∷ 113 ∷ 114 ∷ []

pub tokens_are : token_bytes a5 ≡ bytes
unfolding rows_of fields_of line_of lines_of token_bytes a5_text a5
tokens_are = refl

pub token_count : length (token_bytes a5) ≡ 14
token_count = rw tokens_are

-- ---- what the table has for the child and the leaf d of the token m, flipped or not
module _ (m : ℕ) (f : Bool) (d : ℕ) (h : m < 14) (l : d < 4) where
  listed : m < length (token_bytes a5)
  listed = rw token_count h

  pub child_state : child_at a5_table (state_of m f) d ≡ pos (state_of (child a5 m d).token (flipped f (child a5 m d).flip))
  unfolding a5
  child_state = rw (← a5_table_is) (child_entry a5 m f listed d l)

  pub child_offset : offset_at a5_table (state_of m f) d ≡ signed f (offset a5 m d)
  unfolding a5
  child_offset = rw (← a5_table_is) (offset_entry a5 m f listed d l)

  pub leaf_sum : sum_at a5_table (state_of m f) d ≡ (leaf a5 m f d).sum
  unfolding a5
  leaf_sum = rw (← a5_table_is) (sum_entry a5 m f listed d l)

  pub leaf_flavor_lem : flavor_at a5_table (state_of m f) d ≡ flavor_number (leaf a5 m f d).flavor
  unfolding a5
  leaf_flavor_lem = rw (← a5_table_is) (flavor_entry a5 m f listed d l)

-- ---- the leaves' sums are small
abbrev pub Leaf : ℕ → ℕ → List Claim
Leaf k d = le (nat_abs (sum_at a5_table k d).a) 32 ∷ le (nat_abs (sum_at a5_table k d).b) 32 ∷ []

leaf_all : T (all 28 4 Leaf)
unfolding all below entry a5_table
leaf_all = tt

pub leaf_small : (k d : ℕ) → k < 28 → d < 4 → Hold (Leaf k d)
leaf_small = each 28 4 Leaf leaf_all
