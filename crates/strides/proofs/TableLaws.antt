-- The tables hold their definitions' entries: one computed test for each, of the walk's against A5's table itself and of the search's against the tiles.
use mathlib.Core.Path.{◌≡◌}
use Prim.Native.Nat.{ℕ}
use borrow.Author.Tests.{le-ltb}
use lib.Dec.{T}
use lib.ListN.{get_or}
use Rattle.arms.proofs.Array.{holds, held}
use Rattle.tables.specs.Descent.{entry}
use Rattle.a5.specs.A5Table.{a5_table}
use Rattle.a5.specs.Inside.Footprints.{before_x, before_y, begins, at_x, at_y, leaf_x, leaf_y, leaf_flavor}
use Rattle.strides.specs.declared.entries.TheConstants.{WALK_STEPS, WALK_ENDS, SEARCH_STEPS, SEARCH_ENDS}
use Rattle.strides.specs.Walks.{state_in, row_below, begin_x, begin_y, down, at_leaf, three_down, end_below, walk_step, walk_end}
use Rattle.strides.specs.Searches.{below, three_below, digits_below, search_step, search_end}
use Rattle.strides.specs.Inside.Entries.{walk_entry, end_entry, search_entry}
use Rattle.strides.specs.Inside.Tiles.{tile_words, entry_below, tile_below, digit_below, last_of}

walk_steps_right : T (holds walk_entry 0 WALK_STEPS)
unfolding holds walk_entry walk_step three_down down state_in row_below begin_x begin_y before_x before_y begins at_x at_y entry a5_table
walk_steps_right = tt

pub walk_steps_at : (i : ℕ) → get_or WALK_STEPS i 0 ≡ walk_entry i
unfolding walk_entry walk_step
walk_steps_at = held walk_entry WALK_STEPS walk_steps_right (λ i h. rw (le-ltb i 2368 h))

walk_ends_right : T (holds end_entry 0 WALK_ENDS)
unfolding holds end_entry walk_end end_below at_leaf down state_in row_below begin_x begin_y before_x before_y begins at_x at_y leaf_x leaf_y leaf_flavor entry a5_table
walk_ends_right = tt

pub walk_ends_at : (i : ℕ) → get_or WALK_ENDS i 0 ≡ end_entry i
unfolding end_entry walk_end
walk_ends_at = held end_entry WALK_ENDS walk_ends_right (λ i h. rw (le-ltb i 2368 h))

search_steps_right : T (holds search_entry 0 SEARCH_STEPS)
unfolding holds search_entry search_step three_below below tile_below digit_below entry_below tile_words
search_steps_right = tt

pub search_steps_at : (i : ℕ) → get_or SEARCH_STEPS i 0 ≡ search_entry i
unfolding search_entry search_step
search_steps_at = held search_entry SEARCH_STEPS search_steps_right (λ i h. rw (le-ltb i 2624 h))

search_ends_right : T (holds search_end 0 SEARCH_ENDS)
unfolding holds search_end digits_below three_below below tile_below digit_below entry_below tile_words last_of
search_ends_right = tt

pub search_ends_at : (i : ℕ) → get_or SEARCH_ENDS i 0 ≡ search_end i
unfolding search_end
search_ends_at = held search_end SEARCH_ENDS search_ends_right (λ i h. rw (le-ltb i 2624 h))
