-- A buffer of 4609 bytes whose part from a place on was lent to a read: it is as long as before, and what was read lies within it.
use mathlib.Core.Path.{◌≡◌, ◌∙◌}
use mathlib.Core.List.{List}
use Prim.Native.Nat.{ℕ, ◌+◌, ◌-◌, ◌≤◌}
use native.Mathlib.Omega.{arith}
use lib.ListN.{length, take, drop, length-take, length-drop}
use borrow.Rule.Slice.PartMut.{put_mid, same_len_mid}

module _ (n : ℕ) (list last : List ℕ) (kept : length last ≡ length (take (4609 - n) (drop n list))) (long : length list ≡ 4609) where
  pub buffer_long : length (put_mid n (4609 - n) list last) ≡ 4609
  buffer_long = same_len_mid n (4609 - n) list last kept ∙ long

  pub read_within : {count : ℕ} → n ≤ length list → count ≤ length (take (4609 - n) (drop n list)) → n + count ≤ length (put_mid n (4609 - n) list last)
  read_within inside few = rw buffer_long (omega (arith, few, length-take (4609 - n) (drop n list), length-drop n list))

pub ruleset room = (buffer_long, read_within)
