-- What comes of a call that writes a word: the call is `told` the word, and Lent has its count and the buffer afterwards.
use Rattle.std.specs.Prelude.{ℕ}
use Rattle.triple.specs.Refusals.{Told, told, refused}

-- how many bytes that is; none of a refused call
abbrev pub written : Told ℕ → ℕ
written (told n) = n
written (refused e) = 0
