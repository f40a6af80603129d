-- So many words lie before the place; the word that is sought is as many fewer from there on.
use mathlib.Core.Path.{◌≡◌}
use mathlib.Core.List.{[]}
use Prim.Native.Nat.{◌-◌, ◌≤◌}
use lib.ListN.{length, get_or, drop}
use Rattle.text.specs.Words.{words_of}
use Rattle.text.proofs.words.start.Given as goal

abbrev pub invariant-loop : goal.invariant-loop
invariant-loop l = (l.at ≤ length l.line) × (get_or (words_of (drop l.at l.line)) (l.k - l.counter) [] ≡ get_or (words_of l.line) l.k [])
