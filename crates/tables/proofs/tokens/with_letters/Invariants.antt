-- `tokens::with_letters` goes over 26 bytes, and keeps those that are letters of listed motifs.
use Rattle.tables.proofs.SourceLaws.{Listing}
use Prim.Native.Nat.{◌≤◌}
use Rattle.tables.proofs.tokens.with_letters.Given as goal

abbrev pub invariant-loop-b : goal.invariant-loop-b
invariant-loop-b l = Listing l.initial.all l.first l.all l.b × ((l.initial.all.count ≤ 26) × (l.first ≤ 97))
