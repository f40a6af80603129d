-- A CODE that was written reads back: `code`'s laws, and its length, which is the last thing that the writer answers.
use mathlib.Core.Path.{◌≡◌, sym, ap, ◌∙◌}
use mathlib.Core.List.{List}
use Prim.Native.Nat.{ℕ}
use lib.ListN.{length, drop}
use lib.Seq.{drop_at}
use Rattle.triple.specs.Refusals.{told}
use Rattle.triple.specs.Lent.{count_of, after_call}
use Rattle.triple.proofs.LentLaws.{wrote}
use Rattle.code.specs.Codes.{code_length, code_of}
use Rattle.code.proofs.CodeLaws.{length_code}
use Rattle.code.proofs.RoundTrip.{coded, written_read_back}
use Rattle.demands.specs.Demands.{Code}

module _ (o r s : ℕ) (buffer : List ℕ) (n : ℕ) (e : count_of (code_of o r s) buffer ≡ told n) where
  count : n ≡ code_length r
  count = let w = wrote (code_of o r s) buffer e in sym w.count ∙ ap length (coded o r s w.gave).bytes ∙ length_code o r s

  past : drop n (after_call (code_of o r s) buffer) ≡ drop n buffer
  past = let w = wrote (code_of o r s) buffer e in ap (drop n) w.stored ∙ drop_at w.values _ n w.count

  pub code : Code o r s buffer n
  unfolding code_length
  code = record { long = count; past = past; back = written_read_back o r s buffer n e }
