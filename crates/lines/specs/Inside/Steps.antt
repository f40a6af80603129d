-- The parts of a step, one after the other.
use Rattle.std.specs.Prelude.{◌≡◌, true, List, ℕ, zero, suc, ℤ, pos, negsuc, min, Option, None, Some}
use Rattle.lines.specs.declared.Stop.{Stop}
use Rattle.lines.specs.declared.Stop.TheVariants.{Piece, Last, End, Failed}
use Rattle.lines.specs.declared.Exchange.{Exchange}
use Rattle.lines.specs.Exchanges.{is_over, Within, Stopped}

-- in the midst of a line
abbrev pub amid : ℕ → ℕ → ℕ → ℕ → Exchange
amid at end kept gathered = record { at = at; end = end; kept = kept; gathered = gathered; stop = Piece }

-- with nothing more to be read
abbrev pub ended : ℕ → ℕ → Stop → Exchange
ended kept gathered stop = record { at = 0; end = 0; kept = kept; gathered = gathered; stop = stop }

-- the end of the input is the end of a line of which bytes are kept
abbrev pub end_of : ℕ → Stop
end_of zero = End
end_of (suc n) = Last

-- what is there at the end of the input
unfoldable pub at_end : Exchange → Exchange
at_end e = ended e.kept e.gathered (end_of e.kept)

-- what a READ answered, brought into `0..=most`
abbrev pub clamp_len : ℤ → ℕ → ℕ
clamp_len (pos k) most = min k most
clamp_len (negsuc k) most = 0

-- what a READ gave, as its answer: -1 where it gave nothing
abbrev pub count_of : Option ℕ → ℤ
count_of None = negsuc 0
count_of (Some n) = pos n

-- A READ's answer: -1 where it failed, 0 at the end of the input, or how many bytes of the next piece
unfoldable pub after_read : ℕ → ℤ → Exchange → Exchange
after_read piece (negsuc n) e = ended 0 0 Failed
after_read piece (pos zero) e = at_end e
after_read piece (pos (suc n)) e = amid 0 (clamp_len (pos (suc n)) piece) e.kept e.gathered

-- after a part of a step: each place inside its limit and, where the exchange is over, what its stop says, whatever the piece
pub record Sound (piece line out : ℕ) (e : Exchange) : Type 0 where
  pub within : Within piece line out e
  pub settled : (bytes : List ℕ) → is_over e.stop ≡ true → Stopped bytes e
