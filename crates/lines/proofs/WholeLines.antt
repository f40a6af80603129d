-- WHEN A LINE IS WHOLE: just past LF, or at the end of the input with bytes kept; never after a failure.
use mathlib.Core.Path.{◌≡◌, refl, ap, subst}
use mathlib.Core.Bool.{true, false, false≢true}
use mathlib.Core.List.{List}
use mathlib.Core.Logic.{◌⊎◌, inl, inr}
use Prim.Native.Nat.{ℕ, zero, suc, ◌-◌, ◌<◌}
use native.Mathlib.Omega.{arith}
use lib.IntN.{ℤ, pos, negsuc}
use lib.ListN.{get_or}
use Rattle.lines.specs.declared.Stop.{Stop}
use Rattle.lines.specs.declared.Stop.TheVariants.{Piece, Line, Last, End, Failed}
use Rattle.lines.specs.declared.Exchange.{Exchange}
use Rattle.lines.specs.Exchanges.{is_whole, Says, Stopped}
use Rattle.lines.specs.Inside.Steps.{end_of, at_end, after_read}

-- ---- of a read
-- one that failed leaves no line
pub failed_read_no_line : (n k : ℕ) (e : Exchange) → is_whole (after_read n (negsuc k) e).stop ≡ false
unfolding after_read
failed_read_no_line n k e = refl

kept_line : (n : ℕ) → is_whole (end_of n) ≡ true → 0 < n
kept_line zero h = absurd (false≢true h)
kept_line (suc n) h = omega arith

-- one after which a line is whole answered 0, and bytes were kept
pub whole_read_at_end : (n : ℕ) (got : ℤ) (e : Exchange) → is_whole (after_read n got e).stop ≡ true → (got ≡ pos 0) × (0 < e.kept)
unfolding after_read at_end
whole_read_at_end n (negsuc k) e h = absurd (false≢true h)
whole_read_at_end n (pos zero) e h = (refl, kept_line e.kept h)
whole_read_at_end n (pos (suc k)) e h = absurd (false≢true h)

-- ---- of a step
whole_says : (bytes : List ℕ) (e : Exchange) (s : Stop) → Says bytes e s → is_whole s ≡ true → ((s ≡ Line) × (get_or bytes (e.at - 1) 0 ≡ 10)) ⊎ ((s ≡ Last) × (0 < e.kept))
whole_says bytes e Piece h w = absurd (false≢true w)
whole_says bytes e Line h w = inl (refl, h.1)
whole_says bytes e Last h w = inr (refl, h)
whole_says bytes e End h w = absurd (false≢true w)
whole_says bytes e Failed h w = absurd (false≢true w)

-- a whole line ends in LF, or is the last of the input, of which bytes are kept
pub whole_line : (bytes : List ℕ) (e : Exchange) → Stopped bytes e → is_whole e.stop ≡ true → ((e.stop ≡ Line) × (get_or bytes (e.at - 1) 0 ≡ 10)) ⊎ ((e.stop ≡ Last) × (0 < e.kept))
whole_line bytes e h w = whole_says bytes e e.stop h w

-- an exchange that has failed has no line, nothing that is kept and nothing that is gathered
pub failed_empty : (bytes : List ℕ) (e : Exchange) → Stopped bytes e → e.stop ≡ Failed → (is_whole e.stop ≡ false) × ((e.kept ≡ 0) × (e.gathered ≡ 0))
failed_empty bytes e h failed = (ap is_whole failed, subst (Says bytes e) failed h)
