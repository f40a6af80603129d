-- A row cut at its spaces, and the first row of a text, by the places of the bytes that they are cut at.
use Rattle.std.specs.Prelude.{◌≡◌, true, false, List, ◌∷◌, ℕ, suc, ◌+◌, ◌-◌, ◌≤◌, ◌<◌, length, get_or, take, drop, Option, Some, None}
use Rattle.grammar.specs.Texts.{Row, shaped, line_of, rows_of}

-- ---- the first row of a text t
abbrev pub ended : List ℕ → Row
ended w = record { bytes = w; ended = true }

-- a line that has n bytes before its LF, k of them its rule's
pub record Cut (t : List ℕ) (k n : ℕ) : Type 0 where
  pub rows : rows_of t ≡ ended (take n t) ∷ rows_of (drop (suc n) t)
  pub good : shaped (ended (take n t)) ≡ true
  pub line : line_of (ended (take n t)) ≡ record { name = get_or t 0 0; rule = take k (drop 2 t); draw = take (n - (k + 3)) (drop (k + 3) t) }
  pub rule_fits : k ≤ 24
  pub draw_fits : n ≤ k + 15
  pub long : k + 3 < n
  pub inside : n < length t

-- a row of three fields of good sizes: n bytes, k of them its rule's
pub record Three (w : List ℕ) (k n : ℕ) : Type 0 where
  pub size : n ≡ length w
  pub good : shaped (ended w) ≡ true
  pub line : line_of (ended w) ≡ record { name = get_or w 0 0; rule = take k (drop 2 w); draw = drop (k + 3) w }
  pub rule_fits : k ≤ 24
  pub draw_fits : n ≤ k + 15
  pub long : k + 3 < n

abbrev pub WholeRow : List ℕ → Option (ℕ × ℕ) → Type 0
WholeRow w (Some (k, n)) = Three w k n
WholeRow w None = shaped (ended w) ≡ false

pub record Misshapen (t : List ℕ) : Type 0 where
  pub row : Row
  pub rest : List Row
  pub rows : rows_of t ≡ row ∷ rest
  pub bad : shaped row ≡ false

abbrev pub FirstRow : List ℕ → Option (ℕ × ℕ) → Type 0
FirstRow t (Some (k, n)) = Cut t k n
FirstRow t None = Misshapen t
