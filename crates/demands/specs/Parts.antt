-- WHAT WAS ASKED OF PARTS OF A TABLE: a grammar's table from any entry on, beside others in the same lent table. A part is so many states, 41 numbers
-- each, from its start on.
use Rattle.std.specs.Prelude.{◌≡◌, ◌↔◌, ◌⊎◌, List, ℕ, ◌+◌, ◌*◌, ◌/◌, ◌^◌, ◌<◌, ◌≤◌, ℤ, pos, length, get_or}
use Rattle.triple.specs.Refusals.{told, refused}
use Rattle.turtle.specs.declared.walk.DrawnCell.{DrawnCell}
use Rattle.grammar.specs.Texts.{lines_of}
use Rattle.grammar.specs.Curves.{drawing, token_bytes, letter_of}
use Rattle.grammar.specs.Tests.{fine, fault}
use Rattle.tables.specs.Children.{no_cell}
use Rattle.tables.specs.Table.{leaf_of}
use Rattle.tables.specs.Compiler.{faulty, compiled_to, after_compile}
use Rattle.tables.specs.Compiler as Compiler
use Rattle.tables.specs.Descent.{descent_in}
use Rattle.tables.specs.Verdicts.{verdict}

-- the full drawing of a text: r passes from the starting motif that is the token m
abbrev pub full_drawing : List ℕ → ℕ → ℕ → List DrawnCell
full_drawing text r m = drawing (lines_of text) r (letter_of (lines_of text) m)

-- with 1 to 30 passes, any starting motif and any s below 4 ^ r, the descent in a part of a table gives the cell at that place of a text's drawing
abbrev pub Draws : List ℕ → List ℤ → ℕ → ℕ → Type 0
Draws text table start n = (r m s : ℕ) → 1 ≤ r → r ≤ 30 → m < n / 2 → s < 4 ^ r → descent_in table start n r m s ≡ told (leaf_of (get_or (full_drawing text r m) s no_cell))

-- an entry outside a part; two parts that have no entry in common
abbrev pub Outside : ℕ → ℕ → ℕ → Type 0
Outside start n i = (i < start) ⊎ (start + 41 * n ≤ i)

abbrev pub Apart : ℕ → ℕ → ℕ → ℕ → Type 0
Apart start n other m = (start + 41 * n ≤ other) ⊎ (other + 41 * m ≤ start)

-- of a text that the compiler answers with n states, from an entry on
pub record Grammar (text : List ℕ) (table : List ℤ) (start n : ℕ) : Type 0 where
  -- that is two states for each token
  pub count : n ≡ 2 * length (token_bytes (lines_of text))
  -- the full drawing has exactly 4 ^ r cells
  pub cells : (r m : ℕ) → m < n / 2 → length (full_drawing text r m) ≡ 4 ^ r
  -- what the compiler leaves in the part, descended there, gives it
  pub drawn : Draws text (after_compile text table start) start n
  -- all entries outside the part are as they were, and there are as many as there were
  pub outside : (i : ℕ) → Outside start n i → get_or (after_compile text table start) i (pos 0) ≡ get_or table i (pos 0)
  pub long : length (after_compile text table start) ≡ length table

-- two tables of one length that agree in a part, however they differ outside it
pub record AgreeIn (start n : ℕ) (t u : List ℤ) : Type 0 where
  pub long : length t ≡ length u
  pub same : (i : ℕ) → start ≤ i → i < start + 41 * n → get_or t i (pos 0) ≡ get_or u i (pos 0)

pub record Parts : Type 0 where
  -- a descent is refused by 26 exactly when the part's start or its end is past the table, whatever its other arguments are
  pub past : (table : List ℤ) (start n r token s : ℕ) → (descent_in table start n r token s ≡ refused 26) ↔ ((length table < start) ⊎ (length table < start + 41 * n))
  -- in the compiler a fault of the text comes before it
  pub faults_first : (text : List ℕ) (table : List ℤ) (start n line : ℕ) → verdict text ≡ fault n line → compiled_to text table start ≡ faulty n line
  -- and an accepted text is refused by 26 exactly when the part's start or its end is past the table
  pub compiler_past : (text : List ℕ) (table : List ℤ) (start : ℕ) → verdict text ≡ fine
      → (compiled_to text table start ≡ Compiler.refused 26) ↔ ((length table < start) ⊎ (length table < start + 41 * (2 * length (token_bytes (lines_of text)))))
  -- two runs whose tables agree in a part and whose arguments agree have the same answers: of the compiler
  pub compiler_same : (text : List ℕ) (t u : List ℤ) (start n : ℕ) → AgreeIn start n t u → compiled_to text t start ≡ compiled_to text u start
  -- which leaves tables that agree there again
  pub tables_same : (text : List ℕ) (t u : List ℤ) (start n : ℕ) → AgreeIn start n t u → AgreeIn start n (after_compile text t start) (after_compile text u start)
  -- and of the descent
  pub descent_same : (t u : List ℤ) (start n r token s : ℕ) → AgreeIn start n t u → descent_in t start n r token s ≡ descent_in u start n r token s

-- of two grammars, compiled one after the other into parts of one table that have no entry in common: each still gives its drawing
pub record TwoGrammars (text other : List ℕ) (table : List ℤ) (start n place m : ℕ) : Type 0 where
  pub first : Draws text (after_compile other (after_compile text table start) place) start n
  pub second : Draws other (after_compile other (after_compile text table start) place) place m
