-- Test 20 line by line, in the form of what the code has in hand: the tokens of a line's motif and of its lowercase form.
use mathlib.Core.Path.{◌≡◌, refl, sym, ap, ◌∙◌, subst}
use mathlib.Core.Bool.{Bool, true, false, not, ◌||◌}
use mathlib.Core.List.Memᴰ
use mathlib.Core.List.{List, [], ◌∷◌, Memᴰ}
use mathlib.Core.Logic.{◌⊎◌, inl, inr}
use Prim.Native.Nat.{ℕ, ◌+◌, ◌<◌, ◌≤◌, min}
use native.Mathlib.Nat.{zero-add}
use native.Mathlib.Omega.{arith}
use lib.Dec.{T, eqb}
use lib.ListN.{length, get_or}
use mir.Syntax.{w8}
use mir.Val.{Fits}
use borrow.Author.Tests.{eqb-false}
use Rattle.whole.proofs.Lists.{member_at}
use Rattle.grammar.specs.Texts.{Line, lines_of}
use Rattle.grammar.specs.Curves.{is_named, place_in, token_of}
use Rattle.grammar.specs.Tests.{fine, first}
use Rattle.grammar.specs.Inside.Places.{line_at, lines_by}
use Rattle.grammar.proofs.TestOrderLaws.{line_of}
use Rattle.grammar.proofs.FirstLaws.{first_at, first_next, first_here, first_none}
use Rattle.grammar.proofs.PlaceLaws.{length_lines}
use Rattle.grammar.proofs.ReversalLaws.{is_big, mirrored_big}
use Rattle.grammar.proofs.GoodLineLaws.{good_lines}
use Rattle.grammar.proofs.TokenLaws.{Motif, forward, backward, token_below}
use Rattle.tables.specs.declared.Source.{Source}
use Rattle.tables.specs.Inside.Sources.{letters_in, Ready}
use Rattle.tables.specs.Verdicts.{splits, bad_split}
use Rattle.tables.proofs.RuleChildLaws.{length_letters}

-- ---- a line's two tokens
pub named_member : (ls : List Line) (l : Line) → Memᴰ l ls → T (is_named ls l.name)
named_member [] l m = absurd (Memᴰ.not-nil m)
named_member (k ∷ ls) l m = go (eqb k.name l.name) refl (Memᴰ.cases_cons m) (named_member ls l)
  where
    go : (t : Bool) → eqb k.name l.name ≡ t → (l ≡ k) ⊎ Memᴰ l ls → (Memᴰ l ls → T (is_named ls l.name)) → T (t || is_named ls l.name)
    go true e m below = tt
    go false e (inl h) below = absurd (eqb-false k.name l.name e (ap (λ l. l.name) (sym h)))
    go false e (inr h) below = below h

lines_long : {text : List ℕ} {s : Source} → Ready text s → length (lines_of text) ≡ min s.lines.count 8
unfolding lines_by
lines_long {text} {s} r = ap length (sym r.lines) ∙ length_lines text s.lines (min s.lines.count 8) 0

module _ {text : List ℕ} {s : Source} (r : Ready text s) (i : ℕ) (h : i < min s.lines.count 8) where
  abbrev ls : List Line
  ls = lines_of text

  abbrev l : Line
  l = line_at text s.lines i

  pub line_here : get_or ls i l ≡ l
  unfolding lines_by
  line_here = ap (λ k. get_or k i l) (sym r.lines) ∙ line_of text s.lines i (min s.lines.count 8) 0 l h ∙ ap (line_at text s.lines) (zero-add i)

  member : Memᴰ l ls
  member = subst (λ k. Memᴰ k ls) line_here (member_at ls i l (rw (lines_long r) h))

  big : (65 ≤ l.name) × (l.name ≤ 90)
  big = is_big l.name (good_lines text fine r.fair l member).uppercase

  pub name_fits : Fits w8 (l.name + 32)
  name_fits = record { fits = omega (arith, big) }

  upper_motif : Motif ls l.name
  upper_motif = forward l.name (named_member ls l member) big.0 big.1

  lower_motif : Motif ls (l.name + 32)
  lower_motif = subst (Motif ls) (mirrored_big l.name big.0 big.1) (backward l.name (named_member ls l member) big.0 big.1)

  token_is : (b : ℕ) {n : ℕ} → n ≡ place_in (letters_in s) b → n ≡ token_of ls b
  unfolding token_of
  token_is b e = e ∙ ap (λ k. place_in k b) r.tokens

  pub upper_below : {n : ℕ} → n ≡ place_in (letters_in s) l.name → n < s.count
  upper_below e = rw (token_is l.name e, length_letters r) (token_below upper_motif)

  pub lower_below : {n : ℕ} → n ≡ place_in (letters_in s) (l.name + 32) → n < s.count
  lower_below e = rw (token_is (l.name + 32) e, length_letters r) (token_below lower_motif)

  module _ {n : ℕ} (e : n ≡ place_in (letters_in s) l.name) {a : Bool} (f : a ≡ splits ls n) where
    pub split_bad : a ≡ false → not a ≡ bad_split ls l
    unfolding bad_split
    split_bad y = let z : splits ls (token_of ls l.name) ≡ false = ap (splits ls) (sym (token_is l.name e)) ∙ sym f ∙ y in rw (y, z) refl

    pub split_last : a ≡ true → {m : ℕ} → m ≡ place_in (letters_in s) (l.name + 32) → {b : Bool} → b ≡ splits ls m → not b ≡ bad_split ls l
    unfolding bad_split
    split_last y g {b} k =
        let z : splits ls (token_of ls l.name) ≡ true = ap (splits ls) (sym (token_is l.name e)) ∙ sym f ∙ y in
        let w : splits ls (token_of ls (l.name + 32)) ≡ b = ap (splits ls) (sym (token_is (l.name + 32) g)) ∙ sym k in
        rw (z, w) refl

-- ---- the first line at fault by 20
module _ {text : List ℕ} {s : Source} (r : Ready text s) {rows : ℕ} (rows_is : rows ≡ min s.lines.count 8) (i : ℕ) where
  abbrev pub Seeking : Type 0
  Seeking = first_at (λ _. bad_split (lines_of text)) (lines_of text) i ≡ first (λ _. bad_split (lines_of text)) (lines_of text)

  count_is : length (lines_of text) ≡ rows
  count_is = lines_long r ∙ sym rows_is

  module _ (so_far : Seeking) where
    pub unsplit_none : rows ≤ i → 0 ≡ first (λ _. bad_split (lines_of text)) (lines_of text)
    unsplit_none h = sym (first_none (λ _. bad_split (lines_of text)) (lines_of text) i (omega (arith, count_is))) ∙ so_far

    module _ (h : i < rows) {b : Bool} (e : b ≡ bad_split (lines_of text) (line_at text s.lines i)) where
      bad_here : bad_split (lines_of text) (get_or (lines_of text) i (line_at text s.lines i)) ≡ b
      bad_here = ap (bad_split (lines_of text)) (line_here r i (omega arith)) ∙ sym e

      pub unsplit_here : b ≡ true → i + 1 ≡ first (λ _. bad_split (lines_of text)) (lines_of text)
      unsplit_here t = sym (first_here (λ _. bad_split (lines_of text)) (lines_of text) i (line_at text s.lines i) (omega (arith, count_is)) (bad_here ∙ t)) ∙ so_far

      pub unsplit_next : b ≡ false → first_at (λ _. bad_split (lines_of text)) (lines_of text) (i + 1) ≡ first (λ _. bad_split (lines_of text)) (lines_of text)
      unsplit_next t = sym (first_next (λ _. bad_split (lines_of text)) (lines_of text) i (line_at text s.lines i) (omega (arith, count_is)) (bad_here ∙ t)) ∙ so_far

pub ruleset unsplit = (name_fits, upper_below, lower_below, split_bad, split_last, unsplit_none, unsplit_here, unsplit_next)
