-- Each test of a line, 13 to 18, in the form of what the code has in hand: the motif's letter by its range, a word by its tally.
use mathlib.Core.Path.{◌≡◌, refl, sym, ap, ◌∙◌}
use mathlib.Core.Bool.{Bool, true, false, not, ◌||◌}
use mathlib.Core.List.{List, [], ◌∷◌}
use Prim.Native.Nat.{ℕ}
use lib.Dec.{eqb}
use Rattle.std.proofs.lemmas.Bool.Decides.{Decides-eqb, same_from_decides}
use Rattle.std.specs.List.{list_any}
use borrow.Author.Tests.{eq-eqb, ne_eqb}
use Rattle.turtle.specs.Walk.{symbols_of}
use Rattle.grammar.specs.declared.lines.Lines.{Lines}
use Rattle.grammar.specs.declared.tally.Tally.{Tally}
use Rattle.grammar.specs.Words.{is_upper, reversed}
use Rattle.grammar.specs.Texts.{Line}
use Rattle.grammar.specs.Curves.{is_named, rule_symbols, turned, letter_count, upright}
use Rattle.grammar.specs.Tests.{bad_motif, lawful_rule, bad_rule, bad_count, bad_heading, lawful_draw, bad_draw, bad_turns}
use Rattle.grammar.specs.Inside.Places.{lines_from}
use Rattle.grammar.specs.Scans.{has_name}
use Rattle.grammar.specs.Inside.Tallies.{RuleWord, DrawWord}
use Rattle.grammar.proofs.TallyLaws.{named_by}

-- ---- 13
eqb_swap : (a b : ℕ) → eqb a b ≡ eqb b a
eqb_swap a b = let back = Decides-eqb b a in same_from_decides _ _ (Decides-eqb a b) (λ t. sym (back.0 t), λ e. back.1 (sym e))

-- E S U D T
abbrev reserved : List ℕ
reserved = 69 ∷ 83 ∷ 85 ∷ 68 ∷ 84 ∷ []

regroup : (l a b c d e n : Bool) → (l || a || b || c || d || e || n) ≡ (l || ((a || (b || (c || (d || (e || false))))) || n))
regroup true a b c d e n = refl
regroup false true b c d e n = refl
regroup false false true c d e n = refl
regroup false false false true d e n = refl
regroup false false false false true e n = refl
regroup false false false false false true n = refl
regroup false false false false false false n = refl

module _ (before : List Line) (l : Line) where
  motif_is : bad_motif before l ≡ (not (is_upper l.name) || (list_any (λ y. eqb y l.name) reserved || is_named before l.name))
  unfolding bad_motif
  motif_is =
      let b = l.name in
      rw (eqb_swap 69 b, eqb_swap 83 b, eqb_swap 85 b, eqb_swap 68 b, eqb_swap 84 b)
      (regroup (not (is_upper b)) (eqb b 69) (eqb b 83) (eqb b 85) (eqb b 68) (eqb b 84) (is_named before b))

  module _ {up : Bool} (up_is : up ≡ is_upper l.name) {v : Bool} where
    pub motif_lower : up ≡ false → v ≡ not up → v ≡ bad_motif before l
    motif_lower u e = e ∙ ap not u ∙ sym (motif_is ∙ (rw (sym up_is ∙ u) refl))

    module _ (u : up ≡ true) {r : Bool} (among : r ≡ list_any (λ y. eqb y l.name) reserved) (e : v ≡ r) where
      pub motif_reserved : v ≡ true → v ≡ bad_motif before l
      motif_reserved t = t ∙ sym (motif_is ∙ (rw (sym up_is ∙ u, sym among ∙ sym e ∙ t) refl))

      pub motif_free : v ≡ false → {n : Bool} → n ≡ is_named before l.name → n ≡ bad_motif before l
      motif_free f m = m ∙ sym (motif_is ∙ (rw (sym up_is ∙ u, sym among ∙ sym e ∙ f) refl))

pub named_before : (text : List ℕ) (ls : Lines) (b i : ℕ) {r : Bool} → r ≡ has_name ls.name b i 0 → r ≡ is_named (lines_from text ls i 0) b
named_before text ls b i e = e ∙ sym (named_by text ls b i 0)

-- ---- 14 to 16 and 18, by the rule's tally
module _ (ls : List Line) (l : Line) {w : List ℕ} {t : Tally} (e : w ≡ l.rule) (r : RuleWord ls w t) where
  pub rule_verdict : not t.lawful ≡ bad_rule ls l
  unfolding bad_rule
  rule_verdict = ap not (r.sound ∙ ap (lawful_rule ls) e)

  pub count_verdict : not (eqb t.letters 4) ≡ bad_count ls l
  unfolding bad_count
  count_verdict = ap (λ n. not (eqb n 4)) (r.count ∙ ap (λ v. letter_count (rule_symbols ls v)) e)

  straight : t.upright ≡ upright 0 (rule_symbols ls l.rule)
  straight = r.straight ∙ ap (λ v. upright 0 (rule_symbols ls v)) e

  pub heading_along : t.upright ≡ false → not t.upright ≡ bad_heading ls l
  unfolding bad_heading
  heading_along u = ap not u ∙ sym (rw (sym straight ∙ u) refl)

  pub heading_back : t.upright ≡ true → {v : List ℕ} → v ≡ reversed w → {s : Tally} → RuleWord ls v s → not s.upright ≡ bad_heading ls l
  unfolding bad_heading
  heading_back u turned {s} b =
      let back : s.upright ≡ upright 0 (rule_symbols ls (reversed l.rule)) = b.straight ∙ ap (λ v. upright 0 (rule_symbols ls v)) (turned ∙ ap reversed e) in
      sym (rw (sym straight ∙ u) (ap not (sym back)))

  end : turned 0 (rule_symbols ls l.rule) ≡ t.heading
  end = sym (r.end ∙ ap (λ v. turned 0 (rule_symbols ls v)) e)

  pub turns_rule : (t.heading ≡ 0 → ⊥) → not (eqb t.heading 0) ≡ bad_turns ls l
  unfolding bad_turns
  turns_rule n = ap not (ne_eqb t.heading 0 n) ∙ sym (rw (end, ne_eqb t.heading 0 n) refl)

  pub turns_draw : t.heading ≡ 0 → {v : List ℕ} {s : Tally} → v ≡ l.draw → DrawWord v s → not (eqb s.heading 0) ≡ bad_turns ls l
  unfolding bad_turns
  turns_draw z {v} {s} f d =
      let draw_end : turned 0 (symbols_of l.draw) ≡ s.heading = sym (d.end ∙ ap (λ v. turned 0 (symbols_of v)) f) in
      sym (rw (end, eq-eqb t.heading 0 z, draw_end) refl)

-- ---- 17, by the draw's tally
module _ (l : Line) {w : List ℕ} {t : Tally} (e : w ≡ l.draw) (r : DrawWord w t) where
  sound : lawful_draw l.draw ≡ t.lawful
  sound = sym (r.sound ∙ ap lawful_draw e)

  pub draw_unlawful : t.lawful ≡ false → not t.lawful ≡ bad_draw l
  unfolding bad_draw
  draw_unlawful u = ap not u ∙ sym (rw (sound ∙ u) refl)

  pub draw_count : t.lawful ≡ true → not (eqb t.letters 1) ≡ bad_draw l
  unfolding bad_draw
  draw_count u =
      let many : letter_count (symbols_of l.draw) ≡ t.letters = sym (r.count ∙ ap (λ v. letter_count (symbols_of v)) e) in
      sym (rw (sound ∙ u, many) refl)
