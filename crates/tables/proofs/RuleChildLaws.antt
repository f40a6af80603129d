-- The children along a rule, one byte after the other, in the form of what the code has in hand.
use mathlib.Core.Path.{◌≡◌, refl, sym, ap, ◌∙◌}
use mathlib.Core.Bool.{Bool, true, false, cond}
use mathlib.Core.List.{List, [], ◌∷◌, ◌++◌, append_assoc, append-nil}
use Prim.Native.Nat.{ℕ, suc, ◌+◌, ◌%◌, ◌<◌, ◌≤◌, min}
use native.Mathlib.Numerals.{add-one}
use native.Mathlib.Omega.{arith}
use lib.Dec.{eqb}
use lib.ListN.{length, get_or, take, drop, set, take-append-drop}
use lib.Seq.{take-suc, take-suc-set, take_all, get_or-take, length-take-le}
use borrow.Author.Tests.{ne_eqb}
use Rattle.turtle.specs.Walk.{Sym, left, right, letter}
use Rattle.grammar.specs.Words.{upper, word_of, expand_once}
use Rattle.grammar.specs.Texts.{lines_of}
use Rattle.grammar.specs.Curves.{rules, token_bytes, letter_of, place_in, token_of, rule_symbol, rule_symbols, turned, letter_count}
use Rattle.grammar.specs.Tests.{fine}
use Rattle.grammar.specs.Inside.Places.{lines_by}
use Rattle.grammar.specs.Scans.{has_name}
use Rattle.grammar.proofs.GrammarLaws.{letters_append}
use Rattle.grammar.proofs.TurnLaws.{turned_append}
use Rattle.grammar.proofs.TallyLaws.{listed_by}
use Rattle.grammar.proofs.Grammars.{grammar_of}
use Rattle.grammar.proofs.Meaning.{accepted}
use Rattle.tables.specs.declared.Child.{Child}
use Rattle.tables.specs.declared.Source.{Source}
use Rattle.tables.specs.declared.children.RuleChildren.{RuleChildren}
use Rattle.tables.specs.Children.{children_along, children}
use Rattle.tables.specs.Inside.Sources.{letters_in, Ready}
use Rattle.tables.specs.Inside.RuleChildren.{rule_symbol_by, rule_symbols_by, ChildrenOnward}

along_append : (h : ℕ) (u v : List (Sym ℕ)) → children_along h (u ++ v) ≡ children_along h u ++ children_along (turned h u) v
unfolding children_along turned
along_append h [] v = refl
along_append h (left ∷ u) v = along_append ((h + 1) % 6) u v
along_append h (right ∷ u) v = along_append ((h + 5) % 6) u v
along_append h (letter a ∷ u) v = ap (λ l. record { token = a; flip = eqb h 3 } ∷ l) (along_append h u v)

-- ---- one symbol more
module _ (m n : RuleChildren) where
  pub one_child : (token : ℕ) → m.count < 4 →
      let c : Child = record { token = token; flip = eqb m.heading 3 } in
      n.children ≡ set m.children m.count c → n.count ≡ m.count + 1 → n.heading ≡ m.heading → ChildrenOnward m (letter token ∷ []) n
  unfolding children_along turned letter_count
  one_child token h e k t =
      let c : Child = record { token = token; flip = eqb m.heading 3 } in
      record { count = k; children = rw (e, k, add-one) (take-suc-set m.children m.count c (omega (arith, m.room))); heading = t }

  module _ (turn : ℕ) (e : (n.children ≡ m.children) × ((n.count ≡ m.count) × (n.heading ≡ (m.heading + turn) % 6))) where
    pub one_left : turn ≡ 1 → ChildrenOnward m (left ∷ []) n
    unfolding children_along turned letter_count
    one_left t = record { count = omega (arith, e.1.0); children = rw (e.0, e.1.0) (sym (append-nil _)); heading = e.1.1 ∙ rw t refl }

    pub one_right : turn ≡ 5 → ChildrenOnward m (right ∷ []) n
    unfolding children_along turned letter_count
    one_right t = record { count = omega (arith, e.1.0); children = rw (e.0, e.1.0) (sym (append-nil _)); heading = e.1.1 ∙ rw t refl }

pub none_met : (m : RuleChildren) → ChildrenOnward m [] m
unfolding children_along turned letter_count
none_met m = record { count = omega arith; children = sym (append-nil _); heading = refl }

-- ---- one byte more
module _ (s : Source) (b : ℕ) (m n : RuleChildren) where
  pub by_left : b ≡ 43 → ChildrenOnward m (left ∷ []) n → ChildrenOnward m (rule_symbol_by s b) n
  unfolding rule_symbol_by
  by_left e o = rw e o

  module _ (p : b ≡ 43 → ⊥) where
    pub by_right : b ≡ 45 → ChildrenOnward m (right ∷ []) n → ChildrenOnward m (rule_symbol_by s b) n
    unfolding rule_symbol_by
    by_right e o = rw e o

    module _ (q : b ≡ 45 → ⊥) {t : Bool} (e : t ≡ has_name s.lines.name (upper b) (min s.lines.count 8) 0) where
      listed_is : {u : Bool} → t ≡ u → rule_symbol_by s b ≡ cond u (letter (place_in (letters_in s) b) ∷ []) []
      unfolding rule_symbol_by
      listed_is y = rw (ne_eqb b 43 p, ne_eqb b 45 q, sym e ∙ y) refl

      pub by_room : t ≡ true → m.count + letter_count (rule_symbol_by s b) ≤ 4 → m.count < 4
      unfolding letter_count
      by_room y h = let k : m.count + 1 ≤ 4 = rw (listed_is y) at h in omega arith

      pub by_letter : t ≡ true → {token : ℕ} → token ≡ place_in (letters_in s) b → ChildrenOnward m (letter token ∷ []) n → ChildrenOnward m (rule_symbol_by s b) n
      by_letter y k o = rw (listed_is y, ← k) o

      pub by_none : t ≡ false → ChildrenOnward m [] n → ChildrenOnward m (rule_symbol_by s b) n
      by_none y o = rw (listed_is y) o

-- ---- a rule's bytes
by_append : (s : Source) (v w : List ℕ) → rule_symbols_by s (v ++ w) ≡ rule_symbols_by s v ++ rule_symbols_by s w
unfolding rule_symbols_by
by_append s [] w = refl
by_append s (b ∷ v) w = rw (by_append s v w) (sym (append_assoc (rule_symbol_by s b) _ _))

-- along the first i bytes
pub record Along (s : Source) (w : List ℕ) (m : RuleChildren) (i : ℕ) : Type 0 where
  pub count : m.count ≡ letter_count (rule_symbols_by s (take i w))
  pub children : take m.count m.children ≡ children_along 0 (rule_symbols_by s (take i w))
  pub heading : m.heading ≡ turned 0 (rule_symbols_by s (take i w))

pub along_start : (s : Source) (w : List ℕ) {m : RuleChildren} → (m.count ≡ 0) × (m.heading ≡ 0) → Along s w m 0
unfolding rule_symbols_by children_along letter_count turned
along_start s w e = record { count = e.0; children = rw e.0 refl; heading = e.1 }

module _ (s : Source) (w : List ℕ) {m : RuleChildren} {i : ℕ} (so_far : Along s w m i) (h : i < length w) where
  next_is : rule_symbols_by s (take (suc i) w) ≡ rule_symbols_by s (take i w) ++ rule_symbol_by s (get_or w i 0)
  unfolding rule_symbols_by
  next_is = rw (take-suc w i 0 h, by_append) (ap (λ l. rule_symbols_by s (take i w) ++ l) (append-nil (rule_symbol_by s (get_or w i 0))))

  rest_is : rule_symbols_by s w ≡ rule_symbols_by s (take (suc i) w) ++ rule_symbols_by s (drop (suc i) w)
  rest_is = ap (rule_symbols_by s) (sym (take-append-drop (suc i) w)) ∙ by_append s (take (suc i) w) (drop (suc i) w)

  pub along_room : letter_count (rule_symbols_by s w) ≡ 4 → m.count + letter_count (rule_symbol_by s (get_or w i 0)) ≤ 4
  along_room f =
      omega (arith, so_far.count, f, ap letter_count rest_is, letters_append (rule_symbols_by s (take (suc i) w)) (rule_symbols_by s (drop (suc i) w)), ap letter_count next_is, letters_append (rule_symbols_by s (take i w)) (rule_symbol_by s (get_or w i 0)))

  pub along_next : {n : RuleChildren} → ChildrenOnward m (rule_symbol_by s (get_or w i 0)) n → Along s w n (i + 1)
  along_next {n} o =
      rw add-one
      record {
        count = rw next_is (o.count ∙ rw so_far.count (sym (letters_append (rule_symbols_by s (take i w)) _)));
        children = rw next_is (o.children ∙ rw (so_far.children, so_far.heading) (sym (along_append 0 (rule_symbols_by s (take i w)) _)));
        heading = rw next_is (o.heading ∙ rw so_far.heading (sym (turned_append 0 (rule_symbols_by s (take i w)) _)));
      }

pub along_end : (s : Source) (w : List ℕ) {m : RuleChildren} {i : ℕ} → Along s w m i → letter_count (rule_symbols_by s w) ≡ 4 → length w ≤ i → m.children ≡ children_along 0 (rule_symbols_by s w)
along_end s w {m} {i} a f h =
    let all : take i w ≡ w = take_all i w h in
    let four : m.count ≡ 4 = a.count ∙ rw all f in
    sym (take_all m.count m.children (omega (arith, m.room))) ∙ a.children ∙ rw all refl

-- ---- of a text, the source's letters are the lines'
module _ {text : List ℕ} {s : Source} (r : Ready text s) where
  by_lines : (b : ℕ) → rule_symbol_by s b ≡ rule_symbol (lines_of text) b
  unfolding rule_symbol_by rule_symbol token_of
  by_lines b = rw (r.tokens, listed_by text s.lines (upper b) refl, r.lines) refl

  all_lines : (w : List ℕ) → rule_symbols_by s w ≡ rule_symbols (lines_of text) w
  unfolding rule_symbols_by rule_symbols
  all_lines [] = refl
  all_lines (b ∷ w) = rw (by_lines b, all_lines w) refl

  pub length_letters : s.count ≡ length (token_bytes (lines_of text))
  unfolding letters_in
  length_letters = sym (length-take-le s.count s.bytes (omega (arith, s.room, s.few))) ∙ ap length r.tokens

  module _ (m : ℕ) (h : m < s.count) where
    pub letter_is : get_or s.bytes m 0 ≡ letter_of (lines_of text) m
    unfolding letter_of letters_in
    letter_is = sym (get_or-take s.count s.bytes m 0 h) ∙ ap (λ l. get_or l m 0) r.tokens

    module _ (n : ℕ) (last : List ℕ) (e : take n last ≡ expand_once (rules (lines_by text s.lines)) (get_or s.bytes m 0 ∷ [])) where
      rule_bytes : take n last ≡ word_of (rules (lines_of text)) (letter_of (lines_of text) m)
      unfolding expand_once
      rule_bytes = e ∙ rw (r.lines, letter_is) (append-nil _)

      rule_children : rule_symbols_by s (take n last) ≡ (grammar_of (lines_of text)).rule m
      unfolding grammar_of
      rule_children = all_lines (take n last) ∙ ap (rule_symbols (lines_of text)) rule_bytes

      pub rule_four : letter_count (rule_symbols_by s (take n last)) ≡ 4
      unfolding grammar_of
      rule_four = ap letter_count rule_children ∙ (accepted text fine r.fair).four m (rw (sym length_letters) h)

      pub rule_along : {cs : List Child} → cs ≡ children_along 0 (rule_symbols_by s (take n last)) → cs ≡ children (lines_of text) m
      unfolding children grammar_of
      rule_along f = f ∙ ap (children_along 0) rule_children
