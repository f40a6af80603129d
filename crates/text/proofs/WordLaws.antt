-- The words of a line, by a place that goes from one to the next: a word ends at the next space or at the line's end, and the words from its start are it and those from after its end.
use mathlib.Core.Path.{◌≡◌, refl, sym, ap, ◌∙◌}
use mathlib.Core.Bool.{Bool, true, false, cond}
use mathlib.Core.List.{List, [], ◌∷◌}
use Prim.Native.Nat.{ℕ, suc, ◌+◌, ◌-◌, ◌^◌, ◌≤◌, ◌<◌}
use native.Mathlib.Decide.{dec_lt}
use native.Mathlib.Numerals.{add-one}
use native.Mathlib.Omega.{arith}
use borrow.Author.Tests.{eq-eqb, ne_eqb, eqb-true}
use lib.Dec.{eqb}
use lib.ListN.{length, get_or, take, drop, length-drop, drop_of_length-le, get_or-eq_default}
use lib.Seq.{drop-cons, drop-drop, take_all}
use mir.Syntax.{w64}
use mir.Val.{Fits}
use Rattle.std.specs.List.{count_by}
use Rattle.std.proofs.lemmas.List.Sums.{sum_by-cons}
use Rattle.text.specs.Words.{until, grown, words_of, spaced}

-- ---- the place of the first b
module _ (b : ℕ) where
  pub until_most : (s : List ℕ) → until b s ≤ length s
  unfolding until
  until_most [] = omega arith
  until_most (c ∷ s) = go (eqb c b) (until_most s)
    where
      go : (u : Bool) → until b s ≤ length s → cond u 0 (suc (until b s)) ≤ suc (length s)
      go true h = omega arith
      go false h = omega arith

  -- b is none of the first i; x is what is sought
  module _ (s : List ℕ) (i x : ℕ) (o : i + until b (drop i s) ≡ x) where
    pub until_past : length s ≤ i → i ≡ x
    unfolding until
    until_past h = let e : until b (drop i s) ≡ 0 = ap (until b) (drop_of_length-le s h) in omega arith

    module _ (h : i < length s) where
      pub until_here : get_or s i 0 ≡ b → i ≡ x
      unfolding until
      until_here e = let z : until b (drop i s) ≡ 0 = rw (drop-cons s i 0 h, eq-eqb (get_or s i 0) b e) in omega arith

      pub until_next : (get_or s i 0 ≡ b → ⊥) → i + 1 + until b (drop (i + 1) s) ≡ x
      unfolding until
      until_next e = let z : until b (drop i s) ≡ suc (until b (drop (i + 1) s)) = rw (add-one, drop-cons s i 0 h, ne_eqb (get_or s i 0) b e) in omega arith

pub ruleset until_laws = (until_past, until_here, until_next)

-- ---- the first word and those after it
pub words_last : (w : List ℕ) → length w ≤ until 32 w → words_of w ≡ w ∷ []
unfolding until words_of
words_last [] h = refl
words_last (b ∷ w) h = go (eqb b 32) h (words_last w)
  where
    go : (u : Bool) → suc (length w) ≤ cond u 0 (suc (until 32 w)) → (length w ≤ until 32 w → words_of w ≡ w ∷ []) → cond u ([] ∷ words_of w) (grown b (words_of w)) ≡ (b ∷ w) ∷ []
    go true k rest = absurd (omega arith)
    go false k rest = ap (grown b) (rest (omega arith))

pub words_more : (w : List ℕ) → until 32 w < length w → words_of w ≡ take (until 32 w) w ∷ words_of (drop (suc (until 32 w)) w)
unfolding until words_of
words_more [] h = absurd (omega arith)
words_more (b ∷ w) h = go (eqb b 32) h (words_more w)
  where
    go : (u : Bool) → cond u 0 (suc (until 32 w)) < suc (length w) → (until 32 w < length w → words_of w ≡ take (until 32 w) w ∷ words_of (drop (suc (until 32 w)) w))
        → cond u ([] ∷ words_of w) (grown b (words_of w)) ≡ take (cond u 0 (suc (until 32 w))) (b ∷ w) ∷ words_of (drop (suc (cond u 0 (suc (until 32 w)))) (b ∷ w))
    go true k rest = refl
    go false k rest = ap (grown b) (rest (omega arith))

-- ---- one more than the spaces
grown_length : (b : ℕ) (ws : List (List ℕ)) → length (grown b ws) ≡ length ws
grown_length b [] = refl
grown_length b (w ∷ ws) = refl

pub words_counted : (w : List ℕ) → 1 + count_by (λ c. eqb c 32) w ≡ length (words_of w)
unfolding words_of
words_counted [] = refl
words_counted (b ∷ w) = rw sum_by-cons (go (eqb b 32) (words_counted w))
  where
    go : (u : Bool) → 1 + count_by (λ c. eqb c 32) w ≡ length (words_of w) → 1 + (cond u 1 0 + count_by (λ c. eqb c 32) w) ≡ length (cond u ([] ∷ words_of w) (grown b (words_of w)))
    go true p = omega arith
    go false p = omega (arith, grown_length b (words_of w))

first_word : (w : List ℕ) → get_or (words_of w) 0 [] ≡ take (until 32 w) w
first_word w = elim (dec_lt (until 32 w) (length w)) [
  | yes h ↦ ap (λ (l : List (List ℕ)). get_or l 0 []) (words_more w h)
  | no h ↦ ap (λ (l : List (List ℕ)). get_or l 0 []) (words_last w (omega arith)) ∙ sym (take_all (until 32 w) w (omega arith))
]

-- ---- the words with spaces between them are the line
data Some : List (List ℕ) → Type 0 where
  some : {w : List ℕ} {ws : List (List ℕ)} → Some (w ∷ ws)

some_word : (line : List ℕ) → Some (words_of line)
unfolding words_of
some_word [] = some
some_word (b ∷ line) = go (eqb b 32) (some_word line)
  where
    go : (u : Bool) {ws : List (List ℕ)} → Some ws → Some (cond u ([] ∷ ws) (grown b ws))
    go true s = some
    go false some = some

pub spaced_words : (line : List ℕ) → spaced (words_of line) ≡ line
unfolding words_of spaced
spaced_words [] = refl
spaced_words (b ∷ line) = go (eqb b 32) refl (words_of line) (some_word line) (spaced_words line)
  where
    go : (u : Bool) → eqb b 32 ≡ u → (ws : List (List ℕ)) → Some ws → spaced ws ≡ line → spaced (cond u ([] ∷ ws) (grown b ws)) ≡ b ∷ line
    go true e [] s p = elim s [ ]
    go false e [] s p = elim s [ ]
    go true e (w ∷ ws) s p = rw (eqb-true b 32 e) (ap (λ (l : List ℕ). 32 ∷ l) p)
    go false e (w ∷ []) s p = ap (λ (l : List ℕ). b ∷ l) p
    go false e (w ∷ v ∷ ws) s p = ap (λ (l : List ℕ). b ∷ l) p

-- ---- the words from a place on: e is the end of the one that starts there
module _ (line : List ℕ) (at e : ℕ) (h : at ≤ length line) (o : e ≡ at + until 32 (drop at line)) where
  pub end_most : e ≤ length line
  end_most = omega (arith, until_most 32 (drop at line), length-drop at line)

  last_here : e ≡ length line → words_of (drop at line) ≡ drop at line ∷ []
  last_here l = words_last (drop at line) (omega (arith, length-drop at line))

  more_here : (e ≡ length line → ⊥) → words_of (drop at line) ≡ take (until 32 (drop at line)) (drop at line) ∷ words_of (drop (e + 1) line)
  more_here n =
      let l : until 32 (drop at line) < length (drop at line) = omega (arith, end_most, length-drop at line) in
      let p : at + suc (until 32 (drop at line)) ≡ e + 1 = omega arith in
      words_more (drop at line) l ∙ ap (λ (w : List ℕ). take (until 32 (drop at line)) (drop at line) ∷ words_of w) (drop-drop (suc (until 32 (drop at line))) at line ∙ ap (λ (k : ℕ). drop k line) p)

  pub next_within : (e ≡ length line → ⊥) → e + 1 ≤ length line
  next_within n = omega (arith, end_most)

  pub next_fits : (e ≡ length line → ⊥) → length line < 2 ^ 64 → Fits w64 (e + 1)
  next_fits n l = record { fits = omega (arith, next_within n) }

  -- x is the word that is sought, k from the line's start, after i words of it
  module _ (k i : ℕ) (x : List ℕ) (g : i < k) (s : get_or (words_of (drop at line)) (k - i) [] ≡ x) where
    pub start_none : e ≡ length line → get_or (words_of (drop e line)) 0 [] ≡ x
    unfolding words_of
    start_none l =
        let g' : 0 < k - i = omega arith in
        ap (λ (w : List ℕ). get_or (words_of w) 0 []) (drop_of_length-le line {i = e} (omega arith))
        ∙ sym (get_or-eq_default (drop at line ∷ []) [] g')
        ∙ ap (λ (w : List (List ℕ)). get_or w (k - i) []) (sym (last_here l)) ∙ s

    pub start_next : (e ≡ length line → ⊥) → get_or (words_of (drop (e + 1) line)) (k - (i + 1)) [] ≡ x
    start_next l =
        let p : suc (k - (i + 1)) ≡ k - i = omega arith in
        rw (← p, more_here l) at s

pub ruleset start_laws = (end_most, next_within, next_fits, start_none, start_next)

pub word_is : (line : List ℕ) (at e : ℕ) (x : List ℕ) → e ≡ at + until 32 (drop at line) → get_or (words_of (drop at line)) 0 [] ≡ x → take (e - at) (drop at line) ≡ x
word_is line at e x o s =
    let p : e - at ≡ until 32 (drop at line) = omega arith in
    rw p (sym (first_word (drop at line)) ∙ s)
