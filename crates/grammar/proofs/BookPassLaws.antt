-- The books of a text's lines: a pass over one is a pass of the rules or of the draws, no longer than the lines allow, and a call that finds room for it writes it.
use mathlib.Core.Path.{◌≡◌, refl, ap, ◌∙◌}
use mathlib.Core.Bool.{Bool, true, false, cond}
use mathlib.Core.List.{List, [], ◌∷◌}
use Prim.Native.Nat.{ℕ, zero, suc, ◌*◌, ◌≤◌, min}
use native.Mathlib.Nat.{mul-suc}
use native.Mathlib.Omega.{arith}
use lib.Dec.{eqb}
use lib.ListN.{length, get_or, take, drop, length-append, length-take}
use lib.Seq.{take_at}
use borrow.Author.Tests.{le-ltb}
use Rattle.std.specs.Prelude.{Result, Option, None, Some}
use Rattle.triple.specs.Refusals.{told, said}
use Rattle.triple.specs.Lent.{count_of, after_call}
use Rattle.grammar.specs.declared.lines.Lines.{Lines}
use Rattle.grammar.specs.declared.word.Book.{Book}
use Rattle.grammar.specs.Words.{upper, reversed_or_self, by_book, word_of, expand_once}
use Rattle.grammar.specs.WordAnswers.{written}
use Rattle.grammar.specs.Books.{row_word, rows_word, book_of}
use Rattle.grammar.specs.Curves.{rules, draws}
use Rattle.grammar.specs.Inside.Places.{lines_from, lines_by, Sized}
use Rattle.grammar.specs.Scans.{rule_book, draw_book}
use Rattle.grammar.proofs.WordByteLaws.{length_reversed}
use Rattle.triple.specs.declared.refusal.Refusal.{Refusal}

-- ---- books
module _ (text : List ℕ) (ls : Lines) where
  rule_rows : (b k i : ℕ) → rows_word text ls.name ls.rule ls.rule_len b k i ≡ rules (lines_from text ls k i) b
  unfolding rows_word lines_from
  rule_rows b zero i = refl
  rule_rows b (suc k) i = ap (cond (eqb (get_or ls.name i 0) b) (Some (row_word text ls.rule ls.rule_len i))) (rule_rows b k (suc i))

  draw_rows : (b k i : ℕ) → rows_word text ls.name ls.draw ls.draw_len b k i ≡ draws (lines_from text ls k i) b
  unfolding rows_word lines_from
  draw_rows b zero i = refl
  draw_rows b (suc k) i = ap (cond (eqb (get_or ls.name i 0) b) (Some (row_word text ls.draw ls.draw_len i))) (draw_rows b k (suc i))

  pub book_rules : book_of text (rule_book ls) ≡ rules (lines_by text ls)
  unfolding book_of lines_by
  book_rules = λ i b. rule_rows b (min ls.count 8) 0 i

  pub book_draws : book_of text (draw_book ls) ≡ draws (lines_by text ls)
  unfolding book_of lines_by
  book_draws = λ i b. draw_rows b (min ls.count 8) 0 i

-- ---- how long a pass is, where no word of the book is longer than k
abbrev Most : ℕ → Option (List ℕ) → Type 0
Most k (Some w) = length w ≤ k
Most k None = Unit {0}

module _ (book : ℕ → Option (List ℕ)) (k : ℕ) (some_room : 1 ≤ k) (most : (b : ℕ) → Most k (book b)) where
  self_most : (b : ℕ) (u : Option (List ℕ)) → Most k u → length (reversed_or_self b u) ≤ k
  self_most b (Some u) h = rw (length_reversed u) h
  self_most b None h = some_room

  book_most : (b : ℕ) (w : Option (List ℕ)) → Most k w → length (by_book book b w) ≤ k
  book_most b (Some w) h = h
  book_most b None h = self_most b (book (upper b)) (most (upper b))

  word_most : (b : ℕ) → length (word_of book b) ≤ k
  unfolding word_of
  word_most b = book_most b (book b) (most b)

  pass_most : (w : List ℕ) → length (expand_once book w) ≤ k * length w
  unfolding expand_once
  pass_most [] = omega arith
  pass_most (b ∷ w) = rw length-append (omega (arith, word_most b, pass_most w, mul-suc k (length w)))

-- the lines' books
module _ (text : List ℕ) (ls : Lines) (sized : Sized ls) where
  part_most : (n from k : ℕ) → n ≤ k → length (take n (drop from text)) ≤ k
  part_most n from k h = rw length-take (omega arith)

  chosen : (t : Bool) (k : ℕ) (w : List ℕ) (rest : Option (List ℕ)) → length w ≤ k → Most k rest → Most k (cond t (Some w) rest)
  chosen true k w rest h g = h
  chosen false k w rest h g = g

  each_rule_most : (k i b : ℕ) → Most 24 (rules (lines_from text ls k i) b)
  unfolding lines_from
  each_rule_most zero i b = tt
  each_rule_most (suc k) i b = chosen (eqb (get_or ls.name i 0) b) 24 (row_word text ls.rule ls.rule_len i) (rules (lines_from text ls k (suc i)) b) (part_most (get_or ls.rule_len i 0) (get_or ls.rule i 0) 24 (sized.rules i)) (each_rule_most k (suc i) b)

  each_draw_most : (k i b : ℕ) → Most 12 (draws (lines_from text ls k i) b)
  unfolding lines_from
  each_draw_most zero i b = tt
  each_draw_most (suc k) i b = chosen (eqb (get_or ls.name i 0) b) 12 (row_word text ls.draw ls.draw_len i) (draws (lines_from text ls k (suc i)) b) (part_most (get_or ls.draw_len i 0) (get_or ls.draw i 0) 12 (sized.draws i)) (each_draw_most k (suc i) b)

  pub rule_pass_most : (w : List ℕ) → length (expand_once (rules (lines_by text ls)) w) ≤ 24 * length w
  unfolding lines_by
  rule_pass_most w = pass_most (rules (lines_from text ls (min ls.count 8) 0)) 24 (omega arith) (each_rule_most (min ls.count 8) 0) w

  pub draw_pass_most : (w : List ℕ) → length (expand_once (draws (lines_by text ls)) w) ≤ 12 * length w
  unfolding lines_by
  draw_pass_most w = pass_most (draws (lines_from text ls (min ls.count 8) 0)) 12 (omega arith) (each_draw_most (min ls.count 8) 0) w

-- ---- a word that a call wrote, as there was room for it: the first n bytes that the buffer has then
module _ (word buffer : List ℕ) (a : Result ℕ Refusal) {last : List ℕ} (wrote : (said a ≡ count_of (told word) buffer) × (last ≡ after_call (told word) buffer))
    {n : ℕ} (count : n ≡ written (said a)) (room : length word ≤ length buffer) where
  count_is : n ≡ length word
  unfolding count_of
  count_is =
      let says : said a ≡ told (length word) = wrote.0 ∙ (rw (le-ltb (length buffer) (length word) room) refl) in
      count ∙ ap written says

  wrote_word : take n last ≡ word
  unfolding after_call
  wrote_word = rw (count_is, wrote.1, le-ltb (length buffer) (length word) room) (take_at word (drop (length word) buffer) (length word) refl)

-- ---- a pass by the lines' books that found room, and is cut off behind its last byte
module _ (text : List ℕ) {ls : Lines} (sized : Sized ls) {book : Book} (w buffer : List ℕ) (a : Result ℕ Refusal) {last : List ℕ}
    (says : said a ≡ count_of (told (expand_once (book_of text book) w)) buffer) (left : last ≡ after_call (told (expand_once (book_of text book) w)) buffer) {n : ℕ} (count : n ≡ written (said a)) where
  module _ (book_is : book ≡ rule_book ls) (room : 24 * length w ≤ length buffer) where
    rule_pass : expand_once (book_of text book) w ≡ expand_once (rules (lines_by text ls)) w
    rule_pass = rw (book_is, book_rules text ls) refl

    rule_room : length (expand_once (book_of text book) w) ≤ length buffer
    rule_room = rw rule_pass (omega (arith, rule_pass_most text ls sized w))

    pub rules_written : take n last ≡ expand_once (rules (lines_by text ls)) w
    rules_written = wrote_word (expand_once (book_of text book) w) buffer a (says, left) count rule_room ∙ rule_pass

    pub rules_count : n ≤ 24 * length w
    rules_count = omega (arith, count_is (expand_once (book_of text book) w) buffer a (says, left) count rule_room, ap length rule_pass, rule_pass_most text ls sized w)

  module _ (book_is : book ≡ draw_book ls) (room : 12 * length w ≤ length buffer) where
    draw_pass : expand_once (book_of text book) w ≡ expand_once (draws (lines_by text ls)) w
    draw_pass = rw (book_is, book_draws text ls) refl

    draw_room : length (expand_once (book_of text book) w) ≤ length buffer
    draw_room = rw draw_pass (omega (arith, draw_pass_most text ls sized w))

    pub draws_written : take n last ≡ expand_once (draws (lines_by text ls)) w
    draws_written = wrote_word (expand_once (book_of text book) w) buffer a (says, left) count draw_room ∙ draw_pass

    pub draws_count : n ≤ 12 * length w
    draws_count = omega (arith, count_is (expand_once (book_of text book) w) buffer a (says, left) count draw_room, ap length draw_pass, draw_pass_most text ls sized w)

    module _ {v : List ℕ} (cut : v ≡ take n (drop 0 last)) where
      pub draws_cut : v ≡ expand_once (draws (lines_by text ls)) w
      draws_cut = cut ∙ draws_written

      pub draws_most : {k : ℕ} → 12 * length w ≤ k → length v ≤ k
      draws_most h = omega (arith, ap length draws_cut, draw_pass_most text ls sized w)
