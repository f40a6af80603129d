-- A source's tokens, one letter after the other, in the form of what the code has in hand.
use mathlib.Core.Path.{◌≡◌, refl, sym, ap, ◌∙◌}
use mathlib.Core.Bool.{Bool, true, false, cond}
use mathlib.Core.List.{List, [], ◌∷◌, ◌++◌, map, append_assoc, append-nil}
use Prim.Native.Nat.{ℕ, zero, suc, ◌+◌, ◌-◌, ◌*◌, ◌<◌, ◌≤◌, min}
use native.Mathlib.Numerals.{add-one}
use native.Mathlib.Omega.{arith}
use lib.ListN.{length, take, set, length-take}
use lib.Seq.{take-suc-set, length-take-le}
use lib.Dec.{eqb, ltb}
use Rattle.std.specs.Prelude.{Option, Some, None, unwrap_or, Result}
use Rattle.std.specs.List.{position_or_len}
use Rattle.std.proofs.lemmas.Bool.{ltb-false}
use Rattle.std.proofs.lemmas.List.Recursion.{is_position_or_len}
use Rattle.triple.specs.Refusals.{told, said}
use Rattle.triple.specs.Lent.{count_of, after_call}
use Rattle.grammar.specs.WordAnswers.{written}
use Rattle.grammar.specs.declared.lines.Lines.{Lines}
use Rattle.turtle.specs.Walk.{symbols_of}
use Rattle.grammar.specs.declared.word.Book.{Book}
use Rattle.grammar.specs.Words.{upper, expand_once}
use Rattle.grammar.specs.Books.{book_of}
use Rattle.grammar.specs.Curves.{rules, passes, strokes, is_named, named_from, token_bytes, place_in}
use Rattle.grammar.specs.Inside.Places.{lines_by, Sized}
use Rattle.grammar.specs.Scans.{has_name, rule_book, draw_book}
use Rattle.grammar.proofs.TallyLaws.{listed_by}
use Rattle.grammar.proofs.BookPassLaws.{rules_written, rules_count, draws_written, draws_count}
use Rattle.grammar.proofs.WordByteLaws.{upper_before, upper_lower}
use Rattle.tables.specs.declared.Source.{Source}
use Rattle.tables.specs.Inside.Sources.{listed_from, letters_in}
use Rattle.triple.specs.declared.refusal.Refusal.{Refusal}

-- ---- one token more
pub token_more : (s : Source) (b : ℕ) → s.count < 52 → take (s.count + 1) (set s.bytes s.count b) ≡ letters_in s ++ (b ∷ [])
unfolding letters_in
token_more s b h = rw add-one (take-suc-set s.bytes s.count b (omega (arith, s.room)))

-- ---- a byte that may be a letter
module _ (s : Source) (b : ℕ) {t : Bool} (e : t ≡ has_name s.lines.name (upper b) (min s.lines.count 8) 0) where
  pub listed_yes : t ≡ true → (n : Source) → (n.lines ≡ s.lines) × ((n.count ≡ s.count + 1) × (letters_in n ≡ letters_in s ++ (b ∷ [])))
      → (n.lines ≡ s.lines) × ((n.count ≤ s.count + 1) × (letters_in n ≡ letters_in s ++ listed_from s.lines 1 b))
  unfolding listed_from
  listed_yes y n m = (m.0, (omega (arith, m.1.0), rw (sym e ∙ y) m.1.1))

  pub listed_no : t ≡ false → (s.lines ≡ s.lines) × ((s.count ≤ s.count + 1) × (letters_in s ≡ letters_in s ++ listed_from s.lines 1 b))
  unfolding listed_from
  listed_no y = (refl, (omega arith, rw (sym e ∙ y) (sym (append-nil (letters_in s)))))

listed_cons : (ls : Lines) (n b : ℕ) → listed_from ls (suc n) b ≡ listed_from ls 1 b ++ listed_from ls n (suc b)
unfolding listed_from
listed_cons ls n b = go (has_name ls.name (upper b) (min ls.count 8) 0)
  where
    go : (t : Bool) → cond t (b ∷ listed_from ls n (suc b)) (listed_from ls n (suc b)) ≡ cond t (b ∷ []) [] ++ listed_from ls n (suc b)
    go true = refl
    go false = refl

-- so far those of the bytes from `first` on
pub record Listing (source : Source) (first : ℕ) (s : Source) (b : ℕ) : Type 0 where
  pub low : first ≤ b
  pub high : b ≤ first + 26
  pub lines : s.lines ≡ source.lines
  pub few : s.count ≤ source.count + (b - first)
  pub letters : letters_in s ++ listed_from source.lines (first + 26 - b) b ≡ letters_in source ++ listed_from source.lines 26 first

pub listing_start : (source : Source) (first : ℕ) → Listing source first source first
listing_start source first =
    let z : first + 26 - first ≡ 26 = omega arith in
    record { low = omega arith; high = omega arith; lines = refl; few = omega arith; letters = rw z refl }

module _ (source : Source) (first : ℕ) (few : source.count ≤ 26) {s : Source} {b : ℕ} (so_far : Listing source first s b) where
  pub listing_room : b < first + 26 → s.count < 52
  listing_room h = omega (arith, so_far.few, so_far.low)

  pub listing_next : b < first + 26 → {n : Source} → (n.lines ≡ s.lines) × ((n.count ≤ s.count + 1) × (letters_in n ≡ letters_in s ++ listed_from s.lines 1 b)) → Listing source first n (b + 1)
  unfolding letters_in
  listing_next h {n} made =
      let more : first + 26 - b ≡ suc (first + 26 - suc b) = omega arith in
      record {
        low = omega (arith, so_far.low);
        high = omega arith;
        lines = made.0 ∙ so_far.lines;
        few = omega (arith, so_far.low, so_far.few, made.1.0);
        letters = rw (made.1.1, append_assoc, so_far.lines, add-one) (ap (λ l. letters_in s ++ l) (sym (rw more (listed_cons source.lines (first + 26 - suc b) b))) ∙ so_far.letters);
      }

  pub listing_end : first + 26 ≤ b → (s.lines ≡ source.lines) × ((s.count ≤ source.count + 26) × (letters_in s ≡ letters_in source ++ listed_from source.lines 26 first))
  unfolding listed_from
  listing_end h =
      let none : first + 26 - b ≡ 0 = omega arith in
      (so_far.lines, (omega (arith, so_far.few, so_far.high), sym (append-nil (letters_in s)) ∙ (rw none at so_far.letters)))

-- ---- capitals, and then small letters, are the tokens
module _ (text : List ℕ) (ls : Lines) where
  upper_listed : (n b : ℕ) → b + n ≤ 97 → listed_from ls n b ≡ named_from (lines_by text ls) n b
  unfolding listed_from
  upper_listed zero b h = refl
  upper_listed (suc n) b h =
      let u : upper b ≡ b = sym (upper_before (omega arith)) in
      rw (u, listed_by text ls b refl, upper_listed n (suc b) (omega arith))

  lower_listed : (n b : ℕ) → 65 ≤ b → b + n ≤ 91 → listed_from ls n (b + 32) ≡ map (λ b. b + 32) (named_from (lines_by text ls) n b)
  unfolding listed_from
  lower_listed zero b l h = refl
  lower_listed (suc n) b l h =
      let u : upper (b + 32) ≡ b = sym (upper_lower (omega arith) (omega arith)) ∙ omega arith in
      let next : listed_from ls n (suc (b + 32)) ≡ map (λ b. b + 32) (named_from (lines_by text ls) n (suc b)) = (let k : suc (b + 32) ≡ suc b + 32 = omega arith in rw k (lower_listed n (suc b) (omega arith) (omega arith))) in
      rw (u, listed_by text ls b refl, next) (go (is_named (lines_by text ls) b))
    where
      go : (t : Bool) → cond t ((b + 32) ∷ map (λ b. b + 32) (named_from (lines_by text ls) n (suc b))) (map (λ b. b + 32) (named_from (lines_by text ls) n (suc b)))
          ≡ map (λ b. b + 32) (cond t (b ∷ named_from (lines_by text ls) n (suc b)) (named_from (lines_by text ls) n (suc b)))
      go true = refl
      go false = refl

  pub tokens_are : {m n : Lines} → n ≡ ls → m ≡ ls → listed_from n 26 65 ++ listed_from m 26 97 ≡ token_bytes (lines_by text ls)
  unfolding token_bytes
  tokens_are d e = rw (d, e, upper_listed 26 65 (omega arith), lower_listed 26 65 (omega arith) (omega arith)) refl

-- ---- a letter's place
place_is : (bytes : List ℕ) (b : ℕ) → place_in bytes b ≡ position_or_len (λ a. eqb a b) bytes
place_is bytes b = is_position_or_len (λ l. place_in l b) (λ a. eqb a b) refl (λ a l. ap (cond (eqb a b) 0) (omega arith)) bytes

place_within : (bytes : List ℕ) (b : ℕ) → place_in bytes b ≤ length bytes
place_within [] b = omega arith
place_within (a ∷ bytes) b = go (eqb a b) (place_within bytes b)
  where
    go : (t : Bool) → place_in bytes b ≤ length bytes → cond t 0 (suc (place_in bytes b)) ≤ suc (length bytes)
    go true h = omega arith
    go false h = omega arith

-- among the first n of the bytes, where a search gave p
pub place_found : (bytes : List ℕ) (n b : ℕ) → n ≤ length bytes → {p : Option ℕ}
    → p ≡ cond (ltb (position_or_len (λ a. eqb a b) (take n bytes)) (length (take n bytes))) (Some (position_or_len (λ a. eqb a b) (take n bytes))) None
    → {m : ℕ} → m ≡ unwrap_or p n → m ≡ place_in (take n bytes) b
place_found bytes n b h e {m} f =
    go (ltb (place_in (take n bytes) b) (length (take n bytes))) refl (f ∙ ap (λ p. unwrap_or p n) (rw (← place_is (take n bytes) b) at e))
  where
    go : (t : Bool) → ltb (place_in (take n bytes) b) (length (take n bytes)) ≡ t → m ≡ unwrap_or (cond t (Some (place_in (take n bytes) b)) None) n → m ≡ place_in (take n bytes) b
    go true t g = g
    go false t g = omega (arith, ltb-false _ _ t, place_within (take n bytes) b, length-take-le n bytes h, g)

-- ---- the rule of a letter: a pass of the rules over it
module _ (text : List ℕ) {ls : Lines} (sized : Sized ls) (letter : ℕ) {book : Book} (book_is : book ≡ rule_book ls) (buffer : List ℕ) (a : Result ℕ Refusal) {last : List ℕ}
    (says : said a ≡ count_of (told (expand_once (book_of text book) (letter ∷ []))) buffer) (left : last ≡ after_call (told (expand_once (book_of text book) (letter ∷ []))) buffer)
    {n : ℕ} (count : n ≡ written (said a)) (room : 24 ≤ length buffer) where
  pub rule_written : take n last ≡ expand_once (rules (lines_by text ls)) (letter ∷ [])
  rule_written = rules_written text sized (letter ∷ []) buffer a says left count book_is (omega arith)

  pub rule_count : n ≤ 24
  rule_count = omega (arith, rules_count text sized (letter ∷ []) buffer a says left count book_is (omega arith))

-- ---- its strokes: one of the draws over that
module _ (text : List ℕ) {ls : Lines} (sized : Sized ls) (letter k : ℕ) (rule : List ℕ) (filled : take k rule ≡ expand_once (rules (lines_by text ls)) (letter ∷ [])) (few : k ≤ 24)
    {book : Book} (book_is : book ≡ draw_book ls) (buffer : List ℕ) (a : Result ℕ Refusal) {last : List ℕ}
    (says : said a ≡ count_of (told (expand_once (book_of text book) (take k rule))) buffer) (left : last ≡ after_call (told (expand_once (book_of text book) (take k rule))) buffer)
    {n : ℕ} (count : n ≡ written (said a)) (room : 288 ≤ length buffer) where
  rule_long : length (take k rule) ≤ 24
  rule_long = rw length-take (omega arith)

  pub strokes_written : symbols_of (take n last) ≡ strokes (lines_by text ls) 1 letter
  unfolding strokes passes
  strokes_written =
      let all : 12 * length (take k rule) ≤ length buffer = omega (arith, rule_long) in
      rw (draws_written text sized (take k rule) buffer a says left count book_is all, filled) refl

  pub strokes_count : n ≤ 288
  strokes_count =
      let all : 12 * length (take k rule) ≤ length buffer = omega (arith, rule_long) in
      omega (arith, rule_long, draws_count text sized (take k rule) buffer a says left count book_is all)

pub ruleset passing = (rule_written, rule_count, strokes_written, strokes_count)
