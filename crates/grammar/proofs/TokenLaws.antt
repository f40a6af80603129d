-- The letters of the listed motifs, in either case, are the tokens: each stands at its token among the tokens' letters, and each token's letter is one of them.
use Rattle.std.specs.Prelude.{None, Some}
use mathlib.Core.Path.{◌≡◌, refl, sym, ◌∙◌, subst}
use mathlib.Core.Bool.{Bool, true, false, ◌||◌, cond}
use mathlib.Core.List.Memᴰ
use mathlib.Core.List.{List, [], ◌∷◌, map, Memᴰ}
use mathlib.Core.Logic.{◌⊎◌, inl, inr}
use Prim.Native.Nat.{ℕ, zero, suc, ◌+◌, ◌≤◌, ◌<◌}
use native.Mathlib.Omega.{arith}
use native.Mathlib.Decide.{dec_lt}
use borrow.Author.Tests.{ne_eqb, eqb-true, eqb-false}
use lib.Dec.{T, eqb}
use lib.ListN.{length, get_or}
use Rattle.whole.proofs.Bools.{is_true}
use Rattle.whole.proofs.Lists.{member_at}
use Rattle.turtle.specs.Walk.{letter}
use Rattle.grammar.specs.Words.{is_upper, upper, mirrored}
use Rattle.grammar.specs.Texts.{Line}
use Rattle.grammar.specs.Curves.{book_by, is_named, named_from, token_bytes, letter_of, place_in, token_of, rule_symbol}
use Rattle.grammar.proofs.ReversalLaws.{Byte, plus, minus, big, small, other, byte, is_big, upper_big, upper_small, upper_other, mirrored_big, mirrored_mirrored}

-- ---- a listed letter has a line, and the books have its words
pub record Named (ls : List Line) (u : ℕ) : Type 0 where
  pub line : Line
  pub listed : Memᴰ line ls
  pub name : line.name ≡ u
  pub book : (word : Line → List ℕ) → book_by word ls u ≡ Some (word line)

pub named : (ls : List Line) (u : ℕ) → T (is_named ls u) → Named ls u
named [] u t = absurd t
named (l ∷ ls) u t = go (eqb l.name u) refl t (named ls u)
  where
    go : (s : Bool) → eqb l.name u ≡ s → T (s || is_named ls u) → (T (is_named ls u) → Named ls u) → Named (l ∷ ls) u
    go true e t below = record { line = l; listed = Memᴰ.head refl; name = eqb-true l.name u e; book = λ word. rw e }
    go false e t below =
        let n = below t in
        record { line = n.line; listed = Memᴰ.tail n.listed; name = n.name; book = λ word. rw e (n.book word) }

unnamed : (ls : List Line) (b : ℕ) (word : Line → List ℕ) → (T (is_named ls b) → ⊥) → book_by word ls b ≡ None
unnamed [] b word n = refl
unnamed (l ∷ ls) b word n = go (eqb l.name b) n (unnamed ls b word)
  where
    go : (s : Bool) → (T (s || is_named ls b) → ⊥) → ((T (is_named ls b) → ⊥) → book_by word ls b ≡ None) → cond s (Some (word l)) (book_by word ls b) ≡ None
    go true n below = absurd (n tt)
    go false n below = below n

-- ---- the letters in order
module _ (ls : List Line) where
  from_has : (n b c : ℕ) → b ≤ c → c < b + n → T (is_named ls c) → Memᴰ c (named_from ls n b)
  from_has zero b c low high t = absurd (omega arith)
  from_has (suc n) b c low high t = elim (dec_lt b c) [ yes k ↦ later (is_named ls b) (from_has n (suc b) c k (omega arith) t) | no k ↦ now (is_named ls b) refl (omega arith) ]
    where
      later : (s : Bool) → Memᴰ c (named_from ls n (suc b)) → Memᴰ c (cond s (b ∷ named_from ls n (suc b)) (named_from ls n (suc b)))
      later true m = Memᴰ.tail m
      later false m = m

      now : (s : Bool) → is_named ls b ≡ s → c ≡ b → Memᴰ c (cond s (b ∷ named_from ls n (suc b)) (named_from ls n (suc b)))
      now true e k = Memᴰ.head k
      now false e k = absurd (rw (k, e) at t)

  from_named : (n b c : ℕ) → Memᴰ c (named_from ls n b) → T (is_named ls c)
  from_named zero b c m = absurd (Memᴰ.not-nil m)
  from_named (suc n) b c m = go (is_named ls b) refl m (from_named n (suc b) c)
    where
      here : is_named ls b ≡ true → (c ≡ b) ⊎ Memᴰ c (named_from ls n (suc b)) → (Memᴰ c (named_from ls n (suc b)) → T (is_named ls c)) → T (is_named ls c)
      here e (inl k) below = rw (k, e) tt
      here e (inr m) below = below m

      go : (s : Bool) → is_named ls b ≡ s → Memᴰ c (cond s (b ∷ named_from ls n (suc b)) (named_from ls n (suc b))) → (Memᴰ c (named_from ls n (suc b)) → T (is_named ls c)) → T (is_named ls c)
      go true e m below = here e (Memᴰ.cases_cons m) below
      go false e m below = below m

-- ---- the place of a letter
place_of : (cs : List ℕ) (b : ℕ) → Memᴰ b cs → (place_in cs b < length cs) × (get_or cs (place_in cs b) 0 ≡ b)
place_of [] b m = absurd (Memᴰ.not-nil m)
place_of (c ∷ cs) b m = go (eqb c b) refl (Memᴰ.cases_cons m) (place_of cs b)
  where
    go : (s : Bool) → eqb c b ≡ s → (b ≡ c) ⊎ Memᴰ b cs → (Memᴰ b cs → (place_in cs b < length cs) × (get_or cs (place_in cs b) 0 ≡ b)) → (cond s 0 (suc (place_in cs b)) < suc (length cs)) × (get_or (c ∷ cs) (cond s 0 (suc (place_in cs b))) 0 ≡ b)
    go true e m below = (omega arith, eqb-true c b e)
    go false e (inl k) below = absurd (eqb-false c b e (sym k))
    go false e (inr m) below = let h = below m in (omega arith, h.1)

-- ---- the letters of the listed motifs, in either case
pub data Motif (ls : List Line) : ℕ → Type 0 where
  forward : (u : ℕ) → T (is_named ls u) → 65 ≤ u → u ≤ 90 → Motif ls u
  backward : (u : ℕ) → T (is_named ls u) → 65 ≤ u → u ≤ 90 → Motif ls (mirrored u)

pub motif_mirrored : {ls : List Line} {b : ℕ} → Motif ls b → Motif ls (mirrored b)
motif_mirrored (forward u t low high) = backward u t low high
motif_mirrored {ls} (backward u t low high) = subst (Motif ls) (sym (mirrored_mirrored u)) (forward u t low high)

motif_member : {ls : List Line} {b : ℕ} → Motif ls b → Memᴰ b (token_bytes ls)
unfolding token_bytes
motif_member {ls} (forward u t low high) = Memᴰ.append_left _ (from_has ls 26 65 u low (omega arith) t)
motif_member {ls} (backward u t low high) = rw (mirrored_big u low high) (Memᴰ.append_right (named_from ls 26 65) (Memᴰ.map (λ b. b + 32) (from_has ls 26 65 u low (omega arith) t)))

pub token_below : {ls : List Line} {b : ℕ} → Motif ls b → token_of ls b < length (token_bytes ls)
unfolding token_of
token_below {ls} {b} m = (place_of (token_bytes ls) b (motif_member m)).0

pub token_letter : {ls : List Line} {b : ℕ} → Motif ls b → letter_of ls (token_of ls b) ≡ b
unfolding letter_of token_of
token_letter {ls} {b} m = (place_of (token_bytes ls) b (motif_member m)).1

pub motif_child : {ls : List Line} {b : ℕ} → Motif ls b → rule_symbol ls b ≡ letter (token_of ls b) ∷ []
unfolding rule_symbol
motif_child {ls} (forward u t low high) = rw (ne_eqb u 43 (omega arith), ne_eqb u 45 (omega arith), upper_big u low high, ← (is_true (is_named ls u) t))
motif_child {ls} (backward u t low high) =
    rw (mirrored_big u low high, ne_eqb (u + 32) 43 (omega arith), ne_eqb (u + 32) 45 (omega arith), upper_small u low high, ← (is_true (is_named ls u) t))

module _ (ls : List Line) (uppercase : (l : Line) → Memᴰ l ls → T (is_upper l.name)) where
  name_upper : (u : ℕ) → T (is_named ls u) → T (is_upper u)
  name_upper u t = let n = named ls u t in rw n.name at (uppercase n.line n.listed)

  other_name : (b : ℕ) → is_upper b ≡ false → T (is_named ls b) → ⊥
  other_name b e t = rw e at (name_upper b t)

  -- so the books have words for uppercase letters alone
  pub no_word : (word : Line → List ℕ) (b : ℕ) → is_upper b ≡ false → book_by word ls b ≡ None
  no_word word b e = unnamed ls b word (other_name b e)

  pub motif : (b : ℕ) → T (is_named ls (upper b)) → Motif ls b
  unfolding upper
  motif b t = go (byte b) t
    where
      go : {b : ℕ} → Byte b → T (is_named ls (upper b)) → Motif ls b
      go plus t = absurd (other_name 43 refl t)
      go minus t = absurd (other_name 45 refl t)
      go (big u low high) t = forward u (rw (upper_big u low high) at t) low high
      go (small u low high) t = subst (Motif ls) (mirrored_big u low high) (backward u (rw (upper_small u low high) at t) low high)
      go (other b p m l e) t = absurd (other_name b e (rw (upper_other b l) at t))

  pub token_motif : (m : ℕ) → m < length (token_bytes ls) → Motif ls (letter_of ls m)
  unfolding letter_of token_bytes
  token_motif m k = go (Memᴰ.append_cases (named_from ls 26 65) (member_at (token_bytes ls) m 0 k))
    where
      go : {b : ℕ} → Memᴰ b (named_from ls 26 65) ⊎ Memᴰ b (map (λ b. b + 32) (named_from ls 26 65)) → Motif ls b
      go {b} (inl m) = let t = from_named ls 26 65 b m in let h = is_big b (name_upper b t) in forward b t h.0 h.1
      go {b} (inr m) =
          let (u, n, e) = Memᴰ.of_map (λ b. b + 32) (named_from ls 26 65) m in
          let t = from_named ls 26 65 u n in
          let h = is_big u (name_upper u t) in
          subst (Motif ls) (mirrored_big u h.0 h.1 ∙ e) (backward u t h.0 h.1)
