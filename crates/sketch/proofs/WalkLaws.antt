-- A word walked byte by byte, in the form of what the walkers have in hand: what is behind, the byte, what is ahead.
use mathlib.Core.Path.{◌≡◌, refl, sym, ap, ◌∙◌, subst}
use mathlib.Core.List.{List, [], ◌∷◌, ◌++◌, map, reverse, reverse-cons}
use Prim.Native.Nat.{ℕ, suc, ◌+◌, ◌≤◌, ◌<◌}
use native.Mathlib.Numerals.{add-one}
use lib.IntN.{ℤ}
use lib.ListN.{length, get_or, take, drop}
use lib.Seq.{take-suc, take_all, split_at}
use Rattle.turtle.specs.declared.letter.Stroke.{Stroke}
use Rattle.turtle.specs.Walk.{Sym}
use Rattle.grammar.specs.Words.{mirrored, reversed}
use Rattle.grammar.proofs.ReversalLaws.{reversed_cons}
use Rattle.std.proofs.lemmas.List.{map-append}
use denote.Bor.{Bor}
use Rattle.sketch.specs.declared.pen.Pen.{Pen}
use Rattle.sketch.specs.Inside.Marks.{marks}
use Rattle.sketch.specs.Inside.Pens.{pen_after, inked, Room}
use Rattle.sketch.proofs.MarkLaws.{marks_nil, marks_append, marks_short}
use Rattle.sketch.proofs.PenLaws.{pen_append, ink_append, length_inked, room_front, room_rest}

-- the pen p and the buffer out come of the word, from p₀ and out₀
pub record Walked (k : ℕ) (word : List ℕ) (p₀ : Pen) (out₀ : List ℤ) (p : Pen) (out : List ℤ) : Type 0 where
  pub pen : p ≡ pen_after (marks k word) p₀
  pub ink : out ≡ inked (marks k word) p₀ out₀

pub walk_none : (k : ℕ) {word : List ℕ} (p : Pen) (out : List ℤ) → word ≡ [] → Walked k word p out p out
unfolding pen_after inked
walk_none k {word} p out e =
    let z : marks k word ≡ [] = ap (marks k) e ∙ marks_nil k in
    record { pen = sym (ap (λ m. pen_after m p) z); ink = sym (ap (λ m. inked m p out) z) }

pub walk_end : {k : ℕ} {done word : List ℕ} {p₀ p : Pen} {out₀ out : List ℤ} → done ≡ word → Walked k done p₀ out₀ p out → (p ≡ pen_after (marks k word) p₀) × (out ≡ inked (marks k word) p₀ out₀)
walk_end {k} {done} {word} {p₀} {p} {out₀} e w = (w.pen ∙ ap (λ v. pen_after (marks k v) p₀) e, w.ink ∙ ap (λ v. inked (marks k v) p₀ out₀) e)

pub walk_length : {k : ℕ} {done : List ℕ} {p₀ p : Pen} {out₀ out : List ℤ} → Walked k done p₀ out₀ p out → length out ≡ length out₀
walk_length {k} {done} {p₀} {p} {out₀} w = ap length w.ink ∙ length_inked (marks k done) p₀ out₀

-- one byte more; m is what it comes to
module _ (k : ℕ) (b : ℕ) {done : List ℕ} {p₀ p : Pen} {out₀ out : List ℤ} (so_far : Walked k done p₀ out₀ p out) {m : List (Sym Stroke)} (is : marks k (b ∷ []) ≡ m) where
  pub walk_room : (ahead : List ℕ) {word : List ℕ} → word ≡ done ++ (b ∷ ahead) → Room (marks k word) p₀ out₀ → Room m p out
  walk_room ahead {word} e r =
      let parts : marks k word ≡ marks k done ++ (m ++ marks k ahead) = ap (marks k) e ∙ marks_append k done (b ∷ ahead) ∙ ap (λ l. marks k done ++ l) (marks_append k (b ∷ []) ahead ∙ ap (λ n. n ++ marks k ahead) is) in
      let whole : Room (marks k done ++ (m ++ marks k ahead)) p₀ out₀ = subst (λ w. Room w p₀ out₀) parts r in
      rw (so_far.pen, so_far.ink) (room_front m (marks k ahead) (room_rest (marks k done) (m ++ marks k ahead) (marks_short k done) whole))

  pub walk_next : {more : List ℕ} → done ++ (b ∷ []) ≡ more → {q : Pen} {last : List ℤ} → (q ≡ pen_after m p) × (last ≡ inked m p out) → Walked k more p₀ out₀ q last
  walk_next {more} e n =
      let parts : marks k more ≡ marks k done ++ m = ap (marks k) (sym e) ∙ marks_append k done (b ∷ []) ∙ ap (λ n. marks k done ++ n) is in
      record {
        pen = n.0 ∙ ap (pen_after m) so_far.pen ∙ sym (pen_append (marks k done) m p₀) ∙ ap (λ w. pen_after w p₀) (sym parts);
        ink = n.1 ∙ (rw (so_far.pen, so_far.ink) (sym (ink_append (marks k done) m p₀ out₀))) ∙ ap (λ w. inked w p₀ out₀) (sym parts);
      }

-- ---- a word from its front
module _ (w : List ℕ) where
  pub along_split : (i : ℕ) → i < length w → w ≡ take i w ++ (get_or w i 0 ∷ drop (suc i) w)
  along_split i h = split_at w i 0 h

  pub along_more : (i : ℕ) → i < length w → take i w ++ (get_or w i 0 ∷ []) ≡ take (i + 1) w
  along_more i h = sym (take-suc w i 0 h) ∙ ap (λ n. take n w) (sym (add-one i))

  pub along_all : (i : ℕ) → length w ≤ i → take i w ≡ w
  along_all i h = take_all i w h

-- ---- and from its end, each byte mirrored
abbrev pub mirrors : List (Bor ℕ) → List ℕ
mirrors xs = map mirrored (map (λ y. y.now) xs)

pub back_more : (xs : List (Bor ℕ)) (x : Bor ℕ) {b : ℕ} → b ≡ mirrored x.now → mirrors xs ++ (b ∷ []) ≡ mirrors (xs ++ (x ∷ []))
back_more xs x e = rw (map-append, map-append) (ap (λ b. mirrors xs ++ (b ∷ [])) e)

back_is : (w : List ℕ) → reversed w ≡ map mirrored (reverse w)
back_is [] = unfold reversed in refl
back_is (b ∷ w) = rw (reversed_cons, back_is w, reverse-cons, map-append)

module _ (w : List ℕ) where
  pub back_split : (xs : List (Bor ℕ)) (x : Bor ℕ) {b : ℕ} → b ≡ mirrored x.now → map (λ y. y.now) xs ≡ take (length xs) (reverse w) → (length xs < length (reverse w)) × (x.now ≡ get_or (reverse w) (length xs) x.now)
      → reversed w ≡ mirrors xs ++ (b ∷ map mirrored (drop (suc (length xs)) (reverse w)))
  back_split xs x {b} e f t =
      let n = length xs in
      let parts : reverse w ≡ map (λ y. y.now) xs ++ (x.now ∷ drop (suc n) (reverse w)) = split_at (reverse w) n x.now t.0 ∙ ap (λ c. take n (reverse w) ++ (c ∷ drop (suc n) (reverse w))) (sym t.1) ∙ ap (λ l. l ++ (x.now ∷ drop (suc n) (reverse w))) (sym f) in
      back_is w ∙ ap (map mirrored) parts ∙ map-append mirrored (map (λ y. y.now) xs) (x.now ∷ drop (suc n) (reverse w)) ∙ ap (λ b. mirrors xs ++ (b ∷ map mirrored (drop (suc n) (reverse w)))) (sym e)

  pub back_all : (xs : List (Bor ℕ)) → map (λ y. y.now) xs ≡ reverse w → mirrors xs ≡ reversed w
  back_all xs e = ap (map mirrored) e ∙ sym (back_is w)
