-- A buffer that is filled by fours, from its front up or from the last four's place down: what a walk leaves in it is the list.
use mathlib.Core.Path.{◌≡◌, refl, sym, ap, ◌∙◌}
use mathlib.Core.Bool.{Bool, true, false, cond}
use mathlib.Core.List.{List, [], ◌∷◌, ◌++◌, append_assoc, append-nil}
use Prim.Native.Nat.{ℕ, zero, suc, ◌+◌, ◌-◌, ◌*◌, ◌≤◌, ◌<◌}
use native.Mathlib.Nat.{add-zero, zero-add}
use native.Mathlib.Omega.{arith}
use lib.IntN.{ℤ}
use lib.ListN.{length, get_or, take, drop, length-append, length-drop, take-append-drop}
use lib.Seq.{sets, sets-eq, take_at, drop_at, take-append-le, drop-append-add, take-take, drop-drop, length-take-le}
use Rattle.triple.specs.Orientations.{place_from}
use Rattle.turtle.specs.declared.letter.Stroke.{Stroke}
use Rattle.turtle.specs.declared.walk.DrawnCell.{DrawnCell}
use Rattle.turtle.specs.Walk.{Sym, left, right, letter, cell, cells}
use Rattle.grammar.specs.Curves.{letter_count}
use Rattle.sketch.specs.declared.pen.Pen.{Pen}
use Rattle.sketch.specs.Inside.Pens.{entries_of, pen_on, ink, inked}

-- what f has for n places from s on, one after the other
unfoldable pub listed : (ℕ → List ℤ) → ℕ → ℕ → List ℤ
listed f zero s = []
listed f (suc n) s = f s ++ listed f n (suc s)

-- n fours, of which f has those for each place
module _ (f : ℕ → List ℤ) (n : ℕ) (fours : (s : ℕ) → s < n → length (f s) ≡ 4) where
  pub length_listed : (k s : ℕ) → s + k ≤ n → length (listed f k s) ≡ 4 * k
  unfolding listed
  length_listed zero s h = refl
  length_listed (suc k) s h = length-append (f s) (listed f k (suc s)) ∙ omega (arith, fours s (omega arith), length_listed k (suc s) (omega arith))

  listed_last : (k s : ℕ) → listed f (suc k) s ≡ listed f k s ++ f (s + k)
  unfolding listed
  listed_last zero s = append-nil (f s) ∙ ap f (sym (add-zero s))
  listed_last (suc k) s =
      let e : suc s + k ≡ s + suc k = omega arith in
      ap (λ l. f s ++ l) (listed_last k (suc s)) ∙ sym (append_assoc (f s) (listed f k (suc s)) _) ∙ ap (λ j. f s ++ listed f k (suc s) ++ f j) e

  module _ (out : List ℤ) (room : 4 * n ≤ length out) where
    -- k of them from the place s on are there
    unfoldable between : ℕ → ℕ → List ℤ
    between s k = take (4 * s) out ++ listed f k s ++ drop (4 * (s + k)) out

    front_length : (s k : ℕ) → s + k ≤ n → length (take (4 * s) out ++ listed f k s) ≡ 4 * (s + k)
    front_length s k h = length-append (take (4 * s) out) (listed f k s) ∙ omega (arith, length-take-le (4 * s) out (omega arith), length_listed k s h)

    between_length : (s k : ℕ) → s + k ≤ n → length (between s k) ≡ length out
    unfolding between
    between_length s k h = length-append (take (4 * s) out ++ listed f k s) (drop (4 * (s + k)) out) ∙ omega (arith, front_length s k h, length-drop (4 * (s + k)) out)

    stored : (s k j : ℕ) → s + k ≤ n → j < n → sets (between s k) (4 * j) (f j) ≡ take (4 * j) (between s k) ++ f j ++ drop (4 * j + 4) (between s k)
    stored s k j h l =
        sets-eq (f j) (between s k) (4 * j) (omega (arith, fours j l, between_length s k h))
        ∙ ap (λ m. take (4 * j) (between s k) ++ f j ++ drop (4 * j + m) (between s k)) (fours j l)

    -- one more above, one more below
    above : (s k : ℕ) → s + k < n → sets (between s k) (4 * (s + k)) (f (s + k)) ≡ between s (suc k)
    unfolding between
    above s k h =
        let a = take (4 * s) out ++ listed f k s in
        let d = drop (4 * (s + k)) out in
        let long = front_length s k (omega arith) in
        let more : 4 * (s + k) + 4 ≡ 4 * (s + suc k) = omega arith in
        let rest : drop (4 * (s + k) + 4) (a ++ d) ≡ drop (4 * (s + suc k)) out = ap (λ m. drop (m + 4) (a ++ d)) (sym long) ∙ drop-append-add a d 4 ∙ drop-drop 4 (4 * (s + k)) out ∙ ap (λ m. drop m out) more in
        stored s k (s + k) (omega arith) h
        ∙ ap (λ l. l ++ f (s + k) ++ drop (4 * (s + k) + 4) (a ++ d)) (take_at a d (4 * (s + k)) long)
        ∙ ap (λ l. a ++ f (s + k) ++ l) rest
        ∙ ap (λ l. l ++ drop (4 * (s + suc k)) out) (append_assoc (take (4 * s) out) (listed f k s) (f (s + k)) ∙ ap (λ l. take (4 * s) out ++ l) (sym (listed_last k s)))

    below : (s k : ℕ) → suc s + k ≤ n → sets (between (suc s) k) (4 * s) (f s) ≡ between s (suc k)
    unfolding between listed
    below s k h =
        let a = take (4 * suc s) out in
        let d = drop (4 * (suc s + k)) out in
        let long : length a ≡ 4 * s + 4 = length-take-le (4 * suc s) out (omega arith) ∙ omega arith in
        let assoc : a ++ listed f k (suc s) ++ d ≡ a ++ (listed f k (suc s) ++ d) = append_assoc a (listed f k (suc s)) d in
        let front : take (4 * s) (a ++ (listed f k (suc s) ++ d)) ≡ take (4 * s) out = take-append-le (4 * s) a (listed f k (suc s) ++ d) (omega arith) ∙ take-take (4 * s) (4 * suc s) out (omega arith) in
        let same : 4 * (suc s + k) ≡ 4 * (s + suc k) = omega arith in
        stored (suc s) k s h (omega arith)
        ∙ ap (λ l. take (4 * s) l ++ f s ++ drop (4 * s + 4) l) assoc
        ∙ ap (λ l. l ++ f s ++ drop (4 * s + 4) (a ++ (listed f k (suc s) ++ d))) front
        ∙ ap (λ l. take (4 * s) out ++ f s ++ l) (drop_at a (listed f k (suc s) ++ d) (4 * s + 4) long)
        ∙ sym (append_assoc (take (4 * s) out ++ f s) (listed f k (suc s)) d)
        ∙ ap (λ l. l ++ d) (append_assoc (take (4 * s) out) (f s) (listed f k (suc s)))
        ∙ ap (λ m. take (4 * s) out ++ (f s ++ listed f k (suc s)) ++ drop m out) same

    -- after k of them, from either end
    state_at : Bool → ℕ → List ℤ
    state_at back k = between (cond back (n - k) 0) k

    state_more : (back : Bool) (k : ℕ) → k < n → sets (state_at back k) (4 * place_from back n k) (f (place_from back n k)) ≡ state_at back (suc k)
    unfolding state_at place_from
    state_more false k h = ap (λ j. sets (between 0 k) (4 * j) (f j)) (sym (zero-add k)) ∙ above 0 k (omega arith)
    state_more true k h =
        let s = n - 1 - k in
        let up : n - k ≡ suc s = omega arith in
        let down : s ≡ n - suc k = omega arith in
        ap (λ j. sets (between j k) (4 * s) (f s)) up ∙ below s k (omega arith) ∙ ap (λ j. between j (suc k)) down

    state_first : (back : Bool) → state_at back 0 ≡ out
    unfolding state_at between listed
    state_first back = go (cond back (n - 0) 0)
      where
        go : (s : ℕ) → take (4 * s) out ++ [] ++ drop (4 * (s + 0)) out ≡ out
        go s = ap (λ l. l ++ drop (4 * (s + 0)) out) (append-nil (take (4 * s) out)) ∙ ap (λ j. take (4 * s) out ++ drop (4 * j) out) (add-zero s) ∙ take-append-drop (4 * s) out

    state_last : (back : Bool) → state_at back n ≡ listed f n 0 ++ drop (4 * n) out
    unfolding state_at between
    state_last back = go back
      where
        none : n - n ≡ 0
        none = omega arith

        go : (back : Bool) → between (cond back (n - n) 0) n ≡ listed f n 0 ++ drop (4 * n) out
        go true = ap (λ s. between s n) none ∙ ap (λ j. listed f n 0 ++ drop (4 * j) out) (zero-add n)
        go false = ap (λ j. listed f n 0 ++ drop (4 * j) out) (zero-add n)

    -- a walk fills the buffer, where its cells are f's
    inked_fills : (d : DrawnCell) (w : List (Sym Stroke)) (p : Pen) → p.cells ≡ n → p.drawn + letter_count w ≤ n
        → ((j : ℕ) → j < letter_count w → entries_of (get_or (cells w p.turtle) j d) ≡ f (place_from p.backward n (p.drawn + j)))
        → inked w p (state_at p.backward p.drawn) ≡ state_at p.backward (p.drawn + letter_count w)
    unfolding inked pen_on ink cells letter_count
    inked_fills d [] p e h g = ap (state_at p.backward) (sym (add-zero p.drawn))
    inked_fills d (left ∷ w) p e h g = inked_fills d w (pen_on left p) e h g
    inked_fills d (right ∷ w) p e h g = inked_fills d w (pen_on right p) e h g
    inked_fills d (letter s ∷ w) p e h g =
        let b = p.backward in
        let k = p.drawn in
        let v = entries_of (cell s p.turtle) in
        let here : v ≡ f (place_from b n k) = g 0 (omega arith) ∙ ap (λ j. f (place_from b n j)) (add-zero k) in
        let more : suc k ≡ k + 1 = omega arith in
        let put : sets (state_at b k) (4 * place_from b p.cells k) v ≡ state_at b (k + 1) =
        ap (λ m. sets (state_at b k) (4 * place_from b m k) v) e ∙ ap (sets (state_at b k) (4 * place_from b n k)) here ∙ state_more b k (omega arith) ∙ ap (state_at b) more in
        let same : k + 1 + letter_count w ≡ k + suc (letter_count w) = omega arith in
        ap (inked w (pen_on (letter s) p)) put
        ∙ inked_fills d w (pen_on (letter s) p) e (omega arith) (λ j l. g (suc j) (omega arith) ∙ ap (λ i. f (place_from b n i)) (omega arith))
        ∙ ap (state_at b) same

    pub walk_fills : (d : DrawnCell) (w : List (Sym Stroke)) (p : Pen) → p.cells ≡ n → p.drawn ≡ 0 → letter_count w ≡ n
        → ((j : ℕ) → j < n → entries_of (get_or (cells w p.turtle) j d) ≡ f (place_from p.backward n j))
        → inked w p out ≡ listed f n 0 ++ drop (4 * n) out
    walk_fills d w p e z all g =
        let b = p.backward in
        let none : (j : ℕ) → j ≡ p.drawn + j = λ j. omega arith in
        let whole : p.drawn + letter_count w ≡ n = omega arith in
        ap (inked w p) (sym (state_first b) ∙ ap (state_at b) (sym z))
        ∙ inked_fills d w p e (omega arith) (λ j l. g j (omega arith) ∙ ap (λ i. f (place_from b n i)) (none j))
        ∙ ap (state_at b) whole ∙ state_last b
