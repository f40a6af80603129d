-- What a union or an intersection makes of two areas has no more cells than both together: cells of theirs cover it.
use mathlib.Core.Bool.{true, false, cond, false≢true}
use mathlib.Core.Logic.{◌↔◌, ◌⊎◌, inl, inr, ⊎_elim}
use mathlib.Core.Path.{◌≡◌, refl, sym, ap, ◌∙◌}
use mathlib.Core.List.Memᴰ
use mathlib.Core.List.{List, [], ◌∷◌, ◌++◌, Memᴰ}
use Prim.Native.Nat.{ℕ, suc, ◌+◌, ◌-◌, ◌*◌, ◌/◌, ◌^◌, ◌<◌, ◌≤◌}
use native.Mathlib.Omega.{arith}
use native.Mathlib.Decide.{dec_le}
use lib.Dec.{leb}
use lib.ListN.{length, length-append}
use borrow.Author.Tests.{leb-true, le-leb, lt-leb}
use Rattle.fold.specs.Cells.{Cell, cell, Covers, Covered, cells_in}
use Rattle.fold.specs.Inside.Pairs.{Laid}
use Rattle.area.specs.Areas.{made, made_of, contained}
use Rattle.area.specs.Inside.Rooms.{ample}
use Rattle.fold.proofs.BlockLaws.{which}
use Rattle.fold.proofs.Ground.{covered_left, covered_right, covered_cases}
use Rattle.fold.proofs.Shortest.{div_pow}
use Rattle.area.specs.declared.operation.Operation.{Operation}
use Rattle.area.specs.declared.operation.Operation.TheVariants as For
use Rattle.area.proofs.Made.{made_shortest}
use Rattle.area.proofs.Operations.{union_covers, intersection_covers}
use Rattle.area.proofs.ContainLaws.{contained_covers}

module _ (r : ℕ) where
  -- a cell that has a position of a coarser one lies in it
  nested : (m p n q s : ℕ) → n ≤ m → m ≤ r → Covers r (cell m p) s → Covers r (cell n q) s → (t : ℕ) → Covers r (cell m p) t → Covers r (cell n q) t
  nested m p n q s h l c d t e =
      let j : r - n ≡ (r - m) + (m - n) = omega arith in
      let up : (x : ℕ) → x / 4 ^ (r - m) ≡ p → x / 4 ^ (r - n) ≡ p / 4 ^ (m - n) =
      λ x f. ap (λ (k : ℕ). x / 4 ^ k) j ∙ div_pow x (r - m) (m - n) ∙ ap (λ (y : ℕ). y / 4 ^ (m - n)) f in
      (d.0, up t e.1 ∙ sym (up s c.1) ∙ d.1)

  -- the cells of a that b contains
  shared : List Cell → List Cell → List Cell
  shared b [] = []
  shared b (cell m p ∷ a) = cond (contained r b m p) (cell m p ∷ shared b a) (shared b a)

  few_shared : (b a : List Cell) → length (shared b a) ≤ length a
  unfolding shared
  few_shared b [] = omega arith
  few_shared b (cell m p ∷ a) =
      let f = few_shared b a in
      ⊎_elim (λ (e : contained r b m p ≡ true). rw e (omega arith)) (λ (e : contained r b m p ≡ false). rw e (omega arith)) (which (contained r b m p))

  module _ (b : List Cell) (lb : Laid r 0 b) where
    shared_sound : (place : ℕ) (a : List Cell) → Laid r place a → (s : ℕ) → Covered r (shared b a) s → Covered r a s × Covered r b s
    unfolding shared
    shared_sound place [] l s c = absurd c
    shared_sound place (cell m p ∷ a) l s c =
        let go : Covered r (shared b a) s → Covered r (cell m p ∷ a) s × Covered r b s = λ d. (let f = shared_sound (suc p * 4 ^ (r - m)) a l.3 s d in (inr f.0, f.1)) in
        ⊎_elim
        (λ (e : contained r b m p ≡ true). ⊎_elim (λ d. (inl d, (contained_covers r m p b l.0 l.1 lb).0 e s d)) go (rw e at c))
        (λ (e : contained r b m p ≡ false). go (rw e at c)) (which (contained r b m p))

    -- a cell of a that b contains is there
    shared_mem : (a : List Cell) (c : Cell) → Memᴰ c a → (m p : ℕ) → c ≡ cell m p → contained r b m p ≡ true → (s : ℕ) → Covers r (cell m p) s → Covered r (shared b a) s
    unfolding shared
    shared_mem (cell x y ∷ a) c h m p j e s d =
        ⊎_elim
        (λ (k : c ≡ cell x y).
        (let mx : m ≡ x = cc in
        let py : p ≡ y = cc in
        let f : contained r b x y ≡ true = rw (← mx, ← py) e in
        rw f (inl (rw (← mx, ← py) d))))
        (λ k. (let f = shared_mem a c k m p j e s d in
        ⊎_elim (λ (g : contained r b x y ≡ true). rw g (inr f)) (λ (g : contained r b x y ≡ false). rw g f) (which (contained r b x y))))
        (Memᴰ.cases_cons h)
    shared_mem [] c h m p j e s d = absurd (Memᴰ.not-nil h)

  -- the cell of a list that has a position
  record Found (cells : List Cell) (s : ℕ) : Type 0 where
    res : ℕ
    pos : ℕ
    fine : res ≤ r
    low : pos < 4 ^ res
    covers : Covers r (cell res pos) s
    all : (t : ℕ) → Covers r (cell res pos) t → Covered r cells t
    mem : Memᴰ (cell res pos) cells

  find : (place : ℕ) (cells : List Cell) → Laid r place cells → (s : ℕ) → Covered r cells s → Found cells s
  find place [] l s c = absurd c
  find place (cell m p ∷ cells) l s c =
      ⊎_elim (λ (d : Covers r (cell m p) s). record { res = m; pos = p; fine = l.0; low = l.1; covers = d; all = λ t e. inl e; mem = Memᴰ.head refl })
      (λ (d : Covered r cells s).
      (let f = find (suc p * 4 ^ (r - m)) cells l.3 s d in
      record { res = f.res; pos = f.pos; fine = f.fine; low = f.low; covers = f.covers; all = λ t e. inr (f.all t e); mem = Memᴰ.tail f.mem })) c

  module _ (a b : List Cell) (la : Laid r 0 a) (lb : Laid r 0 b) where
    -- of two cells that have a position, the finer lies in the other
    shared_both : (s : ℕ) → Covered r a s → Covered r b s → Covered r (shared b a ++ shared a b) s
    shared_both s c d =
        let f = find 0 a la s c in
        let g = find 0 b lb s d in
        elim (dec_le g.res f.res) [
          | yes h ↦
              covered_left r s (shared b a) (shared a b)
              (shared_mem b lb a (cell f.res f.pos) f.mem f.res f.pos refl
              ((contained_covers r f.res f.pos b f.fine f.low lb).1
              (λ t e. g.all t (nested f.res f.pos g.res g.pos s h f.fine f.covers g.covers t e))) s f.covers)
          | no h ↦
              covered_right r s (shared b a) (shared a b)
              (shared_mem a la b (cell g.res g.pos) g.mem g.res g.pos refl
              ((contained_covers r g.res g.pos a g.fine g.low la).1
              (λ t e. f.all t (nested g.res g.pos f.res f.pos s (omega arith) g.fine g.covers f.covers t e))) s g.covers)
        ]

    pub intersection_few : length (made r For.Intersection a b) ≤ length a + length b
    intersection_few =
        let cells = shared b a ++ shared a b in
        let same : (s : ℕ) → Covered r cells s ↔ Covered r (made r For.Intersection a b) s =
        λ s.
        (let i = intersection_covers r a b la lb s in (
          (λ c. i.1 (⊎_elim (λ d. shared_sound b lb 0 a la s d) (λ d. (let e = shared_sound a la 0 b lb s d in (e.1, e.0))) (covered_cases r s (shared b a) (shared a b) c))),
          λ c. (let e = i.0 c in shared_both s e.0 e.1),
        )) in
        omega (arith, made_shortest r For.Intersection a b la lb cells same, length-append (shared b a) (shared a b), few_shared b a, few_shared a b)

    pub union_few : length (made r For.Union a b) ≤ length a + length b
    union_few =
        let same : (s : ℕ) → Covered r (a ++ b) s ↔ Covered r (made r For.Union a b) s =
        λ s. (let u = union_covers r a b la lb s in ((λ c. u.1 (covered_cases r s a b c)), λ c. ⊎_elim (covered_left r s a b) (covered_right r s a b) (u.0 c))) in
        omega (arith, made_shortest r For.Union a b la lb (a ++ b) same, length-append a b)

pub few_cells : (xs : List ℕ) → 2 * length (cells_in xs) ≤ length xs
unfolding cells_in
few_cells [] = omega arith
few_cells (x ∷ []) = omega arith
few_cells (x ∷ y ∷ xs) = omega (arith, few_cells xs)

module _ (a b : List ℕ) (la : Laid 30 0 (cells_in a)) (lb : Laid 30 0 (cells_in b)) (room : ℕ) where
  pub ample_room : (o : Operation) → ample o (length a / 2) (length b / 2) room ≡ true → length (made_of o a b) ≤ room
  unfolding ample made_of
  ample_room For.Union h = omega (arith, leb-true (length a / 2 + length b / 2) room h, union_few 30 (cells_in a) (cells_in b) la lb, few_cells a, few_cells b)
  ample_room For.Intersection h = omega (arith, leb-true (length a / 2 + length b / 2) room h, intersection_few 30 (cells_in a) (cells_in b) la lb, few_cells a, few_cells b)
  ample_room For.Difference h = absurd (false≢true h)

-- ---- the tests of the code
module _ (a b room : ℕ) {o : Operation} where
  module _ (either : (o ≡ For.Union) ⊎ (o ≡ For.Intersection)) where
    sum_tells : leb (a + b) room ≡ ample o a b room
    unfolding ample
    sum_tells = ⊎_elim (λ (e : o ≡ For.Union). rw e) (λ (e : o ≡ For.Intersection). rw e) either

    pub ample_not : room < a → leb a room ≡ ample o a b room
    ample_not h = lt-leb a room h ∙ sym (lt-leb (a + b) room (omega arith)) ∙ sum_tells

    pub ample_tells : a ≤ room → leb b (room - a) ≡ ample o a b room
    ample_tells h =
        elim (dec_le (a + b) room) [
          | yes l ↦ le-leb b (room - a) (omega arith) ∙ sym (le-leb (a + b) room l)
          | no l ↦ lt-leb b (room - a) (omega arith) ∙ sym (lt-leb (a + b) room (omega arith))
        ]
        ∙ sum_tells

  pub ample_difference : o ≡ For.Difference → false ≡ ample o a b room
  unfolding ample
  ample_difference e = rw e

pub ruleset amples = (ample_not, ample_tells, ample_difference)
