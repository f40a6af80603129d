-- What is true of the calls, as lists: what each covers, that it is folded, and what two calls give one after another.
use mathlib.Core.Bool.{Bool, true, false, not, ◌||◌, ◌&&◌, or_assoc, or_self}
use mathlib.Core.Logic.{◌↔◌, ◌⊎◌}
use mathlib.Core.Path.{◌≡◌, refl, sym, ap, ◌∙◌}
use mathlib.Core.List.Memᴰ
use mathlib.Core.List.{List, [], ◌∷◌}
use Prim.Native.Nat.{ℕ, ◌+◌, ◌≤◌}
use native.Mathlib.Omega.{arith}
use lib.ListN.{length}
use Rattle.triple.specs.Refusals.{Told, told, refused, ◌>>=◌}
use Rattle.triple.specs.Lent.{valued}
use Rattle.triple.proofs.RefusalLaws.{never}
use Rattle.fold.specs.Cells.{Cell, cell, Covers, Covered, pairs, cells_in}
use Rattle.fold.specs.Unfolds.{unfold_of, unfold_call}
use Rattle.fold.specs.Foldings.{Lone}
use Rattle.fold.specs.Inside.Pairs.{Laid}
use Rattle.fold.proofs.CallLaws.{unfolded, unfold_told}
use Rattle.area.specs.declared.operation.Operation.{Operation}
use Rattle.area.specs.declared.operation.Operation.TheVariants as For
use Rattle.area.specs.Areas.{held, keeps, made, tested, made_of, made_call, size_call, contained, contains_call}
use Rattle.area.proofs.Made.{made_laid, made_shortest, made_held, made_same, made_only}
use Rattle.area.proofs.Operations.{union_covers, intersection_covers, difference_covers, union_self, union_commutes, intersection_commutes, union_associates}
use Rattle.area.proofs.ContainLaws.{contained_covers}
use Rattle.area.proofs.SizeLaws.{made_coarser, sizes_add}
use Rattle.area.proofs.Accepted.{Area, Given, tested_told, tested_turned, made_given, made_told, area_pairs}

-- ---- what each covers
module _ (a b : List ℕ) {out : List ℕ} where
  pub union_ground : made_call For.Union a b ≡ told out → (s : ℕ) → Covered 30 (cells_in out) s ↔ (Covered 30 (cells_in a) s ⊎ Covered 30 (cells_in b) s)
  union_ground e s = let g = made_given For.Union a b e in rw g.cells (union_covers 30 (cells_in a) (cells_in b) g.first.laid g.second.laid s)

  pub intersection_ground : made_call For.Intersection a b ≡ told out → (s : ℕ) → Covered 30 (cells_in out) s ↔ (Covered 30 (cells_in a) s × Covered 30 (cells_in b) s)
  intersection_ground e s = let g = made_given For.Intersection a b e in rw g.cells (intersection_covers 30 (cells_in a) (cells_in b) g.first.laid g.second.laid s)

  pub difference_ground : made_call For.Difference a b ≡ told out → (s : ℕ) → Covered 30 (cells_in out) s ↔ (Covered 30 (cells_in a) s × (Covered 30 (cells_in b) s → ⊥))
  difference_ground e s = let g = made_given For.Difference a b e in rw g.cells (difference_covers 30 (cells_in a) (cells_in b) g.first.laid g.second.laid s)

  -- no cells at all that cover the same are fewer
  pub out_shortest : (o : Operation) → made_call o a b ≡ told out → (cells : List Cell) → ((s : ℕ) → Covered 30 cells s ↔ Covered 30 (cells_in out) s) → length (cells_in out) ≤ length cells
  out_shortest o e cells same =
      let g = made_given o a b e in
      rw g.cells (made_shortest 30 o (cells_in a) (cells_in b) g.first.laid g.second.laid cells (λ s. rw g.cells at (same s)))

-- whether a cell is wholly inside
contains_taken : (a : List ℕ) (m p : ℕ) {x : Bool} → contains_call a m p ≡ told x → Area (m ∷ p ∷ []) × Area a × (told (contained 30 (cells_in a) m p) ≡ told x)
unfolding contains_call
contains_taken a m p e = tested_told (m ∷ p ∷ []) a (told (contained 30 (cells_in a) m p)) e

flag_same : {x y : Bool} → told x ≡ told y → x ≡ y
flag_same e = cc

pub contains_ground : (a : List ℕ) (m p : ℕ) {x : Bool} → contains_call a m p ≡ told x → (x ≡ true) ↔ ((s : ℕ) → Covers 30 (cell m p) s → Covered 30 (cells_in a) s)
unfolding cells_in
contains_ground a m p {x} e =
    let t = contains_taken a m p e in
    let same : contained 30 (cells_in a) m p ≡ x = flag_same t.2 in
    let c = contained_covers 30 m p (cells_in a) t.0.laid.0 t.0.laid.1 t.1.laid in
    ((λ h. c.0 (same ∙ h)), λ f. sym same ∙ c.1 f)

-- ---- in turn, and three
pub union_turned : (a b : List ℕ) → made_call For.Union a b ≡ made_call For.Union b a
unfolding made_call made_of
union_turned a b = tested_turned a b _ ∙ ap (λ (l : List Cell). tested b a (told (pairs l))) (union_commutes 30 (cells_in a) (cells_in b))

pub intersection_turned : (a b : List ℕ) → made_call For.Intersection a b ≡ made_call For.Intersection b a
unfolding made_call made_of
intersection_turned a b = tested_turned a b _ ∙ ap (λ (l : List Cell). tested b a (told (pairs l))) (intersection_commutes 30 (cells_in a) (cells_in b))

module _ (a b c : List ℕ) (x : Area a) (y : Area b) (z : Area c) where
  pub union_joined : (made_call For.Union a b >>= λ u. made_call For.Union u c) ≡ (made_call For.Union b c >>= λ v. made_call For.Union a v)
  union_joined =
      let u = pairs (made 30 For.Union (cells_in a) (cells_in b)) in
      let v = pairs (made 30 For.Union (cells_in b) (cells_in c)) in
      let gu = made_given For.Union a b (made_told For.Union a b x y) in
      let gv = made_given For.Union b c (made_told For.Union b c y z) in
      let left : made_call For.Union u c ≡ told (pairs (made 30 For.Union (made 30 For.Union (cells_in a) (cells_in b)) (cells_in c))) =
      made_told For.Union u c gu.area z ∙ ap (λ (l : List Cell). told (pairs (made 30 For.Union l (cells_in c)))) gu.cells in
      let right : made_call For.Union a v ≡ told (pairs (made 30 For.Union (cells_in a) (made 30 For.Union (cells_in b) (cells_in c)))) =
      made_told For.Union a v x gv.area ∙ ap (λ (l : List Cell). told (pairs (made 30 For.Union (cells_in a) l))) gv.cells in
      rw (made_told For.Union a b x y, made_told For.Union b c y z)
      (left ∙ ap (λ (l : List Cell). told (pairs l)) (union_associates 30 (cells_in a) (cells_in b) (cells_in c) x.laid y.laid z.laid) ∙ sym right)

-- ---- again
pub union_again : (a : List ℕ) → Area a → Lone (cells_in a) → made_call For.Union a a ≡ told a
union_again a x lone = made_told For.Union a a x x ∙ ap told (ap pairs (union_self 30 (cells_in a) x.laid lone) ∙ area_pairs a x)

pub union_twice : (a b : List ℕ) {u : List ℕ} → made_call For.Union a b ≡ told u → made_call For.Union u b ≡ told u
unfolding keeps
union_twice a b {u} e =
    let g = made_given For.Union a b e in
    let x = cells_in a in
    let y = cells_in b in
    let la = g.first.laid in
    let lb = g.second.laid in
    let same : made 30 For.Union (made 30 For.Union x y) y ≡ made 30 For.Union x y =
    made_same 30 For.Union For.Union (made 30 For.Union x y) y x y
    (λ s. rw (made_held 30 For.Union x y la lb s) (or_assoc (held 30 x s) (held 30 y s) (held 30 y s) ∙ ap (λ (t : Bool). held 30 x s || t) (or_self (held 30 y s)))) in
    made_told For.Union u b g.area g.second ∙ ap (λ (l : List Cell). told (pairs (made 30 For.Union l y))) g.cells ∙ ap (λ (l : List Cell). told (pairs l)) same ∙ ap told (sym g.as_pairs)

-- ---- one area parts another
split : (x y : Bool) → ((x && not y) || (x && y)) ≡ (x || x)
split true true = refl
split true false = refl
split false y = refl

disjoint : (x y : Bool) → ((x && not y) && (x && y)) ≡ false
disjoint true true = refl
disjoint true false = refl
disjoint false y = refl

module _ (a b : List ℕ) {d i : List ℕ} (ed : made_call For.Difference a b ≡ told d) (ei : made_call For.Intersection a b ≡ told i) where
  gd : Given For.Difference a b d
  gd = made_given For.Difference a b ed

  gi : Given For.Intersection a b i
  gi = made_given For.Intersection a b ei

  abbrev x : List Cell
  x = cells_in a

  abbrev y : List Cell
  y = cells_in b

  pub parted_whole : made_call For.Union d i ≡ made_call For.Union a a
  unfolding keeps
  parted_whole =
      let la = gd.first.laid in
      let lb = gd.second.laid in
      let same : made 30 For.Union (made 30 For.Difference x y) (made 30 For.Intersection x y) ≡ made 30 For.Union x x =
      made_same 30 For.Union For.Union (made 30 For.Difference x y) (made 30 For.Intersection x y) x x
      (λ s. rw (made_held 30 For.Difference x y la lb s, made_held 30 For.Intersection x y la lb s) (split (held 30 x s) (held 30 y s))) in
      made_told For.Union d i gd.area gi.area ∙ rw (gd.cells, gi.cells) (ap (λ (l : List Cell). told (pairs l)) same) ∙ sym (made_told For.Union a a gd.first gd.first)

  pub parted_clear : made_call For.Intersection d i ≡ told []
  unfolding keeps held pairs
  parted_clear =
      let la = gd.first.laid in
      let lb = gd.second.laid in
      let ld = made_laid 30 For.Difference x y la lb in
      let li = made_laid 30 For.Intersection x y la lb in
      let none : made 30 For.Intersection (made 30 For.Difference x y) (made 30 For.Intersection x y) ≡ [] =
      made_only 30 For.Intersection (made 30 For.Difference x y) (made 30 For.Intersection x y) ld li [] tt (λ m p f. absurd (Memᴰ.not-nil (f 0 (omega arith))))
      (λ s. sym (rw (made_held 30 For.Difference x y la lb s, made_held 30 For.Intersection x y la lb s) (disjoint (held 30 x s) (held 30 y s)))) in
      made_told For.Intersection d i gd.area gi.area ∙ rw (gd.cells, gi.cells) (ap (λ (l : List Cell). told (pairs l)) none)

-- ---- sizes
valued_taken : {A B : Type 0} (f : A → B) (t : Told A) {n : B} → valued f t ≡ told n → (v : A) × (t ≡ told v) × (f v ≡ n)
valued_taken f (told v) e = (v, refl, cc)
valued_taken f (refused m) e = never e

-- an area that has a size at r, and the size
sized : (a : List ℕ) (r : ℕ) {n : ℕ} → size_call a r ≡ told n → (r ≤ 30) × Laid r 0 (cells_in a) × (length (unfold_of r (cells_in a)) ≡ n)
unfolding size_call
sized a r e =
    let t = valued_taken length (unfold_call 0 r a) e in
    let u = unfolded 0 r a t.1 in
    (u.low, u.laid, ap length (sym u.positions) ∙ t.2)

size_told : (r : ℕ) (cells : List Cell) → r ≤ 30 → Laid r 0 cells → Area (pairs cells) → cells_in (pairs cells) ≡ cells → size_call (pairs cells) r ≡ told (length (unfold_of r cells))
unfolding size_call
size_told r cells h l area same =
    ap (valued length) (unfold_told 0 r (pairs cells) h (omega arith) area.even (rw same l)) ∙ ap (λ (c : List Cell). told (length (unfold_of r c))) same

module _ (a b : List ℕ) {u i : List ℕ} (eu : made_call For.Union a b ≡ told u) (ei : made_call For.Intersection a b ≡ told i) where
  made_sized : (o : Operation) {out : List ℕ} → made_call o a b ≡ told out → (r : ℕ) → r ≤ 30 → Laid r 0 (cells_in a) → Laid r 0 (cells_in b)
      → size_call out r ≡ told (length (unfold_of r (made r o (cells_in a) (cells_in b))))
  made_sized o {out} e r h la lb =
      let g = made_given o a b e in
      let c = made_coarser r o (cells_in a) (cells_in b) la lb h in
      let cells = made r o (cells_in a) (cells_in b) in
      let is : out ≡ pairs cells = g.as_pairs ∙ ap pairs c in
      let area : Area (pairs cells) = rw (← is) g.area in
      let same : cells_in (pairs cells) ≡ cells = ap cells_in (sym is) ∙ g.cells ∙ c in
      ap (λ (x : List ℕ). size_call x r) is ∙ size_told r cells h (made_laid r o (cells_in a) (cells_in b) la lb) area same

  pub sizes_sum : (r : ℕ) {v w : ℕ} → size_call a r ≡ told v → size_call b r ≡ told w → (x : ℕ) × (y : ℕ) × (size_call u r ≡ told x) × (size_call i r ≡ told y) × (x + y ≡ v + w)
  sizes_sum r ea eb =
      let sa = sized a r ea in
      let sb = sized b r eb in
      (_, _, made_sized For.Union eu r sa.0 sa.1 sb.1, made_sized For.Intersection ei r sa.0 sa.1 sb.1, omega (arith, sizes_add r (cells_in a) (cells_in b) sa.1 sb.1, sa.2, sb.2))
