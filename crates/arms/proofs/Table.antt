-- A function that is one `match` on a number, with a number for each of the arms 0, 1, .. and 0 for the rest, as a list of literals read off its code; and the one
-- test by which those are the numbers of a definition.
use mathlib.Core.Path.{◌≡◌, ap, ◌∙◌}
use mathlib.Core.Bool.{Bool, true, ◌&&◌}
use mathlib.Core.List.{List, [], ◌∷◌}
use Prim.Native.Nat.{ℕ, zero, suc, ◌+◌, ◌-◌, ◌≤◌, ◌^◌}
use native.Mathlib.Omega.{arith}
use lib.Dec.{T, ltb, leb, eqb, eqb→eq}
use lib.ListN.{length}
use mir.Syntax.{Width, place, Opd, copy, int, int_neg, int_big, float, opd_true, opd_false, opd_unit, ptr_const, size_of, align_of, num_of, fn_addr, vtable, Rv, rv_opd, op2, op1, addr_of, aggregate, repeat, repeat_p, select, Body, skip, seq, assign, block, loop, cond, switch, exit, return, call, unreachable, call_v, lend_static, Arms, arm, default, no_default}
use mir.Val.{bits}
use Rattle.whole.proofs.Bools.{both_left, both_right}

-- ---- the code
-- a number as the code writes it: itself, by what it lacks of the width's whole, or with a proof of its bound
pub data Literal : Type 0 where
  plain lacking large : ℕ → Literal

abbrev pub operand : Width → Literal → Opd
operand w (plain n) = int w n
operand w (lacking n) = int_neg w n
operand w (large n) = int_big w n

abbrev pub number : Width → Literal → ℕ
number w (plain n) = n
number w (lacking n) = 2 ^ bits w - n
number w (large n) = n

-- the number is one of the width
abbrev pub good : Width → Literal → Bool
good w (plain n) = ltb n (2 ^ bits w)
good w (lacking n) = ltb 0 n && leb n (2 ^ bits w)
good w (large n) = ltb n (2 ^ bits w)

abbrev pub arms_from : Width → ℕ → List Literal → Arms
arms_from w k [] = default (assign (place 2 []) (rv_opd (int w 0)))
arms_from w k (l ∷ ls) = arm (k ∷ []) (assign (place 2 []) (rv_opd (operand w l))) (arms_from w (suc k) ls)

abbrev pub after : Body
after = seq (assign (place 0 []) (rv_opd (copy (place 2 [])))) return

abbrev pub lookup : Width → List Literal → Body
lookup w ls = seq (switch (copy (place 1 [])) (arms_from w 0 ls)) after

-- ---- the literals, read off the code; what is no such code gives none
abbrev literal_of : Opd → Literal
literal_of (copy p) = plain 0
literal_of (int w n) = plain n
literal_of (int_neg w n) = lacking n
literal_of (int_big w n) = large n
literal_of (float f n) = plain 0
literal_of opd_true = plain 0
literal_of opd_false = plain 0
literal_of opd_unit = plain 0
literal_of (ptr_const n) = plain 0
literal_of (size_of t) = plain 0
literal_of (align_of t) = plain 0
literal_of (num_of w t) = plain 0
literal_of (fn_addr f s) = plain 0
literal_of (vtable t s) = plain 0

abbrev value_of : Rv → Literal
value_of (rv_opd o) = literal_of o
value_of (op2 o a b) = plain 0
value_of (op1 o a) = plain 0
value_of (addr_of p) = plain 0
value_of (aggregate os) = plain 0
value_of (repeat o n) = plain 0
value_of (repeat_p o n) = plain 0
value_of (select m a b) = plain 0

abbrev assigned_of : Body → Literal
assigned_of skip = plain 0
assigned_of (seq a b) = plain 0
assigned_of (assign p v) = value_of v
assigned_of (block b) = plain 0
assigned_of (loop b) = plain 0
assigned_of (cond c a b) = plain 0
assigned_of (switch c r) = plain 0
assigned_of (exit n) = plain 0
assigned_of return = plain 0
assigned_of (call f os p) = plain 0
assigned_of unreachable = plain 0
assigned_of (call_v o s os p) = plain 0
assigned_of (lend_static p t c) = plain 0

abbrev literals_of : Arms → List Literal
literals_of (arm ks b r) = assigned_of b ∷ literals_of r
literals_of (default b) = []
literals_of no_default = []

abbrev pub table_of : Body → List Literal
table_of skip = []
table_of (seq a b) = table_of a
table_of (assign p v) = []
table_of (block b) = []
table_of (loop b) = []
table_of (cond c a b) = []
table_of (switch c r) = literals_of r
table_of (exit n) = []
table_of return = []
table_of (call f os p) = []
table_of unreachable = []
table_of (call_v o s os p) = []
table_of (lend_static p t c) = []

-- ---- the test: each literal is one of the width, and the number that f has at its place
unfoldable pub agrees : Width → (ℕ → ℕ) → ℕ → List Literal → Bool
agrees w f k [] = true
agrees w f k (l ∷ ls) = (good w l && eqb (number w l) (f k)) && agrees w f (suc k) ls

-- the number at place k, 0 past the last
abbrev pub answer : Width → List Literal → ℕ → ℕ
answer w [] k = 0
answer w (l ∷ ls) zero = number w l
answer w (l ∷ ls) (suc k) = answer w ls k

module _ (w : Width) (f : ℕ → ℕ) (k : ℕ) (l : Literal) (ls : List Literal) (t : T (agrees w f k (l ∷ ls))) where
  pub agree_good : T (good w l)
  unfolding agrees
  agree_good = both_left (good w l) (eqb (number w l) (f k)) (both_left (good w l && eqb (number w l) (f k)) (agrees w f (suc k) ls) t)

  agree_here : number w l ≡ f k
  unfolding agrees
  agree_here = eqb→eq (number w l) (f k) (both_right (good w l) (eqb (number w l) (f k)) (both_left (good w l && eqb (number w l) (f k)) (agrees w f (suc k) ls) t))

  pub agree_rest : T (agrees w f (suc k) ls)
  unfolding agrees
  agree_rest = both_right (good w l && eqb (number w l) (f k)) (agrees w f (suc k) ls) t

answer_from : (w : Width) (f : ℕ → ℕ) (k : ℕ) (ls : List Literal) → T (agrees w f k ls) → ((j : ℕ) → k + length ls ≤ j → 0 ≡ f j) → (j : ℕ) → answer w ls j ≡ f (k + j)
answer_from w f k [] t past j = past (k + j) (omega arith)
answer_from w f k (l ∷ ls) t past zero = let e : k ≡ k + 0 = omega arith in agree_here w f k l ls t ∙ ap f e
answer_from w f k (l ∷ ls) t past (suc j) =
    let e : suc k + j ≡ k + suc j = omega arith in
    answer_from w f (suc k) ls (agree_rest w f k l ls t) (λ i h. past i (omega arith)) j ∙ ap f e

pub answer_is : (w : Width) (f : ℕ → ℕ) (ls : List Literal) → T (agrees w f 0 ls) → ((k : ℕ) → length ls ≤ k → 0 ≡ f k) → (k : ℕ) → answer w ls k ≡ f k
answer_is w f ls t past k = let e : 0 + k ≡ k = omega arith in answer_from w f 0 ls t (λ j h. past j (omega arith)) k ∙ ap f e
