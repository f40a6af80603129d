-- The walk of the code along two areas: how many cells of what an operation makes are behind it, and which one is next.
use mathlib.Core.Bool.{Bool, true, false, not, cond, ◌&&◌, true≢false}
use mathlib.Core.Path.{◌≡◌, refl, sym, ap, ◌∙◌}
use mathlib.Core.List.{List, [], ◌∷◌, ◌++◌}
use Prim.Native.Nat.{ℕ, ◌+◌, ◌-◌, ◌*◌, ◌/◌, ◌^◌, ◌<◌, ◌≤◌}
use native.Mathlib.Nat as N
use native.Mathlib.Omega.{arith}
use native.Mathlib.Decide.{dec_lt}
use lib.Dec.{ltb}
use lib.ListN.{length, drop, set, length-drop, length-set}
use lib.Seq.{drop-drop}
use mir.Syntax.{w64}
use mir.Val.{Fits as WordFits}
use borrow.Author.Tests.{not-true, not-false, ltb-true, ltb-false}
use Rattle.whole.proofs.Digits.{four_power}
use Rattle.whole.proofs.Powers.{four_by_shift}
use Rattle.whole.proofs.Fill.{poured, poured_all}
use Rattle.triple.specs.Domain.{position_count}
use Rattle.triple.proofs.DomainLaws.{positions_are}
use Rattle.fold.specs.Cells.{Cell, cell, pairs, cells_in}
use Rattle.fold.specs.Inside.Pairs.{Laid}
use Rattle.fold.specs.Unfolds.{passes}
use Rattle.fold.proofs.PairTestLaws.{passes_tested}
use Rattle.area.specs.Areas.{keeps, made_of}
use Rattle.area.specs.Inside.Cursors.{Reached, Pieced, Fits}
use Rattle.whole.proofs.Bools.{both_true}
use Rattle.fold.proofs.PairLaws.{length_pairs, pairs_poured}
use Rattle.area.specs.declared.operation.Operation.{Operation}
use Rattle.area.specs.declared.cursors.Piece.{Piece}
use Rattle.area.specs.Inside.Rooms.{Cut}
use Rattle.area.proofs.CursorLaws.{reached_start}
use Rattle.area.proofs.Along.{Full, Clear, Largest, Along, next_cell}
use Rattle.area.proofs.Made.{keeps_past, made_along}

-- ---- the first cell of a run
module _ {lo hi k : ℕ} (fits : Fits lo hi k) where
  pub cut_off : {writing : Bool} {n : ℕ} {slice out : List ℕ} {size : ℕ} → size ≡ position_count k
      → out ≡ cond writing (set (set slice (2 * n) (30 - k)) (2 * n + 1) (lo / 2 ^ (2 * k))) slice → Cut writing n lo hi slice size out
  cut_off e s = record { level = k; fits = fits; size_is = positions_are k fits.within e; stored = rw (← four_by_shift k) s }

-- ---- a pair more in the buffer
module _ (cells rest : List Cell) (n m p : ℕ) (next : drop n cells ≡ cell m p ∷ rest) where
  left : n < length cells
  left = omega (arith, length-drop n cells, ap length next)

  pour_or_not : (b : Bool) {out new : List ℕ} (d : List ℕ) → (b ≡ true → 2 * length cells ≤ length d) → out ≡ cond b (poured (pairs cells) (2 * n) d) d
      → new ≡ cond b (set (set out (2 * n) m) (2 * n + 1) p) out → new ≡ cond b (poured (pairs cells) (2 * (n + 1)) d) d
  pour_or_not true {out} d room e f = f ∙ ap (λ (y : List ℕ). set (set y (2 * n) m) (2 * n + 1) p) e ∙ pairs_poured cells rest n m p next d (room refl)
  pour_or_not false d room e f = f ∙ e

noted_long : (b : Bool) (out : List ℕ) {new : List ℕ} (n m p : ℕ) → new ≡ cond b (set (set out (2 * n) m) (2 * n + 1) p) out → length new ≡ length out
noted_long true out n m p e = ap length e ∙ simp length-set
noted_long false out n m p e = ap length e

poured_start : (b : Bool) (w d : List ℕ) → d ≡ cond b (poured w (2 * 0) d) d
poured_start true w d = refl
poured_start false w d = refl

poured_end : (b : Bool) (cells : List Cell) (d : List ℕ) {out : List ℕ} {n : ℕ} → n ≡ length cells → out ≡ cond b (poured (pairs cells) (2 * n) d) d
    → out ≡ cond b (pairs cells ++ drop (2 * length cells) d) d
poured_end true cells d {out} {n} e f = poured_all (pairs cells) d (2 * n) (2 * length cells) (length_pairs cells) (omega arith) (omega arith) f
poured_end false cells d e f = f

-- ---- along the curve
-- nothing is kept up to a place: so what is left begins there or later
narrow : (r : ℕ) (f : ℕ → Bool) (place to : ℕ) (cells : List Cell) → place ≤ to → Clear f place to → Along r f place cells → Along r f to cells
narrow r f place to [] h c t = λ s l. t s (omega arith)
narrow r f place to (cell m p ∷ cells) h c t =
    let b = p * 4 ^ (r - m) in
    let on : to ≤ b = elim (dec_lt b to) [
      | yes l ↦ absurd (true≢false (sym (t.3.full b (omega arith) (omega (arith, four_power (r - m)))) ∙ c b t.1 l))
      | no l ↦ omega arith
    ] in
    (t.0, on, (λ s l j. t.2 s (omega arith) j), t.3, t.4)

-- nothing is kept any more
pub none_left : (r : ℕ) (f : ℕ → Bool) (place : ℕ) (cells : List Cell) → ((s : ℕ) → place ≤ s → f s ≡ false) → Along r f place cells → length cells ≡ 0
none_left r f place [] past t = refl
none_left r f place (cell m p ∷ cells) past t =
    let b = p * 4 ^ (r - m) in
    absurd (true≢false (sym (t.3.full b (omega arith) (omega (arith, four_power (r - m)))) ∙ past b t.1))

-- the run from lo to hi is kept, and n cells are behind lo
pub record Walked (o : Operation) (a b : List ℕ) (n lo hi : ℕ) : Type 0 where
  low : lo ≤ hi
  high : hi ≤ 4 ^ 30 + 1
  counted : n ≤ lo
  few : n ≤ length (made_of o a b)
  full : Full (keeps 30 o (cells_in a) (cells_in b)) lo hi
  along : Along 30 (keeps 30 o (cells_in a) (cells_in b)) lo (drop n (made_of o a b))

module _ (o : Operation) (a b : List ℕ) where
  abbrev f : ℕ → Bool
  f = keeps 30 o (cells_in a) (cells_in b)

  module _ (la : Laid 30 0 (cells_in a)) (lb : Laid 30 0 (cells_in b)) where
    walk_start : Walked o a b 0 0 0
    unfolding made_of
    walk_start =
        record {
          low = omega arith;
          high = omega arith;
          counted = omega arith;
          few = omega arith;
          full = λ s h l. let z : ⊥ = omega arith in absurd z;
          along = made_along 30 o (cells_in a) (cells_in b) la lb;
        }

    walk_ends : {n lo hi : ℕ} → Walked o a b n lo hi → 4 ^ 30 + 1 ≤ hi → n ≡ length (made_of o a b)
    walk_ends {n} {lo} {hi} w h =
        let past = keeps_past 30 o (cells_in a) (cells_in b) la lb in
        let far : 4 ^ 30 ≤ lo = elim (dec_lt (4 ^ 30) lo) [
          | yes l ↦ N.le_of_lt l
          | no l ↦ absurd (true≢false (sym (w.full (4 ^ 30) (omega arith) (omega arith)) ∙ past (4 ^ 30) (N.le_refl _)))
        ] in
        let few = w.few in
        omega (arith, length-drop n (made_of o a b), none_left 30 f lo (drop n (made_of o a b)) (λ s l. past s (N.le_trans far l)) w.along)

  module _ {n lo hi : ℕ} (w : Walked o a b n lo hi) {x : Piece} (q : Pieced o a b hi x) where
    -- the run goes on
    walk_grow : not x.inside ≡ false → Walked o a b n lo x.end
    walk_grow e =
        let more = q.more in
        let low = w.low in
        record {
          low = omega arith;
          high = q.most;
          counted = w.counted;
          few = w.few;
          full = λ s h l. elim (dec_lt s hi) [
            | yes g ↦ w.full s h g
            | no g ↦ q.level s (omega arith) l ∙ not-false x.inside e
          ];
          along = w.along;
        }

    module _ (out : not x.inside ≡ true) where
      gone : (s : ℕ) → hi ≤ s → s < x.end → f s ≡ false
      gone s h l = q.level s h l ∙ not-true x.inside out

      -- there is none, up to the end of what is not kept
      walk_skip : hi ≤ lo → Walked o a b n x.end x.end
      walk_skip h =
          let more = q.more in
          let low = w.low in
          let counted = w.counted in
          record {
            low = N.le_refl _;
            high = q.most;
            counted = omega arith;
            few = w.few;
            full = λ s g l. let z : ⊥ = omega arith in absurd z;
            along = narrow 30 f lo x.end (drop n (made_of o a b)) (omega arith) (λ s g l. gone s (omega arith) l) w.along;
          }

      -- its first cell
      module _ {k : ℕ} (fits : Fits lo hi k) where
        largest : Largest 30 f lo k
        largest =
            let e = fits.ends in
            let p = four_power k in
            record {
              within = fits.within;
              even = fits.even;
              full = λ s h l. w.full s h (omega arith);
              top = λ h g all. true≢false (sym (all hi (omega arith) (fits.top h g)) ∙ gone hi (N.le_refl _) q.more);
            }

        next : (drop n (made_of o a b) ≡ cell (30 - k) (lo / 4 ^ k) ∷ drop 1 (drop n (made_of o a b))) × Along 30 f (lo + 4 ^ k) (drop 1 (drop n (made_of o a b)))
        next = next_cell 30 f largest (drop n (made_of o a b)) w.along

        walk_left : n < length (made_of o a b)
        walk_left = left (made_of o a b) _ n _ _ next.0

        walk_more : {size : ℕ} → size ≡ 4 ^ k → Walked o a b (n + 1) (lo + size) hi
        walk_more {size} e =
            let l = walk_left in
            let g = fits.ends in
            let z = four_power k in
            let counted = w.counted in
            record {
              low = omega arith;
              high = w.high;
              counted = omega arith;
              few = omega arith;
              full = λ s h l. w.full s (omega arith) l;
              along = rw (e, ← drop-drop 1 n (made_of o a b)) next.1;
            }

        walk_noted : (v : Bool) {out new : List ℕ} (d : List ℕ) → (v ≡ true → 2 * length (made_of o a b) ≤ length d) → out ≡ cond v (poured (pairs (made_of o a b)) (2 * n) d) d
            → new ≡ cond v (set (set out (2 * n) (30 - k)) (2 * n + 1) (lo / 4 ^ k)) out → new ≡ cond v (poured (pairs (made_of o a b)) (2 * (n + 1)) d) d
        walk_noted v {out} {new} d room e g = pour_or_not (made_of o a b) _ n _ _ next.0 v d room e g

      -- there is one
      walk_some : lo < hi → n < length (made_of o a b)
      walk_some h = none_behind (drop n (made_of o a b)) w.along refl
        where
          none_behind : (cells : List Cell) → Along 30 f lo cells → cells ≡ drop n (made_of o a b) → n < length (made_of o a b)
          none_behind [] t e = absurd (true≢false (sym (w.full lo (N.le_refl lo) h) ∙ t lo (N.le_refl lo)))
          none_behind (c ∷ cells) t e = omega (arith, length-drop n (made_of o a b), ap length e)

-- how far the walk has to go
unfoldable pub to_go : ℕ → ℕ → ℕ
to_go lo hi = 2 * (4 ^ 30 + 1 - hi) + (hi - lo)

pub cut_less : {writing : Bool} {n lo hi size : ℕ} {slice out : List ℕ} → Cut writing n lo hi slice size out → to_go (lo + size) hi < to_go lo hi
unfolding to_go
cut_less cut = omega (arith, cut.fits.ends, cut.size_is, four_power cut.level)

-- ---- the loop of the code: the run from lo to hi, the piece from hi on, and the pairs that are stored
pub record Going (o : Operation) (a b : List ℕ) (writing : Bool) (slice : List ℕ) (n lo hi : ℕ) (x : Piece) (out : List ℕ) : Type 0 where
  first : passes 30 a ≡ 3
  second : passes 30 b ≡ 3
  room : writing ≡ true → 2 * length (made_of o a b) ≤ length slice
  walked : Walked o a b n lo hi
  piece : Pieced o a b hi x
  before_end : hi < 4 ^ 30 + 1
  same_length : length out ≡ length slice
  stored : out ≡ cond writing (poured (pairs (made_of o a b)) (2 * n) slice) slice

pub start_reached : (a : List ℕ) → passes 30 a ≡ 3 → Reached a 0 0
start_reached a e = reached_start a (passes_tested 30 a e).laid

module _ (o : Operation) (a b : List ℕ) (writing : Bool) (slice : List ℕ) (first : passes 30 a ≡ 3) (second : passes 30 b ≡ 3) where
  pub going_start : (writing ≡ true → 2 * length (made_of o a b) ≤ length slice) → {x : Piece} → Pieced o a b 0 x → Going o a b writing slice 0 0 0 x slice
  going_start room q =
      record {
        first = first;
        second = second;
        room = room;
        walked = walk_start o a b (passes_tested 30 a first).laid (passes_tested 30 b second).laid;
        piece = q;
        before_end = omega arith;
        same_length = refl;
        stored = poured_start writing (pairs (made_of o a b)) slice;
      }

module _ (o : Operation) (a b : List ℕ) (writing : Bool) (slice : List ℕ) {n lo hi : ℕ} {x : Piece} {out : List ℕ} (going : Going o a b writing slice n lo hi x out) where
  abbrev inside : Bool
  inside = x.inside

  pub going_length : length out ≡ length slice
  going_length = going.same_length

  -- ---- a cell is cut off the run
  module _ {closed : Bool} (closed_is : closed ≡ (not x.inside && ltb lo hi)) (yes : closed ≡ true) where
    parts : (not inside ≡ true) × (ltb lo hi ≡ true)
    parts = both_true (not inside) (ltb lo hi) (sym closed_is ∙ yes)

    pub run_some : lo < hi
    run_some = ltb-true lo hi parts.1

    pub run_inside : hi ≤ 4 ^ 30
    run_inside = omega (arith, going.before_end)

    pub note_room : writing ≡ true → 2 * n + 1 < length out
    note_room e = omega (arith, more, going.room e, going.same_length)
      where
        more : n < length (made_of o a b)
        more = walk_some o a b going.walked going.piece parts.0 run_some

    module _ {size : ℕ} {new : List ℕ} (cut : Cut writing n lo hi out size new) where
      pub cut_fits : WordFits w64 (lo + size)
      cut_fits = omega (arith, cut.fits.ends, going.before_end, cut.size_is)

      pub count_fits : WordFits w64 (n + 1)
      count_fits = let w = going.walked in omega (arith, w.counted, w.low, going.before_end)

      pub going_cut : Going o a b writing slice (n + 1) (lo + size) hi x new
      going_cut =
          let k = cut.level in
          record {
            first = going.first;
            second = going.second;
            room = going.room;
            walked = walk_more o a b going.walked going.piece parts.0 cut.fits cut.size_is;
            piece = going.piece;
            before_end = going.before_end;
            same_length = noted_long writing out n (30 - k) (lo / 4 ^ k) cut.stored ∙ going.same_length;
            stored = walk_noted o a b going.walked going.piece parts.0 cut.fits writing {out = out} slice going.room going.stored cut.stored;
          }

  -- ---- the next piece is taken
  module _ {closed : Bool} (closed_is : closed ≡ (not x.inside && ltb lo hi)) (left_open : closed ≡ false) {start : ℕ} (start_is : start ≡ cond x.inside lo x.end) where
    moved : Walked o a b n start x.end
    moved = go x.inside refl
      where
        go : (i : Bool) → x.inside ≡ i → Walked o a b n start x.end
        go true e =
            let l : start ≡ lo = start_is ∙ rw e refl in
            rw l (walk_grow o a b going.walked going.piece (rw e refl))
        go false e =
            let l : start ≡ x.end = start_is ∙ rw e refl in
            let f : ltb lo hi ≡ false = sym (closed_is ∙ rw e refl) ∙ left_open in
            rw l (walk_skip o a b going.walked going.piece (rw e refl) (ltb-false lo hi f))

    pub going_ends : 4 ^ 30 + 1 ≤ x.end → n ≡ length (made_of o a b)
    going_ends h = walk_ends o a b (passes_tested 30 a going.first).laid (passes_tested 30 b going.second).laid moved h

    pub going_stored : 4 ^ 30 + 1 ≤ x.end → out ≡ cond writing (pairs (made_of o a b) ++ drop (2 * length (made_of o a b)) slice) slice
    going_stored h = poured_end writing (made_of o a b) slice (going_ends h) going.stored

    module _ (h : x.end < 4 ^ 30 + 1) where
      pub next_left : Reached a x.end x.i
      next_left = going.piece.left

      pub next_right : Reached b x.end x.j
      next_right = going.piece.right

      pub piece_less : to_go start x.end < to_go lo hi
      unfolding to_go
      piece_less = omega (arith, going.piece.more, going.piece.most, moved.low, later x.inside refl)
        where
          later : (i : Bool) → x.inside ≡ i → lo ≤ start
          later true e = omega (arith, start_is ∙ ap (λ (i : Bool). cond i lo x.end) e)
          later false e = omega (arith, start_is ∙ ap (λ (i : Bool). cond i lo x.end) e, going.walked.low, going.piece.more)

      pub going_on : {y : Piece} → Pieced o a b x.end y → Going o a b writing slice n start x.end y out
      going_on q = record { first = going.first; second = going.second; room = going.room; walked = moved; piece = q; before_end = h; same_length = going.same_length; stored = going.stored }

pub ruleset walking = (
  start_reached,
  going_start,
  going_length,
  run_some,
  run_inside,
  note_room,
  cut_fits,
  count_fits,
  cut_less,
  going_cut,
  going_ends,
  going_stored,
  next_left,
  next_right,
  piece_less,
  going_on,
)
