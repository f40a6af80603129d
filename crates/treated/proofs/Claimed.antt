-- The verdict on a list is what the request says of all its codes at once: one code more is judged right exactly where the codes with it are good, and the
-- verdict on a list whose first codes are good is that on what is left behind them.
use mathlib.Core.Path.{◌≡◌, refl, sym, ap, ◌∙◌}
use mathlib.Core.Logic.{◌↔◌, ◌⊎◌, inl, inr, ⊎_elim}
use mathlib.Core.Bool.{Bool, true, false, not, cond, ◌||◌, true≢false, false≢true}
use mathlib.Core.List.{List, [], ◌∷◌, ◌++◌, append-nil}
use Prim.Native.Nat.{ℕ, zero, suc, ◌+◌, ◌-◌, ◌<◌, ◌≤◌}
use native.Mathlib.Nat as N
use native.Mathlib.Decide.{dec_lt, dec_le}
use native.Mathlib.Omega.{arith}
use lib.Dec.{eqb}
use lib.ListN.{length, take, drop, length-append, take-append-drop, get_or-append}
use lib.Seq.{get_or_at, append_snoc, length-take-le}
use borrow.Author.Tests.{eq-eqb, eqb-true, not-false}
use Rattle.std.specs.Prelude.{Result, Ok, Err}
use Rattle.triple.specs.Refusals.{Told, told, refused, number_of}
use Rattle.triple.proofs.RefusalLaws.{never}
use Rattle.code.specs.declared.Reading.{Reading}
use Rattle.code.specs.Codes.{code_length, read_of}
use Rattle.code.proofs.Canonical.{read_loosely}
use Rattle.code.proofs.SpareLaws.{loose_sized}
use Rattle.treated.specs.declared.Fault.{Fault}
use Rattle.treated.specs.declared.Fault.TheVariants.{Unsound, Marked, Orientation, Overlap}
use Rattle.treated.specs.Treated.{contains, overlaps, strays, judge_of, Verdict, good, faulty, judged, check_from, check_of}
use Rattle.treated.specs.Claims.{Reads, none, more, code, Claims, Follows, Twice, Good, GoodFront, GoodList, LongList, Breaks, FaultAt}
use Rattle.treated.proofs.GroundLaws.{contains_meets, overlap_meets, meets_overlap, common_meets, meets_common}
use Rattle.treated.proofs.JudgeLaws.{Shallow, shallow_next}
use Rattle.treated.proofs.CheckLaws.{check_end, check_long, check_wrong, check_right}

-- ---- what is read
pub read_shallow : (rest : List ℕ) {x : Reading} → read_of rest ≡ told x → x.resolution ≤ 30
read_shallow rest e = (loose_sized rest (read_loosely rest e).0).shallow

read_some : (rest : List ℕ) {x : Reading} → read_of rest ≡ told x → 0 < length rest
unfolding code_length
read_some rest e = let l = loose_sized rest (read_loosely rest e).0 in omega (arith, l.whole)

reads_next : {list rest : List ℕ} {codes : List Reading} → Reads list codes rest → {x : Reading} → read_of rest ≡ told x → Reads list (codes ++ (x ∷ [])) (drop x.used rest)
reads_next {list} (none e) {x} r = more {list = list} x (ap read_of e ∙ r) (none (ap (drop x.used) e))
reads_next (more y e reads) r = more y e (reads_next reads r)

reads_shallow : {list rest : List ℕ} {codes : List Reading} → Reads list codes rest → Shallow codes
reads_shallow (none e) = tt
reads_shallow (more {list} y e reads) = (read_shallow list e, reads_shallow reads)

reads_front : (m : ℕ) {list rest : List ℕ} {codes : List Reading} → Reads list codes rest → (left : List ℕ) × Reads list (take m codes) left
reads_front zero {list} reads = (list, none refl)
reads_front (suc m) {list} (none e) = (list, none refl)
reads_front (suc m) (more y e reads) = let r = reads_front m reads in (r.0, more y e r.1)

-- ---- one code, together with those before it
follows_strays : (before : List Reading) (x : Reading) → (strays before x ≡ false) ↔ Follows before x
unfolding strays
follows_strays [] x = (λ e h. (let z : ⊥ = omega arith in absurd z), λ f. refl)
follows_strays (y ∷ before) x =
    (λ e h. eqb-true _ _ (not-false (eqb x.orientation y.orientation) e), λ f. ap not (eq-eqb _ _ (f (omega arith))))

either : (a b : Bool) → (a || b) ≡ true → (a ≡ true) ⊎ (b ≡ true)
either true b e = inl refl
either false b e = inr e

overlaps_twice : (before : List Reading) (x : Reading) → Shallow before → x.resolution ≤ 30 → overlaps before x ≡ true → Twice before x
unfolding overlaps
overlaps_twice [] x s h e = absurd (false≢true e)
overlaps_twice (y ∷ before) x s h e =
    ⊎_elim
    (λ m. (let c = meets_common x y (overlap_meets x y h s.0 m) in (0, omega arith, c.0, c.2, c.1)))
    (λ m. (let t = overlaps_twice before x s.1 h m in (suc t.0, omega (arith, t.1), t.2, t.3, t.4)))
    (either (contains y x || contains x y) (overlaps before x) e)

twice_overlaps : (before : List Reading) (x : Reading) → Shallow before → x.resolution ≤ 30 → (i p : ℕ) → i < length before → Claims (code before i) p → Claims x p → overlaps before x ≡ true
unfolding overlaps
twice_overlaps [] x s h i p l c d = let z : ⊥ = omega arith in absurd z
twice_overlaps (y ∷ before) x s h zero p l c d = ap (λ (b : Bool). b || overlaps before x) (meets_overlap x y h s.0 (common_meets x y p d c))
twice_overlaps (y ∷ before) x s h (suc i) p l c d =
    last (contains y x || contains x y) (twice_overlaps before x s.1 h i p (omega arith) c d)
  where
    last : (a : Bool) {b : Bool} → b ≡ true → (a || b) ≡ true
    last true e = refl
    last false e = e

-- the judgement, by what is known of the three tests
abbrev flagged : Bool → Bool → Bool → Reading → Result Reading Fault
flagged old strayed overlapped x = cond old (Err Marked) (cond strayed (Err Orientation) (cond overlapped (Err Overlap) (Ok x)))

judge_flags : (before : List Reading) (x : Reading) {a b c : Bool} → x.old ≡ a → strays before x ≡ b → overlaps before x ≡ c → judge_of before (told x) ≡ flagged a b c x
unfolding judge_of
judge_flags before x {a} {b} {c} p q r = go x.old (strays before x) (overlaps before x) p q r
  where
    go : (k l m : Bool) → k ≡ a → l ≡ b → m ≡ c → flagged k l m x ≡ flagged a b c x
    go k l m p q r = rw (p, q, r)

-- ---- a code more
module _ (before : List Reading) (x : Reading) (after : List Reading) where
  earlier : (i : ℕ) → i < length before → code (before ++ (x ∷ after)) i ≡ code before i
  earlier i h = get_or-append before (x ∷ after) _ i h

  here : code (before ++ (x ∷ after)) (length before) ≡ x
  here = get_or_at before x after _ (length before) refl

  inside : length before < length (before ++ (x ∷ after))
  inside = rw (length-append before (x ∷ after)) (omega arith)

  module _ (g : Good (before ++ (x ∷ after))) where
    pub good_unmarked : x.old ≡ false
    good_unmarked = sym (ap (λ (y : Reading). y.old) here) ∙ g.unmarked (length before) inside

    pub good_follows : Follows before x
    good_follows h =
        sym (ap (λ (y : Reading). y.orientation) here) ∙ g.oriented (length before) inside ∙ ap (λ (y : Reading). y.orientation) (earlier 0 h)

    pub good_once : (i p : ℕ) → i < length before → Claims (code before i) p → Claims x p → ⊥
    good_once i p h c d = g.once i (length before) p h inside (rw (earlier i h) c) (rw here d)

    pub good_right : Shallow before → x.resolution ≤ 30 → judge_of before (told x) ≡ Ok x
    good_right s h = judge_flags before x good_unmarked ((follows_strays before x).1 good_follows) (apart (overlaps before x) refl)
      where
        apart : (b : Bool) → overlaps before x ≡ b → b ≡ false
        apart true e = let t = overlaps_twice before x s h e in absurd (good_once t.0 t.2 t.1 t.3 t.4)
        apart false e = refl

good_front : (before after : List Reading) → Good (before ++ after) → Good before
good_front before after g =
    let same : (i : ℕ) → i < length before → code (before ++ after) i ≡ code before i = λ i h. get_or-append before after _ i h in
    let long : (i : ℕ) → i < length before → i < length (before ++ after) = λ i h. rw (length-append before after) (omega arith) in
    record {
      unmarked = λ i h. sym (ap (λ (y : Reading). y.old) (same i h)) ∙ g.unmarked i (long i h);
      oriented = λ i h.
          sym (ap (λ (y : Reading). y.orientation) (same i h)) ∙ g.oriented i (long i h) ∙ ap (λ (y : Reading). y.orientation) (same 0 (omega arith));
      once = λ i j p h l c d. (let k : i < length before = omega arith in g.once i j p h (long j l) (rw (same i k) c) (rw (same j l) d));
    }

good_next : (before : List Reading) (x : Reading) → Good before → x.old ≡ false → Follows before x → ((i p : ℕ) → i < length before → Claims (code before i) p → Claims x p → ⊥) → Good (before ++ (x ∷ []))
good_next before x g new follows apart =
    let n = length before in
    let size : length (before ++ (x ∷ [])) ≡ n + 1 = length-append before (x ∷ []) in
    let old : (i : ℕ) → i < n → code (before ++ (x ∷ [])) i ≡ code before i = earlier before x [] in
    let last : (i : ℕ) → (i < n → ⊥) → i < length (before ++ (x ∷ [])) → code (before ++ (x ∷ [])) i ≡ x =
    λ i no h. (let e : i ≡ n = omega (arith, size) in rw e (here before x [])) in
    record {
      unmarked = λ i h.
          elim (dec_lt i n) [
            | yes k ↦ ap (λ (y : Reading). y.old) (old i k) ∙ g.unmarked i k
            | no k ↦ ap (λ (y : Reading). y.old) (last i k h) ∙ new
          ];
      oriented = λ i h.
          elim (dec_lt i n) [
            | yes k ↦ ap (λ (y : Reading). y.orientation) (old i k) ∙ g.oriented i k ∙ sym (ap (λ (y : Reading). y.orientation) (old 0 (omega arith)))
            | no k ↦
                elim (dec_lt 0 n) [
                  | yes some ↦ ap (λ (y : Reading). y.orientation) (last i k h) ∙ follows some ∙ sym (ap (λ (y : Reading). y.orientation) (old 0 some))
                  | no some ↦ ap (λ (y : Reading). y.orientation) (last i k h ∙ sym (last 0 some (omega arith)))
                ]
          ];
      once = λ i j p h l c d.
          elim (dec_lt j n) [
            | yes k ↦ (let f : i < n = omega arith in g.once i j p h k (rw (old i f) at c) (rw (old j k) at d))
            | no k ↦ (let f : i < n = omega (arith, size) in apart i p f (rw (old i f) at c) (rw (last j k l) at d))
          ];
    }

-- ---- a list whose first codes are good
along : (k : ℕ) (before : List Reading) {codes : List Reading} {list rest : List ℕ} → Reads list codes rest → Shallow before → Good (before ++ codes)
    → check_from (length codes + k) before list ≡ check_from k (before ++ codes) rest
along k before {codes} {list} {rest} (none e) s g = rw (e, append-nil before, N.zero-add k) refl
along k before {codes} {list} {rest} (more {codes = later} x e reads) s g =
    let h = read_shallow list e in
    let right = ap (judge_of before) e ∙ good_right before x later g s h in
    let joined : (before ++ (x ∷ [])) ++ later ≡ before ++ (x ∷ later) = append_snoc before x later in
    let n : suc (length later) + k ≡ suc (length later + k) = omega arith in
    ap (λ (m : ℕ). check_from m before list) n
    ∙ check_right (length later + k) before list (read_some list e) right
    ∙ along k (before ++ (x ∷ [])) reads (shallow_next before x s h) (rw joined g)
    ∙ ap (λ (l : List Reading). check_from k l rest) joined

-- the verdict on it is that on what is left
pub front_check : (list : List ℕ) {n : ℕ} (front : GoodFront list n) → n ≤ 512 → check_from (512 - n) front.codes front.rest ≡ check_of list
unfolding check_of
front_check list {n} front few =
    let e : length front.codes + (512 - n) ≡ 512 = omega (arith, front.count) in
    sym (ap (λ (m : ℕ). check_from m [] list) (sym e) ∙ along (512 - n) [] front.reads tt front.good)

-- ---- each end has its verdict
pub good_verdict : (list : List ℕ) (n : ℕ) → GoodList list n → check_of list ≡ told (good n)
good_verdict list n g =
    sym (front_check list g.front g.few) ∙ check_end (512 - n) g.front.codes g.front.rest (rw g.ended (N.le_refl 0))
    ∙ ap (λ (k : ℕ). told (good k)) g.front.count

pub long_verdict : (list : List ℕ) → LongList list → check_of list ≡ refused 29
unfolding number_of
long_verdict list l = sym (front_check list l.front (N.le_refl 512)) ∙ check_long l.front.codes l.front.rest l.remain

breaks_wrong : (f : Fault) (codes : List Reading) (rest : List ℕ) → Shallow codes → Breaks f codes rest → judge_of codes (read_of rest) ≡ Err f
unfolding judge_of
breaks_wrong Unsound codes rest s b = go (read_of rest) refl
  where
    go : (t : Told Reading) → read_of rest ≡ t → judge_of codes t ≡ Err Unsound
    go (told x) e = absurd (b x e)
    go (refused n) e = refl
breaks_wrong Marked codes rest s b = ap (judge_of codes) b.1 ∙ judge_flags codes b.0 b.2 refl refl
breaks_wrong Orientation codes rest s b = ap (judge_of codes) b.1 ∙ judge_flags codes b.0 b.2 (strayed (strays codes b.0) refl) refl
  where
    strayed : (k : Bool) → strays codes b.0 ≡ k → k ≡ true
    strayed true e = refl
    strayed false e = absurd (b.3 ((follows_strays codes b.0).0 e))
breaks_wrong Overlap codes rest s b =
    ap (judge_of codes) b.1
    ∙ judge_flags codes b.0 b.2 ((follows_strays codes b.0).1 b.3) (twice_overlaps codes b.0 s (read_shallow rest b.1) b.4.0 b.4.2 b.4.1 b.4.3 b.4.4)

pub fault_verdict : (list : List ℕ) (f : Fault) (n : ℕ) → FaultAt list f n → check_of list ≡ told (faulty f n)
fault_verdict list f n a =
    let front = a.front in
    let e : 512 - n ≡ suc (511 - n) = omega (arith, a.few) in
    sym (front_check list front (N.le_of_lt a.few)) ∙ ap (λ (m : ℕ). check_from m front.codes front.rest) e
    ∙ check_wrong (511 - n) front.codes front.rest a.remain (breaks_wrong f front.codes front.rest (reads_shallow front.reads) a.breaks)
    ∙ ap (λ (k : ℕ). told (faulty f k)) front.count

-- ---- and each verdict its end
data Outcome (list : List ℕ) (v : Told Verdict) : Type 0 where
  ends : (n : ℕ) → v ≡ told (good n) → GoodList list n → Outcome list v
  goes_on : v ≡ refused 29 → LongList list → Outcome list v
  breaks : (f : Fault) (n : ℕ) → v ≡ told (faulty f n) → FaultAt list f n → Outcome list v

abbrev From : List ℕ → ℕ → Type 0
From list k = (codes : List Reading) (rest : List ℕ) → k + length codes ≡ 512 → Reads list codes rest → Good codes → Outcome list (check_from k codes rest)

module _ (list : List ℕ) where
  abbrev front : (codes : List Reading) (rest : List ℕ) → Reads list codes rest → Good codes → GoodFront list (length codes)
  front codes rest reads g = record { codes = codes; rest = rest; reads = reads; count = refl; good = g }

  from_end : (k : ℕ) (codes : List Reading) (rest : List ℕ) → rest ≡ [] → k + length codes ≡ 512 → Reads list codes rest → Good codes → Outcome list (check_from k codes rest)
  from_end k codes rest z e reads g =
      ends (length codes) (check_end k codes rest (rw z (N.le_refl 0))) (record { front = front codes rest reads g; few = omega arith; ended = z })

  from_zero : From list zero
  unfolding number_of
  from_zero codes [] e reads g = from_end zero codes [] refl e reads g
  from_zero codes (b ∷ rest) e reads g =
      let n : length codes ≡ 512 = omega arith in
      let full : GoodFront list 512 = record { codes = codes; rest = b ∷ rest; reads = reads; count = n; good = g } in
      goes_on (check_long codes (b ∷ rest) (omega arith)) (record { front = full; remain = omega arith })

  module _ (k : ℕ) (later : From list k) (codes : List Reading) (b : ℕ) (bytes : List ℕ) (e : suc k + length codes ≡ 512) (reads : Reads list codes (b ∷ bytes)) (g : Good codes) where
    abbrev rest : List ℕ
    rest = b ∷ bytes

    fault : (f : Fault) → judge_of codes (read_of rest) ≡ Err f → Breaks f codes rest → Outcome list (check_from (suc k) codes rest)
    fault f wrong br =
        breaks f (length codes) (check_wrong k codes rest (omega arith) wrong)
        (record { front = front codes rest reads g; few = omega arith; remain = omega arith; breaks = br })

    module _ (x : Reading) (r : read_of rest ≡ told x) where
      is : {p q s : Bool} → x.old ≡ p → strays codes x ≡ q → overlaps codes x ≡ s → judge_of codes (read_of rest) ≡ flagged p q s x
      is p q s = ap (judge_of codes) r ∙ judge_flags codes x p q s

      shallow : x.resolution ≤ 30
      shallow = read_shallow rest r

      by_flags : (p q s : Bool) → x.old ≡ p → strays codes x ≡ q → overlaps codes x ≡ s → Outcome list (check_from (suc k) codes rest)
      by_flags true q s ep eq es = fault Marked (is ep eq es) (x, r, ep)
      by_flags false true s ep eq es = fault Orientation (is ep eq es) (x, r, ep, λ f. true≢false (sym eq ∙ (follows_strays codes x).1 f))
      by_flags false false true ep eq es =
          let t = overlaps_twice codes x (reads_shallow reads) shallow es in
          fault Overlap (is ep eq es) (x, r, ep, (follows_strays codes x).0 eq, t)
      by_flags false false false ep eq es =
          let apart : (i p : ℕ) → i < length codes → Claims (code codes i) p → Claims x p → ⊥ =
          λ i p h c d. true≢false (sym (twice_overlaps codes x (reads_shallow reads) shallow i p h c d) ∙ es) in
          rw (check_right k codes rest (omega arith) (is ep eq es))
          (later (codes ++ (x ∷ [])) (drop x.used rest) (rw (length-append codes (x ∷ [])) (omega arith)) (reads_next reads r) (good_next codes x g ep ((follows_strays codes x).0 eq) apart))

    by_reader : (t : Told Reading) → read_of rest ≡ t → Outcome list (check_from (suc k) codes rest)
    unfolding judge_of
    by_reader (told x) r = by_flags x r x.old (strays codes x) (overlaps codes x) refl refl refl
    by_reader (refused n) r = fault Unsound (ap (judge_of codes) r) (λ x q. never (sym r ∙ q))

  from_suc : (k : ℕ) → From list k → From list (suc k)
  from_suc k later codes [] e reads g = from_end (suc k) codes [] refl e reads g
  from_suc k later codes (b ∷ bytes) e reads g = by_reader k later codes b bytes e reads g (read_of (b ∷ bytes)) refl

  from : (k : ℕ) → From list k
  from zero = from_zero
  from (suc k) = from_suc k (from k)

  outcome : Outcome list (check_of list)
  unfolding check_of
  outcome = from 512 [] list refl (none refl) (record { unmarked = λ i h. no h; oriented = λ i h. no h; once = λ i j p h l. no l })
    where
      no : {i : ℕ} {A : Type 0} → i < 0 → A
      no h = let z : ⊥ = omega arith in absurd z

-- ---- what a verdict says, exactly
not_faulty : {n m : ℕ} {f : Fault} {A : Type 0} → ◌≡◌ {A = Told Verdict} (told (good n)) (told (faulty f m)) → A
not_faulty e = let z : ◌≡◌ {A = ℕ} 0 1 = cc in let none : ⊥ = omega arith in absurd none

module _ (list : List ℕ) where
  pub good_exactly : (n : ℕ) → (check_of list ≡ told (good n)) ↔ GoodList list n
  good_exactly n = ((λ e. by e (outcome list)), good_verdict list n)
    where
      by : check_of list ≡ told (good n) → Outcome list (check_of list) → GoodList list n
      by e (ends m v g) = let same : m ≡ n = cc in rw (← same) g
      by e (goes_on v l) = never (sym v ∙ e)
      by e (breaks f m v a) = not_faulty (sym e ∙ v)

  pub long_exactly : (check_of list ≡ refused 29) ↔ LongList list
  long_exactly = ((λ e. by e (outcome list)), long_verdict list)
    where
      by : check_of list ≡ refused 29 → Outcome list (check_of list) → LongList list
      by e (ends m v g) = never (sym e ∙ v)
      by e (goes_on v l) = l
      by e (breaks f m v a) = never (sym e ∙ v)

  pub fault_exactly : (f : Fault) (n : ℕ) → (check_of list ≡ told (faulty f n)) ↔ FaultAt list f n
  fault_exactly f n = ((λ e. by e (outcome list)), fault_verdict list f n)
    where
      by : check_of list ≡ told (faulty f n) → Outcome list (check_of list) → FaultAt list f n
      by e (ends m v g) = not_faulty (sym v ∙ e)
      by e (goes_on v l) = never (sym v ∙ e)
      by e (breaks h m v a) = let same : m ≡ n = cc in let kind : h ≡ f = cc in rw (← same, ← kind) a

  -- no other refusal
  pub refused_long : {n : ℕ} → check_of list ≡ refused n → n ≡ 29
  refused_long {n} e = by (outcome list)
    where
      by : Outcome list (check_of list) → n ≡ 29
      by (ends m v g) = never (sym e ∙ v)
      by (goes_on v l) = cc
      by (breaks f m v a) = never (sym e ∙ v)

-- ---- the code at fault is the first: of the list's beginnings those up to it are good, and none that has it
front_shorter : (list : List ℕ) {m n : ℕ} → m ≤ n → GoodFront list n → GoodFront list m
front_shorter list {m} {n} h f =
    let r = reads_front m f.reads in
    record {
      codes = take m f.codes;
      rest = r.0;
      reads = r.1;
      count = length-take-le m f.codes (omega (arith, f.count));
      good = good_front (take m f.codes) (drop m f.codes) (rw (take-append-drop m f.codes) f.good);
    }

module _ (f : Fault) (n : ℕ) where
  abbrev Behind : ℕ → Type 0
  Behind k = (codes : List Reading) (rest : List ℕ) → check_from k codes rest ≡ told (faulty f n) → length codes ≤ n

  behind_suc : (k : ℕ) → Behind k → Behind (suc k)
  unfolding check_from
  behind_suc k later codes [] e = not_faulty e
  behind_suc k later codes (b ∷ bytes) e = by (judge_of codes (read_of (b ∷ bytes))) e
    where
      by : (j : Result Reading Fault) → judged j (λ f. told (faulty f (length codes))) (λ x. check_from k (codes ++ (x ∷ [])) (drop x.used (b ∷ bytes))) ≡ told (faulty f n) → length codes ≤ n
      by (Err g) e = let same : length codes ≡ n = cc in omega arith
      by (Ok x) e = let l = later (codes ++ (x ∷ [])) (drop x.used (b ∷ bytes)) e in omega (arith, l, length-append codes (x ∷ []))

  behind : (k : ℕ) → Behind k
  unfolding check_from
  behind zero codes [] e = not_faulty e
  behind zero codes (b ∷ bytes) e = never e
  behind (suc k) codes rest e = behind_suc k (behind k) codes rest e

pub first_fault : (list : List ℕ) (f : Fault) (n : ℕ) → check_of list ≡ told (faulty f n) → (m : ℕ) → GoodFront list m ↔ (m ≤ n)
first_fault list f n e m =
    let a = (fault_exactly list f n).0 e in (
      (λ g.
          elim (dec_le m n) [
            | yes h ↦ h
            | no h ↦
                let s = front_shorter list {m = suc n} (omega arith) g in
                let l = behind f n (512 - suc n) s.codes s.rest (front_check list s a.few ∙ e) in
                let z : ⊥ = omega (arith, l, s.count) in absurd z
          ]),
      (λ h. front_shorter list h a.front),
    )

-- ---- a position claimed twice, exactly where one cell equals or contains the other
pub twice_contains : (x y : Reading) → x.resolution ≤ 30 → y.resolution ≤ 30 → ((p : ℕ) × Claims x p × Claims y p) ↔ ((contains x y ≡ true) ⊎ (contains y x ≡ true))
twice_contains x y hx hy = (
  (λ c.
      ⊎_elim (λ e. inr e) (λ e. inl e) (either (contains y x) (contains x y) (meets_overlap x y hx hy (common_meets x y c.0 c.1 c.2)))),
  (λ e. meets_common x y (⊎_elim (contains_meets x y hy) (λ e. (let m = contains_meets y x hx e in (m.1, m.0))) e)),
)
