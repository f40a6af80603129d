-- A polygon spelled piece by piece, each put where the one before it ends, and how long the pieces are; and one that was spelled aside, put into the buffer that is to have it.
use native.Mathlib.Omega.{arith}
use mathlib.Core.Path.{◌≡◌, refl, sym, ap, ◌∙◌, subst}
use mathlib.Core.Bool.{Bool, true, false, not}
use mathlib.Core.List.{List, ◌∷◌, ◌++◌, append_assoc}
use Prim.Native.Nat.{ℕ, suc, ◌+◌, ◌≤◌, ◌<◌, ◌^◌}
use borrow.Author.Rules.{sfits_of}
use borrow.Author.Tests.{not-false}
use lib.Dec.{ltb}
use lib.IntN.{ℤ, pos, negsuc}
use lib.Signed.{mag}
use lib.ListN.{length, take, drop, length-append}
use lib.Seq.{sets-eq, take_at, length-take-le}
use mir.Syntax.{w64}
use mir.Val.{to_z, of_z}
use mir.ValLaws.{to_z-of_z}
use Rattle.std.specs.Prelude.{Result, Ok, Err}
use Rattle.text.specs.Decimals.{integer}
use Rattle.text.specs.Puts.{Put}
use Rattle.text.proofs.DecimalLaws.{length_most}
use Rattle.text.proofs.PutLaws.{put_roomy, put_short, put_kept, put_length, put_place, put_stored, put_then}
use Rattle.triple.specs.declared.Triple.{Triple}
use Rattle.triple.specs.declared.refusal.Refusal.{Refusal}
use Rattle.triple.specs.declared.refusal.Refusal.TheVariants as Is
use Rattle.triple.specs.Refusals.{Told, told, refused, refuse, number_of, said}
use Rattle.triple.specs.Triples.{good_sum, is_in_bounds, closed_flavor, flavor_of}
use Rattle.triple.specs.Lent.{count_of, after_call}
use Rattle.triple.proofs.RefusalLaws.{never}
use Rattle.triple.proofs.LentLaws.{refused_count, refused_kept, short_count, short_kept, whole_count, whole_stored}
use Rattle.turtle.specs.declared.AB.{AB}
use Rattle.turtle.specs.declared.walk.Corners.{Corners}
use Rattle.turtle.specs.Corners.{ThreeI32}
use Rattle.polygon.specs.Polygons.{opening, comma, closing, cell_corners, corner_text, ring_text, polygon_text, wkt_of}
use Rattle.polygon.specs.Inside.Sizes.{Short, TenDigits, two_corners, rest_text}
use Rattle.polygon.proofs.CornerLaws.{Digits, corners_digits, three_i32}

-- ---- how long the pieces are
pub integer_length : (z : ℤ) → Short z → length (integer z) ≤ 11
unfolding integer
integer_length (pos n) h = omega (arith, length_most 9 n h.size)
integer_length (negsuc n) h = omega (arith, length_most 9 (suc n) h.size)

pub corner_parts : (p : AB) → length (corner_text p) ≡ length (integer p.a) + suc (length (integer p.b))
unfolding corner_text
corner_parts p = length-append (integer p.a) (32 ∷ integer p.b)

pub corner_length : (p : AB) → TenDigits p → length (corner_text p) ≤ 23
corner_length p d = omega (arith, corner_parts p, integer_length p.a d.a, integer_length p.b d.b)

pub ring_parts : (c : Corners) → length (ring_text c) ≡ 18 + (length (corner_text c.p) + length (corner_text c.q) + length (corner_text c.r) + length (corner_text c.p))
unfolding ring_text
ring_parts c =
    let p = corner_text c.p in
    let q = corner_text c.q in
    let r = corner_text c.r in
    omega (arith, length-append p (comma ++ (q ++ (comma ++ (r ++ (comma ++ (p ++ closing)))))), length-append q (comma ++ (r ++ (comma ++ (p ++ closing)))), length-append r (comma ++ (p ++ closing)), length-append p closing)

pub polygon_length : (t : Triple) → good_sum t ≡ true → ThreeI32 t → length (polygon_text t) ≤ 110
polygon_length t good narrow =
    let c = cell_corners t in
    let d = corners_digits t good narrow in
    omega (arith, ring_parts c, corner_length c.p d.p, corner_length c.q d.q, corner_length c.r d.r)

-- ---- a corner behind its lead
read_back : (z : ℤ) → mag z < 2 ^ 63 → to_z w64 (of_z w64 z) ≡ z
read_back z m = to_z-of_z w64 z (sfits_of m)

pub corner_put : (p : AB) {slice first second after lead : List ℕ} {at a b next : ℕ} → TenDigits p → at + (length lead + 23) ≤ length slice → mag p.a < 2 ^ 63 → mag p.b < 2 ^ 63
    → Put second b (32 ∷ integer (to_z w64 (of_z w64 p.b))) after next → Put first a (integer (to_z w64 (of_z w64 p.a))) second b → Put slice at lead first a → Put slice at (lead ++ corner_text p) after next
unfolding corner_text
corner_put p {slice} {first} {second} {after} {lead} {at} {a} {b} {next} d h ma mb w v u =
    let la = integer_length p.a d.a in
    let lb = integer_length p.b d.b in
    let x = rw (read_back p.a ma) at v in
    let y = rw (read_back p.b mb) at w in
    let ux = put_then slice first second at a b lead (integer p.a) u x (omega (arith, length-append lead (integer p.a))) in
    let uxy =
    put_then slice second after at b next (lead ++ integer p.a) (32 ∷ integer p.b) ux y
    (omega (arith, length-append (lead ++ integer p.a) (32 ∷ integer p.b), length-append lead (integer p.a))) in
    subst (λ (w : List ℕ). Put slice at w after next) (append_assoc lead (integer p.a) (32 ∷ integer p.b)) uxy

-- ---- pieces, one after the other: a text of at most so many bytes at a place
record Spelled (most : ℕ) (slice : List ℕ) (at : ℕ) (text after : List ℕ) (next : ℕ) : Type 0 where
  is_put : Put slice at text after next
  near : length text ≤ most

gone_on : (more : ℕ) {most at next last : ℕ} {slice text piece between after : List ℕ} → Spelled most slice at text between next → Put between next piece after last → length piece ≤ more → at + (most + more) ≤ length slice → Spelled (most + more) slice at (text ++ piece) after last
gone_on more {at} {next} {last} {slice} {text} {piece} {between} {after} a b h r =
    let l : length (text ++ piece) ≡ length text + length piece = length-append text piece in
    record {
      is_put = put_then slice between after at next last text piece a.is_put b (omega (arith, a.near));
      near = omega (arith, a.near);
    }

left : (more : ℕ) {most at next : ℕ} {slice text between : List ℕ} → Spelled most slice at text between next → at + (most + more) ≤ length slice → next + more ≤ length between
left more {at} {next} {slice} {text} {between} a r =
    omega (arith, a.near, put_place slice between at next text a.is_put (omega (arith, a.near)), put_length slice between at next text a.is_put)

-- a corner behind a comma, or behind the opening
after_comma : (p : AB) → TenDigits p → length (comma ++ corner_text p) ≤ 25
after_comma p d = omega (arith, corner_length p d)

after_opening : (p : AB) → TenDigits p → length (opening ++ corner_text p) ≤ 33
after_opening p d = omega (arith, corner_length p d)

-- up to the second corner
module _ (p q : AB) {slice one : List ℕ} {i : ℕ} (dp : TenDigits p) (dq : TenDigits q) (room : 58 ≤ length slice) (first : Put slice 0 (opening ++ corner_text p) one i) where
  to_first : Spelled 33 slice 0 (opening ++ corner_text p) one i
  to_first = record { is_put = first; near = after_opening p dp }

  pub second_room : i + 25 ≤ length one
  second_room = left 25 to_first (omega arith)

  pub two_put : {two : List ℕ} {j : ℕ} → Put one i (comma ++ corner_text q) two j → Put slice 0 (two_corners p q) two j
  unfolding two_corners
  two_put second = (gone_on 25 to_first second (after_comma q dq) (omega arith)).is_put

pub ruleset front = (second_room, two_put)

-- from there on
module _ (r p : AB) {slice one : List ℕ} {at i : ℕ} (dr : TenDigits r) (dp : TenDigits p) (room : at + 52 ≤ length slice) (third : Put slice at (comma ++ corner_text r) one i) where
  to_third : Spelled 25 slice at (comma ++ corner_text r) one i
  to_third = record { is_put = third; near = after_comma r dr }

  pub last_room : i + 25 ≤ length one
  last_room = left 25 to_third (omega arith)

  pub rest_put : {two three : List ℕ} {j k : ℕ} → Put two j closing three k → Put one i (comma ++ corner_text p) two j → Put slice at (rest_text r p) three k
  unfolding rest_text
  rest_put close again = (gone_on 2 (gone_on 25 to_third again (after_comma p dp) (omega arith)) close (omega arith) (omega arith)).is_put

pub ruleset rest = (last_room, rest_put)

-- the polygon of a triple
two_length : (p q : AB) → TenDigits p → TenDigits q → length (two_corners p q) ≤ 58
unfolding two_corners
two_length p q dp dq = omega (arith, length-append (opening ++ corner_text p) (comma ++ corner_text q), after_opening p dp, after_comma q dq)

rest_length : (r p : AB) → TenDigits r → TenDigits p → length (rest_text r p) ≤ 52
unfolding rest_text
rest_length r p dr dp =
    omega (arith, length-append ((comma ++ corner_text r) ++ (comma ++ corner_text p)) closing, length-append (comma ++ corner_text r) (comma ++ corner_text p), after_comma r dr, after_comma p dp)

-- the pieces of a ring, as they were put and as the text has them
joined : (a p b q r d : List ℕ) → ((a ++ p) ++ (b ++ q)) ++ (((b ++ r) ++ (b ++ p)) ++ d) ≡ a ++ (p ++ (b ++ (q ++ (b ++ (r ++ (b ++ (p ++ d)))))))
joined a p b q r d = simp append_assoc

ring_joined : (c : Corners) → two_corners c.p c.q ++ rest_text c.r c.p ≡ ring_text c
unfolding ring_text two_corners rest_text
ring_joined c = joined opening (corner_text c.p) comma (corner_text c.q) (corner_text c.r) closing

module _ (t : Triple) (c : Corners) (ec : c ≡ cell_corners t) (good : good_sum t ≡ true) (mx : mag t.x < 2 ^ 31) (my : mag t.y < 2 ^ 31) (mz : mag t.z < 2 ^ 31) where
  digits : Digits c
  digits = subst Digits (sym ec) (corners_digits t good (three_i32 t mx my mz))

  pub p_digits : TenDigits c.p
  p_digits = digits.p

  pub q_digits : TenDigits c.q
  q_digits = digits.q

  pub r_digits : TenDigits c.r
  r_digits = digits.r

  module _ {slice two : List ℕ} {j : ℕ} (room : 110 ≤ length slice) (second : Put slice 0 (two_corners c.p c.q) two j) where
    to_second : Spelled 58 slice 0 (two_corners c.p c.q) two j
    to_second = record { is_put = second; near = two_length c.p c.q p_digits q_digits }

    pub rest_room : j + 52 ≤ length two
    rest_room = left 52 to_second (omega arith)

    pub spelled : {after : List ℕ} {end : ℕ} → Put two j (rest_text c.r c.p) after end → Put slice 0 (polygon_text t) after end
    spelled {after} {end} last =
        let all = gone_on 52 to_second last (rest_length c.r c.p r_digits p_digits) (omega arith) in
        subst (λ (d : Corners). Put slice 0 (ring_text d) after end) ec (subst (λ (w : List ℕ). Put slice 0 w after end) (ring_joined c) all.is_put)

pub ruleset spelling = (p_digits, q_digits, r_digits, rest_room, spelled)

-- ---- a polygon that was spelled aside
module _ (t : Triple) (good : good_sum t ≡ true) (mx : mag t.x < 2 ^ 31) (my : mag t.y < 2 ^ 31) (mz : mag t.z < 2 ^ 31) {zeros aside : List ℕ} {n : ℕ} (room : length zeros ≡ 110) (w : Put zeros 0 (polygon_text t) aside n) where
  short_text : length (polygon_text t) ≤ 110
  short_text = polygon_length t good (three_i32 t mx my mz)

  aside_room : 0 + length (polygon_text t) ≤ length zeros
  aside_room = omega (arith, short_text)

  aside_end : n ≡ length (polygon_text t)
  aside_end = omega (arith, put_place zeros aside 0 n (polygon_text t) w aside_room)

  pub spelled_most : n ≤ length aside
  spelled_most = omega (arith, aside_end, short_text, put_length zeros aside 0 n (polygon_text t) w)

  pub spelled_is : take n aside ≡ polygon_text t
  spelled_is =
      ap (take n) (put_stored zeros aside 0 n (polygon_text t) w aside_room ∙ sets-eq (polygon_text t) zeros 0 aside_room)
      ∙ take_at (polygon_text t) (drop (0 + length (polygon_text t)) zeros) n (sym aside_end)

-- ---- the writer's ways out: by the tests, and by the text that was spelled aside
abbrev by_tests : {A : Type 0} → Bool → Bool → Bool → A → Told A
by_tests deep bad out a = refuse deep Is.Resolution (refuse bad Is.Sum (refuse out Is.Bounds (told a)))

-- refused by the same number, or past the same tests
same_tests : (deep bad out : Bool) {A B : Type 0} (a : A) (b : B) {e : ℕ} → refused e ≡ by_tests deep bad out a → refused e ≡ by_tests deep bad out b
same_tests true bad out a b p = cc
same_tests false true out a b p = cc
same_tests false false true a b p = cc
same_tests false false false a b p = never p

all_passed : (deep bad out : Bool) {A : Type 0} (a : A) {v : A} → told v ≡ by_tests deep bad out a → (deep ≡ false) × (bad ≡ false) × (out ≡ false)
all_passed true bad out a p = never (sym p)
all_passed false true out a p = never (sym p)
all_passed false false true a p = never (sym p)
all_passed false false false a p = (refl, refl, refl)

module _ (r : ℕ) (t : Triple) (tests : Result ℕ Refusal) (et : said tests ≡ flavor_of r t) (buffer : List ℕ) where
  module _ {e : Refusal} (m : tests ≡ Err e) where
    no_cell : refused (number_of e) ≡ wkt_of r t
    unfolding flavor_of wkt_of
    no_cell = same_tests (ltb 30 r) (not (good_sum t)) (not (is_in_bounds r t)) (closed_flavor r t) (polygon_text t) (ap said (sym m) ∙ et)

    pub no_cell_refused : refused (number_of e) ≡ count_of (wkt_of r t) buffer
    no_cell_refused = refused_count buffer no_cell

    pub no_cell_left : buffer ≡ after_call (wkt_of r t) buffer
    no_cell_left = refused_kept buffer no_cell

  module _ {f : ℕ} (m : tests ≡ Ok f) where
    past : (ltb 30 r ≡ false) × (not (good_sum t) ≡ false) × (not (is_in_bounds r t) ≡ false)
    unfolding flavor_of
    past = all_passed (ltb 30 r) (not (good_sum t)) (not (is_in_bounds r t)) (closed_flavor r t) (ap said (sym m) ∙ et)

    pub sum_good : good_sum t ≡ true
    sum_good = not-false (good_sum t) past.1

    given : told (polygon_text t) ≡ wkt_of r t
    unfolding wkt_of
    given = λ i. by_tests (sym past.0 i) (sym past.1 i) (sym past.2 i) (polygon_text t)

    -- n bytes of it stand aside
    module _ (mx : mag t.x < 2 ^ 31) (my : mag t.y < 2 ^ 31) (mz : mag t.z < 2 ^ 31) {zeros aside : List ℕ} {n : ℕ} (room : length zeros ≡ 110) (w : Put zeros 0 (polygon_text t) aside n) where
      pub aside_most : n ≤ length aside
      aside_most = spelled_most t sum_good mx my mz room w

      pub aside_counted : n ≡ length (take n aside)
      aside_counted = sym (length-take-le n aside aside_most)

      aside_is : take n aside ≡ polygon_text t
      aside_is = spelled_is t sum_good mx my mz room w

      module _ {after : List ℕ} {end : ℕ} (copied : Put buffer 0 (take n aside) after end) where
        put_text : Put buffer 0 (polygon_text t) after end
        put_text = rw aside_is at copied

        same_room : length after ≡ length buffer
        same_room = put_length buffer after 0 end (polygon_text t) put_text

        module _ (past_end : length after < end) where
          no_room : length buffer < length (polygon_text t)
          no_room = omega (arith, put_short buffer after 0 end (polygon_text t) put_text (omega (arith, same_room)))

          pub short_refused : refused (number_of Is.Room) ≡ count_of (wkt_of r t) buffer
          short_refused = short_count buffer given refl no_room

          pub short_left : after ≡ after_call (wkt_of r t) buffer
          short_left = put_kept buffer after 0 end (polygon_text t) put_text (omega (arith, same_room)) ∙ short_kept buffer given refl no_room

        module _ (within : end ≤ length after) where
          roomy : 0 + length (polygon_text t) ≤ length buffer
          roomy = put_roomy buffer after 0 end (polygon_text t) put_text (omega (arith, same_room))

          at_end : length (polygon_text t) ≡ end
          at_end = omega (arith, put_place buffer after 0 end (polygon_text t) put_text roomy)

          pub whole_told : told end ≡ count_of (wkt_of r t) buffer
          whole_told = whole_count buffer given at_end (omega (arith, at_end, roomy))

          pub whole_left : after ≡ after_call (wkt_of r t) buffer
          whole_left =
              let zero : 0 + length (polygon_text t) ≡ end = omega (arith, at_end) in
              whole_stored buffer given at_end (omega (arith, at_end, roomy))
              (put_stored buffer after 0 end (polygon_text t) put_text roomy ∙ sets-eq (polygon_text t) buffer 0 roomy ∙ ap (λ (k : ℕ). polygon_text t ++ drop k buffer) zero)

pub ruleset writing = (no_cell_refused, no_cell_left, sum_good, aside_most, aside_counted, short_refused, short_left)

pub ruleset written = (whole_told, whole_left)
