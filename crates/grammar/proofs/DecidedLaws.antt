-- The tests 12 to 19 decide: where they find no fault they say what is asked after them says, and where they find one, that fault, whatever is asked after them.
use mathlib.Core.Path.{◌≡◌, refl, sym, ◌∙◌}
use mathlib.Core.List.{List, [], ◌∷◌}
use Prim.Native.Nat.{ℕ, zero, suc}
use native.Mathlib.Omega.{arith}
use Rattle.grammar.specs.Texts.{Row, Line, rows_of, lines_of}
use Rattle.grammar.specs.Tests.{Verdict, fine, fault, first, fault_at, bad_shape, bad_motif, bad_rule, bad_count, bad_heading, bad_draw, bad_turns, bad_net, line_tests, some_rows, text_tests}

data Decided (f : Verdict → Verdict) : Type 0 where
  passes : ((w : Verdict) → f w ≡ w) → Decided f
  stops : (n line : ℕ) → ((w : Verdict) → f w ≡ fault n line) → Decided f

after : (n k : ℕ) {f : Verdict → Verdict} → Decided f → Decided (λ w. fault_at n k (f w))
after n zero (passes p) = passes p
after n zero (stops a b p) = stops a b p
after n (suc k) d = stops n (suc k) (λ w. refl)

decided_lines : (ls : List Line) → Decided (line_tests ls)
unfolding line_tests
decided_lines ls =
    after 13 (first bad_motif ls)
    (after 14 (first (λ _. bad_rule ls) ls)
    (after 15 (first (λ _. bad_count ls) ls)
    (after 16 (first (λ _. bad_heading ls) ls)
    (after 17 (first (λ _. bad_draw) ls)
    (after 18 (first (λ _. bad_turns ls) ls)
    (after 19 (first (λ _. bad_net ls) ls) (passes (λ w. refl))))))))

decided_rows : (rs : List Row) {f : Verdict → Verdict} → Decided f → Decided (λ w. some_rows rs (f w))
decided_rows [] d = stops 12 0 (λ w. refl)
decided_rows (r ∷ rs) d = after 12 (first bad_shape (r ∷ rs)) d

decided : (text : List ℕ) → Decided (text_tests text)
unfolding text_tests
decided text = decided_rows (rows_of text) (decided_lines (lines_of text))

passed_all : {f : Verdict → Verdict} → Decided f → f fine ≡ fine → (w : Verdict) → f w ≡ w
passed_all (passes p) e w = p w
passed_all (stops a b p) e w = absurd (let q = sym (p fine) ∙ e in let z : ◌≡◌ {A = ℕ} 0 1 = cc in omega arith)

stopped_at : {f : Verdict → Verdict} → Decided f → {n line : ℕ} → f fine ≡ fault n line → (w : Verdict) → f w ≡ fault n line
stopped_at (passes p) e w = absurd (let q = sym (p fine) ∙ e in let z : ◌≡◌ {A = ℕ} 0 1 = cc in omega arith)
stopped_at (stops a b p) e w = p w ∙ sym (p fine) ∙ e

pub fine_passes : (text : List ℕ) → text_tests text fine ≡ fine → (w : Verdict) → text_tests text w ≡ w
fine_passes text = passed_all (decided text)

pub fault_stops : (text : List ℕ) {n line : ℕ} → text_tests text fine ≡ fault n line → (w : Verdict) → text_tests text w ≡ fault n line
fault_stops text = stopped_at (decided text)
