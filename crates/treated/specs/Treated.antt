-- A partner's treated list: codes one after another, each judged together with those before it.
use Rattle.std.specs.Prelude.{Bool, false, not, cond, ◌&&◌, ◌||◌, List, [], ◌∷◌, ◌++◌, ℕ, zero, suc, ◌-◌, ◌/◌, ◌^◌, leb, eqb, length, drop, Result, Ok, Err}
use Rattle.triple.specs.declared.refusal.Refusal.TheVariants as Is
use Rattle.triple.specs.Refusals.{Told, told, refused, number_of}
use Rattle.code.specs.declared.Reading.{Reading}
use Rattle.code.specs.Codes.{read_of}
use Rattle.treated.specs.declared.Fault.{Fault}
use Rattle.treated.specs.declared.Fault.TheVariants.{Unsound, Marked, Orientation, Overlap}

-- ---- one code, taken together with those before it
-- x's cell equals or contains y's: the position of y begins with the digits of x's
unfoldable pub contains : Reading → Reading → Bool
contains x y = leb x.resolution y.resolution && eqb (y.s / 4 ^ (y.resolution - x.resolution)) x.s

-- x's cell equals or contains one before it, or is contained in one
unfoldable pub overlaps : List Reading → Reading → Bool
overlaps [] x = false
overlaps (y ∷ before) x = (contains y x || contains x y) || overlaps before x

-- x is not of the first code's orientation
unfoldable pub strays : List Reading → Reading → Bool
strays [] x = false
strays (first ∷ before) x = not (eqb x.orientation first.orientation)

-- THE JUDGEMENT on what the reader answers: the earliest of unsound, marked, orientation, overlap
unfoldable pub judge_of : List Reading → Told Reading → Result Reading Fault
judge_of before (refused n) = Err Unsound
judge_of before (told x) =
    cond x.old (Err Marked)
    (cond (strays before x) (Err Orientation)
    (cond (overlaps before x) (Err Overlap)
    (Ok x)))

-- ---- the list
-- how many codes it has, all of them good; or the first that is at fault, by its number from 0
pub data Verdict : Type 0 where
  good : ℕ → Verdict
  faulty : Fault → ℕ → Verdict

-- the most codes that a list may have
abbrev pub most_codes : ℕ
most_codes = 512

-- a fault stops, and a code that is right goes on
abbrev pub judged : Result Reading Fault → (Fault → Told Verdict) → (Reading → Told Verdict) → Told Verdict
judged (Err f) stop goOn = stop f
judged (Ok x) stop goOn = goOn x

-- what comes of a rest behind some good codes, where n more may come: no byte may be left behind them
unfoldable pub check_from : ℕ → List Reading → List ℕ → Told Verdict
check_from zero before [] = told (good (length before))
check_from zero before (b ∷ rest) = refused (number_of Is.Long)
check_from (suc n) before [] = told (good (length before))
check_from (suc n) before (b ∷ rest) =
    judged
    (judge_of before (read_of (b ∷ rest)))
    (λ f. told (faulty f (length before)))
    (λ x. check_from n (before ++ (x ∷ [])) (drop x.used (b ∷ rest)))

-- THE VERDICT on a list
unfoldable pub check_of : List ℕ → Told Verdict
check_of list = check_from most_codes [] list
