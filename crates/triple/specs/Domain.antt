-- The domain: resolutions 0 to 30, orientations 0 to 5, and how many rows and positions there are at a resolution.
use Rattle.std.specs.Prelude.{cond, ℕ, ◌^◌, leb, ltb}
use Rattle.triple.specs.declared.refusal.Refusal.TheVariants as Is
use Rattle.triple.specs.Refusals.{Told, told, refuse}

abbrev pub greatest_resolution : ℕ
greatest_resolution = 30

abbrev pub greatest_orientation : ℕ
greatest_orientation = 5

-- ---- refused where there is no such resolution or orientation; else what comes after the test
abbrev pub at_resolution : {A : Type 0} → ℕ → Told A → Told A
at_resolution r next = refuse (ltb greatest_resolution r) Is.Resolution next

abbrev pub in_orientation : {A : Type 0} → ℕ → Told A → Told A
in_orientation o next = refuse (ltb greatest_orientation o) Is.Orientation next

-- the resolution is tested first
abbrev pub in_domain : {A : Type 0} → ℕ → ℕ → Told A → Told A
in_domain o r next = at_resolution r (in_orientation o next)

-- by these tests alone
abbrev pub domain_of : ℕ → ℕ → Told (Unit {0})
domain_of o r = in_domain o r (told tt)

-- ---- 2 ^ r rows and 4 ^ r positions; none at a resolution that there is not
unfoldable pub row_count : ℕ → ℕ
row_count r = cond (leb r greatest_resolution) (2 ^ r) 0

unfoldable pub position_count : ℕ → ℕ
position_count r = cond (leb r greatest_resolution) (4 ^ r) 0
