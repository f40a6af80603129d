-- How large a pair is, in a measure that no rotation changes: what the code asks so that its sums fit.
use Rattle.std.specs.Prelude.{ℕ, ℤ, pos, neg_ℤ, ◌+ℤ◌, ◌≤ℤ◌}
use Rattle.turtle.specs.declared.AB.{AB}
use Rattle.turtle.specs.declared.letter.Stroke.{Stroke}

-- at most n in size
pub record Within (n : ℕ) (z : ℤ) : Type 0 where
  pub low : neg_ℤ (pos n) ≤ℤ z
  pub high : z ≤ℤ pos n

-- a, b and a + b are: a rotation changes their order and their signs alone
pub record Small (n : ℕ) (p : AB) : Type 0 where
  pub a : Within n p.a
  pub b : Within n p.b
  pub sum : Within n (p.a +ℤ p.b)

-- a stroke's step or corner
abbrev pub Short : AB → Type 0
Short = Small 8

-- a pair that is not far: a and b are at most 2 ^ 34
pub record Near (p : AB) : Type 0 where
  pub a : Within 17179869184 p.a
  pub b : Within 17179869184 p.b

-- a pair that can be added to another one: 2 ^ 40
abbrev pub Roomy : AB → Type 0
Roomy = Small 1099511627776

pub record SmallStroke (s : Stroke) : Type 0 where
  pub step : Short s.step
  pub p : Short s.p
  pub q : Short s.q
  pub r : Short s.r
