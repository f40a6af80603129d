-- What a query finds, by what each operation answers; and a line's answer, by what its query finds.
use mathlib.Core.Path.{◌≡◌, refl, sym, ap, subst, ◌∙◌}
use mathlib.Core.List.{List}
use Prim.Native.Nat.{ℕ}
use lib.Ieee.{Float}
use Rattle.std.specs.Prelude.{Result, Ok, Err}
use Rattle.triple.specs.declared.Triple.{Triple}
use Rattle.triple.specs.declared.refusal.Refusal.{Refusal}
use Rattle.triple.specs.Refusals.{Told, told, refused, number_of, ◌>>=◌, said}
use Rattle.triple.specs.Domain.{domain_of}
use Rattle.triple.proofs.DomainLaws.{out_of_domain, in_domain_lem}
use Rattle.triple.specs.Lent.{count_of, after_call}
use Rattle.curve.specs.declared.PointCell.{PointCell}
use Rattle.curve.specs.Points.{point_of}
use Rattle.lsystem.specs.declared.Located.{Located}
use Rattle.lsystem.specs.Answers.{said_position}
use Rattle.lsystem.specs.Cells.{position_of}
use Rattle.lsystem.specs.Looks.{located_of}
use Rattle.lsystem.proofs.LookLaws.{position_said}
use Rattle.query.specs.declared.Query.{Query}
use Rattle.query.specs.declared.Found.{Found}
use Rattle.query.specs.Lines.{query_of, answer_line}
use Rattle.query.specs.Prints.{found_text}
use Rattle.query.specs.Queries.{point_found, answer_of}

-- ---- an answer, and what is made of it
module _ {A : Type 0} (made : A → Told Found) {given t : Told A} (answers : given ≡ t) where
  pub made_told : {a : A} → given ≡ told a → {x : Told Found} → x ≡ made a → x ≡ (t >>= made)
  made_told e p = rw (sym answers, e) p

  pub made_refused : {n : ℕ} → given ≡ refused n → refused n ≡ (t >>= made)
  made_refused e = rw (sym answers, e)

-- ---- a triple's position, without the looks of its lookup
module _ (o r : ℕ) (t : Triple) (a : Result Located Refusal) (ea : said a ≡ located_of o r t) where
  found : said_position a ≡ position_of o r t
  found = position_said o r t a ea

  pub position_told : {l : Located} → a ≡ Ok l → told (Found.Position l.position) ≡ answer_of (Query.Cell o r t)
  unfolding answer_of
  position_told m = made_told (λ p. told (Found.Position p)) found (ap said_position m) refl

  pub position_refused : {e : Refusal} → a ≡ Err e → refused (number_of e) ≡ answer_of (Query.Cell o r t)
  unfolding answer_of
  position_refused m = made_refused (λ p. told (Found.Position p)) found (ap said_position m)

-- that of a point's cell
module _ (o r : ℕ) (c : PointCell) (a : Result Located Refusal) (ea : said a ≡ located_of o r c.triple) where
  pub placed_told : {l : Located} → a ≡ Ok l → told (Found.Point c l.position) ≡ point_found o r c
  placed_told m = made_told (λ p. told (Found.Point c p)) (found o r c.triple a ea) (ap said_position m) refl

  pub placed_refused : {e : Refusal} → a ≡ Err e → refused (number_of e) ≡ point_found o r c
  placed_refused m = made_refused (λ p. told (Found.Point c p)) (found o r c.triple a ea) (ap said_position m)

pub ruleset placing = (position_told, position_refused, placed_told, placed_refused)

-- ---- a point: resolution and orientation are tested first, as a point has no position without them
module _ (o r : ℕ) (i j : Float) {a : Result Unit Refusal} (ea : said a ≡ domain_of o r) where
  pub point_outside : {e : Refusal} → a ≡ Err e → refused (number_of e) ≡ answer_of (Query.Point o r i j)
  unfolding answer_of
  point_outside m = out_of_domain o r a ea _ m

  module _ (m : a ≡ (Ok tt)) (p : Result PointCell Refusal) (ep : said p ≡ point_of r i j) where
    pub point_refused : {e : Refusal} → p ≡ Err e → refused (number_of e) ≡ answer_of (Query.Point o r i j)
    unfolding answer_of
    point_refused k = made_refused (point_found o r) ep (ap said k) ∙ in_domain_lem o r a ea m _

    pub point_told : {c : PointCell} → p ≡ Ok c → {x : Told Found} → x ≡ point_found o r c → x ≡ answer_of (Query.Point o r i j)
    unfolding answer_of
    point_told k e = made_told (point_found o r) ep (ap said k) e ∙ in_domain_lem o r a ea m _

pub ruleset points = (point_outside, point_refused, point_told)

-- ---- a line
module _ (line : List ℕ) {given : Told Query} (answers : given ≡ query_of line) where
  pub line_told : {q : Query} → given ≡ told q → {x : Told Found} → x ≡ answer_of q → found_text x ≡ answer_line line
  unfolding answer_line
  line_told e p = rw (sym answers, e, p)

  pub line_refused : {n : ℕ} → given ≡ refused n → found_text (refused n) ≡ answer_line line
  unfolding answer_line
  line_refused e = rw (sym answers, e)

pub printed_as : {text line : List ℕ} → text ≡ line → {a : Told ℕ} (buffer : List ℕ) {after : List ℕ} → (a ≡ count_of (told text) buffer) × (after ≡ after_call (told text) buffer) → (a ≡ count_of (told line) buffer) × (after ≡ after_call (told line) buffer)
printed_as e {a} buffer {after} p = subst (λ text. (a ≡ count_of (told text) buffer) × (after ≡ after_call (told text) buffer)) e p
