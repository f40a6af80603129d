-- The node below a cell: what a position that is told says of its arguments, and where the descent by all of its digits ends.
use Rattle.std.specs.Prelude.{Result, Ok, Err}
use Rattle.std.proofs.Common.{◌≡◌, ℕ, ◌*◌, ◌/◌, ◌^◌, ◌<◌, ◌≤◌, sym, ap, ◌∙◌, subst, arith}
use Rattle.triple.specs.declared.Triple.{Triple}
use Rattle.triple.specs.declared.orientation.Recipe.{Recipe}
use Rattle.triple.specs.declared.refusal.Refusal.{Refusal}
use Rattle.triple.specs.Refusals.{told, refused, number_of, said}
use Rattle.triple.specs.Domain.{position_count}
use Rattle.triple.specs.Orientations.{recipe_of, place_from, curve_place}
use Rattle.triple.proofs.OrientationLaws.{place_is, motif_fits}
use Rattle.lsystem.specs.declared.Position.{Position}
use Rattle.lsystem.specs.declared.Located.{Located}
use Rattle.lsystem.specs.Answers.{said_position}
use Rattle.lsystem.specs.Cells.{position_of}
use Rattle.lsystem.specs.Looks.{located_of}
use Rattle.lsystem.proofs.LookLaws.{position_said}
use Rattle.lsystem.proofs.CellCode.{axiom_state_small}
use Rattle.lsystem.proofs.Numbering.{numbers, position_good, told_in}
use Rattle.nodes.specs.declared.Frame.{Frame}
use Rattle.nodes.specs.declared.Node.{Node}
use Rattle.nodes.specs.declared.descent.Place.{Place}
use Rattle.nodes.specs.Nodes.{frame_at, node_at, node_of}
use Rattle.nodes.specs.Inside.Descents.{descended, at_origin, frame_of_place, Exact}
use Rattle.nodes.proofs.DescentLaws.{room_wider, room_exact, end_room}
use Rattle.nodes.proofs.NodeWalk.{frame_is}

-- ---- a position that is told
pub record Asked (o r s : ℕ) : Type 0 where
  pub orientation : o ≤ 5
  pub resolution : r ≤ 30
  pub position : s < 4 ^ r

same : {p q : Position} → told p ≡ told q → p.s ≡ q.s
same {p} {q} e = let z : p ≡ q = cc in ap (λ (p : Position). p.s) z

pub told_asked : (o r : ℕ) (t : Triple) (p : Position) → position_of o r t ≡ told p → Asked o r p.s
told_asked o r t p e =
    let a = told_in o r t p e in
    let n = numbers o r a.0 a.1 in
    let found = sym (n.finds t a.2) ∙ sym (position_good o r a.0 a.1 t a.2) ∙ e in
    record { orientation = a.0; resolution = a.1; position = subst (λ s. s < 4 ^ r) (same found) (n.small t a.2) }

module _ (o r : ℕ) (t : Triple) (a : Result Located Refusal) (ea : said a ≡ located_of o r t) where
  found : said_position a ≡ position_of o r t
  found = position_said o r t a ea

  pub reached_refused : {e : Refusal} → a ≡ Err e → refused (number_of e) ≡ node_of o r t
  unfolding node_of
  reached_refused m = rw (sym found ∙ ap said_position m)

  module _ {l : Located} (m : a ≡ Ok l) where
    asked : Asked o r l.position.s
    asked = told_asked o r t l.position (sym found ∙ ap said_position m)

    pub asked_resolution : r ≤ 30
    asked_resolution = asked.resolution

    pub asked_position : l.position.s < 4 ^ r
    asked_position = asked.position

    pub reached_told : {f : Frame} → f ≡ frame_at o r l.position.s → {n : Node} → n ≡ record { orientation = o; resolution = r; frame = f } → told (record { position = l.position; node = n }) ≡ node_of o r t
    unfolding node_of node_at
    reached_told ef en = rw (sym found ∙ ap said_position m, en, ef)

pub ruleset reaching = (asked_resolution, asked_position, reached_told, reached_refused)

-- ---- the frame below the cell that s names
module _ (o r s : ℕ) (k : r ≤ 30) (l : s < 4 ^ r) {w : Recipe} (ew : w ≡ recipe_of o) where
  pub start_small : 2 * w.motif < 28
  unfolding recipe_of
  start_small = rw ew (axiom_state_small o)

  module _ {count : ℕ} (ec : count ≡ position_count r) {place : ℕ} (e : place ≡ place_from w.backward count s) where
    on_curve : place ≡ curve_place o r s
    on_curve = place_is o ew r s k ec e

    module _ {p : Place} (ep : p ≡ descended r (4 * place) (at_origin (2 * w.motif))) where
      pub end_exact : Exact p
      end_exact = rw ep (room_exact _ (room_wider _ 0 (end_room (2 * w.motif) r (4 * place) start_small k)))

      pub below_is : {n : Frame} → n ≡ frame_of_place p → n ≡ frame_at o r s
      unfolding recipe_of
      below_is en =
          let fours : 4 * place / 4 ≡ curve_place o r s = sym (omega arith) ∙ on_curve in
          en
          ∙ ap frame_of_place (ep ∙ ap (λ (w : Recipe). descended r (4 * place) (at_origin (2 * w.motif))) ew)
          ∙ sym (frame_is o r s (4 * place) k l fours)

pub ruleset arriving = (motif_fits, start_small, end_exact, below_is)
