-- A DRAWING WITHOUT TABLES: its tests in their order, and of every call that passes them the cells in order, as the descent over A5's compiled
-- table gives them. What `sketch` writes is its own law (`SecondOpinion`).
use mathlib.Core.Path.{◌≡◌, refl, sym, ap, ◌∙◌}
use mathlib.Core.List.{List}
use Prim.Native.Nat.{ℕ, ◌*◌, ◌^◌, ◌≤◌}
use native.Mathlib.Omega.{arith}
use lib.IntN.{ℤ}
use lib.ListN.{length}
use Rattle.triple.specs.Refusals.{told, number_of}
use Rattle.triple.specs.Domain.{position_count}
use Rattle.triple.specs.Lent.{valued}
use Rattle.triple.proofs.DomainLaws.{positions_are}
use Rattle.lsystem.specs.Cells.{cell_values}
use Rattle.lsystem.proofs.Numbering.{position_names}
use Rattle.sketch.specs.Inside.Pens.{Drawable}
use Rattle.sketch.proofs.DrawLaws.{none_count, deep_count, turned_count, few_count}
use Rattle.sketch.proofs.SecondOpinion.{draw_count, draw_cells, draw_is_descent, draw_past}
use Rattle.demands.specs.Demands.{DrawingRefusals, Drawing}

pub drawing_refusals : DrawingRefusals
unfolding number_of
drawing_refusals = record {
  none = λ o buffer. sym (none_count o 0 buffer refl);
  deep = λ o r buffer h. sym (deep_count o r buffer h);
  orientation = λ o r buffer z k h. sym (turned_count o r buffer (λ e. omega arith) k h);
  room = λ o r buffer z k h l.
      let many : position_count r ≡ 4 ^ r = positions_are r (omega arith) refl in
      sym (few_count o r buffer (λ e. omega arith) k h {cells = position_count r} refl (rw many l));
}

pub drawings : (o r : ℕ) (buffer : List ℤ) → 1 ≤ r → r ≤ 6 → o ≤ 5 → 4 * 4 ^ r ≤ length buffer → Drawing o r buffer
drawings o r buffer z k h room =
    let ask : Drawable o r = record { some = z; shallow = k; oriented = h } in
    record {
      count = draw_count o r ask buffer room;
      cell = λ s l.
          let named = (position_names o r h (omega arith) s l).2 in
          ap (valued cell_values) named ∙ ap told (sym (draw_cells o r ask buffer room s _ l named));
      descent = λ table start s holds l. draw_is_descent o r ask buffer room table start holds s l;
      past = draw_past o r ask buffer room;
    }
