-- A POLYGON is its cell's and no other's: `polygon`'s laws.
use mathlib.Core.Path.{sym, ◌∙◌, ap}
use Rattle.polygon.specs.Polygons.{cell_of_wkt}
use Rattle.polygon.proofs.CornerLaws.{corners_sum}
use Rattle.polygon.proofs.ReadBack.{given_of, export_import_lent, import_export, no_cell_27, outside_5}
use Rattle.polygon.proofs.Lengths.{wkt_length}
use Rattle.demands.specs.Demands.{Polygons}

pub polygons : Polygons
polygons = record {
  corners = corners_sum;
  ring = λ r t text e. sym (given_of r t text e).same;
  long = wkt_length;
  back = export_import_lent;
  forth = import_export;
  other = λ r text h none. no_cell_27 r text h (λ t s. none t (record { good = s.good; three = s.three; text_is = s.same }));
  outside = λ r text t h is out. ap (cell_of_wkt r) is.text_is ∙ outside_5 r t h is.good is.three out;
}
