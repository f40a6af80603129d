-- ALL THAT WAS ASKED holds.
use Rattle.a5.proofs.A5Compiled.{a5_states}
use Rattle.fold.proofs.CallLaws.{empty_folds}
use Rattle.demands.specs.Demands.{Demands}
use Rattle.demands.proofs.Refused.{refusals}
use Rattle.demands.proofs.Kept.{lent_buffers}
use Rattle.demands.proofs.Inverse.{corner_sums}
use Rattle.demands.proofs.ExactlyOnce.{numbering}
use Rattle.demands.proofs.Counted.{lookups}
use Rattle.demands.proofs.SafeThresholds.{threshold, thresholds}
use Rattle.demands.proofs.Steps.{child_steps, child_step}
use Rattle.demands.proofs.Rounded.{points}
use Rattle.demands.proofs.RoundedExactly.{exact_points}
use Rattle.demands.proofs.Drawn.{grammar}
use Rattle.demands.proofs.Parted.{parts, two_grammars}
use Rattle.demands.proofs.Sketched.{drawing_refusals, drawings}
use Rattle.demands.proofs.ReadBack.{code}
use Rattle.demands.proofs.Turned.{code_read}
use Rattle.demands.proofs.WholeCodes.{whole_codes}
use Rattle.demands.proofs.Folded.{folding, unfolds}
use Rattle.demands.proofs.AreaDemands.{areas, reports}
use Rattle.demands.proofs.Mended.{mending}
use Rattle.demands.proofs.Claimed.{treated_lists}
use Rattle.demands.proofs.Ringed.{polygons}
use Rattle.demands.proofs.TwelveCases.{dozen}

pub demands : Demands
demands = record {
  refusals = refusals;
  lent_buffers = lent_buffers;
  corner_sums = corner_sums;
  numbering = numbering;
  lookups = lookups;
  threshold = λ o r t h l k b. threshold o r t h k b;
  thresholds = thresholds;
  child_steps = child_steps;
  child_step = child_step;
  points = points;
  exact_points = exact_points;
  grammars = grammar;
  a5 = a5_states;
  parts = parts;
  two_grammars = two_grammars;
  drawing_refusals = drawing_refusals;
  drawings = drawings;
  codes = code;
  codes_read = code_read;
  whole_codes = whole_codes;
  folds = folding;
  fold_empty = empty_folds;
  unfolds = unfolds;
  areas = areas;
  reports = reports;
  mending = mending;
  treated_lists = treated_lists;
  polygons = polygons;
  dozen = dozen;
}
