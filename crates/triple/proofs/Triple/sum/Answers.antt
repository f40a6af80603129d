-- `Triple::sum` meets its contract: three i32 are small, so their sum fits an i64.
use native.Mathlib.Omega.{arith}
use Rattle.whole.proofs.View.{seen, fits, eq_by}
use Rattle.triple.proofs.Triple.sum.Goals as goal

pub overflow_cast-result : goal.overflow_cast-result
overflow_cast-result c = fits (search seen) tt

pub overflow_cast-result-2 : goal.overflow_cast-result-2
overflow_cast-result-2 c = fits (search seen) tt

pub overflow_add-result : goal.overflow_add-result
overflow_add-result c = fits (search seen) tt

pub overflow_cast-result-3 : goal.overflow_cast-result-3
overflow_cast-result-3 c = fits (search seen) tt

pub overflow_add-result-2 : goal.overflow_add-result-2
overflow_add-result-2 c = fits (search seen depth 9) tt

pub returns : goal.returns
returns c = eq_by (search seen depth 9) (search seen depth 9) tt (omega arith)
