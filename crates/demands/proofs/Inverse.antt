-- THE INVERSE of corner sums, exactly: `turtle`'s laws, put together.
use mathlib.Core.Path.{◌≡◌, sym, ◌∙◌}
use mathlib.Core.Logic.{⊎_elim}
use mathlib.Core.Bool.{true, not}
use borrow.Author.Tests.{not-false}
use Rattle.triple.specs.declared.Triple.{Triple}
use Rattle.triple.specs.Refusals.{told, refused}
use Rattle.triple.specs.Triples.{good_sum}
use Rattle.turtle.specs.declared.AB.{AB}
use Rattle.turtle.specs.Corners.{corner_sum, corner_sum_of, triple_of, HasTriple}
use Rattle.turtle.proofs.CornerLaws.{inverse_sound, inverse_complete, inverse_refused, corner_sum_unique}
use Rattle.triple.proofs.RefusalLaws.{passed, told_same}
use Rattle.demands.specs.Demands.{CornerSums}
use Rattle.demands.proofs.ToldLaws.{told_refused}

-- a triple that has a corner sum is good, and that is it
summed : (t : Triple) (p : AB) → corner_sum_of t ≡ told p → (good_sum t ≡ true) × (corner_sum t ≡ p)
unfolding corner_sum_of
summed t p e = let q = passed (not (good_sum t)) _ e in (not-false (good_sum t) q.0, told_same q.1)

refused_else : (p : AB) → ((t : Triple) → HasTriple p t → ⊥) → triple_of p ≡ refused 6
refused_else p none = ⊎_elim (λ h. absurd (none h.0 h.1)) (λ e. e) (inverse_refused p)

pub corner_sums : CornerSums
corner_sums = record {
  answered = λ p t. (inverse_sound p t, inverse_complete p t);
  refused_else = λ p. (λ e t n. told_refused (inverse_complete p t n) e, refused_else p);
  unique = λ t u p e f. corner_sum_unique t u (summed t p e).0 (summed u p f).0 ((summed t p e).1 ∙ sym (summed u p f).1);
}
