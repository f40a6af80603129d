-- `nets::is_twice` compares both coordinates with sums that fit.
use mathlib.Core.Path.{◌≡◌, ap, ◌∙◌}
use native.Mathlib.Omega.{arith}
use borrow.Author.Tests.{ne_eqb}
use Rattle.whole.proofs.View.{seen, fits, told, differ, fact_of, eq_of, eq_by}
use Rattle.turtle.specs.declared.AB.{AB}
use Rattle.turtle.specs.Plane.{ab, ◌⊕◌}
use Rattle.turtle.proofs.WalkLaws.{v_small}
use Rattle.grammar.proofs.NetLaws.{twice_is, twice_not}
use Rattle.grammar.proofs.nets.is_twice.Goals as goal

pub overflow_add-q : goal.overflow_add-q
overflow_add-q c = let q = v_small c.requires.a in fits (search seen) tt

pub returns-else-p-q : goal.returns-else-p-q
unfolding ◌⊕◌
returns-else-p-q c = let q = v_small c.requires.a in ne_eqb _ _ c.if-p-q.false ∙ twice_not c.args.p (c.args.q ⊕ c.args.q) (λ h. omega (arith, fact_of (search (told, differ c.if-p-q.false)) (search seen) (search seen) tt, eq_of (search seen) (search seen) tt (ap (λ (r : AB). r.a) h)))

pub overflow_add-result : goal.overflow_add-result
overflow_add-result c = let q = v_small c.requires.b in fits (search seen) tt

pub returns-then-p-q : goal.returns-then-p-q
unfolding ◌⊕◌
returns-then-p-q c =
    let q = v_small c.requires.a in
    let r = v_small c.requires.b in
    let ea : c.args.p.a ≡ (c.args.q ⊕ c.args.q).a = eq_by (search seen) (search seen) tt (omega (arith, fact_of (search (told, c.if-p-q.true)) (search seen) (search seen) tt)) in
    twice_is c.args.p (c.args.q ⊕ c.args.q) _
    (λ e.
    let eb : c.args.p.b ≡ (c.args.q ⊕ c.args.q).b = eq_by (search seen) (search seen) tt (omega (arith, fact_of (search (told, e)) (search seen) (search seen) tt)) in
    λ i. ab (ea i) (eb i))
    (λ e h. omega (arith, fact_of (search (told, e)) (search seen) (search seen) tt, eq_of (search seen) (search seen) tt (ap (λ (r : AB). r.b) h)))
