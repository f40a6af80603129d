-- The front that was read tells the verdict on all of it.
use Rattle.std.proofs.Common.{◌≡◌, rules, arith, length}
use Rattle.checker.proofs.FrontVerdict.{verdict_of_all}
use Rattle.checker.proofs.verdict.Goals as goal

pub returns : goal.returns
returns g c =
    let long : length c.read_front.new.list ≡ 4609 = search rules in
    verdict_of_all c.in_ok-n.n c.read_front.new.list long (search rules) c.check.ensures _ _ c.in_ok-n.ensures.bytes (λ h. c.in_ok-n.ensures.whole (omega arith))
