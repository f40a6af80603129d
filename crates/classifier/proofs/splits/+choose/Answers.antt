-- `splits::choose` falls with the number of children, since the side that is left has fewer.
use Rattle.std.proofs.Common.{arith}
use Rattle.classifier.proofs.GatherLaws.{two_of, nothing_of, led_none, led_stuck, led_only, led_less, led_split}
use Rattle.classifier.specs.Inside.Sets.{members}
use Rattle.classifier.proofs.splits.+choose.Goals as goal

pub returns-then-n-eq0 : goal.returns-then-n-eq0
returns-then-n-eq0 t c = led_none (omega (arith, c.if-n-eq0.true))

pub returns-then-n-eq1 : goal.returns-then-n-eq1
returns-then-n-eq1 t c = led_only (omega (arith, c.if-n-eq1.true)) c.first_digit.ensures

pub returns-in_default : goal.returns-in_default
returns-in_default t c =
    let gs = members c.args.group.now in
    led_stuck (two_of gs c.size-n.ensures c.if-n-eq0.false c.if-n-eq1.false) (nothing_of gs c.first_clean.ensures c.in_default.is)

pub choose-requires : goal.choose-requires
choose-requires t c =
    let gs = members c.args.group.now in
    let less = led_less gs c.args.found.now.lines c.args.pattern (two_of gs c.size-n.ensures c.if-n-eq0.false c.if-n-eq1.false) c.in-Some.ensures c.index_of.ensures.place c.bit-above.ensures c.side.ensures in
    omega (arith, c.decreases)

pub returns : goal.returns
returns t c =
    let gs = members c.args.group.now in
    led_split gs c.args.found.now.lines c.args.pattern (two_of gs c.size-n.ensures c.if-n-eq0.false c.if-n-eq1.false) c.in-Some.ensures c.index_of.ensures.place c.bit-above.ensures c.side.ensures c.choose.ensures
