-- `splits::gather` falls with the number of children, since both sides of a clean line have some.
use Rattle.std.proofs.Common.{arith}
use Rattle.classifier.specs.Inside.Sets.{members}
use Rattle.classifier.proofs.GatherLaws.{through_none, through_only, through_stuck, Splitting, two_of, nothing_of, first_less, first_room, second_less, second_room, through_split}
use Rattle.classifier.proofs.splits.+gather.Goals as goal

pub returns-then-n-eq0 : goal.returns-then-n-eq0
returns-then-n-eq0 t c = through_none (members c.args.group.now) _ (omega (arith, c.if-n-eq0.true)) c.mark_stuck.ensures

pub returns-then-n-eq1 : goal.returns-then-n-eq1
returns-then-n-eq1 t c = through_only (omega (arith, c.if-n-eq1.true))

pub returns-in_default : goal.returns-in_default
returns-in_default t c =
    let gs = members c.args.group.now in
    through_stuck gs _ (two_of gs c.size-n.ensures c.if-n-eq0.false c.if-n-eq1.false) (nothing_of gs c.first_clean.ensures c.in_default.is) c.mark_stuck-in_default.ensures

pub gather-requires : goal.gather-requires
gather-requires t c =
    let gs = members c.args.group.now in
    let f : Splitting gs c.in-Some.s c.args.found.now = record { room = c.requires; two = two_of gs c.size-n.ensures c.if-n-eq0.false c.if-n-eq1.false; found = c.in-Some.ensures } in
    (omega (arith, c.decreases, first_less f c.add.ensures c.side.ensures), first_room f c.add.ensures c.side.ensures)

pub gather-requires-2 : goal.gather-requires-2
gather-requires-2 t c =
    let gs = members c.args.group.now in
    let f : Splitting gs c.in-Some.s c.args.found.now = record { room = c.requires; two = two_of gs c.size-n.ensures c.if-n-eq0.false c.if-n-eq1.false; found = c.in-Some.ensures } in
    (omega (arith, c.decreases, second_less f c.add.ensures c.side.ensures c.gather.ensures c.side-2.ensures), second_room f c.add.ensures c.side.ensures c.gather.ensures c.side-2.ensures)

pub returns : goal.returns
returns t c =
    let gs = members c.args.group.now in
    let f : Splitting gs c.in-Some.s c.args.found.now = record { room = c.requires; two = two_of gs c.size-n.ensures c.if-n-eq0.false c.if-n-eq1.false; found = c.in-Some.ensures } in
    through_split f c.add.ensures c.side.ensures c.gather.ensures c.side-2.ensures c.gather-2.ensures
