-- `RuleChildren::with_byte` turns, meets a child, or passes over the byte.
use Rattle.tables.proofs.RuleChildLaws.{one_left, one_right, none_met, by_left, by_right, by_room, by_letter, by_none}
use mathlib.Core.Path.{refl}
use Rattle.tables.proofs.children.RuleChildren.with_byte.Goals as goal

pub returns-then-b-eq43 : goal.returns-then-b-eq43
returns-then-b-eq43 c = by_left c.args.source c.args.b _ _ c.if-b-eq43.true (one_left c.args.self _ 1 c.with_turn.ensures refl)

pub returns-then-b-eq45 : goal.returns-then-b-eq45
returns-then-b-eq45 c = by_right c.args.source c.args.b _ _ c.if-b-eq43.false c.if-b-eq45.true (one_right c.args.self _ 5 c.with_turn-then-b-eq45.ensures refl)

pub with_child-requires : goal.with_child-requires
with_child-requires c = by_room c.args.source c.args.b c.args.self c.args.self c.if-b-eq43.false c.if-b-eq45.false c.is_listed.ensures c.if-is_listed.true c.requires

pub returns-then-is_listed : goal.returns-then-is_listed
returns-then-is_listed c = by_letter c.args.source c.args.b _ _ c.if-b-eq43.false c.if-b-eq45.false c.is_listed.ensures c.if-is_listed.true c.token_of.ensures c.with_child.ensures

pub returns-else-is_listed : goal.returns-else-is_listed
returns-else-is_listed c = by_none c.args.source c.args.b _ _ c.if-b-eq43.false c.if-b-eq45.false c.is_listed.ensures c.if-is_listed.false (none_met c.args.self)
