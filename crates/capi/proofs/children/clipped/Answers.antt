-- `clipped`: each way out is a case of the definition.
use borrow.Author.Rules.{rules}
use Rattle.capi.proofs.GivenLaws.{clip_negative, clip_above, clip_within, clip_fits}
use Rattle.capi.proofs.children.clipped.Goals as goal

pub returns-then-number-lt0 : goal.returns-then-number-lt0
returns-then-number-lt0 c = clip_negative _ _ (search rules) c.if-number-lt0.true

pub returns-then-number-greatest : goal.returns-then-number-greatest
returns-then-number-greatest c = clip_above _ _ (search rules) (search rules) c.if-number-greatest.true

pub overflow_cast-result : goal.overflow_cast-result
overflow_cast-result c = clip_fits c.args.greatest c.args.number c.ranges.number c.requires c.if-number-lt0.false c.if-number-greatest.false

pub returns : goal.returns
returns c = clip_within _ _ (search rules) c.requires c.if-number-lt0.false c.if-number-greatest.false
