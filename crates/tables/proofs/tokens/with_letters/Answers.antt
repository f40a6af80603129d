-- `tokens::with_letters` goes over 26 bytes, and keeps those that are letters of listed motifs.
use Rattle.tables.proofs.SourceLaws.{listing_start, listing_room, listing_next, listing_end}
use Rattle.tables.proofs.tokens.with_letters.Goals as goal

pub loop-b-init : goal.loop-b-init
loop-b-init c = (listing_start c.args.source c.args.first, c.requires)

pub with_listed-all-requires : goal.with_listed-all-requires
with_listed-all-requires c = listing_room c.args.source c.args.first c.requires.0 c.loop-b.invariant.0 c.loop-b-test.true

pub loop-b-preserved : goal.loop-b-preserved
loop-b-preserved c = (listing_next c.args.source c.args.first c.requires.0 c.loop-b.invariant.0 c.loop-b-test.true c.with_listed-all.ensures, c.requires)

pub returns : goal.returns
returns c = listing_end c.args.source c.args.first c.requires.0 c.loop-b.invariant.0 c.loop-b-test.false
