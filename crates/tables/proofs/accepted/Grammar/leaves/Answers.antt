-- `Grammar::leaves` goes along the token's strokes, of which there are four.
use Rattle.tables.proofs.LeafLaws.{strokes_four, strokes_drawn}
use Rattle.tables.proofs.accepted.Grammar.leaves.Goals as goal

pub along-requires : goal.along-requires
along-requires c = strokes_four c.args.self.now.ready c.args.token c.requires c.strokes_into-n.result c.strokes_into-n.new.out c.strokes_into-n.ensures.0

pub returns : goal.returns
returns c = strokes_drawn c.args.self.now.ready c.args.token c.requires c.strokes_into-n.result c.strokes_into-n.new.out c.strokes_into-n.ensures.0 c.along.ensures
