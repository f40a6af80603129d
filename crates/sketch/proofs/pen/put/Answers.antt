-- `pen::put`: four entries, of a triple that is held as it is read back from its bits.
use Rattle.std.proofs.Common.{rules}
use Rattle.sketch.proofs.PutLaws.{put_four}
use Rattle.sketch.proofs.pen.put.Goals as goal

pub returns : goal.returns
returns c = put_four c.args.cell c.args.at c.args.out.now c.triple_in-t.ensures c.flavor_in-flavor.ensures (record { x = search rules; y = search rules; z = search rules }) (search rules) c.requires c.copy_from_slice.ensures.after
