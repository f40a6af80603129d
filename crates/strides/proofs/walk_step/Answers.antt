-- `walk_step` is an entry, unpacked.
use Rattle.std.proofs.Common.{◌∙◌}
use Rattle.strides.proofs.EntryLaws.{walk_entry_is}
use Rattle.strides.proofs.TableLaws.{walk_steps_at}
use Rattle.strides.proofs.walk_step.Goals as goal

pub returns : goal.returns
returns c = walk_entry_is _ _ (c.entry_of-e.ensures ∙ walk_steps_at _)
