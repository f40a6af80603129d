-- `walk_end` is an entry, unpacked.
use Rattle.std.proofs.Common.{◌∙◌}
use Rattle.strides.proofs.EntryLaws.{end_entry_is}
use Rattle.strides.proofs.TableLaws.{walk_ends_at}
use Rattle.strides.proofs.walk_end.Goals as goal

pub returns : goal.returns
returns c = end_entry_is _ _ (c.entry_of-e.ensures ∙ walk_ends_at _)
