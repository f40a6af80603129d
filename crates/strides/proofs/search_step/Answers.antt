-- `search_step` is an entry, unpacked.
use Rattle.std.proofs.Common.{◌∙◌}
use Rattle.strides.proofs.EntryLaws.{search_entry_is}
use Rattle.strides.proofs.TableLaws.{search_steps_at}
use Rattle.strides.proofs.search_step.Goals as goal

pub returns : goal.returns
returns c = search_entry_is _ _ (c.entry_of-e.ensures ∙ search_steps_at _)
