-- `search_end` is an entry.
use Rattle.std.proofs.Common.{◌∙◌}
use Rattle.strides.proofs.TableLaws.{search_ends_at}
use Rattle.strides.proofs.search_end.Goals as goal

pub returns : goal.returns
returns c = c.entry_of.ensures ∙ search_ends_at _
