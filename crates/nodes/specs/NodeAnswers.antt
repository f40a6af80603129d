-- What each answer about nodes says: its values, or its refusal's number.
use Rattle.std.specs.Prelude.{ℕ, Option, Some, None}
use Rattle.triple.specs.declared.refusal.Refusal.TheVariants as Is
use Rattle.triple.specs.Refusals.{Told, told, refused, number_of}
use Rattle.triple.specs.Domain.{in_orientation}
use Rattle.lsystem.specs.declared.cell.Cell.{Cell}
use Rattle.nodes.specs.declared.Node.{Node}
use Rattle.nodes.specs.Nodes.{axiom_node}

-- THE NODE of the axiom of the orientation o
unfoldable pub axiom_node_of : ℕ → Told Node
axiom_node_of o = in_orientation o (told (axiom_node o))

abbrev pub said_bounded : Option Cell → Told Cell
said_bounded (Some c) = told c
said_bounded None = refused (number_of Is.Bounds)
