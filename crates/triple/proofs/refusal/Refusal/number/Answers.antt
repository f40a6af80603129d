-- `Refusal::number` meets its contract: each arm has the number of its own refusal, by the definition.
use mathlib.Core.Path.{sym, ap}
use borrow.Author.Rules.{rules}
use Rattle.triple.specs.Refusals.{number_of}
use Rattle.triple.proofs.refusal.Refusal.number.Goals as goal

pub enum_told-1 : goal.enum_told-1
unfolding number_of
enum_told-1 c = search rules

pub enum_told-in-Orientation : goal.enum_told-in-Orientation
unfolding number_of
enum_told-in-Orientation c = search rules

pub enum_told-in-Position : goal.enum_told-in-Position
unfolding number_of
enum_told-in-Position c = search rules

pub enum_told-in-Sum : goal.enum_told-in-Sum
unfolding number_of
enum_told-in-Sum c = search rules

pub enum_told-in-Bounds : goal.enum_told-in-Bounds
unfolding number_of
enum_told-in-Bounds c = search rules

pub enum_told-in-Pair : goal.enum_told-in-Pair
unfolding number_of
enum_told-in-Pair c = search rules

pub enum_told-in-Node : goal.enum_told-in-Node
unfolding number_of
enum_told-in-Node c = search rules

pub enum_told-in-Digit : goal.enum_told-in-Digit
unfolding number_of
enum_told-in-Digit c = search rules

pub enum_told-in-Point : goal.enum_told-in-Point
unfolding number_of
enum_told-in-Point c = search rules

pub enum_told-in-Room : goal.enum_told-in-Room
unfolding number_of
enum_told-in-Room c = search rules

pub enum_told-in-Code : goal.enum_told-in-Code
unfolding number_of
enum_told-in-Code c = search rules

pub enum_told-in-Shape : goal.enum_told-in-Shape
unfolding number_of
enum_told-in-Shape c = search rules

pub enum_told-in-Motif : goal.enum_told-in-Motif
unfolding number_of
enum_told-in-Motif c = search rules

pub enum_told-in-Rule : goal.enum_told-in-Rule
unfolding number_of
enum_told-in-Rule c = search rules

pub enum_told-in-Children : goal.enum_told-in-Children
unfolding number_of
enum_told-in-Children c = search rules

pub enum_told-in-Heading : goal.enum_told-in-Heading
unfolding number_of
enum_told-in-Heading c = search rules

pub enum_told-in-Draw : goal.enum_told-in-Draw
unfolding number_of
enum_told-in-Draw c = search rules

pub enum_told-in-Turns : goal.enum_told-in-Turns
unfolding number_of
enum_told-in-Turns c = search rules

pub enum_told-in-Net : goal.enum_told-in-Net
unfolding number_of
enum_told-in-Net c = search rules

pub enum_told-in-Split : goal.enum_told-in-Split
unfolding number_of
enum_told-in-Split c = search rules

pub enum_told-in-Line : goal.enum_told-in-Line
unfolding number_of
enum_told-in-Line c = search rules

pub enum_told-in-Table : goal.enum_told-in-Table
unfolding number_of
enum_told-in-Table c = search rules

pub enum_told-in-Passes : goal.enum_told-in-Passes
unfolding number_of
enum_told-in-Passes c = search rules

pub enum_told-in-Spare : goal.enum_told-in-Spare
unfolding number_of
enum_told-in-Spare c = search rules

pub enum_told-in-Order : goal.enum_told-in-Order
unfolding number_of
enum_told-in-Order c = search rules

pub enum_told-in-Part : goal.enum_told-in-Part
unfolding number_of
enum_told-in-Part c = search rules

pub enum_told-in-Polygon : goal.enum_told-in-Polygon
unfolding number_of
enum_told-in-Polygon c = search rules

pub enum_told-in-Retired : goal.enum_told-in-Retired
unfolding number_of
enum_told-in-Retired c = search rules

pub enum_told-in-Long : goal.enum_told-in-Long
unfolding number_of
enum_told-in-Long c = search rules

pub returns-in-Resolution : goal.returns-in-Resolution
unfolding number_of
returns-in-Resolution c = ap number_of (sym c.in-Resolution.is)

pub returns-in-Orientation : goal.returns-in-Orientation
unfolding number_of
returns-in-Orientation c = ap number_of (sym c.in-Orientation.is)

pub returns-in-Position : goal.returns-in-Position
unfolding number_of
returns-in-Position c = ap number_of (sym c.in-Position.is)

pub returns-in-Sum : goal.returns-in-Sum
unfolding number_of
returns-in-Sum c = ap number_of (sym c.in-Sum.is)

pub returns-in-Bounds : goal.returns-in-Bounds
unfolding number_of
returns-in-Bounds c = ap number_of (sym c.in-Bounds.is)

pub returns-in-Pair : goal.returns-in-Pair
unfolding number_of
returns-in-Pair c = ap number_of (sym c.in-Pair.is)

pub returns-in-Node : goal.returns-in-Node
unfolding number_of
returns-in-Node c = ap number_of (sym c.in-Node.is)

pub returns-in-Digit : goal.returns-in-Digit
unfolding number_of
returns-in-Digit c = ap number_of (sym c.in-Digit.is)

pub returns-in-Point : goal.returns-in-Point
unfolding number_of
returns-in-Point c = ap number_of (sym c.in-Point.is)

pub returns-in-Room : goal.returns-in-Room
unfolding number_of
returns-in-Room c = ap number_of (sym c.in-Room.is)

pub returns-in-Code : goal.returns-in-Code
unfolding number_of
returns-in-Code c = ap number_of (sym c.in-Code.is)

pub returns-in-Shape : goal.returns-in-Shape
unfolding number_of
returns-in-Shape c = ap number_of (sym c.in-Shape.is)

pub returns-in-Motif : goal.returns-in-Motif
unfolding number_of
returns-in-Motif c = ap number_of (sym c.in-Motif.is)

pub returns-in-Rule : goal.returns-in-Rule
unfolding number_of
returns-in-Rule c = ap number_of (sym c.in-Rule.is)

pub returns-in-Children : goal.returns-in-Children
unfolding number_of
returns-in-Children c = ap number_of (sym c.in-Children.is)

pub returns-in-Heading : goal.returns-in-Heading
unfolding number_of
returns-in-Heading c = ap number_of (sym c.in-Heading.is)

pub returns-in-Draw : goal.returns-in-Draw
unfolding number_of
returns-in-Draw c = ap number_of (sym c.in-Draw.is)

pub returns-in-Turns : goal.returns-in-Turns
unfolding number_of
returns-in-Turns c = ap number_of (sym c.in-Turns.is)

pub returns-in-Net : goal.returns-in-Net
unfolding number_of
returns-in-Net c = ap number_of (sym c.in-Net.is)

pub returns-in-Split : goal.returns-in-Split
unfolding number_of
returns-in-Split c = ap number_of (sym c.in-Split.is)

pub returns-in-Line : goal.returns-in-Line
unfolding number_of
returns-in-Line c = ap number_of (sym c.in-Line.is)

pub returns-in-Table : goal.returns-in-Table
unfolding number_of
returns-in-Table c = ap number_of (sym c.in-Table.is)

pub returns-in-Passes : goal.returns-in-Passes
unfolding number_of
returns-in-Passes c = ap number_of (sym c.in-Passes.is)

pub returns-in-Spare : goal.returns-in-Spare
unfolding number_of
returns-in-Spare c = ap number_of (sym c.in-Spare.is)

pub returns-in-Order : goal.returns-in-Order
unfolding number_of
returns-in-Order c = ap number_of (sym c.in-Order.is)

pub returns-in-Part : goal.returns-in-Part
unfolding number_of
returns-in-Part c = ap number_of (sym c.in-Part.is)

pub returns-in-Polygon : goal.returns-in-Polygon
unfolding number_of
returns-in-Polygon c = ap number_of (sym c.in-Polygon.is)

pub returns-in-Retired : goal.returns-in-Retired
unfolding number_of
returns-in-Retired c = ap number_of (sym c.in-Retired.is)

pub returns-in-Long : goal.returns-in-Long
unfolding number_of
returns-in-Long c = ap number_of (sym c.in-Long.is)
