-- `scan::whole_row` tells the shape of a row: by its first two spaces, that there is no third, and the sizes of the three fields.
use Rattle.grammar.proofs.CutLaws.{shapes, three}
use borrow.Author.Rules.{rules}
use Rattle.grammar.proofs.scan.whole_row.Goals as goal
use Rattle.grammar.proofs.scan.whole_row.Goals.{else-fits-via-then-fits+then-fits-2+else-fits-3, else-fits-via-then-fits+else-fits-2, else-fits-via-else-fits}

pub returns-then-row-name : goal.returns-then-row-name
returns-then-row-name c = search (rules, shapes)

pub returns-then-rest-rule : goal.returns-then-rest-rule
returns-then-rest-rule c = search (rules, shapes)

pub returns-then-draw-last : goal.returns-then-draw-last
returns-then-draw-last c = search (rules, shapes)

pub returns-then-fits-3 : goal.returns-then-fits-3
returns-then-fits-3 c = three _ c.until-name.ensures c.if-row-name.false c.rest_of-rest.ensures c.until-rule.ensures c.if-rest-rule.false c.rest_of-last.ensures c.until-draw.ensures c.if-draw-last.false c.fits.ensures c.if-fits.true c.fits-then-fits.ensures c.if-fits-2.true c.fits-then-fits-2.ensures c.if-fits-3.true

pub returns-else-fits : goal.returns-else-fits
returns-else-fits c =
    elim c.else-fits.branch [
      | else-fits-via-then-fits+then-fits-2+else-fits-3 w ↦ search (rules, shapes)
      | else-fits-via-then-fits+else-fits-2 w ↦ search (rules, shapes)
      | else-fits-via-else-fits w ↦ search (rules, shapes)
    ]
