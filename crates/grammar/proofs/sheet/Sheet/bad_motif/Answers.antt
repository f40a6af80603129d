-- `Sheet::bad_motif` is test 13: by the letter's case, the five that are not free, and the lines before.
use mathlib.Core.Path.{◌≡◌, sym, ap, ◌∙◌}
use mathlib.Core.Bool.{true, false, not}
use Rattle.std.proofs.lemmas.Bool.{false≢true}
use Rattle.grammar.specs.Inside.Places.{lines_from}
use Rattle.grammar.specs.Inside.Sheets.{line_in}
use Rattle.grammar.proofs.VerdictLaws.{motif_lower, motif_reserved, motif_free, named_before}
use Rattle.grammar.proofs.sheet.Sheet.bad_motif.Goals as goal
use Rattle.grammar.proofs.sheet.Sheet.bad_motif.Goals.{then-not-is_ascii_uppercase, else-not-is_ascii_uppercase}

pub returns-then-contains : goal.returns-then-contains
returns-then-contains c =
    let before = lines_from c.args.self.now.text.now c.args.self.now.lines c.args.i 0 in
    let line = line_in c.args.self.now c.args.i in
    elim c.if-not-is_ascii_uppercase.branch [
      | then-not-is_ascii_uppercase w ↦ motif_lower before line c.is_ascii_uppercase.ensures.value w.if-not-is_ascii_uppercase.true w.value-is
      | else-not-is_ascii_uppercase w ↦ motif_reserved before line c.is_ascii_uppercase.ensures.value w.if-not-is_ascii_uppercase.false w.contains.ensures.value w.value-is c.if-contains.true
    ]

pub returns-else-contains : goal.returns-else-contains
returns-else-contains c =
    let before = lines_from c.args.self.now.text.now c.args.self.now.lines c.args.i 0 in
    let line = line_in c.args.self.now c.args.i in
    let named = named_before c.args.self.now.text.now c.args.self.now.lines _ _ c.is_named.ensures in
    elim c.if-not-is_ascii_uppercase.branch [
      | then-not-is_ascii_uppercase w ↦ absurd (let z : false ≡ true = sym c.if-contains.false ∙ w.value-is ∙ ap not w.if-not-is_ascii_uppercase.true in false≢true z)
      | else-not-is_ascii_uppercase w ↦ motif_free before line c.is_ascii_uppercase.ensures.value w.if-not-is_ascii_uppercase.false w.contains.ensures.value w.value-is c.if-contains.false named
    ]
