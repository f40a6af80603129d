-- The test of a line by its name.
use Rattle.std.specs.Prelude.{Bool, List}
use Rattle.grammar.specs.declared.tests.Test.{Test}
use Rattle.grammar.specs.Texts.{Line}
use Rattle.grammar.specs.Tests.{bad_motif, bad_rule, bad_count, bad_heading, bad_draw, bad_turns, bad_net}

abbrev pub test_of : List Line → Test → List Line → Line → Bool
test_of ls Test.Motif = bad_motif
test_of ls Test.Rule = λ _. bad_rule ls
test_of ls Test.Count = λ _. bad_count ls
test_of ls Test.Heading = λ _. bad_heading ls
test_of ls Test.Draw = λ _. bad_draw
test_of ls Test.Turns = λ _. bad_turns ls
test_of ls Test.Net = λ _. bad_net ls
