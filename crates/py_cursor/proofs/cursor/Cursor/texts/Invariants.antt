use Rattle.std.proofs.Common.{◌≡◌, [], length}
use Rattle.py_grammar.specs.Parse.{texts_from}
use Rattle.py_cursor.proofs.cursor.Cursor.texts.Given as goal

abbrev pub invariant-loop-self : goal.invariant-loop-self
invariant-loop-self l = texts_from [] l.fn.self ≡ texts_from l.joined.bytes.items l.self

abbrev pub decreases-loop-self : goal.decreases-loop-self
decreases-loop-self l = length l.self
