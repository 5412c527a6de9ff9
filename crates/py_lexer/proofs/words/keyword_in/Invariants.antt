use Rattle.std.proofs.Common.{◌≡◌, drop}
use Rattle.py_lexer.specs.Words.{word_of}
use Rattle.py_lexer.proofs.words.keyword_in.Given as goal

abbrev pub invariant-loop-keyword : goal.invariant-loop-keyword
invariant-loop-keyword l = word_of (drop l.keyword-index l.table) l.word ≡ word_of l.table l.word
