use Rattle.std.proofs.Common.{◌≡◌, [], ◌++◌, drop, string_bytes}
use Rattle.op_rules.specs.TextParts.{text_values, words_from}
use Rattle.rt_text.proofs.parts.words.Given as goal

abbrev pub invariant-loop-byte : goal.invariant-loop-byte
invariant-loop-byte l = l.items ++ text_values (words_from (string_bytes l.word) (drop l.byte-index l.text)) ≡ text_values (words_from [] l.text)
