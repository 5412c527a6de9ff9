use Rattle.std.proofs.Common.{◌≡◌, ℕ, IsTrue, nat_eq, arith, lit<, rules}
use Rattle.std.proofs.lemmas.Bool.Decides.{nat_tests}
use Rattle.unicode_ident.specs.Ident.{is_xid_continue}
use Rattle.unicode_ident.proofs.IdentLemmas.{is_xid_continue-ascii}
use Rattle.py_lexer.proofs.words.begins_word.Goals as goal

underscore : (c : ℕ) → c ≡ 95 → IsTrue (is_xid_continue c)
underscore c e = rw (e, is_xid_continue-ascii 95 (lit< tt)) (search rules)

is_95 : (c : ℕ) → IsTrue (nat_eq c 95) → c ≡ 95
is_95 c h = grind (arith, nat_tests)

pub returns-else-is_xid_start-clause-goes_on : goal.returns-else-is_xid_start-clause-goes_on
returns-else-is_xid_start-clause-goes_on c = λ h. underscore c.args.c (is_95 c.args.c h)
