-- The codes of accepted scripts have headings.
use Rattle.std.proofs.Common.{ℕ, Bool, true, false, List, length, Ok}
use Rattle.py_ast.specs.declared.scoped.Scoped.{Scoped}
use Rattle.py_ast.specs.declared.stmt.Script.{Script}
use Rattle.py_scopes.specs.Resolve.{AnswersAs}
use Rattle.py_meaning.specs.Syntax as syntax
use Rattle.py_meaning.specs.Resolved.{codes_of}
use Rattle.generator_cut.specs.Writable.{IsHeading}
use Rattle.py_headings.specs.Scripts.{IsRead, HaveHeadings, AcceptedScriptsHaveHeadings}
use Rattle.py_headings.proofs.Surveyed.{all_joined}
use Rattle.py_headings.proofs.Lexed.{lexed_sound}
use Rattle.py_headings.proofs.Scripts.{script_headed}

read_headed : (built_in : Bool) (first : ℕ) (bytes : List ℕ) (script : Script) (scoped : Scoped) → IsRead bytes script → AnswersAs built_in script (Ok scoped) → HaveHeadings (codes_of first scoped)
read_headed built_in first bytes script scoped r a = script_headed built_in first r.tokens script scoped (lexed_sound bytes r.tokens r.lexed) r.tree a

pub accepted_headed : AcceptedScriptsHaveHeadings
accepted_headed = record {
  alone = λ bytes script scoped r a. read_headed false 0 bytes script scoped r a;
  with_text = λ bytes script scoped others text behind r a q b.
      all_joined (λ (code : syntax.Code). IsHeading code.header) (codes_of 0 scoped) (codes_of (length scoped.scopes) behind)
      (read_headed false 0 bytes script scoped r a) (read_headed true (length scoped.scopes) others text behind q b);
}
