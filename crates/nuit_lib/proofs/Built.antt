-- What is written for a script is the text of its program.
use Rattle.std.proofs.Common.{◌≡◌, ℕ, ◌≤◌, List, length, Some, sym, ◌∙◌, ap, subst}
use Rattle.py_ast.specs.declared.scoped.Scope.{Scope}
use Rattle.py_ast.specs.declared.scoped.Scoped.{Scoped}
use Rattle.py_ast.specs.declared.stmt.Script.{Script}
use Rattle.py_scopes.specs.Resolve.{scopes_of}
use Rattle.py_scopes.specs.Survey.{surveyed}
use Rattle.reform_all.specs.Built.{first_unbuilt}
use Rattle.nuit_lib.specs.Scripts.{Accepted, IsScript}
use Rattle.nuit_lib.specs.Refusals.{IsUnbuilt}
use Rattle.nuit_lib.specs.Compiled.{IsCompiled, IsProgramOf}
use Rattle.nuit_lib.specs.Replies.{IsBuilt}
use Rattle.nuit_lib.proofs.OneKind.{same_tree}

-- bytes are one script
same_script : (bytes : List ℕ) (s t : Scoped) → IsScript bytes s → IsScript bytes t → s ≡ t
same_script bytes s t x y =
    let e = same_tree bytes s.script t.script x.is y.is in
    let f : s.scopes ≡ t.scopes = x.resolved.scopes ∙ ap (λ z. scopes_of (surveyed z.statements)) e ∙ sym y.resolved.scopes in
    ap (λ z. scoped z s.scopes) e ∙ ap (scoped t.script) f
  where
    scoped : Script → List Scope → Scoped
    scoped script scopes = record { script = script; scopes = scopes }

pub built : (name bytes : List ℕ) (s : Scoped) (text : List ℕ) → IsScript bytes s → IsCompiled name s text → IsBuilt name bytes text
built name bytes s text x c = record {
  program = c.program;
  is_text = c.is_text;
  is = λ t y. subst (λ z. IsProgramOf name z c.program) (same_script bytes s t x y) c.is;
}

pub accepted : (bytes : List ℕ) (s : Scoped) (name text : List ℕ) → length bytes ≤ 262144 → IsScript bytes s → IsCompiled name s text → Accepted bytes
accepted bytes s name text short x c = record { short = short; tree = s.script; is = x.is; keeps = x.resolved.keeps; built = c.built }

pub unbuilt : (bytes : List ℕ) (s : Scoped) (line : ℕ) → IsScript bytes s → first_unbuilt s.script.statements ≡ Some line → IsUnbuilt bytes line
unbuilt bytes s line x h = record { tree = s.script; is = x.is; keeps = x.resolved.keeps; other = h }
