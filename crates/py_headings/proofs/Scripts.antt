-- The codes of scripts that tokens with lines and names spell have headings.
use Rattle.std.proofs.Common.{ℕ, suc, Bool, List, [], ◌∷◌, map, Ok, sym, subst, arith}
use Rattle.std.specs.List.{AllByRecursion}
use Rattle.py_ast.specs.declared.scoped.Scope.{Scope}
use Rattle.py_ast.specs.declared.scoped.ScopeKind.TheVariants as kind
use Rattle.py_ast.specs.declared.scoped.Scoped.{Scoped}
use Rattle.py_ast.specs.declared.stmt.Script.{Script}
use Rattle.py_ast.specs.declared.stmt.Stmt.{Stmt}
use Rattle.py_ast.specs.declared.token.Token.{Token}
use Rattle.py_statements.specs.Script.{Tree}
use Rattle.py_scopes.specs.declared.survey.Site.{Site}
use Rattle.py_scopes.specs.declared.survey.Survey.{Survey}
use Rattle.py_scopes.specs.Survey.{survey_of, top, own_name, enter}
use Rattle.py_scopes.specs.Resolve.{AnswersAs, scopes_of, filled}
use Rattle.py_meaning.specs.Syntax as syntax
use Rattle.py_meaning.specs.Resolved as resolved
use Rattle.py_meaning.specs.Resolved.{codes_of, module_context, block}
use Rattle.py_headings.specs.Scripts.{HaveHeadings}
use Rattle.py_headings.proofs.Tidy.{HasLine, Stands}
use Rattle.py_headings.proofs.Tokens.{Sound}
use Rattle.py_headings.proofs.Surveyed.{enter_keeps}
use Rattle.py_headings.proofs.Coded.{code_fits, none_fit}
use Rattle.py_headings.proofs.Statements.{BlockTidy, stmts_keep, block_makes}
use Rattle.py_headings.proofs.Blocks.{statements_tidy}

filled_lines : (s : Survey) (sites : List Site) (n : ℕ) (xs : List Scope) → AllByRecursion HasLine xs → AllByRecursion HasLine (filled s sites n xs)
filled_lines s sites n [] l = tt
filled_lines s sites n (x ∷ xs) l = (l.0, filled_lines s sites (suc n) xs l.1)

module_entered : Bool → Survey
module_entered built_in = enter 1 kind.Module (own_name kind.Module) top (record { built_in = built_in; scopes = []; sites = [] })

scopes_lined : (built_in : Bool) (xs : List Stmt) → BlockTidy xs → AllByRecursion HasLine (scopes_of (survey_of built_in xs))
unfolding scopes_of survey_of module_entered
scopes_lined built_in xs t =
    let s = survey_of built_in xs in
    filled_lines s s.sites 0 s.scopes
    (stmts_keep xs t top (module_entered built_in) (enter_keeps 1 kind.Module (own_name kind.Module) (omega arith) top (record { built_in = built_in; scopes = []; sites = [] }) tt))

codes_headed : (first : ℕ) (s : Scoped) → BlockTidy s.script.statements → AllByRecursion HasLine s.scopes → HaveHeadings (codes_of first s)
codes_headed first s t l =
    let c = module_context s.scopes first in
    let stands : Stands c = record { lines = l; class = tt } in
    (code_fits c [] (syntax.Statements (block c (map resolved.stmt s.script.statements) 1).is) l none_fit, (block_makes c stands s.script.statements t).headed 1)

pub script_headed : (built_in : Bool) (first : ℕ) (tokens : List Token) (script : Script) (scoped : Scoped) → Sound tokens → Tree tokens script → AnswersAs built_in script (Ok scoped) → HaveHeadings (codes_of first scoped)
script_headed built_in first tokens script scoped v tree a =
    let t = statements_tidy tree.spelled v in
    codes_headed first scoped (subst (λ (x : Script). BlockTidy x.statements) (sym a.0) t) (subst (AllByRecursion HasLine) (sym a.1.0) (scopes_lined built_in script.statements t))
