-- No run of an accepted script ends Undefined, since its codes are lawful.
use Rattle.std.proofs.Common.{◌++◌, Some, None, length}
use Rattle.py_meaning.specs.Script.{all_codes}
use Rattle.py_safe.specs.Laws.{RunsNeverEndUndefined}
use Rattle.py_accepted.specs.Laws.{role_in, AcceptedScriptsAreLawful, AcceptedScriptsNeverEndUndefined}

pub never_undefined : RunsNeverEndUndefined → AcceptedScriptsAreLawful → AcceptedScriptsNeverEndUndefined
never_undefined runs law = record {
  alone = λ rules keeps name script scoped answer input. runs.codes rules keeps name (role_in scoped.scopes) (length scoped.scopes) (all_codes scoped None) (law.alone script scoped answer) input;
  with_text = λ rules keeps name script scoped text behind answer other input.
      runs.codes rules keeps name (role_in (scoped.scopes ++ behind.scopes)) (length scoped.scopes) (all_codes scoped (Some behind)) (law.with_text script scoped text behind answer other) input;
}
