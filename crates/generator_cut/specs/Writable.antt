-- What flat code is whose program has a text. The causes for which a text is no program's are named, but for those that `WellFormed`
-- (flow_code) excludes and for numbers and texts that no value of their type is.
use Rattle.std.specs.Prelude.{◌≡◌, ◌≢◌, ℕ, ◌<◌, ◌≤◌, List, [], length, true, false, not}
use Rattle.std.specs.List.{AllByRecursion}
use Rattle.nu_value.specs.declared.header.Header.{Header}
use Rattle.nu_value.specs.declared.header.ParamKind.{ParamKind}
use Rattle.flow_code.specs.declared.function.FlatScript.{FlatScript}
use Rattle.code_forms.specs.Taking.{is_taken}
use Rattle.flow_code.specs.declared.statement.Line.{Line}
use Rattle.flow_code.specs.Contents.{operations}
use Rattle.c_meaning.specs.Written.{has, in_order}

-- at least one function is the script's, and there are 65,535 at most
pub record IsCounted (script : FlatScript) : Type 0 where
  pub some : 0 < script.scripts
  pub within : script.scripts ≤ length script.functions
  pub few : length script.functions ≤ 65535

-- a parameter's name isn't empty and has no space
pub record IsNamed (p : ParamKind × List ℕ) : Type 0 where
  pub some : p.1 ≢ []
  pub no_space : has p.1 32 ≡ false

-- parameters have names and stand in order, and lines are counted from 1
pub record IsHeading (h : Header) : Type 0 where
  pub params : AllByRecursion IsNamed h.params
  pub order : in_order 0 h.params ≡ true
  pub from_one : 0 < h.line

-- how many operations stand that no C text has
abbrev pub refused : List Line → ℕ
refused lines = operations (λ o args. not (is_taken o args)) lines
