-- The keywords of a dict, place by place.
use Rattle.std.specs.Prelude.{List, Option, Some, None}
use Rattle.nu_value.specs.declared.key.Atom.{Atom}
use Rattle.nu_value.specs.declared.value.Value.{Value}
use Rattle.nu_value.specs.Names.{NameList}
use Rattle.op_rules.specs.Calls.{keyword_into}

-- the keyword of a pair, if there is one, beside others
abbrev pub keyword_at : Option (List Atom × Value × Value) → NameList → NameList
keyword_at None names = names
keyword_at (Some p) names = keyword_into p.1 p.2 names
