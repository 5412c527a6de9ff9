-- Arguments, entries and statements.
use Rattle.std.specs.Prelude.{ℕ, List, [], ◌++◌, Option, Some, None, Bool, true, false}
use Rattle.nu_value.specs.declared.value.Value.{Value}
use Rattle.nu_value.specs.declared.entries.Entry.{Entry}
use Rattle.nu_calls.specs.Traceback.{entry_text}
use Rattle.c_meaning.specs.declared.program.Stored.{Stored}
use Rattle.c_meaning.specs.declared.program.Stored.TheVariants as stored
use Rattle.c_meaning.specs.declared.program.Statement.{Statement}
use Rattle.c_meaning.specs.declared.program.Statement.TheVariants as statement

-- the list, if all had a value
abbrev pub some_if : Bool → List Value → Option (List Value)
some_if false vs = None
some_if true vs = Some vs

-- values behind others
abbrev pub after_values : List Value → Option (List Value) → Option (List Value)
after_values vs None = None
after_values vs (Some more) = Some (vs ++ more)

abbrev pub is_operated : Stored → Bool
is_operated (stored.Operation o at arguments fail) = true
is_operated other = false

abbrev pub is_operation : Statement → Bool
is_operation (statement.Store to what) = is_operated what
is_operation other = false

-- the line of an entry in a traceback, if there is one
abbrev pub text_at : List ℕ → Option Entry → List ℕ
text_at file None = []
text_at file (Some entry) = entry_text file entry
