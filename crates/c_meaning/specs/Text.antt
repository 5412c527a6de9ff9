-- How a program is spelled: one text for each program. Each form is a list of pieces, one after another.
use Rattle.std.specs.Prelude.{ℕ, ◌+◌, zero, suc, List, [], ◌∷◌, ◌++◌, Bool, true, false, codes, decimal}
use Rattle.std.specs.Fmt.{signed_decimal}
use Rattle.std.specs.List.{flat_map}
use Rattle.nu_text.specs.Pieces.{joined}
use Rattle.nu_text.specs.Strings.{string_text}
use Rattle.nu_value.specs.declared.header.ParamKind.{ParamKind}
use Rattle.nu_value.specs.declared.header.ParamKind.TheVariants as kind
use Rattle.nu_value.specs.declared.header.Header as header
use Rattle.op_forms.specs.Names.{op_name}
use Rattle.op_forms.specs.declared.constant.Const.TheVariants as const
use Rattle.code_forms.specs.declared.operand.Operand.{Operand}
use Rattle.code_forms.specs.declared.operand.Operand.TheVariants as operand
use Rattle.code_forms.specs.declared.operand.Argument.{Argument}
use Rattle.code_forms.specs.declared.operand.Argument.TheVariants as argument
use Rattle.c_meaning.specs.declared.program.Stored.{Stored}
use Rattle.c_meaning.specs.declared.program.Stored.TheVariants as stored
use Rattle.c_meaning.specs.declared.program.Statement.{Statement}
use Rattle.c_meaning.specs.declared.program.Statement.TheVariants as statement
use Rattle.c_meaning.specs.declared.program.Line.{Line}
use Rattle.c_meaning.specs.declared.program.Line.TheVariants as line
use Rattle.c_meaning.specs.declared.program.Function as function
use Rattle.c_meaning.specs.declared.program.CProgram as program

-- the texts of items that are numbered from the next number on
abbrev pub numbered : {A : Type 0} → (ℕ → A → List ℕ) → ℕ → List A → List ℕ
numbered text next [] = []
numbered text next (item ∷ items) = text next item ++ numbered text (next + 1) items

abbrev pub operand_pieces : Operand → List (List ℕ)
operand_pieces (operand.Temp n) = codes "r" ∷ decimal n ∷ []
operand_pieces (operand.Const const.None) = codes "nu_none" ∷ []
operand_pieces (operand.Const (const.Bool true)) = codes "nu_true" ∷ []
operand_pieces (operand.Const (const.Bool false)) = codes "nu_false" ∷ []
operand_pieces (operand.Const (const.Int z)) = codes "nu_int(\"" ∷ signed_decimal z ∷ codes "\")" ∷ []
operand_pieces (operand.Const (const.Str text)) = codes "nu_str(" ∷ string_text text ∷ codes ")" ∷ []

abbrev pub operand_text : Operand → List ℕ
operand_text a = joined (operand_pieces a)

-- an argument, behind a comma
abbrev pub argument_pieces : Argument → List (List ℕ)
argument_pieces (argument.Value a) = codes ", " ∷ operand_text a ∷ []
argument_pieces (argument.Name name) = codes ", " ∷ string_text name ∷ []

abbrev pub argument_text : Argument → List ℕ
argument_text a = joined (argument_pieces a)

-- where an operation goes on that raises
abbrev pub fail_piece : List ℕ
fail_piece = codes "); if (nu_bad(fr)) goto L"

-- what is stored in a register, to the end of the line
abbrev pub stored_pieces : Stored → List (List ℕ)
stored_pieces (stored.Value a) = operand_text a ∷ codes ";\n" ∷ []
stored_pieces stored.Unset = codes "nu_unset;\n" ∷ []
stored_pieces (stored.Parameter n) = codes "nu_arg(fr, " ∷ decimal n ∷ codes ");\n" ∷ []
stored_pieces (stored.Free n) = codes "nu_free(fr, " ∷ decimal n ∷ codes ");\n" ∷ []
stored_pieces (stored.Load slot) = codes "nu_load(fr, " ∷ decimal slot ∷ codes ");\n" ∷ []
stored_pieces stored.Caught = codes "nu_caught(fr);\n" ∷ []
stored_pieces (stored.Sent at fail) = codes "nu_sent(fr, " ∷ decimal at ∷ fail_piece ∷ decimal fail ∷ codes ";\n" ∷ []
stored_pieces (stored.Operation op at arguments fail) =
    codes "nu_" ∷ op_name op ∷ codes "(fr, " ∷ decimal at ∷ flat_map argument_text arguments ∷ fail_piece ∷ decimal fail ∷ codes ";\n" ∷ []

abbrev pub stored_text : Stored → List ℕ
stored_text s = joined (stored_pieces s)

-- the cases of a switch
abbrev pub case_pieces : ℕ → ℕ → List (List ℕ)
case_pieces number label = codes " case " ∷ decimal number ∷ codes ": goto L" ∷ decimal label ∷ codes ";" ∷ []

abbrev pub case_text : ℕ → ℕ → List ℕ
case_text number label = joined (case_pieces number label)

abbrev pub cases_text : List ℕ → List ℕ
cases_text labels = numbered case_text 0 labels

abbrev pub statement_pieces : Statement → List (List ℕ)
statement_pieces (statement.Store to what) = codes "  r" ∷ decimal to ∷ codes " = " ∷ stored_text what ∷ []
statement_pieces (statement.Goto label) = codes "  goto L" ∷ decimal label ∷ codes ";\n" ∷ []
statement_pieces (statement.Branch test label) = codes "  if (nu_is(" ∷ operand_text test ∷ codes ")) goto L" ∷ decimal label ∷ codes ";\n" ∷ []
statement_pieces (statement.Again exception label) = codes "  nu_again(fr, " ∷ operand_text exception ∷ codes "); goto L" ∷ decimal label ∷ codes ";\n" ∷ []
statement_pieces (statement.Give value) = codes "  return nu_give(fr, " ∷ operand_text value ∷ codes ");\n" ∷ []
statement_pieces statement.End = codes "  return nu_end(fr);\n" ∷ []
statement_pieces statement.Fail = codes "  return nu_fail(fr);\n" ∷ []
statement_pieces (statement.Switch labels) = codes "  switch (nu_resume(fr)) {" ∷ cases_text labels ∷ codes " }\n" ∷ []
statement_pieces (statement.Save slot value) = codes "  nu_save(fr, " ∷ decimal slot ∷ codes ", " ∷ operand_text value ∷ codes ");\n" ∷ []
statement_pieces (statement.Pause number value) = codes "  return nu_pause(fr, " ∷ decimal number ∷ codes ", " ∷ operand_text value ∷ codes ");\n" ∷ []

abbrev pub statement_text : Statement → List ℕ
statement_text s = joined (statement_pieces s)

abbrev pub line_pieces : Line → List (List ℕ)
line_pieces (line.Do s) = statement_pieces s
line_pieces (line.Label label) = codes "L" ∷ decimal label ∷ codes ":;\n" ∷ []

abbrev pub line_text : Line → List ℕ
line_text l = joined (line_pieces l)

-- so many registers more, from the next number on
abbrev pub more_registers : ℕ → ℕ → List ℕ
more_registers zero next = []
more_registers (suc more) next = codes ", r" ++ decimal next ++ more_registers more (next + 1)

-- the declaration of all registers, if there is one
abbrev pub declaration_text : ℕ → List ℕ
declaration_text zero = []
declaration_text (suc more) = codes "  nu r0" ++ more_registers more 1 ++ codes ";\n"

-- 1 for a generator
abbrev pub kind_text : Bool → List ℕ
kind_text false = codes "0"
kind_text true = codes "1"

-- the letter of a kind of parameter
abbrev pub letter : ParamKind → ℕ
letter kind.Only = 112
letter kind.Plain = 110
letter kind.Star = 115
letter kind.Key = 107
letter kind.Double = 100

-- parameters, each a letter and its name, with a space between two
abbrev pub param_text : (ParamKind × List ℕ) → List ℕ
param_text param = letter param.0 ∷ param.1

abbrev pub spaced_text : (ParamKind × List ℕ) → List ℕ
spaced_text param = 32 ∷ param_text param

abbrev pub params_text : List (ParamKind × List ℕ) → List ℕ
params_text [] = []
params_text (param ∷ params) = param_text param ++ flat_map spaced_text params

-- the first line of a function of this number
abbrev pub code_pieces : ℕ → header.Header → ℕ → List (List ℕ)
code_pieces number h slots =
    codes "NU_CODE(" ∷ decimal number ∷ codes ", " ∷ string_text h.scope ∷ codes ", " ∷ string_text (params_text h.params) ∷ codes ", " ∷ kind_text h.generator ∷ codes ", " ∷ decimal slots ∷ codes ", "
    ∷ decimal h.line ∷ codes ")\n" ∷ []

-- the lines in front of the declaration
abbrev pub header_pieces : ℕ → header.Header → ℕ → List (List ℕ)
header_pieces number h slots = joined (code_pieces number h slots) ∷ codes "nu nu_code_" ∷ decimal number ∷ codes "(nu_frame *fr)\n{\n" ∷ []

-- the function of this number
abbrev pub function_pieces : ℕ → function.Function → List (List ℕ)
function_pieces number f = joined (header_pieces number f.header f.slots) ∷ declaration_text f.registers ∷ flat_map line_text f.body ∷ codes "}\n" ∷ []

abbrev pub function_text : ℕ → function.Function → List ℕ
function_text number f = joined (function_pieces number f)

-- the first lines
abbrev pub heading_pieces : program.CProgram → List (List ℕ)
heading_pieces p =
    codes "/* nuit C 1 */\n" ∷ codes "#include \"nuit1.h\"\n" ∷ codes "NU_SCRIPT(" ∷ string_text p.name ∷ codes ", " ∷ decimal p.scripts ∷ codes ", " ∷ decimal p.builtins ∷ codes ")\n" ∷ []

abbrev pub program_text : program.CProgram → List ℕ
program_text p = joined (heading_pieces p) ++ numbered function_text 0 p.functions
