-- The table of operations: what each gives, raises, prints or stops with, and the objects after it.
use Rattle.std.specs.Prelude.{ℕ, List, [], ◌∷◌, Option}
use Rattle.nu_value.specs.declared.header.Header.{Header}
use Rattle.nu_value.specs.declared.value.Value.{Value}
use Rattle.nu_value.specs.declared.object.Object.{Object}
use Rattle.nu_value.specs.Names.{NameList}
use Rattle.nu_value.specs.Same.{object_of}
use Rattle.op_rules.specs.declared.family.Family.{Family}
use Rattle.op_rules.specs.declared.family.Family.TheVariants as family
use Rattle.op_forms.specs.declared.op.Op.{Op}
use Rattle.op_forms.specs.declared.op.Op.TheVariants as op
use Rattle.op_forms.specs.declared.world.World.{World}
use Rattle.op_forms.specs.Answers.{Answer}
use Rattle.op_forms.specs.Doing.{Doing, nothing, ends, answer}
use Rattle.op_rules.specs.NameRows.{names, spaces}
use Rattle.op_rules.specs.Access.{other_row}
use Rattle.op_rules.specs.Classes.{class_row, attribute_row, class_call}
use Rattle.op_rules.specs.Dicts.{dict_row, dict_call}
use Rattle.op_rules.specs.Sequences.{sequence_row, sequence_call}
use Rattle.op_rules.specs.TextAccess.{text_doing}
use Rattle.op_rules.specs.TextCalls.{text_builtin}
use Rattle.op_rules.specs.Calls.{callee, given_args, given_names, call_row}
use Rattle.op_rules.specs.Families.{family_of, family_at_first, family_at_second}
use Rattle.op_rules.specs.Routes.{route, builtin_name, builtin_receiver}
use Rattle.op_rules.specs.declared.callees.Route.{Route}
use Rattle.op_rules.specs.declared.callees.Route.TheVariants.{Operation, BuiltIn, Itself}
use Rattle.op_rules.specs.Binding.{bound}

abbrev pub family_row : Family → Op → List Object → List Value → Doing
family_row family.Classes o h args = class_row o h args
family_row family.Dicts o h args = dict_row o h args
family_row family.Sequences o h args = sequence_row o h args
family_row family.Texts o h args = text_doing o h args
family_row family.Integers o h args = ends (other_row o h args)

-- an operation that goes by the kinds of all its operands
abbrev pub by_family : Op → List Object → List Value → Doing
by_family o h args = family_row (family_of h args) o h args

-- only what has methods of its own decides its truth by them
abbrev pub truth_of : Family → Op → List Object → List Value → Doing
truth_of family.Classes o h args = class_row o h args
truth_of f o h args = ends (other_row o h args)

pub data Group : Type 0 where
  Names : Group
  Spaces : Group
  Making : Group
  Mapping : Group
  Classing : Group
  Operators : Group
  Comparing : Group
  Testing : Group
  Accessing : Group
  Containing : Group
  Calling : Group

abbrev pub group : Op → Group
group op.Global = Names
group op.SetGlobal = Names
group op.DelGlobal = Names
group op.Local = Names
group op.Cell = Names
group op.CellSet = Names
group op.CellGet = Names
group op.CellDel = Names
group op.FreeGet = Names
group op.FreeDel = Names
group op.Space = Spaces
group op.SpaceGet = Spaces
group op.SpaceSet = Spaces
group op.SpaceDel = Spaces
group op.Native = Spaces
group op.Tuple = Making
group op.List = Making
group op.Push = Making
group op.Extend = Making
group op.Unpack = Making
group op.UnpackStar = Making
group op.Dict = Mapping
group op.Put = Mapping
group op.Merge = Mapping
group op.KeyPut = Mapping
group op.KeyMerge = Mapping
group op.Class = Classing
group op.Attr = Classing
group op.SetAttr = Classing
group op.DelAttr = Classing
group op.Find = Classing
group op.Manager = Classing
group op.Exc = Classing
group op.Raise = Classing
group op.Match = Classing
group op.ClassOf = Classing
group op.Trace = Classing
group op.Add = Operators
group op.Sub = Operators
group op.Mul = Operators
group op.FloorDiv = Operators
group op.Mod = Operators
group op.Pow = Operators
group op.LShift = Operators
group op.RShift = Operators
group op.And = Operators
group op.Or = Operators
group op.Xor = Operators
group op.Neg = Operators
group op.Pos = Operators
group op.Inv = Operators
group op.IAdd = Operators
group op.IMul = Operators
group op.Lt = Operators
group op.Le = Operators
group op.Gt = Operators
group op.Ge = Operators
group op.Eq = Comparing
group op.Ne = Comparing
group op.Is = Comparing
group op.IsNot = Comparing
group op.Not = Comparing
group op.Truth = Testing
group op.Index = Accessing
group op.SetIndex = Accessing
group op.DelIndex = Accessing
group op.Slice = Accessing
group op.Iter = Accessing
group op.Next = Accessing
group op.In = Containing
group op.Func = Calling
group op.Call = Calling
group op.CallX = Calling

-- what an operation does that calls nothing; a row that isn't there yet is the stop Unbuilt
abbrev pub row_of : Group → Op → World → List Value → Doing
row_of Names o w args = names o w args
row_of Spaces o w args = spaces o w args
row_of Making o w args = sequence_row o w.heap args
row_of Mapping o w args = dict_row o w.heap args
row_of Classing o w args = attribute_row o w.codes w.heap args
row_of Operators o w args = by_family o w.heap args
row_of Comparing o w args = ends (other_row o w.heap args)
row_of Testing o w args = truth_of (family_at_first w.heap args) o w.heap args
row_of Accessing o w args = family_row (family_at_first w.heap args) o w.heap args
row_of Containing o w args = family_row (family_at_second w.heap args) o w.heap args
row_of Calling o w args = nothing

-- a built-in of a family is called
abbrev pub builtin_call : Family → List Header → List Object → List ℕ → Value → List Value → NameList → Doing
builtin_call family.Classes headers h name receiver args names = class_call h name receiver args names
builtin_call family.Dicts headers h name receiver args names = dict_call h name receiver args names
builtin_call family.Sequences headers h name receiver args names = sequence_call h name receiver args names
builtin_call family.Texts headers h name receiver args names = text_builtin headers h name receiver args names
builtin_call family.Integers headers h name receiver args names = nothing

abbrev pub builtin_called : Family → List Header → List Object → Option Object → List Value → NameList → Doing
builtin_called f headers h o args names = builtin_call f headers h (builtin_name o) (builtin_receiver o) args names

abbrev pub routed : Route → Op → World → List Value → Doing
routed (Operation p) o w args = row_of (group p) p w (given_args o w.heap args)
routed (BuiltIn f) o w args = builtin_called f w.codes w.heap (object_of w.heap (callee args)) (given_args o w.heap args) (given_names o w.heap args)
routed Itself o w args = call_row o w.codes w.heap args

abbrev pub calling : Op → World → List Value → Doing
calling op.Func w args = call_row op.Func w.codes w.heap args
calling op.Call w (f ∷ args) = routed (route op.Call w.heap (f ∷ args)) op.Call w (f ∷ args)
calling op.CallX w (f ∷ list ∷ dict ∷ []) = routed (route op.CallX w.heap (f ∷ list ∷ dict ∷ [])) op.CallX w (f ∷ list ∷ dict ∷ [])
calling o w args = nothing

abbrev pub doing_of : Group → Op → World → List Value → Doing
doing_of Calling o w args = calling o w args
doing_of g o w args = row_of g o w args

-- what an operation does
abbrev pub doing : Op → World → List Value → Doing
doing o w args = doing_of (group o) o w args

-- and a function that it asks is bound
abbrev pub row : Op → World → List Value → Answer
row o w args = bound w (answer w (doing o w args))
