-- Calls of values, and functions that are made (reference, sections 6.3.4 and 8.7).
use Rattle.std.specs.Prelude.{ℕ, ℤ, pos, negsuc, List, [], ◌∷◌, Option, Some, None, Bool, true, ◌&&◌, not, codes, if◌then◌else◌, nat_lt, length, slice_get}
use Rattle.nu_value.specs.declared.header.Header.{Header}
use Rattle.nu_value.specs.declared.value.Value.{Value}
use Rattle.nu_value.specs.declared.value.Value.TheVariants as value
use Rattle.nu_value.specs.declared.object.Object.{Object}
use Rattle.nu_value.specs.declared.object.Object.TheVariants as object
use Rattle.nu_value.specs.Names.{NameList, with_name}
use Rattle.nu_value.specs.Pairs.{PairList}
use Rattle.nu_value.specs.Same.{number_of, object_of}
use Rattle.op_forms.specs.declared.end.After.TheVariants as behind
use Rattle.op_forms.specs.declared.end.OpEnd.{OpEnd}
use Rattle.op_forms.specs.declared.end.OpEnd.TheVariants as opend
use Rattle.op_forms.specs.declared.op.Op.{Op}
use Rattle.op_forms.specs.declared.op.Op.TheVariants as op
use Rattle.op_forms.specs.Answers.{unbuilt}
use Rattle.op_forms.specs.Doing.{Doing, nothing, ends, makes}
use Rattle.op_forms.specs.Fits.{is_cell}
use Rattle.op_rules.specs.declared.callees.Method.{Method}
use Rattle.op_rules.specs.declared.callees.Method.TheVariants as method
use Rattle.op_rules.specs.Construction.{method_in, is_exception_class, construct, native_class, not_callable}
use Rattle.op_rules.specs.NativeCalls.{native_called}

-- What is called, and with what

abbrev pub keyword_into : Value → Value → NameList → NameList
keyword_into (value.Str name) v names = with_name names name v
keyword_into other v names = names

-- the keywords of a dict, behind others
abbrev pub keywords_of : PairList → NameList → NameList
keywords_of [] names = names
keywords_of (p ∷ ps) names = keywords_of ps (keyword_into p.1 p.2 names)

abbrev pub items_at : Option Object → List Value
items_at (Some (object.List items)) = items
items_at other = []

abbrev pub keywords_at : Option Object → NameList
keywords_at (Some (object.Dict pairs)) = keywords_of pairs []
keywords_at other = []

abbrev pub callee : List Value → Value
callee [] = value.Unset
callee (f ∷ vs) = f

-- behind what is called stand the arguments, or a list of them and a dict of keywords
abbrev pub given_args : Op → List Object → List Value → List Value
given_args op.Call h (f ∷ args) = args
given_args op.CallX h (f ∷ list ∷ dict ∷ []) = items_at (object_of h list)
given_args o h args = []

abbrev pub given_names : Op → List Object → List Value → NameList
given_names op.CallX h (f ∷ list ∷ dict ∷ []) = keywords_at (object_of h dict)
given_names o h args = []

-- Calls

abbrev pub asks_function : ℕ → List Value → NameList → OpEnd
asks_function f args names = opend.Ask f args names behind.Plain

abbrev pub call_class : List Object → ℕ → Bool → List Value → NameList → Doing
call_class h c native args names =
    if native && not (is_exception_class h c) then native_class h c args names else construct h c args names

-- an instance by its class's `__call__`
abbrev pub call_by : List Object → Method → ℕ → List Value → NameList → OpEnd
call_by h method.Absent n args names = not_callable h (value.Obj n)
call_by h (method.Function f) n args names = asks_function f (value.Obj n ∷ args) names
call_by h method.Native n args names = unbuilt
call_by h method.Other n args names = unbuilt

abbrev pub call_builtin : List Object → List ℕ → Value → List Value → NameList → OpEnd
call_builtin h name value.Unset args names = native_called h name args names
call_builtin h name receiver args names = unbuilt

abbrev pub call_object : List Object → ℕ → List Value → NameList → Option Object → Doing
call_object h n args names (Some (object.Function code defaults keywords cells)) = ends (asks_function n args names)
call_object h n args names (Some (object.Method receiver function)) = ends (asks_function function (receiver ∷ args) names)
call_object h n args names (Some (object.Class name base own native)) = call_class h n native args names
call_object h n args names (Some (object.Instance class fields)) = ends (call_by h (method_in h class (codes "__call__")) n args names)
call_object h n args names (Some (object.Builtin name receiver)) = ends (call_builtin h name receiver args names)
call_object h n args names other = ends (not_callable h (value.Obj n))

abbrev pub call_value : List Object → Value → List Value → NameList → Doing
call_value h (value.Obj n) args names = call_object h n args names (slice_get h n)
call_value h f args names = ends (not_callable h f)

-- Functions that are made

abbrev pub are_cells : List Object → List Value → Bool
are_cells h [] = true
are_cells h (v ∷ vs) = is_cell (object_of h v) && are_cells h vs

-- the code that has a number
abbrev pub code_of : List Header → ℤ → Option ℕ
code_of headers (pos code) = if nat_lt code (length headers) then Some code else None
code_of headers (negsuc n) = None

abbrev pub func_made : List Object → Option ℕ → List Value → PairList → List Value → Doing
func_made h None items pairs cells = nothing
func_made h (Some code) items pairs cells =
    if are_cells h cells then makes h (object.Function code items (keywords_of pairs []) cells) else nothing

-- of the code of a number, its defaults and its cells
abbrev pub func_by : List Header → List Object → Option ℤ → Option Object → Option Object → List Value → Doing
func_by headers h (Some code) (Some (object.Tuple items)) (Some (object.Dict pairs)) cells = func_made h (code_of headers code) items pairs cells
func_by headers h code defaults keywords cells = nothing

abbrev pub func_row : List Header → List Object → List Value → Doing
func_row headers h (code ∷ defaults ∷ keywords ∷ cells) = func_by headers h (number_of code) (object_of h defaults) (object_of h keywords) cells
func_row headers h other = nothing

abbrev pub callx_row : List Object → Value → Value → Value → Doing
callx_row h f list dict = call_value h f (items_at (object_of h list)) (keywords_at (object_of h dict))

-- the calls and functions that no family of values has
abbrev pub call_row : Op → List Header → List Object → List Value → Doing
call_row op.Func headers h args = func_row headers h args
call_row op.Call headers h (f ∷ args) = call_value h f args []
call_row op.CallX headers h (f ∷ list ∷ dict ∷ []) = callx_row h f list dict
call_row o headers h args = nothing
