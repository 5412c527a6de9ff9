-- Every row uses only what it is given, what it finds there and what it makes.
use Rattle.std.proofs.Common.{ℕ, List, [], ◌∷◌, Option, Some, None, lit<, inr}
use Rattle.std.specs.Prelude.{slice_get}
use Rattle.nu_value.specs.declared.object.Object.{Object}
use Rattle.nu_value.specs.declared.object.Object.TheVariants as object
use Rattle.nu_value.specs.declared.value.Value.{Value}
use Rattle.nu_value.specs.declared.value.Value.TheVariants as value
use Rattle.nu_value.specs.Names.{NameList, value_at}
use Rattle.nu_value.specs.Same.{object_of}
use Rattle.op_forms.specs.declared.end.After.{After}
use Rattle.op_forms.specs.declared.end.After.TheVariants as behind
use Rattle.op_forms.specs.declared.end.OpEnd.{OpEnd}
use Rattle.op_forms.specs.declared.op.Op.{Op}
use Rattle.op_forms.specs.declared.op.Op.TheVariants as op
use Rattle.op_forms.specs.declared.world.World.{World}
use Rattle.op_forms.specs.Answers.{names_of}
use Rattle.op_forms.specs.Doing.{Bind, Unbind, Hold, ends}
use Rattle.op_forms.specs.Parts.{NamesOf, ValueOf, OrUnset}
use Rattle.op_forms.specs.Right.{Claim, Known, Closed, Given, AfterOf, EndOf, Right}
use Rattle.op_forms.proofs.Bindings.{value_of}
use Rattle.op_rules.specs.declared.family.Family.{Family}
use Rattle.op_rules.specs.declared.family.Family.TheVariants as family
use Rattle.op_rules.specs.Finish.{tuple_after, finishing}
use Rattle.op_rules.specs.NameRows.{no_local, no_free, value_or, global_row, without_at, set_or, local_row, content, content_of, cellset_row, empties, spaceget_row, spaceset_row, spacedel_row, native_row, names, spaces}
use Rattle.op_rules.specs.declared.callees.Route.{Route}
use Rattle.op_rules.specs.declared.callees.Route.TheVariants.{Operation, BuiltIn, Itself}
use Rattle.op_rules.specs.Calls.{callee, given_args, given_names, call_row}
use Rattle.op_rules.specs.Families.{family_of, family_at_first, family_at_second}
use Rattle.op_rules.specs.Routes.{route, builtin_name, builtin_receiver}
use Rattle.op_rules.specs.Table.{family_row, truth_of, Group, Names, Spaces, Making, Mapping, Classing, Operators, Comparing, Testing, Accessing, Containing, Calling, group, row_of, builtin_call, routed, calling, doing_of}
use Rattle.op_rules.proofs.Access.{other_right}
use Rattle.op_rules.proofs.Calls.{Arguments, called_right, func_right}
use Rattle.op_rules.proofs.Classes.{class_right, attributes_right, class_call_right}
use Rattle.op_rules.proofs.Dicts.{dict_right, dict_call_right}
use Rattle.op_rules.proofs.Routes.{RouteOf, callee_known, arguments_known, callee_listed, arguments_listed, route_right, receiver_known}
use Rattle.op_rules.proofs.Sequences.{sequence_right, sequence_call_right}
use Rattle.op_rules.proofs.TextAccess.{text_right}
use Rattle.op_rules.proofs.TextCalls.{text_builtin_right}
use Rattle.op_rules.proofs.TextPlain.{join_after_plain}
use Rattle.op_rules.proofs.Plain.{plain_right}
use Rattle.op_rules.proofs.Begun.{value_end}
use Rattle.op_rules.proofs.Usual.{ended, fails, failed, idle, change_right, made_right}

module _ (c : Claim) (w : World) (k : Closed c w) where
  -- ---- names

  value_right : (v : Option Value) (e : OpEnd) → ValueOf c.of v → EndOf c w e → EndOf c w (value_or v e)
  value_right None e p q = q
  value_right (Some v) e p q = p

  names_at : (n : ℕ) (o : Option Object) → Known c w n o → NamesOf c.of (names_of o)
  names_at n (Some (object.Space names)) p = p.parts
  names_at n o p = tt

  looked_up : (n : ℕ) (name : List ℕ) → ValueOf c.of (value_at (names_of (slice_get w.heap n)) name)
  looked_up n name = value_of c.of (names_of (slice_get w.heap n)) name (names_at n (slice_get w.heap n) (k.objects n))

  global_end : (name : List ℕ) → EndOf c w (global_row w name)
  global_end name =
      value_right _ _ (looked_up w.«module» name) (value_right _ _ (looked_up w.builtins name) (fails c w k 30 _ (lit< tt)))

  global_right : (name : List ℕ) → Right c w (ends (global_row w name))
  global_right name = ended c w k (global_row w name) (global_end name)

  without_right : (n : ℕ) (name : List ℕ) (v : Option Value) → Right c w (without_at n name v)
  without_right n name None = failed c w k 30 _ (lit< tt)
  without_right n name (Some v) = change_right c w k n (Unbind name) (tt, inr tt)

  set_right : (other : OpEnd) (v : Value) → OrUnset c.of v → EndOf c w other → EndOf c w (set_or other v)
  set_right other value.Unset p q = q
  set_right other v p q = p

  local_right : (v : Value) (name : List ℕ) → OrUnset c.of v → Right c w (ends (local_row v name))
  local_right v name p = ended c w k (local_row v name) (set_right (no_local name) v p (fails c w k 31 _ (lit< tt)))

  held_at : (n : ℕ) (o : Option Object) → Known c w n o → OrUnset c.of (content o)
  held_at n (Some (object.Cell v)) p = p.parts
  held_at n o p = tt

  held_right : (cell : Value) → OrUnset c.of (content_of w.heap cell)
  held_right (value.Obj n) = held_at n (slice_get w.heap n) (k.objects n)
  held_right cell = tt

  get_right : (other : OpEnd) (cell : Value) → EndOf c w other → Right c w (ends (set_or other (content_of w.heap cell)))
  get_right other cell q = ended c w k _ (set_right other (content_of w.heap cell) (held_right cell) q)

  cellset_right : (cell v : Value) → OrUnset c.of v → Right c w (cellset_row cell v)
  cellset_right (value.Obj n) v p = change_right c w k n (Hold v) (p, inr tt)
  cellset_right cell v p = idle c w k

  emptied_right : (cell : Value) (other : OpEnd) (v : Value) → EndOf c w other → Right c w (empties cell other v)
  emptied_right cell other value.Unset q = ended c w k other q
  emptied_right cell other v q = cellset_right cell value.Unset tt

  space_right : (space : Value) (name : List ℕ) → ValueOf c.of (value_at (names_of (object_of w.heap space)) name)
  space_right (value.Obj n) name = looked_up n name
  space_right value.Unset name = tt
  space_right value.None name = tt
  space_right (value.Bool b) name = tt
  space_right (value.Int z) name = tt
  space_right (value.Str text) name = tt

  spaceset_right : (space : Value) (name : List ℕ) (v : Value) → c.of v → Right c w (spaceset_row space name v)
  spaceset_right (value.Obj n) name v p = change_right c w k n (Bind name v) (p, inr tt)
  spaceset_right space name v p = idle c w k

  spacedel_right : (space : Value) (name : List ℕ) → Right c w (spacedel_row w.heap space name)
  spacedel_right (value.Obj n) name = without_right n name (value_at (names_of (slice_get w.heap n)) name)
  spacedel_right space name = idle c w k

  set_of : (v : Value) → c.of v → OrUnset c.of v
  set_of value.Unset p = tt
  set_of v p = p

  names_right : (o : Op) (args : List Value) → Given c o args → Right c w (names o w args)
  names_right op.Global (value.Str name ∷ []) q = global_right name
  names_right op.SetGlobal (value.Str name ∷ v ∷ []) q = change_right c w k w.«module» (Bind name v) (q.1.0, inr tt)
  names_right op.DelGlobal (value.Str name ∷ []) q = without_right w.«module» name (value_at (names_of (slice_get w.heap w.«module»)) name)
  names_right op.Local (v ∷ value.Str name ∷ []) q = local_right v name q.0
  names_right op.Cell [] q = made_right c w k (object.Cell value.Unset) (tt, tt, tt)
  names_right op.CellSet (cell ∷ v ∷ []) q = cellset_right cell v (set_of v q.1.0)
  names_right op.CellGet (cell ∷ value.Str name ∷ []) q = get_right (no_local name) cell (fails c w k 31 _ (lit< tt))
  names_right op.CellDel (cell ∷ value.Str name ∷ []) q = emptied_right cell (no_local name) (content_of w.heap cell) (fails c w k 31 _ (lit< tt))
  names_right op.FreeGet (cell ∷ value.Str name ∷ []) q = get_right (no_free name) cell (fails c w k 30 _ (lit< tt))
  names_right op.FreeDel (cell ∷ value.Str name ∷ []) q = emptied_right cell (no_free name) (content_of w.heap cell) (fails c w k 30 _ (lit< tt))
  names_right o args q = idle c w k

  spaces_right : (o : Op) (args : List Value) → Given c o args → Right c w (spaces o w args)
  spaces_right op.Space [] q = made_right c w k (object.Space []) (tt, tt, tt)
  spaces_right op.SpaceGet (space ∷ value.Str name ∷ []) q = ended c w k (spaceget_row w space name) (value_right _ _ (space_right space name) (global_end name))
  spaces_right op.SpaceSet (space ∷ value.Str name ∷ v ∷ []) q = spaceset_right space name v q.1.1.0
  spaces_right op.SpaceDel (space ∷ value.Str name ∷ []) q = spacedel_right space name
  spaces_right op.Native (value.Str name ∷ []) q = ended c w k (native_row w name) (value_right _ _ (looked_up w.builtins name) tt)
  spaces_right o args q = idle c w k

  -- ---- families

  family_right : (f : Family) (o : Op) (args : List Value) → Given c o args → Right c w (family_row f o w.heap args)
  family_right family.Classes o args q = class_right c w k o args q
  family_right family.Dicts o args q = dict_right c w k o args q
  family_right family.Sequences o args q = sequence_right c w k o args q
  family_right family.Texts o args q = text_right c w k o args q
  family_right family.Integers o args q = other_right c w k o args q

  truth_right : (f : Family) (o : Op) (args : List Value) → Given c o args → Right c w (truth_of f o w.heap args)
  truth_right family.Classes o args q = class_right c w k o args q
  truth_right f o args q = other_right c w k o args q

  -- ---- the table

  row_right : (g : Group) (o : Op) (args : List Value) → Given c o args → Right c w (row_of g o w args)
  row_right Names o args q = names_right o args q
  row_right Spaces o args q = spaces_right o args q
  row_right Making o args q = sequence_right c w k o args q
  row_right Mapping o args q = dict_right c w k o args q
  row_right Classing o args q = attributes_right c w k o args q
  row_right Operators o args q = family_right (family_of w.heap args) o args q
  row_right Comparing o args q = other_right c w k o args q
  row_right Testing o args q = truth_right (family_at_first w.heap args) o args q
  row_right Accessing o args q = family_right (family_at_first w.heap args) o args q
  row_right Containing o args q = family_right (family_at_second w.heap args) o args q
  row_right Calling o args q = idle c w k

  -- ---- calls

  builtin_right : (f : Family) (name : List ℕ) (receiver : Value) (args : List Value) (names : NameList) → OrUnset c.of receiver → Arguments c w k args names → Right c w (builtin_call f w.codes w.heap name receiver args names)
  builtin_right family.Classes name receiver args names p x = class_call_right c w k name receiver args names p x.values x.keywords x.distinct
  builtin_right family.Dicts name receiver args names p x = dict_call_right c w k name receiver args names p x.values x.keywords x.distinct
  builtin_right family.Sequences name receiver args names p x = sequence_call_right c w k name receiver args names p x.values x.keywords x.distinct
  builtin_right family.Texts name receiver args names p x = text_builtin_right c w k name receiver args names p x.values x.keywords x.distinct
  builtin_right family.Integers name receiver args names p x = idle c w k

  routed_right : (r : Route) (o : Op) (args : List Value) → RouteOf c w k r (given_args o w.heap args) → Arguments c w k (given_args o w.heap args) (given_names o w.heap args) → Right c w (call_row o w.codes w.heap args) → Right c w (routed r o w args)
  routed_right (Operation p) o args q x y = row_right (group p) p (given_args o w.heap args) q
  routed_right (BuiltIn f) o args q x y =
      builtin_right f (builtin_name (object_of w.heap (callee args))) (builtin_receiver (object_of w.heap (callee args))) _ _ (receiver_known c w k (callee args)) x
  routed_right Itself o args q x y = y

  calling_right : (o : Op) (args : List Value) → Given c o args → Right c w (calling o w args)
  calling_right op.Func args q = func_right c w k args q
  calling_right op.Call (f ∷ vs) q =
      let args : List Value = f ∷ vs in
      let x : Arguments c w k vs [] = arguments_known c w k f vs q in
      routed_right (route op.Call w.heap args) op.Call args (route_right c w k op.Call args x.values) x
      (called_right c w k f vs [] (callee_known c w k f vs q) x)
  calling_right op.CallX (f ∷ list ∷ dict ∷ []) q =
      let args : List Value = f ∷ list ∷ dict ∷ [] in
      let x : Arguments c w k (given_args op.CallX w.heap args) (given_names op.CallX w.heap args) = arguments_listed c w k f list dict in
      routed_right (route op.CallX w.heap args) op.CallX args (route_right c w k op.CallX args x.values) x
      (called_right c w k f _ _ (callee_listed c w k f list dict q) x)
  calling_right o args q = idle c w k

  pub doing_right : (g : Group) (o : Op) (args : List Value) → Given c o args → Right c w (doing_of g o w args)
  doing_right Calling o args q = calling_right o args q
  doing_right g o args q = row_right g o args q

  -- ---- the values of asked functions

  tuple_after_right : (n : ℕ) (o : Option Object) → Known c w n o → Right c w (tuple_after w.heap o)
  tuple_after_right n (Some (object.List items)) p = made_right c w k (object.Tuple items) (p.parts, tt, tt)
  tuple_after_right n o p = idle c w k

  value_tuple_right : (v : Value) → Right c w (tuple_after w.heap (object_of w.heap v))
  value_tuple_right (value.Obj n) = tuple_after_right n (slice_get w.heap n) (k.objects n)
  value_tuple_right v = idle c w k

  pub finishing_right : (a : After) (v : Value) → AfterOf c w a → c.of v → Right c w (finishing a w.heap v)
  finishing_right behind.Plain v p q = ended c w k _ (value_end c w k behind.Plain v p q)
  finishing_right behind.Truth v p q = ended c w k _ (value_end c w k behind.Truth v p q)
  finishing_right behind.Some v p q = ended c w k _ (value_end c w k behind.Some v p q)
  finishing_right behind.Length v p q = ended c w k _ (value_end c w k behind.Length v p q)
  finishing_right (behind.Made made) v p q = ended c w k _ (value_end c w k (behind.Made made) v p q)
  finishing_right (behind.Join text) v p q = plain_right c w k _ (join_after_plain text (object_of w.heap v))
  finishing_right behind.Tuple v p q = value_tuple_right v
  finishing_right (behind.Report exception) v p q = idle c w k
