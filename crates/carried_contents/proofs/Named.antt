-- Names and text constants in statements are the scope's own.
use Rattle.std.proofs.Common.{◌≡◌, ℕ, zero, suc, ◌+◌, ◌-◌, Bool, true, false, not, ◌&&◌, if◌then◌else◌, List, [], ◌∷◌, ◌++◌, map, Option, Some, None, codes, refl, sym, ap, subst, arith}
use Rattle.std.specs.List.{AllByRecursion}
use Rattle.nu_value.specs.declared.value.Value.{Value}
use Rattle.nu_value.specs.declared.value.Value.TheVariants as value_is
use Rattle.op_forms.specs.declared.constant.Const.{Const}
use Rattle.op_forms.specs.declared.constant.Const.TheVariants as const
use Rattle.op_forms.specs.declared.op.Op.{Op}
use Rattle.op_forms.specs.declared.op.Op.TheVariants as op
use Rattle.op_forms.specs.declared.signature.ArgumentKind.{ArgumentKind}
use Rattle.op_forms.specs.Signature.{arguments as kinds_of}
use Rattle.code_forms.specs.declared.operand.Argument.{Argument}
use Rattle.code_forms.specs.declared.operand.Argument.TheVariants as argument
use Rattle.code_forms.specs.declared.operand.Operand.{Operand}
use Rattle.code_forms.specs.declared.operand.Operand.TheVariants as operand
use Rattle.code_forms.specs.Contents.{operand_constants, arguments_constants}
use Rattle.node_tree.specs.Blocks.{alone, puts, of_temp}
use Rattle.node_tree.specs.Blocks as tree
use Rattle.node_tree.specs.Contents.{form_total, form_operations, form_constants}
use Rattle.node_tree.proofs.Direct.{total_append}
use Rattle.node_redirect.specs.Redirect.{redirect_form, redirect, leaves, leaves_by, outward}
use Rattle.py_meaning.specs.Texts.{written}
use Rattle.carries_base.specs.Carries.{Carrier, joined}
use Rattle.carried_codes.specs.Operations.{is_name, argument_of, given, is_call, called, does}
use Rattle.carried_codes.specs.Constants.{const_of}
use Rattle.carries_base.specs.Frames.{Homes, local_at, behind}
use Rattle.carries_base.specs.Laws.{if_block, while_block}
use Rattle.carries_names.specs.Begun.{unset_block, filled_block, cells_block}
use Rattle.carries_values.specs.Parts.{into, moved}
use Rattle.carries_values.specs.Choices.{Linked, junction_block, compared_block, links_block}
use Rattle.carries_values.specs.Displays.{Item, Entry, fill_block, enter_block, tuple_block}
use Rattle.carries_values.specs.Displays as displays
use Rattle.carries_values.specs.Calls.{Passed, keywords_block, pass_block}
use Rattle.carries_values.specs.Calls as calls
use Rattle.carries_control.specs.Raises.{raise_block, stopped_block, assert_block}
use Rattle.carries_control.specs.Loops.{for_turn_block, for_block}
use Rattle.carries_control.specs.Finish.{guarded_block, finally_block, with_block}
use Rattle.carries_targets.specs.Places.{Taker}
use Rattle.carries_targets.specs.Targets.{items_block}
use Rattle.carries_targets.specs.Augments.{operated_block}
use Rattle.carries_definitions.specs.Delegated.{delegate_block}
use Rattle.carries_definitions.specs.Told.{resumed_block, sent_block, closed_block, threw_block, thrown_block}
use Rattle.carries_definitions.specs.Collected.{over_block}
use Rattle.py_meaning.specs.Syntax as syntax
use Rattle.py_meaning.specs.Texts as texts
use Rattle.carried_codes.specs.Parts.{Named, Decorator}
use Rattle.carried_codes.specs.Seats.{Seat, Local, Own, Free, Module, Space, seat, reads, stores, unbinds}
use Rattle.carried_codes.specs.Expressions.{puts as puts_all, function_block, decorated_at, decorated_block, class_block}
use Rattle.carried_codes.specs.Places.{Place, Name, Attribute, Index, Each, Starred, Nothing, Places, NoPlace, Also, count, assign_name, assign_attribute, assign_index, assign_each, assign_starred, assign, takes, assign_all, delete_name, delete_attribute, delete_index, delete, delete_all, augment_name, augment_attribute, augment_index, augment}
use Rattle.carried_codes.specs.Clauses.{Bound, Clause, Bare, Class, Guard, Any, Only, name_clause, clause_body, guard, guards, handle, handles, try_block_of, try_except}
use Rattle.py_ast.specs.declared.scoped.NameHome.{NameHome}
use Rattle.carried_codes.specs.Expressions.{name, operate, both as either, choose, chain, starred, dict, call, function, comprehension, yield_value, delegate, decorate, make_class}
use Rattle.carried_codes.specs.Statements.{return_value, raise_value, raise_again, assert_that, branch, while_loop, for_loop, try_finally, with_item, push, put, emit, filter, over, gather}
use Rattle.carried_codes.specs.Nodes.{value, values, links, items, entries, arguments, keywords, cells_at, place, all_places, bind, bind_all, decorators, bound, statement, block, except, element, turns, first_loop, collect, body, homes_of, code_nodes}
use Rattle.std.specs.Prelude.{slice_get}
use Rattle.carried_contents.specs.Laws.{CodesAreNamed}
use Rattle.carried_contents.specs.Naming.{names_fit, text_fits, other_names, other_texts}

pub halves : (P : List ℕ → Type 0) (xs ys : List (List ℕ)) → AllByRecursion P (xs ++ ys) → AllByRecursion P xs × AllByRecursion P ys
halves P [] ys p = (tt, p)
halves P (x ∷ xs) ys p = let r = halves P xs ys p.1 in ((p.0, r.0), r.1)

module _ (fits : List ℕ → Bool) where
  abbrev Fit : List ℕ → Type 0
  Fit text = fits text ≡ true

  abbrev AllFit : List (List ℕ) → Type 0
  AllFit texts = AllByRecursion Fit texts

  two : (xs ys : List (List ℕ)) → AllFit (xs ++ ys) → AllFit xs × AllFit ys
  two xs ys p = halves Fit xs ys p

  three : (xs ys zs : List (List ℕ)) → AllFit (xs ++ ys ++ zs) → AllFit xs × AllFit ys × AllFit zs
  three xs ys zs p = let a = two (xs ++ ys) zs p in let b = two xs ys a.0 in (b.0, b.1, a.1)

  four : (xs ys zs vs : List (List ℕ)) → AllFit (xs ++ ys ++ zs ++ vs) → AllFit xs × AllFit ys × AllFit zs × AllFit vs
  four xs ys zs vs p = let a = two (xs ++ ys ++ zs) vs p in let b = three xs ys zs a.0 in (b.0, b.1, b.2, a.1)

  abbrev misnames : Op → List Argument → Bool
  misnames o args = not (names_fit fits args)

  abbrev mistexts : Const → Bool
  mistexts c = not (text_fits fits c)

  record Held (x : tree.Form) : Type 0 where
    names : form_total (form_operations misnames) x ≡ 0
    texts : form_total (form_constants mistexts) x ≡ 0

  record Fine (b : tree.Block) : Type 0 where
    names : other_names fits b ≡ 0
    texts : other_texts fits b ≡ 0

  stop : Fine tree.Stop
  stop = record { names = refl; texts = refl }

  done : {x : tree.Form} → form_total (form_operations misnames) x ≡ 0 → form_total (form_constants mistexts) x ≡ 0 → Held x
  done n t = record { names = n; texts = t }

  clear : {b : tree.Block} → other_names fits b ≡ 0 → other_texts fits b ≡ 0 → Fine b
  clear n t = record { names = n; texts = t }

  follow : {x : tree.Form} {r : tree.Block} → Held x → Fine r → Fine (tree.Follow x r)
  follow h t =
      let a = h.names in let b = t.names in let c = h.texts in let d = t.texts in
      record { names = omega (arith, a, b); texts = omega (arith, c, d) }

  one : {x : tree.Form} → Held x → Fine (alone x)
  one h = follow h stop

  both : {b c : tree.Block} → Fine b → Fine c → Fine (tree.append b c)
  both {b} {c} p q =
      let e = total_append (form_operations misnames) b c in let f = total_append (form_constants mistexts) b c in
      let x = p.names in let y = q.names in let z = p.texts in let w = q.texts in
      record { names = omega (arith, e, x, y); texts = omega (arith, f, z, w) }

  choice : {t : ℕ} {y n : tree.Block} → Fine y → Fine n → Held (tree.If (operand.Temp t) y n)
  choice p q =
      let x = p.names in let y = q.names in let z = p.texts in let w = q.texts in
      record { names = omega (arith, x, y); texts = omega (arith, z, w) }

  loop : {b : tree.Block} → Fine b → Held (tree.Loop b)
  loop p = let x = p.names in let z = p.texts in record { names = omega (arith, x); texts = omega (arith, z) }

  catch : {to : ℕ} {b c : tree.Block} → Fine b → Fine c → Held (tree.Catch to b c)
  catch p q =
      let x = p.names in let y = q.names in let z = p.texts in let w = q.texts in
      record { names = omega (arith, x, y); texts = omega (arith, z, w) }

  -- Operands and arguments

  abbrev ConstFits : Const → Type 0
  ConstFits (const.Str text) = Fit text
  ConstFits other = Unit {0}

  abbrev OperandFits : Operand → Type 0
  OperandFits (operand.Temp t) = Unit {0}
  OperandFits (operand.Const c) = ConstFits c

  abbrev ArgumentFits : Argument → Type 0
  ArgumentFits (argument.Value a) = OperandFits a
  ArgumentFits (argument.Name name) = Fit name

  abbrev unless : Bool → ℕ
  unless b = if not b then 1 else 0

  const_none : (c : Const) → ConstFits c → unless (text_fits fits c) ≡ 0
  const_none (const.Str text) p = ap unless p
  const_none const.None p = refl
  const_none (const.Bool b) p = refl
  const_none (const.Int z) p = refl

  operand_none : (a : Operand) → OperandFits a → operand_constants mistexts a ≡ 0
  operand_none (operand.Temp t) p = refl
  operand_none (operand.Const c) p = const_none c p

  arguments_none : (args : List Argument) → AllByRecursion ArgumentFits args → arguments_constants mistexts args ≡ 0
  arguments_none [] p = refl
  arguments_none (argument.Value a ∷ args) p = let e = operand_none a p.0 in let f = arguments_none args p.1 in omega (arith, e, f)
  arguments_none (argument.Name name ∷ args) p = let f = arguments_none args p.1 in omega (arith, f)

  and_true : (a b : Bool) → a ≡ true → b ≡ true → (a && b) ≡ true
  and_true true b p q = q
  and_true false b p q = cc

  names_true : (args : List Argument) → AllByRecursion ArgumentFits args → names_fit fits args ≡ true
  names_true [] p = refl
  names_true (argument.Value a ∷ args) p = names_true args p.1
  names_true (argument.Name name ∷ args) p = and_true _ _ p.0 (names_true args p.1)

  -- an operation whose arguments fit
  did : {to line : ℕ} {o : Op} {args : List Argument} → AllByRecursion ArgumentFits args → Held (tree.Do to line o args)
  did {to} {line} {o} {args} p = done (ap unless (names_true args p)) (arguments_none args p)

  stored : (to : ℕ) (a : Operand) → OperandFits a → Held (puts to a)
  stored to (operand.Temp t) p = done refl refl
  stored to (operand.Const c) p = done refl (const_none c p)

  returns : {a : Operand} → OperandFits a → Held (tree.Return a)
  returns {a} p = done refl (operand_none a p)

  yields : {to line : ℕ} {a : Operand} → OperandFits a → Held (tree.Yield to line a)
  yields {to} {line} {a} p = done refl (operand_none a p)

  abbrev Part : Carrier → Type 0
  Part p = Fine p.block × OperandFits p.value

  abbrev AllParts : List Carrier → Type 0
  AllParts ps = AllByRecursion Part ps

  all_joined : (ps : List Carrier) (b : tree.Block) → AllParts ps → Fine b → Fine (joined ps b)
  all_joined [] b c d = d
  all_joined (p ∷ ps) b c d = both c.0.0 (all_joined ps b c.1 d)

  arguments_fit : (ps : List Carrier) → AllParts ps → AllByRecursion ArgumentFits (map (λ (p : Carrier). argument.Value p.value) ps)
  arguments_fit [] c = tt
  arguments_fit (p ∷ ps) c = (c.0.1, arguments_fit ps c.1)

  temps_fit : (cells : List ℕ) → AllByRecursion ArgumentFits (map of_temp cells)
  temps_fit [] = tt
  temps_fit (c ∷ cells) = (tt, temps_fit cells)

  abbrev operands : List Carrier → List Operand
  operands ps = map (λ (p : Carrier). p.value) ps

  operands_fit : (ps : List Carrier) → AllParts ps → AllByRecursion OperandFits (operands ps)
  operands_fit [] c = tt
  operands_fit (p ∷ ps) c = (c.0.1, operands_fit ps c.1)

  argument_fits : (b : Bool) (a : Operand) → OperandFits a → ArgumentFits (argument_of b a)
  argument_fits false a p = p
  argument_fits true (operand.Temp t) p = p
  argument_fits true (operand.Const (const.Str text)) p = p
  argument_fits true (operand.Const const.None) p = p
  argument_fits true (operand.Const (const.Bool b)) p = p
  argument_fits true (operand.Const (const.Int z)) p = p

  given_fit : (ks : List ArgumentKind) (os : List Operand) → AllByRecursion OperandFits os → AllByRecursion ArgumentFits (given ks os)
  given_fit ks [] p = tt
  given_fit [] (o ∷ os) p = (p.0, given_fit [] os p.1)
  given_fit (k ∷ ks) (o ∷ os) p = (argument_fits (is_name k) o p.0, given_fit ks os p.1)

  values_fit : (os : List Operand) → AllByRecursion OperandFits os → AllByRecursion ArgumentFits (map argument.Value os)
  values_fit [] p = tt
  values_fit (o ∷ os) p = (p.0, values_fit os p.1)

  called_held : (t line : ℕ) (os : List Operand) → AllByRecursion OperandFits os → Held (called t line os)
  called_held t line [] p = done refl refl
  called_held t line (f ∷ os) p = let args = values_fit (f ∷ os) p in done (ap unless (names_true (map argument.Value (f ∷ os)) args)) (arguments_none (map argument.Value (f ∷ os)) args)

  does_by : (b : Bool) (t line : ℕ) (o : Op) (os : List Operand) → is_call o ≡ b → AllByRecursion OperandFits os → Held (does t line o os)
  does_by true t line o os e p = subst (λ b. Held (if b then called t line os else tree.Do t line o (given (kinds_of o) os))) (sym e) (called_held t line os p)
  does_by false t line o os e p = subst (λ b. Held (if b then called t line os else tree.Do t line o (given (kinds_of o) os))) (sym e) (did (given_fit (kinds_of o) os p))

  does_held : (t line : ℕ) (o : Op) (os : List Operand) → AllByRecursion OperandFits os → Held (does t line o os)
  does_held t line o os p = does_by (is_call o) t line o os refl p

  -- Rewritten blocks

  left_by : (t d j : ℕ) (k : Option ℕ) → Held (leaves_by t d j k)
  left_by t d j None = done refl refl
  left_by t d j (Some k) = done refl refl

  left : (t d n : ℕ) → Held (leaves t d n)
  left t d zero = done refl refl
  left t d (suc j) = left_by t d j (outward d j)

  returned : (t : ℕ) (a : Operand) (d : ℕ) → Held (tree.Return a) → Held (redirect_form t (tree.Return a) d)
  returned t (operand.Temp s) d h = done refl refl
  returned t (operand.Const c) d h = let x = h.texts in done refl (omega (arith, x))

  first : {x : tree.Form} {r : tree.Block} → Fine (tree.Follow x r) → Held x
  first p = let x = p.names in let z = p.texts in done (omega (arith, x)) (omega (arith, z))

  rest_of : {x : tree.Form} {r : tree.Block} → Fine (tree.Follow x r) → Fine r
  rest_of p = let x = p.names in let z = p.texts in clear (omega (arith, x)) (omega (arith, z))

  on_true : {a : Operand} {y n : tree.Block} → Held (tree.If a y n) → Fine y
  on_true p = let x = p.names in let z = p.texts in clear (omega (arith, x)) (omega (arith, z))

  on_false : {a : Operand} {y n : tree.Block} → Held (tree.If a y n) → Fine n
  on_false p = let x = p.names in let z = p.texts in clear (omega (arith, x)) (omega (arith, z))

  again : {a : Operand} {y n v w : tree.Block} → Held (tree.If a y n) → Fine v → Fine w → Held (tree.If a v w)
  again h p q =
      let i = h.texts in let x = p.names in let y = q.names in let z = p.texts in let w = q.texts in
      done (omega (arith, x, y)) (omega (arith, i, z, w))

  looped : {b : tree.Block} → Held (tree.Loop b) → Fine b
  looped p = let x = p.names in let z = p.texts in clear (omega (arith, x)) (omega (arith, z))

  tried : {to : ℕ} {b c : tree.Block} → Held (tree.Catch to b c) → Fine b
  tried p = let x = p.names in let z = p.texts in clear (omega (arith, x)) (omega (arith, z))

  handled : {to : ℕ} {b c : tree.Block} → Held (tree.Catch to b c) → Fine c
  handled p = let x = p.names in let z = p.texts in clear (omega (arith, x)) (omega (arith, z))

  mutual
    form_redirected : (t : ℕ) (x : tree.Form) (d : ℕ) → Held x → Held (redirect_form t x d)
    form_redirected t (tree.Constant to c) d h = h
    form_redirected t (tree.Copy to from) d h = h
    form_redirected t (tree.Do to line o args) d h = h
    form_redirected t (tree.Call to line function args) d h = h
    form_redirected t (tree.Yield to line a) d h = h
    form_redirected t (tree.If a y n) d h = again h (redirected t y d (on_true h)) (redirected t n d (on_false h))
    form_redirected t (tree.Loop body) d h = loop (redirected t body (suc d) (looped h))
    form_redirected t (tree.Leave levels) d h = left t d levels
    form_redirected t (tree.Catch to body handler) d h = catch (redirected t body d (tried h)) (redirected t handler d (handled h))
    form_redirected t (tree.Return a) d h = returned t a d h
    form_redirected t (tree.Raise a) d h = h
    form_redirected t (tree.Unset to) d h = h

    redirected : (t : ℕ) (b : tree.Block) (d : ℕ) → Fine b → Fine (redirect t b d)
    redirected t tree.Stop d p = stop
    redirected t (tree.Follow x r) d p = follow (form_redirected t x d (first p)) (redirected t r d (rest_of p))

  -- Names

  abbrev SeatFits : Seat → Type 0
  SeatFits (Local at name) = Fit name
  SeatFits (Own at name) = Fit name
  SeatFits (Free at name) = Fit name
  SeatFits (Module name) = Fit name
  SeatFits (Space at name) = Fit name

  seat_fits : (h : Homes) (home : syntax.Home) → AllFit (texts.home home) → SeatFits (seat h home)
  seat_fits h (syntax.Local place name) p = p.0
  seat_fits h (syntax.Own place name) p = p.0
  seat_fits h (syntax.Free place name) p = p.0
  seat_fits h (syntax.Module name) p = p.0
  seat_fits h (syntax.InClass name) p = p.0

  reads_held : (t line : ℕ) (s : Seat) → SeatFits s → Held (reads t line s)
  reads_held t line (Local at name) n = did (tt, (n, tt))
  reads_held t line (Own at name) n = did (tt, (n, tt))
  reads_held t line (Free at name) n = did (tt, (n, tt))
  reads_held t line (Module name) n = did (n, tt)
  reads_held t line (Space at name) n = did (tt, (n, tt))

  stores_held : (t line : ℕ) (s : Seat) (o : Operand) → SeatFits s → OperandFits o → Held (stores t line s o)
  stores_held t line (Local at name) o n p = stored at o p
  stores_held t line (Own at name) o n p = did (tt, (p, tt))
  stores_held t line (Free at name) o n p = did (tt, (p, tt))
  stores_held t line (Module name) o n p = did (n, (p, tt))
  stores_held t line (Space at name) o n p = did (tt, (n, (p, tt)))

  unbinds_fine : (t line : ℕ) (s : Seat) → SeatFits s → Fine (unbinds t line s)
  unbinds_fine t line (Local at name) n = follow (did (tt, (n, tt))) (clear refl refl)
  unbinds_fine t line (Own at name) n = one (did (tt, (n, tt)))
  unbinds_fine t line (Free at name) n = one (did (tt, (n, tt)))
  unbinds_fine t line (Module name) n = one (did (n, tt))
  unbinds_fine t line (Space at name) n = one (did (tt, (n, tt)))

  -- Expressions

  into_fine : (to : ℕ) (p : Carrier) → Part p → Fine (into to p)
  into_fine to p c = both c.0 (one (stored to p.value c.1))

  if_fine : (line t : ℕ) (tb : tree.Block) (o : Operand) (bb ob : tree.Block) → Fine tb → OperandFits o → Fine bb → Fine ob → Fine (if_block line t tb o bb ob)
  if_fine line t tb o bb ob c f d e = both c (follow (did (f, tt)) (one (choice d e)))

  junction_fine : (line t : ℕ) (any : Bool) (p q : Carrier) → Part p → Part q → Fine (junction_block line t any p q)
  junction_fine line t true p q c d = if_fine line t p.block p.value (moved (t + 1) p.value) (into (t + 1) q) c.0 c.1 (one (stored (t + 1) p.value c.1)) (into_fine (t + 1) q d)
  junction_fine line t false p q c d = if_fine line t p.block p.value (into (t + 1) q) (moved (t + 1) p.value) c.0 c.1 (into_fine (t + 1) q d) (one (stored (t + 1) p.value c.1))

  compared_fine : (line t : ℕ) (o : Op) (negated : Bool) (a b : Operand) → OperandFits a → OperandFits b → Fine (compared_block line t o negated a b)
  compared_fine line t o false a b p q = one (did (p, (q, tt)))
  compared_fine line t o true a b p q = follow (did (p, (q, tt))) (one (done refl refl))

  links_fine : (line t : ℕ) (a : Operand) (xs : List Linked) → OperandFits a → AllByRecursion (λ (x : Linked). Part x.right) xs → Fine (links_block line t a xs)
  links_fine line t a [] p l = stop
  links_fine line t a (x ∷ []) p l = both l.0.0 (compared_fine line t x.op x.negated a x.right.value p l.0.1)
  links_fine line t a (x ∷ y ∷ xs) p l =
      both l.0.0 (both (compared_fine line t x.op x.negated a x.right.value p l.0.1) (follow (done refl refl) (one (choice (links_fine line t x.right.value (y ∷ xs) l.0.1 l.1) stop))))

  abbrev ItemFine : Item → Type 0
  ItemFine (displays.One p) = Part p
  ItemFine (displays.Star p) = Part p

  abbrev EntryFine : Entry → Type 0
  EntryFine (displays.Pair k p) = Part k × Part p
  EntryFine (displays.Merge p) = Part p

  abbrev PassedFine : Passed → Type 0
  PassedFine (calls.Plain p) = Part p
  PassedFine (calls.Star p) = Part p
  PassedFine (calls.Key name p) = Fit name × Part p
  PassedFine (calls.Merge p) = Part p

  fill_fine : (line t : ℕ) (items : List Item) → AllByRecursion ItemFine items → Fine (fill_block line t items)
  fill_fine line t [] c = stop
  fill_fine line t (displays.One p ∷ items) c = both c.0.0 (follow (did (tt, (c.0.1, tt))) (fill_fine line t items c.1))
  fill_fine line t (displays.Star p ∷ items) c = both c.0.0 (follow (did (tt, (c.0.1, tt))) (fill_fine line t items c.1))

  enter_fine : (line t : ℕ) (entries : List Entry) → AllByRecursion EntryFine entries → Fine (enter_block line t entries)
  enter_fine line t [] c = stop
  enter_fine line t (displays.Pair k p ∷ entries) c =
      let a = c.0.0 in let b = c.0.1 in both a.0 (both b.0 (follow (did (tt, (a.1, (b.1, tt)))) (enter_fine line t entries c.1)))
  enter_fine line t (displays.Merge p ∷ entries) c = both c.0.0 (follow (did (tt, (c.0.1, tt))) (enter_fine line t entries c.1))

  keywords_fine : (line to : ℕ) (begun : Bool) (rest : tree.Block) → Fine rest → Fine (keywords_block line to begun rest)
  keywords_fine line to true rest c = c
  keywords_fine line to false rest c = follow (done refl refl) c

  pass_fine : (line t : ℕ) (f : Operand) (begun : Bool) (ps : List Passed) → OperandFits f → AllByRecursion PassedFine ps → Fine (pass_block line t f begun ps)
  pass_fine line t f begun [] p c = keywords_fine line (t + 1) begun _ (one (did (p, (tt, (tt, tt)))))
  pass_fine line t f begun (calls.Plain x ∷ ps) p c = both c.0.0 (follow (did (tt, (c.0.1, tt))) (pass_fine line t f begun ps p c.1))
  pass_fine line t f begun (calls.Star x ∷ ps) p c = both c.0.0 (follow (did (tt, (c.0.1, tt))) (pass_fine line t f begun ps p c.1))
  pass_fine line t f begun (calls.Key name x ∷ ps) p c =
      let n = c.0.0 in let a = c.0.1 in keywords_fine line (t + 1) begun _ (both a.0 (follow (did (tt, (n, (a.1, tt)))) (pass_fine line t f true ps p c.1)))
  pass_fine line t f begun (calls.Merge x ∷ ps) p c = keywords_fine line (t + 1) begun _ (both c.0.0 (follow (did (tt, (c.0.1, tt))) (pass_fine line t f true ps p c.1)))

  abbrev NamedFine : Named → Type 0
  NamedFine n = Fit n.name × Part n.part

  named_parts : (ks : List Named) → AllByRecursion NamedFine ks → AllParts (map (λ (n : Named). n.part) ks)
  named_parts [] c = tt
  named_parts (k ∷ ks) c = (c.0.1, named_parts ks c.1)

  puts_fine : (line dict to : ℕ) (ks : List Named) → AllByRecursion NamedFine ks → Fine (puts_all line dict to ks)
  puts_fine line dict to [] c = stop
  puts_fine line dict to (k ∷ ks) c = let n = c.0.0 in let a = c.0.1 in follow (did (tt, (n, (a.1, tt)))) (puts_fine line dict (to + 1) ks c.1)

  function_fine : (line code : ℕ) (ps : List Carrier) (ks : List Named) (cells : List ℕ) (t : ℕ) → AllParts ps → AllByRecursion NamedFine ks → Fine (function_block line code ps ks cells t)
  function_fine line code ps ks cells t c d =
      follow (did (arguments_fit ps c)) (follow (done refl refl) (both (puts_fine line (t + 1) (t + 2) ks d) (one (did (tt, (tt, (tt, temps_fit cells)))))))

  at_fits : (t : ℕ) (ds : List Decorator) (o : Operand) → OperandFits o → OperandFits (decorated_at t ds o)
  at_fits t [] o p = p
  at_fits t (d ∷ ds) o p = tt

  decorated_fine : (t : ℕ) (ds : List Decorator) (o : Operand) → AllParts (map (λ (d : Decorator). d.part) ds) → OperandFits o → Fine (decorated_block t ds o)
  decorated_fine t [] o c p = stop
  decorated_fine t (d ∷ ds) o c p = both (decorated_fine t ds o c.1 p) (one (did (c.0.1, (at_fits t ds o p, tt))))

  class_fine : (line code : ℕ) (name cells : List ℕ) (base : Operand) (t : ℕ) → Fit name → OperandFits base → Fine (class_block line code name cells base t)
  class_fine line code name cells base t n p =
      follow (done refl refl) (both (function_fine line code [] [] cells (t + 1) tt tt) (follow (done refl refl) (one (did (n, (p, (tt, tt)))))))

  -- with the texts that rows write out

  record Rows : Type 0 where
    send : Fit (codes "send")
    close : Fit (codes "close")
    throw : Fit (codes "throw")
    result : Fit (codes "value")
    tuple : Fit (codes "tuple")
    stops : Fit (codes "StopIteration")
    exits : Fit (codes "GeneratorExit")
    fails : Fit (codes "AssertionError")
    enter : Fit (codes "__enter__")
    leave : Fit (codes "__exit__")

  rows_of : AllFit written → Rows
  rows_of w = record {
    send = w.1.0;
    close = w.1.1.0;
    throw = w.1.1.1.0;
    result = w.1.1.1.1.0;
    tuple = w.1.1.1.1.1.0;
    stops = w.1.1.1.1.1.1.1.0;
    exits = w.1.1.1.1.1.1.1.1.0;
    fails = w.1.1.1.1.1.1.1.1.1.0;
    enter = w.1.1.1.1.1.1.1.1.1.1.0;
    leave = w.1.1.1.1.1.1.1.1.1.1.1.0;
  }

  module _ (w : Rows) where
    stopped_fine : (line x t : ℕ) (over : tree.Block) → Fine over → Fine (stopped_block line x t over)
    stopped_fine line x t over c = follow (did (w.stops, tt)) (follow (done refl refl) (one (choice c (clear refl refl))))

    resumed_fine : (line t : ℕ) (o : Op) (args : List Argument) → Held (tree.Do (t + 1) line o args) → Fine (resumed_block line t o args)
    resumed_fine line t o args c =
        follow (done refl refl) (follow (catch (one c) (clear refl refl)) (one (choice (stopped_fine line (t + 3) (t + 5) _ (clear refl refl)) stop)))

    sent_fine : (line t : ℕ) → Fine (sent_block line t)
    sent_fine line t =
        follow (done refl refl) (one (choice (resumed_fine line t op.Next _ (done refl refl)) (follow (did (tt, (w.send, tt))) (resumed_fine line t op.Call _ (done refl refl)))))

    closed_fine : (line t : ℕ) → Fine (closed_block line t)
    closed_fine line t = follow (did (tt, (w.close, tt))) (follow (done refl refl) (one (choice (clear refl refl) (clear refl refl))))

    threw_fine : (line t : ℕ) → Fine (threw_block line t)
    threw_fine line t = follow (did (tt, (w.throw, tt))) (follow (done refl refl) (one (choice (clear refl refl) (resumed_fine line t op.Call _ (done refl refl)))))

    thrown_fine : (line t : ℕ) → Fine (thrown_block line t)
    thrown_fine line t = follow (did (w.exits, tt)) (follow (done refl refl) (one (choice (closed_fine line t) (threw_fine line t))))

    delegate_fine : (line t : ℕ) (p : Carrier) → Part p → Fine (delegate_block line t p.block p.value (sent_block line t) (thrown_block line t))
    delegate_fine line t p c =
        both c.0 (follow (did (c.1, tt)) (follow (done refl refl) (follow (done refl refl) (one (choice (stopped_fine line (t + 3) (t + 5) _ (one (did (tt, (w.result, tt)))))
        (follow (loop (follow (done refl refl) (follow (done refl refl) (one (choice (thrown_fine line t) (sent_fine line t)))))) (one (did (tt, (w.result, tt))))))))))

    tuple_fine : (line t : ℕ) → Fine (tuple_block line t)
    tuple_fine line t = follow (did (w.tuple, tt)) (clear refl refl)

    -- Targets

    abbrev mutual
      PlaceFine : Place → Type 0
      PlaceFine (Name line s) = SeatFits s
      PlaceFine (Attribute line p name) = Part p × Fit name
      PlaceFine (Index line p q) = Part p × Part q
      PlaceFine (Each line ps) = PlacesFine ps
      PlaceFine (Starred line before star behind) = PlacesFine before × PlaceFine star × PlacesFine behind
      PlaceFine Nothing = Unit {0}

      PlacesFine : Places → Type 0
      PlacesFine NoPlace = Unit {0}
      PlacesFine (Also p ps) = PlaceFine p × PlacesFine ps

    abbrev TakersFine : List Taker → Type 0
    TakersFine ps = AllByRecursion (λ (p : Taker). Fine p.block) ps

    items_fine : (line list n : ℕ) (ps : List Taker) (last : tree.Block) → TakersFine ps → Fine last → Fine (items_block line list n ps last)
    items_fine line list n [] last c d = d
    items_fine line list n (p ∷ ps) last c d = follow (done refl refl) (both c.0 (items_fine line list (n + 1) ps last c.1 d))

    mutual
      unfolding assign_name assign_attribute assign_index assign_each assign_starred

      assign_fine : (t : ℕ) (o : Operand) (p : Place) → PlaceFine p → OperandFits o → Fine (assign t o p).block
      assign_fine t o (Name line s) c f = one (stores_held t line s o c f)
      assign_fine t o (Attribute line p name) c f = let a = c.0 in both a.0 (one (did (a.1, (c.1, (f, tt)))))
      assign_fine t o (Index line p q) c f = let a = c.0 in let b = c.1 in both a.0 (both b.0 (one (did (a.1, (b.1, (f, tt))))))
      assign_fine t o (Each line ps) c f = follow (did (f, (tt, tt))) (items_fine line t 0 (takes (t + 1) ps).parts tree.Stop (takes_fine (t + 1) ps c) stop)
      assign_fine t o (Starred line before star behind) c f =
          let xs = takes (t + 1) before in let m = assign (xs.next + 1) (operand.Temp xs.next) star in let ys = takes m.next behind in
          follow (did (f, (tt, (tt, tt))))
          (items_fine line t 0 xs.parts _ (takes_fine (t + 1) before c.0)
          (items_fine line t (count before) (record { item = xs.next; block = m.block } ∷ []) _ (assign_fine (xs.next + 1) (operand.Temp xs.next) star c.1 tt, tt)
          (items_fine line t (count before + 1) ys.parts tree.Stop (takes_fine m.next behind c.2) stop)))
      assign_fine t o Nothing c f = stop

      takes_fine : (t : ℕ) (ps : Places) → PlacesFine ps → TakersFine (takes t ps).parts
      takes_fine t NoPlace c = tt
      takes_fine t (Also p ps) c = (assign_fine (t + 1) (operand.Temp t) p c.0 tt, takes_fine (assign (t + 1) (operand.Temp t) p).next ps c.1)

    assign_all_fine : (t : ℕ) (o : Operand) (ps : Places) → PlacesFine ps → OperandFits o → Fine (assign_all t o ps).block
    assign_all_fine t o NoPlace c f = stop
    assign_all_fine t o (Also p ps) c f = both (assign_fine t o p c.0 f) (assign_all_fine (assign t o p).next o ps c.1 f)

    mutual
      unfolding delete_name delete_attribute delete_index

      delete_fine : (t : ℕ) (p : Place) → PlaceFine p → Fine (delete t p).block
      delete_fine t (Name line s) c = unbinds_fine t line s c
      delete_fine t (Attribute line p name) c = let a = c.0 in both a.0 (one (did (a.1, (c.1, tt))))
      delete_fine t (Index line p q) c = let a = c.0 in let b = c.1 in both a.0 (both b.0 (one (did (a.1, (b.1, tt)))))
      delete_fine t (Each line ps) c = delete_all_fine t ps c
      delete_fine t other c = stop

      delete_all_fine : (t : ℕ) (ps : Places) → PlacesFine ps → Fine (delete_all t ps).block
      delete_all_fine t NoPlace c = stop
      delete_all_fine t (Also p ps) c = both (delete_fine t p c.0) (delete_all_fine (delete t p).next ps c.1)

    operated_fine : (line t : ℕ) (o : Op) (q : Carrier) (last : tree.Block) → Part q → Fine last → Fine (operated_block line t o q.block q.value last)
    operated_fine line t o q last c d = both c.0 (follow (did (tt, (c.1, tt))) d)

    augment_fine : (t line : ℕ) (o : Op) (p : Place) (q : Carrier) → PlaceFine p → Part q → Fine (augment t line o p q).block
    unfolding augment_name augment_attribute augment_index
    augment_fine t line o (Name at s) q c d = follow (reads_held t at s c) (operated_fine line t o q _ d (one (stores_held (t + 2) at s (operand.Temp (t + 1)) c tt)))
    augment_fine t line o (Attribute at p name) q c d =
        let a = c.0 in both a.0 (follow (did (a.1, (c.1, tt))) (operated_fine line t o q _ d (one (did (a.1, (c.1, (tt, tt)))))))
    augment_fine t line o (Index at p i) q c d =
        let a = c.0 in let b = c.1 in both a.0 (both b.0 (follow (did (a.1, (b.1, tt))) (operated_fine line t o q _ d (one (did (a.1, (b.1, (tt, tt))))))))
    augment_fine t line o other q c d = stop

    -- Statements

    while_fine : (line over t : ℕ) (p : Carrier) (bb ob : tree.Block) → Part p → Fine bb → Fine ob → Fine (while_block line over t p.block p.value bb ob)
    while_fine line over t p bb ob c d e =
        follow (done refl refl) (follow (loop (if_fine line t p.block p.value _ _ c.0 c.1 (one (loop (both d (clear refl refl)))) (clear refl refl))) (one (choice e stop)))

    raise_fine : (line t : ℕ) (o : Operand) → OperandFits o → Fine (raise_block line t o)
    raise_fine line t o f = follow (did (f, tt)) (clear refl refl)

    assert_fine : (line t : ℕ) (p : Carrier) (ps : List Carrier) → Part p → AllParts ps → Fine (assert_block line t p.block p.value ps)
    assert_fine line t p ps c d =
        if_fine line t p.block p.value _ _ c.0 c.1 stop
        (all_joined ps _ d (follow (did (w.fails, tt)) (follow (did (tt, arguments_fit ps d)) (raise_fine line (t + 1 + 2) (operand.Temp (t + 1 + 1)) tt))))

    for_turn_fine : (line t item : ℕ) (bd bb : tree.Block) → Fine bd → Fine bb → Fine (for_turn_block line t item bd bb)
    for_turn_fine line t item bd bb c d =
        follow (done refl refl) (one (choice (stopped_fine line (t + 2) (t + 3) _ (clear refl refl)) (one (loop (both (both c d) (clear refl refl))))))

    for_fine : (line t item : ℕ) (p : Carrier) (bd bb ob : tree.Block) → Part p → Fine bd → Fine bb → Fine ob → Fine (for_block line t item p.block p.value bd bb ob)
    for_fine line t item p bd bb ob c d e f =
        both c.0 (follow (did (c.1, tt)) (follow (done refl refl) (follow (loop (for_turn_fine line t item bd bb d e)) (one (choice f stop)))))

    over_fine : (line t item from : ℕ) (bd bb : tree.Block) → Fine bd → Fine bb → Fine (over_block line t item from bd bb)
    over_fine line t item from bd bb c d = follow (done refl refl) (follow (done refl refl) (follow (loop (for_turn_fine line t item bd bb c d)) (one (choice stop stop))))

    guarded_fine : (t : ℕ) (b : tree.Block) → Fine b → Fine (guarded_block t b)
    guarded_fine t b c = follow (catch (redirected t b 0 c) (clear refl refl)) (clear refl refl)

    finally_fine : (t : ℕ) (bb lb : tree.Block) → Fine bb → Fine lb → Fine (finally_block t bb lb)
    finally_fine t bb lb c d = follow (loop (guarded_fine t bb c)) (both d (clear refl refl))

    with_fine : (line t item : ℕ) (p : Carrier) (bd bb : tree.Block) → Part p → Fine bd → Fine bb → Fine (with_block line t item p.block p.value bd bb)
    with_fine line t item p bd bb c d e =
        both c.0 (follow (did (c.1, (w.enter, tt))) (follow (did (c.1, (w.leave, tt))) (follow (done refl refl) (follow (loop (guarded_fine t _ (both d e))) (clear refl refl)))))

    -- Clauses

    abbrev BoundFine : Option Bound → Type 0
    BoundFine None = Unit {0}
    BoundFine (Some b) = SeatFits b.seat

    abbrev ClauseFine : Clause → Type 0
    ClauseFine (Bare caught b) = Fine b
    ClauseFine (Class line p caught name b) = Part p × BoundFine name × Fine b

    abbrev GuardFine : Guard → Type 0
    GuardFine (Any caught b) = Fine b
    GuardFine (Only line p fits' caught b) = Part p × Fine b

    clause_fine : (caught : ℕ) (name : Option Bound) (b : tree.Block) (t : ℕ) → BoundFine name → Fine b → Fine (clause_body caught name b t).block
    unfolding name_clause
    clause_fine caught None b t n c = c
    clause_fine caught (Some name) b t n c =
        both (one (stores_held t name.line name.seat (operand.Temp caught) n tt))
        (finally_fine (t + 3) b _ c (both (one (stores_held (t + 1) name.line name.seat (operand.Const const.None) n tt)) (unbinds_fine (t + 2) name.line name.seat n)))

    guard_fine : (t : ℕ) (x : Clause) → ClauseFine x → GuardFine (guard t x).guard
    guard_fine t (Bare caught b) c = c
    guard_fine t (Class line p caught name b) c = (c.0, clause_fine caught name b t c.1 c.2)

    guards_fine : (t : ℕ) (cs : List Clause) → AllByRecursion ClauseFine cs → AllByRecursion GuardFine (guards t cs).parts
    guards_fine t [] c = tt
    guards_fine t (x ∷ cs) c = (guard_fine (guards t cs).next x c.0, guards_fine t cs c.1)

    handle_fine : (x : ℕ) (g : Guard) (rest : tree.Block) → GuardFine g → Fine rest → Fine (handle x g rest)
    handle_fine x (Any caught b) rest c d = follow (done refl refl) c
    handle_fine x (Only line p fits' caught b) rest c d =
        let a = c.0 in both a.0 (follow (did (tt, (a.1, tt))) (one (choice (follow (done refl refl) c.1) d)))

    handles_fine : (x : ℕ) (gs : List Guard) → AllByRecursion GuardFine gs → Fine (handles x gs)
    handles_fine x [] c = clear refl refl
    handles_fine x (g ∷ gs) c = handle_fine x g (handles x gs) c.0 (handles_fine x gs c.1)

    try_except_fine : (t : ℕ) (body : tree.Block) (cs : List Clause) (other : tree.Block) → Fine body → AllByRecursion ClauseFine cs → Fine other → Fine (try_except t body cs other).block
    unfolding try_block_of
    try_except_fine t body cs other c d e =
        let gs = guards t cs in
        follow (done refl refl) (follow (catch c (clear refl refl)) (one (choice (handles_fine gs.next gs.parts (guards_fine t cs d)) e)))

    module _ (inner : ℕ → Option syntax.Code) (h : Homes) where
      constant_fits : (v : Value) → AllFit (texts.constant v) → ConstFits (const_of v)
      constant_fits (value_is.Str x) p = p.0
      constant_fits other p = tt

      mutual
        unfolding name operate either choose chain starred dict call function comprehension yield_value delegate

        value_fine : (t : ℕ) (x : syntax.Expression) → AllFit (texts.expression inner x) → Part (value h t x).part
        value_fine t (syntax.Constant v) p = (stop, constant_fits v p)
        value_fine t (syntax.Name line home) p = (one (reads_held t line (seat h home) (seat_fits h home p)), tt)
        value_fine t (syntax.Operation line o xs) p =
            let ps = values h t xs in let c = values_fine t xs p in (all_joined ps.parts _ c (one (does_held ps.next line o (operands ps.parts) (operands_fit ps.parts c))), tt)
        value_fine t (syntax.Junction line any x y) p =
            let s = two (texts.expression inner x) (texts.expression inner y) p in
            let a = value h t x in let b = value h a.next y in (junction_fine line b.next any a.part b.part (value_fine t x s.0) (value_fine a.next y s.1), tt)
        value_fine t (syntax.Conditional line test x y) p =
            let s = three (texts.expression inner test) (texts.expression inner x) (texts.expression inner y) p in
            let a = value h t x in let o = value h a.next test in let b = value h o.next y in let c = value_fine a.next test s.0 in
            (if_fine line b.next o.part.block o.part.value _ _ c.0 c.1 (into_fine (b.next + 1) a.part (value_fine t x s.1)) (into_fine (b.next + 1) b.part (value_fine o.next y s.2)), tt)
        value_fine t (syntax.Comparison line x ls) p =
            let s = two (texts.expression inner x) (texts.compared inner ls) p in
            let a = value h t x in let qs = links h a.next ls in let c = value_fine t x s.0 in
            (both c.0 (links_fine line qs.next a.part.value qs.parts c.1 (links_parts a.next ls s.1)), tt)
        value_fine t (syntax.Starred line false xs) p = let ps = items h t xs in (follow (done refl refl) (fill_fine line ps.next ps.parts (items_parts t xs p)), tt)
        value_fine t (syntax.Starred line true xs) p =
            let ps = items h t xs in (both (follow (done refl refl) (fill_fine line ps.next ps.parts (items_parts t xs p))) (tuple_fine line ps.next), tt)
        value_fine t (syntax.Dict line xs) p = let ps = entries h t xs in (follow (done refl refl) (enter_fine line ps.next ps.parts (entries_parts t xs p)), tt)
        value_fine t (syntax.Call line f xs) p =
            let s = two (texts.expression inner f) (texts.passed inner xs) p in
            let a = value h t f in let ps = arguments h a.next xs in let c = value_fine t f s.0 in
            (both c.0 (follow (done refl refl) (pass_fine line ps.next a.part.value false ps.parts c.1 (arguments_parts a.next xs s.1))), tt)
        value_fine t (syntax.Function line code xs ks cells) p =
            let s = three (texts.each inner xs) (texts.defaulted inner ks) (texts.parameters_of (inner code)) p in
            let ps = values h t xs in let qs = keywords h ps.next ks in let c = values_fine t xs s.0 in let d = keywords_parts ps.next ks s.1 in
            (all_joined ps.parts _ c (all_joined _ _ (named_parts qs.parts d) (function_fine line code ps.parts qs.parts (cells_at h cells) qs.next c d)), tt)
        value_fine t (syntax.Comprehension line code x cells) p =
            let a = value h t x in let c = value_fine t x p in
            (both c.0 (follow (did (c.1, tt)) (both (function_fine line code [] [] (cells_at h cells) (a.next + 1) tt tt) (clear refl refl))), tt)
        value_fine t (syntax.Yield line x) p = let c = value_fine t x p in (both c.0 (one (yields c.1)), tt)
        value_fine t (syntax.YieldFrom line x) p = let a = value h t x in (delegate_fine line a.next a.part (value_fine t x p), tt)

        values_fine : (t : ℕ) (xs : syntax.Expressions) → AllFit (texts.each inner xs) → AllParts (values h t xs).parts
        values_fine t syntax.NoMore p = tt
        values_fine t (syntax.More x xs) p = let s = two (texts.expression inner x) (texts.each inner xs) p in (value_fine t x s.0, values_fine (value h t x).next xs s.1)

        links_parts : (t : ℕ) (ls : syntax.Links) → AllFit (texts.compared inner ls) → AllByRecursion (λ (x : Linked). Part x.right) (links h t ls).parts
        links_parts t (syntax.LastLink o negated x) p = (value_fine t x p, tt)
        links_parts t (syntax.Link o negated x ls) p = let s = two (texts.expression inner x) (texts.compared inner ls) p in (value_fine t x s.0, links_parts (value h t x).next ls s.1)

        items_parts : (t : ℕ) (xs : syntax.Items) → AllFit (texts.filled inner xs) → AllByRecursion ItemFine (items h t xs).parts
        items_parts t syntax.NoItem p = tt
        items_parts t (syntax.Single x xs) p = let s = two (texts.expression inner x) (texts.filled inner xs) p in (value_fine t x s.0, items_parts (value h t x).next xs s.1)
        items_parts t (syntax.Spread x xs) p = let s = two (texts.expression inner x) (texts.filled inner xs) p in (value_fine t x s.0, items_parts (value h t x).next xs s.1)

        entries_parts : (t : ℕ) (xs : syntax.Entries) → AllFit (texts.entered inner xs) → AllByRecursion EntryFine (entries h t xs).parts
        entries_parts t syntax.NoEntry p = tt
        entries_parts t (syntax.Pair x y xs) p =
            let s = three (texts.expression inner x) (texts.expression inner y) (texts.entered inner xs) p in
            let a = value h t x in let b = value h a.next y in ((value_fine t x s.0, value_fine a.next y s.1), entries_parts b.next xs s.2)
        entries_parts t (syntax.Merge x xs) p = let s = two (texts.expression inner x) (texts.entered inner xs) p in (value_fine t x s.0, entries_parts (value h t x).next xs s.1)

        arguments_parts : (t : ℕ) (xs : syntax.Arguments) → AllFit (texts.passed inner xs) → AllByRecursion PassedFine (arguments h t xs).parts
        arguments_parts t syntax.NoArgument p = tt
        arguments_parts t (syntax.Plain x xs) p = let s = two (texts.expression inner x) (texts.passed inner xs) p in (value_fine t x s.0, arguments_parts (value h t x).next xs s.1)
        arguments_parts t (syntax.Star x xs) p = let s = two (texts.expression inner x) (texts.passed inner xs) p in (value_fine t x s.0, arguments_parts (value h t x).next xs s.1)
        arguments_parts t (syntax.Keyword key x xs) p =
            let s = two (texts.expression inner x) (texts.passed inner xs) p.1 in ((p.0, value_fine t x s.0), arguments_parts (value h t x).next xs s.1)
        arguments_parts t (syntax.DoubleStar x xs) p = let s = two (texts.expression inner x) (texts.passed inner xs) p in (value_fine t x s.0, arguments_parts (value h t x).next xs s.1)

        keywords_parts : (t : ℕ) (ks : syntax.Keywords) → AllFit (texts.defaulted inner ks) → AllByRecursion NamedFine (keywords h t ks).parts
        keywords_parts t syntax.NoKeyword p = tt
        keywords_parts t (syntax.Default key x ks) p =
            let s = two (texts.expression inner x) (texts.defaulted inner ks) p.1 in ((p.0, value_fine t x s.0), keywords_parts (value h t x).next ks s.1)

      mutual
        place_fine : (t : ℕ) (x : syntax.Target) → AllFit (texts.target inner x) → PlaceFine (place h t x).place
        place_fine t (syntax.ToName line home) p = seat_fits h home p
        place_fine t (syntax.ToAttribute line x key) p = (value_fine t x p.1, p.0)
        place_fine t (syntax.ToIndex line x y) p = let s = two (texts.expression inner x) (texts.expression inner y) p in (value_fine t x s.0, value_fine (value h t x).next y s.1)
        place_fine t (syntax.ToEach line xs) p = places_fine t xs p
        place_fine t (syntax.ToStarred line xs star ys) p =
            let s = three (texts.targets inner xs) (texts.target inner star) (texts.targets inner ys) p in
            let ps = all_places h t xs in let q = place h ps.next star in (places_fine t xs s.0, place_fine ps.next star s.1, places_fine q.next ys s.2)
        place_fine t syntax.ToNothing p = tt

        places_fine : (t : ℕ) (xs : syntax.Targets) → AllFit (texts.targets inner xs) → PlacesFine (all_places h t xs).all
        places_fine t syntax.NoTarget p = tt
        places_fine t (syntax.AlsoTo x xs) p = let s = two (texts.target inner x) (texts.targets inner xs) p in (place_fine t x s.0, places_fine (place h t x).next xs s.1)

      bind_fine : (t : ℕ) (x : syntax.Target) → AllFit (texts.target inner x) → Fine (bind h t x).block
      bind_fine t x p = let q = place h (t + 1) x in assign_fine q.next (operand.Temp t) q.place (place_fine (t + 1) x p) tt

      bind_all_fine : (t : ℕ) (xs : syntax.Targets) → AllFit (texts.targets inner xs) → Fine (bind_all h t xs).block
      bind_all_fine t xs p = let q = all_places h (t + 1) xs in assign_all_fine q.next (operand.Temp t) q.all (places_fine (t + 1) xs p) tt

      decorators_fine : (t : ℕ) (ds : List syntax.Decorator) → AllFit (texts.decorated inner ds) → AllParts (map (λ (d : Decorator). d.part) (decorators h t ds).parts)
      decorators_fine t [] p = tt
      decorators_fine t (d ∷ ds) p = let s = two (texts.expression inner d.is) (texts.decorated inner ds) p in (value_fine t d.is s.0, decorators_fine (value h t d.is).next ds s.1)

      bound_fine : (called' : Option syntax.Caught) → AllFit (texts.caught inner called') → BoundFine (bound h called')
      bound_fine None p = tt
      bound_fine (Some called') p = seat_fits h called'.home p

      again_fine : (caught : Option ℕ) (t : ℕ) → Fine (raise_again caught t).block
      again_fine None t = stop
      again_fine (Some x) t = clear refl refl

      mutual
        unfolding return_value raise_value assert_that branch while_loop for_loop try_finally with_item decorate make_class assign_name

        statement_fine : (caught : Option ℕ) (t : ℕ) (s : syntax.Statement) → AllFit (texts.statement inner s) → Fine (statement h caught t s).block
        statement_fine caught t (syntax.Evaluate x) p = (value_fine t x p).0
        statement_fine caught t (syntax.Assign xs x) p =
            let s = two (texts.expression inner x) (texts.targets inner xs) p in
            let ps = all_places h t xs in let a = value h ps.next x in let c = value_fine ps.next x s.0 in both c.0 (assign_all_fine a.next a.part.value ps.all (places_fine t xs s.1) c.1)
        statement_fine caught t (syntax.Augment line o x y) p =
            let s = two (texts.target inner x) (texts.expression inner y) p in
            let a = place h t x in let b = value h a.next y in augment_fine b.next line o a.place b.part (place_fine t x s.0) (value_fine a.next y s.1)
        statement_fine caught t (syntax.Delete x) p = let a = place h t x in delete_fine a.next a.place (place_fine t x p)
        statement_fine caught t syntax.Pass p = stop
        statement_fine caught t syntax.Break p = clear refl refl
        statement_fine caught t syntax.Continue p = clear refl refl
        statement_fine caught t (syntax.Return x) p = let c = value_fine t x p in both c.0 (one (returns c.1))
        statement_fine caught t (syntax.Raise line x) p = let a = value h t x in let c = value_fine t x p in both c.0 (raise_fine line a.next a.part.value c.1)
        statement_fine caught t syntax.Reraise p = again_fine caught t
        statement_fine caught t (syntax.Assert line x xs) p =
            let s = two (texts.expression inner x) (texts.each inner xs) p in
            let a = value h t x in let ps = values h a.next xs in assert_fine line ps.next a.part ps.parts (value_fine t x s.0) (values_fine a.next xs s.1)
        statement_fine caught t (syntax.If line x body' other) p =
            let s = three (texts.expression inner x) (texts.block inner body') (texts.block inner other) p in
            let a = value h t x in let b = block h caught a.next body' in let d = block h caught b.next other in let c = value_fine t x s.0 in
            if_fine line d.next a.part.block a.part.value b.block d.block c.0 c.1 (block_fine caught a.next body' s.1) (block_fine caught b.next other s.2)
        statement_fine caught t (syntax.While line x body' other) p =
            let s = three (texts.expression inner x) (texts.block inner body') (texts.block inner other) p in
            let a = value h t x in let b = block h caught a.next body' in let d = block h caught b.next other in
            while_fine line d.next (d.next + 1) a.part b.block d.block (value_fine t x s.0) (block_fine caught a.next body' s.1) (block_fine caught b.next other s.2)
        statement_fine caught t (syntax.For line x over' body' other) p =
            let s = four (texts.expression inner over') (texts.target inner x) (texts.block inner body') (texts.block inner other) p in
            let i = bind h t x in let a = value h i.next over' in let b = block h caught a.next body' in let d = block h caught b.next other in
            for_fine line d.next t a.part i.block b.block d.block (value_fine i.next over' s.0) (bind_fine t x s.1) (block_fine caught a.next body' s.2) (block_fine caught b.next other s.3)
        statement_fine caught t (syntax.Try body' handlers other) p =
            let s = three (texts.block inner body') (texts.handled inner handlers) (texts.block inner other) p in
            let b = block h caught t body' in let cs = except h b.next handlers in let d = block h caught cs.next other in
            try_except_fine d.next b.block cs.parts d.block (block_fine caught t body' s.0) (except_fine b.next handlers s.1) (block_fine caught cs.next other s.2)
        statement_fine caught t (syntax.Finally body' last) p =
            let s = two (texts.block inner body') (texts.block inner last) p in
            let b = block h caught t body' in let d = block h None b.next last in finally_fine d.next b.block d.block (block_fine caught t body' s.0) (block_fine None b.next last s.1)
        statement_fine caught t (syntax.With line x xs body') p =
            let s = three (texts.expression inner x) (texts.targets inner xs) (texts.block inner body') p in
            let a = value h t x in let i = bind_all h a.next xs in let b = block h caught i.next body' in
            with_fine line b.next a.next a.part i.block b.block (value_fine t x s.0) (bind_all_fine a.next xs s.1) (block_fine caught i.next body' s.2)
        statement_fine caught t (syntax.Define line ds f home) p =
            let s = three (texts.decorated inner ds) (texts.expression inner f) (texts.home home) p in
            let ps = decorators h t ds in let a = value h ps.next f in let c = decorators_fine t ds s.0 in let d = value_fine ps.next f s.1 in
            both (all_joined _ _ c (both d.0 (decorated_fine a.next ps.parts a.part.value c d.1))) (one (stores_held _ line (seat h home) _ (seat_fits h home s.2) (at_fits a.next ps.parts a.part.value d.1)))
        statement_fine caught t (syntax.Class line ds key base code cells home) p =
            let s = three (texts.decorated inner ds) (texts.expression inner base) (key ∷ texts.home home) p in
            let ps = decorators h t ds in let a = value h ps.next base in let c = decorators_fine t ds s.0 in let d = value_fine ps.next base s.1 in let n = s.2 in
            both
            (all_joined _ _ c (both d.0 (both (class_fine line code key (cells_at h cells) a.part.value a.next n.0 d.1) (decorated_fine (a.next + 6) ps.parts (operand.Temp (a.next + 5)) c tt))))
            (one (stores_held _ line (seat h home) _ (seat_fits h home n.1) (at_fits (a.next + 6) ps.parts (operand.Temp (a.next + 5)) tt)))

        block_fine : (caught : Option ℕ) (t : ℕ) (b : syntax.Block) → AllFit (texts.block inner b) → Fine (block h caught t b).block
        block_fine caught t syntax.Done p = stop
        block_fine caught t (syntax.Then s rest) p =
            let q = two (texts.statement inner s) (texts.block inner rest) p in both (statement_fine caught t s q.0) (block_fine caught (statement h caught t s).next rest q.1)

        except_fine : (t : ℕ) (hs : syntax.Handlers) → AllFit (texts.handled inner hs) → AllByRecursion ClauseFine (except h t hs).parts
        except_fine t syntax.NoHandler p = tt
        except_fine t (syntax.Bare body') p = (block_fine (Some t) (t + 1) body' p, tt)
        except_fine t (syntax.Handler line class called' body' rest) p =
            let s = four (texts.expression inner class) (texts.caught inner called') (texts.block inner body') (texts.handled inner rest) p in
            let a = value h t class in let b = block h (Some a.next) (a.next + 1) body' in
            ((value_fine t class s.0, bound_fine called' s.1, block_fine (Some a.next) (a.next + 1) body' s.2), except_fine b.next rest s.3)

      -- Comprehensions

      module _ (line : ℕ) where
        element_fine : (t : ℕ) (into : Operand) (x : syntax.Turns) → OperandFits into → AllFit (texts.collected inner x) → Fine (element h t line into x).block
        unfolding push put emit
        element_fine t into (syntax.Push x) f p = let c = value_fine t x p in both c.0 (one (did (f, (c.1, tt))))
        element_fine t into (syntax.Put k x) f p =
            let s = two (texts.expression inner k) (texts.expression inner x) p in
            let c = value_fine t k s.0 in let d = value_fine (value h t k).next x s.1 in both c.0 (both d.0 (one (did (f, (c.1, (d.1, tt))))))
        element_fine t into (syntax.Emit x) f p = let c = value_fine t x p in both c.0 (one (yields c.1))
        element_fine t into (syntax.Ranging x over' more) f p =
            let s = three (texts.expression inner over') (texts.target inner x) (texts.collected inner more) p in element_fine t into more f s.2
        element_fine t into (syntax.Filter x more) f p = let s = two (texts.expression inner x) (texts.collected inner more) p in element_fine t into more f s.1

        turns_fine : (t : ℕ) (b : tree.Block) (x : syntax.Turns) → Fine b → AllFit (texts.collected inner x) → Fine (turns h t line b x).block
        unfolding for_loop filter
        turns_fine t b (syntax.Push x) c p = c
        turns_fine t b (syntax.Put k x) c p = c
        turns_fine t b (syntax.Emit x) c p = c
        turns_fine t b (syntax.Ranging x over' more) c p =
            let s = three (texts.expression inner over') (texts.target inner x) (texts.collected inner more) p in
            let i = bind h t x in let q = value h i.next over' in let m = turns h q.next line b more in
            for_fine line m.next t q.part i.block m.block tree.Stop (value_fine i.next over' s.0) (bind_fine t x s.1) (turns_fine q.next b more c s.2) stop
        turns_fine t b (syntax.Filter x more) c p =
            let s = two (texts.expression inner x) (texts.collected inner more) p in
            let q = value h t x in let m = turns h q.next line b more in let d = value_fine t x s.0 in
            if_fine line m.next q.part.block q.part.value m.block tree.Stop d.0 d.1 (turns_fine q.next b more c s.1) stop

        first_fine : (t : ℕ) (into : Operand) (x : syntax.Target) (more : syntax.Turns) → OperandFits into → AllFit (texts.target inner x) → AllFit (texts.collected inner more) → Fine (first_loop h t line into x more)
        unfolding over
        first_fine t into x more f p q =
            let e = element h t line into more in let i = bind h e.next x in let m = turns h i.next line e.block more in
            over_fine line m.next e.next (local_at h 0) i.block m.block (bind_fine e.next x p) (turns_fine i.next e.block more (element_fine t into more f q) q)

      collect_fine : (t line : ℕ) (into : Option Op) (x : syntax.Target) (more : syntax.Turns) → AllFit (texts.target inner x) → AllFit (texts.collected inner more) → Fine (collect h t line into x more)
      unfolding gather
      collect_fine t line None x more p q = first_fine line t (operand.Const const.None) x more tt p q
      collect_fine t line (Some o) x more p q = follow (did tt) (both (first_fine line (t + 1) (operand.Temp t) x more tt p q) (clear refl refl))

      -- Bodies, and what stands before them

      body_fine : (t : ℕ) (b : syntax.Body) → AllFit (texts.body inner b) → Fine (body h t b)
      unfolding return_value
      body_fine t (syntax.Statements b) p = block_fine None t b p
      body_fine t (syntax.Value' x) p = let c = value_fine t x p in both c.0 (one (returns c.1))
      body_fine t (syntax.Collect line into x more) p = let s = two (texts.target inner x) (texts.collected inner more) p in collect_fine t line into x more s.0 s.1

    filled_fine : (h : Homes) (line t at : ℕ) (x : Option ℕ) (b : tree.Block) → Fine b → Fine (filled_block h line t at x b)
    filled_fine h line t at None b c = c
    filled_fine h line t at (Some there) b c = follow (done refl refl) c

    cells_fine : (h : Homes) (line t at : ℕ) (xs : List (Option ℕ)) (b : tree.Block) → Fine b → Fine (cells_block h line t at xs b)
    cells_fine h line t at [] b c = c
    cells_fine h line t at (x ∷ xs) b c = follow (done refl refl) (filled_fine h line t at x _ (cells_fine h line t (at + 1) xs b c))

    unset_fine : (h : Homes) (at n : ℕ) (b : tree.Block) → Fine b → Fine (unset_block h at n b)
    unset_fine h at zero b c = c
    unset_fine h at (suc n) b c = follow (done refl refl) (unset_fine h (at + 1) n b c)

  code_fine : (cs : List syntax.Code) (names : List NameHome) (c : syntax.Code) → AllFit (texts.texts cs names c) → Fine (code_nodes c)
  code_fine cs names c p =
      let h = homes_of c in let inner : ℕ → Option syntax.Code = λ n. slice_get cs n in
      let s = four written (map (λ (n : NameHome). n.name) names) (map (λ p. p.1) c.header.params) (texts.body inner c.body) p in
      let w = rows_of s.0 in
      unset_fine w h h.params (c.locals - h.params) _ (cells_fine w h c.header.line (behind h) 0 c.owns _ (body_fine w inner h (behind h) c.body s.3))

pub codes_named : CodesAreNamed
codes_named fits cs names c p = let r = code_fine fits cs names c p in (r.names, r.texts)
