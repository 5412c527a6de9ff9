-- Operations stand in statements at most four times as often as the scope's own list asks for them.
use Rattle.std.proofs.Common.{◌≡◌, ℕ, zero, suc, ◌+◌, ◌-◌, ◌*◌, ◌≤◌, Bool, true, false, not, ◌&&◌, if◌then◌else◌, List, [], ◌∷◌, ◌++◌, map, Option, Some, None, codes, refl, sym, ap, subst, arith}
use Rattle.op_forms.specs.declared.op.Op.{Op}
use Rattle.op_forms.specs.declared.op.Op.TheVariants as op
use Rattle.code_forms.specs.declared.operand.Argument.{Argument}
use Rattle.code_forms.specs.declared.operand.Argument.TheVariants as argument
use Rattle.code_forms.specs.declared.operand.Operand.{Operand}
use Rattle.code_forms.specs.declared.operand.Operand.TheVariants as operand
use Rattle.node_tree.specs.Blocks.{alone, puts, of_temp}
use Rattle.node_tree.specs.Blocks as tree
use Rattle.node_tree.specs.Contents.{form_total, total, form_operations}
use Rattle.node_tree.proofs.Direct.{total_append}
use Rattle.node_redirect.specs.Redirect.{redirect_form, redirect, leaves, leaves_by, outward}
use Rattle.carries_base.specs.Frames.{Homes, local_at}
use Rattle.carries_base.specs.Carries.{Carrier, joined}
use Rattle.carries_base.specs.Laws.{if_block, while_block}
use Rattle.carries_values.specs.Parts.{into, moved}
use Rattle.carries_values.specs.Choices.{Linked, junction_block, compared_block, links_block}
use Rattle.carries_values.specs.Calls.{keywords_block}
use Rattle.carries_control.specs.Raises.{stopped_block, assert_block}
use Rattle.carries_control.specs.Loops.{for_turn_block, for_block}
use Rattle.carries_control.specs.Finish.{guarded_block, finally_block, with_block}
use Rattle.carries_definitions.specs.Delegated.{delegate_block}
use Rattle.carries_definitions.specs.Told.{resumed_block, sent_block, closed_block, threw_block, thrown_block}
use Rattle.carries_definitions.specs.Collected.{over_block}
use Rattle.carried_codes.specs.Parts.{Named, Decorator}
use Rattle.carried_codes.specs.Seats.{seat, reads, stores, unbinds}
use Rattle.carried_codes.specs.Expressions.{puts as puts_all, function_block, decorated_block}
use Rattle.py_meaning.specs.Syntax as syntax
use Rattle.py_meaning.specs.Own.{Own, is_free, entry, bare, named}
use Rattle.py_meaning.specs.Own as own
use Rattle.nu_value.specs.declared.value.Value.TheVariants as value_is
use Rattle.op_forms.specs.declared.signature.ArgumentKind.{ArgumentKind}
use Rattle.op_forms.specs.declared.signature.ArgumentKind.TheVariants as kind
use Rattle.op_forms.specs.Signature.{arguments as kinds_of}
use Rattle.carries_values.specs.Displays.{fill_block, enter_block}
use Rattle.carries_values.specs.Calls.{pass_block}
use Rattle.carried_codes.specs.Operations.{given, is_call, called, does}
use Rattle.carried_codes.specs.Expressions.{name, operate, both as either, choose, chain, starred, dict, call, function, comprehension, yield_value, delegate}
use Rattle.carried_codes.specs.Nodes.{value, values, links, items, entries, arguments, keywords, cells_at}
use Rattle.py_meaning.specs.Own.{name_among}
use Rattle.op_forms.specs.declared.constant.Const.TheVariants as const
use Rattle.carries_names.specs.Begun.{unset_block, filled_block, cells_block}
use Rattle.carries_base.specs.Frames.{behind}
use Rattle.carries_control.specs.Tries.{try_block, clause_block}
use Rattle.carries_targets.specs.Targets.{items_block}
use Rattle.carries_targets.specs.Augments.{operated_block}
use Rattle.carried_codes.specs.Expressions.{decorate, make_class}
use Rattle.carried_codes.specs.Places as places
use Rattle.carried_codes.specs.Places.{assign_name, assign_attribute, assign_index, assign_each, assign_starred, delete_name, delete_attribute, delete_index, augment_name, augment_attribute, augment_index}
use Rattle.carried_codes.specs.Clauses as clauses
use Rattle.carried_codes.specs.Clauses.{name_clause, try_block_of}
use Rattle.carried_codes.specs.Statements.{return_value, raise_value, raise_again, assert_that, branch, while_loop, for_loop, try_finally, with_item, push, put, emit, filter, over, gather}
use Rattle.carried_codes.specs.Nodes.{place, all_places, bind, bind_all, decorators, bound, statement, block, except, element, turns, first_loop, collect, body, homes_of, code_nodes}
use Rattle.carried_contents.specs.Counts.{bare_name, stand, asked}
use Rattle.carried_contents.specs.Laws.{CodesAreCounted}

module _ (test : Op → Option (List ℕ) → Bool) where
  abbrev counts : tree.Form → ℕ
  counts x = form_operations (λ o args. not (is_free o) && test o (bare_name args)) x

  -- so often at most
  pub record Held (x : tree.Form) (k : ℕ) : Type 0 where
    pub most : form_total counts x ≤ k

  pub record Costs (b : tree.Block) (k : ℕ) : Type 0 where
    pub most : stand test b ≤ k

  less : {b : tree.Block} {k m : ℕ} → Costs b k → k ≤ m → Costs b m
  less p l = let a = p.most in record { most = omega (arith, a, l) }

  stop : Costs tree.Stop 0
  stop = record { most = omega arith }

  follow : {x : tree.Form} {r : tree.Block} {k m : ℕ} → Held x k → Costs r m → Costs (tree.Follow x r) (k + m)
  follow p q = let a = p.most in let b = q.most in record { most = omega (arith, a, b) }

  both : {b c : tree.Block} {k m : ℕ} → Costs b k → Costs c m → Costs (tree.append b c) (k + m)
  both {b} {c} p q = let e = total_append counts b c in let x = p.most in let y = q.most in record { most = omega (arith, e, x, y) }

  choice : {a : Operand} {y n : tree.Block} {k m : ℕ} → Costs y k → Costs n m → Held (tree.If a y n) (k + m)
  choice p q = let x = p.most in let y = q.most in record { most = omega (arith, x, y) }

  entered : (b : Bool) (o : Op) (n : Option (List ℕ)) → (if (not b && test o n) then 1 else 0) ≤ asked test (if b then [] else (record { op = o; name = n } ∷ []))
  unfolding asked
  entered true o n = omega arith
  entered false o n = omega arith

  -- as often as is asked
  did : {to line : ℕ} {o : Op} {args : List Argument} → Held (tree.Do to line o args) (asked test (entry o (bare_name args)))
  did {to} {line} {o} {args} = record { most = entered (is_free o) o (bare_name args) }

  free : {x : tree.Form} → form_total counts x ≡ 0 → Held x 0
  free e = record { most = omega (arith, e) }

  split : (xs ys : List Own) → asked test (xs ++ ys) ≡ asked test xs + asked test ys
  unfolding asked
  split [] ys = omega arith
  split (x ∷ xs) ys = let e = split xs ys in omega (arith, e)

  split3 : (a b c : List Own) → asked test (a ++ b ++ c) ≡ asked test a + asked test b + asked test c
  split3 a b c = let e = split (a ++ b) c in let f = split a b in omega (arith, e, f)

  split4 : (a b c d : List Own) → asked test (a ++ b ++ c ++ d) ≡ asked test a + asked test b + asked test c + asked test d
  split4 a b c d = let e = split (a ++ b ++ c) d in let f = split3 a b c in omega (arith, e, f)

  split5 : (a b c d e : List Own) → asked test (a ++ b ++ c ++ d ++ e) ≡ asked test a + asked test b + asked test c + asked test d + asked test e
  split5 a b c d x = let e = split (a ++ b ++ c ++ d) x in let f = split4 a b c d in omega (arith, e, f)

  split6 : (a b c d e f : List Own) → asked test (a ++ b ++ c ++ d ++ e ++ f) ≡ asked test a + asked test b + asked test c + asked test d + asked test e + asked test f
  split6 a b c d x y = let e = split (a ++ b ++ c ++ d ++ x) y in let f = split5 a b c d x in omega (arith, e, f)

  abbrev each_asked : List Own → ℕ
  each_asked [] = 0
  each_asked (x ∷ xs) = asked test (x ∷ []) + each_asked xs

  many : (xs : List Own) → asked test xs ≡ each_asked xs
  unfolding asked
  many [] = refl
  many (x ∷ xs) = let e = many xs in omega (arith, e)

  -- Small blocks

  one : {x : tree.Form} {k : ℕ} → Held x k → Costs (alone x) k
  one h = less (follow h stop) (omega arith)

  skip : {x : tree.Form} {r : tree.Block} {k : ℕ} → Held x 0 → Costs r k → Costs (tree.Follow x r) k
  skip h c = less (follow h c) (omega arith)

  none : {b : tree.Block} → stand test b ≡ 0 → Costs b 0
  none e = record { most = omega (arith, e) }

  loop : {b : tree.Block} {k : ℕ} → Costs b k → Held (tree.Loop b) k
  loop p = let x = p.most in record { most = omega (arith, x) }

  catch : {to : ℕ} {b c : tree.Block} {k m : ℕ} → Costs b k → Costs c m → Held (tree.Catch to b c) (k + m)
  catch p q = let x = p.most in let y = q.most in record { most = omega (arith, x, y) }

  fewer : {x : tree.Form} {k m : ℕ} → Held x k → k ≤ m → Held x m
  fewer p l = let a = p.most in record { most = omega (arith, a, l) }

  stored : (to : ℕ) (a : Operand) → Held (puts to a) 0
  stored to (operand.Temp t) = free refl
  stored to (operand.Const c) = free refl

  did_bare : {to line : ℕ} {o : Op} {args : List Argument} → bare_name args ≡ None → Held (tree.Do to line o args) (asked test (bare o))
  did_bare {to} {line} {o} {args} e = subst (λ n. Held (tree.Do to line o args) (asked test (entry o n))) e did

  no_name : (ps : List Carrier) → bare_name (map (λ (p : Carrier). argument.Value p.value) ps) ≡ None
  no_name [] = refl
  no_name (p ∷ ps) = no_name ps

  no_name_in : (cells : List ℕ) → bare_name (map of_temp cells) ≡ None
  no_name_in [] = refl
  no_name_in (c ∷ cells) = no_name_in cells

  no_name_of : (os : List Operand) → bare_name (map argument.Value os) ≡ None
  no_name_of [] = refl
  no_name_of (o ∷ os) = no_name_of os

  -- Rewritten blocks

  left_by : (t d j : ℕ) (k : Option ℕ) → form_total counts (leaves_by t d j k) ≡ 0
  left_by t d j None = refl
  left_by t d j (Some k) = refl

  left : (t d n : ℕ) → form_total counts (leaves t d n) ≡ 0
  left t d zero = refl
  left t d (suc j) = left_by t d j (outward d j)

  returned : (t : ℕ) (a : Operand) (d : ℕ) → form_total counts (redirect_form t (tree.Return a) d) ≡ 0
  returned t (operand.Temp s) d = refl
  returned t (operand.Const c) d = refl

  mutual
    form_same : (t : ℕ) (x : tree.Form) (d : ℕ) → form_total counts (redirect_form t x d) ≡ form_total counts x
    form_same t (tree.Constant to c) d = refl
    form_same t (tree.Copy to from) d = refl
    form_same t (tree.Do to line o args) d = refl
    form_same t (tree.Call to line function args) d = refl
    form_same t (tree.Yield to line a) d = refl
    form_same t (tree.If a y n) d = let p = same t y d in let q = same t n d in omega (arith, p, q)
    form_same t (tree.Loop body) d = let p = same t body (suc d) in omega (arith, p)
    form_same t (tree.Leave levels) d = left t d levels
    form_same t (tree.Catch to body handler) d = let p = same t body d in let q = same t handler d in omega (arith, p, q)
    form_same t (tree.Return a) d = returned t a d
    form_same t (tree.Raise a) d = refl
    form_same t (tree.Unset to) d = refl

    same : (t : ℕ) (b : tree.Block) (d : ℕ) → total counts (redirect t b d) ≡ total counts b
    same t tree.Stop d = refl
    same t (tree.Follow x r) d = let p = form_same t x d in let q = same t r d in omega (arith, p, q)

  redirected : {b : tree.Block} {k : ℕ} (t d : ℕ) → Costs b k → Costs (redirect t b d) k
  redirected {b} t d c = let e = same t b d in let x = c.most in record { most = omega (arith, e, x) }

  -- Names

  module _ (h : Homes) (t line : ℕ) where
    reads_cost : (home : syntax.Home) → Held (reads t line (seat h home)) (asked test (own.loads home))
    reads_cost (syntax.Local place name) = did
    reads_cost (syntax.Own place name) = did
    reads_cost (syntax.Free place name) = did
    reads_cost (syntax.Module name) = did
    reads_cost (syntax.InClass name) = did

    stores_cost : (home : syntax.Home) (o : Operand) → Held (stores t line (seat h home) o) (asked test (own.stores home))
    stores_cost (syntax.Local place name) o = fewer (stored _ o) (omega arith)
    stores_cost (syntax.Own place name) o = fewer (free refl) (omega arith)
    stores_cost (syntax.Free place name) o = fewer (free refl) (omega arith)
    stores_cost (syntax.Module name) o = did
    stores_cost (syntax.InClass name) o = did

    unbinds_cost : (home : syntax.Home) → Costs (unbinds t line (seat h home)) (asked test (own.unbinds home))
    unbinds_cost (syntax.Local place name) = less (follow did (none refl)) (omega arith)
    unbinds_cost (syntax.Own place name) = one did
    unbinds_cost (syntax.Free place name) = one did
    unbinds_cost (syntax.Module name) = one did
    unbinds_cost (syntax.InClass name) = one did

  -- Expressions

  into_cost : {k : ℕ} (to : ℕ) (p : Carrier) → Costs p.block k → Costs (into to p) k
  into_cost to p c = less (both c (one (stored to p.value))) (omega arith)

  if_cost : {k m n : ℕ} (line t : ℕ) (tb : tree.Block) (o : Operand) (bb ob : tree.Block) → Costs tb k → Costs bb m → Costs ob n → Costs (if_block line t tb o bb ob) (k + (m + n))
  if_cost line t tb o bb ob c d e = both c (skip (free refl) (one (choice d e)))

  junction_cost : {k m : ℕ} (line t : ℕ) (any : Bool) (p q : Carrier) → Costs p.block k → Costs q.block m → Costs (junction_block line t any p q) (k + m)
  junction_cost line t true p q c d = less (if_cost line t p.block p.value (moved (t + 1) p.value) (into (t + 1) q) c (one (stored (t + 1) p.value)) (into_cost (t + 1) q d)) (omega arith)
  junction_cost line t false p q c d = less (if_cost line t p.block p.value (into (t + 1) q) (moved (t + 1) p.value) c (into_cost (t + 1) q d) (one (stored (t + 1) p.value))) (omega arith)

  compared_cost : (line t : ℕ) (o : Op) (negated : Bool) (a b : Operand) → Costs (compared_block line t o negated a b) (asked test (bare o))
  compared_cost line t o false a b = one did
  compared_cost line t o true a b = less (follow did (none refl)) (omega arith)

  link_cost : {k m : ℕ} (line t : ℕ) (a : Operand) (p : Linked) (ps : List Linked) → Costs p.right.block k → Costs (links_block line t p.right.value ps) m → Costs (links_block line t a (p ∷ ps)) (k + (asked test (bare p.op) + m))
  link_cost line t a p [] c d = less (both c (compared_cost line t p.op p.negated a p.right.value)) (omega arith)
  link_cost line t a p (q ∷ ps) c d =
      less (both c (both (compared_cost line t p.op p.negated a p.right.value) (skip (free refl) (one (choice d stop))))) (omega arith)

  abbrev dict_left : Bool → ℕ
  dict_left true = 0
  dict_left false = asked test (bare op.Dict)

  keywords_cost : {k : ℕ} (line to : ℕ) (begun : Bool) (rest : tree.Block) → Costs rest k → Costs (keywords_block line to begun rest) (dict_left begun + k)
  keywords_cost line to true rest c = less c (omega arith)
  keywords_cost line to false rest c = follow did c

  function_cost : {k : ℕ} (line code : ℕ) (ps : List Carrier) (ks : List Named) (cells : List ℕ) (t : ℕ) → Costs (puts_all line (t + 1) (t + 2) ks) k
      → Costs (function_block line code ps ks cells t) (asked test (bare op.Tuple) + (asked test (bare op.Dict) + (k + asked test (bare op.Func))))
  function_cost line code ps ks cells t c = follow (did_bare (no_name ps)) (follow did (both c (one (did_bare (no_name_in cells)))))

  stopped_cost : {k : ℕ} (line x t : ℕ) (over : tree.Block) → Costs over k → Costs (stopped_block line x t over) k
  stopped_cost line x t over c = skip (free refl) (skip (free refl) (less (one (choice c (none refl))) (omega arith)))

  resumed_cost : {k : ℕ} (line t : ℕ) (o : Op) (args : List Argument) → Held (tree.Do (t + 1) line o args) k → Costs (resumed_block line t o args) k
  resumed_cost line t o args c =
      skip (free refl) (less (follow (catch (one c) (none refl)) (one (choice (stopped_cost line (t + 3) (t + 5) _ (none refl)) stop))) (omega arith))

  abbrev at : Op → ℕ
  at o = asked test (bare o)

  abbrev by_name : Op → List ℕ → ℕ
  by_name o name = asked test (named o name)

  sent_cost : (line t : ℕ) → Costs (sent_block line t) (at op.Next + (by_name op.Attr (codes "send") + at op.Call))
  sent_cost line t = skip (free refl) (one (choice (resumed_cost line t op.Next _ did) (follow did (resumed_cost line t op.Call _ did))))

  closed_cost : (line t : ℕ) → Costs (closed_block line t) (by_name op.Find (codes "close") + at op.Call)
  closed_cost line t = follow did (skip (free refl) (less (one (choice (none refl) (follow did (none refl)))) (omega arith)))

  threw_cost : (line t : ℕ) → Costs (threw_block line t) (by_name op.Find (codes "throw") + at op.Call)
  threw_cost line t = follow did (skip (free refl) (less (one (choice (none refl) (resumed_cost line t op.Call _ did))) (omega arith)))

  thrown_cost : (line t : ℕ) → Costs (thrown_block line t) (by_name op.Find (codes "close") + at op.Call + (by_name op.Find (codes "throw") + at op.Call))
  thrown_cost line t = skip (free refl) (skip (free refl) (one (choice (closed_cost line t) (threw_cost line t))))

  result_cost : (line x to : ℕ) → Costs (alone (tree.Do to line op.Attr (of_temp x ∷ argument.Name (codes "value") ∷ []))) (by_name op.Attr (codes "value"))
  result_cost line x to = one did

  delegate_cost : {k : ℕ} (line t : ℕ) (b : tree.Block) (o : Operand) → Costs b k → Costs (delegate_block line t b o (sent_block line t) (thrown_block line t)) (k + 4 * asked test own.delegates)
  delegate_cost line t b o c =
      let all = many own.delegates in
      less
      (both c (follow did (skip (free refl) (follow (catch (one did) (none refl)) (one (choice (stopped_cost line (t + 3) (t + 5) _ (result_cost line (t + 3) (t + 7)))
      (follow (loop (skip (free refl) (skip (free refl) (one (choice (thrown_cost line t) (sent_cost line t)))))) (result_cost line (t + 1) (t + 7)))))))))
      (omega (arith, all))

  -- Operations

  abbrev operands : List Carrier → List Operand
  operands ps = map (λ (p : Carrier). p.value) ps

  abbrev NoBuiltIn : List ArgumentKind → Type 0
  NoBuiltIn [] = Unit {0}
  NoBuiltIn (kind.BuiltinName ∷ ks) = ⊥
  NoBuiltIn (k ∷ ks) = NoBuiltIn ks

  no_built_in : (o : Op) → is_free o ≡ false → NoBuiltIn (kinds_of o)
  no_built_in op.Native e = cc
  no_built_in other e = tt

  is_op_call : (o : Op) → is_call o ≡ true → o ≡ op.Call
  is_op_call op.Call e = refl
  is_op_call other e = cc

  module _ (h : Homes) where
    given_name : (t : ℕ) (ks : List ArgumentKind) (xs : syntax.Expressions) → NoBuiltIn ks → bare_name (given ks (operands (values h t xs).parts)) ≡ name_among ks xs
    unfolding name operate either choose chain starred dict call function comprehension yield_value delegate
    given_name t [] syntax.NoMore p = refl
    given_name t [] (syntax.More x xs) p = given_name (value h t x).next [] xs tt
    given_name t (kind.Name ∷ ks) (syntax.More (syntax.Constant (value_is.Str s)) xs) p = refl
    given_name t (kind.Name ∷ ks) (syntax.More (syntax.Starred line false ys) xs) p = given_name (value h t (syntax.Starred line false ys)).next ks xs p
    given_name t (kind.Name ∷ ks) (syntax.More (syntax.Starred line true ys) xs) p = given_name (value h t (syntax.Starred line true ys)).next ks xs p
    given_name t (kind.BuiltinName ∷ ks) xs p = absurd p
    given_name t (k ∷ ks) syntax.NoMore p = refl
    given_name t (k ∷ ks) (syntax.More x xs) p = given_name (value h t x).next ks xs p

    does_other : (b : Bool) (t u line : ℕ) (o : Op) (xs : syntax.Expressions) → is_free o ≡ b → Held (tree.Do u line o (given (kinds_of o) (operands (values h t xs).parts))) (asked test (entry o (name_among (kinds_of o) xs)))
    does_other true t u line o xs e = fewer (free (ap (λ b. if (not b && test o (bare_name (given (kinds_of o) (operands (values h t xs).parts)))) then 1 else 0) e)) (omega arith)
    does_other false t u line o xs e = subst (λ n. Held (tree.Do u line o (given (kinds_of o) (operands (values h t xs).parts))) (asked test (entry o n))) (given_name t (kinds_of o) xs (no_built_in o e)) did

    called_held : (u line : ℕ) (f : Operand) (os : List Operand) → Held (tree.Call u line f os) (asked test (bare op.Call))
    called_held u line f os = subst (λ n. Held (tree.Call u line f os) (asked test (entry op.Call n))) (no_name_of os) (record { most = entered false op.Call (bare_name (map argument.Value os)) })

    called_cost : (t u line : ℕ) (xs : syntax.Expressions) → Held (called u line (operands (values h t xs).parts)) (asked test (entry op.Call (name_among (kinds_of op.Call) xs)))
    called_cost t u line syntax.NoMore = did
    called_cost t u line (syntax.More x xs) = called_held u line (value h t x).part.value (operands (values h (value h t x).next xs).parts)

    does_by : (b : Bool) (t u line : ℕ) (o : Op) (xs : syntax.Expressions) → is_call o ≡ b → Held (does u line o (operands (values h t xs).parts)) (asked test (entry o (name_among (kinds_of o) xs)))
    does_by true t u line o xs e =
        subst (λ o. Held (does u line o (operands (values h t xs).parts)) (asked test (entry o (name_among (kinds_of o) xs)))) (sym (is_op_call o e)) (called_cost t u line xs)
    does_by false t u line o xs e =
        subst (λ b. Held (if b then called u line (operands (values h t xs).parts) else tree.Do u line o (given (kinds_of o) (operands (values h t xs).parts))) (asked test (entry o (name_among (kinds_of o) xs)))) (sym e)
        (does_other (is_free o) t u line o xs refl)

    does_cost : (t u line : ℕ) (o : Op) (xs : syntax.Expressions) → Held (does u line o (operands (values h t xs).parts)) (asked test (entry o (name_among (kinds_of o) xs)))
    does_cost t u line o xs = does_by (is_call o) t u line o xs refl

    -- the parts of defaults, and what puts them into their dict
    record KeywordsCost (t : ℕ) (ks : syntax.Keywords) : Type 0 where
      parts : ℕ
      all : ℕ
      most : parts + all ≤ 4 * asked test (own.defaulted ks)
      joins : (b : tree.Block) (k : ℕ) → Costs b k → Costs (joined (map (λ (n : Named). n.part) (keywords h t ks).parts) b) (parts + k)
      puts : (line to dict : ℕ) → Costs (puts_all line dict to (keywords h t ks).parts) all

    mutual
      unfolding name operate either choose chain starred dict call function comprehension yield_value delegate

      value_cost : (t : ℕ) (x : syntax.Expression) → Costs (value h t x).part.block (4 * asked test (own.expression x))
      value_cost t (syntax.Constant v) = less stop (omega arith)
      value_cost t (syntax.Name line home) = less (one (reads_cost h t line home)) (omega arith)
      value_cost t (syntax.Operation line o xs) =
          let e = split (entry o (name_among (kinds_of o) xs)) (own.each xs) in
          less (values_cost t xs _ _ (one (does_cost t (values h t xs).next line o xs))) (omega (arith, e))
      value_cost t (syntax.Junction line any x y) =
          let p = value h t x in let q = value h p.next y in let e = split (own.expression x) (own.expression y) in
          less (junction_cost line q.next any p.part q.part (value_cost t x) (value_cost p.next y)) (omega (arith, e))
      value_cost t (syntax.Conditional line test' x y) =
          let p = value h t x in let o = value h p.next test' in let q = value h o.next y in let e = split3 (own.expression test') (own.expression x) (own.expression y) in
          less (if_cost line q.next o.part.block o.part.value _ _ (value_cost p.next test') (into_cost (q.next + 1) p.part (value_cost t x)) (into_cost (q.next + 1) q.part (value_cost o.next y))) (omega (arith, e))
      value_cost t (syntax.Comparison line x ls) =
          let p = value h t x in let qs = links h p.next ls in let e = split (own.expression x) (own.compared ls) in
          less (both (value_cost t x) (links_cost line qs.next p.part.value p.next ls)) (omega (arith, e))
      value_cost t (syntax.Starred line false xs) =
          let ps = items h t xs in let e = split3 (bare op.List) (own.filled xs) [] in
          less (follow did (fill_cost line ps.next t xs)) (omega (arith, e))
      value_cost t (syntax.Starred line true xs) =
          let ps = items h t xs in let e = split3 (bare op.List) (own.filled xs) (bare op.Call) in
          less (both (follow did (fill_cost line ps.next t xs)) (skip (free refl) (one did))) (omega (arith, e))
      value_cost t (syntax.Dict line xs) =
          let ps = entries h t xs in let e = split (bare op.Dict) (own.entered xs) in
          less (follow did (enter_cost line ps.next t xs)) (omega (arith, e))
      value_cost t (syntax.Call line f xs) =
          let p = value h t f in let ps = arguments h p.next xs in let e = split5 (own.expression f) (bare op.List) (own.passed xs) (bare op.Dict) (bare op.CallX) in
          less (both (value_cost t f) (follow did (pass_cost line ps.next p.part.value false p.next xs))) (omega (arith, e))
      value_cost t (syntax.Function line code xs ks cells) =
          let ps = values h t xs in let qs = keywords h ps.next ks in
          let c = keywords_all ps.next ks in let l = c.most in
          let e = split3 (own.each xs) (own.defaulted ks) own.bare_function in let f = split3 (bare op.Tuple) (bare op.Dict) (bare op.Func) in
          less (values_cost t xs _ _ (c.joins _ _ (function_cost line code ps.parts qs.parts (cells_at h cells) qs.next (c.puts line (qs.next + 2) (qs.next + 1))))) (omega (arith, e, f, l))
      value_cost t (syntax.Comprehension line code x cells) =
          let p = value h t x in
          let e = split4 (own.expression x) (bare op.Iter) own.bare_function (bare op.Call) in let f = split3 (bare op.Tuple) (bare op.Dict) (bare op.Func) in
          less (both (value_cost t x) (follow did (both (function_cost line code [] [] (cells_at h cells) (p.next + 1) stop) (one did)))) (omega (arith, e, f))
      value_cost t (syntax.Yield line x) = less (both (value_cost t x) (none refl)) (omega arith)
      value_cost t (syntax.YieldFrom line x) =
          let p = value h t x in let e = split (own.expression x) own.delegates in less (delegate_cost line p.next p.part.block p.part.value (value_cost t x)) (omega (arith, e))

      values_cost : (t : ℕ) (xs : syntax.Expressions) (b : tree.Block) (k : ℕ) → Costs b k → Costs (joined (values h t xs).parts b) (4 * asked test (own.each xs) + k)
      values_cost t syntax.NoMore b k c = less c (omega arith)
      values_cost t (syntax.More x xs) b k c =
          let e = split (own.expression x) (own.each xs) in less (both (value_cost t x) (values_cost (value h t x).next xs b k c)) (omega (arith, e))

      links_cost : (line u : ℕ) (a : Operand) (t : ℕ) (ls : syntax.Links) → Costs (links_block line u a (links h t ls).parts) (4 * asked test (own.compared ls))
      links_cost line u a t (syntax.LastLink o negated x) =
          let p = value h t x in let e = split (own.expression x) (bare o) in
          less (link_cost line u a (record { op = o; negated = negated; right = p.part }) [] (value_cost t x) stop) (omega (arith, e))
      links_cost line u a t (syntax.Link o negated x ls) =
          let p = value h t x in let e = split3 (own.expression x) (bare o) (own.compared ls) in
          less (link_cost line u a (record { op = o; negated = negated; right = p.part }) _ (value_cost t x) (links_cost line u p.part.value p.next ls)) (omega (arith, e))

      fill_cost : (line u t : ℕ) (xs : syntax.Items) → Costs (fill_block line u (items h t xs).parts) (4 * asked test (own.filled xs))
      fill_cost line u t syntax.NoItem = less stop (omega arith)
      fill_cost line u t (syntax.Single x xs) =
          let e = split3 (own.expression x) (bare op.Push) (own.filled xs) in less (both (value_cost t x) (follow did (fill_cost line u (value h t x).next xs))) (omega (arith, e))
      fill_cost line u t (syntax.Spread x xs) =
          let e = split3 (own.expression x) (bare op.Extend) (own.filled xs) in less (both (value_cost t x) (follow did (fill_cost line u (value h t x).next xs))) (omega (arith, e))

      enter_cost : (line u t : ℕ) (xs : syntax.Entries) → Costs (enter_block line u (entries h t xs).parts) (4 * asked test (own.entered xs))
      enter_cost line u t syntax.NoEntry = less stop (omega arith)
      enter_cost line u t (syntax.Pair x y xs) =
          let p = value h t x in let q = value h p.next y in let e = split4 (own.expression x) (own.expression y) (bare op.Put) (own.entered xs) in
          less (both (value_cost t x) (both (value_cost p.next y) (follow did (enter_cost line u q.next xs)))) (omega (arith, e))
      enter_cost line u t (syntax.Merge x xs) =
          let e = split3 (own.expression x) (bare op.Merge) (own.entered xs) in less (both (value_cost t x) (follow did (enter_cost line u (value h t x).next xs))) (omega (arith, e))

      pass_cost : (line u : ℕ) (f : Operand) (begun : Bool) (t : ℕ) (xs : syntax.Arguments) → Costs (pass_block line u f begun (arguments h t xs).parts) (4 * asked test (own.passed xs) + (dict_left begun + asked test (bare op.CallX)))
      pass_cost line u f begun t syntax.NoArgument = less (keywords_cost line (u + 1) begun _ (one did)) (omega arith)
      pass_cost line u f begun t (syntax.Plain x xs) =
          let e = split3 (own.expression x) (bare op.Push) (own.passed xs) in less (both (value_cost t x) (follow did (pass_cost line u f begun (value h t x).next xs))) (omega (arith, e))
      pass_cost line u f begun t (syntax.Star x xs) =
          let e = split3 (own.expression x) (bare op.Extend) (own.passed xs) in less (both (value_cost t x) (follow did (pass_cost line u f begun (value h t x).next xs))) (omega (arith, e))
      pass_cost line u f begun t (syntax.Keyword key x xs) =
          let e = split3 (own.expression x) (bare op.KeyPut) (own.passed xs) in
          less (keywords_cost line (u + 1) begun _ (both (value_cost t x) (follow did (pass_cost line u f true (value h t x).next xs)))) (omega (arith, e))
      pass_cost line u f begun t (syntax.DoubleStar x xs) =
          let e = split3 (own.expression x) (bare op.KeyMerge) (own.passed xs) in
          less (keywords_cost line (u + 1) begun _ (both (value_cost t x) (follow did (pass_cost line u f true (value h t x).next xs)))) (omega (arith, e))

      keywords_all : (t : ℕ) (ks : syntax.Keywords) → KeywordsCost t ks
      keywords_all t syntax.NoKeyword = record { parts = 0; all = 0; most = omega arith; joins = λ b k c. less c (omega arith); puts = λ line to dict. stop }
      keywords_all t (syntax.Default key x ks) =
          let c = keywords_all (value h t x).next ks in let l = c.most in let e = split3 (own.expression x) (bare op.Put) (own.defaulted ks) in
          record {
            parts = 4 * asked test (own.expression x) + c.parts;
            all = asked test (bare op.Put) + c.all;
            most = omega (arith, l, e);
            joins = λ b k d. less (both (value_cost t x) (c.joins b k d)) (omega arith);
            puts = λ line to dict. follow did (c.puts line (to + 1) dict);
          }

    -- Targets

    mutual
      unfolding assign_name assign_attribute assign_index assign_each assign_starred

      assign_cost : (t u : ℕ) (o : Operand) (x : syntax.Target) → Costs (places.assign u o (place h t x).place).block (4 * asked test (own.assigned x))
      assign_cost t u o (syntax.ToName line home) = less (one (stores_cost h u line home o)) (omega arith)
      assign_cost t u o (syntax.ToAttribute line x key) = let e = split (own.expression x) (named op.SetAttr key) in less (both (value_cost t x) (one did)) (omega (arith, e))
      assign_cost t u o (syntax.ToIndex line x y) =
          let e = split3 (own.expression x) (own.expression y) (bare op.SetIndex) in less (both (value_cost t x) (both (value_cost (value h t x).next y) (one did))) (omega (arith, e))
      assign_cost t u o (syntax.ToEach line xs) =
          let e = split (bare op.Unpack) (own.unpacked xs) in less (follow did (takes_cost t (u + 1) line u 0 xs tree.Stop _ stop)) (omega (arith, e))
      assign_cost t u o (syntax.ToStarred line before star behind') =
          let ps = all_places h t before in let p = place h ps.next star in
          let xs = places.takes (u + 1) ps.all in let m = places.assign (xs.next + 1) (operand.Temp xs.next) p.place in
          let e = split5 (bare op.UnpackStar) (own.unpacked before) (bare op.Index) (own.assigned star) (own.unpacked behind') in
          less
          (follow did (takes_cost t (u + 1) line u 0 before _ _
          (follow did (both (assign_cost ps.next (xs.next + 1) (operand.Temp xs.next) star) (takes_cost p.next m.next line u _ behind' tree.Stop _ stop)))))
          (omega (arith, e))
      assign_cost t u o syntax.ToNothing = less stop (omega arith)

      takes_cost : (t u line list n : ℕ) (xs : syntax.Targets) (last : tree.Block) (k : ℕ) → Costs last k
          → Costs (items_block line list n (places.takes u (all_places h t xs).all).parts last) (4 * asked test (own.unpacked xs) + k)
      takes_cost t u line list n syntax.NoTarget last k c = less c (omega arith)
      takes_cost t u line list n (syntax.AlsoTo x xs) last k c =
          let p = place h t x in let m = places.assign (u + 1) (operand.Temp u) p.place in
          let e = split3 (bare op.Index) (own.assigned x) (own.unpacked xs) in
          less (follow did (both (assign_cost t (u + 1) (operand.Temp u) x) (takes_cost p.next m.next line list (n + 1) xs last k c))) (omega (arith, e))

    assign_all_cost : (t u : ℕ) (o : Operand) (xs : syntax.Targets) → Costs (places.assign_all u o (all_places h t xs).all).block (4 * asked test (own.all_assigned xs))
    assign_all_cost t u o syntax.NoTarget = less stop (omega arith)
    assign_all_cost t u o (syntax.AlsoTo x xs) =
        let p = place h t x in let e = split (own.assigned x) (own.all_assigned xs) in
        less (both (assign_cost t u o x) (assign_all_cost p.next (places.assign u o p.place).next o xs)) (omega (arith, e))

    mutual
      unfolding delete_name delete_attribute delete_index

      delete_cost : (t u : ℕ) (x : syntax.Target) → Costs (places.delete u (place h t x).place).block (4 * asked test (own.deleted x))
      delete_cost t u (syntax.ToName line home) = less (unbinds_cost h u line home) (omega arith)
      delete_cost t u (syntax.ToAttribute line x key) = let e = split (own.expression x) (named op.DelAttr key) in less (both (value_cost t x) (one did)) (omega (arith, e))
      delete_cost t u (syntax.ToIndex line x y) =
          let e = split3 (own.expression x) (own.expression y) (bare op.DelIndex) in less (both (value_cost t x) (both (value_cost (value h t x).next y) (one did))) (omega (arith, e))
      delete_cost t u (syntax.ToEach line xs) = delete_all_cost t u xs
      delete_cost t u (syntax.ToStarred line before star behind') = less stop (omega arith)
      delete_cost t u syntax.ToNothing = less stop (omega arith)

      delete_all_cost : (t u : ℕ) (xs : syntax.Targets) → Costs (places.delete_all u (all_places h t xs).all).block (4 * asked test (own.all_deleted xs))
      delete_all_cost t u syntax.NoTarget = less stop (omega arith)
      delete_all_cost t u (syntax.AlsoTo x xs) =
          let p = place h t x in let e = split (own.deleted x) (own.all_deleted xs) in
          less (both (delete_cost t u x) (delete_all_cost p.next (places.delete u p.place).next xs)) (omega (arith, e))

    operated_cost : {k m : ℕ} (line t : ℕ) (o : Op) (wb : tree.Block) (b : Operand) (last : tree.Block) → Costs wb k → Costs last m → Costs (operated_block line t o wb b last) (k + (asked test (bare o) + m))
    operated_cost line t o wb b last c d = both c (follow did d)

    augment_cost : {k : ℕ} (t u line : ℕ) (o : Op) (x : syntax.Target) (q : Carrier) → Costs q.block k → Costs (places.augment u line o (place h t x).place q).block (4 * asked test (own.augmented x) + k + asked test (bare o))
    unfolding augment_name augment_attribute augment_index
    augment_cost t u line o (syntax.ToName at' home) q c =
        let e = split (own.loads home) (own.stores home) in
        less (follow (reads_cost h u at' home) (operated_cost line u o q.block q.value _ c (one (stores_cost h (u + 2) at' home (operand.Temp (u + 1)))))) (omega (arith, e))
    augment_cost t u line o (syntax.ToAttribute at' x key) q c =
        let e = split3 (own.expression x) (named op.Attr key) (named op.SetAttr key) in
        less (both (value_cost t x) (follow did (operated_cost line u o q.block q.value _ c (one did)))) (omega (arith, e))
    augment_cost t u line o (syntax.ToIndex at' x y) q c =
        let e = split4 (own.expression x) (own.expression y) (bare op.Index) (bare op.SetIndex) in
        less (both (value_cost t x) (both (value_cost (value h t x).next y) (follow did (operated_cost line u o q.block q.value _ c (one did))))) (omega (arith, e))
    augment_cost t u line o (syntax.ToEach at' xs) q c = less stop (omega arith)
    augment_cost t u line o (syntax.ToStarred at' before star behind') q c = less stop (omega arith)
    augment_cost t u line o syntax.ToNothing q c = less stop (omega arith)

    bind_cost : (t : ℕ) (x : syntax.Target) → Costs (bind h t x).block (4 * asked test (own.assigned x))
    bind_cost t x = assign_cost (t + 1) (place h (t + 1) x).next (operand.Temp t) x

    bind_all_cost : (t : ℕ) (xs : syntax.Targets) → Costs (bind_all h t xs).block (4 * asked test (own.all_assigned xs))
    bind_all_cost t xs = assign_all_cost (t + 1) (all_places h (t + 1) xs).next (operand.Temp t) xs

    -- Statements

    while_cost : {k m n : ℕ} (line ov t : ℕ) (tb : tree.Block) (o : Operand) (bb ob : tree.Block) → Costs tb k → Costs bb m → Costs ob n → Costs (while_block line ov t tb o bb ob) (k + m + n)
    while_cost line ov t tb o bb ob c d e =
        skip (free refl) (less (follow (loop (if_cost line t tb o _ _ c (one (loop (both d (none refl)))) (none refl))) (one (choice e stop))) (omega arith))

    raises_cost : (line t : ℕ) (o : Operand) → Costs (tree.Follow (tree.Do t line op.Exc (argument.Value o ∷ [])) (alone (tree.Do (t + 1) line op.Raise (of_temp t ∷ [])))) (at op.Exc + at op.Raise)
    raises_cost line t o = follow did (one did)

    assert_cost : (line t' t u : ℕ) (tb : tree.Block) (o : Operand) (xs : syntax.Expressions) {k : ℕ} → Costs tb k
        → Costs (assert_block line u tb o (values h t xs).parts) (k + (4 * asked test (own.each xs) + (at op.Call + (at op.Exc + at op.Raise))))
    assert_cost line t' t u tb o xs c =
        less (if_cost line u tb o _ _ c stop (values_cost t xs _ _ (skip (free refl) (follow (did_bare (no_name (values h t xs).parts)) (raises_cost line (u + 1 + 2) (operand.Temp (u + 1 + 1))))))) (omega arith)

    for_turn_cost : {k m : ℕ} (line t item : ℕ) (bd bb : tree.Block) → Costs bd k → Costs bb m → Costs (for_turn_block line t item bd bb) (at op.Next + k + m)
    for_turn_cost line t item bd bb c d =
        less (follow (catch (one did) (none refl)) (one (choice (stopped_cost line (t + 2) (t + 3) _ (none refl)) (one (loop (both (both c d) (none refl))))))) (omega arith)

    for_cost : {k l m n : ℕ} (line t item : ℕ) (xb : tree.Block) (o : Operand) (bd bb ob : tree.Block) → Costs xb k → Costs bd l → Costs bb m → Costs ob n
        → Costs (for_block line t item xb o bd bb ob) (k + at op.Iter + at op.Next + l + m + n)
    for_cost line t item xb o bd bb ob c d e f =
        less (both c (follow did (skip (free refl) (follow (loop (for_turn_cost line t item bd bb d e)) (one (choice f stop)))))) (omega arith)

    over_cost : {k m : ℕ} (line t item from : ℕ) (bd bb : tree.Block) → Costs bd k → Costs bb m → Costs (over_block line t item from bd bb) (at op.Next + k + m)
    over_cost line t item from bd bb c d =
        skip (free refl) (skip (free refl) (less (follow (loop (for_turn_cost line t item bd bb c d)) (one (choice stop stop))) (omega arith)))

    guarded_cost : {k : ℕ} (t : ℕ) (b : tree.Block) → Costs b k → Costs (guarded_block t b) k
    guarded_cost t b c = less (follow (catch (redirected t 0 c) (none refl)) (none refl)) (omega arith)

    finally_cost : {k m : ℕ} (t : ℕ) (bb lb : tree.Block) → Costs bb k → Costs lb m → Costs (finally_block t bb lb) (k + m)
    finally_cost t bb lb c d = less (follow (loop (guarded_cost t bb c)) (both d (none refl))) (omega arith)

    with_cost : {k l m : ℕ} (line t item : ℕ) (mb : tree.Block) (o : Operand) (bd bb : tree.Block) → Costs mb k → Costs bd l → Costs bb m → Costs (with_block line t item mb o bd bb) (k + l + m + 4 * asked test own.manages)
    with_cost line t item mb o bd bb c d e =
        let all = many own.manages in
        less
        (both c (follow did (follow did (follow did (follow (loop (guarded_cost t _ (both d e)))
        (one (choice (follow did (follow did (follow did (skip (free refl) (none refl))))) (follow did (none refl)))))))))
        (omega (arith, all))

    -- Clauses

    clause_cost : {k : ℕ} (at' : ℕ) (called : Option syntax.Caught) (b : tree.Block) (t : ℕ) → Costs b k → Costs (clauses.clause_body at' (bound h called) b t).block (k + asked test (own.caught called))
    unfolding name_clause
    clause_cost at' None b t c = less c (omega arith)
    clause_cost at' (Some called) b t c =
        let e = split3 (own.stores called.home) (own.stores called.home) (own.unbinds called.home) in
        less
        (both (one (stores_cost h t called.line called.home (operand.Temp at')))
        (finally_cost (t + 3) b _ c (both (one (stores_cost h (t + 1) called.line called.home (operand.Const const.None))) (unbinds_cost h (t + 2) called.line called.home))))
        (omega (arith, e))

    try_cost : {k m n : ℕ} (t : ℕ) (bb hb ob : tree.Block) → Costs bb k → Costs hb m → Costs ob n → Costs (try_block t bb hb ob) (k + m + n)
    try_cost t bb hb ob c d e = skip (free refl) (less (follow (catch c (none refl)) (one (choice d e))) (omega arith))

    only_cost : {k m n : ℕ} (line x t : ℕ) (cb : tree.Block) (o : Operand) (bb rb : tree.Block) → Costs cb k → Costs bb m → Costs rb n → Costs (clause_block line x t cb o bb rb) (k + m + n)
    only_cost line x t cb o bb rb c d e = less (both c (skip (free refl) (one (choice d e)))) (omega arith)

    -- decorators, and their calls
    record DecoratorsCost (t : ℕ) (ds : List syntax.Decorator) : Type 0 where
      parts : ℕ
      calls : ℕ
      most : parts + calls ≤ 4 * asked test (own.decorated ds)
      joins : (b : tree.Block) (k : ℕ) → Costs b k → Costs (joined (map (λ (d : Decorator). d.part) (decorators h t ds).parts) b) (parts + k)
      called : (u : ℕ) (o : Operand) → Costs (decorated_block u (decorators h t ds).parts o) calls

    decorators_all : (t : ℕ) (ds : List syntax.Decorator) → DecoratorsCost t ds
    decorators_all t [] = record { parts = 0; calls = 0; most = omega arith; joins = λ b k c. less c (omega arith); called = λ u o. stop }
    decorators_all t (d ∷ ds) =
        let c = decorators_all (value h t d.is).next ds in let l = c.most in let e = split3 (own.expression d.is) (bare op.Call) (own.decorated ds) in
        record {
          parts = 4 * asked test (own.expression d.is) + c.parts;
          calls = c.calls + asked test (bare op.Call);
          most = omega (arith, l, e);
          joins = λ b k x. less (both (value_cost t d.is) (c.joins b k x)) (omega arith);
          called = λ u o. both (c.called u o) (one did);
        }

    again_cost : (caught : Option ℕ) (t : ℕ) → Costs (raise_again caught t).block 0
    again_cost None t = stop
    again_cost (Some x) t = none refl

    mutual
      unfolding return_value raise_value assert_that branch while_loop for_loop try_finally with_item decorate make_class assign_name try_block_of

      statement_cost : (caught : Option ℕ) (t : ℕ) (s : syntax.Statement) → Costs (statement h caught t s).block (4 * asked test (own.statement s))
      statement_cost caught t (syntax.Evaluate x) = value_cost t x
      statement_cost caught t (syntax.Assign xs x) =
          let ps = all_places h t xs in let p = value h ps.next x in let e = split (own.expression x) (own.all_assigned xs) in
          less (both (value_cost ps.next x) (assign_all_cost t p.next p.part.value xs)) (omega (arith, e))
      statement_cost caught t (syntax.Augment line o x y) =
          let p = place h t x in let q = value h p.next y in let e = split3 (own.augmented x) (own.expression y) (bare o) in
          less (augment_cost t q.next line o x q.part (value_cost p.next y)) (omega (arith, e))
      statement_cost caught t (syntax.Delete x) = delete_cost t (place h t x).next x
      statement_cost caught t syntax.Pass = less stop (omega arith)
      statement_cost caught t syntax.Break = less (none refl) (omega arith)
      statement_cost caught t syntax.Continue = less (none refl) (omega arith)
      statement_cost caught t (syntax.Return x) = less (both (value_cost t x) (none refl)) (omega arith)
      statement_cost caught t (syntax.Raise line x) =
          let p = value h t x in let e = split (own.expression x) own.raise_operations in let f = split (bare op.Exc) (bare op.Raise) in
          less (both (value_cost t x) (raises_cost line p.next p.part.value)) (omega (arith, e, f))
      statement_cost caught t syntax.Reraise = less (again_cost caught t) (omega arith)
      statement_cost caught t (syntax.Assert line x texts) =
          let p = value h t x in let ps = values h p.next texts in
          let e = split4 (own.expression x) (own.each texts) (bare op.Call) own.raise_operations in let f = split (bare op.Exc) (bare op.Raise) in
          less (assert_cost line t p.next ps.next p.part.block p.part.value texts (value_cost t x)) (omega (arith, e, f))
      statement_cost caught t (syntax.If line x body' other) =
          let p = value h t x in let b = block h caught p.next body' in let d = block h caught b.next other in let e = split3 (own.expression x) (own.block body') (own.block other) in
          less (if_cost line d.next p.part.block p.part.value b.block d.block (value_cost t x) (block_cost caught p.next body') (block_cost caught b.next other)) (omega (arith, e))
      statement_cost caught t (syntax.While line x body' other) =
          let p = value h t x in let b = block h caught p.next body' in let d = block h caught b.next other in let e = split3 (own.expression x) (own.block body') (own.block other) in
          less (while_cost line d.next (d.next + 1) p.part.block p.part.value b.block d.block (value_cost t x) (block_cost caught p.next body') (block_cost caught b.next other)) (omega (arith, e))
      statement_cost caught t (syntax.For line x over' body' other) =
          let i = bind h t x in let p = value h i.next over' in let b = block h caught p.next body' in let d = block h caught b.next other in
          let e = split6 (own.expression over') (bare op.Iter) (bare op.Next) (own.assigned x) (own.block body') (own.block other) in
          less (for_cost line d.next t p.part.block p.part.value i.block b.block d.block (value_cost i.next over') (bind_cost t x) (block_cost caught p.next body') (block_cost caught b.next other)) (omega (arith, e))
      statement_cost caught t (syntax.Try body' handlers other) =
          let b = block h caught t body' in let cs = except h b.next handlers in let d = block h caught cs.next other in
          let gs = clauses.guards d.next cs.parts in
          let e = split3 (own.block body') (own.handled handlers) (own.block other) in
          less (try_cost gs.next b.block _ d.block (block_cost caught t body') (except_cost gs.next d.next b.next handlers) (block_cost caught cs.next other)) (omega (arith, e))
      statement_cost caught t (syntax.Finally body' last) =
          let b = block h caught t body' in let d = block h None b.next last in let e = split (own.block body') (own.block last) in
          less (finally_cost d.next b.block d.block (block_cost caught t body') (block_cost None b.next last)) (omega (arith, e))
      statement_cost caught t (syntax.With line x xs body') =
          let p = value h t x in let i = bind_all h p.next xs in let b = block h caught i.next body' in
          let e = split4 (own.expression x) own.manages (own.all_assigned xs) (own.block body') in
          less (with_cost line b.next p.next p.part.block p.part.value i.block b.block (value_cost t x) (bind_all_cost p.next xs) (block_cost caught i.next body')) (omega (arith, e))
      statement_cost caught t (syntax.Define line ds f home) =
          let ps = decorators h t ds in let p = value h ps.next f in let c = decorators_all t ds in let l = c.most in
          let e = split3 (own.decorated ds) (own.expression f) (own.stores home) in
          less (both (c.joins _ _ (both (value_cost ps.next f) (c.called p.next p.part.value))) (one (stores_cost h _ line home _))) (omega (arith, e, l))
      statement_cost caught t (syntax.Class line ds key base code cells home) =
          let ps = decorators h t ds in let p = value h ps.next base in let c = decorators_all t ds in let l = c.most in
          let e = split6 (own.decorated ds) (own.expression base) (bare op.Space) own.bare_function (bare op.Call) (named op.Class key) in
          let f = split (own.decorated ds ++ own.expression base ++ bare op.Space ++ own.bare_function ++ bare op.Call ++ named op.Class key) (own.stores home) in
          let g = split3 (bare op.Tuple) (bare op.Dict) (bare op.Func) in
          less
          (both
          (c.joins _ _ (both (value_cost ps.next base) (both (follow did (both (function_cost line code [] [] (cells_at h cells) (p.next + 1) stop) (follow did (one did)))) (c.called (p.next + 6) (operand.Temp (p.next + 5))))))
          (one (stores_cost h _ line home _)))
          (omega (arith, e, f, g, l))

      block_cost : (caught : Option ℕ) (t : ℕ) (b : syntax.Block) → Costs (block h caught t b).block (4 * asked test (own.block b))
      block_cost caught t syntax.Done = less stop (omega arith)
      block_cost caught t (syntax.Then s rest) =
          let e = split (own.statement s) (own.block rest) in less (both (statement_cost caught t s) (block_cost caught (statement h caught t s).next rest)) (omega (arith, e))

      -- what follows the exception in x
      except_cost : (x u t : ℕ) (hs : syntax.Handlers) → Costs (clauses.handles x (clauses.guards u (except h t hs).parts).parts) (4 * asked test (own.handled hs))
      except_cost x u t syntax.NoHandler = less (none refl) (omega arith)
      except_cost x u t (syntax.Bare body') = less (skip (free refl) (block_cost (Some t) (t + 1) body')) (omega arith)
      except_cost x u t (syntax.Handler line class called body' rest) =
          let p = value h t class in let b = block h (Some p.next) (p.next + 1) body' in
          let e = split4 (own.expression class) (own.caught called) (own.block body') (own.handled rest) in
          less
          (only_cost line x _ p.part.block p.part.value _ _ (value_cost t class) (skip (free refl) (clause_cost p.next called b.block _ (block_cost (Some p.next) (p.next + 1) body'))) (except_cost x u b.next rest))
          (omega (arith, e))

    -- Comprehensions

    -- what is asked by what is collected, without its clauses
    abbrev leaf_asked : syntax.Turns → ℕ
    leaf_asked (syntax.Push x) = asked test (own.collected (syntax.Push x))
    leaf_asked (syntax.Put key x) = asked test (own.collected (syntax.Put key x))
    leaf_asked (syntax.Emit x) = asked test (own.collected (syntax.Emit x))
    leaf_asked (syntax.Ranging x over' inner) = leaf_asked inner
    leaf_asked (syntax.Filter x inner) = leaf_asked inner

    module _ (line : ℕ) where
      element_cost : (t : ℕ) (into : Operand) (inner : syntax.Turns) → Costs (element h t line into inner).block (4 * leaf_asked inner)
      unfolding push put emit
      element_cost t into (syntax.Push x) = let e = split (own.expression x) (bare op.Push) in less (both (value_cost t x) (one did)) (omega (arith, e))
      element_cost t into (syntax.Put key x) =
          let e = split3 (own.expression key) (own.expression x) (bare op.Put) in less (both (value_cost t key) (both (value_cost (value h t key).next x) (one did))) (omega (arith, e))
      element_cost t into (syntax.Emit x) = less (both (value_cost t x) (none refl)) (omega arith)
      element_cost t into (syntax.Ranging x over' inner) = element_cost t into inner
      element_cost t into (syntax.Filter x inner) = element_cost t into inner

      turns_cost : (t : ℕ) (b : tree.Block) (inner : syntax.Turns) → Costs b (4 * leaf_asked inner) → Costs (turns h t line b inner).block (4 * asked test (own.collected inner))
      unfolding for_loop filter
      turns_cost t b (syntax.Push x) c = c
      turns_cost t b (syntax.Put key x) c = c
      turns_cost t b (syntax.Emit x) c = c
      turns_cost t b (syntax.Ranging x over' inner) c =
          let i = bind h t x in let q = value h i.next over' in let m = turns h q.next line b inner in
          let e = split5 (own.expression over') (bare op.Iter) (bare op.Next) (own.assigned x) (own.collected inner) in
          less (for_cost line m.next t q.part.block q.part.value i.block m.block tree.Stop (value_cost i.next over') (bind_cost t x) (turns_cost q.next b inner c) stop) (omega (arith, e))
      turns_cost t b (syntax.Filter x inner) c =
          let q = value h t x in let m = turns h q.next line b inner in let e = split (own.expression x) (own.collected inner) in
          less (if_cost line m.next q.part.block q.part.value m.block tree.Stop (value_cost t x) (turns_cost q.next b inner c) stop) (omega (arith, e))

      first_cost : (t : ℕ) (into : Operand) (x : syntax.Target) (inner : syntax.Turns) → Costs (first_loop h t line into x inner) (at op.Next + 4 * asked test (own.assigned x) + 4 * asked test (own.collected inner))
      unfolding over
      first_cost t into x inner =
          let e = element h t line into inner in let i = bind h e.next x in let m = turns h i.next line e.block inner in
          over_cost line m.next e.next (local_at h 0) i.block m.block (bind_cost e.next x) (turns_cost i.next e.block inner (element_cost t into inner))

    collect_cost : (t line : ℕ) (into : Option Op) (x : syntax.Target) (inner : syntax.Turns) → Costs (collect h t line into x inner) (4 * asked test (own.body (syntax.Collect line into x inner)))
    unfolding gather
    collect_cost t line None x inner =
        let e = split4 [] (bare op.Next) (own.assigned x) (own.collected inner) in less (first_cost line t (operand.Const const.None) x inner) (omega (arith, e))
    collect_cost t line (Some o) x inner =
        let e = split4 (bare o) (bare op.Next) (own.assigned x) (own.collected inner) in
        less (follow did (both (first_cost line (t + 1) (operand.Temp t) x inner) (none refl))) (omega (arith, e))

    -- Bodies, and what stands before them

    body_cost : (t : ℕ) (b : syntax.Body) → Costs (body h t b) (4 * asked test (own.body b))
    unfolding return_value
    body_cost t (syntax.Statements b) = block_cost None t b
    body_cost t (syntax.Value' x) = less (both (value_cost t x) (none refl)) (omega arith)
    body_cost t (syntax.Collect line into x inner) = collect_cost t line into x inner

    filled_cost : {k : ℕ} (line t place' : ℕ) (x : Option ℕ) (b : tree.Block) → Costs b k → Costs (filled_block h line t place' x b) k
    filled_cost line t place' None b c = c
    filled_cost line t place' (Some at') b c = skip (free refl) c

    cells_cost : {k : ℕ} (line t place' : ℕ) (xs : List (Option ℕ)) (b : tree.Block) → Costs b k → Costs (cells_block h line t place' xs b) k
    cells_cost line t place' [] b c = c
    cells_cost line t place' (x ∷ xs) b c = skip (free refl) (filled_cost line t place' x _ (cells_cost line t (place' + 1) xs b c))

    unset_cost : {k : ℕ} (place' n : ℕ) (b : tree.Block) → Costs b k → Costs (unset_block h place' n b) k
    unset_cost place' zero b c = c
    unset_cost place' (suc n) b c = skip (free refl) (unset_cost (place' + 1) n b c)

  code_cost : (c : syntax.Code) → Costs (code_nodes c) (4 * asked test (own.own c))
  code_cost c =
      let h = homes_of c in unset_cost h h.params (c.locals - h.params) _ (cells_cost h c.header.line (behind h) 0 c.owns _ (body_cost h (behind h) c.body))

pub codes_counted : CodesAreCounted
codes_counted test c = (code_cost test c).most
