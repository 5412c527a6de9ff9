-- Calls of the methods of dicts use only what they are given, what they find there and what they make.
use Rattle.std.proofs.Common.{ℕ, List, [], ◌∷◌, Option, Some, None, Ok, Err, inl}
use Rattle.std.specs.Prelude.{codes, slice_get, remove}
use Rattle.std.specs.Str.{bytes_eq}
use Rattle.nu_value.specs.declared.key.Atom.{Atom}
use Rattle.nu_value.specs.declared.object.Object.{Object}
use Rattle.nu_value.specs.declared.object.Object.TheVariants as object
use Rattle.nu_value.specs.declared.object.ViewKind.{ViewKind}
use Rattle.nu_value.specs.declared.object.ViewKind.TheVariants as view
use Rattle.nu_value.specs.declared.value.Value.{Value}
use Rattle.nu_value.specs.declared.value.Value.TheVariants as value
use Rattle.nu_value.specs.Names.{NameList}
use Rattle.nu_value.specs.Pairs.{PairList, found_at, key_place, mapped_value, with_pair}
use Rattle.op_forms.specs.declared.end.OpEnd.{OpEnd}
use Rattle.op_forms.specs.declared.end.OpEnd.TheVariants as opend
use Rattle.op_forms.specs.declared.world.World.{World}
use Rattle.op_forms.specs.Doing.{Put, Fit, Doing}
use Rattle.op_forms.specs.Parts.{AllOf, NamesOf, PairsOf, ValueOf, OrUnset}
use Rattle.op_forms.specs.Right.{Claim, KnownObject, Known, Closed, EndOf, Right}
use Rattle.op_forms.specs.Sound.{AreNamesDistinct, HasKey, AreKeysDistinct, AreKeyed}
use Rattle.op_forms.proofs.Dicts.{distinct_put, keyed_put, pairs_with}
use Rattle.op_rules.specs.DictMethods as spec
use Rattle.op_rules.specs.Keys.{KeyOr, key_or_end}
use Rattle.op_rules.proofs.Asks.{asks_right}
use Rattle.op_rules.proofs.Keys.{KeyOf, key_right, key_error_end}
use Rattle.op_rules.proofs.Removal.{distinct_removed, pairs_removed, keyed_removed}
use Rattle.op_rules.proofs.Usual.{ended, idle, given_right, change_right, giving_right, made_right, if_right}
use Rattle.op_rules.proofs.Views.{value_end, mapped_known, len_end}

-- what is put into a dict, pair by pair
module _ (P : Value → Type 0) (h : List Object) where
  pub all_parts : (ps qs : PairList) → PairsOf P ps → PairsOf P qs → PairsOf P (spec.put_all ps qs)
  all_parts ps [] p q = p
  all_parts ps (x ∷ qs) p q = all_parts (with_pair ps x.0 x.1 x.2) qs (pairs_with P ps x.0 x.1 x.2 p q.0 q.1) q.2

  pub all_distinct : (ps qs : PairList) → AreKeysDistinct ps → AreKeysDistinct (spec.put_all ps qs)
  all_distinct ps [] p = p
  all_distinct ps (x ∷ qs) p = all_distinct (with_pair ps x.0 x.1 x.2) qs (distinct_put ps x.0 x.1 x.2 p)

  pub all_keyed : (ps qs : PairList) → AreKeyed h ps → AreKeyed h qs → AreKeyed h (spec.put_all ps qs)
  all_keyed ps [] p q = p
  all_keyed ps (x ∷ qs) p q = all_keyed (with_pair ps x.0 x.1 x.2) qs (keyed_put h ps x.0 x.1 x.2 p q.0) q.1

module _ (c : Claim) (w : World) (k : Closed c w) where
  on_dict_right : (n : ℕ) (o : Option Object) (f : PairList → Doing) → Known c w n o → ((pairs : PairList) → KnownObject c w n (object.Dict pairs) → Right c w (f pairs))
      → Right c w (spec.on_dict f o)
  on_dict_right n (Some (object.Dict pairs)) f p r = r pairs p
  on_dict_right n o f p r = idle c w k

  abbrev Called : ℕ → (Option Object → Doing) → Type 0
  Called n f = (o : Option Object) → Known c w n o → Right c w (f o)

  -- ---- `get`

  get_end : (pairs : PairList) (other : Value) (key : Value) (r : KeyOr) → PairsOf c.of pairs → c.of other → KeyOf c w key r → EndOf c w (spec.get_keyed pairs other r)
  get_end pairs other key (Ok x) p q r = value_end c w k (mapped_value pairs x) (opend.Give other) (mapped_known c w k pairs (key_place pairs x) p) q
  get_end pairs other key (Err e) p q r = r

  get_right : (n : ℕ) (key other : Value) → c.of other → Called n (spec.get w.heap key other)
  get_right n key other q o p =
      on_dict_right n o _ p (λ pairs known. ended c w k _ (get_end pairs other key (key_or_end w.heap key) known.parts q (key_right c w k key)))

  get_call_right : (n : ℕ) (args : List Value) → AllOf c.of args → Called n (spec.get_call w.heap args)
  get_call_right n (key ∷ []) q = get_right n key value.None (k.plain value.None tt)
  get_call_right n (key ∷ other ∷ []) q = get_right n key other q.1.0
  get_call_right n args q = λ o p. idle c w k

  -- ---- `pop`

  other_end : (key : Value) (other : Option Value) → c.of key → ValueOf c.of other → EndOf c w (spec.other_or key other)
  other_end key None p q = key_error_end c w k key p
  other_end key (Some v) p q = q

  pop_at_right : (n : ℕ) (pairs : PairList) (other : OpEnd) (place : ℕ) (v : Option Value) → KnownObject c w n (object.Dict pairs) → c.of (value.Obj n) → EndOf c w other → ValueOf c.of v
      → Right c w (spec.pop_at n pairs other place v)
  pop_at_right n pairs other place None known s q r = ended c w k other q
  pop_at_right n pairs other place (Some v) known s q r =
      giving_right c w k n (Fit (remove pairs place)) v
      ((pairs_removed c.of pairs place known.parts, distinct_removed pairs place known.links.0, keyed_removed w.heap pairs place known.links.1), inl s) r

  pop_found_right : (n : ℕ) (pairs : PairList) (other : OpEnd) (place : Option ℕ) → KnownObject c w n (object.Dict pairs) → c.of (value.Obj n) → EndOf c w other
      → Right c w (spec.pop_found n pairs other place)
  pop_found_right n pairs other None known s q = ended c w k other q
  pop_found_right n pairs other (Some place) known s q =
      pop_at_right n pairs other place (spec.mapped_by pairs place) known s q (mapped_known c w k pairs place known.parts)

  pop_keyed_right : (n : ℕ) (pairs : PairList) (other : OpEnd) (key : Value) (r : KeyOr) → KnownObject c w n (object.Dict pairs) → c.of (value.Obj n) → EndOf c w other → KeyOf c w key r
      → Right c w (spec.pop_keyed n pairs other r)
  pop_keyed_right n pairs other key (Ok x) known s q r = pop_found_right n pairs other (found_at pairs x) known s q
  pop_keyed_right n pairs other key (Err e) known s q r = ended c w k e r

  pop_right : (n : ℕ) (key : Value) (other : Option Value) → c.of (value.Obj n) → c.of key → ValueOf c.of other → Called n (spec.pop w.heap n key other)
  pop_right n key other s p q o known =
      on_dict_right n o _ known (λ pairs d. pop_keyed_right n pairs (spec.other_or key other) key (key_or_end w.heap key) d s (other_end key other p q) (key_right c w k key))

  pop_call_right : (n : ℕ) (args : List Value) → c.of (value.Obj n) → AllOf c.of args → Called n (spec.pop_call w.heap n args)
  pop_call_right n (key ∷ []) s q = pop_right n key None s q.0 tt
  pop_call_right n (key ∷ other ∷ []) s q = pop_right n key (Some other) s q.0 q.1.0
  pop_call_right n args s q = λ o p. idle c w k

  -- ---- `setdefault`

  default_or_right : (n : ℕ) (x : List Atom) (key other : Value) (v : Option Value) → c.of (value.Obj n) → c.of key → c.of other → HasKey w.heap x key → ValueOf c.of v
      → Right c w (spec.default_or n x key other v)
  default_or_right n x key other None s p q r t = giving_right c w k n (Put x key other) other ((p, q, r), inl s) q
  default_or_right n x key other (Some v) s p q r t = given_right c w k v t

  default_keyed_right : (n : ℕ) (pairs : PairList) (key other : Value) (r : KeyOr) → PairsOf c.of pairs → c.of (value.Obj n) → c.of key → c.of other → KeyOf c w key r
      → Right c w (spec.default_keyed n pairs key other r)
  default_keyed_right n pairs key other (Ok x) t s p q r = default_or_right n x key other (mapped_value pairs x) s p q r (mapped_known c w k pairs (key_place pairs x) t)
  default_keyed_right n pairs key other (Err e) t s p q r = ended c w k e r

  setdefault_right : (n : ℕ) (key other : Value) → c.of (value.Obj n) → c.of key → c.of other → Called n (spec.setdefault w.heap n key other)
  setdefault_right n key other s p q o known =
      on_dict_right n o _ known (λ pairs d. default_keyed_right n pairs key other (key_or_end w.heap key) d.parts s p q (key_right c w k key))

  setdefault_call_right : (n : ℕ) (args : List Value) → c.of (value.Obj n) → AllOf c.of args → Called n (spec.setdefault_call w.heap n args)
  setdefault_call_right n (key ∷ []) s q = setdefault_right n key value.None s q.0 (k.plain value.None tt)
  setdefault_call_right n (key ∷ other ∷ []) s q = setdefault_right n key other s q.0 q.1.0
  setdefault_call_right n args s q = λ o p. idle c w k

  -- ---- views, `clear` and `copy`

  view_right : (n : ℕ) (kind : ViewKind) (args : List Value) → c.of (value.Obj n) → Called n (spec.view_call w.heap n kind args)
  view_right n kind [] s o p = on_dict_right n o _ p (λ pairs d. made_right c w k (object.View n kind) (s, d.sort, tt))
  view_right n kind args s o p = idle c w k

  clear_right : (n : ℕ) (args : List Value) → c.of (value.Obj n) → Called n (spec.clear_call n args)
  clear_right n [] s o p = on_dict_right n o _ p (λ pairs d. change_right c w k n (Fit []) ((tt, tt, tt), inl s))
  clear_right n args s o p = idle c w k

  copy_right : (n : ℕ) (args : List Value) → Called n (spec.copy_call w.heap args)
  copy_right n [] o p =
      on_dict_right n o _ p (λ pairs d.
      made_right c w k (object.Dict (spec.put_all [] pairs))
      (all_parts c.of w.heap [] pairs tt d.parts, (all_distinct c.of w.heap [] pairs tt, all_keyed c.of w.heap [] pairs tt d.links.1), tt))
  copy_right n args o p = idle c w k

  -- ---- by name

  changing_right : (name : List ℕ) (n : ℕ) (args : List Value) → c.of (value.Obj n) → AllOf c.of args → Called n (spec.changing_call w.heap name n args)
  changing_right name n args s q o p =
      if_right c w k (bytes_eq name (codes "pop")) _ _ (pop_call_right n args s q o p)
      (if_right c w k (bytes_eq name (codes "setdefault")) _ _ (setdefault_call_right n args s q o p)
      (if_right c w k (bytes_eq name (codes "clear")) _ _ (clear_right n args s o p) (idle c w k)))

  viewing_right : (name : List ℕ) (n : ℕ) (args : List Value) → c.of (value.Obj n) → AllOf c.of args → Called n (spec.viewing_call w.heap name n args)
  viewing_right name n args s q o p =
      if_right c w k (bytes_eq name (codes "keys")) _ _ (view_right n view.Keys args s o p)
      (if_right c w k (bytes_eq name (codes "values")) _ _ (view_right n view.Values args s o p)
      (if_right c w k (bytes_eq name (codes "items")) _ _ (view_right n view.Both args s o p) (changing_right name n args s q o p)))

  plain_right : (name : List ℕ) (n : ℕ) (args : List Value) → c.of (value.Obj n) → AllOf c.of args → Called n (spec.plain_call w.heap name n args)
  plain_right name n args s q o p =
      if_right c w k (bytes_eq name (codes "get")) _ _ (get_call_right n args q o p)
      (if_right c w k (bytes_eq name (codes "copy")) _ _ (copy_right n args o p) (viewing_right name n args s q o p))

  without_right : (names : NameList) (d : Doing) → Right c w d → Right c w (spec.without_keywords names d)
  without_right [] d p = p
  without_right (q ∷ names) d p = idle c w k

  update_right : (n : ℕ) (args : List Value) (names : NameList) → c.of (value.Obj n) → AllOf c.of args → NamesOf c.of names → AreNamesDistinct names
      → Called n (spec.update_call w.heap n args names)
  update_right n args names s q r d o p =
      on_dict_right n o _ p (λ pairs known. ended c w k _ (asks_right c w k (codes "_nu_update") (value.Obj n ∷ args) names _ (s, q) r d tt))

  call_right : (name : List ℕ) (n : ℕ) (args : List Value) (names : NameList) → c.of (value.Obj n) → AllOf c.of args → NamesOf c.of names → AreNamesDistinct names
      → Called n (spec.call_on w.heap name n args names)
  call_right name n args names s q r d o p =
      if_right c w k (bytes_eq name (codes "update")) _ _ (update_right n args names s q r d o p)
      (without_right names (spec.plain_call w.heap name n args o) (plain_right name n args s q o p))

  len_right : (args : List Value) → Right c w (spec.len_call w.heap args)
  len_right (x ∷ []) = ended c w k _ (len_end c w k x)
  len_right args = idle c w k

  native_right : (name : List ℕ) (args : List Value) (names : NameList) → Right c w (spec.native_call w.heap name args names)
  native_right name args names = if_right c w k (bytes_eq name (codes "len")) _ _ (without_right names (spec.len_call w.heap args) (len_right args)) (idle c w k)

  pub method_right : (name : List ℕ) (receiver : Value) (args : List Value) (names : NameList) → OrUnset c.of receiver → AllOf c.of args → NamesOf c.of names → AreNamesDistinct names
      → Right c w (spec.method_call w.heap name receiver args names)
  method_right name (value.Obj n) args names p q r d = call_right name n args names p q r d (slice_get w.heap n) (k.objects n)
  method_right name value.Unset args names p q r d = native_right name args names
  method_right name receiver args names p q r d = idle c w k
