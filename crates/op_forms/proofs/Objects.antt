-- The parts and links of objects, where a claim follows from another, and where one is changed.
use Rattle.std.proofs.Common.{◌≡◌, ℕ, ◌<◌, List, [], ◌∷◌, Option, Some, None, false, refl, sym, subst, ◌∙◌, arith, length}
use Rattle.std.specs.Prelude.{slice_get}
use Rattle.std.proofs.lemmas.Option.{slice_get_within}
use Rattle.nu_value.specs.declared.value.Value.{Value}
use Rattle.nu_value.specs.declared.value.Value.TheVariants as value
use Rattle.nu_value.specs.declared.object.Object.{Object}
use Rattle.nu_value.specs.declared.object.Object.TheVariants as object
use Rattle.nu_value.specs.Keyed.{object_kind}
use Rattle.nu_value.specs.Names.{NameList}
use Rattle.nu_value.specs.Pairs.{PairList}
use Rattle.op_forms.specs.declared.world.World.{World}
use Rattle.op_forms.specs.Doing.{Change, Fill, Bind, Unbind, Hold, Move, Finish, Put, Fit, changed_by}
use Rattle.op_forms.specs.Parts.{AllOf, NamesOf, PairsOf, OrUnset, NumberOf, PartsOf}
use Rattle.op_forms.specs.Right.{Grows, Claim, ChangeOf}
use Rattle.op_forms.specs.Sound.{Sort, sort_of, IsA, IsIn, AreCells, BaseIn, CauseIn, Iterates, IsOver, LinksIn, ObjectIn, SoundHeap}
use Rattle.op_forms.proofs.Bindings.{distinct_with, distinct_without, names_with, names_without}
use Rattle.op_forms.proofs.Dicts.{distinct_put, keyed_put, pairs_with}
use Rattle.op_forms.proofs.Keys.{keyed_more}

-- ---- from two claims to another

module _ (P Q R : Value → Type 0) (f : (v : Value) → P v → Q v → R v) where
  pub all_from : (vs : List Value) → AllOf P vs → AllOf Q vs → AllOf R vs
  all_from [] p q = tt
  all_from (v ∷ vs) p q = (f v p.0 q.0, all_from vs p.1 q.1)

  pub names_from : (ps : NameList) → NamesOf P ps → NamesOf Q ps → NamesOf R ps
  names_from [] p q = tt
  names_from (x ∷ ps) p q = (f x.1 p.0 q.0, names_from ps p.1 q.1)

  pairs_from : (ps : PairList) → PairsOf P ps → PairsOf Q ps → PairsOf R ps
  pairs_from [] p q = tt
  pairs_from (x ∷ ps) p q = (f x.1 p.0 q.0, f x.2 p.1 q.1, pairs_from ps p.2 q.2)

  unset_from : (v : Value) → OrUnset P v → OrUnset Q v → OrUnset R v
  unset_from value.Unset p q = tt
  unset_from v p q = f v p q

  number_from : (n : Option ℕ) → NumberOf P n → NumberOf Q n → NumberOf R n
  number_from None p q = tt
  number_from (Some n) p q = f (value.Obj n) p q

  pub parts_from : (o : Object) → PartsOf P o → PartsOf Q o → PartsOf R o
  parts_from (object.Tuple items) p q = all_from items p q
  parts_from (object.List items) p q = all_from items p q
  parts_from (object.Dict pairs) p q = pairs_from pairs p q
  parts_from (object.Range start stop step) p q = tt
  parts_from (object.Function code defaults keywords cells) p q =
      (all_from defaults p.0 q.0, names_from keywords p.1 q.1, all_from cells p.2 q.2)
  parts_from (object.Method receiver function) p q = (f receiver p.0 q.0, f (value.Obj function) p.1 q.1)
  parts_from (object.Class name base own native) p q = (number_from base p.0 q.0, names_from own p.1 q.1)
  parts_from (object.Instance class fields) p q = (f (value.Obj class) p.0 q.0, names_from fields p.1 q.1)
  parts_from (object.Generator code state given cells) p q = (all_from given p.0 q.0, all_from cells p.1 q.1)
  parts_from (object.Iterator over place size over_now) p q = f over p q
  parts_from (object.View dict kind) p q = f (value.Obj dict) p q
  parts_from (object.Cell v) p q = unset_from v p q
  parts_from (object.Space names) p q = names_from names p q
  parts_from (object.Exception class args entries fields cause) p q =
      (f (value.Obj class) p.0 q.0, all_from args p.1 q.1, names_from fields p.2 q.2, number_from cause p.3 q.3)
  parts_from (object.Builtin name receiver) p q = unset_from receiver p q
  parts_from (object.Trace exception) p q = f (value.Obj exception) p q

module _ (P Q : Value → Type 0) (f : (v : Value) → P v → Q v) where
  pub all_by : (vs : List Value) → AllOf P vs → AllOf Q vs
  all_by vs p = all_from P P Q (λ v x y. f v x) vs p p

  pub names_by : (ps : NameList) → NamesOf P ps → NamesOf Q ps
  names_by ps p = names_from P P Q (λ v x y. f v x) ps p p

  pub parts_by : (o : Object) → PartsOf P o → PartsOf Q o
  parts_by o p = parts_from P P Q (λ v x y. f v x) o p p

-- ---- where an object is changed

pub changed_parts : (c : Claim) (w : World) (k : Change) (o : Object) → PartsOf c.of o → ChangeOf c w k → PartsOf c.of (changed_by k o)
changed_parts c w (Fill items) (object.List old) p q = q
changed_parts c w (Bind name v) (object.Space names) p q = names_with c.of names name v p q
changed_parts c w (Bind name v) (object.Instance class fields) p q = (p.0, names_with c.of fields name v p.1 q)
changed_parts c w (Bind name v) (object.Exception class args entries fields cause) p q =
    (p.0, p.1, names_with c.of fields name v p.2 q, p.3)
changed_parts c w (Bind name v) (object.Class own base names false) p q = (p.0, names_with c.of names name v p.1 q)
changed_parts c w (Unbind name) (object.Space names) p q = names_without c.of names name p
changed_parts c w (Unbind name) (object.Instance class fields) p q = (p.0, names_without c.of fields name p.1)
changed_parts c w (Unbind name) (object.Exception class args entries fields cause) p q =
    (p.0, p.1, names_without c.of fields name p.2, p.3)
changed_parts c w (Unbind name) (object.Class own base names false) p q = (p.0, names_without c.of names name p.1)
changed_parts c w (Hold v) (object.Cell old) p q = q
changed_parts c w (Move place size) (object.Iterator over old older over_now) p q = p
changed_parts c w Finish (object.Iterator over place size over_now) p q = p
changed_parts c w (Put key given v) (object.Dict pairs) p q = pairs_with c.of pairs key given v p q.0 q.1
changed_parts c w (Fit pairs) (object.Dict old) p q = q.0
changed_parts c w k o p q = p

pub changed_links : (c : Claim) (w : World) (codes n : ℕ) (k : Change) (o : Object) → LinksIn codes w.heap n o → ChangeOf c w k → LinksIn codes w.heap n (changed_by k o)
changed_links c w codes n (Fill items) (object.List old) l q = l
changed_links c w codes n (Bind name v) (object.Space names) l q = distinct_with names name v l
changed_links c w codes n (Bind name v) (object.Instance class fields) l q = (l.0, distinct_with fields name v l.1)
changed_links c w codes n (Bind name v) (object.Exception class args entries fields cause) l q =
    (l.0, distinct_with fields name v l.1, l.2)
changed_links c w codes n (Bind name v) (object.Class own base names false) l q = (l.0, distinct_with names name v l.1)
changed_links c w codes n (Unbind name) (object.Space names) l q = distinct_without names name l
changed_links c w codes n (Unbind name) (object.Instance class fields) l q = (l.0, distinct_without fields name l.1)
changed_links c w codes n (Unbind name) (object.Exception class args entries fields cause) l q =
    (l.0, distinct_without fields name l.1, l.2)
changed_links c w codes n (Unbind name) (object.Class own base names false) l q = (l.0, distinct_without names name l.1)
changed_links c w codes n (Hold v) (object.Cell old) l q = l
changed_links c w codes n (Move place size) (object.Iterator over old older over_now) l q = l
changed_links c w codes n Finish (object.Iterator over place size over_now) l q = l
changed_links c w codes n (Put key given v) (object.Dict pairs) l q = (distinct_put pairs key given v l.0, keyed_put w.heap pairs key given v l.1 q.2)
changed_links c w codes n (Fit pairs) (object.Dict old) l q = (q.1, q.2)
changed_links c w codes n k o l q = l

-- its kind stays, and what it is as a key
pub changed_sort : (c : Change) (o : Object) → sort_of (Some (changed_by c o)) ≡ sort_of (Some o)
changed_sort (Fill items) (object.List old) = refl
changed_sort (Bind name v) (object.Space names) = refl
changed_sort (Bind name v) (object.Instance class fields) = refl
changed_sort (Bind name v) (object.Exception class args entries fields cause) = refl
changed_sort (Bind name v) (object.Class own base names false) = refl
changed_sort (Unbind name) (object.Space names) = refl
changed_sort (Unbind name) (object.Instance class fields) = refl
changed_sort (Unbind name) (object.Exception class args entries fields cause) = refl
changed_sort (Unbind name) (object.Class own base names false) = refl
changed_sort (Hold v) (object.Cell old) = refl
changed_sort (Move place size) (object.Iterator over old older over_now) = refl
changed_sort Finish (object.Iterator over place size over_now) = refl
changed_sort (Put key given v) (object.Dict pairs) = refl
changed_sort (Fit pairs) (object.Dict old) = refl
changed_sort c o = refl

pub changed_kind : (n : ℕ) (c : Change) (o : Object) → object_kind n (Some (changed_by c o)) ≡ object_kind n (Some o)
changed_kind n (Fill items) (object.List old) = refl
changed_kind n (Bind name v) (object.Space names) = refl
changed_kind n (Bind name v) (object.Instance class fields) = refl
changed_kind n (Bind name v) (object.Exception class args entries fields cause) = refl
changed_kind n (Bind name v) (object.Class own base names false) = refl
changed_kind n (Unbind name) (object.Space names) = refl
changed_kind n (Unbind name) (object.Instance class fields) = refl
changed_kind n (Unbind name) (object.Exception class args entries fields cause) = refl
changed_kind n (Unbind name) (object.Class own base names false) = refl
changed_kind n (Hold v) (object.Cell old) = refl
changed_kind n (Move place size) (object.Iterator over old older over_now) = refl
changed_kind n Finish (object.Iterator over place size over_now) = refl
changed_kind n (Put key given v) (object.Dict pairs) = refl
changed_kind n (Fit pairs) (object.Dict old) = refl
changed_kind n c o = refl

-- ---- in a heap that has grown

module _ (h more : List Object) (g : Grows h more) where
  pub is_a_more : (n : ℕ) (s : Sort) → IsA h n s → IsA more n s
  is_a_more n s a = record { there = omega (arith, g.longer, a.there); sort = g.sorts n a.there ∙ a.sort }

  pub in_more : (v : Value) → IsIn h v → IsIn more v
  in_more value.Unset p = p
  in_more (value.Obj n) p = omega (arith, g.longer)
  in_more v p = tt

  cells_more : (vs : List Value) → AreCells h vs → AreCells more vs
  cells_more [] p = tt
  cells_more (value.Obj n ∷ vs) p = (is_a_more n _ p.0, cells_more vs p.1)
  cells_more (v ∷ vs) p = absurd p.0

  base_more : (n : ℕ) (b : Option ℕ) → BaseIn h n b → BaseIn more n b
  base_more n None p = tt
  base_more n (Some b) p = (is_a_more b _ p.0, p.1)

  cause_more : (n : Option ℕ) → CauseIn h n → CauseIn more n
  cause_more None p = tt
  cause_more (Some n) p = is_a_more n _ p

  over_there : (n : ℕ) (o : Option Object) → slice_get h n ≡ o → Iterates (sort_of o) → n < length h
  over_there n None e p = absurd p
  over_there n (Some o) e p = slice_get_within h n o e

  over_more : (v : Value) → IsOver h v → IsOver more v
  over_more (value.Obj n) p = subst Iterates (sym (g.sorts n (over_there n (slice_get h n) refl p))) p
  over_more v p = p

module _ (codes : ℕ) (h more : List Object) (s : SoundHeap codes h) (g : Grows h more) where
  pub links_more : (n : ℕ) (o : Object) → LinksIn codes h n o → LinksIn codes more n o
  links_more n (object.Dict pairs) l = (l.0, keyed_more codes h more s g (in_more h more g) pairs l.1)
  links_more n (object.Function code defaults keywords cells) l = (l.0, l.1, cells_more h more g cells l.2)
  links_more n (object.Method receiver function) l = is_a_more h more g function _ l
  links_more n (object.Class name base own native) l = (base_more h more g n base l.0, l.1)
  links_more n (object.Instance class fields) l = (is_a_more h more g class _ l.0, l.1)
  links_more n (object.Generator code state given cells) l = (l.0, cells_more h more g cells l.1)
  links_more n (object.Iterator over place size over_now) l = over_more h more g over l
  links_more n (object.View dict kind) l = is_a_more h more g dict _ l
  links_more n (object.Exception class args entries fields cause) l = (is_a_more h more g class _ l.0, l.1, cause_more h more g cause l.2)
  links_more n (object.Trace exception) l = is_a_more h more g exception _ l
  links_more n o l = l

  pub object_more : (n : ℕ) (o : Object) → ObjectIn codes h n o → ObjectIn codes more n o
  object_more n o p = (parts_by (IsIn h) (IsIn more) (in_more h more g) o p.0, links_more n o p.1)
