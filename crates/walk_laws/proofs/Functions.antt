-- Scopes, and functions with their defaults, as they are made and as they are walked.
use Rattle.std.proofs.Common.{◌≡◌, ℕ, ◌+◌, ◌-◌, true, false, cond, List, [], ◌∷◌, ◌++◌, map, length, Option, Some, None, refl, sym, ap, ◌∙◌, subst}
use Rattle.std.specs.Prelude.{slice_get}
use Rattle.std.specs.List.{list_any}
use Rattle.std.proofs.lemmas.List.{length-map}
use Rattle.nu_value.specs.declared.header.ParamKind.{ParamKind}
use Rattle.nu_value.specs.declared.header.ParamKind.TheVariants as param_kind
use Rattle.py_ast.specs.declared.expr.Param.{Param}
use Rattle.py_ast.specs.declared.expr.Param.TheVariants as param
use Rattle.py_ast.specs.declared.scoped.Scope.{Scope}
use Rattle.node_tree.specs.Blocks as tree
use Rattle.py_meaning.specs.Syntax as syntax
use Rattle.py_meaning.specs.Scopes.{own_names, local_names, free_names, cells_for, parameter_of}
use Rattle.py_meaning.specs.Resolved as meaning
use Rattle.py_meaning.specs.Resolved.{Context, Making}
use Rattle.carries_base.specs.Carries.{Carrier}
use Rattle.carries_base.specs.Frames.{Homes, behind}
use Rattle.carries_names.specs.Begun.{begun_block}
use Rattle.carried_codes.specs.Parts.{Valued}
use Rattle.carried_codes.specs.Expressions as expressions
use Rattle.carried_codes.specs.Statements as statements
use Rattle.carried_codes.specs.Nodes as nodes
use Rattle.walk_laws.specs.States.{Walking, walked, coded}
use Rattle.walk_laws.specs.Contexts.{homes_in, cells_in, code_in}
use Rattle.walk_laws.specs.Expressions as walk
use Rattle.walk_laws.specs.Composed.{Out, As, AsMeant, through, value_at, block_at}
use Rattle.walk_laws.proofs.Threads.{out, value_out, block_out, nothing, one, two, as_made, joined_on, map_joined}

-- Codes

abbrev homes_from : Context → ℕ → ℕ → Homes
homes_from d params owns =
    let locals = length (local_names d.scopes d.this d.parameters) in
    record { params = params; frees = length (free_names d.scopes d.this); owns = owns; locals = locals; filled = locals; made = owns }

header_params : (scope : Option Scope) (params : List (ParamKind × List ℕ)) → (meaning.header scope params).params ≡ params
header_params None params = refl
header_params (Some scope) params = refl

homes_same : (d : Context) (params : List (ParamKind × List ℕ)) (b : syntax.Body) → length params ≡ length d.parameters → nodes.homes_of (meaning.code d params b) ≡ homes_in d
homes_same d params b e =
    let owns = own_names d.scopes d.this in
    ap (λ n. homes_from d n (length (map (parameter_of d.parameters) owns))) (ap length (header_params (slice_get d.scopes d.this) params) ∙ e)
    ∙ ap (homes_from d (length d.parameters)) (length-map owns (parameter_of d.parameters))

-- the code of a context is the one that is made there
pub code_same : (d : Context) (params : List (ParamKind × List ℕ)) (b : syntax.Body) → length params ≡ length d.parameters
    → code_in d params (nodes.body (homes_in d) (behind (homes_in d)) b) ≡ coded (meaning.code d params b)
code_same d params b e =
    let head = meaning.header (slice_get d.scopes d.this) params in
    let frees = length (free_names d.scopes d.this) in
    let owns = map (parameter_of d.parameters) (own_names d.scopes d.this) in
    ap (λ (h : Homes). record {
      header = head;
      free = frees;
      body = begun_block h head.line (behind h) (length (local_names d.scopes d.this d.parameters) - h.params) owns (nodes.body h (behind h) b);
    }) (sym (homes_same d params b e))

pub inside_same : (c : Context) (n : ℕ) (params : List (ParamKind × List ℕ)) (class : Option (List ℕ)) → length params ≡ length (meaning.inside c n params class).parameters
inside_same c n params class = sym (length-map params (λ p. p.1))

-- Bodies

abbrev pub body_at : Context → ℕ → syntax.Body → Out tree.Block
body_at d t (syntax.Statements b) = block_at d None t b
body_at d t (syntax.Value' x) = let p = nodes.value (homes_in d) t x in block_out (statements.return_value p.part p.next)
body_at d t (syntax.Collect line into x inner) = out (nodes.collect (homes_in d) t line into x inner) t

body_same : (d : Context) (t : ℕ) (b : syntax.Body) → (body_at d t b).is ≡ nodes.body (homes_in d) t b
body_same d t (syntax.Statements b) = refl
body_same d t (syntax.Value' x) = refl
body_same d t (syntax.Collect line into x inner) = refl

-- Scopes

pub scoped_walked : {A B P : Type 0} {fa : ℕ → A → Out P} {f : ℕ → B → Out Carrier} {m : Making A} {w : Walking P} {mb : Context → Making syntax.Body} {wb : Context → Walking tree.Block}
    (c : Context) (params : List (ParamKind × List ℕ)) (class : Option (List ℕ)) (k : ℕ → A → B) (h : ℕ → P → ℕ → Valued)
    → ((n t : ℕ) (x : A) → f t (k n x) ≡ value_out (h n (fa t x).is (fa t x).next)) → As fa m w → ((d : Context) → As (body_at d) (mb d) (wb d))
    → As f (meaning.scoped c params class m mb k) (walk.scoped c params class w wb h)
scoped_walked {fa = fa} {f = f} {m = m} {mb = mb} {wb = wb} c params class k h e a b = record {
  same = λ s.
      let x = m (s.scope + 1) in
      let d = meaning.inside c s.scope params class in
      let y = mb d x.next in
      let p = fa s.temp x.is in
      let u = (through fa m (walk.begun s)).state in
      let v = h s.scope p.is p.next in
      let t = behind (homes_in d) in
      ap (λ r. let i = wb d (walk.entered d r.state) in let o = h s.scope r.is r.state.temp in walked o.part (walk.ended s d params i.is i.state o.next)) (a.same (walk.begun s))
      ∙ ap (λ i. walked v.part (walk.ended s d params i.is i.state v.next)) ((b d).same (walk.entered d u))
      ∙ ap (λ i. walked v.part (record { temp = v.next; scope = y.next; codes = s.codes ++ code_in d params i ∷ (map coded x.codes ++ map coded y.codes) })) (body_same d t y.is)
      ∙ ap (λ i. walked v.part (record { temp = v.next; scope = y.next; codes = s.codes ++ i ∷ (map coded x.codes ++ map coded y.codes) })) (code_same d params y.is (inside_same c s.scope params class))
      ∙ ap (λ cs. walked v.part (record { temp = v.next; scope = y.next; codes = s.codes ++ coded (meaning.code d params y.is) ∷ cs })) (map_joined coded x.codes y.codes)
      ∙ ap (λ o. walked o.is (record { temp = o.next; scope = y.next; codes = s.codes ++ coded (meaning.code d params y.is) ∷ map coded (x.codes ++ y.codes) })) (sym (e s.scope s.temp x.is));
}

-- Parameters that are the same ones

pub data Params : List (Param meaning.Part) → List (Param walk.Part) → Type 0 where
  no_param : Params [] []
  required : {ps : List (Param meaning.Part)} {qs : List (Param walk.Part)} (line : ℕ) (name : List ℕ) → Params ps qs → Params (param.Named line name None ∷ ps) (param.Named line name None ∷ qs)
  optional : {p : meaning.Part} {q : walk.Part} {ps : List (Param meaning.Part)} {qs : List (Param walk.Part)} (line : ℕ) (name : List ℕ) → AsMeant p q → Params ps qs
      → Params (param.Named line name (Some p) ∷ ps) (param.Named line name (Some q) ∷ qs)
  slash : {ps : List (Param meaning.Part)} {qs : List (Param walk.Part)} (line : ℕ) → Params ps qs → Params (param.Slash line ∷ ps) (param.Slash line ∷ qs)
  star : {ps : List (Param meaning.Part)} {qs : List (Param walk.Part)} (line : ℕ) (name : Option (List ℕ)) → Params ps qs → Params (param.Star line name ∷ ps) (param.Star line name ∷ qs)
  double : {ps : List (Param meaning.Part)} {qs : List (Param walk.Part)} (line : ℕ) (name : List ℕ) → Params ps qs → Params (param.DoubleStar line name ∷ ps) (param.DoubleStar line name ∷ qs)

slash_same : {ps : List (Param meaning.Part)} {qs : List (Param walk.Part)} → Params ps qs → list_any meaning.is_slash ps ≡ list_any meaning.is_slash qs
slash_same no_param = refl
slash_same (required line name i) = slash_same i
slash_same (optional line name g i) = slash_same i
slash_same (slash line i) = refl
slash_same (star line name i) = slash_same i
slash_same (double line name i) = slash_same i

kinds_same : {ps : List (Param meaning.Part)} {qs : List (Param walk.Part)} (k : ParamKind) → Params ps qs → meaning.kinds k ps ≡ meaning.kinds k qs
kinds_same k no_param = refl
kinds_same k (required line name i) = ap (λ l. (k, name) ∷ l) (kinds_same k i)
kinds_same k (optional line name g i) = ap (λ l. (k, name) ∷ l) (kinds_same k i)
kinds_same k (slash line i) = kinds_same param_kind.Plain i
kinds_same k (star line None i) = kinds_same param_kind.Key i
kinds_same k (star line (Some name) i) = ap (λ l. (param_kind.Star, name) ∷ l) (kinds_same param_kind.Key i)
kinds_same k (double line name i) = ap (λ l. (param_kind.Double, name) ∷ l) (kinds_same k i)

shape_same : {ps : List (Param meaning.Part)} {qs : List (Param walk.Part)} (c : Context) → Params ps qs → meaning.shape c ps ≡ meaning.shape c qs
shape_same {ps} {qs} c i =
    ap (λ b. map (λ (p : ParamKind × List ℕ). (p.0, meaning.name_in c p.1)) (meaning.kinds (cond b param_kind.Only param_kind.Plain) ps)) (slash_same i)
    ∙ ap (map (λ (p : ParamKind × List ℕ). (p.0, meaning.name_in c p.1))) (kinds_same (cond (list_any meaning.is_slash qs) param_kind.Only param_kind.Plain) i)

-- Defaults

abbrev defaults_at : Context → ℕ → meaning.Defaults → Out walk.Defaults
defaults_at c t d =
    let ps = nodes.values (homes_in c) t d.positional in
    let ks = nodes.keywords (homes_in c) ps.next d.named in
    out (record { positional = ps.parts; named = ks.parts }) ks.next

abbrev named_at : Context → ℕ → syntax.Keywords → Out walk.Defaults
named_at c t ks = let ps = nodes.keywords (homes_in c) t ks in out (record { positional = []; named = ps.parts }) ps.next

abbrev defaults_of : syntax.Expressions → syntax.Keywords → meaning.Defaults
defaults_of xs ks = record { positional = xs; named = ks }

module _ (c : Context) where
  named_walked : {ps : List (Param meaning.Part)} {qs : List (Param walk.Part)} → Params ps qs → As (named_at c) (meaning.keywords c ps) (walk.defaults c true qs)
  named_walked no_param = nothing syntax.NoKeyword (record { positional = []; named = [] }) (λ t. refl)
  named_walked (required line name i) = named_walked i
  named_walked (optional line name g i) =
      two (syntax.Default (meaning.name_in c name)) (λ v d t. out (walk.with_default true (meaning.name_in c name) v d) t) (λ t x y. refl) (g.value c) (named_walked i)
  named_walked (slash line i) = named_walked i
  named_walked (star line name i) = named_walked i
  named_walked (double line name i) = named_walked i

  defaults_walked : {ps : List (Param meaning.Part)} {qs : List (Param walk.Part)} → Params ps qs → As (defaults_at c) (meaning.all_defaults c ps) (walk.defaults c false qs)
  defaults_walked no_param = nothing (defaults_of syntax.NoMore syntax.NoKeyword) (record { positional = []; named = [] }) (λ t. refl)
  defaults_walked (required line name i) = defaults_walked i
  defaults_walked (optional {p} {q} {ps} {qs} line name g i) =
      as_made (meaning.and_then (p.value c) (λ v. meaning.made (λ d. defaults_of (syntax.More v d.positional) d.named) (meaning.all_defaults c ps))) (meaning.all_defaults c (param.Named line name (Some p) ∷ ps))
      (λ n. sym (joined_on (p.value c) (λ v. meaning.made (syntax.More v) (meaning.defaults c ps)) (λ xs. meaning.made (defaults_of xs) (meaning.keywords c (meaning.behind ps))) n))
      (two (λ v d. defaults_of (syntax.More v d.positional) d.named) (λ v d t. out (walk.with_default false (meaning.name_in c name) v d) t) (λ t x y. refl) (g.value c) (defaults_walked i))
  defaults_walked (slash line i) = defaults_walked i
  defaults_walked (star line name i) = one (defaults_of syntax.NoMore) (λ d t. out d t) (λ t x. refl) (named_walked i)
  defaults_walked (double line name i) = defaults_walked i

  function_on : {ps : List (Param meaning.Part)} {qs : List (Param walk.Part)} {mb : Context → Making syntax.Body} {wb : Context → Walking tree.Block} (line : ℕ) (params : List (ParamKind × List ℕ))
      → Params ps qs → ((d : Context) → As (body_at d) (mb d) (wb d))
      → As (value_at c) (meaning.scoped c params c.class (meaning.all_defaults c ps) mb (λ n d. syntax.Function line (c.first + n) d.positional d.named (cells_for c.scopes c.this n)))
      (walk.scoped c params c.class (walk.defaults c false qs) wb (λ n d t. expressions.function line (c.first + n) d.positional d.named (cells_in c n) t))
  function_on line params i b =
      scoped_walked c params c.class (λ n d. syntax.Function line (c.first + n) d.positional d.named (cells_for c.scopes c.this n))
      (λ n d t. expressions.function line (c.first + n) d.positional d.named (cells_in c n) t) (λ n t x. refl) (defaults_walked i) b

  pub function_walked : {ps : List (Param meaning.Part)} {qs : List (Param walk.Part)} {mb : Context → Making syntax.Body} {wb : Context → Walking tree.Block} (line : ℕ)
      → Params ps qs → ((d : Context) → As (body_at d) (mb d) (wb d)) → As (value_at c) (meaning.function c line ps mb) (walk.function c line qs wb)
  function_walked {ps} {qs} {mb} {wb} line i b =
      subst (λ params. As (value_at c) (meaning.function c line ps mb)
      (walk.scoped c params c.class (walk.defaults c false qs) wb (λ n d t. expressions.function line (c.first + n) d.positional d.named (cells_in c n) t)))
      (shape_same c i) (function_on line (meaning.shape c ps) i b)
