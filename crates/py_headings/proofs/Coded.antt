-- What tidy parts are made to are codes with headings.
use Rattle.std.proofs.Common.{◌≡◌, ℕ, zero, suc, ◌+◌, Bool, true, false, if◌then◌else◌, List, [], ◌∷◌, ◌++◌, map, Option, Some, None, refl, arith}
use Rattle.std.specs.Prelude.{slice_get}
use Rattle.std.specs.List.{AllByRecursion, list_any}
use Rattle.nu_value.specs.declared.header.ParamKind.{ParamKind}
use Rattle.op_forms.specs.declared.op.Op.{Op}
use Rattle.op_forms.specs.declared.op.Op.TheVariants as op
use Rattle.py_ast.specs.declared.expr.Item.{Item}
use Rattle.py_ast.specs.declared.expr.Item.TheVariants as item
use Rattle.py_ast.specs.declared.expr.Entry.{Entry}
use Rattle.py_ast.specs.declared.expr.Entry.TheVariants as entry
use Rattle.py_ast.specs.declared.expr.Argument.{Argument}
use Rattle.py_ast.specs.declared.expr.Argument.TheVariants as argument
use Rattle.py_ast.specs.declared.expr.Link.{Link}
use Rattle.py_ast.specs.declared.expr.Param.{Param}
use Rattle.py_ast.specs.declared.expr.Param.TheVariants as param
use Rattle.py_ast.specs.declared.expr.Subscript.{Subscript}
use Rattle.py_ast.specs.declared.expr.Subscript.TheVariants as subscript
use Rattle.py_ast.specs.declared.expr.Clause.{Clause}
use Rattle.py_ast.specs.declared.expr.Clause.TheVariants as clause
use Rattle.py_ast.specs.declared.expr.Clauses.{Clauses}
use Rattle.py_ast.specs.declared.expr.Expr.{Expr}
use Rattle.py_ast.specs.declared.scoped.Scope.{Scope}
use Rattle.py_ast.specs.declared.scoped.ScopeKind.TheVariants as kind
use Rattle.py_grammar.specs.Lists.{params_in_order}
use Rattle.py_scopes.specs.Parts.{option_of, item_of, entry_of, argument_of, link_of, param_of, subscript_of, clause_of, clauses_of}
use Rattle.py_meaning.specs.Syntax as syntax
use Rattle.py_meaning.specs.Resolved as resolved
use Rattle.py_meaning.specs.Resolved.{Context, Part, Making, Made, pure, and_then, made, inside, code, header, shape, handed, is_star, inner, before_star, from_star, many, display, index_value, index_target, maybe, links, compared, comparison_op, is_negated, call, all_plain, positional, arguments, behind, defaults, keywords, all_defaults, scoped, function, further, comprehension, name_in, text}
use Rattle.py_meaning.specs.Scopes.{cells_for}
use Rattle.c_meaning.specs.Written.{in_order}
use Rattle.generator_cut.specs.Writable.{IsNamed, IsHeading}
use Rattle.py_headings.specs.Laws.{MayBeName, HasName}
use Rattle.py_headings.specs.Scripts.{HaveHeadings}
use Rattle.py_headings.proofs.Parameters.{make_heading}
use Rattle.py_headings.proofs.Tidy.{HasLine, Stands, Makes, Tidy, OptionTidy, ItemTidy, EntryTidy, ArgumentTidy, LinkTidy, ParamTidy, SubscriptTidy, ClauseTidy, ClausesTidy}
use Rattle.py_headings.proofs.Surveyed.{all_joined}

-- One after the other

joined : (xs ys : List syntax.Code) → HaveHeadings xs → HaveHeadings ys → HaveHeadings (xs ++ ys)
joined xs ys p q = all_joined (λ (code : syntax.Code). IsHeading code.header) xs ys p q

pub pure_makes : {A : Type 0} (x : A) → Makes (pure x)
pure_makes x = record { headed = λ n. tt }

pub then_makes : {A B : Type 0} (m : Making A) (f : A → Making B) → Makes m → ((x : A) → Makes (f x)) → Makes (and_then m f)
then_makes m f a b = record { headed = λ n. joined (m n).codes (f (m n).is (m n).next).codes (a.headed n) ((b (m n).is).headed (m n).next) }

pub made_makes : {A B : Type 0} (h : A → B) (m : Making A) → Makes m → Makes (made h m)
made_makes h m a = record { headed = a.headed }

pub two_make : {A B C : Type 0} (h : A → B → C) (m : Making A) (o : Making B) → Makes m → Makes o → Makes (and_then m (λ x. made (h x) o))
two_make h m o a b = then_makes m (λ x. made (h x) o) a (λ x. made_makes (h x) o b)

pub three_make : {A B C D : Type 0} (h : A → B → C → D) (m : Making A) (o : Making B) (p : Making C) → Makes m → Makes o → Makes p → Makes (and_then m (λ x. and_then o (λ y. made (h x y) p)))
three_make h m o p a b c = then_makes m (λ x. and_then o (λ y. made (h x y) p)) a (λ x. two_make (h x) o p b c)

pub four_make : {A B C D E : Type 0} (h : A → B → C → D → E) (m : Making A) (o : Making B) (p : Making C) (q : Making D) → Makes m → Makes o → Makes p → Makes q → Makes (and_then m (λ x. and_then o (λ y. and_then p (λ z. made (h x y z) q))))
four_make h m o p q a b c d = then_makes m (λ x. and_then o (λ y. and_then p (λ z. made (h x y z) q))) a (λ x. three_make (h x) o p q b c d)

pub either_makes : {A : Type 0} (b : Bool) (m o : Making A) → Makes m → Makes o → Makes (if b then m else o)
either_makes true m o p q = p
either_makes false m o p q = q

-- Headers

abbrev MayHaveLine : Option Scope → Type 0
MayHaveLine None = Unit {0}
MayHaveLine (Some scope) = HasLine scope

got_line : (scopes : List Scope) → AllByRecursion HasLine scopes → (n : ℕ) → MayHaveLine (slice_get scopes n)
got_line [] l n = tt
got_line (x ∷ xs) l zero = l.0
got_line (x ∷ xs) l (suc n) = got_line xs l.1 n

pub record Fit (params : List (ParamKind × List ℕ)) : Type 0 where
  pub named : AllByRecursion IsNamed params
  pub order : in_order 0 params ≡ true

header_fits : (o : Option Scope) (params : List (ParamKind × List ℕ)) → MayHaveLine o → Fit params → IsHeading (header o params)
header_fits None params l f = record { params = f.named; order = f.order; from_one = omega arith }
header_fits (Some scope) params l f = record { params = f.named; order = f.order; from_one = l }

pub code_fits : (c : Context) (params : List (ParamKind × List ℕ)) (body : syntax.Body) → AllByRecursion HasLine c.scopes → Fit params → IsHeading (code c params body).header
code_fits c params body l f = header_fits (slice_get c.scopes c.this) params (got_line c.scopes l c.this) f

pub none_fit : Fit []
none_fit = record { named = tt; order = refl }

pub handed_fits : Fit handed
handed_fits = record { named = (record { some = λ e. cc; no_space = refl }, tt); order = refl }

abbrev some_scope : Scope
some_scope = record { kind = kind.Lambda; name = []; line = 1; enclosing = 0; is_generator = false; names = [] }

names_of : (ps : List (Param Expr)) → AllByRecursion ParamTidy ps → AllByRecursion HasName ps
names_of [] t = tt
names_of (p ∷ ps) t = (t.0.0, names_of ps t.1)

pub shape_fits : (c : Context) (ps : List (Param Expr)) → Stands c → AllByRecursion ParamTidy ps → params_in_order ps ≡ true → Fit (shape c (map (param_of resolved.expr) ps))
shape_fits c ps s t order =
    let h = make_heading resolved.expr c some_scope ps s.class (names_of ps t) order (omega arith) in
    record { named = h.params; order = h.order }

-- Scopes

module _ (c : Context) (s : Stands c) where
  pub within : (n : ℕ) (params : List (ParamKind × List ℕ)) (class : Option (List ℕ)) → MayBeName class → Stands (inside c n params class)
  within n params class m = record { lines = s.lines; class = m }

  pub scoped_makes : {A B : Type 0} (params : List (ParamKind × List ℕ)) (class : Option (List ℕ)) (outside : Making A) (body : Context → Making syntax.Body) (whole : ℕ → A → B)
      → Fit params → MayBeName class → Makes outside → ((d : Context) → Stands d → Makes (body d)) → Makes (scoped c params class outside body whole)
  scoped_makes params class outside body whole f m o b = record {
    headed = λ n.
        let a = outside (n + 1) in let d = inside c n params class in
        (code_fits d params (body d a.next).is s.lines f, joined a.codes (body d a.next).codes (o.headed (n + 1)) ((b d (within n params class m)).headed a.next));
  }

  -- Lists of parts

  pub values_make : (xs : List Expr) → AllByRecursion Tidy xs → Makes (resolved.values c (map resolved.expr xs))
  values_make [] t = pure_makes syntax.NoMore
  values_make (x ∷ xs) t = two_make syntax.More _ _ (t.0.value c s) (values_make xs t.1)

  inner_make : (xs : List (Item Expr)) → AllByRecursion ItemTidy xs → Makes (resolved.values c (map inner (map (item_of resolved.expr) xs)))
  inner_make [] t = pure_makes syntax.NoMore
  inner_make (item.One x ∷ xs) t = two_make syntax.More _ _ (t.0.value c s) (inner_make xs t.1)
  inner_make (item.Star line x ∷ xs) t = two_make syntax.More _ _ (t.0.value c s) (inner_make xs t.1)

  items_make : (xs : List (Item Expr)) → AllByRecursion ItemTidy xs → Makes (resolved.items c (map (item_of resolved.expr) xs))
  items_make [] t = pure_makes syntax.NoItem
  items_make (item.One x ∷ xs) t = two_make syntax.Single _ _ (t.0.value c s) (items_make xs t.1)
  items_make (item.Star line x ∷ xs) t = two_make syntax.Spread _ _ (t.0.value c s) (items_make xs t.1)

  pub display_makes : (line : ℕ) (o : Op) (tuple : Bool) (xs : List (Item Expr)) → AllByRecursion ItemTidy xs → Makes ((display line o tuple (map (item_of resolved.expr) xs)).value c)
  display_makes line o tuple xs t =
      either_makes (list_any is_star (map (item_of resolved.expr) xs)) _ _ (made_makes (syntax.Starred line tuple) _ (items_make xs t)) (made_makes (syntax.Operation line o) _ (inner_make xs t))

  pub targets_make : (xs : List Expr) → AllByRecursion Tidy xs → Makes (resolved.targets c (map resolved.expr xs))
  targets_make [] t = pure_makes syntax.NoTarget
  targets_make (x ∷ xs) t = two_make syntax.AlsoTo _ _ (t.0.target c s) (targets_make xs t.1)

  inner_targets : (xs : List (Item Expr)) → AllByRecursion ItemTidy xs → Makes (resolved.targets c (map inner (map (item_of resolved.expr) xs)))
  inner_targets [] t = pure_makes syntax.NoTarget
  inner_targets (item.One x ∷ xs) t = two_make syntax.AlsoTo _ _ (t.0.target c s) (inner_targets xs t.1)
  inner_targets (item.Star line x ∷ xs) t = two_make syntax.AlsoTo _ _ (t.0.target c s) (inner_targets xs t.1)

  before_make : (xs : List (Item Expr)) → AllByRecursion ItemTidy xs → Makes (resolved.targets c (before_star (map (item_of resolved.expr) xs)))
  before_make [] t = pure_makes syntax.NoTarget
  before_make (item.One x ∷ xs) t = two_make syntax.AlsoTo _ _ (t.0.target c s) (before_make xs t.1)
  before_make (item.Star line x ∷ xs) t = pure_makes syntax.NoTarget

  many_make : (line : ℕ) (before : List Part) (xs : List (Item Expr)) → Makes (resolved.targets c before) → AllByRecursion ItemTidy xs → Makes (many c line before (from_star (map (item_of resolved.expr) xs)))
  many_make line before [] b t = made_makes (syntax.ToEach line) (resolved.targets c before) b
  many_make line before (item.One x ∷ xs) b t = many_make line before xs b t.1
  many_make line before (item.Star l x ∷ xs) b t = then_makes (resolved.targets c before) _ b (λ y. two_make (syntax.ToStarred line y) _ _ (t.0.target c s) (inner_targets xs t.1))

  pub display_targets : (line : ℕ) (o : Op) (tuple : Bool) (xs : List (Item Expr)) → AllByRecursion ItemTidy xs → Makes ((display line o tuple (map (item_of resolved.expr) xs)).target c)
  display_targets line o tuple xs t = many_make line (before_star (map (item_of resolved.expr) xs)) xs (before_make xs t) t

  pub entries_make : (xs : List (Entry Expr)) → AllByRecursion EntryTidy xs → Makes (resolved.entries c (map (entry_of resolved.expr) xs))
  entries_make [] t = pure_makes syntax.NoEntry
  entries_make (entry.Pair x y ∷ xs) t = then_makes ((resolved.expr x).value c) _ (t.0.0.value c s) (λ k. two_make (syntax.Pair k) _ _ (t.0.1.value c s) (entries_make xs t.1))
  entries_make (entry.Merge x ∷ xs) t = two_make syntax.Merge _ _ (t.0.value c s) (entries_make xs t.1)

  links_make : (x : Link Expr) (xs : List (Link Expr)) → LinkTidy x → AllByRecursion LinkTidy xs → Makes (links c (link_of resolved.expr x) (map (link_of resolved.expr) xs))
  links_make x [] t u = made_makes (syntax.LastLink (comparison_op x.comparison) (is_negated x.comparison)) _ (t.value c s)
  links_make x (y ∷ ys) t u = two_make (syntax.Link (comparison_op x.comparison) (is_negated x.comparison)) _ _ (t.value c s) (links_make y ys u.0 u.1)

  pub compared_makes : (line : ℕ) (first : syntax.Expression) (xs : List (Link Expr)) → AllByRecursion LinkTidy xs → Makes (compared c line first (map (link_of resolved.expr) xs))
  compared_makes line first [] t = pure_makes first
  compared_makes line first (x ∷ xs) t = made_makes (syntax.Comparison line first) _ (links_make x xs t.0 t.1)

  pub maybe_makes : (o : Option Expr) → OptionTidy o → Makes (maybe c (option_of resolved.expr o))
  maybe_makes None t = pure_makes resolved.none
  maybe_makes (Some x) t = t.value c s

  pub index_makes : (line : ℕ) (x : Expr) (i : Subscript Expr) → Tidy x → SubscriptTidy i → Makes (index_value c line (resolved.expr x) (subscript_of resolved.expr i))
  index_makes line x (subscript.One y) t u = made_makes (syntax.Operation line op.Index) _ (values_make (x ∷ y ∷ []) (t, (u, tt)))
  index_makes line x (subscript.Several ys) t u =
      two_make (λ (o : syntax.Expression) (vs : syntax.Expressions). syntax.Operation line op.Index (syntax.More o (syntax.More (syntax.Operation line op.Tuple vs) syntax.NoMore))) _ _ (t.value c s) (values_make ys u)
  index_makes line x (subscript.Slice a b d) t u =
      four_make (λ o p q r. syntax.Operation line op.Slice (syntax.More o (syntax.More p (syntax.More q (syntax.More r syntax.NoMore))))) _ _ _ _ (t.value c s) (maybe_makes a u.0) (maybe_makes b u.1) (maybe_makes d u.2)

  pub index_targets : (line : ℕ) (x : Expr) (i : Subscript Expr) → Tidy x → SubscriptTidy i → Makes (index_target c line (resolved.expr x) (subscript_of resolved.expr i))
  index_targets line x (subscript.One y) t u = two_make (syntax.ToIndex line) _ _ (t.value c s) (u.value c s)
  index_targets line x (subscript.Several ys) t u = two_make (λ (o : syntax.Expression) (vs : syntax.Expressions). syntax.ToIndex line o (syntax.Operation line op.Tuple vs)) _ _ (t.value c s) (values_make ys u)
  index_targets line x (subscript.Slice a b d) t u = pure_makes syntax.ToNothing

  positional_make : (xs : List (Argument Expr)) → AllByRecursion ArgumentTidy xs → Makes (positional c (map (argument_of resolved.expr) xs))
  positional_make [] t = pure_makes syntax.NoMore
  positional_make (argument.Plain x ∷ xs) t = two_make syntax.More _ _ (t.0.value c s) (positional_make xs t.1)
  positional_make (argument.Star x ∷ xs) t = positional_make xs t.1
  positional_make (argument.Keyword line name x ∷ xs) t = positional_make xs t.1
  positional_make (argument.Merge x ∷ xs) t = positional_make xs t.1

  arguments_make : (xs : List (Argument Expr)) → AllByRecursion ArgumentTidy xs → Makes (arguments c (map (argument_of resolved.expr) xs))
  arguments_make [] t = pure_makes syntax.NoArgument
  arguments_make (argument.Plain x ∷ xs) t = two_make syntax.Plain _ _ (t.0.value c s) (arguments_make xs t.1)
  arguments_make (argument.Star x ∷ xs) t = two_make syntax.Star _ _ (t.0.value c s) (arguments_make xs t.1)
  arguments_make (argument.Keyword line name x ∷ xs) t = two_make (syntax.Keyword (name_in c name)) _ _ (t.0.value c s) (arguments_make xs t.1)
  arguments_make (argument.Merge x ∷ xs) t = two_make syntax.DoubleStar _ _ (t.0.value c s) (arguments_make xs t.1)

  pub call_makes : (line : ℕ) (x : Expr) (xs : List (Argument Expr)) → Tidy x → AllByRecursion ArgumentTidy xs → Makes (call c line (resolved.expr x) (map (argument_of resolved.expr) xs))
  call_makes line x xs t u =
      then_makes ((resolved.expr x).value c) _ (t.value c s) (λ g. either_makes (all_plain (map (argument_of resolved.expr) xs)) _ _
      (made_makes (λ (vs : syntax.Expressions). syntax.Operation line op.Call (syntax.More g vs)) _ (positional_make xs u)) (made_makes (syntax.Call line g) _ (arguments_make xs u)))

  -- Functions and comprehensions

  defaults_make : (ps : List (Param Expr)) → AllByRecursion ParamTidy ps → Makes (defaults c (map (param_of resolved.expr) ps))
  defaults_make [] t = pure_makes syntax.NoMore
  defaults_make (param.Named line name None ∷ ps) t = defaults_make ps t.1
  defaults_make (param.Named line name (Some x) ∷ ps) t = two_make syntax.More _ _ (t.0.1.value c s) (defaults_make ps t.1)
  defaults_make (param.Slash line ∷ ps) t = defaults_make ps t.1
  defaults_make (param.Star line name ∷ ps) t = pure_makes syntax.NoMore
  defaults_make (param.DoubleStar line name ∷ ps) t = defaults_make ps t.1

  keywords_make : (ps : List (Param Expr)) → AllByRecursion ParamTidy ps → Makes (keywords c (map (param_of resolved.expr) ps))
  keywords_make [] t = pure_makes syntax.NoKeyword
  keywords_make (param.Named line name None ∷ ps) t = keywords_make ps t.1
  keywords_make (param.Named line name (Some x) ∷ ps) t = two_make (syntax.Default (name_in c name)) _ _ (t.0.1.value c s) (keywords_make ps t.1)
  keywords_make (param.Slash line ∷ ps) t = keywords_make ps t.1
  keywords_make (param.Star line name ∷ ps) t = keywords_make ps t.1
  keywords_make (param.DoubleStar line name ∷ ps) t = keywords_make ps t.1

  behind_make : (ps : List (Param Expr)) → AllByRecursion ParamTidy ps → Makes (keywords c (behind (map (param_of resolved.expr) ps)))
  behind_make [] t = pure_makes syntax.NoKeyword
  behind_make (param.Named line name d ∷ ps) t = behind_make ps t.1
  behind_make (param.Slash line ∷ ps) t = behind_make ps t.1
  behind_make (param.Star line name ∷ ps) t = keywords_make ps t.1
  behind_make (param.DoubleStar line name ∷ ps) t = behind_make ps t.1

  abbrev both : syntax.Expressions → syntax.Keywords → resolved.Defaults
  both xs ks = record { positional = xs; named = ks }

  all_defaults_make : (ps : List (Param Expr)) → AllByRecursion ParamTidy ps → Makes (all_defaults c (map (param_of resolved.expr) ps))
  all_defaults_make ps t = two_make both _ _ (defaults_make ps t) (behind_make ps t)

  abbrev whole_function : ℕ → ℕ → resolved.Defaults → syntax.Expression
  whole_function line n d = syntax.Function line (c.first + n) d.positional d.named (cells_for c.scopes c.this n)

  pub function_makes : (line : ℕ) (ps : List (Param Expr)) (body : Context → Making syntax.Body) → AllByRecursion ParamTidy ps → params_in_order ps ≡ true → ((d : Context) → Stands d → Makes (body d)) → Makes (function c line (map (param_of resolved.expr) ps) body)
  function_makes line ps body t order b = scoped_makes (shape c (map (param_of resolved.expr) ps)) c.class (all_defaults c (map (param_of resolved.expr) ps)) body (whole_function line) (shape_fits c ps s t order) s.class (all_defaults_make ps t) b

pub further_make : (c : Context) (s : Stands c) (cs : List (Clause Expr)) (turns : syntax.Turns) → AllByRecursion ClauseTidy cs → Makes (further c (map (clause_of resolved.expr) cs) turns)
further_make c s [] turns t = pure_makes turns
further_make c s (clause.For line x y ∷ cs) turns t = then_makes ((resolved.expr x).target c) _ (t.0.0.target c s) (λ a. two_make (syntax.Ranging a) _ _ (t.0.1.value c s) (further_make c s cs turns t.1))
further_make c s (clause.If line x ∷ cs) turns t = two_make syntax.Filter _ _ (t.0.value c s) (further_make c s cs turns t.1)

pub comprehension_makes : (c : Context) (s : Stands c) (line : ℕ) (into : Option Op) (element : Context → Making syntax.Turns) (cs : Clauses Expr) → ((d : Context) → Stands d → Makes (element d)) → ClausesTidy cs
    → Makes (comprehension c line into element (clauses_of resolved.expr cs))
comprehension_makes c s line into element cs e t = record {
  headed = λ n.
      let d = inside c n handed c.class in
      let w = within c s n handed c.class s.class in
      let x = element d (n + 1) in
      let y = (resolved.expr cs.target).target d x.next in
      let z = (resolved.expr cs.iterable).value c y.next in
      let f = further d (map (clause_of resolved.expr) cs.more) x.is z.next in (
        code_fits d handed (syntax.Collect line into y.is f.is) s.lines handed_fits,
        joined (x.codes ++ y.codes ++ z.codes) f.codes
            (joined (x.codes ++ y.codes) z.codes (joined x.codes y.codes ((e d w).headed (n + 1)) ((t.0.target d w).headed x.next)) ((t.1.value c s).headed y.next)) ((further_make d w cs.more x.is t.2).headed z.next),
      );
}
