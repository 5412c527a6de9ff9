-- Expressions that are put together are carried, and mean what they are to mean.
use Rattle.std.proofs.Common.{◌≡◌, ◌≢◌, inl, ℕ, ℤ, ◌+◌, ◌≤◌, Bool, true, false, not, if◌then◌else◌, List, [], ◌∷◌, ◌++◌, map, length, get_or, ◌<◌, Option, Some, None, Result, Ok, Err, refl, sym, ap, ◌∙◌, subst, arith}
use Rattle.std.proofs.Math.Nat.{le_refl}
use Rattle.std.specs.Result.{IsErrAnd}
use Rattle.op_forms.specs.declared.constant.Const.{Const}
use Rattle.op_forms.specs.declared.op.Op.{Op}
use Rattle.op_forms.specs.declared.op.Op.TheVariants as op
use Rattle.op_forms.specs.Constants.{value_of}
use Rattle.py_ast.specs.declared.expr.Argument as an_argument
use Rattle.py_ast.specs.declared.expr.Argument.TheVariants as argument
use Rattle.py_ast.specs.declared.expr.Binary.{Binary}
use Rattle.py_ast.specs.declared.expr.Binary.TheVariants as binary
use Rattle.py_ast.specs.declared.expr.Comparison.{Comparison}
use Rattle.py_ast.specs.declared.expr.Comparison.TheVariants as comparison
use Rattle.py_ast.specs.declared.expr.Expr.{Expr, fold-Expr, fold-roll-Expr, map-Expr}
use Rattle.py_ast.specs.declared.expr.Expr.TheOpen.{Expr-F}
use Rattle.py_ast.specs.declared.expr.Expr.TheVariants as e
use Rattle.py_ast.specs.declared.expr.Expr.TheVariants.{rolls-None, rolls-True, rolls-False, rolls-Number, rolls-Text, rolls-Name, rolls-Unary, rolls-Binary, rolls-Not, rolls-Compare, rolls-Call}
use Rattle.py_ast.specs.declared.expr.Link.{Link}
use Rattle.py_ast.specs.declared.expr.Unary.{Unary}
use Rattle.py_ast.specs.declared.expr.Unary.TheVariants as unary
use Rattle.py_scopes.specs.Parts.{argument_of, link_of}
use Rattle.code_forms.specs.declared.operand.Argument.{Argument}
use Rattle.code_forms.specs.declared.operand.Argument.TheVariants as tree_argument
use Rattle.node_tree.specs.Contents.{total, form_operations, form_yields, yields}
use Rattle.code_forms.specs.declared.operand.Operand.{Operand}
use Rattle.code_forms.specs.declared.operand.Operand.TheVariants as operand
use Rattle.node_tree.specs.Blocks as tree
use Rattle.node_tree.specs.Tree.{block}
use Rattle.py_meaning.specs.Syntax as syntax
use Rattle.py_meaning.specs.Resolved as meaning
use Rattle.py_meaning.specs.Resolved.{Context, Made, Making, pure, made, and_then}
use Rattle.carries_base.specs.Frames.{Homes, behind, IsWithin}
use Rattle.carries_base.specs.Carries.{CarriesExpression}
use Rattle.carries_base.proofs.Facts.{outside_less}
use Rattle.carries_base.proofs.Small.{constant_carried}
use Rattle.reform_base.specs.declared.Part.{Part}
use Rattle.reform_expr.specs.Arguments.{arguments}
use Rattle.reform_expr.specs.Parts.{Range, CarriesEach, totals}
use Rattle.reform_all.specs.declared.ending.ReformEnd.{ReformEnd}
use Rattle.reform_all.specs.declared.ending.ReformEnd.TheVariants as end
use Rattle.reform_all.specs.Built as built
use Rattle.reform_all.specs.Expressions.{InModule, Is, IsExpressed, Does, Fails, Expressed, names_print}
use Rattle.code_forms.specs.Taking.{is_taken}
use Rattle.reform_all.specs.Taken.{refused}

-- What is made without a scope

pub is_pure : {A : Type 0} (x : A) → Is (pure x) x
is_pure x next = refl

abbrev made_of : {A B : Type 0} → (A → B) → Made A → Made B
made_of f a = record { is = f a.is; next = a.next; codes = a.codes }

pub is_made : {A B : Type 0} (f : A → B) (m : Making A) (x : A) → Is m x → Is (made f m) (f x)
is_made f m x is next = ap (made_of f) (is next)

abbrev then_of : {A B : Type 0} → (A → Making B) → Made A → Made B
then_of f a = let b = f a.is a.next in record { is = b.is; next = b.next; codes = a.codes ++ b.codes }

pub is_and_then : {A B : Type 0} (m : Making A) (f : A → Making B) (x : A) (y : B) → Is m x → Is (f x) y → Is (and_then m f) y
is_and_then m f x y is further next = ap (then_of f) (is next) ∙ ap (λ b. made_of (λ v. v) b) (further next)

pub is_one : (c : Context) (a : meaning.Part) (x : syntax.Expression) → Is (a.value c) x → Is (meaning.values c (a ∷ [])) (syntax.More x syntax.NoMore)
is_one c a x is = is_and_then (a.value c) (λ y. made (syntax.More y) (pure syntax.NoMore)) x _ is (is_made (syntax.More x) (pure syntax.NoMore) syntax.NoMore (is_pure syntax.NoMore))

pub is_two : (c : Context) (a b : meaning.Part) (x y : syntax.Expression) → Is (a.value c) x → Is (b.value c) y → Is (meaning.values c (a ∷ b ∷ [])) (syntax.More x (syntax.More y syntax.NoMore))
is_two c a b x y is also = is_and_then (a.value c) (λ v. made (syntax.More v) (meaning.values c (b ∷ []))) x _ is (is_made (syntax.More x) (meaning.values c (b ∷ [])) (syntax.More y syntax.NoMore) (is_one c b y also))

-- Operands

within_wider : (low high top : ℕ) (o : Operand) → high ≤ top → IsWithin low high o → IsWithin low top o
within_wider low high top (operand.Temp t) le w = let l = w.1 in (w.0, omega arith)
within_wider low high top (operand.Const c) le w = tt

pub wider : (h : Homes) (low high top : ℕ) (x : syntax.Expression) (b : tree.Block) (o : Operand) → high ≤ top → CarriesExpression h low high x b o → CarriesExpression h low top x b o
wider h low high top x b o le c =
    let g : low ≤ high = c.grows in
    record {
      starts = c.starts;
      grows = omega arith;
      within = within_wider low high top o le c.within;
      carries = λ z fs off. c.carries z fs (outside_less h low top low high fs (le_refl low) le off);
    }

pub one_each : (h : Homes) (low high top : ℕ) (x : syntax.Expression) (p : Part) → high ≤ top → CarriesExpression h low high x (block p.block) p.value → CarriesEach h low top (syntax.More x syntax.NoMore) (p ∷ []) ((record { low = low; high = high }) ∷ [])
one_each h low high top x p le c =
    let g : low ≤ high = c.grows in
    ((le_refl low, le), c, tt, (c.starts, omega arith))

pub two_each : (h : Homes) (low mid high top : ℕ) (x y : syntax.Expression) (p q : Part) → high ≤ top → CarriesExpression h low mid x (block p.block) p.value → CarriesExpression h mid high y (block q.block) q.value → CarriesEach h low top (syntax.More x (syntax.More y syntax.NoMore)) (p ∷ q ∷ []) ((record { low = low; high = mid }) ∷ (record { low = mid; high = high }) ∷ [])
two_each h low mid high top x y p q le c d =
    let g : low ≤ mid = c.grows in
    let k : mid ≤ high = d.grows in
    ((le_refl low, omega arith), c, (inl (le_refl mid), tt), ((g, le), d, tt, (c.starts, omega arith)))

-- The first thing that is not built

pub fails_first : (u v : Option ℕ) (x : ReformEnd) → Fails u x → Fails (built.before u v) x
fails_first u v (end.Unbuilt line) f = ap (λ o. built.before o v) f
fails_first u v end.Memory f = tt

pub fails_second : (u v : Option ℕ) (x : ReformEnd) → u ≡ None → Fails v x → Fails (built.before u v) x
fails_second u v (end.Unbuilt line) e f = ap (λ o. built.before o v) e ∙ f
fails_second u v end.Memory e f = tt

-- What a fold over expressions gives, by the parts of an expression

pub none_row : (A : Type 0) (row : Expr-F A → A) (line : ℕ) → fold-Expr A row (e.None line) ≡ row (Expr-F.None line)
none_row A row line = ap (fold-Expr A row) (sym (rolls-None line)) ∙ fold-roll-Expr A row (Expr-F.None line)

pub true_row : (A : Type 0) (row : Expr-F A → A) (line : ℕ) → fold-Expr A row (e.True line) ≡ row (Expr-F.True line)
true_row A row line = ap (fold-Expr A row) (sym (rolls-True line)) ∙ fold-roll-Expr A row (Expr-F.True line)

pub false_row : (A : Type 0) (row : Expr-F A → A) (line : ℕ) → fold-Expr A row (e.False line) ≡ row (Expr-F.False line)
false_row A row line = ap (fold-Expr A row) (sym (rolls-False line)) ∙ fold-roll-Expr A row (Expr-F.False line)

pub number_row : (A : Type 0) (row : Expr-F A → A) (line : ℕ) (z : ℤ) → fold-Expr A row (e.Number line z) ≡ row (Expr-F.Number line z)
number_row A row line z = ap (fold-Expr A row) (sym (rolls-Number line z)) ∙ fold-roll-Expr A row (Expr-F.Number line z)

pub text_row : (A : Type 0) (row : Expr-F A → A) (line : ℕ) (x : List ℕ) → fold-Expr A row (e.Text line x) ≡ row (Expr-F.Text line x)
text_row A row line x = ap (fold-Expr A row) (sym (rolls-Text line x)) ∙ fold-roll-Expr A row (Expr-F.Text line x)

pub name_row : (A : Type 0) (row : Expr-F A → A) (line : ℕ) (x : List ℕ) → fold-Expr A row (e.Name line x) ≡ row (Expr-F.Name line x)
name_row A row line x = ap (fold-Expr A row) (sym (rolls-Name line x)) ∙ fold-roll-Expr A row (Expr-F.Name line x)

unary_row : (A : Type 0) (row : Expr-F A → A) (whole : Expr) (line : ℕ) (sign : Unary) (x y : Expr) → whole ≡ e.Unary line sign x → y ≡ x → fold-Expr A row whole ≡ row (Expr-F.Unary line sign (fold-Expr A row y))
unary_row A row whole line sign x y w is =
    ap (fold-Expr A row) (w ∙ sym (rolls-Unary line sign x)) ∙ fold-roll-Expr A row (Expr-F.Unary line sign x)
    ∙ ap (λ z. row (Expr-F.Unary line sign (fold-Expr A row z))) (sym is)

not_row : (A : Type 0) (row : Expr-F A → A) (whole : Expr) (line : ℕ) (x y : Expr) → whole ≡ e.Not line x → y ≡ x → fold-Expr A row whole ≡ row (Expr-F.Not line (fold-Expr A row y))
not_row A row whole line x y w is =
    ap (fold-Expr A row) (w ∙ sym (rolls-Not line x)) ∙ fold-roll-Expr A row (Expr-F.Not line x)
    ∙ ap (λ z. row (Expr-F.Not line (fold-Expr A row z))) (sym is)

binary_row : (A : Type 0) (row : Expr-F A → A) (whole : Expr) (line : ℕ) (operator : Binary) (x y x' y' : Expr) → whole ≡ e.Binary line operator x' y' → x ≡ x' → y ≡ y' → fold-Expr A row whole ≡ row (Expr-F.Binary line operator (fold-Expr A row x) (fold-Expr A row y))
binary_row A row whole line operator x y x' y' w i j =
    ap (fold-Expr A row) (w ∙ sym (rolls-Binary line operator x' y')) ∙ fold-roll-Expr A row (Expr-F.Binary line operator x' y')
    ∙ ap (λ z. row (Expr-F.Binary line operator (fold-Expr A row z) (fold-Expr A row y'))) (sym i)
    ∙ ap (λ z. row (Expr-F.Binary line operator (fold-Expr A row x) (fold-Expr A row z))) (sym j)

-- comparisons and arguments, one by one

abbrev with_link : {A : Type 0} → Link A → Expr-F A → Expr-F A
with_link l (Expr-F.Compare line x links) = Expr-F.Compare line x (l ∷ links)
with_link l y = y

compare_layer : (A : Type 0) (f : Expr → A) (line : ℕ) (x : Expr) (links : List (Link Expr)) → map-Expr Expr A f (Expr-F.Compare line x links) ≡ Expr-F.Compare line (f x) (map (link_of f) links)
compare_layer A f line x [] = refl
compare_layer A f line x (l ∷ links) = ap (with_link (link_of f l)) (compare_layer A f line x links)

compare_row : (A : Type 0) (row : Expr-F A → A) (whole : Expr) (line : ℕ) (x y : Expr) (links links' : List (Link Expr)) → whole ≡ e.Compare line x links → y ≡ x → links ≡ links' → fold-Expr A row whole ≡ row (Expr-F.Compare line (fold-Expr A row y) (map (link_of (fold-Expr A row)) links'))
compare_row A row whole line x y links links' w is l =
    ap (fold-Expr A row) (w ∙ sym (rolls-Compare line x links)) ∙ fold-roll-Expr A row (Expr-F.Compare line x links)
    ∙ ap row (compare_layer A (fold-Expr A row) line x links)
    ∙ ap (λ z. row (Expr-F.Compare line (fold-Expr A row z) (map (link_of (fold-Expr A row)) links))) (sym is)
    ∙ ap (λ z. row (Expr-F.Compare line (fold-Expr A row y) (map (link_of (fold-Expr A row)) z))) l

abbrev with_argument : {A : Type 0} → an_argument.Argument A → Expr-F A → Expr-F A
with_argument a (Expr-F.Call line f xs) = Expr-F.Call line f (a ∷ xs)
with_argument a y = y

call_layer : (A : Type 0) (f : Expr → A) (line : ℕ) (g : Expr) (xs : List (an_argument.Argument Expr)) → map-Expr Expr A f (Expr-F.Call line g xs) ≡ Expr-F.Call line (f g) (map (argument_of f) xs)
call_layer A f line g [] = refl
call_layer A f line g (argument.Plain x ∷ xs) = ap (with_argument (argument.Plain (f x))) (call_layer A f line g xs)
call_layer A f line g (argument.Star x ∷ xs) = ap (with_argument (argument.Star (f x))) (call_layer A f line g xs)
call_layer A f line g (argument.Keyword l n x ∷ xs) = ap (with_argument (argument.Keyword l n (f x))) (call_layer A f line g xs)
call_layer A f line g (argument.Merge x ∷ xs) = ap (with_argument (argument.Merge (f x))) (call_layer A f line g xs)

call_row : (A : Type 0) (row : Expr-F A → A) (whole : Expr) (line : ℕ) (g h : Expr) (xs ys : List (an_argument.Argument Expr)) → whole ≡ e.Call line g xs → h ≡ g → xs ≡ ys → fold-Expr A row whole ≡ row (Expr-F.Call line (fold-Expr A row h) (map (argument_of (fold-Expr A row)) ys))
call_row A row whole line g h xs ys w is l =
    ap (fold-Expr A row) (w ∙ sym (rolls-Call line g xs)) ∙ fold-roll-Expr A row (Expr-F.Call line g xs)
    ∙ ap row (call_layer A (fold-Expr A row) line g xs)
    ∙ ap (λ z. row (Expr-F.Call line (fold-Expr A row z) (map (argument_of (fold-Expr A row)) xs))) (sym is)
    ∙ ap (λ z. row (Expr-F.Call line (fold-Expr A row h) (map (argument_of (fold-Expr A row)) z))) l

-- a part, by the rows of an expression
record Evaluated (unbuilt : Option ℕ) (value : Context → Making syntax.Expression) (old new : ℕ) (p : Part) : Type 0 where
  built : unbuilt ≡ None
  grows : old ≤ new
  means : (c : Context) → InModule c → syntax.Expression
  is : (c : Context) → (m : InModule c) → Is (value c) (means c m)
  carries : (c : Context) → (m : InModule c) → (h : Homes) (low : ℕ) → behind h ≤ low → low ≤ old → CarriesExpression h low new (means c m) (block p.block) p.value
  taken : refused (block p.block) ≡ 0
  yields : yields (block p.block) ≡ 0

by_rows : (bound : List (List ℕ)) (x : Expr) (b : built.Expression) (q : meaning.Part) (old new : ℕ) (p : Part) → built.expr x ≡ b → meaning.expr x ≡ q → Evaluated (b.unbuilt bound) q.value old new p → IsExpressed bound x old new p
by_rows bound x b q old new p is also r = record {
  built = ap (λ u. u.unbuilt bound) is ∙ r.built;
  grows = r.grows;
  means = r.means;
  is = λ c m. subst (λ part. Is (part.value c) (r.means c m)) (sym also) (r.is c m);
  carries = r.carries;
  taken = r.taken;
  yields = r.yields;
}

-- Constants and names

abbrev refuses : tree.Form → ℕ
refuses = form_operations (λ o args. not (is_taken o args))

constant_by : (h : Homes) (low : ℕ) (k : Const) (p : Part) → p.block ≡ [] → p.value ≡ operand.Const k → behind h ≤ low → CarriesExpression h low low (syntax.Constant (value_of k)) (block p.block) p.value
constant_by h low k p empty is st =
    subst (λ b. CarriesExpression h low low (syntax.Constant (value_of k)) (block b) p.value) (sym empty)
    (subst (λ v. CarriesExpression h low low (syntax.Constant (value_of k)) tree.Stop v) (sym is) (constant_carried h low k st))

pub constant_expressed : (bound : List (List ℕ)) (x : Expr) (at : ℕ) (k : Const) (p : Part) → built.expr x ≡ built.valued (λ bound. None) → meaning.expr x ≡ meaning.constant (value_of k) → p.block ≡ [] → p.value ≡ operand.Const k → IsExpressed bound x at at p
constant_expressed bound x at k p is also empty value = by_rows bound x (built.valued (λ bound. None)) (meaning.constant (value_of k)) at at p is also (record {
  built = refl;
  grows = le_refl at;
  means = λ c m. syntax.Constant (value_of k);
  is = λ c m. is_pure (syntax.Constant (value_of k));
  carries = λ c m h low st le. wider h low low at (syntax.Constant (value_of k)) (block p.block) p.value le (constant_by h low k p empty value st);
  taken = ap (λ b. refused (block b)) empty;
  yields = ap (λ b. yields (block b)) empty;
})

pub other_name : (bound : List (List ℕ)) (line : ℕ) (name : List ℕ) → built.is_other bound name ≡ true → (built.expr (e.Name line name)).unbuilt bound ≡ Some line
other_name bound line name is = ap (λ u. u.unbuilt bound) (name_row built.Expression built.expr_row line name) ∙ ap (λ b. built.line_if b line) is

pub name_expressed : (bound : List (List ℕ)) (line : ℕ) (name : List ℕ) (old new : ℕ) (p : Part) → built.is_other bound name ≡ false → old ≤ new → ((h : Homes) (low : ℕ) → behind h ≤ low → low ≤ old → CarriesExpression h low new (syntax.Name line (syntax.Module name)) (block p.block) p.value) → ((count : tree.Form → ℕ) → total count (block p.block) ≡ count (tree.Do old line op.Global (tree_argument.Name name ∷ []))) → IsExpressed bound (e.Name line name) old new p
name_expressed bound line name old new p known le carried contents =
    by_rows bound (e.Name line name) (built.expr_row (Expr-F.Name line name)) (meaning.expr_part (Expr-F.Name line name)) old new p (name_row built.Expression built.expr_row line name) (name_row meaning.Part meaning.expr_part line name) (record {
      built = ap (λ b. built.line_if b line) known;
      grows = le;
      means = λ c m. syntax.Name line (syntax.Module name);
      is = λ c m. subst (λ home. Is (pure (syntax.Name line home)) (syntax.Name line (syntax.Module name))) (sym (m.homes name)) (is_pure (syntax.Name line (syntax.Module name)));
      carries = λ c m. carried;
      taken = contents refuses;
      yields = contents form_yields;
    })

-- Operations

-- a statement that does an operation which takes what it is given
abbrev weight : Bool → ℕ
weight b = if not b then 1 else 0

taken_form : (to line : ℕ) (o : Op) (args : List Argument) → is_taken o args ≡ true → refuses (tree.Do to line o args) ≡ 0
taken_form to line o args is = ap weight is

unary_taken : (sign : Unary) (a : Part) → is_taken (meaning.unary_op sign) (arguments (meaning.unary_op sign) (a ∷ [])) ≡ true
unary_taken unary.Plus a = refl
unary_taken unary.Minus a = refl
unary_taken unary.Invert a = refl

binary_taken : (operator : Binary) (a b : Part) → is_taken (meaning.binary_op operator) (arguments (meaning.binary_op operator) (a ∷ b ∷ [])) ≡ true
binary_taken binary.BitOr a b = refl
binary_taken binary.BitXor a b = refl
binary_taken binary.BitAnd a b = refl
binary_taken binary.LeftShift a b = refl
binary_taken binary.RightShift a b = refl
binary_taken binary.Add a b = refl
binary_taken binary.Subtract a b = refl
binary_taken binary.Multiply a b = refl
binary_taken binary.FloorDivide a b = refl
binary_taken binary.Remainder a b = refl
binary_taken binary.Power a b = refl

compared_taken : (sign : Comparison) (a b : Part) → is_taken (meaning.comparison_op sign) (arguments (meaning.comparison_op sign) (a ∷ b ∷ [])) ≡ true
compared_taken comparison.Less a b = refl
compared_taken comparison.Greater a b = refl
compared_taken comparison.LessEqual a b = refl
compared_taken comparison.GreaterEqual a b = refl
compared_taken comparison.Equal a b = refl
compared_taken comparison.NotEqual a b = refl
compared_taken comparison.In a b = refl
compared_taken comparison.NotIn a b = refl
compared_taken comparison.Is a b = refl
compared_taken comparison.IsNot a b = refl

sum_one : (t a f : ℕ) → t ≡ (a + 0) + f → a ≡ 0 → f ≡ 0 → t ≡ 0
sum_one t a f e e₁ e₂ = omega arith

sum_two : (t a b f : ℕ) → t ≡ (a + (b + 0)) + f → a ≡ 0 → b ≡ 0 → f ≡ 0 → t ≡ 0
sum_two t a b f e e₁ e₂ e₃ = omega arith

-- none of these counted in the parts and in the statement: none in the whole
none_one : {line : ℕ} {o : Op} {x : tree.Form} {old new : ℕ} {a p : Part} (count : tree.Form → ℕ) → Does line o x old new (a ∷ []) p → total count (block a.block) ≡ 0 → count x ≡ 0 → total count (block p.block) ≡ 0
none_one count d e₁ e₂ = sum_one _ _ _ (d.contents count) e₁ e₂

none_two : {line : ℕ} {o : Op} {x : tree.Form} {old new : ℕ} {a b p : Part} (count : tree.Form → ℕ) → Does line o x old new (a ∷ b ∷ []) p → total count (block a.block) ≡ 0 → total count (block b.block) ≡ 0 → count x ≡ 0 → total count (block p.block) ≡ 0
none_two count d e₁ e₂ e₃ = sum_two _ _ _ _ (d.contents count) e₁ e₂ e₃

one_carried : (line : ℕ) (o : Op) (x : tree.Form) (old new : ℕ) (a p : Part) → Does line o x old new (a ∷ []) p → (h : Homes) (low : ℕ) (v : syntax.Expression) → CarriesExpression h low old v (block a.block) a.value → CarriesExpression h low new (syntax.Operation line o (syntax.More v syntax.NoMore)) (block p.block) p.value
one_carried line o x old new a p d h low v c = d.carries h low (syntax.More v syntax.NoMore) ((record { low = low; high = old }) ∷ []) (one_each h low old old v a (le_refl old) c)

pub unary_expressed : (bound : List (List ℕ)) (whole : Expr) (line : ℕ) (sign : Unary) (x y : Expr) (old mid new : ℕ) (a p : Part) → whole ≡ e.Unary line sign y → x ≡ y → IsExpressed bound x old mid a → Does line (meaning.unary_op sign) (tree.Do mid line (meaning.unary_op sign) (arguments (meaning.unary_op sign) (a ∷ []))) mid new (a ∷ []) p → IsExpressed bound whole old new p
unary_expressed bound whole line sign x y old mid new a p w same i d =
    let g : old ≤ mid = i.grows in
    let s : new ≡ mid + 1 = d.drawn in
    by_rows bound whole (built.expr_row (Expr-F.Unary line sign (built.expr x))) (meaning.expr_part (Expr-F.Unary line sign (meaning.expr x))) old new p (unary_row built.Expression built.expr_row whole line sign y x w same) (unary_row meaning.Part meaning.expr_part whole line sign y x w same) (record {
      built = i.built;
      grows = omega arith;
      means = λ c m. syntax.Operation line (meaning.unary_op sign) (syntax.More (i.means c m) syntax.NoMore);
      is = λ c m. is_made (syntax.Operation line (meaning.unary_op sign)) (meaning.values c (meaning.expr x ∷ [])) _ (is_one c (meaning.expr x) (i.means c m) (i.is c m));
      carries = λ c m h low st l. one_carried line _ _ mid new a p d h low (i.means c m) (i.carries c m h low st l);
      taken = none_one refuses d i.taken (taken_form mid line (meaning.unary_op sign) (arguments (meaning.unary_op sign) (a ∷ [])) (unary_taken sign a));
      yields = none_one form_yields d i.yields refl;
    })

pub not_expressed : (bound : List (List ℕ)) (whole : Expr) (line : ℕ) (x y : Expr) (old mid top new : ℕ) (a t p : Part) → whole ≡ e.Not line y → x ≡ y → IsExpressed bound x old mid a → Does line op.Truth (tree.Do mid line op.Truth (arguments op.Truth (a ∷ []))) mid top (a ∷ []) t → Does line op.Not (tree.Do top line op.Not (arguments op.Not (t ∷ []))) top new (t ∷ []) p → IsExpressed bound whole old new p
not_expressed bound whole line x y old mid top new a t p w same i truth d =
    let g : old ≤ mid = i.grows in
    let s : top ≡ mid + 1 = truth.drawn in
    let r : new ≡ top + 1 = d.drawn in
    by_rows bound whole (built.expr_row (Expr-F.Not line (built.expr x))) (meaning.expr_part (Expr-F.Not line (meaning.expr x))) old new p (not_row built.Expression built.expr_row whole line y x w same) (not_row meaning.Part meaning.expr_part whole line y x w same) (record {
      built = i.built;
      grows = omega arith;
      means = λ c m. syntax.Operation line op.Not (syntax.More (syntax.Operation line op.Truth (syntax.More (i.means c m) syntax.NoMore)) syntax.NoMore);
      is = λ c m. is_made (λ v. syntax.Operation line op.Not (syntax.More (syntax.Operation line op.Truth (syntax.More v syntax.NoMore)) syntax.NoMore)) ((meaning.expr x).value c) (i.means c m) (i.is c m);
      carries = λ c m h low st l. one_carried line op.Not _ top new t p d h low (syntax.Operation line op.Truth (syntax.More (i.means c m) syntax.NoMore)) (one_carried line op.Truth _ mid top a t truth h low (i.means c m) (i.carries c m h low st l));
      taken = none_one refuses d (none_one refuses truth i.taken refl) refl;
      yields = none_one form_yields d (none_one form_yields truth i.yields refl) refl;
    })

behind_both : (h : Homes) (low old mid : ℕ) → behind h ≤ low → low ≤ old → old ≤ mid → behind h ≤ mid
behind_both h low old mid a b c = omega arith

-- two operands, one behind the other
two_carried : (line : ℕ) (o : Op) (f : tree.Form) (bound : List (List ℕ)) (x y : Expr) (old mid high new : ℕ) (a b p : Part) (i : IsExpressed bound x old mid a) (j : IsExpressed bound y mid high b) → Does line o f high new (a ∷ b ∷ []) p → (c : Context) → (m : InModule c) → (h : Homes) (low : ℕ) → behind h ≤ low → low ≤ old → CarriesExpression h low new (syntax.Operation line o (syntax.More (i.means c m) (syntax.More (j.means c m) syntax.NoMore))) (block p.block) p.value
two_carried line o f bound x y old mid high new a b p i j d c m h low st le =
    d.carries h low (syntax.More (i.means c m) (syntax.More (j.means c m) syntax.NoMore)) ((record { low = low; high = mid }) ∷ (record { low = mid; high = high }) ∷ [])
    (two_each h low mid high high (i.means c m) (j.means c m) a b (le_refl high) (i.carries c m h low st le) (j.carries c m h mid (behind_both h low old mid st le i.grows) (le_refl mid)))

pub binary_expressed : (bound : List (List ℕ)) (whole : Expr) (line : ℕ) (operator : Binary) (x y x' y' : Expr) (old mid high new : ℕ) (a b p : Part) → whole ≡ e.Binary line operator x' y' → x ≡ x' → y ≡ y' → IsExpressed bound x old mid a → IsExpressed bound y mid high b → Does line (meaning.binary_op operator) (tree.Do high line (meaning.binary_op operator) (arguments (meaning.binary_op operator) (a ∷ b ∷ []))) high new (a ∷ b ∷ []) p → IsExpressed bound whole old new p
binary_expressed bound whole line operator x y x' y' old mid high new a b p w same also i j d =
    let g : old ≤ mid = i.grows in
    let k : mid ≤ high = j.grows in
    let s : new ≡ high + 1 = d.drawn in
    by_rows bound whole (built.expr_row (Expr-F.Binary line operator (built.expr x) (built.expr y))) (meaning.expr_part (Expr-F.Binary line operator (meaning.expr x) (meaning.expr y))) old new p (binary_row built.Expression built.expr_row whole line operator x y x' y' w same also) (binary_row meaning.Part meaning.expr_part whole line operator x y x' y' w same also) (record {
      built = ap (λ o. built.before o ((built.expr y).unbuilt bound)) i.built ∙ j.built;
      grows = omega arith;
      means = λ c m. syntax.Operation line (meaning.binary_op operator) (syntax.More (i.means c m) (syntax.More (j.means c m) syntax.NoMore));
      is = λ c m. is_made (syntax.Operation line (meaning.binary_op operator)) (meaning.values c (meaning.expr x ∷ meaning.expr y ∷ [])) _ (is_two c (meaning.expr x) (meaning.expr y) (i.means c m) (j.means c m) (i.is c m) (j.is c m));
      carries = two_carried line (meaning.binary_op operator) _ bound x y old mid high new a b p i j d;
      taken = none_two refuses d i.taken j.taken (taken_form high line (meaning.binary_op operator) (arguments (meaning.binary_op operator) (a ∷ b ∷ [])) (binary_taken operator a b));
      yields = none_two form_yields d i.yields j.yields refl;
    })

pub binary_fails : (bound : List (List ℕ)) (whole : Expr) (line : ℕ) (operator : Binary) (x y x' y' : Expr) (old mid : ℕ) (a : Part) (f : ReformEnd) → whole ≡ e.Binary line operator x' y' → x ≡ x' → y ≡ y' → IsExpressed bound x old mid a → Fails ((built.expr y).unbuilt bound) f → Fails ((built.expr whole).unbuilt bound) f
binary_fails bound whole line operator x y x' y' old mid a f w same also i fails =
    subst (λ u. Fails (u.unbuilt bound) f) (sym (binary_row built.Expression built.expr_row whole line operator x y x' y' w same also)) (fails_second _ _ f i.built fails)

-- Comparisons

-- the row of a chain
compared_by : (bound : List (List ℕ)) (whole : Expr) (line : ℕ) (x x' : Expr) (links : List (Link Expr)) (link : Link Expr) → whole ≡ e.Compare line x' links → x ≡ x' → links ≡ link ∷ [] → (built.expr whole).unbuilt bound ≡ (if built.is_in link.comparison then Some line else built.before ((built.expr x).unbuilt bound) ((built.expr link.right).unbuilt bound))
compared_by bound whole line x x' links link w same one = ap (λ u. u.unbuilt bound) (compare_row built.Expression built.expr_row whole line x' x links (link ∷ []) w same one)

compared_built : (bound : List (List ℕ)) (whole : Expr) (line : ℕ) (x x' : Expr) (links : List (Link Expr)) (link : Link Expr) → whole ≡ e.Compare line x' links → x ≡ x' → links ≡ link ∷ [] → built.is_in link.comparison ≡ false → (built.expr whole).unbuilt bound ≡ built.before ((built.expr x).unbuilt bound) ((built.expr link.right).unbuilt bound)
compared_built bound whole line x x' links link w same one plain =
    compared_by bound whole line x x' links link w same one ∙ ap (λ b. if b then Some line else built.before ((built.expr x).unbuilt bound) ((built.expr link.right).unbuilt bound)) plain

pub compared_in : (bound : List (List ℕ)) (whole : Expr) (line : ℕ) (x : Expr) (links : List (Link Expr)) (link : Link Expr) → whole ≡ e.Compare line x links → links ≡ link ∷ [] → built.is_in link.comparison ≡ true → (built.expr whole).unbuilt bound ≡ Some line
compared_in bound whole line x links link w one is =
    compared_by bound whole line x x links link w refl one ∙ ap (λ b. if b then Some line else built.before ((built.expr x).unbuilt bound) ((built.expr link.right).unbuilt bound)) is

many_compared : (bound : List (List ℕ)) (line : ℕ) (x : built.Expression) (links : List (Link Expr)) → length links ≢ 1 → built.compared line x (map (link_of built.expr) links) bound ≡ Some line
many_compared bound line x [] ne = refl
many_compared bound line x (l ∷ []) ne = absurd (ne refl)
many_compared bound line x (l ∷ k ∷ links) ne = refl

pub compared_many : (bound : List (List ℕ)) (whole : Expr) (line : ℕ) (x : Expr) (links : List (Link Expr)) → whole ≡ e.Compare line x links → length links ≢ 1 → (built.expr whole).unbuilt bound ≡ Some line
compared_many bound whole line x links w ne =
    ap (λ u. u.unbuilt bound) (compare_row built.Expression built.expr_row whole line x x links links w refl refl) ∙ many_compared bound line (built.expr x) links ne

pub compared_first : (bound : List (List ℕ)) (whole : Expr) (line : ℕ) (x x' : Expr) (links : List (Link Expr)) (link : Link Expr) (f : ReformEnd) → whole ≡ e.Compare line x' links → x ≡ x' → links ≡ link ∷ [] → built.is_in link.comparison ≡ false → Fails ((built.expr x).unbuilt bound) f → Fails ((built.expr whole).unbuilt bound) f
compared_first bound whole line x x' links link f w same one plain fails =
    subst (λ u. Fails u f) (sym (compared_built bound whole line x x' links link w same one plain)) (fails_first _ _ f fails)

pub compared_second : (bound : List (List ℕ)) (whole : Expr) (line : ℕ) (x x' : Expr) (links : List (Link Expr)) (link : Link Expr) (old mid : ℕ) (a : Part) (f : ReformEnd) → whole ≡ e.Compare line x' links → x ≡ x' → links ≡ link ∷ [] → built.is_in link.comparison ≡ false → IsExpressed bound x old mid a → Fails ((built.expr link.right).unbuilt bound) f → Fails ((built.expr whole).unbuilt bound) f
compared_second bound whole line x x' links link old mid a f w same one plain i fails =
    subst (λ u. Fails u f) (sym (compared_built bound whole line x x' links link w same one plain)) (fails_second _ _ f i.built fails)

plain_comparison : (sign : Comparison) → built.is_in sign ≡ false → meaning.is_negated sign ≡ false
plain_comparison comparison.Less e = refl
plain_comparison comparison.Greater e = refl
plain_comparison comparison.LessEqual e = refl
plain_comparison comparison.GreaterEqual e = refl
plain_comparison comparison.Equal e = refl
plain_comparison comparison.NotEqual e = refl
plain_comparison comparison.In e = refl
plain_comparison comparison.NotIn e = e
plain_comparison comparison.Is e = refl
plain_comparison comparison.IsNot e = refl

-- the row of a comparison alone is that of the operation
compared_carried : (h : Homes) (low high line : ℕ) (o : Op) (x y : syntax.Expression) (b : tree.Block) (v : Operand) → CarriesExpression h low high (syntax.Operation line o (syntax.More x (syntax.More y syntax.NoMore))) b v → CarriesExpression h low high (syntax.Comparison line x (syntax.LastLink o false y)) b v
compared_carried h low high line o x y b v c = c

pub compared_expressed : (bound : List (List ℕ)) (whole : Expr) (line : ℕ) (x x' : Expr) (links : List (Link Expr)) (link : Link Expr) (old mid high new : ℕ) (a b p : Part) → whole ≡ e.Compare line x' links → x ≡ x' → links ≡ link ∷ [] → built.is_in link.comparison ≡ false → IsExpressed bound x old mid a → IsExpressed bound link.right mid high b → Does line (meaning.comparison_op link.comparison) (tree.Do high line (meaning.comparison_op link.comparison) (arguments (meaning.comparison_op link.comparison) (a ∷ b ∷ []))) high new (a ∷ b ∷ []) p → IsExpressed bound whole old new p
compared_expressed bound whole line x x' links link old mid high new a b p w same one plain i j d =
    let g : old ≤ mid = i.grows in
    let k : mid ≤ high = j.grows in
    let s : new ≡ high + 1 = d.drawn in
    let o = meaning.comparison_op link.comparison in
    by_rows bound whole (built.expr_row (Expr-F.Compare line (built.expr x) (link_of built.expr link ∷ []))) (meaning.expr_part (Expr-F.Compare line (meaning.expr x) (link_of meaning.expr link ∷ []))) old new p (compare_row built.Expression built.expr_row whole line x' x links (link ∷ []) w same one) (compare_row meaning.Part meaning.expr_part whole line x' x links (link ∷ []) w same one) (record {
      built = ap (λ b. if b then Some line else built.before ((built.expr x).unbuilt bound) ((built.expr link.right).unbuilt bound)) plain ∙ ap (λ u. built.before u ((built.expr link.right).unbuilt bound)) i.built ∙ j.built;
      grows = omega arith;
      means = λ c m. syntax.Comparison line (i.means c m) (syntax.LastLink o false (j.means c m));
      is = λ c m. is_and_then ((meaning.expr x).value c) (λ v. meaning.compared c line v (link_of meaning.expr link ∷ [])) (i.means c m) _ (i.is c m)
          (is_made (syntax.Comparison line (i.means c m)) (made (syntax.LastLink o (meaning.is_negated link.comparison)) ((meaning.expr link.right).value c)) (syntax.LastLink o false (j.means c m))
          (subst (λ n. Is (made (syntax.LastLink o n) ((meaning.expr link.right).value c)) (syntax.LastLink o false (j.means c m))) (sym (plain_comparison link.comparison plain))
          (is_made (syntax.LastLink o false) ((meaning.expr link.right).value c) (j.means c m) (j.is c m))));
      carries = λ c m h low st l. compared_carried h low new line o (i.means c m) (j.means c m) (block p.block) p.value (two_carried line o _ bound x link.right old mid high new a b p i j d c m h low st l);
      taken = none_two refuses d i.taken j.taken (taken_form high line o (arguments o (a ∷ b ∷ [])) (compared_taken link.comparison a b));
      yields = none_two form_yields d i.yields j.yields refl;
    })

-- Calls of `print`

prints_unbuilt : (f : Option (List ℕ)) (line : ℕ) (x : built.Expression) (bound : List (List ℕ)) → names_print f ≡ true → built.called line f (argument.Plain x ∷ []) bound ≡ x.unbuilt bound
prints_unbuilt (Some f) line x bound is = ap (λ b. if b then x.unbuilt bound else Some line) is
prints_unbuilt None line x bound is = absurd (grind (arith, is))

called_built : (bound : List (List ℕ)) (whole : Expr) (line : ℕ) (f f' : Expr) (xs : List (an_argument.Argument Expr)) (x : Expr) → whole ≡ e.Call line f' xs → f ≡ f' → xs ≡ argument.Plain x ∷ [] → names_print (built.expr f).name ≡ true → (built.expr whole).unbuilt bound ≡ (built.expr x).unbuilt bound
called_built bound whole line f f' xs x w same one is =
    ap (λ u. u.unbuilt bound) (call_row built.Expression built.expr_row whole line f' f xs (argument.Plain x ∷ []) w same one) ∙ prints_unbuilt (built.expr f).name line (built.expr x) bound is

pub called_fails : (bound : List (List ℕ)) (whole : Expr) (line : ℕ) (f f' : Expr) (xs : List (an_argument.Argument Expr)) (x : Expr) (end : ReformEnd) → whole ≡ e.Call line f' xs → f ≡ f' → xs ≡ argument.Plain x ∷ [] → names_print (built.expr f).name ≡ true → Fails ((built.expr x).unbuilt bound) end → Fails ((built.expr whole).unbuilt bound) end
called_fails bound whole line f f' xs x end w same one is fails =
    subst (λ u. Fails u end) (sym (called_built bound whole line f f' xs x w same one is)) fails

pub called_expressed : (bound : List (List ℕ)) (whole : Expr) (line : ℕ) (f f' : Expr) (xs : List (an_argument.Argument Expr)) (x : Expr) (old mid high new : ℕ) (a b p : Part) → whole ≡ e.Call line f' xs → f ≡ f' → xs ≡ argument.Plain x ∷ [] → names_print (built.expr f).name ≡ true → IsExpressed bound f old mid a → IsExpressed bound x mid high b → Does line op.Call (tree.Call high line a.value (b.value ∷ [])) high new (a ∷ b ∷ []) p → IsExpressed bound whole old new p
called_expressed bound whole line f f' xs x old mid high new a b p w same one print i j d =
    let g : old ≤ mid = i.grows in
    let k : mid ≤ high = j.grows in
    let s : new ≡ high + 1 = d.drawn in
    by_rows bound whole (built.expr_row (Expr-F.Call line (built.expr f) (argument.Plain (built.expr x) ∷ []))) (meaning.expr_part (Expr-F.Call line (meaning.expr f) (argument.Plain (meaning.expr x) ∷ []))) old new p (call_row built.Expression built.expr_row whole line f' f xs (argument.Plain x ∷ []) w same one) (call_row meaning.Part meaning.expr_part whole line f' f xs (argument.Plain x ∷ []) w same one) (record {
      built = prints_unbuilt (built.expr f).name line (built.expr x) bound print ∙ j.built;
      grows = omega arith;
      means = λ c m. syntax.Operation line op.Call (syntax.More (i.means c m) (syntax.More (j.means c m) syntax.NoMore));
      is = λ c m. is_and_then ((meaning.expr f).value c) (λ g. made (λ vs. syntax.Operation line op.Call (syntax.More g vs)) (meaning.positional c (argument.Plain (meaning.expr x) ∷ []))) (i.means c m) _ (i.is c m)
          (is_made (λ vs. syntax.Operation line op.Call (syntax.More (i.means c m) vs)) (meaning.values c (meaning.expr x ∷ [])) _ (is_one c (meaning.expr x) (j.means c m) (j.is c m)));
      carries = two_carried line op.Call _ bound f x old mid high new a b p i j d;
      taken = none_two refuses d i.taken j.taken refl;
      yields = none_two form_yields d i.yields j.yields refl;
    })

-- What code makes

pub done : (line : ℕ) (o : Op) (f : List Part → tree.Form) (old new : ℕ) (items ps : List Part) (p : Part) → items ≡ ps → Does line o (f items) old new items p → Does line o (f ps) old new ps p
done line o f old new items ps p is d = subst (λ qs. Does line o (f qs) old new qs p) is d

pub call_does : (line old new : ℕ) (f : Part) (ps : List Part) (p : Part) → new ≡ old + 1 → ((h : Homes) (low : ℕ) (g : syntax.Expression) (xs : syntax.Expressions) (rs : List Range) → CarriesEach h low old (syntax.More g xs) (f ∷ ps) rs → CarriesExpression h low new (syntax.Operation line op.Call (syntax.More g xs)) (block p.block) p.value) → ((count : tree.Form → ℕ) → total count (block p.block) ≡ totals count (f ∷ ps) + count (tree.Call old line f.value (map (λ a. a.value) ps))) → Does line op.Call (tree.Call old line f.value (map (λ a. a.value) ps)) old new (f ∷ ps) p
call_does line old new f ps p drawn carries contents = record { drawn = drawn; carries = go; contents = contents }
  where
    go : (h : Homes) (low : ℕ) (xs : syntax.Expressions) (rs : List Range) → CarriesEach h low old xs (f ∷ ps) rs → CarriesExpression h low new (syntax.Operation line op.Call xs) (block p.block) p.value
    go h low syntax.NoMore rs each = absurd each
    go h low (syntax.More g xs) rs each = carries h low g xs rs each

pub grown : (old new : ℕ) → new ≡ old + 1 → old ≤ new
grown old new e = omega arith

-- what a call that failed answers is handed on
pub failed : (bound : List (List ℕ)) (x : Expr) (old new : ℕ) (r : Result Part ReformEnd) (f : ReformEnd) → IsErrAnd r (λ g. g ≡ f) → Fails ((built.expr x).unbuilt bound) f → Expressed bound x old new r
failed bound x old new (Ok p) f is fails = absurd is
failed bound x old new (Err g) f is fails = subst (Fails ((built.expr x).unbuilt bound)) (sym is) fails

pub one_item : {A : Type 0} (xs ys : List A) (x : A) → xs ≡ ys → 1 ≤ length xs → length xs < 2 → x ≡ get_or xs 0 x → ys ≡ x ∷ []
one_item [] ys x same more less is = absurd (omega arith)
one_item (a ∷ []) ys x same more less is = sym same ∙ ap (λ b. b ∷ []) (sym is)
one_item (a ∷ b ∷ xs) ys x same more less is = absurd (omega arith)
