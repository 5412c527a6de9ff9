-- Lawful expressions go right, and give what is said of them.
use Rattle.std.proofs.Common.{◌≡◌, ℕ, List, [], ◌∷◌, Option, Some, None, Bool, true, false, if◌then◌else◌, refl, sym, subst, arith}
use Rattle.nu_value.specs.declared.value.Value.{Value}
use Rattle.nu_value.specs.declared.value.Value.TheVariants as value
use Rattle.nu_value.specs.View.{is_text}
use Rattle.op_forms.specs.declared.op.Op.{Op}
use Rattle.op_forms.specs.declared.op.Op.TheVariants as op
use Rattle.op_forms.specs.declared.signature.ArgumentKind.{ArgumentKind}
use Rattle.op_forms.specs.declared.signature.ArgumentKind.TheVariants as kind
use Rattle.op_forms.specs.declared.world.World.{World}
use Rattle.op_forms.specs.Fits.{is_bool, is_of, fit, is_built_in}
use Rattle.op_forms.specs.Signature.{arguments, further}
use Rattle.nu_rows.specs.Rows.{Next}
use Rattle.nu_rows.specs.Words.{choose}
use Rattle.nu_calls.specs.Calls.{operate}
use Rattle.py_meaning.specs.Syntax as syntax
use Rattle.py_meaning.specs.Frames.{R as Rw}
use Rattle.py_meaning.specs.Expressions.{gives, truth, compared, as_tuple, expression, each, named, compare, fill, enter, pass}
use Rattle.py_safe.specs.Rosters.{OfFunction}
use Rattle.py_safe.specs.Heaps.{Mark, Open, Keywords, View, view, AList, ADict, Grows, IsThere, AllThere}
use Rattle.py_safe.specs.Rules.{IsTruth, WorldLaw}
use Rattle.py_safe.specs.Constructs.{Room, IsConstant, IsText, IsTested, IsBuiltInName, Serves, TakesTwo, MayNegate, LawfulExpression, LawfulOperands, LawfulLinks, LawfulItems, LawfulEntries, LawfulArguments, LawfulKeywords}
use Rattle.py_safe.proofs.Right.{Program, source, roster, Kind, Anything, RightBy}
use Rattle.py_safe.proofs.Growth.{grows_refl, grows_trans, there_more, all_there_more}
use Rattle.py_safe.proofs.Rows.{ends_right, right_map, value_right, choose_right}
use Rattle.py_safe.proofs.Operations.{FitFrom, NoFunc, OpGives, operate_right}
use Rattle.py_safe.proofs.Handing.{IsMarked, marked_more, marked_there, key_put_right, key_merge_right, call_right}
use Rattle.py_safe.proofs.Names.{There, AnObject, there_right, there_maybe, both, value_fits, load_right}
use Rattle.py_safe.proofs.Passing.{done_right}
use Rattle.py_safe.proofs.Exceptions.{all_maybe}
use Rattle.py_safe.proofs.Collections.{Collects, collects_more, an_object_more, list_made, dict_made, push_right, extend_right, put_right, merge_right, as_tuple_right, keywords_begun_right}
use Rattle.py_safe.proofs.Delegates.{yielded_right, iter_right, call_one, delegate_right}
use Rattle.py_safe.proofs.Functions.{AllNamed, defaults_right, bare_function_right}

-- what an expression gives
pub record Gives (x : syntax.Expression) (v : View) (y : Value) : Type 0 where
  pub there : IsThere v y
  pub text : IsText x → is_text y ≡ true
  pub name : IsBuiltInName x → is_built_in y ≡ true
  pub truth : IsTested x → IsTruth y

truth_is : (x : Value) → IsTruth x → is_bool x ≡ true
truth_is (value.Bool b) t = refl
truth_is value.Unset t = absurd t
truth_is value.None t = absurd t
truth_is (value.Int i) t = absurd t
truth_is (value.Str s) t = absurd t
truth_is (value.Obj n) t = absurd t

-- it fits where an operation takes it
served : (k : ArgumentKind) (x : syntax.Expression) (v : View) (y : Value) → Serves k x → Gives x v y → (w : World) (marks : ℕ → Mark) → Grows v (view w.heap marks) → is_of k w y ≡ true
served kind.Name x v y s i w marks g = i.text s
served kind.BuiltinName x v y s i w marks g = i.name s
served kind.Value x v y s i w marks g = value_fits v y w marks g i.there
served kind.Bool x v y s i w marks g = truth_is y (i.truth s)
served other x v y s i w marks g = absurd s

name_is_text : (x : syntax.Expression) → IsBuiltInName x → IsText x
name_is_text (syntax.Constant (value.Str s)) e = tt
name_is_text (syntax.Constant y) e = absurd (cc)
name_is_text x e = absurd e

constant_gives : (y : Value) (v : View) → IsConstant y → Gives (syntax.Constant y) v y
constant_gives value.Unset v c = absurd c
constant_gives value.None v c = record { there = (tt, tt); text = λ t. absurd t; name = λ e. absurd (cc); truth = λ t. absurd t }
constant_gives (value.Bool b) v c = record { there = (tt, tt); text = λ t. absurd t; name = λ e. absurd (cc); truth = λ t. absurd t }
constant_gives (value.Int i) v c = record { there = (tt, tt); text = λ t. absurd t; name = λ e. absurd (cc); truth = λ t. absurd t }
constant_gives (value.Str s) v c = record { there = (tt, tt); text = λ t. refl; name = λ e. e; truth = λ t. absurd t }
constant_gives (value.Obj n) v c = absurd c

-- no lawful operands are those of a function's making, which is no operator
two_no_func : (o : Op) → TakesTwo o → NoFunc o
two_no_func op.Func t = let e = t.two in absurd (cc)
two_no_func other t = tt

operands_no_func : (c : Program) (r : Room) (o : Op) (xs : syntax.Expressions) → LawfulOperands (roster c) r (arguments o) (further o) xs → NoFunc o
operands_no_func c r op.Func syntax.NoMore p = absurd p
operands_no_func c r op.Func (syntax.More x xs) p = absurd p.0
operands_no_func c r other xs p = tt

-- two values, where an operation takes two
pub two_fit : (z : Program) (o : Op) (v : View) (x y : Value) → TakesTwo o → IsThere v x → IsThere v y → FitFrom z v o (x ∷ y ∷ [])
two_fit z o v x y t p q w marks ok g =
    subst (λ ks. fit ks (further o) w (x ∷ y ∷ []) ≡ true) (sym t.two)
    (subst (λ k. fit (kind.Value ∷ kind.Value ∷ []) k w (x ∷ y ∷ []) ≡ true) (sym t.only) (both _ _ (value_fits v x w marks g p) (both _ _ (value_fits v y w marks g q) refl)))

module _ (z : Program) (r : Room) where
  pub two_right : (v : View) (line : ℕ) (o : Op) (x y : Value) → TakesTwo o → IsThere v x → IsThere v y → RightBy z r r 0 (OpGives o) v (operate (source z) line o (x ∷ y ∷ []))
  two_right v line o x y t p q = operate_right z r line o (x ∷ y ∷ []) v (two_fit z o v x y t p q) (there_maybe v x p, (there_maybe v y q, tt)) (two_no_func o t)

  pub truth_right : (v : View) (line : ℕ) (x : Value) → IsThere v x → RightBy z r r 0 (λ g b. IsTruth b) v (truth (source z) line x)
  truth_right v line x p =
      right_map z r r 0 0 (OpGives op.Truth) (λ g b. IsTruth b) v _ (omega arith) (λ g b w y. y.truth tt)
      (operate_right z r line op.Truth (x ∷ []) v (λ w marks ok g. both _ _ (value_fits v x w marks g p) refl) (there_maybe v x p, tt) tt)

  pub gives_right : (v : View) (x : Value) → IsThere v x → RightBy z r r 0 There v (gives x)
  gives_right v x p = ends_right z r 0 There v (Next x) (λ more g. there_more v more g x p)

  -- one comparison of a chain
  compared_right : (v : View) (line : ℕ) (o : Op) (negated : Bool) (x y : Value) → TakesTwo o → MayNegate negated o → IsThere v x → IsThere v y → RightBy z r r 0 There v (compared (source z) line o negated x y)
  compared_right v line o false x y t m p q = there_right z r o v _ (two_right v line o x y t p q)
  compared_right v line o true x y t m p q =
      value_right z r 0 0 (OpGives o) There v _ _ (omega arith) (two_right v line o x y t p q)
      (λ u g f i. there_right z r op.Not g _ (operate_right z r line op.Not (u ∷ []) g (λ w marks ok n. both _ _ (truth_is u (i.truth m)) refl) (there_maybe g u i.there, tt) tt))

  junction_right : (any : Bool) (v : View) (b x : Value) (row : Rw) → IsTruth b → IsThere v x → RightBy z r r 0 There v row → RightBy z r r 0 There v (if any then choose b (gives x) row else choose b row (gives x))
  junction_right true v b x row t p y = choose_right z r r 0 There v b _ _ t (gives_right v x p) y
  junction_right false v b x row t p y = choose_right z r r 0 There v b _ _ t y (gives_right v x p)

  starred_right : (tuple : Bool) (v : View) (line : ℕ) (list : Value) → IsThere v list → RightBy z r r 0 There v (if tuple then as_tuple (source z) line list else gives list)
  starred_right true v line list p = as_tuple_right z r v line list p
  starred_right false v line list p = gives_right v list p

  gives_there : (x : syntax.Expression) (v : View) (row : Rw) → RightBy z r r 0 (Gives x) v row → RightBy z r r 0 There v row
  gives_there x v row y = right_map z r r 0 0 (Gives x) There v row (omega arith) (λ g u w i. i.there) y

  -- an expression that is no text and no test gives a value
  plain : (x : syntax.Expression) (v : View) (row : Rw) → (IsText x → ⊥) → (IsTested x → ⊥) → RightBy z r r 0 There v row → RightBy z r r 0 (Gives x) v row
  plain x v row t u y = right_map z r r 0 0 There (Gives x) v row (omega arith) (λ g i w p. record { there = p; text = λ a. absurd (t a); name = λ a. absurd (t (name_is_text x a)); truth = λ a. absurd (u a) }) y

  mutual
    pub expression_gives : (x : syntax.Expression) → LawfulExpression (roster z) r x → (v : View) → RightBy z r r 0 (Gives x) v (expression (source z) x)
    expression_gives (syntax.Constant y) p v = ends_right z r 0 (Gives (syntax.Constant y)) v (Next y) (λ more g. constant_gives y more p)
    expression_gives (syntax.Name line home) p v = plain (syntax.Name line home) v _ (λ t. t) (λ t. t) (load_right z r v line home p)
    expression_gives (syntax.Operation line o xs) p v =
        each_right xs (arguments o) (further o) p v 0 (Gives (syntax.Operation line o xs)) (λ ys. operate (source z) line o ys)
        (λ ys g w a f. right_map z r r 0 0 (OpGives o) (Gives (syntax.Operation line o xs)) g _ (omega arith) (λ more y m i. record { there = i.there; text = λ t. absurd t; name = λ t. absurd t; truth = i.truth })
        (operate_right z r line o ys g f (all_maybe g ys a) (operands_no_func z r o xs p)))
    expression_gives (syntax.Junction line any x y) p v =
        plain (syntax.Junction line any x y) v _ (λ t. t) (λ t. t)
        (value_right z r 0 0 There There v _ _ (omega arith) (gives_there x v _ (expression_gives x p.0 v))
        (λ u g w i. value_right z r 0 0 (λ g b. IsTruth b) There g _ _ (omega arith) (truth_right g line u i)
        (λ b g' w' t. junction_right any g' b u _ t (there_more g g' w' u i) (gives_there y g' _ (expression_gives y p.1 g')))))
    expression_gives (syntax.Conditional line test x y) p v =
        plain (syntax.Conditional line test x y) v _ (λ t. t) (λ t. t)
        (value_right z r 0 0 There There v _ _ (omega arith) (gives_there test v _ (expression_gives test p.0 v))
        (λ u g w i. value_right z r 0 0 (λ g b. IsTruth b) There g _ _ (omega arith) (truth_right g line u i)
        (λ b g' w' t. choose_right z r r 0 There g' b _ _ t (gives_there x g' _ (expression_gives x p.1 g')) (gives_there y g' _ (expression_gives y p.2 g')))))
    expression_gives (syntax.Comparison line x links) p v =
        plain (syntax.Comparison line x links) v _ (λ t. t) (λ t. t)
        (value_right z r 0 0 There There v _ _ (omega arith) (gives_there x v _ (expression_gives x p.0 v)) (λ u g w i. links_right links p.1 line u g i))
    expression_gives (syntax.Starred line tuple items) p v =
        plain (syntax.Starred line tuple items) v _ (λ t. t) (λ t. t)
        (value_right z r 0 0 (AnObject AList) There v _ _ (omega arith) (list_made z r v line)
        (λ list g w a. value_right z r 0 0 Anything There g _ _ (omega arith) (items_right items p line list g a)
        (λ u g' w' q. starred_right tuple g' line list (there_more g g' w' list a.0))))
    expression_gives (syntax.Dict line entries) p v =
        plain (syntax.Dict line entries) v _ (λ t. t) (λ t. t)
        (value_right z r 0 0 (AnObject ADict) There v _ _ (omega arith) (dict_made z r v line)
        (λ dict g w a. value_right z r 0 0 Anything There g _ _ (omega arith) (entries_right entries p line dict g a)
        (λ u g' w' q. gives_right g' dict (there_more g g' w' dict a.0))))
    expression_gives (syntax.Call line f args) p v =
        plain (syntax.Call line f args) v _ (λ t. t) (λ t. t)
        (value_right z r 0 0 There There v _ _ (omega arith) (gives_there f v _ (expression_gives f p.0 v))
        (λ u g w i. value_right z r 0 0 (AnObject AList) There g _ _ (omega arith) (list_made z r g line)
        (λ list g' w' a. pass_right args p.1 line u list None g' (there_more g g' w' u i) a tt)))
    expression_gives (syntax.Function line code defaults keywords cells) p v =
        plain (syntax.Function line code defaults keywords cells) v _ (λ t. t) (λ t. t)
        (each_right defaults [] (Some kind.Value) p.0 v 0 There _
        (λ xs g w a f. named_right keywords p.1 g 0 There _ xs a
        (λ ps g' w' b q. right_map z r r 0 0 (IsMarked Open) There g' _ (omega arith) (λ more y m i. marked_there more y i)
        (defaults_right z r g' line code OfFunction Open cells xs ps tt p.2 b q))))
    expression_gives (syntax.Comprehension line code x cells) p v =
        plain (syntax.Comprehension line code x cells) v _ (λ t. t) (λ t. t)
        (value_right z r 0 0 There There v _ _ (omega arith) (gives_there x v _ (expression_gives x p.0 v))
        (λ u g w i. value_right z r 0 0 There There g _ _ (omega arith) (iter_right z r g line u i)
        (λ iterator g₂ w₂ a. value_right z r 0 0 (IsMarked Open) There g₂ _ _ (omega arith) (bare_function_right z r g₂ line code OfFunction Open cells tt p.1)
        (λ f g₃ w₃ m. call_one z r g₃ line f iterator (marked_there g₃ f m) (there_more g₂ g₃ w₃ iterator a)))))
    expression_gives (syntax.Yield line x) p v =
        plain (syntax.Yield line x) v _ (λ t. t) (λ t. t)
        (value_right z r 0 0 There There v _ _ (omega arith) (gives_there x v _ (expression_gives x p.1 v)) (λ u g w i. yielded_right z r g line u p.0 i))
    expression_gives (syntax.YieldFrom line x) p v =
        plain (syntax.YieldFrom line x) v _ (λ t. t) (λ t. t)
        (value_right z r 0 0 There There v _ _ (omega arith) (gives_there x v _ (expression_gives x p.1 v)) (λ u g w i. delegate_right z r g line u p.0 i))

    -- operands, and what follows their values, which fit from there on
    pub each_right : (xs : syntax.Expressions) (ks : List ArgumentKind) (more : Option ArgumentKind) → LawfulOperands (roster z) r ks more xs → (v : View) (n : ℕ) (K : Kind) (k : List Value → Rw) → ((ys : List Value) (g : View) → Grows v g → AllThere g ys → ((w : World) (marks : ℕ → Mark) → WorldLaw (roster z) w marks → Grows g (view w.heap marks) → fit ks more w ys ≡ true) → RightBy z r r n K g (k ys)) → RightBy z r r n K v (each (source z) xs k)
    each_right syntax.NoMore [] None p v n K k next = next [] v (grows_refl v) tt (λ w marks ok g. refl)
    each_right syntax.NoMore [] (Some q) p v n K k next = next [] v (grows_refl v) tt (λ w marks ok g. refl)
    each_right syntax.NoMore (q ∷ ks) more p v n K k next = absurd p
    each_right (syntax.More x xs) [] None p v n K k next = absurd p
    each_right (syntax.More x xs) [] (Some q) p v n K k next =
        value_right z r 0 n (Gives x) K v _ _ (omega arith) (expression_gives x p.1 v)
        (λ y g w i. each_right xs [] (Some q) p.2 g n K (λ ys. k (y ∷ ys))
        (λ ys g' w' a f. next (y ∷ ys) g' (grows_trans v g g' w w') (there_more g g' w' y i.there, a)
        (λ u marks ok m. both _ _ (served q x g y p.0 i u marks (grows_trans g g' (view u.heap marks) w' m)) (f u marks ok m))))
    each_right (syntax.More x xs) (q ∷ ks) more p v n K k next =
        value_right z r 0 n (Gives x) K v _ _ (omega arith) (expression_gives x p.1 v)
        (λ y g w i. each_right xs ks more p.2 g n K (λ ys. k (y ∷ ys))
        (λ ys g' w' a f. next (y ∷ ys) g' (grows_trans v g g' w w') (there_more g g' w' y i.there, a)
        (λ u marks ok m. both _ _ (served q x g y p.0 i u marks (grows_trans g g' (view u.heap marks) w' m)) (f u marks ok m))))

    -- defaults of keywords, and what follows them; the values before stay there
    named_right : (xs : syntax.Keywords) → LawfulKeywords (roster z) r xs → (v : View) (n : ℕ) (K : Kind) (k : List (List ℕ × Value) → Rw) (before : List Value) → AllThere v before → ((ps : List (List ℕ × Value)) (g : View) → Grows v g → AllThere g before → AllNamed g ps → RightBy z r r n K g (k ps)) → RightBy z r r n K v (named (source z) xs k)
    named_right syntax.NoKeyword p v n K k before b next = next [] v (grows_refl v) b tt
    named_right (syntax.Default name x xs) p v n K k before b next =
        value_right z r 0 n There K v _ _ (omega arith) (gives_there x v _ (expression_gives x p.0 v))
        (λ y g w i. named_right xs p.1 g n K (λ ps. k ((name, y) ∷ ps)) (y ∷ before) (i, all_there_more v g w before b)
        (λ ps g' w' a q. next ((name, y) ∷ ps) g' (grows_trans v g g' w w') a.1 (a.0, q)))

    links_right : (links : syntax.Links) → LawfulLinks (roster z) r links → (line : ℕ) (x : Value) (v : View) → IsThere v x → RightBy z r r 0 There v (compare (source z) line x links)
    links_right (syntax.LastLink o negated y) p line x v i =
        value_right z r 0 0 There There v _ _ (omega arith) (gives_there y v _ (expression_gives y p.2 v)) (λ u g f j. compared_right g line o negated x u p.0 p.1 (there_more v g f x i) j)
    links_right (syntax.Link o negated y links) p line x v i =
        value_right z r 0 0 There There v _ _ (omega arith) (gives_there y v _ (expression_gives y p.2 v))
        (λ w g f j. value_right z r 0 0 There There g _ _ (omega arith) (compared_right g line o negated x w p.0 p.1 (there_more v g f x i) j)
        (λ u g' f' q. value_right z r 0 0 (λ g b. IsTruth b) There g' _ _ (omega arith) (truth_right g' line u q)
        (λ b g'' f'' t. choose_right z r r 0 There g'' b _ _ t (links_right links p.3 line w g'' (there_more g g'' (grows_trans g g' g'' f' f'') w j)) (gives_right g'' u (there_more g' g'' f'' u q)))))

    items_right : (items : syntax.Items) → LawfulItems (roster z) r items → (line : ℕ) (list : Value) (v : View) → AnObject AList v list → RightBy z r r 0 Anything v (fill (source z) line list items)
    items_right syntax.NoItem p line list v d = done_right z r 0 v
    items_right (syntax.Single x items) p line list v d =
        value_right z r 0 0 There Anything v _ _ (omega arith) (gives_there x v _ (expression_gives x p.0 v))
        (λ y g w a.
        let e : AnObject AList g list = an_object_more AList tt v g w list d in
        value_right z r 0 0 Anything Anything g _ _ (omega arith) (push_right z r g line list y e a) (λ u g₂ w₂ q. items_right items p.1 line list g₂ (an_object_more AList tt g g₂ w₂ list e)))
    items_right (syntax.Spread x items) p line list v d =
        value_right z r 0 0 There Anything v _ _ (omega arith) (gives_there x v _ (expression_gives x p.0 v))
        (λ y g w a.
        let e : AnObject AList g list = an_object_more AList tt v g w list d in
        value_right z r 0 0 Anything Anything g _ _ (omega arith) (extend_right z r g line list y e a) (λ u g₂ w₂ q. items_right items p.1 line list g₂ (an_object_more AList tt g g₂ w₂ list e)))

    entries_right : (entries : syntax.Entries) → LawfulEntries (roster z) r entries → (line : ℕ) (dict : Value) (v : View) → AnObject ADict v dict → RightBy z r r 0 Anything v (enter (source z) line dict entries)
    entries_right syntax.NoEntry p line dict v d = done_right z r 0 v
    entries_right (syntax.Pair x y entries) p line dict v d =
        value_right z r 0 0 There Anything v _ _ (omega arith) (gives_there x v _ (expression_gives x p.0 v))
        (λ key g w a. value_right z r 0 0 There Anything g _ _ (omega arith) (gives_there y g _ (expression_gives y p.1 g))
        (λ u g₂ w₂ b.
        let e : AnObject ADict g₂ dict = an_object_more ADict tt v g₂ (grows_trans v g g₂ w w₂) dict d in
        value_right z r 0 0 Anything Anything g₂ _ _ (omega arith) (put_right z r g₂ line dict key u e (there_more g g₂ w₂ key a) b)
        (λ t g₃ w₃ q. entries_right entries p.2 line dict g₃ (an_object_more ADict tt g₂ g₃ w₃ dict e))))
    entries_right (syntax.Merge x entries) p line dict v d =
        value_right z r 0 0 There Anything v _ _ (omega arith) (gives_there x v _ (expression_gives x p.0 v))
        (λ u g w a.
        let e : AnObject ADict g dict = an_object_more ADict tt v g w dict d in
        value_right z r 0 0 Anything Anything g _ _ (omega arith) (merge_right z r g line dict u e a) (λ t g₂ w₂ q. entries_right entries p.1 line dict g₂ (an_object_more ADict tt g g₂ w₂ dict e)))

    pass_right : (args : syntax.Arguments) → LawfulArguments (roster z) r args → (line : ℕ) (f list : Value) (d : Option Value) (v : View) → IsThere v f → AnObject AList v list → Collects v d → RightBy z r r 0 There v (pass (source z) line f list d args)
    pass_right syntax.NoArgument p line f list d v i a c =
        keywords_begun_right z r 0 There v line d _ c
        (λ k g w m.
        let b : AnObject AList g list = an_object_more AList tt v g w list a in
        there_right z r op.CallX g _ (call_right z r line f list k g (there_more v g w f i) b.0 b.1 m))
    pass_right (syntax.Plain x args) p line f list d v i a c =
        value_right z r 0 0 There There v _ _ (omega arith) (gives_there x v _ (expression_gives x p.0 v))
        (λ y g w b.
        let e : AnObject AList g list = an_object_more AList tt v g w list a in
        value_right z r 0 0 Anything There g _ _ (omega arith) (push_right z r g line list y e b)
        (λ u g₂ w₂ q.
        let up : Grows v g₂ = grows_trans v g g₂ w w₂ in
        pass_right args p.1 line f list d g₂ (there_more v g₂ up f i) (an_object_more AList tt g g₂ w₂ list e) (collects_more v g₂ up d c)))
    pass_right (syntax.Star x args) p line f list d v i a c =
        value_right z r 0 0 There There v _ _ (omega arith) (gives_there x v _ (expression_gives x p.0 v))
        (λ y g w b.
        let e : AnObject AList g list = an_object_more AList tt v g w list a in
        value_right z r 0 0 Anything There g _ _ (omega arith) (extend_right z r g line list y e b)
        (λ u g₂ w₂ q.
        let up : Grows v g₂ = grows_trans v g g₂ w w₂ in
        pass_right args p.1 line f list d g₂ (there_more v g₂ up f i) (an_object_more AList tt g g₂ w₂ list e) (collects_more v g₂ up d c)))
    pass_right (syntax.Keyword name x args) p line f list d v i a c =
        keywords_begun_right z r 0 There v line d _ c
        (λ k g w m. value_right z r 0 0 There There g _ _ (omega arith) (gives_there x g _ (expression_gives x p.0 g))
        (λ y g₂ w₂ b. value_right z r 0 0 (OpGives op.KeyPut) There g₂ _ _ (omega arith) (key_put_right z r line k name y g₂ (marked_more Keywords g g₂ w₂ k m) b)
        (λ u g₃ w₃ q.
        let in_call : Grows g g₃ = grows_trans g g₂ g₃ w₂ w₃ in
        let up : Grows v g₃ = grows_trans v g g₃ w in_call in
        pass_right args p.1 line f list (Some k) g₃ (there_more v g₃ up f i) (an_object_more AList tt v g₃ up list a) (marked_more Keywords g g₃ in_call k m))))
    pass_right (syntax.DoubleStar x args) p line f list d v i a c =
        keywords_begun_right z r 0 There v line d _ c
        (λ k g w m. value_right z r 0 0 There There g _ _ (omega arith) (gives_there x g _ (expression_gives x p.0 g))
        (λ y g₂ w₂ b. value_right z r 0 0 (OpGives op.KeyMerge) There g₂ _ _ (omega arith) (key_merge_right z r line k y g₂ (marked_more Keywords g g₂ w₂ k m) b)
        (λ u g₃ w₃ q.
        let in_call : Grows g g₃ = grows_trans g g₂ g₃ w₂ w₃ in
        let up : Grows v g₃ = grows_trans v g g₃ w in_call in
        pass_right args p.1 line f list (Some k) g₃ (there_more v g₃ up f i) (an_object_more AList tt v g₃ up list a) (marked_more Keywords g g₃ in_call k m))))

  pub expression_right : (x : syntax.Expression) → LawfulExpression (roster z) r x → (v : View) → RightBy z r r 0 There v (expression (source z) x)
  expression_right x p v = gives_there x v _ (expression_gives x p v)
