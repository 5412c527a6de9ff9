-- Lists of parts of expressions, as the survey and the codes have them.
use Rattle.std.proofs.Common.{◌≡◌, ℕ, Bool, true, false, cond, List, [], ◌∷◌, length, map, Option, Some, None, refl, sym, subst, arith}
use Rattle.op_forms.specs.declared.op.Op.{Op}
use Rattle.op_forms.specs.declared.signature.ArgumentKind.TheVariants as operand
use Rattle.py_ast.specs.declared.expr.Item.{Item}
use Rattle.py_ast.specs.declared.expr.Item.TheVariants as item
use Rattle.py_ast.specs.declared.expr.Param.{Param}
use Rattle.py_ast.specs.declared.expr.Param.TheVariants as param
use Rattle.py_ast.specs.declared.expr.Clause.{Clause}
use Rattle.py_ast.specs.declared.expr.Clause.TheVariants as clause
use Rattle.py_scopes.specs.declared.survey.Role.{Role}
use Rattle.py_scopes.specs.declared.survey.Role.TheVariants as role
use Rattle.py_scopes.specs.declared.survey.What.TheVariants as what
use Rattle.py_scopes.specs.declared.survey.Place.{Place}
use Rattle.py_scopes.specs.declared.survey.Survey.{Survey}
use Rattle.py_scopes.specs.Survey as survey
use Rattle.py_scopes.specs.Survey.{all, param_adds, clause_adds}
use Rattle.py_meaning.specs.Syntax as syntax
use Rattle.py_meaning.specs.Resolved as resolved
use Rattle.py_meaning.specs.Resolved.{Context, Making, pure, made, and_then, inner, before_star, from_star, many}
use Rattle.py_safe.specs.Constructs.{Room, IsFalse, LawfulExpression, LawfulOperands, LawfulItems, LawfulKeywords, LawfulTarget, LawfulTargets, LawfulDeletion, LawfulDeletions, LawfulTurns, IsSingle}
use Rattle.py_accepted.proofs.Doing.{Case, IsPart, Result, Does, Stands, Adds, adds_both, nothing, made_of, two, three, ahead, stands_still, refused, refused_behind, wider, site_adds}
use Rattle.py_accepted.proofs.Places.{context, At, any_name}

-- what an expression is, wherever it stands: lawful as a value, and as a target, unless it is misplaced there
pub record Good (p : survey.Part) (q : resolved.Part) : Type 0 where
  pub value : (z : Case) (k : ℕ) (place : Place) (ps : List (List ℕ)) (r : Room) → Does z k (At z k place ps r) (LawfulExpression z.roster r) (p role.Value place) (q.value (context z place ps))
  pub target : (z : Case) (k : ℕ) (place : Place) (ps : List (List ℕ)) (r : Room) → Does z k (At z k place ps r) (LawfulTarget z.roster r) (p role.Target place) (q.target (context z place ps))
  pub augmented : (z : Case) (k : ℕ) (place : Place) (ps : List (List ℕ)) (r : Room) → Does z k (At z k place ps r) (λ t. IsSingle z.roster t × LawfulTarget z.roster r t) (p role.Augmented place) (q.target (context z place ps))
  -- what is deleted may be unbound, where no local variable has to stay bound
  pub deleted : (z : Case) (k : ℕ) (place : Place) (ps : List (List ℕ)) (r : Room) → Does z k (At z k place ps r) (λ t. (IsFalse r.names → r.bound ≡ 0) → LawfulDeletion z.roster r t) (p role.Deleted place) (q.target (context z place ps))

pub same_adds : (z : Case) {k : ℕ} {facts : Type 0} {A : Type 0} {P : A → Type 0} (f g : Survey → Survey) {m : Making A} → ((s : Survey) → f s ≡ g s) → Does z k facts P f m → Does z k facts P g m
same_adds z {P = P} f g {m = m} e a = record {
  adds = λ s p. a.adds s (subst (IsPart z.survey) (sym (e s)) p);
  here = λ h s l p. subst (λ t. Result z P s t (m (length s.scopes))) (e s) (a.here h s l (subst (IsPart z.survey) (sym (e s)) p));
}

pub same_made : (z : Case) {k : ℕ} {facts : Type 0} {A : Type 0} {P : A → Type 0} {f : Survey → Survey} (m n : Making A) → m ≡ n → Does z k facts P f m → Does z k facts P f n
same_made z {k} {facts} {P = P} {f = f} m n e a = subst (λ x. Does z k facts P f x) e a

pub same_made_at : (z : Case) {k : ℕ} {facts : Type 0} {A : Type 0} {P : A → Type 0} {f : Survey → Survey} (m n : Making A) → ((i : ℕ) → m i ≡ n i) → Does z k facts P f m → Does z k facts P f n
same_made_at z {P = P} {f = f} m n e a = record { adds = a.adds; here = λ h s l p. subst (λ r. Result z P s (f s) r) (e (length s.scopes)) (a.here h s l p) }

pub same_by : (z : Case) {k : ℕ} {facts : Type 0} {A : Type 0} {P : A → Type 0} {f : Survey → Survey} (m n : Making A) → (facts → m ≡ n) → Does z k facts P f m → Does z k facts P f n
same_by z {P = P} {f = f} m n e a = record { adds = a.adds; here = λ h s l p. subst (λ x. Result z P s (f s) (x (length s.scopes))) (e h) (a.here h s l p) }

pub same_under : (z : Case) {k : ℕ} {F G : Type 0} {fact : Type 0} {f : Survey → Survey} → (G → F) → Stands z k F fact f → Stands z k G fact f
same_under z t a = record { adds = a.adds; here = λ e s l p. a.here (t e) s l p }

-- where the survey has a number that the part asks for
pub at_number : (z : Case) {k : ℕ} {facts : Type 0} {A : Type 0} {P : A → Type 0} {m : Making A} (f : ℕ → Survey → Survey) (g : Survey → ℕ) → ((n : ℕ) → Does z k facts P (f n) m) → Does z k facts P (λ s. f (g s) s) m
at_number z f g d = record { adds = λ s p. (d (g s)).adds s p; here = λ e s l p. (d (g s)).here e s l p }

pub either : (z : Case) {k : ℕ} {facts : Type 0} {A : Type 0} {P : A → Type 0} {f : Survey → Survey} {m n : Making A} (b : Bool) → (b ≡ true → Does z k facts P f m) → (b ≡ false → Does z k facts P f n) → Does z k facts P f (cond b m n)
either z true a b = a refl
either z false a b = b refl

-- Items

pub data Items : List (Item survey.Part) → List (Item resolved.Part) → Type 0 where
  no_item : Items [] []
  one : {p : survey.Part} {q : resolved.Part} {ps : List (Item survey.Part)} {qs : List (Item resolved.Part)} → Good p q → Items ps qs → Items (item.One p ∷ ps) (item.One q ∷ qs)
  star : {p : survey.Part} {q : resolved.Part} {ps : List (Item survey.Part)} {qs : List (Item resolved.Part)} (line of : ℕ) → Good p q → Items ps qs → Items (item.Star line p ∷ ps) (item.Star of q ∷ qs)

module _ (z : Case) (k : ℕ) (place : Place) (ns : List (List ℕ)) (r : Room) where
  abbrev c : Context
  c = context z place ns

  abbrev F : Type 0
  F = At z k place ns r

  -- as values
  pub operands : {ps : List (Item survey.Part)} {qs : List (Item resolved.Part)} (before : Bool) → Items ps qs
      → Does z k F (LawfulOperands z.roster r [] (Some operand.Value)) (survey.items role.Value before ps place) (resolved.values c (map inner qs))
  operands before no_item = nothing z syntax.NoMore (λ e. tt)
  operands before (one g i) = two z syntax.More (g.value z k place ns r) (operands before i) (λ e x xs a b. (tt, a, b))
  operands before (star l m g i) = two z syntax.More (g.value z k place ns r) (operands true i) (λ e x xs a b. (tt, a, b))

  pub spread : {ps : List (Item survey.Part)} {qs : List (Item resolved.Part)} (before : Bool) → Items ps qs
      → Does z k F (LawfulItems z.roster r) (survey.items role.Value before ps place) (resolved.items c qs)
  spread before no_item = nothing z syntax.NoItem (λ e. tt)
  spread before (one g i) = two z syntax.Single (g.value z k place ns r) (spread before i) (λ e x xs a b. (a, b))
  spread before (star l m g i) = two z syntax.Spread (g.value z k place ns r) (spread true i) (λ e x xs a b. (a, b))

  -- what stands before a star, and what from there on
  abbrev pub ahead_of_star : Role → List (Item survey.Part) → Survey → Survey
  ahead_of_star wanted [] s = s
  ahead_of_star wanted (item.One p ∷ ps) s = ahead_of_star wanted ps (p wanted place s)
  ahead_of_star wanted (item.Star line p ∷ ps) s = s

  abbrev pub since_star : Role → List (Item survey.Part) → Survey → Survey
  since_star wanted [] s = s
  since_star wanted (item.One p ∷ ps) s = since_star wanted ps s
  since_star wanted (item.Star line p ∷ ps) s = survey.items wanted false (item.Star line p ∷ ps) place s

  cut_at_star : (wanted : Role) (ps : List (Item survey.Part)) (s : Survey) → since_star wanted ps (ahead_of_star wanted ps s) ≡ survey.items wanted false ps place s
  cut_at_star wanted [] s = refl
  cut_at_star wanted (item.One p ∷ ps) s = cut_at_star wanted ps (p wanted place s)
  cut_at_star wanted (item.Star line p ∷ ps) s = refl

  abbrev many_of : ℕ → Making syntax.Targets → List resolved.Part → Making syntax.Target
  many_of line m [] = made (syntax.ToEach line) m
  many_of line m (middle ∷ behind) = and_then m (λ b. and_then (middle.target c) (λ s. made (syntax.ToStarred line b s) (resolved.targets c behind)))

  many_same : (line : ℕ) (before from : List resolved.Part) → many_of line (resolved.targets c before) from ≡ many c line before from
  many_same line before [] = refl
  many_same line before (x ∷ xs) = refl

  -- as targets
  before_targets : {ps : List (Item survey.Part)} {qs : List (Item resolved.Part)} → Items ps qs → Does z k F (LawfulTargets z.roster r) (ahead_of_star role.Target ps) (resolved.targets c (before_star qs))
  before_targets no_item = nothing z syntax.NoTarget (λ e. tt)
  before_targets (one g i) = two z syntax.AlsoTo (g.target z k place ns r) (before_targets i) (λ e x xs a b. (a, b))
  before_targets (star l m g i) = nothing z syntax.NoTarget (λ e. tt)

  behind_targets : {ps : List (Item survey.Part)} {qs : List (Item resolved.Part)} → Items ps qs → Does z k F (LawfulTargets z.roster r) (survey.items role.Target true ps place) (resolved.targets c (map inner qs))
  behind_targets no_item = nothing z syntax.NoTarget (λ e. tt)
  behind_targets (one g i) = two z syntax.AlsoTo (g.target z k place ns r) (behind_targets i) (λ e x xs a b. (a, b))
  behind_targets (star l m g i) = refused z l place (adds_both z (g.target z k place ns r).adds (behind_targets i).adds)

  since_targets : {ps : List (Item survey.Part)} {qs : List (Item resolved.Part)} (line : ℕ) {f : Survey → Survey} {m : Making syntax.Targets} → Items ps qs → Does z k F (LawfulTargets z.roster r) f m
      → Does z k F (LawfulTarget z.roster r) (λ s. since_star role.Target ps (f s)) (many_of line m (from_star qs))
  since_targets line no_item b = made_of z (syntax.ToEach line) b (λ e x p. p)
  since_targets line (one g i) b = since_targets line i b
  since_targets line (star l m g i) b = three z (syntax.ToStarred line) b (g.target z k place ns r) (behind_targets i) (λ e x y w p q s. (p, q, s))

  pub all_targets : {ps : List (Item survey.Part)} {qs : List (Item resolved.Part)} (line : ℕ) → Items ps qs
      → Does z k F (LawfulTarget z.roster r) (survey.items role.Target false ps place) (many c line (before_star qs) (from_star qs))
  all_targets {ps} {qs} line i =
      same_adds z (λ s. since_star role.Target ps (ahead_of_star role.Target ps s)) (survey.items role.Target false ps place) (cut_at_star role.Target ps)
      (same_made z _ _ (many_same line (before_star qs) (from_star qs)) (since_targets line i (before_targets i)))

  -- as deleted: without a star
  abbrev MayDelete : Type 0
  MayDelete = IsFalse r.names → r.bound ≡ 0

  before_deleted : {ps : List (Item survey.Part)} {qs : List (Item resolved.Part)} → Items ps qs → Does z k F (λ ts. MayDelete → LawfulDeletions z.roster r ts) (ahead_of_star role.Deleted ps) (resolved.targets c (before_star qs))
  before_deleted no_item = nothing z syntax.NoTarget (λ e u. tt)
  before_deleted (one g i) = two z syntax.AlsoTo (g.deleted z k place ns r) (before_deleted i) (λ e x xs a b u. (a u, b u))
  before_deleted (star l m g i) = nothing z syntax.NoTarget (λ e u. tt)

  further_deleted : {ps : List (Item survey.Part)} {qs : List (Item resolved.Part)} → Items ps qs → Adds z (survey.items role.Deleted true ps place)
  further_deleted no_item = λ s p. p
  further_deleted (one g i) = adds_both z (g.deleted z k place ns r).adds (further_deleted i)
  further_deleted (star l m g i) = adds_both z (site_adds z l what.Misplaced place) (adds_both z (g.deleted z k place ns r).adds (further_deleted i))

  since_deleted : {ps : List (Item survey.Part)} {qs : List (Item resolved.Part)} (line : ℕ) {f : Survey → Survey} {m : Making syntax.Targets} → Items ps qs → Does z k F (λ ts. MayDelete → LawfulDeletions z.roster r ts) f m
      → Does z k F (λ t. MayDelete → LawfulDeletion z.roster r t) (λ s. since_star role.Deleted ps (f s)) (many_of line m (from_star qs))
  since_deleted line no_item b = made_of z (syntax.ToEach line) b (λ e x p. p)
  since_deleted line (one g i) b = since_deleted line i b
  since_deleted line (star l m g i) b = refused_behind z l place b.adds (adds_both z (g.deleted z k place ns r).adds (further_deleted i))

  pub all_deleted : {ps : List (Item survey.Part)} {qs : List (Item resolved.Part)} (line : ℕ) → Items ps qs
      → Does z k F (λ t. MayDelete → LawfulDeletion z.roster r t) (survey.items role.Deleted false ps place) (many c line (before_star qs) (from_star qs))
  all_deleted {ps} {qs} line i =
      same_adds z (λ s. since_star role.Deleted ps (ahead_of_star role.Deleted ps s)) (survey.items role.Deleted false ps place) (cut_at_star role.Deleted ps)
      (same_made z _ _ (many_same line (before_star qs) (from_star qs)) (since_deleted line i (before_deleted i)))

-- Clauses of comprehensions

pub data Clauses : List (Clause survey.Part) → List (Clause resolved.Part) → Type 0 where
  no_clause : Clauses [] []
  ranging : {t p : survey.Part} {u q : resolved.Part} {ps : List (Clause survey.Part)} {qs : List (Clause resolved.Part)} (l m : ℕ) → Good t u → Good p q → Clauses ps qs → Clauses (clause.For l t p ∷ ps) (clause.For m u q ∷ qs)
  testing : {p : survey.Part} {q : resolved.Part} {ps : List (Clause survey.Part)} {qs : List (Clause resolved.Part)} (l m : ℕ) → Good p q → Clauses ps qs → Clauses (clause.If l p ∷ ps) (clause.If m q ∷ qs)

module _ (z : Case) (k : ℕ) (place : Place) (ns : List (List ℕ)) (r : Room) where
  pub clauses_add : {ps : List (Clause survey.Part)} {qs : List (Clause resolved.Part)} → Clauses ps qs → Adds z (all (map clause_adds ps) place)
  clauses_add no_clause = λ s p. p
  clauses_add (ranging l m t g i) = adds_both z (adds_both z (t.target z k place ns r).adds (g.value z k place ns r).adds) (clauses_add i)
  clauses_add (testing l m g i) = adds_both z (g.value z k place ns r).adds (clauses_add i)

  pub clauses_turn : {ps : List (Clause survey.Part)} {qs : List (Clause resolved.Part)} (into : Option Op) (turns : syntax.Turns) → LawfulTurns z.roster r into turns → Clauses ps qs
      → Does z k (At z k place ns r) (LawfulTurns z.roster r into) (all (map clause_adds ps) place) (resolved.further (context z place ns) qs turns)
  clauses_turn into turns h no_clause = nothing z turns (λ e. h)
  clauses_turn into turns h (ranging l m t g i) = three z syntax.Ranging (t.target z k place ns r) (g.value z k place ns r) (clauses_turn into turns h i) (λ e x y w a b c. (a, b, c))
  clauses_turn into turns h (testing l m g i) = two z syntax.Filter (g.value z k place ns r) (clauses_turn into turns h i) (λ e x y a b. (a, b))

-- Parameters

pub data Parameters : List (Param survey.Part) → List (Param resolved.Part) → Type 0 where
  no_param : Parameters [] []
  required : {ps : List (Param survey.Part)} {qs : List (Param resolved.Part)} (l m : ℕ) (x y : List ℕ) → Parameters ps qs → Parameters (param.Named l x None ∷ ps) (param.Named m y None ∷ qs)
  optional : {p : survey.Part} {q : resolved.Part} {ps : List (Param survey.Part)} {qs : List (Param resolved.Part)} (l m : ℕ) (x y : List ℕ) → Good p q → Parameters ps qs → Parameters (param.Named l x (Some p) ∷ ps) (param.Named m y (Some q) ∷ qs)
  slash : {ps : List (Param survey.Part)} {qs : List (Param resolved.Part)} (l m : ℕ) → Parameters ps qs → Parameters (param.Slash l ∷ ps) (param.Slash m ∷ qs)
  starred : {ps : List (Param survey.Part)} {qs : List (Param resolved.Part)} (l m : ℕ) (x y : Option (List ℕ)) → Parameters ps qs → Parameters (param.Star l x ∷ ps) (param.Star m y ∷ qs)
  double : {ps : List (Param survey.Part)} {qs : List (Param resolved.Part)} (l m : ℕ) (x y : List ℕ) → Parameters ps qs → Parameters (param.DoubleStar l x ∷ ps) (param.DoubleStar m y ∷ qs)

module _ (z : Case) (k : ℕ) (place own : Place) (ns : List (List ℕ)) (r : Room) {G : Type 0} (h : G → At z k place ns r) where
  outside : {p : survey.Part} {q : resolved.Part} → Good p q → Does z k G (LawfulExpression z.roster r) (p role.Value place) (q.value (context z place ns))
  outside g = wider z (omega arith) h (g.value z k place ns r)

  -- what stands before a star, and what from there on
  abbrev before_star_of : List (Param survey.Part) → Survey → Survey
  before_star_of [] s = s
  before_star_of (param.Named l x d ∷ ps) s = before_star_of ps (param_adds own (param.Named l x d) place s)
  before_star_of (param.Slash l ∷ ps) s = before_star_of ps s
  before_star_of (param.Star l x ∷ ps) s = s
  before_star_of (param.DoubleStar l x ∷ ps) s = before_star_of ps (param_adds own (param.DoubleStar l x) place s)

  abbrev since_star_of : List (Param survey.Part) → Survey → Survey
  since_star_of [] s = s
  since_star_of (param.Named l x d ∷ ps) s = since_star_of ps s
  since_star_of (param.Slash l ∷ ps) s = since_star_of ps s
  since_star_of (param.Star l x ∷ ps) s = all (map (param_adds own) (param.Star l x ∷ ps)) place s
  since_star_of (param.DoubleStar l x ∷ ps) s = since_star_of ps s

  cut_params : (ps : List (Param survey.Part)) (s : Survey) → since_star_of ps (before_star_of ps s) ≡ all (map (param_adds own) ps) place s
  cut_params [] s = refl
  cut_params (param.Named l x d ∷ ps) s = cut_params ps (param_adds own (param.Named l x d) place s)
  cut_params (param.Slash l ∷ ps) s = cut_params ps s
  cut_params (param.Star l x ∷ ps) s = refl
  cut_params (param.DoubleStar l x ∷ ps) s = cut_params ps (param_adds own (param.DoubleStar l x) place s)

  at_star : (l : ℕ) (x : Option (List ℕ)) → Stands z k G (Unit {0}) (param_adds own (param.Star l x) place)
  at_star l None = stands_still z
  at_star l (Some x) = any_name z own l what.Parameter x

  defaults_do : {ps : List (Param survey.Part)} {qs : List (Param resolved.Part)} → Parameters ps qs → Does z k G (LawfulOperands z.roster r [] (Some operand.Value)) (before_star_of ps) (resolved.defaults (context z place ns) qs)
  defaults_do no_param = nothing z syntax.NoMore (λ e. tt)
  defaults_do (required l m x y i) = ahead z (any_name z own l what.Parameter x) (defaults_do i) (λ e u v p. p)
  defaults_do (optional l m x y g i) = ahead z (any_name z own l what.Parameter x) (two z syntax.More (outside g) (defaults_do i) (λ e v vs a b. (tt, a, b))) (λ e u v p. p)
  defaults_do (slash l m i) = defaults_do i
  defaults_do (starred l m x y i) = nothing z syntax.NoMore (λ e. tt)
  defaults_do (double l m x y i) = ahead z (any_name z own l what.Parameter x) (defaults_do i) (λ e u v p. p)

  keywords_do : {ps : List (Param survey.Part)} {qs : List (Param resolved.Part)} → Parameters ps qs → Does z k G (LawfulKeywords z.roster r) (all (map (param_adds own) ps) place) (resolved.keywords (context z place ns) qs)
  keywords_do no_param = nothing z syntax.NoKeyword (λ e. tt)
  keywords_do (required l m x y i) = ahead z (any_name z own l what.Parameter x) (keywords_do i) (λ e u v p. p)
  keywords_do (optional l m x y g i) = ahead z (any_name z own l what.Parameter x) (two z (syntax.Default (resolved.name_in (context z place ns) y)) (outside g) (keywords_do i) (λ e v vs a b. (a, b))) (λ e u v p. p)
  keywords_do (slash l m i) = keywords_do i
  keywords_do (starred l m x y i) = ahead z (at_star l x) (keywords_do i) (λ e u v p. p)
  keywords_do (double l m x y i) = ahead z (any_name z own l what.Parameter x) (keywords_do i) (λ e u v p. p)

  named_do : {ps : List (Param survey.Part)} {qs : List (Param resolved.Part)} → Parameters ps qs → Does z k G (LawfulKeywords z.roster r) (since_star_of ps) (resolved.keywords (context z place ns) (resolved.behind qs))
  named_do no_param = nothing z syntax.NoKeyword (λ e. tt)
  named_do (required l m x y i) = named_do i
  named_do (optional l m x y g i) = named_do i
  named_do (slash l m i) = named_do i
  named_do (starred l m x y i) = ahead z (at_star l x) (keywords_do i) (λ e u v p. p)
  named_do (double l m x y i) = named_do i

  abbrev defaults_of : syntax.Expressions → syntax.Keywords → resolved.Defaults
  defaults_of x y = record { positional = x; named = y }

  pub params_do : {ps : List (Param survey.Part)} {qs : List (Param resolved.Part)} → Parameters ps qs
      → Does z k G (λ d. LawfulOperands z.roster r [] (Some operand.Value) d.positional × LawfulKeywords z.roster r d.named) (all (map (param_adds own) ps) place) (resolved.all_defaults (context z place ns) qs)
  params_do {ps} {qs} i =
      same_adds z (λ s. since_star_of ps (before_star_of ps s)) (all (map (param_adds own) ps) place) (cut_params ps)
      (two z defaults_of (defaults_do i) (named_do i) (λ e x y a b. (a, b)))
