-- Functions and comprehensions of accepted scripts are lawful.
use Rattle.std.proofs.Common.{◌≡◌, ℕ, suc, ◌+◌, not, List, [], ◌∷◌, map, Option, Some, ◌++◌, refl, ap, ◌∙◌, sym, subst, arith, append_assoc}
use Rattle.op_forms.specs.declared.op.Op.{Op}
use Rattle.op_forms.specs.declared.signature.ArgumentKind.TheVariants as operand
use Rattle.py_ast.specs.declared.expr.Clause.{Clause}
use Rattle.py_ast.specs.declared.expr.Param.{Param}
use Rattle.py_ast.specs.declared.scoped.ScopeKind.{ScopeKind}
use Rattle.py_scopes.specs.declared.survey.Role.TheVariants as role
use Rattle.py_scopes.specs.declared.survey.Place.{Place}
use Rattle.py_scopes.specs.declared.survey.Survey.{Survey}
use Rattle.py_scopes.specs.Survey as survey
use Rattle.py_scopes.specs.Survey.{all, param_adds, clause_adds, class_name, class_inside, own_name}
use Rattle.py_meaning.specs.Syntax as syntax
use Rattle.py_meaning.specs.Resolved as resolved
use Rattle.py_meaning.specs.Resolved.{Context, Made, Making, made, and_then, code, inside, shape, handed}
use Rattle.py_meaning.specs.Scopes.{is_class, holds_names, cells_for}
use Rattle.py_scopes.specs.Resolve.{scopes_of}
use Rattle.py_safe.specs.Rosters.{OfFunction}
use Rattle.py_safe.specs.Constructs.{Room, LawfulExpression, LawfulOperands, LawfulKeywords, LawfulTarget, LawfulTurns, LawfulBody, IsMade, MayCollect, RunAs, bound_in}
use Rattle.py_accepted.specs.Laws.{role_of}
use Rattle.py_accepted.proofs.Doing.{Case, Does, adds_both, chain, two, three, wider}
use Rattle.py_accepted.proofs.Places.{context, At}
use Rattle.py_accepted.proofs.Inner.{own, Params, names_of, inner_room, Facts, whole_scope, scope_does}
use Rattle.py_accepted.proofs.Parts.{Good, Clauses, Parameters, clauses_add, clauses_turn, params_do, same_made, same_made_at}

in_line : {A : Type 0} (a b c d : List A) → a ++ (b ++ (c ++ d)) ≡ ((a ++ b) ++ c) ++ d
in_line a b c d = sym (append_assoc a b (c ++ d)) ∙ sym (append_assoc (a ++ b) c d)

abbrev with_codes : {A : Type 0} → Made A → syntax.Code → List syntax.Code → Made A
with_codes r x codes = record { is = r.is; next = r.next; codes = x ∷ codes }

abbrev pub both_of : {A B : Type 0} → A → B → A × B
both_of a b = (a, b)

module _ (z : Case) (k : ℕ) (place : Place) (ps : List (List ℕ)) (r : Room) (line : ℕ) (kind : ScopeKind) (holds : holds_names kind ≡ not (is_class kind)) (is : role_of kind ≡ OfFunction) where
  abbrev c : Context
  c = context z place ps

  -- what the body of the function of scope n has to do
  abbrev pub BodyDoes : ℕ → List ℕ → Params → (Survey → Survey) → Making syntax.Body → Type 0
  BodyDoes n title params f m =
      Does z (suc n) (Facts z n line kind title place ps r params 0) (λ b. (bound_in OfFunction b ≡ 0) × LawfulBody z.roster (inner_room z n kind params 0) b) f m

  pub function_does : (title : List ℕ) {ws : List (Param survey.Part)} {bs : List (Param resolved.Part)} → Parameters ws bs → (f : Place → Survey → Survey) (body : Context → Making syntax.Body)
      → ((n : ℕ) → BodyDoes n title (shape c bs) (f (own kind place n)) (body (inside c n (shape c bs) c.class)))
      → Does z k (At z k place ps r) (LawfulExpression z.roster r) (survey.function line kind title ws f place) (resolved.function c line bs body)
  function_does title {ws} {bs} i f body d =
      scope_does z {k = k} place ps r line kind title (shape c bs) c.class 0
      {P = λ (a : resolved.Defaults × syntax.Body). LawfulOperands z.roster r [] (Some operand.Value) a.0.positional × LawfulKeywords z.roster r a.0.named}
      {f = λ n s. f (own kind place n) (all (map (param_adds (own kind place n)) ws) place s)}
      (λ n. and_then (resolved.all_defaults c bs) (λ a. made (both_of a) (body (inside c n (shape c bs) c.class))))
      (λ a. a.1)
      (λ n a. syntax.Function line (z.first + n) a.0.positional a.0.named (cells_for (scopes_of z.survey) place.scope n))
      holds (omega arith)
      (λ n e b. subst (λ o. RunAs o (code (inside c n (shape c bs) c.class) (shape c bs) b)) (sym is) tt)
      (λ n. two z both_of (params_do z (suc n) place (own kind place n) ps r (λ (e : Facts z n line kind title place ps r (shape c bs) 0). e.0) i) (d n)
      (λ e a b p q. (p, subst (λ o. bound_in o b ≡ 0) (sym is) q.0, q.1)))
      (λ n a p m. (p.0, p.1, subst (λ o. IsMade z.roster r (z.first + n) o (cells_for (scopes_of z.survey) place.scope n)) is m))

  -- what the element of the comprehension of scope n has to do
  abbrev pub ElementDoes : ℕ → Option Op → (Survey → Survey) → Making syntax.Turns → Type 0
  ElementDoes n into f m =
      Does z (suc n) (Facts z n line kind (own_name kind) place ps r handed 1) (LawfulTurns z.roster (inner_room z n kind handed 1) into) f m

  abbrev turned : syntax.Target → syntax.Expression → syntax.Turns → syntax.Target × syntax.Expression × syntax.Turns
  turned t x turns = (t, x, turns)

  abbrev inside_of : ℕ → Option (List ℕ) → Context
  inside_of n class = inside c n handed class

  module _ (into : Option Op) (collects : MayCollect z.roster into) (same : (n : ℕ) → class_inside kind n place.class ≡ place.class)
      (f : Place → Survey → Survey) (element : Context → Making syntax.Turns) {t x : survey.Part} {u y : resolved.Part} (target : Good t u) (over : Good x y)
      {ws : List (Clause survey.Part)} {bs : List (Clause resolved.Part)} (i : Clauses ws bs)
      (d : (n : ℕ) → ElementDoes n into (f (own kind place n)) (element (context z (own kind place n) (names_of handed)))) where
    abbrev rest : ℕ → Option (List ℕ) → syntax.Turns → Making (syntax.Target × syntax.Expression × syntax.Turns)
    rest n class e = and_then (u.target (inside_of n class)) (λ t. and_then (y.value c) (λ x. made (turned t x) (resolved.further (inside_of n class) bs e)))

    abbrev parts : ℕ → Option (List ℕ) → Making (syntax.Target × syntax.Expression × syntax.Turns)
    parts n class = and_then (element (inside_of n class)) (rest n class)

    abbrev F : ℕ → Type 0
    F n = Facts z n line kind (own_name kind) place ps r handed 1

    abbrev room : ℕ → Room
    room n = inner_room z n kind handed 1

    abbrev IsTurned : ℕ → syntax.Target × syntax.Expression × syntax.Turns → Type 0
    IsTurned n a = LawfulExpression z.roster r a.1 × (bound_in (role_of kind) (syntax.Collect line into a.0 a.2) ≡ 1) × LawfulBody z.roster (room n) (syntax.Collect line into a.0 a.2)

    target_does : (n : ℕ) → Does z (suc n) (F n) (LawfulTarget z.roster (room n)) (t role.Target (own kind place n)) (u.target (context z (own kind place n) (names_of handed)))
    target_does n = wider z (omega arith) (λ e. e.1) (target.target z (suc n) (own kind place n) (names_of handed) (room n))

    over_does : (n : ℕ) → Does z (suc n) (F n) (LawfulExpression z.roster r) (x role.Value place) (y.value c)
    over_does n = wider z (omega arith) (λ e. e.0) (over.value z (suc n) place ps r)

    turns_do : (n : ℕ) (turns : syntax.Turns) → LawfulTurns z.roster (room n) into turns → Does z (suc n) (F n) (LawfulTurns z.roster (room n) into) (all (map clause_adds ws) (own kind place n)) (resolved.further (context z (own kind place n) (names_of handed)) bs turns)
    turns_do n turns h = wider z (omega arith) (λ e. e.1) (clauses_turn z (suc n) (own kind place n) (names_of handed) (room n) into turns h i)

    parts_do : (n : ℕ) → Does z (suc n) (F n) (IsTurned n)
        (λ s. all (map clause_adds ws) (own kind place n) (x role.Value place (t role.Target (own kind place n) (f (own kind place n) s)))) (parts n (class_name z.survey (class_inside kind n place.class)))
    parts_do n =
        chain z (rest n (class_name z.survey (class_inside kind n place.class))) (d n)
        (adds_both z (target_does n).adds (adds_both z (over_does n).adds (clauses_add z (suc n) (own kind place n) (names_of handed) (room n) i)))
        (λ e h. three z turned (target_does n) (over_does n) (turns_do n e h)
        (λ o a b w p q v. (q, subst (λ o. bound_in o (syntax.Collect line into a w) ≡ 1) (sym is) refl, (collects, omega arith, p, v))))

    abbrev collected : syntax.Target × syntax.Expression × syntax.Turns → syntax.Body
    collected a = syntax.Collect line into a.0 a.2

    abbrev comprehended : ℕ → syntax.Target × syntax.Expression × syntax.Turns → syntax.Expression
    comprehended n a = syntax.Comprehension line (z.first + n) a.1 (cells_for (scopes_of z.survey) place.scope n)

    abbrev made_whole : Making syntax.Expression
    made_whole = whole_scope c handed c.class (λ n. parts n c.class) collected comprehended

    abbrev whole : Making syntax.Expression
    whole = resolved.comprehension c line into element (record { target = u; iterable = y; more = bs })

    -- it is made of the same codes in the same order
    made_same : (n : ℕ) → made_whole n ≡ whole n
    made_same n =
        let d = inside_of n c.class in
        let e = element d (n + 1) in
        let t = u.target d e.next in
        let x = y.value c t.next in
        let v = resolved.further d bs e.is x.next in
        ap (with_codes (whole n) (code d handed (syntax.Collect line into t.is v.is))) (in_line e.codes t.codes x.codes v.codes)

    pub comprehension_does : Does z k (At z k place ps r) (LawfulExpression z.roster r)
        (λ s. let o = survey.inside kind place s in all (map clause_adds ws) o (x role.Value place (t role.Target o (f o (survey.enter line kind (own_name kind) place s)))))
        (resolved.comprehension c line into element (record { target = u; iterable = y; more = bs }))
    comprehension_does =
        same_made_at z made_whole whole made_same
        (scope_does z {k = k} place ps r line kind (own_name kind) handed c.class 1
        {P = λ (a : syntax.Target × syntax.Expression × syntax.Turns). LawfulExpression z.roster r a.1}
        {f = λ n s. all (map clause_adds ws) (own kind place n) (x role.Value place (t role.Target (own kind place n) (f (own kind place n) s)))}
        (λ n. parts n c.class)
        collected comprehended
        holds (omega arith)
        (λ n e b. subst (λ o. RunAs o (code (inside c n handed c.class) handed b)) (sym is) tt)
        (λ n. same_made z (parts n (class_name z.survey (class_inside kind n place.class))) (parts n c.class) (ap (λ o. parts n (class_name z.survey o)) (same n)) (parts_do n))
        (λ n a p m. (p, subst (λ o. IsMade z.roster r (z.first + n) o (cells_for (scopes_of z.survey) place.scope n)) is m)))
