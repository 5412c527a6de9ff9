-- Comprehensions, as they are made and as they are walked.
use Rattle.std.proofs.Common.{◌≡◌, ℕ, ◌+◌, List, [], ◌∷◌, ◌++◌, map, Option, Some, None, refl, sym, ap, ◌∙◌}
use Rattle.op_forms.specs.declared.op.Op.{Op}
use Rattle.code_forms.specs.declared.operand.Operand.{Operand}
use Rattle.py_ast.specs.declared.expr.Clause.{Clause}
use Rattle.py_ast.specs.declared.expr.Clause.TheVariants as clause
use Rattle.py_ast.specs.declared.expr.Clauses.{Clauses}
use Rattle.node_tree.specs.Blocks as tree
use Rattle.py_meaning.specs.Syntax as syntax
use Rattle.py_meaning.specs.Resolved as meaning
use Rattle.py_meaning.specs.Resolved.{Context, Making}
use Rattle.carries_base.specs.Carries.{Carrier}
use Rattle.carries_base.specs.Frames.{local_at, behind}
use Rattle.carried_codes.specs.Parts.{Made}
use Rattle.carried_codes.specs.Expressions as expressions
use Rattle.carried_codes.specs.Statements as statements
use Rattle.carried_codes.specs.Nodes as nodes
use Rattle.walk_laws.specs.States.{State, Walked, Walking, walked, coded, at}
use Rattle.walk_laws.specs.Contexts.{homes_in, cells_in, code_in}
use Rattle.walk_laws.specs.Expressions as walk
use Rattle.walk_laws.specs.Composed.{Out, As, AsMeant, through, value_at}
use Rattle.walk_laws.proofs.Threads.{out, block_out, nothing, two, three, map_joined}
use Rattle.walk_laws.proofs.Targets.{bound_at, bound_walked}
use Rattle.walk_laws.proofs.Functions.{code_same, inside_same}

pub data Further : List (Clause meaning.Part) → List (Clause walk.Part) → Type 0 where
  no_clause : Further [] []
  ranging : {t p : meaning.Part} {u q : walk.Part} {ps : List (Clause meaning.Part)} {qs : List (Clause walk.Part)} (line : ℕ) → AsMeant t u → AsMeant p q → Further ps qs
      → Further (clause.For line t p ∷ ps) (clause.For line u q ∷ qs)
  testing : {p : meaning.Part} {q : walk.Part} {ps : List (Clause meaning.Part)} {qs : List (Clause walk.Part)} (line : ℕ) → AsMeant p q → Further ps qs
      → Further (clause.If line p ∷ ps) (clause.If line q ∷ qs)

-- what is collected
abbrev pub element_at : Context → ℕ → Operand → ℕ → syntax.Turns → Out tree.Block
element_at d line into t x = block_out (nodes.element (homes_in d) t line into x)

abbrev turns_at : Context → ℕ → tree.Block → ℕ → syntax.Turns → Out tree.Block
turns_at d line b t x = block_out (nodes.turns (homes_in d) t line b x)

-- what is collected stands behind all clauses
abbrev pub IsElement : syntax.Turns → Type 0
IsElement (syntax.Ranging t o x) = ⊥
IsElement (syntax.Filter t x) = ⊥
IsElement other = Unit {0}

inmost : (d : Context) (line : ℕ) (b : tree.Block) (x : syntax.Turns) → IsElement x → (t : ℕ) → turns_at d line b t x ≡ out b t
inmost d line b (syntax.Push x) e t = refl
inmost d line b (syntax.Put x y) e t = refl
inmost d line b (syntax.Emit x) e t = refl
inmost d line b (syntax.Ranging x o y) e t = absurd e
inmost d line b (syntax.Filter x y) e t = absurd e

module _ (d : Context) (line : ℕ) where
  further_walked : {ps : List (Clause meaning.Part)} {qs : List (Clause walk.Part)} (b : tree.Block) (x : syntax.Turns) → IsElement x → Further ps qs
      → As (turns_at d line b) (meaning.further d ps x) (walk.further d line b qs)
  further_walked b x e no_clause = nothing x b (inmost d line b x e)
  further_walked b x e (ranging l t g i) =
      three syntax.Ranging (λ i p m n. block_out (statements.for_loop line p i.0 i.1 m tree.Stop n)) (λ n x y z. refl) (bound_walked d t) (g.value d) (further_walked b x e i)
  further_walked b x e (testing l g i) = two syntax.Filter (λ p m n. block_out (statements.filter line p m n)) (λ n x y. refl) (g.value d) (further_walked b x e i)

  -- the clauses keep what is collected
  element_same : {ps : List (Clause meaning.Part)} {qs : List (Clause walk.Part)} (into : Operand) (x : syntax.Turns) (t n : ℕ) → Further ps qs
      → nodes.element (homes_in d) t line into (meaning.further d ps x n).is ≡ nodes.element (homes_in d) t line into x
  element_same into x t n no_clause = refl
  element_same into x t n (ranging l a g i) = element_same into x t _ i
  element_same into x t n (testing l g i) = element_same into x t _ i

  -- the whole loop, of which what is collected is made
  abbrev loop_of : Option Op → Made → syntax.Target → syntax.Turns → tree.Block
  loop_of o e x inner =
      let h = homes_in d in
      let i = nodes.bind h e.next x in
      let m = nodes.turns h i.next line e.block inner in
      walk.gathered line o (behind h) (statements.over line e.next (local_at h 0) i.block m.block m.next)

  abbrev element_of : Option Op → syntax.Turns → Made
  element_of o x = let t = behind (homes_in d) in nodes.element (homes_in d) (walk.into_drawn o t) line (walk.into o t) x

  collect_same : (o : Option Op) (e : Made) (x : syntax.Target) (inner : syntax.Turns) → element_of o inner ≡ e → nodes.collect (homes_in d) (behind (homes_in d)) line o x inner ≡ loop_of o e x inner
  collect_same None e x inner s = ap (λ e. loop_of None e x inner) s
  collect_same (Some o) e x inner s = ap (λ e. loop_of (Some o) e x inner) s

module _ (c : Context) (line : ℕ) (o : Option Op) (em : Context → Making syntax.Turns) (ew : Context → Operand → Walking tree.Block) {t p : meaning.Part} {u q : walk.Part}
    {ps : List (Clause meaning.Part)} {qs : List (Clause walk.Part)} (target : AsMeant t u) (over : AsMeant p q) (more : Further ps qs) where
  abbrev clauses : Clauses meaning.Part
  clauses = record { target = t; iterable = p; more = ps }

  abbrev steps : Clauses walk.Part
  steps = record { target = u; iterable = q; more = qs }

  -- behind the further clauses, behind the iterable, and behind the first target
  abbrev closes : (s : State) (item : ℕ) (bind : tree.Block) → Walked Carrier → Walked tree.Block → Walked Carrier
  closes s item bind x f =
      let d = meaning.inside c s.scope meaning.handed c.class in
      let h = homes_in d in
      let b = walk.gathered line o (behind h) (statements.over line item (local_at h 0) bind f.is f.state.temp) in
      let v = expressions.comprehension line (c.first + s.scope) x.is (cells_in c s.scope) x.state.temp in
      walked v.part (walk.ended s d meaning.handed b f.state v.next)

  pub comprehension_walked : ((d : Context) (to : Operand) → As (element_at d line to) (em d) (ew d to)) → ((d : Context) (n : ℕ) → IsElement (em d n).is)
      → As (value_at c) (meaning.comprehension c line o em clauses) (walk.comprehension c line o ew steps)
  comprehension_walked element is = record {
    same = λ s.
        let d = meaning.inside c s.scope meaning.handed c.class in
        let h = homes_in d in
        let into = walk.into o (behind h) in
        let first = walk.into_drawn o (behind h) in
        let e = em d (s.scope + 1) in
        let en = nodes.element h first line into e.is in
        let t' = t.target d e.next in
        let i = nodes.bind h en.next t'.is in
        let x = p.value c t'.next in
        let v = nodes.value (homes_in c) s.temp x.is in
        let f = meaning.further d ps e.is x.next in
        let m = nodes.turns h i.next line en.block f.is in
        let w = expressions.comprehension line (c.first + s.scope) v.part (cells_in c s.scope) v.next in
        let s₁ = (through (element_at d line into) (em d) (at first (walk.begun s))).state in
        let s₂ = (through (bound_at d) (t.target d) s₁).state in
        let s₃ = (through (value_at c) (p.value c) (at s.temp s₂)).state in
        let es = map coded e.codes in
        ap (λ r. walk.closed c line o steps s r.is r.state) ((element d into).same (at first (walk.begun s)))
        ∙ ap (λ r. let y = q.value c (at s.temp r.state) in closes s r.is.0 r.is.1 y (walk.further d line en.block qs (at r.state.temp y.state))) ((bound_walked d target).same s₁)
        ∙ ap (λ r. closes s en.next i.block r (walk.further d line en.block qs (at i.next r.state))) ((over.value c).same (at s.temp s₂))
        ∙ ap (λ r. closes s en.next i.block (walked v.part s₃) r) ((further_walked d line en.block e.is (is d (s.scope + 1)) more).same (at i.next s₃))
        ∙ ap (λ b. walked w.part (record { temp = w.next; scope = f.next; codes = s.codes ++ code_in d meaning.handed b ∷ (((es ++ map coded t'.codes) ++ map coded x.codes) ++ map coded f.codes) }))
        (sym (collect_same d line o en t'.is f.is (element_same d line into e.is first x.next more)))
        ∙ ap (λ k. walked w.part (record { temp = w.next; scope = f.next; codes = s.codes ++ k ∷ (((es ++ map coded t'.codes) ++ map coded x.codes) ++ map coded f.codes) }))
        (code_same d meaning.handed (syntax.Collect line o t'.is f.is) (inside_same c s.scope meaning.handed c.class))
        ∙ ap (λ cs. walked w.part (record { temp = w.next; scope = f.next; codes = s.codes ++ coded (meaning.code d meaning.handed (syntax.Collect line o t'.is f.is)) ∷ cs }))
        (ap (λ cs. (cs ++ map coded x.codes) ++ map coded f.codes) (map_joined coded e.codes t'.codes)
        ∙ ap (λ cs. cs ++ map coded f.codes) (map_joined coded (e.codes ++ t'.codes) x.codes)
        ∙ map_joined coded ((e.codes ++ t'.codes) ++ x.codes) f.codes);
  }
