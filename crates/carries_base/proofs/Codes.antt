-- From a block to the code that it is the body of.
use Rattle.std.proofs.Common.{◌≡◌, ℕ, [], Some, None, sym, ap, ◌∙◌, subst}
use Rattle.std.specs.Prelude.{slice_get}
use Rattle.nu_rows.specs.Rows.{End, Next, Leave, Raised, Return, Stopped, Undefined}
use Rattle.node_tree.specs.Nodes as nodes
use Rattle.node_tree.specs.Tree.{code_block}
use Rattle.nu_value.specs.declared.value.Value.{Value}
use Rattle.py_meaning.specs.Syntax as syntax
use Rattle.py_meaning.specs.Bodies as bodies
use Rattle.carries_base.specs.Frames.{Homes, begun, Facts}
use Rattle.carries_base.specs.Carries.{Setting, source, target, S, T, Tables, Outer, Correspond, EndsAs, BodyEnds, CarriedBy, CarriesBlock, CarriesCode}
use Rattle.carries_base.proofs.Carry.{by_map}

module _ (z : Setting) (h : Homes) (n : ℕ) (k : Value → Facts) (fs : Facts) where
  outer : (tabs : Tables) (gs : Facts) (s : S) (t : T) → Correspond z h tabs gs s t → Outer z tabs s t
  outer tabs gs s t x = record { code = x.frames.code; around = x.around }

  -- the ends of a construct are ends of a body
  pub body_ends : (tabs : Tables) (e : End) (s : S) (e' : End) (t : T) → EndsAs z h n k fs tabs e s e' t → BodyEnds z tabs e s e' t
  body_ends tabs (Next v) s (Next w) t x = outer tabs (k v) s t x
  body_ends tabs (Leave i) s (Leave j) t x = tt
  body_ends tabs (Raised i) s (Raised j) t x = (x.0, outer tabs fs s t x.1)
  body_ends tabs (Return i) s (Return j) t x = (x.0, outer tabs fs s t x.1)
  body_ends tabs (Stopped i) s (Stopped j) t x = x
  body_ends tabs Undefined s Undefined t x = tt
  body_ends tabs e s e' t x = absurd x

-- a code without cells, whose local variables are its parameters, is carried where its block is: modules are such codes
pub plain_carried : (z : Setting) (code low high : ℕ) (c : syntax.Code) (body : syntax.Block) → slice_get z.codes code ≡ Some c → c.owns ≡ [] → c.body ≡ syntax.Statements body → begun (z.homes code) ≡ z.homes code → CarriesBlock (z.homes code) low high None body (code_block z.script.codes code) → CarriesCode z code
plain_carried z code low high c body ec eo eb eh x =
    let h = z.homes code in
    let row : bodies.code_row (source z) (slice_get z.codes code) ≡ bodies.code_row (source z) (Some c) = ap (λ o. bodies.code_row (source z) o) ec in
    let cells : bodies.code_row (source z) (Some c) ≡ bodies.body_row (source z) c.body = ap (λ owns. bodies.with_cells (source z) c.header.line owns (bodies.body_row (source z) c.body)) eo in
    let is : bodies.body_row (source z) c.body ≡ bodies.body_row (source z) (syntax.Statements body) = ap (λ b. bodies.body_row (source z) b) eb in
    subst (λ r. CarriedBy z h (λ tabs. Correspond z (begun h) tabs []) (BodyEnds z) r (nodes.block_row (target z) (code_block z.script.codes code))) (sym (row ∙ cells ∙ is))
    (subst (λ g. CarriedBy z h (λ tabs. Correspond z g tabs []) (BodyEnds z) (bodies.body_row (source z) (syntax.Statements body)) (nodes.block_row (target z) (code_block z.script.codes code))) (sym eh)
    (by_map z h _ _ (EndsAs z h 2 (λ v. []) []) (BodyEnds z) _ _ (λ tabs s t y. y) (body_ends z h 2 (λ v. []) []) (x.carries z [] None tt tt)))
