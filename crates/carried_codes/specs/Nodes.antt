-- The primitive statements of a whole code, by the homes of its names and the next temporary. Temporaries are drawn in the order of the
-- text, those of a construct itself behind those of its parts.
use Rattle.std.specs.Prelude.{ℕ, ◌+◌, ◌-◌, List, [], ◌∷◌, map, length, Option, Some, None}
use Rattle.code_forms.specs.declared.operand.Operand.{Operand}
use Rattle.code_forms.specs.declared.operand.Operand.TheVariants as operand
use Rattle.op_forms.specs.declared.constant.Const.TheVariants as const
use Rattle.op_forms.specs.declared.op.Op.{Op}
use Rattle.node_tree.specs.Blocks.{alone}
use Rattle.node_tree.specs.Blocks as tree
use Rattle.py_meaning.specs.Syntax as syntax
use Rattle.carries_base.specs.Frames.{Homes, local_at, behind}
use Rattle.carries_base.specs.Carries.{Carrier}
use Rattle.carries_names.specs.Begun.{begun_block}
use Rattle.carries_names.specs.Functions.{cell_at}
use Rattle.carries_values.specs.Choices.{Linked}
use Rattle.carries_values.specs.Displays.{Item, Entry}
use Rattle.carries_values.specs.Displays as displays
use Rattle.carries_values.specs.Calls.{Passed}
use Rattle.carries_values.specs.Calls as calls
use Rattle.carried_codes.specs.Seats.{Seat, seat}
use Rattle.carried_codes.specs.Constants.{const_of}
use Rattle.carried_codes.specs.Parts.{Valued, Several, Made, valued, several, made, Named, Decorator}
use Rattle.carried_codes.specs.Expressions as expressions
use Rattle.carried_codes.specs.Places as places
use Rattle.carried_codes.specs.Clauses as clauses
use Rattle.carried_codes.specs.Statements as statements

-- the cells of the frame that an inner function gets
abbrev pub cells_at : Homes → List syntax.CellPlace → List ℕ
cells_at h cells = map (cell_at h) cells

-- Expressions

abbrev mutual
  pub value : Homes → ℕ → syntax.Expression → Valued
  value h t (syntax.Constant v) = valued tree.Stop (operand.Const (const_of v)) t
  value h t (syntax.Name line home) = expressions.name line (seat h home) t
  value h t (syntax.Operation line o xs) = let ps = values h t xs in expressions.operate line o ps.parts ps.next
  value h t (syntax.Junction line any x y) = let p = value h t x in let q = value h p.next y in expressions.both line any p.part q.part q.next
  -- the test stands between the two others
  value h t (syntax.Conditional line test x y) =
      let p = value h t x in let o = value h p.next test in let q = value h o.next y in expressions.choose line o.part p.part q.part q.next
  value h t (syntax.Comparison line x ls) = let p = value h t x in let qs = links h p.next ls in expressions.chain line p.part qs.parts qs.next
  value h t (syntax.Starred line tuple xs) = let ps = items h t xs in expressions.starred line tuple ps.parts ps.next
  value h t (syntax.Dict line xs) = let ps = entries h t xs in expressions.dict line ps.parts ps.next
  value h t (syntax.Call line f xs) = let p = value h t f in let ps = arguments h p.next xs in expressions.call line p.part ps.parts ps.next
  value h t (syntax.Function line code xs ks cells) =
      let ps = values h t xs in let qs = keywords h ps.next ks in expressions.function line code ps.parts qs.parts (cells_at h cells) qs.next
  value h t (syntax.Comprehension line code x cells) = let p = value h t x in expressions.comprehension line code p.part (cells_at h cells) p.next
  value h t (syntax.Yield line x) = let p = value h t x in expressions.yield_value line p.part p.next
  value h t (syntax.YieldFrom line x) = let p = value h t x in expressions.delegate line p.part p.next

  pub values : Homes → ℕ → syntax.Expressions → Several Carrier
  values h t syntax.NoMore = several [] t
  values h t (syntax.More x xs) = let p = value h t x in let ps = values h p.next xs in several (p.part ∷ ps.parts) ps.next

  pub links : Homes → ℕ → syntax.Links → Several Linked
  links h t (syntax.LastLink o negated x) = let p = value h t x in several (record { op = o; negated = negated; right = p.part } ∷ []) p.next
  links h t (syntax.Link o negated x ls) =
      let p = value h t x in let ps = links h p.next ls in several (record { op = o; negated = negated; right = p.part } ∷ ps.parts) ps.next

  pub items : Homes → ℕ → syntax.Items → Several Item
  items h t syntax.NoItem = several [] t
  items h t (syntax.Single x xs) = let p = value h t x in let ps = items h p.next xs in several (displays.One p.part ∷ ps.parts) ps.next
  items h t (syntax.Spread x xs) = let p = value h t x in let ps = items h p.next xs in several (displays.Star p.part ∷ ps.parts) ps.next

  pub entries : Homes → ℕ → syntax.Entries → Several Entry
  entries h t syntax.NoEntry = several [] t
  entries h t (syntax.Pair x y xs) =
      let p = value h t x in let q = value h p.next y in let ps = entries h q.next xs in several (displays.Pair p.part q.part ∷ ps.parts) ps.next
  entries h t (syntax.Merge x xs) = let p = value h t x in let ps = entries h p.next xs in several (displays.Merge p.part ∷ ps.parts) ps.next

  pub arguments : Homes → ℕ → syntax.Arguments → Several Passed
  arguments h t syntax.NoArgument = several [] t
  arguments h t (syntax.Plain x xs) = let p = value h t x in let ps = arguments h p.next xs in several (calls.Plain p.part ∷ ps.parts) ps.next
  arguments h t (syntax.Star x xs) = let p = value h t x in let ps = arguments h p.next xs in several (calls.Star p.part ∷ ps.parts) ps.next
  arguments h t (syntax.Keyword name x xs) = let p = value h t x in let ps = arguments h p.next xs in several (calls.Key name p.part ∷ ps.parts) ps.next
  arguments h t (syntax.DoubleStar x xs) = let p = value h t x in let ps = arguments h p.next xs in several (calls.Merge p.part ∷ ps.parts) ps.next

  pub keywords : Homes → ℕ → syntax.Keywords → Several Named
  keywords h t syntax.NoKeyword = several [] t
  keywords h t (syntax.Default name x ks) = let p = value h t x in let ps = keywords h p.next ks in several (record { name = name; part = p.part } ∷ ps.parts) ps.next

-- Targets

-- a target whose parts are evaluated, with the next temporary
pub record Placed : Type 0 where
  pub place : places.Place
  pub next : ℕ

pub record AllPlaced : Type 0 where
  pub all : places.Places
  pub next : ℕ

abbrev pub placed : places.Place → ℕ → Placed
placed p n = record { place = p; next = n }

abbrev pub all_placed : places.Places → ℕ → AllPlaced
all_placed ps n = record { all = ps; next = n }

abbrev mutual
  pub place : Homes → ℕ → syntax.Target → Placed
  place h t (syntax.ToName line home) = placed (places.Name line (seat h home)) t
  place h t (syntax.ToAttribute line x name) = let p = value h t x in placed (places.Attribute line p.part name) p.next
  place h t (syntax.ToIndex line x y) = let p = value h t x in let q = value h p.next y in placed (places.Index line p.part q.part) q.next
  place h t (syntax.ToEach line xs) = let ps = all_places h t xs in placed (places.Each line ps.all) ps.next
  place h t (syntax.ToStarred line xs star ys) =
      let ps = all_places h t xs in let p = place h ps.next star in let qs = all_places h p.next ys in placed (places.Starred line ps.all p.place qs.all) qs.next
  place h t syntax.ToNothing = placed places.Nothing t

  pub all_places : Homes → ℕ → syntax.Targets → AllPlaced
  all_places h t syntax.NoTarget = all_placed places.NoPlace t
  all_places h t (syntax.AlsoTo x xs) = let p = place h t x in let ps = all_places h p.next xs in all_placed (places.Also p.place ps.all) ps.next

-- what the temporary t gets goes to a target
abbrev pub bind : Homes → ℕ → syntax.Target → Made
bind h t x = let p = place h (t + 1) x in places.assign p.next (operand.Temp t) p.place

abbrev pub bind_all : Homes → ℕ → syntax.Targets → Made
bind_all h t xs = let ps = all_places h (t + 1) xs in places.assign_all ps.next (operand.Temp t) ps.all

-- Statements

abbrev pub decorators : Homes → ℕ → List syntax.Decorator → Several Decorator
decorators h t [] = several [] t
decorators h t (d ∷ ds) = let p = value h t d.is in let ps = decorators h p.next ds in several (record { line = d.line; part = p.part } ∷ ps.parts) ps.next

-- what is defined goes to its name
abbrev pub defined : ℕ → Seat → Valued → Made
defined line s p = let m = places.assign_name line s p.part.value p.next in made (tree.append p.part.block m.block) m.next

abbrev pub bound : Homes → Option syntax.Caught → Option clauses.Bound
bound h None = None
bound h (Some name) = Some (record { line = name.line; seat = seat h name.home })

abbrev mutual
  -- in an `except` clause whose exception is in the temporary `caught`, if in any
  pub statement : Homes → Option ℕ → ℕ → syntax.Statement → Made
  statement h caught t (syntax.Evaluate x) = let p = value h t x in made p.part.block p.next
  statement h caught t (syntax.Assign xs x) =
      let ps = all_places h t xs in let p = value h ps.next x in let m = places.assign_all p.next p.part.value ps.all in made (tree.append p.part.block m.block) m.next
  statement h caught t (syntax.Augment line o x y) = let p = place h t x in let q = value h p.next y in places.augment q.next line o p.place q.part
  statement h caught t (syntax.Delete x) = let p = place h t x in places.delete p.next p.place
  statement h caught t syntax.Pass = made tree.Stop t
  statement h caught t syntax.Break = made (alone (tree.Leave 2)) t
  statement h caught t syntax.Continue = made (alone (tree.Leave 1)) t
  statement h caught t (syntax.Return x) = let p = value h t x in statements.return_value p.part p.next
  statement h caught t (syntax.Raise line x) = let p = value h t x in statements.raise_value line p.part p.next
  statement h caught t syntax.Reraise = statements.raise_again caught t
  statement h caught t (syntax.Assert line x texts) = let p = value h t x in let ps = values h p.next texts in statements.assert_that line p.part ps.parts ps.next
  statement h caught t (syntax.If line x body other) =
      let p = value h t x in let b = block h caught p.next body in let c = block h caught b.next other in statements.branch line p.part b.block c.block c.next
  statement h caught t (syntax.While line x body other) =
      let p = value h t x in let b = block h caught p.next body in let c = block h caught b.next other in statements.while_loop line p.part b.block c.block c.next
  -- the target stands in front of what is iterated over
  statement h caught t (syntax.For line x over body other) =
      let i = bind h t x in let p = value h i.next over in let b = block h caught p.next body in let c = block h caught b.next other in
      statements.for_loop line p.part t i.block b.block c.block c.next
  statement h caught t (syntax.Try body handlers other) =
      let b = block h caught t body in let cs = except h b.next handlers in let c = block h caught cs.next other in
      clauses.try_except c.next b.block cs.parts c.block
  statement h caught t (syntax.Finally body last) = let b = block h caught t body in let c = block h None b.next last in statements.try_finally b.block c.block c.next
  statement h caught t (syntax.With line x xs body) =
      let p = value h t x in let i = bind_all h p.next xs in let b = block h caught i.next body in statements.with_item line p.part p.next i.block b.block b.next
  statement h caught t (syntax.Define line ds function home) =
      let ps = decorators h t ds in let p = value h ps.next function in defined line (seat h home) (expressions.decorate ps.parts p.part p.next)
  statement h caught t (syntax.Class line ds name base code cells home) =
      let ps = decorators h t ds in let p = value h ps.next base in defined line (seat h home) (expressions.make_class line code name ps.parts p.part (cells_at h cells) p.next)

  pub block : Homes → Option ℕ → ℕ → syntax.Block → Made
  block h caught t syntax.Done = made tree.Stop t
  block h caught t (syntax.Then s rest) = let m = statement h caught t s in let n = block h caught m.next rest in made (tree.append m.block n.block) n.next

  -- the body of a clause has a temporary for its exception
  pub except : Homes → ℕ → syntax.Handlers → Several clauses.Clause
  except h t syntax.NoHandler = several [] t
  except h t (syntax.Bare body) = let b = block h (Some t) (t + 1) body in several (clauses.Bare t b.block ∷ []) b.next
  except h t (syntax.Handler line class name body rest) =
      let p = value h t class in let b = block h (Some p.next) (p.next + 1) body in let cs = except h b.next rest in
      several (clauses.Class line p.part p.next (bound h name) b.block ∷ cs.parts) cs.next

-- Comprehensions

-- what is collected stands in front of the clauses
abbrev pub element : Homes → ℕ → ℕ → Operand → syntax.Turns → Made
element h t line into (syntax.Push x) = let p = value h t x in statements.push line into p.part p.next
element h t line into (syntax.Put k x) = let p = value h t k in let q = value h p.next x in statements.put line into p.part q.part q.next
element h t line into (syntax.Emit x) = let p = value h t x in statements.emit line p.part p.next
element h t line into (syntax.Ranging target over inner) = element h t line into inner
element h t line into (syntax.Filter test inner) = element h t line into inner

-- the clauses around what is collected
abbrev pub turns : Homes → ℕ → ℕ → tree.Block → syntax.Turns → Made
turns h t line b (syntax.Ranging x over inner) =
    let i = bind h t x in let p = value h i.next over in let m = turns h p.next line b inner in statements.for_loop line p.part t i.block m.block tree.Stop m.next
turns h t line b (syntax.Filter test inner) = let p = value h t test in let m = turns h p.next line b inner in statements.filter line p.part m.block m.next
turns h t line b other = made b t

-- over the iterator that the scope is handed
abbrev pub first_loop : Homes → ℕ → ℕ → Operand → syntax.Target → syntax.Turns → tree.Block
first_loop h t line into x inner =
    let e = element h t line into inner in let i = bind h e.next x in let m = turns h i.next line e.block inner in
    statements.over line e.next (local_at h 0) i.block m.block m.next

abbrev pub collect : Homes → ℕ → ℕ → Option Op → syntax.Target → syntax.Turns → tree.Block
collect h t line None x inner = first_loop h t line (operand.Const const.None) x inner
collect h t line (Some o) x inner = statements.gather line t o (first_loop h (t + 1) line (operand.Temp t) x inner)

-- Codes

abbrev pub body : Homes → ℕ → syntax.Body → tree.Block
body h t (syntax.Statements b) = (block h None t b).block
body h t (syntax.Value' x) = let p = value h t x in (statements.return_value p.part p.next).block
body h t (syntax.Collect line into x inner) = collect h t line into x inner

abbrev pub homes_of : syntax.Code → Homes
homes_of c = record { params = length c.header.params; frees = c.frees; owns = length c.owns; locals = c.locals; filled = c.locals; made = length c.owns }

-- cells and local variables come first, then the body
abbrev pub code_nodes : syntax.Code → tree.Block
code_nodes c = let h = homes_of c in begun_block h c.header.line (behind h) (c.locals - h.params) c.owns (body h (behind h) c.body)
