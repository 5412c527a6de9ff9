-- Lists of parts, as they are made and as they are walked.
use Rattle.std.proofs.Common.{◌≡◌, ℕ, Bool, true, false, cond, List, [], ◌∷◌, map, Option, Some, None, refl, subst}
use Rattle.std.specs.List.{list_any}
use Rattle.nu_value.specs.declared.value.Value.TheVariants as value
use Rattle.op_forms.specs.declared.op.Op.{Op}
use Rattle.op_forms.specs.declared.op.Op.TheVariants as op
use Rattle.py_ast.specs.declared.expr.Comparison.{Comparison}
use Rattle.py_ast.specs.declared.expr.Item.{Item}
use Rattle.py_ast.specs.declared.expr.Item.TheVariants as item
use Rattle.py_ast.specs.declared.expr.Entry.{Entry}
use Rattle.py_ast.specs.declared.expr.Entry.TheVariants as entry
use Rattle.py_ast.specs.declared.expr.Argument.{Argument}
use Rattle.py_ast.specs.declared.expr.Argument.TheVariants as argument
use Rattle.py_ast.specs.declared.expr.Link.{Link}
use Rattle.py_meaning.specs.Syntax as syntax
use Rattle.py_meaning.specs.Resolved as meaning
use Rattle.py_meaning.specs.Resolved.{Context, Making}
use Rattle.carries_base.specs.Carries.{Carrier}
use Rattle.carries_values.specs.Choices.{Linked}
use Rattle.carries_values.specs.Displays as displays
use Rattle.carries_values.specs.Calls as calls
use Rattle.carried_codes.specs.Expressions as expressions
use Rattle.carried_codes.specs.Nodes as nodes
use Rattle.walk_laws.specs.States.{Walking, and_then, made, valued}
use Rattle.walk_laws.specs.Contexts.{homes_in}
use Rattle.walk_laws.specs.Expressions as walk
use Rattle.walk_laws.specs.Composed.{Out, As, AsMeant, value_at}
use Rattle.walk_laws.proofs.Threads.{out, value_out, parts_out, nothing, one, two, three}

-- Parts that are the same ones

pub data Parts : List meaning.Part → List walk.Part → Type 0 where
  no_part : Parts [] []
  part : {p : meaning.Part} {q : walk.Part} {ps : List meaning.Part} {qs : List walk.Part} → AsMeant p q → Parts ps qs → Parts (p ∷ ps) (q ∷ qs)

pub data MayBe : Option meaning.Part → Option walk.Part → Type 0 where
  absent : MayBe None None
  present : {p : meaning.Part} {q : walk.Part} → AsMeant p q → MayBe (Some p) (Some q)

pub data Items : List (Item meaning.Part) → List (Item walk.Part) → Type 0 where
  no_item : Items [] []
  single : {p : meaning.Part} {q : walk.Part} {ps : List (Item meaning.Part)} {qs : List (Item walk.Part)} → AsMeant p q → Items ps qs → Items (item.One p ∷ ps) (item.One q ∷ qs)
  starred : {p : meaning.Part} {q : walk.Part} {ps : List (Item meaning.Part)} {qs : List (Item walk.Part)} (line : ℕ) → AsMeant p q → Items ps qs → Items (item.Star line p ∷ ps) (item.Star line q ∷ qs)

pub data Entries : List (Entry meaning.Part) → List (Entry walk.Part) → Type 0 where
  no_entry : Entries [] []
  pair : {p o : meaning.Part} {q r : walk.Part} {ps : List (Entry meaning.Part)} {qs : List (Entry walk.Part)} → AsMeant p q → AsMeant o r → Entries ps qs → Entries (entry.Pair p o ∷ ps) (entry.Pair q r ∷ qs)
  merged : {p : meaning.Part} {q : walk.Part} {ps : List (Entry meaning.Part)} {qs : List (Entry walk.Part)} → AsMeant p q → Entries ps qs → Entries (entry.Merge p ∷ ps) (entry.Merge q ∷ qs)

abbrev pub linked : {A : Type 0} → Comparison → A → Link A
linked o p = record { comparison = o; right = p }

pub data Links : List (Link meaning.Part) → List (Link walk.Part) → Type 0 where
  no_link : Links [] []
  link : {p : meaning.Part} {q : walk.Part} {ps : List (Link meaning.Part)} {qs : List (Link walk.Part)} (o : Comparison) → AsMeant p q → Links ps qs → Links (linked o p ∷ ps) (linked o q ∷ qs)

pub data Arguments : List (Argument meaning.Part) → List (Argument walk.Part) → Type 0 where
  no_argument : Arguments [] []
  plain : {p : meaning.Part} {q : walk.Part} {ps : List (Argument meaning.Part)} {qs : List (Argument walk.Part)} → AsMeant p q → Arguments ps qs → Arguments (argument.Plain p ∷ ps) (argument.Plain q ∷ qs)
  spread : {p : meaning.Part} {q : walk.Part} {ps : List (Argument meaning.Part)} {qs : List (Argument walk.Part)} → AsMeant p q → Arguments ps qs → Arguments (argument.Star p ∷ ps) (argument.Star q ∷ qs)
  keyword : {p : meaning.Part} {q : walk.Part} {ps : List (Argument meaning.Part)} {qs : List (Argument walk.Part)} (line : ℕ) (name : List ℕ) → AsMeant p q → Arguments ps qs
      → Arguments (argument.Keyword line name p ∷ ps) (argument.Keyword line name q ∷ qs)
  double : {p : meaning.Part} {q : walk.Part} {ps : List (Argument meaning.Part)} {qs : List (Argument walk.Part)} → AsMeant p q → Arguments ps qs → Arguments (argument.Merge p ∷ ps) (argument.Merge q ∷ qs)

-- Their nodes

abbrev pub values_at : Context → ℕ → syntax.Expressions → Out (List Carrier)
values_at c t xs = parts_out (nodes.values (homes_in c) t xs)

abbrev items_at : Context → ℕ → syntax.Items → Out (List displays.Item)
items_at c t xs = parts_out (nodes.items (homes_in c) t xs)

abbrev entries_at : Context → ℕ → syntax.Entries → Out (List displays.Entry)
entries_at c t xs = parts_out (nodes.entries (homes_in c) t xs)

abbrev pub links_at : Context → ℕ → syntax.Links → Out (List Linked)
links_at c t xs = parts_out (nodes.links (homes_in c) t xs)

abbrev arguments_at : Context → ℕ → syntax.Arguments → Out (List calls.Passed)
arguments_at c t xs = parts_out (nodes.arguments (homes_in c) t xs)

star_same : {ps : List (Item meaning.Part)} {qs : List (Item walk.Part)} → Items ps qs → list_any meaning.is_star ps ≡ list_any meaning.is_star qs
star_same no_item = refl
star_same (single g i) = star_same i
star_same (starred line g i) = refl

plain_same : {ps : List (Argument meaning.Part)} {qs : List (Argument walk.Part)} → Arguments ps qs → meaning.all_plain ps ≡ meaning.all_plain qs
plain_same no_argument = refl
plain_same (plain g i) = plain_same i
plain_same (spread g i) = refl
plain_same (keyword line name g i) = refl
plain_same (double g i) = refl

module _ (c : Context) where
  pub values_walked : {ps : List meaning.Part} {qs : List walk.Part} → Parts ps qs → As (values_at c) (meaning.values c ps) (walk.values c qs)
  values_walked no_part = nothing syntax.NoMore [] (λ t. refl)
  values_walked (part g i) = two syntax.More (λ p ps t. out (p ∷ ps) t) (λ t x y. refl) (g.value c) (values_walked i)

  pub operated_walked : {m : Making syntax.Expressions} {w : Walking (List Carrier)} (line : ℕ) (o : Op) → As (values_at c) m w → As (value_at c) (meaning.made (syntax.Operation line o) m) (walk.operated line o w)
  operated_walked line o a = one (syntax.Operation line o) (λ ps t. value_out (expressions.operate line o ps t)) (λ t x. refl) a

  pub maybe_walked : {p : Option meaning.Part} {q : Option walk.Part} → MayBe p q → As (value_at c) (meaning.maybe c p) (walk.maybe c q)
  maybe_walked absent = nothing meaning.none (walk.bare value.None) (λ t. refl)
  maybe_walked (present g) = g.value c

  -- Displays

  items_walked : {ps : List (Item meaning.Part)} {qs : List (Item walk.Part)} → Items ps qs → As (items_at c) (meaning.items c ps) (walk.items c qs)
  items_walked no_item = nothing syntax.NoItem [] (λ t. refl)
  items_walked (single g i) = two syntax.Single (λ p ps t. out (displays.One p ∷ ps) t) (λ t x y. refl) (g.value c) (items_walked i)
  items_walked (starred line g i) = two syntax.Spread (λ p ps t. out (displays.Star p ∷ ps) t) (λ t x y. refl) (g.value c) (items_walked i)

  -- without their stars
  inner_walked : {ps : List (Item meaning.Part)} {qs : List (Item walk.Part)} → Items ps qs → As (values_at c) (meaning.values c (map meaning.inner ps)) (made (map walk.item_part) (walk.items c qs))
  inner_walked no_item = nothing syntax.NoMore [] (λ t. refl)
  inner_walked (single g i) = two syntax.More (λ p ps t. out (p ∷ ps) t) (λ t x y. refl) (g.value c) (inner_walked i)
  inner_walked (starred line g i) = two syntax.More (λ p ps t. out (p ∷ ps) t) (λ t x y. refl) (g.value c) (inner_walked i)

  abbrev displayed_as : ℕ → Op → Bool → List (Item meaning.Part) → List (Item walk.Part) → Bool → Bool → Type 0
  displayed_as line o tuple ps qs b d =
      As (value_at c) (cond b (meaning.made (syntax.Starred line tuple) (meaning.items c ps)) (meaning.made (syntax.Operation line o) (meaning.values c (map meaning.inner ps))))
      (and_then (walk.items c qs) (λ xs. valued (walk.displayed line o tuple d xs)))

  either_display : {ps : List (Item meaning.Part)} {qs : List (Item walk.Part)} (line : ℕ) (o : Op) (tuple b : Bool) → Items ps qs → displayed_as line o tuple ps qs b b
  either_display line o tuple true i = one (syntax.Starred line tuple) (λ ps t. value_out (expressions.starred line tuple ps t)) (λ t x. refl) (items_walked i)
  either_display line o tuple false i = operated_walked line o (inner_walked i)

  pub display_walked : {ps : List (Item meaning.Part)} {qs : List (Item walk.Part)} (line : ℕ) (o : Op) (tuple : Bool) → Items ps qs
      → As (value_at c) ((meaning.display line o tuple ps).value c) (walk.listed c line o tuple qs)
  display_walked {ps} {qs} line o tuple i =
      subst (λ d. displayed_as line o tuple ps qs (list_any meaning.is_star ps) d) (star_same i) (either_display line o tuple (list_any meaning.is_star ps) i)

  entries_walked : {ps : List (Entry meaning.Part)} {qs : List (Entry walk.Part)} → Entries ps qs → As (entries_at c) (meaning.entries c ps) (walk.entries c qs)
  entries_walked no_entry = nothing syntax.NoEntry [] (λ t. refl)
  entries_walked (pair g h i) = three syntax.Pair (λ k p ps t. out (displays.Pair k p ∷ ps) t) (λ t x y z. refl) (g.value c) (h.value c) (entries_walked i)
  entries_walked (merged g i) = two syntax.Merge (λ p ps t. out (displays.Merge p ∷ ps) t) (λ t x y. refl) (g.value c) (entries_walked i)

  pub dict_walked : {ps : List (Entry meaning.Part)} {qs : List (Entry walk.Part)} (line : ℕ) → Entries ps qs → As (value_at c) (meaning.made (syntax.Dict line) (meaning.entries c ps)) (walk.dict c line qs)
  dict_walked line i = one (syntax.Dict line) (λ ps t. value_out (expressions.dict line ps t)) (λ t x. refl) (entries_walked i)

  -- Chains, behind their first operand

  pub links_walked : {p : meaning.Part} {q : walk.Part} {ps : List (Link meaning.Part)} {qs : List (Link walk.Part)} (o : Comparison) → AsMeant p q → Links ps qs
      → As (links_at c) (meaning.links c (linked o p) ps) (walk.links c (linked o q ∷ qs))
  links_walked {q = q} o g no_link =
      one (syntax.LastLink (meaning.comparison_op o) (meaning.is_negated o)) (λ r t. out (walk.linked (linked o q) r ∷ []) t) (λ t x. refl) (g.value c)
  links_walked {q = q} o g (link n h i) =
      two (syntax.Link (meaning.comparison_op o) (meaning.is_negated o)) (λ r rs t. out (walk.linked (linked o q) r ∷ rs) t) (λ t x y. refl) (g.value c) (links_walked n h i)

  -- Calls

  arguments_walked : {ps : List (Argument meaning.Part)} {qs : List (Argument walk.Part)} → Arguments ps qs → As (arguments_at c) (meaning.arguments c ps) (walk.arguments c qs)
  arguments_walked no_argument = nothing syntax.NoArgument [] (λ t. refl)
  arguments_walked (plain g i) = two syntax.Plain (λ p ps t. out (calls.Plain p ∷ ps) t) (λ t x y. refl) (g.value c) (arguments_walked i)
  arguments_walked (spread g i) = two syntax.Star (λ p ps t. out (calls.Star p ∷ ps) t) (λ t x y. refl) (g.value c) (arguments_walked i)
  arguments_walked (keyword line name g i) =
      let n = meaning.name_in c name in two (syntax.Keyword n) (λ p ps t. out (calls.Key n p ∷ ps) t) (λ t x y. refl) (g.value c) (arguments_walked i)
  arguments_walked (double g i) = two syntax.DoubleStar (λ p ps t. out (calls.Merge p ∷ ps) t) (λ t x y. refl) (g.value c) (arguments_walked i)

  positional_walked : {ps : List (Argument meaning.Part)} {qs : List (Argument walk.Part)} → Arguments ps qs → meaning.all_plain ps ≡ true
      → As (values_at c) (meaning.positional c ps) (made (map walk.passed_part) (walk.arguments c qs))
  positional_walked no_argument e = nothing syntax.NoMore [] (λ t. refl)
  positional_walked (plain g i) e = two syntax.More (λ p ps t. out (p ∷ ps) t) (λ t x y. refl) (g.value c) (positional_walked i e)
  positional_walked (spread g i) e = cc
  positional_walked (keyword line name g i) e = cc
  positional_walked (double g i) e = cc

  abbrev called_as : ℕ → meaning.Part → walk.Part → List (Argument meaning.Part) → List (Argument walk.Part) → Bool → Bool → Type 0
  called_as line p q ps qs b d =
      As (value_at c)
      (meaning.and_then (p.value c) (λ g. cond b (meaning.made (λ vs. syntax.Operation line op.Call (syntax.More g vs)) (meaning.positional c ps)) (meaning.made (syntax.Call line g) (meaning.arguments c ps))))
      (and_then (q.value c) (λ g. and_then (walk.arguments c qs) (λ xs. valued (walk.passed line g d xs))))

  either_call : {p : meaning.Part} {q : walk.Part} {ps : List (Argument meaning.Part)} {qs : List (Argument walk.Part)} (line : ℕ) (b : Bool) → AsMeant p q → Arguments ps qs
      → meaning.all_plain ps ≡ b → called_as line p q ps qs b b
  either_call line true g i e =
      two (λ f vs. syntax.Operation line op.Call (syntax.More f vs)) (λ f xs t. value_out (expressions.operate line op.Call (f ∷ xs) t)) (λ t x y. refl) (g.value c) (positional_walked i e)
  either_call line false g i e = two (syntax.Call line) (λ f xs t. value_out (expressions.call line f xs t)) (λ t x y. refl) (g.value c) (arguments_walked i)

  pub call_walked : {p : meaning.Part} {q : walk.Part} {ps : List (Argument meaning.Part)} {qs : List (Argument walk.Part)} (line : ℕ) → AsMeant p q → Arguments ps qs
      → As (value_at c) (meaning.call c line p ps) (walk.call c line q qs)
  call_walked {p} {q} {ps} {qs} line g i = subst (λ d. called_as line p q ps qs (meaning.all_plain ps) d) (plain_same i) (either_call line (meaning.all_plain ps) g i refl)
