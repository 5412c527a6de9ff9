-- When the parts of places carry those of targets, and clauses those of handlers.
use Rattle.std.specs.Prelude.{◌≡◌, ℕ, ◌<◌, ◌≤◌, List, [], ◌∷◌, Option, Some, None}
use Rattle.node_tree.specs.Blocks as tree
use Rattle.py_meaning.specs.Syntax as syntax
use Rattle.carries_base.specs.Frames.{Homes}
use Rattle.carries_base.specs.Carries.{CarriesBlock}
use Rattle.carries_base.specs.Laws.{Within}
use Rattle.carries_names.specs.Names.{HasPlace}
use Rattle.carries_values.specs.Parts.{CarriesPart, CarriesBeside}
use Rattle.carried_codes.specs.Seats.{seat}
use Rattle.carried_codes.specs.Nodes.{bound}
use Rattle.carried_codes.specs.Places.{Place, Name, Attribute, Index, Each, Starred, Places, NoPlace, Also}
use Rattle.carried_codes.specs.Clauses.{Clause, Bare, Class}
use Rattle.carried_codes.specs.Parts.{Named, Decorator}

-- they write temporaries from `low` to `high` alone; what stands in front of an index is kept over what stands in it
abbrev mutual
  pub CarriesParts : Homes → ℕ → ℕ → syntax.Target → Place → Type 0
  CarriesParts h low high (syntax.ToName line home) (Name at there) = (line ≡ at) × (seat h home ≡ there) × HasPlace h home
  CarriesParts h low high (syntax.ToAttribute line x name) (Attribute at p called) = (line ≡ at) × (name ≡ called) × CarriesPart h low high x p
  CarriesParts h low high (syntax.ToIndex line x y) (Index at p q) = (line ≡ at) × CarriesPart h low high x p × CarriesBeside h low high p.value y q
  CarriesParts h low high (syntax.ToEach line xs) (Each at ps) = (line ≡ at) × CarryParts h low high xs ps
  CarriesParts h low high (syntax.ToStarred line xs star ys) (Starred at ps p qs) =
      (line ≡ at) × CarryParts h low high xs ps × CarriesParts h low high star p × CarryParts h low high ys qs
  CarriesParts h low high x p = ⊥

  pub CarryParts : Homes → ℕ → ℕ → syntax.Targets → Places → Type 0
  CarryParts h low high syntax.NoTarget NoPlace = Unit {0}
  CarryParts h low high (syntax.AlsoTo x xs) (Also p ps) = CarriesParts h low high x p × CarryParts h low high xs ps
  CarryParts h low high xs ps = ⊥

-- what is deleted has no star
abbrev mutual
  pub MayDelete : syntax.Target → Type 0
  MayDelete (syntax.ToEach line xs) = MayDeleteAll xs
  MayDelete (syntax.ToStarred line xs star ys) = ⊥
  MayDelete syntax.ToNothing = ⊥
  MayDelete other = Unit {0}

  pub MayDeleteAll : syntax.Targets → Type 0
  MayDeleteAll syntax.NoTarget = Unit {0}
  MayDeleteAll (syntax.AlsoTo x xs) = MayDelete x × MayDeleteAll xs

-- what is read, and assigned to again, is one place
abbrev pub MayRead : syntax.Target → Type 0
MayRead (syntax.ToEach line xs) = ⊥
MayRead (syntax.ToStarred line xs star ys) = ⊥
MayRead syntax.ToNothing = ⊥
MayRead other = Unit {0}

-- the body of a clause, which finds its exception in a temporary in front of those that it writes
pub record CarriesCaughtBody (h : Homes) (low high caught : ℕ) (body : syntax.Block) (b : tree.Block) : Type 0 where
  pub from : ℕ
  pub to : ℕ
  pub within : Within low high from to
  pub above : low ≤ caught
  pub apart : caught < from
  pub carries : CarriesBlock h from to (Some caught) body b

abbrev pub NameHasPlace : Homes → Option syntax.Caught → Type 0
NameHasPlace h None = Unit {0}
NameHasPlace h (Some name) = HasPlace h name.home

abbrev pub CarryClauses : Homes → ℕ → ℕ → syntax.Handlers → List Clause → Type 0
CarryClauses h low high syntax.NoHandler [] = Unit {0}
CarryClauses h low high (syntax.Bare body) (Bare caught b ∷ []) = CarriesCaughtBody h low high caught body b
CarryClauses h low high (syntax.Handler line class name body hs) (Class at p caught called b ∷ cs) =
    (line ≡ at) × (bound h name ≡ called) × NameHasPlace h name × CarriesPart h low high class p × CarriesCaughtBody h low high caught body b × CarryClauses h low high hs cs
CarryClauses h low high hs cs = ⊥

-- defaults have the names of their keywords, and decorators their lines
abbrev pub SameNames : syntax.Keywords → List Named → Type 0
SameNames syntax.NoKeyword [] = Unit {0}
SameNames (syntax.Default name x ks) (n ∷ ns) = (name ≡ n.name) × SameNames ks ns
SameNames ks ns = ⊥

abbrev pub SameLines : List syntax.Decorator → List Decorator → Type 0
SameLines [] [] = Unit {0}
SameLines (d ∷ ds) (p ∷ ps) = (d.line ≡ p.line) × SameLines ds ps
SameLines ds ps = ⊥
