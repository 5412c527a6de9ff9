-- A chain of branches is carried, from the last on.
use Rattle.std.proofs.Common.{◌≡◌, ℕ, ◌≤◌, List, [], ◌∷◌, ◌++◌, Option, refl, sym, ap, ◌∙◌, subst, arith}
use Rattle.node_tree.specs.declared.node.Node.{Node}
use Rattle.node_tree.specs.Tree.{block}
use Rattle.py_meaning.specs.Syntax as syntax
use Rattle.carries_base.specs.Frames.{Homes, behind}
use Rattle.carries_base.specs.Carries.{CarriesExpression, CarriesStatement, CarriesBlock}
use Rattle.carries_base.specs.Laws.{Within}
use Rattle.reform_all.specs.declared.choices.Choice.{Choice}
use Rattle.reform_all.specs.Choices.{Arm, chain, CarriesArm, CarriesArms, CarriesChain, Chained}
use Rattle.reform_all.specs.Quiet.{Quiet, AllQuiet}
use Rattle.reform_all.proofs.Blocks.{alone_carried}

chain_block : (h : Homes) (low high : ℕ) (caught : Option ℕ) (arms : List Arm) (o : syntax.Block) (nodes : List Node) → CarriesChain h low high caught arms o nodes → CarriesBlock h low high caught (chain arms o) (block nodes)
chain_block h low high caught [] o nodes c = c
chain_block h low high caught (a ∷ arms) o nodes c = alone_carried h low high caught (syntax.If a.line a.test a.body (chain arms o)) (block nodes) c

-- the last branch, and those before it
pub record Last (h : Homes) (low high : ℕ) (caught : Option ℕ) (arms : List Arm) (ps : List Choice) (p : Choice) : Type 0 where
  pub before : List Arm
  pub last : Arm
  pub is : arms ≡ before ++ last ∷ []
  pub carries : CarriesArms h low high caught before ps
  pub carries_last : CarriesArm h low high caught last p

last_of : (h : Homes) (low high : ℕ) (caught : Option ℕ) (arms : List Arm) (ps : List Choice) (p : Choice) → CarriesArms h low high caught arms (ps ++ p ∷ []) → Last h low high caught arms ps p
last_of h low high caught [] [] p c = absurd c
last_of h low high caught (a ∷ []) [] p c = record { before = []; last = a; is = refl; carries = tt; carries_last = c.0 }
last_of h low high caught (a ∷ b ∷ arms) [] p c = absurd c.1
last_of h low high caught [] (q ∷ ps) p c = absurd c
last_of h low high caught (a ∷ arms) (q ∷ ps) p c =
    let l = last_of h low high caught arms ps p c.1 in
    record { before = a ∷ l.before; last = l.last; is = ap (λ xs. a ∷ xs) l.is; carries = (c.0, l.carries); carries_last = l.carries_last }

-- the chain of the last branches is carried; the others are left
pub record Chaining (h : Homes) (low old now : ℕ) (caught : Option ℕ) (arms : List Arm) (o : syntax.Block) (left : List Choice) (nodes : List Node) : Type 0 where
  pub front : List Arm
  pub back : List Arm
  pub is : arms ≡ front ++ back
  pub carries_left : CarriesArms h low old caught front left
  pub carries_chain : CarriesChain h low now caught back o nodes

abbrev pub Chains : List Choice → ℕ → ℕ → List Node → List Choice → List Node → Type 0
Chains ps old now other left nodes =
    (h : Homes) (low : ℕ) (caught : Option ℕ) (arms : List Arm) (o : syntax.Block) → behind h ≤ low → low ≤ old → CarriesArms h low old caught arms ps → CarriesBlock h low old caught o (block other) → Chaining h low old now caught arms o left nodes

arms_nil : (xs : List Arm) → xs ≡ xs ++ []
arms_nil [] = refl
arms_nil (x ∷ xs) = ap (λ l. x ∷ l) (arms_nil xs)

arms_assoc : (xs : List Arm) (a : Arm) (ys : List Arm) → (xs ++ a ∷ []) ++ ys ≡ xs ++ a ∷ ys
arms_assoc [] a ys = refl
arms_assoc (x ∷ xs) a ys = ap (λ l. x ∷ l) (arms_assoc xs a ys)

pub chains_begin : (ps : List Choice) (old : ℕ) (other : List Node) → Chains ps old old other ps other
chains_begin ps old other h low caught arms o st le c co = record { front = arms; back = []; is = arms_nil arms; carries_left = c; carries_chain = co }

-- what a branch does
abbrev pub Branches : Choice → ℕ → ℕ → List Node → List Node → Type 0
Branches p now new other nodes =
    (h : Homes) (low tl th bl bh ol oh : ℕ) (caught : Option ℕ) (x : syntax.Expression) (y z : syntax.Block) → behind h ≤ low → Within low now tl th → Within low now bl bh → Within low now ol oh → CarriesExpression h tl th x (block p.test.block) p.test.value → CarriesBlock h bl bh caught y (block p.body) → CarriesBlock h ol oh caught z (block other) → CarriesStatement h low new caught (syntax.If p.line x y z) (block nodes)

pub chains_next : (ps left less : List Choice) (p : Choice) (old now new : ℕ) (other nodes more : List Node) → left ≡ less ++ p ∷ [] → old ≤ now → Branches p now new nodes more → Chains ps old now other left nodes → Chains ps old new other less more
chains_next ps left less p old now new other nodes more el le b k h low caught arms o st below c co =
    let s = k h low caught arms o st below c co in
    let l = last_of h low old caught s.front less p (subst (λ q. CarriesArms h low old caught s.front q) el s.carries_left) in
    record {
      front = l.before;
      back = l.last ∷ s.back;
      is = s.is ∙ ap (λ xs. xs ++ s.back) l.is ∙ arms_assoc l.before l.last s.back;
      carries_left = l.carries;
      carries_chain = subst (λ line. CarriesStatement h low new caught (syntax.If line l.last.test l.last.body (chain s.back o)) (block more)) (sym l.carries_last.line)
          (b h low low old low old low now caught l.last.test l.last.body (chain s.back o) st (omega arith, le) (omega arith, le) (omega arith, omega arith) l.carries_last.test l.carries_last.body (chain_block h low now caught s.back o nodes s.carries_chain));
    }

chain_end : (h : Homes) (low old now : ℕ) (caught : Option ℕ) (arms before behind : List Arm) (o : syntax.Block) (nodes : List Node) → arms ≡ before ++ behind → CarriesArms h low old caught before [] → CarriesChain h low now caught behind o nodes → CarriesChain h low now caught arms o nodes
chain_end h low old now caught arms [] behind o nodes e c x = subst (λ xs. CarriesChain h low now caught xs o nodes) (sym e) x
chain_end h low old now caught arms (a ∷ before) behind o nodes e c x = absurd c

pub chains_end : (ps left : List Choice) (old now : ℕ) (other nodes : List Node) → left ≡ [] → Chains ps old now other left nodes → Chained ps old now other nodes
chains_end ps left old now other nodes el k h low caught arms o st le c co =
    let s = k h low caught arms o st le c co in
    chain_end h low old now caught arms s.front s.back o nodes s.is (subst (λ q. CarriesArms h low old caught s.front q) el s.carries_left) s.carries_chain

pub last_quiet : (ps : List Choice) (p : Choice) → AllQuiet (ps ++ p ∷ []) → AllQuiet ps × (Quiet p.test.block × Quiet p.body)
last_quiet [] p x = (tt, x.0)
last_quiet (q ∷ ps) p x = let l = last_quiet ps p x.1 in ((x.0, l.0), l.1)
