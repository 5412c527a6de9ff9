-- Statements, from what their parts become.
use Rattle.std.proofs.Common.{◌≡◌, ◌≢◌, ◌↔◌, Bool, false, IsTrue, ℕ, suc, ◌≤◌, List, [], ◌∷◌, ◌++◌, map, length, Option, Some, None, refl, sym, ap, ◌∙◌, subst, arith, append_assoc, append-nil}
use Rattle.std.proofs.lemmas.Bool.{false≢true}
use Rattle.py_ast.specs.declared.expr.Expr.{Expr}
use Rattle.py_ast.specs.declared.stmt.Branch.{Branch}
use Rattle.py_ast.specs.declared.stmt.Stmt.{Stmt}
use Rattle.node_tree.specs.declared.node.Node.{Node, Leave}
use Rattle.node_tree.specs.Tree.{block}
use Rattle.node_tree.proofs.Direct.{append_stop}
use Rattle.py_scopes.specs.Parts.{branch_of}
use Rattle.py_meaning.specs.Syntax as syntax
use Rattle.py_meaning.specs.Resolved as meaning
use Rattle.carries_base.specs.Frames.{Homes, behind}
use Rattle.carries_base.specs.Carries.{CarriesExpression, CarriesStatement, CarriesBlock}
use Rattle.carries_base.specs.Laws.{Within}
use Rattle.carries_base.proofs.Statements.{done_carried, pass_carried, evaluate_carried, leave_carried}
use Rattle.reform_base.specs.declared.Part.{Part}
use Rattle.reform_all.specs.declared.choices.Choice.{Choice}
use Rattle.reform_all.specs.Built as built
use Rattle.reform_all.specs.declared.ending.ReformEnd.{ReformEnd}
use Rattle.reform_all.specs.declared.ending.ReformEnd.TheVariants as end
use Rattle.reform_all.specs.Expressions.{Fails, IsExpressed}
use Rattle.reform_all.specs.Assignments.{Becomes}
use Rattle.reform_all.specs.Choices.{Arm, chain, CarriesArms, CarriesChain, Chained}
use Rattle.reform_all.specs.Quiet.{Quiet, AllQuiet}
use Rattle.reform_all.proofs.Quiets.{quiet_append, quiet_nil}
use Rattle.reform_all.specs.Statements.{BlockBecomes, BranchesBecome}
use Rattle.reform_all.proofs.Making.{made_is, two_is, three_is}
use Rattle.reform_all.proofs.Blocks.{more_value, more_row, nodes_carried}

-- an expression as a statement
pub evaluates : (names : List (List ℕ)) (x : Expr) (old new : ℕ) (p : Part) → IsExpressed names x old new p → Becomes ((built.expr x).unbuilt names) (λ c. meaning.made syntax.Evaluate ((meaning.expr x).value c)) old new p.block
evaluates names x old new p e = record {
  built = e.built;
  grows = e.grows;
  means = λ c m. syntax.Evaluate (e.means c m);
  is = λ c m. made_is (λ a. syntax.Evaluate a) _ _ (e.is c m);
  carries = λ c m h low caught st le.
      subst (λ d. CarriesStatement h low new caught (syntax.Evaluate (e.means c m)) d) (append_stop (block p.block))
      (evaluate_carried h low new caught (e.means c m) (block p.block) p.value (e.carries c m h low st le));
  quiet = record { taken = e.taken; yields = e.yields };
}

pub passes : (old : ℕ) (nodes : List Node) → nodes ≡ [] → Becomes None (λ c. meaning.pure syntax.Pass) old old nodes
passes old nodes e = record {
  built = refl;
  grows = omega arith;
  means = λ c m. syntax.Pass;
  is = λ c m next. refl;
  carries = λ c m h low caught st le. subst (λ l. CarriesStatement h low old caught syntax.Pass (block l)) (sym e) (pass_carried h low old caught st le);
  quiet = subst (λ l. Quiet l) (sym e) quiet_nil;
}

pub breaks : (old : ℕ) (nodes : List Node) → nodes ≡ Leave 2 ∷ [] → Becomes None (λ c. meaning.pure syntax.Break) old old nodes
breaks old nodes e = record {
  built = refl;
  grows = omega arith;
  means = λ c m. syntax.Break;
  is = λ c m next. refl;
  carries = λ c m h low caught st le.
      subst (λ l. CarriesStatement h low old caught syntax.Break (block l)) (sym e)
      (more_row h low low old caught _ _ le (leave_carried h low 1 caught syntax.Break st (omega arith) (λ l handled. refl)));
  quiet = subst (λ l. Quiet l) (sym e) (record { taken = refl; yields = refl });
}

pub continues : (old : ℕ) (nodes : List Node) → nodes ≡ Leave 1 ∷ [] → Becomes None (λ c. meaning.pure syntax.Continue) old old nodes
continues old nodes e = record {
  built = refl;
  grows = omega arith;
  means = λ c m. syntax.Continue;
  is = λ c m next. refl;
  carries = λ c m h low caught st le.
      subst (λ l. CarriesStatement h low old caught syntax.Continue (block l)) (sym e)
      (more_row h low low old caught _ _ le (leave_carried h low 0 caught syntax.Continue st (omega arith) (λ l handled. refl)));
  quiet = subst (λ l. Quiet l) (sym e) (record { taken = refl; yields = refl });
}

abbrev pub unbuilt_in : List (List ℕ) → List Stmt → Option ℕ
unbuilt_in names ss = built.all_unbuilt (map built.stmt ss) names

-- statements that become nodes
abbrev pub AllBecome : List (List ℕ) → List Stmt → ℕ → ℕ → List Node → Type 0
AllBecome names ss = BlockBecomes (unbuilt_in names ss) (λ c. meaning.block c (map meaning.stmt ss))

pub quiet_of : (names : List (List ℕ)) (ss : List Stmt) (old new : ℕ) (nodes : List Node) → AllBecome names ss old new nodes → Quiet nodes
quiet_of names ss old new nodes x = record { taken = x.taken; yields = x.yields }

pub none_become : (names : List (List ℕ)) (old : ℕ) → AllBecome names [] old old []
none_become names old = record {
  built = refl;
  grows = omega arith;
  means = λ c m. syntax.Done;
  is = λ c m next. refl;
  carries = λ c m h low caught st le. done_carried h low old caught st le;
  taken = refl;
  yields = refl;
}

pub more_become : (names : List (List ℕ)) (s : Stmt) (ss : List Stmt) (old mid new : ℕ) (a b : List Node) → Becomes ((built.stmt s).unbuilt names) (meaning.stmt s) old mid a → AllBecome names ss mid new b → AllBecome names (s ∷ ss) old new (a ++ b)
more_become names s ss old mid new a b x rest =
    let l₁ : old ≤ mid = x.grows in
    let l₂ : mid ≤ new = rest.grows in
    record {
      built = ap (λ u. built.before u (unbuilt_in names ss)) x.built ∙ rest.built;
      grows = omega arith;
      means = λ c m. syntax.Then (x.means c m) (rest.means c m);
      is = λ c m. two_is (λ a b. syntax.Then a b) _ _ _ _ (x.is c m) (rest.is c m);
      carries = λ c m h low caught st le.
          nodes_carried h low mid new caught (x.means c m) (rest.means c m) a b (x.carries c m h low caught st le) (rest.carries c m h mid caught (omega arith) (omega arith));
      taken = (quiet_append a b x.quiet (quiet_of names ss mid new b rest)).taken;
      yields = (quiet_append a b x.quiet (quiet_of names ss mid new b rest)).yields;
    }

-- the statements so far, and those that are left
pub record Goes (names : List (List ℕ)) (ss rest : List Stmt) (old now : ℕ) (nodes : List Node) : Type 0 where
  pub built : unbuilt_in names ss ≡ unbuilt_in names rest
  pub goes_on : (new : ℕ) (more : List Node) → AllBecome names rest now new more → AllBecome names ss old new (nodes ++ more)

pub goes_begin : (names : List (List ℕ)) (ss : List Stmt) (old : ℕ) → Goes names ss ss old old []
goes_begin names ss old = record { built = refl; goes_on = λ new more x. x }

pub goes_next : (names : List (List ℕ)) (ss : List Stmt) (s : Stmt) (rest : List Stmt) (old now mid : ℕ) (nodes a : List Node) → Goes names ss (s ∷ rest) old now nodes → Becomes ((built.stmt s).unbuilt names) (meaning.stmt s) now mid a → Goes names ss rest old mid (nodes ++ a)
goes_next names ss s rest old now mid nodes a g x = record {
  built = g.built ∙ ap (λ u. built.before u (unbuilt_in names rest)) x.built;
  goes_on = λ new more y. subst (λ l. AllBecome names ss old new l) (sym (append_assoc nodes a more)) (g.goes_on new (a ++ more) (more_become names s rest now mid new a more x y));
}

pub goes_end : (names : List (List ℕ)) (ss : List Stmt) (old now : ℕ) (nodes : List Node) → Goes names ss [] old now nodes → AllBecome names ss old now nodes
goes_end names ss old now nodes g = subst (λ l. AllBecome names ss old now l) (append-nil nodes) (g.goes_on now [] (none_become names now))

-- Branches

abbrev pub unbuilt_before_else : List (List ℕ) → List (Branch Stmt) → Option ℕ
unbuilt_before_else names bs = built.branches_unbuilt (map (branch_of built.stmt) bs) [] names

pub before_assoc : (a b c : Option ℕ) → built.before a (built.before b c) ≡ built.before (built.before a b) c
before_assoc (Some line) b c = refl
before_assoc None b c = refl

pub with_else : (names : List (List ℕ)) (bs : List (Branch Stmt)) (other : List Stmt) → built.branches_unbuilt (map (branch_of built.stmt) bs) (map built.stmt other) names ≡ built.before (unbuilt_before_else names bs) (unbuilt_in names other)
with_else names [] other = refl
with_else names (b ∷ bs) other =
    ap (λ u. built.before ((built.expr b.test).unbuilt names) (built.before (unbuilt_in names b.body) u)) (with_else names bs other)
    ∙ ap (λ u. built.before ((built.expr b.test).unbuilt names) u) (before_assoc (unbuilt_in names b.body) _ _)
    ∙ before_assoc ((built.expr b.test).unbuilt names) _ _

pub no_branch : (names : List (List ℕ)) (old : ℕ) → BranchesBecome names [] old old []
no_branch names old = record {
  built = refl;
  grows = omega arith;
  means = λ c m. [];
  count = λ c m. refl;
  is = λ c m other o e. e;
  carries = λ c m h low caught st le. tt;
  quiet = tt;
}

more_arms : (h : Homes) (low mid high : ℕ) (caught : Option ℕ) (arms : List Arm) (ps : List Choice) → mid ≤ high → CarriesArms h low mid caught arms ps → CarriesArms h low high caught arms ps
more_arms h low mid high caught [] [] le c = tt
more_arms h low mid high caught [] (p ∷ ps) le c = absurd c
more_arms h low mid high caught (a ∷ arms) [] le c = absurd c
more_arms h low mid high caught (a ∷ arms) (p ∷ ps) le c = (
  record { line = c.0.line; test = more_value h low mid high _ _ _ le c.0.test; body = more_row h low mid high caught _ _ le c.0.body },
  more_arms h low mid high caught arms ps le c.1,
)

pub more_branches : (names : List (List ℕ)) (b : Branch Stmt) (bs : List (Branch Stmt)) (old mid now new : ℕ) (p : Choice) (ps : List Choice) → b.line ≡ p.line → IsExpressed names b.test old mid p.test → AllBecome names b.body mid now p.body → BranchesBecome names bs now new ps → BranchesBecome names (b ∷ bs) old new (p ∷ ps)
more_branches names b bs old mid now new p ps el e x rest =
    let l₁ : old ≤ mid = e.grows in
    let l₂ : mid ≤ now = x.grows in
    let l₃ : now ≤ new = rest.grows in
    record {
      built = ap (λ u. built.before u (built.before (unbuilt_in names b.body) (unbuilt_before_else names bs))) e.built ∙ ap (λ u. built.before u (unbuilt_before_else names bs)) x.built ∙ rest.built;
      grows = omega arith;
      means = λ c m. (record { line = b.line; test = e.means c m; body = x.means c m }) ∷ rest.means c m;
      count = λ c m. ap (λ n. suc n) (rest.count c m);
      is = λ c m other o eo. three_is (λ t u v. meaning.alone (syntax.If b.line t u v)) _ _ _ _ _ _ (e.is c m) (x.is c m) (rest.is c m other o eo);
      carries = λ c m h low caught st le. (
        record {
          line = el;
          test = more_value h low mid new _ _ _ (omega arith) (e.carries c m h low st le);
          body = more_row h low now new caught _ _ l₃ (x.carries c m h low caught st (omega arith));
        },
        rest.carries c m h low caught st (omega arith),
      );
      quiet = ((record { taken = e.taken; yields = e.yields }, quiet_of names b.body mid now p.body x), rest.quiet);
    }

-- the branches so far, and those that are left
pub record Choosing (names : List (List ℕ)) (bs rest : List (Branch Stmt)) (old now : ℕ) (ps : List Choice) : Type 0 where
  pub built : unbuilt_before_else names bs ≡ unbuilt_before_else names rest
  pub goes_on : (new : ℕ) (more : List Choice) → BranchesBecome names rest now new more → BranchesBecome names bs old new (ps ++ more)

pub choosing_begin : (names : List (List ℕ)) (bs : List (Branch Stmt)) (old : ℕ) → Choosing names bs bs old old []
choosing_begin names bs old = record { built = refl; goes_on = λ new more x. x }

choices_assoc : (xs : List Choice) (p : Choice) (ys : List Choice) → (xs ++ p ∷ []) ++ ys ≡ xs ++ p ∷ ys
choices_assoc [] p ys = refl
choices_assoc (x ∷ xs) p ys = ap (λ l. x ∷ l) (choices_assoc xs p ys)

choices_nil : (xs : List Choice) → xs ++ [] ≡ xs
choices_nil [] = refl
choices_nil (x ∷ xs) = ap (λ l. x ∷ l) (choices_nil xs)

pub choosing_next : (names : List (List ℕ)) (bs : List (Branch Stmt)) (b : Branch Stmt) (rest : List (Branch Stmt)) (old now mid new : ℕ) (ps : List Choice) (p : Choice) → b.line ≡ p.line → Choosing names bs (b ∷ rest) old now ps → IsExpressed names b.test now mid p.test → AllBecome names b.body mid new p.body → Choosing names bs rest old new (ps ++ p ∷ [])
choosing_next names bs b rest old now mid new ps p el g e x = record {
  built = g.built ∙ ap (λ u. built.before u (built.before (unbuilt_in names b.body) (unbuilt_before_else names rest))) e.built ∙ ap (λ u. built.before u (unbuilt_before_else names rest)) x.built;
  goes_on = λ top more y. subst (λ l. BranchesBecome names bs old top l) (sym (choices_assoc ps p more)) (g.goes_on top (p ∷ more) (more_branches names b rest now mid new top p more el e x y));
}

-- what fails for one reason fails for another
pub fails_by : (u v : Option ℕ) (e : ReformEnd) → ((line : ℕ) → u ≡ Some line → v ≡ Some line) → Fails u e → Fails v e
fails_by u v (end.Unbuilt line) f x = f line x
fails_by u v end.Memory f x = tt

-- where a statement is not built
pub block_fails : (names : List (List ℕ)) (ss : List Stmt) (s : Stmt) (left : List Stmt) (old now : ℕ) (nodes : List Node) (e : ReformEnd) → Goes names ss (s ∷ left) old now nodes → Fails ((built.stmt s).unbuilt names) e → Fails (unbuilt_in names ss) e
block_fails names ss s left old now nodes e g x = fails_by _ _ e (λ line f. g.built ∙ ap (λ u. built.before u (unbuilt_in names left)) f) x

-- where the test or a statement of a branch is not built
pub test_fails : (names : List (List ℕ)) (bs : List (Branch Stmt)) (b : Branch Stmt) (rest : List (Branch Stmt)) (old now : ℕ) (ps : List Choice) (e : ReformEnd) → Choosing names bs (b ∷ rest) old now ps → Fails ((built.expr b.test).unbuilt names) e → Fails (unbuilt_before_else names bs) e
test_fails names bs b rest old now ps e g x =
    fails_by _ _ e (λ line f. g.built ∙ ap (λ u. built.before u (built.before (unbuilt_in names b.body) (unbuilt_before_else names rest))) f) x

pub body_fails : (names : List (List ℕ)) (bs : List (Branch Stmt)) (b : Branch Stmt) (rest : List (Branch Stmt)) (s : Stmt) (left : List Stmt) (old start mid now : ℕ) (ps : List Choice) (test : Part) (nodes : List Node) (e : ReformEnd) → Choosing names bs (b ∷ rest) old start ps → IsExpressed names b.test start mid test → Goes names b.body (s ∷ left) mid now nodes → Fails ((built.stmt s).unbuilt names) e → Fails (unbuilt_before_else names bs) e
body_fails names bs b rest s left old start mid now ps test nodes e i t g x =
    fails_by _ _ e (λ line f.
    i.built
    ∙ ap (λ u. built.before u (built.before (unbuilt_in names b.body) (unbuilt_before_else names rest))) t.built
    ∙ ap (λ u. built.before u (unbuilt_before_else names rest)) (g.built ∙ ap (λ u. built.before u (unbuilt_in names left)) f)) x

-- where the branches or the `else` of an `if` statement are not built
pub branches_fail : (names : List (List ℕ)) (line : ℕ) (bs : List (Branch Stmt)) (other : List Stmt) (e : ReformEnd) → bs ≢ [] → Fails (unbuilt_before_else names bs) e → Fails (built.branching line (map (branch_of built.stmt) bs) (map built.stmt other) names) e
branches_fail names line [] other e some x = absurd (some refl)
branches_fail names line (b ∷ bs) other e some x =
    fails_by _ _ e (λ at f. with_else names (b ∷ bs) other ∙ ap (λ u. built.before u (unbuilt_in names other)) f) x

pub else_fails : (names : List (List ℕ)) (line : ℕ) (bs : List (Branch Stmt)) (other : List Stmt) (old mid : ℕ) (ps : List Choice) (e : ReformEnd) → bs ≢ [] → BranchesBecome names bs old mid ps → Fails (unbuilt_in names other) e → Fails (built.branching line (map (branch_of built.stmt) bs) (map built.stmt other) names) e
else_fails names line [] other old mid ps e some b x = absurd (some refl)
else_fails names line (b ∷ bs) other old mid ps e some y x =
    fails_by _ _ e (λ at f. with_else names (b ∷ bs) other ∙ ap (λ u. built.before u (unbuilt_in names other)) y.built ∙ f) x

-- where the `else` of a loop is not built
pub loop_else_fails : (names : List (List ℕ)) (test : Expr) (body other : List Stmt) (old a b : ℕ) (p : Part) (bs : List Node) (e : ReformEnd) → IsExpressed names test old a p → AllBecome names body a b bs → Fails (unbuilt_in names other) e → Fails (built.before ((built.expr test).unbuilt names) (built.before (unbuilt_in names body) (unbuilt_in names other))) e
loop_else_fails names test body other old a b p bs e x y f =
    fails_by _ _ e (λ line u.
    ap (λ v. built.before v (built.before (unbuilt_in names body) (unbuilt_in names other))) x.built
    ∙ ap (λ v. built.before v (unbuilt_in names other)) y.built ∙ u) f

pub choosing_end : (names : List (List ℕ)) (bs : List (Branch Stmt)) (old now : ℕ) (ps : List Choice) → Choosing names bs [] old now ps → BranchesBecome names bs old now ps
choosing_end names bs old now ps g = subst (λ l. BranchesBecome names bs old now l) (choices_nil ps) (g.goes_on now [] (no_branch names now))

-- a chain that begins with a branch is one statement
first_carried : (h : Homes) (low new : ℕ) (caught : Option ℕ) (n : ℕ) (arms : List Arm) (o : syntax.Block) (nodes : List Node) → length arms ≡ suc n → CarriesChain h low new caught arms o nodes → CarriesStatement h low new caught (meaning.first_of (chain arms o)) (block nodes)
first_carried h low new caught n [] o nodes e c = absurd (omega (arith, e))
first_carried h low new caught n (a ∷ arms) o nodes e c = c

pub not_empty : (b : Bool) (bs : List (Branch Stmt)) → (IsTrue b ↔ (bs ≡ [])) → b ≡ false → bs ≢ []
not_empty b bs i e some = absurd (false≢true (sym e ∙ i.1 some))

pub chooses : (names : List (List ℕ)) (line : ℕ) (bs : List (Branch Stmt)) (other : List Stmt) (old mid now new : ℕ) (ps : List Choice) (os nodes : List Node) → bs ≢ [] → BranchesBecome names bs old mid ps → AllBecome names other mid now os → now ≤ new → Chained ps now new os nodes → (AllQuiet ps → Quiet os → Quiet nodes) → Becomes (built.branching line (map (branch_of built.stmt) bs) (map built.stmt other) names) (λ c. meaning.made meaning.first_of (meaning.branches c (map (branch_of meaning.stmt) bs) (meaning.block c (map meaning.stmt other)))) old new nodes
chooses names line [] other old mid now new ps os nodes some x y le k q = absurd (some refl)
chooses names line (b ∷ bs) other old mid now new ps os nodes some x y le k q =
    let l₁ : old ≤ mid = x.grows in
    let l₂ : mid ≤ now = y.grows in
    record {
      built = with_else names (b ∷ bs) other ∙ ap (λ u. built.before u (unbuilt_in names other)) x.built ∙ y.built;
      grows = omega arith;
      means = λ c m. meaning.first_of (chain (x.means c m) (y.means c m));
      is = λ c m. made_is (λ a. meaning.first_of a) _ _ (x.is c m _ _ (y.is c m));
      carries = λ c m h low caught st below.
          first_carried h low new caught (length bs) (x.means c m) (y.means c m) nodes (x.count c m)
          (k h low caught (x.means c m) (y.means c m) st (omega arith) (more_arms h low mid now caught (x.means c m) ps l₂ (x.carries c m h low caught st below)) (y.carries c m h low caught st (omega arith)));
      quiet = q x.quiet (quiet_of names other mid now os y);
    }

pub repeats : (names : List (List ℕ)) (line : ℕ) (test : Expr) (body other : List Stmt) (old a b c new : ℕ) (p : Part) (bs os nodes : List Node) → IsExpressed names test old a p → AllBecome names body a b bs → AllBecome names other b c os → c ≤ new → ((h : Homes) (low tl th bl bh ol oh : ℕ) (caught : Option ℕ) (x : syntax.Expression) (y z : syntax.Block) → behind h ≤ low → Within low c tl th → Within low c bl bh → Within low c ol oh → CarriesExpression h tl th x (block p.block) p.value → CarriesBlock h bl bh caught y (block bs) → CarriesBlock h ol oh caught z (block os) → CarriesStatement h low new caught (syntax.While line x y z) (block nodes)) → (Quiet p.block → Quiet bs → Quiet os → Quiet nodes) → Becomes (built.before ((built.expr test).unbuilt names) (built.before (unbuilt_in names body) (unbuilt_in names other))) (λ c. meaning.and_then ((meaning.expr test).value c) (λ t. meaning.and_then (meaning.block c (map meaning.stmt body)) (λ u. meaning.made (syntax.While line t u) (meaning.block c (map meaning.stmt other))))) old new nodes
repeats names line test body other old a b d new p bs os nodes e x y le k q =
    let l₁ : old ≤ a = e.grows in
    let l₂ : a ≤ b = x.grows in
    let l₃ : b ≤ d = y.grows in
    record {
      built = ap (λ u. built.before u (built.before (unbuilt_in names body) (unbuilt_in names other))) e.built ∙ ap (λ u. built.before u (unbuilt_in names other)) x.built ∙ y.built;
      grows = omega arith;
      means = λ c m. syntax.While line (e.means c m) (x.means c m) (y.means c m);
      is = λ c m. three_is (λ t u v. syntax.While line t u v) _ _ _ _ _ _ (e.is c m) (x.is c m) (y.is c m);
      carries = λ c m h low caught st below.
          k h low low a low b low d caught (e.means c m) (x.means c m) (y.means c m) st (omega arith, omega arith) (omega arith, omega arith) (omega arith, omega arith)
          (e.carries c m h low st below) (x.carries c m h low caught st (omega arith)) (y.carries c m h low caught st (omega arith));
      quiet = q (record { taken = e.taken; yields = e.yields }) (quiet_of names body a b bs x) (quiet_of names other b d os y);
    }
