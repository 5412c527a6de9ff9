-- A set of names that gains some, one part behind the other.
use Rattle.std.proofs.Common.{◌≡◌, ◌||◌, ℕ, Bool, true, false, cond, List, [], ◌∷◌, ◌++◌, map, refl, ap, ◌∙◌, sym, append_assoc}
use Rattle.std.proofs.lemmas.List.Folds.{list_any-append}
use Rattle.std.specs.Str.{bytes_eq}
use Rattle.py_ast.specs.declared.expr.Expr.{Expr, fold-roll-Expr}
use Rattle.py_ast.specs.declared.expr.Expr.TheOpen.{Expr-F}
use Rattle.py_ast.specs.declared.expr.Expr.TheVariants as e
use Rattle.py_ast.specs.declared.expr.Expr.TheVariants.{rolls-Name}
use Rattle.py_ast.specs.declared.stmt.Branch.{Branch}
use Rattle.py_ast.specs.declared.stmt.Stmt.{Stmt, fold-roll-Stmt}
use Rattle.py_ast.specs.declared.stmt.Stmt.TheOpen.{Stmt-F}
use Rattle.py_ast.specs.declared.stmt.Stmt.TheVariants as st
use Rattle.py_ast.specs.declared.stmt.Stmt.TheVariants.{rolls-If, rolls-While}
use Rattle.nu_text.specs.Names.{is_among}
use Rattle.py_scopes.specs.Parts.{branch_of}
use Rattle.reform_all.specs.declared.bound.Bound.{Bound}
use Rattle.reform_all.specs.Built.{Expression, Statement, expr_row, stmt, stmt_row, name_of, bound_by, all_binds, branches_bind}
use Rattle.reform_all.specs.Names.{has, Gains}

or_false : (a : Bool) → (a || false) ≡ a
or_false true = refl
or_false false = refl

or_assoc : (a b c : Bool) → ((a || b) || c) ≡ (a || (b || c))
or_assoc true b c = refl
or_assoc false b c = refl

pub nothing : (b : Bound) → Gains b b []
nothing b x = sym (or_false (has b x))

-- the set with the names that are to come is the set from before with all of them
abbrev pub Ahead : Bound → Bound → List (List ℕ) → List (List ℕ) → Type 0
Ahead old now all more = (x : List ℕ) → (has now x || is_among more x) ≡ (has old x || is_among all x)

-- two parts
pub both : (a b c : Bound) (xs ys : List (List ℕ)) → Gains a b xs → Gains b c ys → Gains a c (xs ++ ys)
both a b c xs ys g h x =
    h x ∙ ap (λ o. o || is_among ys x) (g x) ∙ or_assoc (has a x) (is_among xs x) (is_among ys x)
    ∙ ap (λ o. has a x || o) (sym (list_any-append (λ entry. bytes_eq entry x) xs ys))

-- a further part
pub further : (a b c : Bound) (all xs more : List (List ℕ)) → Ahead a b all (xs ++ more) → Gains b c xs → Ahead a c all more
further a b c all xs more h g x =
    ap (λ o. o || is_among more x) (g x) ∙ or_assoc (has b x) (is_among xs x) (is_among more x)
    ∙ ap (λ o. has b x || o) (sym (list_any-append (λ entry. bytes_eq entry x) xs more)) ∙ h x

-- all parts
pub whole : (a b : Bound) (all : List (List ℕ)) → Ahead a b all [] → Gains a b all
whole a b all h x = sym (or_false (has b x)) ∙ h x

-- the names that branches bind stand before those of the `else`
pub branches_split : (bs : List (Branch Statement)) (other : List Statement) → branches_bind bs other ≡ branches_bind bs [] ++ all_binds other
branches_split [] other = refl
branches_split (b ∷ bs) other = ap (λ names. all_binds b.body ++ names) (branches_split bs other) ∙ sym (append_assoc (all_binds b.body) (branches_bind bs []) (all_binds other))

name_binds : (line : ℕ) (name : List ℕ) → bound_by (e.Name line name) ≡ name ∷ []
name_binds line name = ap bound_by (sym (rolls-Name line name)) ∙ ap (λ x. name_of x.name) (fold-roll-Expr Expression expr_row (Expr-F.Name line name))

-- one name
pub named : (old new : Bound) (target : Expr) (line : ℕ) (name : List ℕ) → target ≡ e.Name line name
    → ((x : List ℕ) → has new x ≡ cond (bytes_eq name x) true (has old x)) → Gains old new (bound_by target)
named old new target line name is h x = h x ∙ go (bytes_eq name x) (has old x) ∙ ap (λ names. has old x || is_among names x) (sym (ap bound_by is ∙ name_binds line name))
  where
    go : (a b : Bool) → cond a true b ≡ (b || (a || false))
    go true true = refl
    go true false = refl
    go false b = sym (or_false b)

pub if_binds : (s : Stmt) (line : ℕ) (bs : List (Branch Stmt)) (other : List Stmt) → s ≡ st.If line bs other
    → (stmt s).binds ≡ branches_bind (map (branch_of stmt) bs) [] ++ all_binds (map stmt other)
if_binds s line bs other is =
    ap (λ s. (stmt s).binds) (is ∙ sym (rolls-If line bs other)) ∙ ap (λ s. s.binds) (fold-roll-Stmt Statement stmt_row (Stmt-F.If line bs other))
    ∙ branches_split (map (branch_of stmt) bs) (map stmt other)

pub while_binds : (s : Stmt) (line : ℕ) (test : Expr) (body other : List Stmt) → s ≡ st.While line test body other
    → (stmt s).binds ≡ all_binds (map stmt body) ++ all_binds (map stmt other)
while_binds s line test body other is =
    ap (λ s. (stmt s).binds) (is ∙ sym (rolls-While line test body other)) ∙ ap (λ s. s.binds) (fold-roll-Stmt Statement stmt_row (Stmt-F.While line test body other))
