-- The laws of each production.
use Rattle.std.proofs.Common.{◌≡◌, ℕ, zero, suc, ◌+◌, ◌<◌, ◌≤◌, Bool, true, false, cond, List, [], ◌∷◌, ◌++◌, length, Option, Some, None, refl, ap, ◌∙◌, sym, subst, arith, append_assoc, length-append, le_refl}
use Rattle.py_ast.specs.declared.token.Token.{Token}
use Rattle.py_ast.specs.declared.spelled.Word.TheVariants as w
use Rattle.py_ast.specs.declared.expr.Param.{Param}
use Rattle.py_ast.specs.declared.expr.Expr.{Expr}
use Rattle.py_grammar.specs.declared.found.Found.{Found}
use Rattle.py_grammar.specs.declared.role.Mark.{Mark}
use Rattle.py_grammar.specs.declared.role.Mark.TheVariants as m
use Rattle.py_grammar.specs.declared.role.Row.TheVariants as row
use Rattle.py_grammar.specs.Levels.{expression, atom, role, makes, wants, mark, line, follows_expression, follows_exprs, follows_yield, follows_targets, follows_target, follows_params}
use Rattle.py_grammar.specs.Grammar.{Spells, RowOf, Yields, Params, Several, PartOf, Parts, Tail, Expression, Exprs, Targets, Target, SomeParams}
use Rattle.py_grammar.specs.Parse.{Parser, found, parse, row_of, item, yields, params, is_word, is_nothing, pure, refuse, read_level, read_exprs, read_targets, read_target, read_yield, read_params, read_some_params, sees_word}
use Rattle.py_grammar.specs.Laws.{IsRead, IsSpelled, Took}
use Rattle.py_grammar.proofs.Roles.{Over, follows_role, over_exprs, yield_follow, over_targets, behind_target, over_params}
use Rattle.py_grammar.proofs.Steps.{sees_word_by}
use Rattle.py_grammar.proofs.Starts.{begins_part}
use Rattle.py_grammar.proofs.OperationsRead.{whole}
use Rattle.py_grammar.proofs.PartsRead.{row_reads, row_fronted}
use Rattle.py_grammar.proofs.Complete.{complete, complete_row, complete_part, complete_yields, complete_params, begins_yields}
use Rattle.py_grammar.proofs.Apart.{bind_some, chosen, guarded, given, word_front, sees_word_mark}
use Rattle.py_grammar.proofs.PartsSpelled.{row_sound, row_front, item_sound, params_sound, took}
use Rattle.py_grammar.proofs.BracketsSpelled.{yields_sound}
use Rattle.py_grammar.proofs.Sound.{parse_sound}

-- ---- any level

-- an expression of a level is read, where what follows does not go on with it
pub level_read : (l h : ℕ) (x : Expr) (used : List Token) → Spells l h x used → (d : ℕ) → h ≤ d → (rest : List Token) → wants (role (mark rest)) ≤ l → makes (role (mark rest)) < l → read_level l d (used ++ rest) ≡ Some (found x h, rest)
unfolding read_level
level_read l h x used s d low rest takes ends = whole l h x used (complete s) (length (used ++ rest) + 1) (omega (arith, length-append used rest)) d low rest takes ends

pub level_spelled : (l : ℕ) → l ≤ atom → IsSpelled (Spells l) (read_level l)
unfolding read_level
level_spelled l within d i p h = took (parse_sound (length i + 1) l d within i p h)

-- ---- the productions

pub expression_read : IsRead Expression follows_expression (read_level expression)
expression_read h x used s d low rest follows =
    let ends = follows_role (mark rest) follows in
    let w = ap wants ends in
    let m = ap makes ends in
    level_read expression h x used s d low rest (omega arith) (omega arith)

pub expression_spelled : IsSpelled Expression (read_level expression)
expression_spelled = level_spelled expression (omega arith)

pub exprs_read : IsRead Exprs follows_exprs read_exprs
unfolding read_exprs
exprs_read h x used s d low rest follows =
    let a = complete_row s in
    let n = length (used ++ rest) + 1 in
    ap (λ l. row_of (parse n) n l row.Expressions d (used ++ rest)) (row_fronted row.Expressions (line used) h x used a rest)
    ∙ row_reads row.Expressions (line used) h x used a n (omega (arith, length-append used rest)) d low rest (over_exprs (mark rest) follows)

pub exprs_spelled : IsSpelled Exprs read_exprs
unfolding read_exprs
exprs_spelled d i p h =
    let n = length i + 1 in
    let t = row_sound (parse n) (parse_sound n) n (line i) row.Expressions d i p h in
    let lines : line i ≡ line t.used = ap line t.cut ∙ row_front t.tree p.1 in
    record { used = t.used; cut = t.cut; tree = subst (λ l. RowOf row.Expressions l p.0.height p.0.tree t.used) lines t.tree; low = t.low }

pub targets_read : IsRead Targets follows_targets read_targets
unfolding read_targets
targets_read h x used s d low rest follows =
    let a = complete_row s in
    let n = length (used ++ rest) + 1 in
    ap (λ l. row_of (parse n) n l row.Targets d (used ++ rest)) (row_fronted row.Targets (line used) h x used a rest)
    ∙ row_reads row.Targets (line used) h x used a n (omega (arith, length-append used rest)) d low rest (over_targets (mark rest) follows)

pub targets_spelled : IsSpelled Targets read_targets
unfolding read_targets
targets_spelled d i p h =
    let n = length i + 1 in
    let t = row_sound (parse n) (parse_sound n) n (line i) row.Targets d i p h in
    let lines : line i ≡ line t.used = ap line t.cut ∙ row_front t.tree p.1 in
    record { used = t.used; cut = t.cut; tree = subst (λ l. RowOf row.Targets l p.0.height p.0.tree t.used) lines t.tree; low = t.low }

pub target_read : IsRead Target follows_target read_target
unfolding read_target
target_read h _ used (Target.target a) d low rest follows =
    rw (complete_part a (length (used ++ rest) + 1) (omega (arith, length-append used rest)) d low rest (behind_target (mark rest) follows)) refl

pub target_spelled : IsSpelled Target read_target
unfolding read_target
target_spelled d i p h =
    let n = length i + 1 in
    let v = bind_some (item (parse n) n row.Targets d i) _ p h in
    let x = v.0 in
    let t = item_sound (parse n) (parse_sound n) n row.Targets d i (x, v.1) v.2 in
    given (record { used = t.used; cut = t.cut; tree = Target.target t.tree; low = t.low }) v.3

pub yield_read : IsRead Yields follows_yield read_yield
unfolding read_yield
yield_read h x used s d low rest follows =
    let ends = yield_follow (mark rest) follows in
    let first = sees_word_by w.Yield (used ++ rest) true (ap (λ q. is_word w.Yield q) (begins_yields s rest)) in
    rw first (complete_yields s (length (used ++ rest) + 1) (omega (arith, length-append used rest)) d low rest (over_exprs (mark rest) ends.0) ends.1)

pub yield_spelled : IsSpelled Yields read_yield
unfolding read_yield
yield_spelled d i p h =
    let n = length i + 1 in
    let g = guarded (sees_word w.Yield i) (yields (parse n) n d i) p h in
    yields_sound (parse n) (parse_sound n) n d i p (sees_word_mark w.Yield i g.0) g.1

pub params_read : IsRead Params follows_params read_params
unfolding read_params
params_read h x used s d low rest follows = complete_params s (length (used ++ rest) + 1) (omega (arith, length-append used rest)) d low rest (over_params (mark rest) follows)

pub params_spelled : IsSpelled Params read_params
unfolding read_params
params_spelled d i p h = let n = length i + 1 in params_sound (parse n) (parse_sound n) n d i p h

pub some_params_read : IsRead SomeParams follows_params read_some_params
unfolding read_some_params
some_params_read h _ used (SomeParams.some_params s) d low rest follows = rw (params_read h _ used s d low rest follows) refl

some_params_by : (d : ℕ) (i : List Token) (ps : Found (List (Param Expr))) (j : List Token) (p : Found (List (Param Expr)) × List Token) → Took Params d i (ps, j) → (xs : List (Param Expr)) → ps.tree ≡ xs
    → (cond (is_nothing xs) refuse (pure ps)) j ≡ Some p → Took SomeParams d i p
some_params_by d i ps j p t [] same h = cc
some_params_by d i ps j p t (x ∷ xs) same h =
    given (record { used = t.used; cut = t.cut; tree = subst (λ l. SomeParams ps.height l t.used) (sym same) (SomeParams.some_params (subst (λ l. Params ps.height l t.used) same t.tree)); low = t.low }) h

pub some_params_spelled : IsSpelled SomeParams read_some_params
unfolding read_some_params
some_params_spelled d i p h =
    let v = bind_some (read_params d i) _ p h in
    some_params_by d i v.0 v.1 p (params_spelled d i (v.0, v.1) v.2) v.0.tree refl v.3
