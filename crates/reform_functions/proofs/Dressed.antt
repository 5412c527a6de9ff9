-- What is decorated, by the last decorator first.
use Rattle.std.proofs.Common.{◌≡◌, ℕ, ◌+◌, length, map, List, [], ◌∷◌, ◌++◌, refl, sym, ap, ◌∙◌, arith}
use Rattle.op_forms.specs.declared.op.Op.TheVariants as op
use Rattle.code_forms.specs.declared.operand.Argument.TheVariants as argument
use Rattle.code_forms.specs.declared.operand.Operand.{Operand}
use Rattle.code_forms.specs.declared.operand.Operand.TheVariants as operand
use Rattle.node_tree.specs.Blocks.{alone}
use Rattle.node_tree.specs.Blocks as tree
use Rattle.node_tree.proofs.Direct.{append_stop}
use Rattle.carries_base.specs.Carries.{Carrier, joined}
use Rattle.carried_codes.specs.Parts.{Valued, valued, Decorator}
use Rattle.carried_codes.specs.Expressions.{decorated_at, decorated_block}
use Rattle.carried_codes.specs.Expressions as expressions
use Rattle.reform_values.proofs.Joined.{append_block, joined_append, mapped_last}
use Rattle.reform_functions.specs.declared.decorators.Decorator as code
use Rattle.reform_functions.specs.declared.decorators.Mark.{Mark}
use Rattle.reform_functions.specs.Marks.{decorator_of, bare, mark_of, decorated_by, decorated_by_all}
use Rattle.reform_functions.proofs.Defaults.{next_joined}

-- one more
decorator_parts : (ds : List code.Decorator) → map (λ d. d.part) (map decorator_of ds) ≡ map (λ d. (decorator_of d).part) ds
decorator_parts [] = refl
decorator_parts (d ∷ ds) = ap (λ l. (decorator_of d).part ∷ l) (decorator_parts ds)

pub next_blocks : (ds : List code.Decorator) (d : code.Decorator) (b c : tree.Block) → b ≡ joined (map (λ d. d.part) (map decorator_of ds)) tree.Stop → c ≡ tree.append b (decorator_of d).part.block → c ≡ joined (map (λ d. d.part) (map decorator_of (ds ++ d ∷ []))) tree.Stop
next_blocks ds d b c eb ec =
    next_joined (λ d. (decorator_of d).part) ds d tree.Stop b c (eb ∙ ap (λ l. joined l tree.Stop) (decorator_parts ds)) ec
    ∙ ap (λ l. joined l tree.Stop) (sym (decorator_parts (ds ++ d ∷ [])))

pub next_marks : (ds : List code.Decorator) (d : code.Decorator) (ms ns : List Mark) (m : Mark) → map mark_of ms ≡ map bare (map decorator_of ds) → mark_of m ≡ bare (decorator_of d) → ns ≡ ms ++ m ∷ [] → map mark_of ns ≡ map bare (map decorator_of (ds ++ d ∷ []))
next_marks ds d ms ns m em ed en =
    ap (map mark_of) en ∙ mapped_last mark_of ms m ∙ ap (λ l. l ++ mark_of m ∷ []) em ∙ ap (λ x. map bare (map decorator_of ds) ++ x ∷ []) ed
    ∙ sym (ap (map bare) (mapped_last decorator_of ds d) ∙ mapped_last bare (map decorator_of ds) (decorator_of d))

nothing_more : (n : ℕ) → n + 0 ≡ n
nothing_more n = omega arith

length_more : {X : Type 0} (n : ℕ) (xs : List X) (x : X) → n + length (xs ++ x ∷ []) ≡ n + 1 + length xs
length_more n [] x = omega arith
length_more n (y ∷ xs) x = let e : n + length (xs ++ x ∷ []) ≡ n + 1 + length xs = length_more n xs x in omega (arith, e)

at_last : (t : ℕ) (ds : List Decorator) (d : Decorator) (o : Operand) → decorated_at t (ds ++ d ∷ []) o ≡ decorated_at (t + 1) ds (operand.Temp t)
at_last t [] d o = ap operand.Temp (nothing_more t)
at_last t (e ∷ ds) d o = ap operand.Temp (length_more t ds d)

abbrev called : ℕ → Decorator → Operand → tree.Form
called t d o = tree.Do t d.line op.Call (argument.Value d.part.value ∷ argument.Value o ∷ [])

block_last : (t : ℕ) (ds : List Decorator) (d : Decorator) (o : Operand) → decorated_block t (ds ++ d ∷ []) o ≡ tree.Follow (called t d o) (decorated_block (t + 1) ds (operand.Temp t))
block_last t [] d o = ap (λ n. alone (called n d o)) (nothing_more t)
block_last t (e ∷ ds) d o =
    ap (λ b. tree.append b (alone (called (t + length (ds ++ d ∷ [])) e (decorated_at t (ds ++ d ∷ []) o)))) (block_last t ds d o)
    ∙ ap (λ n. tree.Follow (called t d o) (tree.append (decorated_block (t + 1) ds (operand.Temp t)) (alone (called n e (decorated_at t (ds ++ d ∷ []) o))))) (length_more t ds d)
    ∙ ap (λ a. tree.Follow (called t d o) (tree.append (decorated_block (t + 1) ds (operand.Temp t)) (alone (called (t + 1 + length ds) e a)))) (at_last t ds d o)

by_last : (v : Valued) (ds : List Decorator) (d : Decorator) → decorated_by_all v (ds ++ d ∷ []) ≡ decorated_by_all (decorated_by v d) ds
by_last v ds d =
    let t = v.next in let o = v.part.value in
    ap (λ b. valued b (decorated_at t (ds ++ d ∷ []) o) (t + length (ds ++ d ∷ [])))
    (ap (tree.append v.part.block) (block_last t ds d o) ∙ sym (append_block v.part.block (alone (called t d o)) (decorated_block (t + 1) ds (operand.Temp t))))
    ∙ ap (λ a. valued (tree.append (tree.append v.part.block (alone (called t d o))) (decorated_block (t + 1) ds (operand.Temp t))) a (t + length (ds ++ d ∷ []))) (at_last t ds d o)
    ∙ ap (valued (tree.append (tree.append v.part.block (alone (called t d o))) (decorated_block (t + 1) ds (operand.Temp t))) (decorated_at (t + 1) ds (operand.Temp t))) (length_more t ds d)

pub next_decorated : (v w : Valued) (left less : List Mark) (m : Mark) → left ≡ less ++ m ∷ [] → w ≡ decorated_by v (mark_of m) → decorated_by_all w (map mark_of less) ≡ decorated_by_all v (map mark_of left)
next_decorated v w left less m el ew =
    ap (λ x. decorated_by_all x (map mark_of less)) ew
    ∙ sym (ap (λ l. decorated_by_all v (map mark_of l)) el ∙ ap (decorated_by_all v) (mapped_last mark_of less m) ∙ by_last v (map mark_of less) (mark_of m))

by_none : (b : tree.Block) (o : Operand) (n : ℕ) → decorated_by_all (valued b o n) [] ≡ valued b o n
by_none b o n = ap (λ x. valued x o (n + 0)) (append_stop b) ∙ ap (valued b o) (nothing_more n)

pub last_decorated : (v whole : Valued) (left : List Mark) → left ≡ [] → decorated_by_all v (map mark_of left) ≡ whole → v ≡ whole
last_decorated v whole left el e =
    sym (by_none v.part.block v.part.value v.next) ∙ ap (λ l. decorated_by_all v (map mark_of l)) (sym el) ∙ e

-- the blocks of decorators don't count
bare_length : (ds : List Decorator) → length (map bare ds) ≡ length ds
bare_length [] = refl
bare_length (d ∷ ds) = let e : length (map bare ds) ≡ length ds = bare_length ds in omega (arith, e)

bare_at : (t : ℕ) (ds : List Decorator) (o : Operand) → decorated_at t (map bare ds) o ≡ decorated_at t ds o
bare_at t [] o = refl
bare_at t (d ∷ ds) o = ap (λ n. operand.Temp (t + n)) (bare_length ds)

bare_block : (t : ℕ) (ds : List Decorator) (o : Operand) → decorated_block t (map bare ds) o ≡ decorated_block t ds o
bare_block t [] o = refl
bare_block t (d ∷ ds) o =
    ap (λ b. tree.append b (alone (called (t + length (map bare ds)) d (decorated_at t (map bare ds) o)))) (bare_block t ds o)
    ∙ ap (λ n. tree.append (decorated_block t ds o) (alone (called (t + n) d (decorated_at t (map bare ds) o)))) (bare_length ds)
    ∙ ap (λ a. tree.append (decorated_block t ds o) (alone (called (t + length ds) d a))) (bare_at t ds o)

pub bare_all : (v : Valued) (ds : List Decorator) → decorated_by_all v (map bare ds) ≡ decorated_by_all v ds
bare_all v ds =
    let t = v.next in let o = v.part.value in
    ap (λ b. valued (tree.append v.part.block b) (decorated_at t (map bare ds) o) (t + length (map bare ds))) (bare_block t ds o)
    ∙ ap (λ a. valued (tree.append v.part.block (decorated_block t ds o)) a (t + length (map bare ds))) (bare_at t ds o)
    ∙ ap (λ n. valued (tree.append v.part.block (decorated_block t ds o)) (decorated_at t ds o) (t + n)) (bare_length ds)

-- behind the decorators
behind_joined : (ps : List Carrier) (first b whole rest : tree.Block) → first ≡ joined ps tree.Stop → whole ≡ tree.append first b → tree.append whole rest ≡ joined ps (tree.append b rest)
behind_joined ps first b whole rest ef ew =
    ap (λ x. tree.append x rest) (ew ∙ ap (λ x. tree.append x b) ef) ∙ append_block (joined ps tree.Stop) b rest ∙ joined_append ps tree.Stop (tree.append b rest)

pub decorated_is : (ds : List Decorator) (p : Carrier) (t : ℕ) (first whole : tree.Block) (ms : List Decorator) (v : Valued) → first ≡ joined (map (λ d. d.part) ds) tree.Stop → ms ≡ map bare ds → whole ≡ tree.append first p.block → v ≡ decorated_by_all (valued whole p.value t) ms → v ≡ expressions.decorate ds p t
unfolding expressions.decorate
decorated_is ds p t first whole ms v ef em ew ev =
    ev ∙ ap (decorated_by_all (valued whole p.value t)) em ∙ bare_all (valued whole p.value t) ds
    ∙ ap (λ b. valued b (decorated_at t ds p.value) (t + length ds)) (behind_joined (map (λ d. d.part) ds) first p.block whole (decorated_block t ds p.value) ef ew)

pub class_is : (line code : ℕ) (name : List ℕ) (ds : List Decorator) (base : Carrier) (cells : List ℕ) (t : ℕ) (first next whole made : tree.Block) (ms : List Decorator) (v : Valued) → first ≡ joined (map (λ d. d.part) ds) tree.Stop → ms ≡ map bare ds → next ≡ tree.append first base.block → whole ≡ tree.append next made → made ≡ expressions.class_block line code name cells base.value t → v ≡ decorated_by_all (valued whole (operand.Temp (t + 5)) (t + 6)) ms
    → v ≡ expressions.make_class line code name ds base cells t
unfolding expressions.make_class
class_is line code name ds base cells t first next whole made ms v ef em en ew ed ev =
    let ps = map (λ d. d.part) ds in let o = operand.Temp (t + 5) in let dressed = decorated_block (t + 6) ds o in
    ev ∙ ap (decorated_by_all (valued whole o (t + 6))) em ∙ bare_all (valued whole o (t + 6)) ds
    ∙ ap (λ b. valued b (decorated_at (t + 6) ds o) (t + 6 + length ds))
    (ap (λ b. tree.append b dressed) ew ∙ append_block next made dressed ∙ behind_joined ps first base.block next (tree.append made dressed) ef en
    ∙ ap (λ m. joined ps (tree.append base.block (tree.append m dressed))) ed)
