-- Statements with their blocks: no others stand where they do.
use Rattle.std.proofs.Common.{◌≡◌, ℕ, ◌^◌, List, [], ◌∷◌, ◌++◌, get_or, drop, refl, sym, ◌∙◌, ap, subst, append_assoc, arith, true, not}
use Rattle.std.specs.Prelude.{codes, nat_eq}
use Rattle.nu_text.specs.Pieces.{joined, before}
use Rattle.nu_text.proofs.Pieces.{before_is}
use Rattle.code_forms.specs.declared.operand.Operand.{Operand}
use Rattle.code_forms.specs.declared.operand.Operand.TheVariants as operand
use Rattle.op_forms.specs.declared.constant.Const.TheVariants as const
use Rattle.c_reader.specs.Statements.{IsNotFront}
use Rattle.c_reader.specs.Pieces.{FieldStands}
use Rattle.c_reader.proofs.Numbers.{same_rest}
use Rattle.node_tree.specs.Blocks as tree
use Rattle.node_text.specs.Text.{head_pieces, inner, tail_pieces, block_text}
use Rattle.node_text.specs.Written.{IsHead, IsTail, IsBlock}
use Rattle.node_reader.specs.Lines.{ValuedStands, HeadStands}
use Rattle.node_reader.specs.Nodes.{IsSimple, NodeStands, BlockStands, ClosedStands, TwoStand, begins_word}
use Rattle.node_reader.proofs.Heads.{bare, head_tag, head_both}

-- what a statement is, by the one without its blocks
pub as_if : (test : Operand) (y : tree.Form) → tree.If test tree.Stop tree.Stop ≡ bare y → (a : tree.Block) × (b : tree.Block) × (y ≡ tree.If test a b)
as_if test (tree.If t a b) e = (a, b, ap (λ o. tree.If o a b) (ap test_of (sym e)))
  where
    test_of : tree.Form → Operand
    test_of (tree.If o a b) = o
    test_of other = operand.Const const.None
as_if test y e = let bad : 105102032 ≡ head_tag (bare y) = ap head_tag e in absurd (omega (arith, bad))

pub as_loop : (y : tree.Form) → tree.Loop tree.Stop ≡ bare y → (a : tree.Block) × (y ≡ tree.Loop a)
as_loop (tree.Loop a) e = (a, refl)
as_loop y e = let bad : 108111111 ≡ head_tag (bare y) = ap head_tag e in absurd (omega (arith, bad))

pub as_catch : (to : ℕ) (y : tree.Form) → tree.Catch to tree.Stop tree.Stop ≡ bare y → (a : tree.Block) × (b : tree.Block) × (y ≡ tree.Catch to a b)
as_catch to (tree.Catch t a b) e = (a, b, ap (λ n. tree.Catch n a b) (ap to_of (sym e)))
  where
    to_of : tree.Form → ℕ
    to_of (tree.Catch n a b) = n
    to_of other = 0
as_catch to y e = let bad : 99097116 ≡ head_tag (bare y) = ap head_tag e in absurd (omega (arith, bad))

bare_simple : (x : tree.Form) → IsSimple x → bare x ≡ x
bare_simple (tree.If test y n) h = absurd h
bare_simple (tree.Loop body) h = absurd h
bare_simple (tree.Catch to body handler) h = absurd h
bare_simple x h = refl

simple_bare : (x : tree.Form) → IsSimple x → IsSimple (bare x)
simple_bare x h = subst IsSimple (sym (bare_simple x h)) h

of_bare : (y : tree.Form) → IsSimple (bare y) → IsSimple y
of_bare (tree.If test y n) h = h
of_bare (tree.Loop body) h = h
of_bare (tree.Catch to body handler) h = h
of_bare y h = h

-- a statement of one line is known by its line
simple_same : (x y : tree.Form) → IsSimple x → bare x ≡ bare y → IsSimple y × (x ≡ y)
simple_same x y h e =
    let simple : IsSimple y = of_bare y (subst IsSimple e (simple_bare x h)) in
    (simple, sym (bare_simple x h) ∙ e ∙ bare_simple y simple)

tail_none : (indent : List ℕ) (x : tree.Form) (a : List ℕ) → IsSimple x → before (tail_pieces indent x) a ≡ a
tail_none indent (tree.If test y n) a h = absurd h
tail_none indent (tree.Loop body) a h = absurd h
tail_none indent (tree.Catch to body handler) a h = absurd h
tail_none indent x a h = refl

-- a word on a line of an indentation ends the blocks within it
pub word_ends : (indent word rest : List ℕ) → begins_word word ≡ true → IsNotFront (inner indent) (indent ++ (word ++ rest))
word_ends indent [] rest h more e = absurd (grind (arith, h))
word_ends indent (b ∷ word) rest h more e =
    let same : b ∷ (word ++ rest) ≡ 32 ∷ 32 ∷ more = same_rest indent (b ∷ (word ++ rest)) (codes "  " ++ more) (e ∙ append_assoc indent (codes "  ") more) in
    let first : b ≡ 32 = ap (λ l. get_or l 0 0) same in
    let test : not (nat_eq b 32) ≡ not (nat_eq 32 32) = ap (λ n. not (nat_eq n 32)) first in
    grind (arith, h, test)

-- a statement of a block
abbrev pub form_line : List ℕ → tree.Form → List ℕ → List ℕ
form_line indent x rest = indent ++ before (head_pieces x) (before (tail_pieces indent x) rest)

pub follow_is : (indent : List ℕ) (x : tree.Form) (r : tree.Block) (rest : List ℕ) → block_text indent (tree.Follow x r) ++ rest ≡ form_line indent x (block_text indent r ++ rest)
follow_is indent x r rest =
    let head = joined (head_pieces x) in
    let tail = joined (tail_pieces indent x) in
    let more = block_text indent r ++ rest in
    append_assoc ((indent ++ head) ++ tail) (block_text indent r) rest ∙ append_assoc (indent ++ head) tail more ∙ append_assoc indent head (tail ++ more)
    ∙ ap (λ l. indent ++ (head ++ l)) (before_is (tail_pieces indent x) more) ∙ ap (λ l. indent ++ l) (before_is (head_pieces x) (before (tail_pieces indent x) more))

heads_same : (indent : List ℕ) (x y : tree.Form) (a b : List ℕ) → IsHead x → IsHead y → form_line indent x a ≡ form_line indent y b → (bare x ≡ bare y) × (before (tail_pieces indent x) a ≡ before (tail_pieces indent y) b)
heads_same indent x y a b p q e =
    head_both (before (head_pieces x) (before (tail_pieces indent x) a)) x y (before (tail_pieces indent x) a) (before (tail_pieces indent y) b) (record { is = p; spelled = refl })
    (record { is = q; spelled = same_rest indent (before (head_pieces x) (before (tail_pieces indent x) a)) (before (head_pieces y) (before (tail_pieces indent y) b)) e })

mutual
  pub block_both : (indent : List ℕ) (b c : tree.Block) (x y : List ℕ) → IsBlock b → IsBlock c → IsNotFront indent x → IsNotFront indent y → block_text indent b ++ x ≡ block_text indent c ++ y → (b ≡ c) × (x ≡ y)
  block_both indent tree.Stop tree.Stop x y p q g h e = (refl, e)
  block_both indent tree.Stop (tree.Follow f r) x y p q g h e = absurd (g (before (head_pieces f) (before (tail_pieces indent f) (block_text indent r ++ y))) (e ∙ follow_is indent f r y))
  block_both indent (tree.Follow f r) tree.Stop x y p q g h e = absurd (h (before (head_pieces f) (before (tail_pieces indent f) (block_text indent r ++ x))) (sym e ∙ follow_is indent f r x))
  block_both indent (tree.Follow f r) (tree.Follow k s) x y p q g h e =
      let heads = heads_same indent f k (block_text indent r ++ x) (block_text indent s ++ y) p.0 q.0 (sym (follow_is indent f r x) ∙ e ∙ follow_is indent k s y) in
      let tails = tails_both indent f k (block_text indent r ++ x) (block_text indent s ++ y) p.1 q.1 heads.0 heads.1 in
      let rest = block_both indent r s x y p.2 q.2 g h tails.1 in
      (ap (λ f. tree.Follow f r) tails.0 ∙ ap (tree.Follow k) rest.0, rest.1)

  pub tails_both : (indent : List ℕ) (x y : tree.Form) (a b : List ℕ) → IsTail x → IsTail y → bare x ≡ bare y → before (tail_pieces indent x) a ≡ before (tail_pieces indent y) b → (x ≡ y) × (a ≡ b)
  tails_both indent (tree.If t p q) y a b m n e f =
      let its = as_if t y e in
      let their = subst IsTail its.2 n in
      let first = block_both (inner indent) p its.0 (before (indent ∷ codes "else\n" ∷ block_text (inner indent) q ∷ indent ∷ codes "end\n" ∷ []) a) (before (indent ∷ codes "else\n" ∷ block_text (inner indent) its.1 ∷ indent ∷ codes "end\n" ∷ []) b) m.0 their.0
      (word_ends indent (codes "else\n") (block_text (inner indent) q ++ (indent ++ (codes "end\n" ++ a))) refl) (word_ends indent (codes "else\n") (block_text (inner indent) its.1 ++ (indent ++ (codes "end\n" ++ b))) refl)
      (f ∙ ap (λ y. before (tail_pieces indent y) b) its.2) in
      let second = block_both (inner indent) q its.1 (indent ++ (codes "end\n" ++ a)) (indent ++ (codes "end\n" ++ b)) m.1 their.1 (word_ends indent (codes "end\n") a refl) (word_ends indent (codes "end\n") b refl)
      (ap (drop 5) (same_rest indent (codes "else\n" ++ (block_text (inner indent) q ++ (indent ++ (codes "end\n" ++ a)))) (codes "else\n" ++ (block_text (inner indent) its.1 ++ (indent ++ (codes "end\n" ++ b)))) first.1)) in
      (ap (λ p. tree.If t p q) first.0 ∙ ap (tree.If t its.0) second.0 ∙ sym its.2, ap (drop 4) (same_rest indent (codes "end\n" ++ a) (codes "end\n" ++ b) second.1))
  tails_both indent (tree.Loop p) y a b m n e f =
      let its = as_loop y e in
      let their = subst IsTail its.1 n in
      let first = block_both (inner indent) p its.0 (indent ++ (codes "end\n" ++ a)) (indent ++ (codes "end\n" ++ b)) m their (word_ends indent (codes "end\n") a refl) (word_ends indent (codes "end\n") b refl) (f ∙ ap (λ y. before (tail_pieces indent y) b) its.1) in
      (ap tree.Loop first.0 ∙ sym its.1, ap (drop 4) (same_rest indent (codes "end\n" ++ a) (codes "end\n" ++ b) first.1))
  tails_both indent (tree.Catch t p q) y a b m n e f =
      let its = as_catch t y e in
      let their = subst IsTail its.2 n in
      let first = block_both (inner indent) p its.0 (before (indent ∷ codes "handler\n" ∷ block_text (inner indent) q ∷ indent ∷ codes "end\n" ∷ []) a) (before (indent ∷ codes "handler\n" ∷ block_text (inner indent) its.1 ∷ indent ∷ codes "end\n" ∷ []) b) m.0 their.0
      (word_ends indent (codes "handler\n") (block_text (inner indent) q ++ (indent ++ (codes "end\n" ++ a))) refl) (word_ends indent (codes "handler\n") (block_text (inner indent) its.1 ++ (indent ++ (codes "end\n" ++ b))) refl)
      (f ∙ ap (λ y. before (tail_pieces indent y) b) its.2) in
      let second = block_both (inner indent) q its.1 (indent ++ (codes "end\n" ++ a)) (indent ++ (codes "end\n" ++ b)) m.1 their.1 (word_ends indent (codes "end\n") a refl) (word_ends indent (codes "end\n") b refl)
      (ap (drop 8) (same_rest indent (codes "handler\n" ++ (block_text (inner indent) q ++ (indent ++ (codes "end\n" ++ a)))) (codes "handler\n" ++ (block_text (inner indent) its.1 ++ (indent ++ (codes "end\n" ++ b)))) first.1)) in
      (ap (λ p. tree.Catch t p q) first.0 ∙ ap (tree.Catch t its.0) second.0 ∙ sym its.2, ap (drop 4) (same_rest indent (codes "end\n" ++ a) (codes "end\n" ++ b) second.1))
  tails_both indent (tree.Constant to c) y a b m n e f = let s = simple_same (tree.Constant to c) y tt e in (s.1, f ∙ tail_none indent y b s.0)
  tails_both indent (tree.Copy to from) y a b m n e f = let s = simple_same (tree.Copy to from) y tt e in (s.1, f ∙ tail_none indent y b s.0)
  tails_both indent (tree.Do to line o args) y a b m n e f = let s = simple_same (tree.Do to line o args) y tt e in (s.1, f ∙ tail_none indent y b s.0)
  tails_both indent (tree.Call to line v args) y a b m n e f = let s = simple_same (tree.Call to line v args) y tt e in (s.1, f ∙ tail_none indent y b s.0)
  tails_both indent (tree.Yield to line v) y a b m n e f = let s = simple_same (tree.Yield to line v) y tt e in (s.1, f ∙ tail_none indent y b s.0)
  tails_both indent (tree.Leave levels) y a b m n e f = let s = simple_same (tree.Leave levels) y tt e in (s.1, f ∙ tail_none indent y b s.0)
  tails_both indent (tree.Return v) y a b m n e f = let s = simple_same (tree.Return v) y tt e in (s.1, f ∙ tail_none indent y b s.0)
  tails_both indent (tree.Raise v) y a b m n e f = let s = simple_same (tree.Raise v) y tt e in (s.1, f ∙ tail_none indent y b s.0)
  tails_both indent (tree.Unset to) y a b m n e f = let s = simple_same (tree.Unset to) y tt e in (s.1, f ∙ tail_none indent y b s.0)

-- what is left of a block behind the statements that were read
pub record Left (indent : List ℕ) (read all : tree.Block) (left rest : List ℕ) : Type 0 where
  pub more : tree.Block
  pub all_are : all ≡ tree.append read more
  pub is : IsBlock more
  pub stand : left ≡ block_text indent more ++ rest

pub left_of : (indent : List ℕ) (read all : tree.Block) (left rest : List ℕ) → IsBlock read → IsBlock all → IsNotFront indent rest → block_text indent read ++ left ≡ block_text indent all ++ rest → Left indent read all left rest
left_of indent tree.Stop all left rest p q h e = record { more = all; all_are = refl; is = q; stand = e }
left_of indent (tree.Follow f r) tree.Stop left rest p q h e = absurd (h (before (head_pieces f) (before (tail_pieces indent f) (block_text indent r ++ left))) (sym e ∙ follow_is indent f r left))
left_of indent (tree.Follow f r) (tree.Follow k s) left rest p q h e =
    let heads = heads_same indent f k (block_text indent r ++ left) (block_text indent s ++ rest) p.0 q.0 (sym (follow_is indent f r left) ∙ e ∙ follow_is indent k s rest) in
    let tails = tails_both indent f k (block_text indent r ++ left) (block_text indent s ++ rest) p.1 q.1 heads.0 heads.1 in
    let more = left_of indent r s left rest p.2 q.2 h tails.1 in
    record { more = more.more; all_are = ap (λ f. tree.Follow f s) (sym tails.0) ∙ ap (tree.Follow f) more.all_are; is = more.is; stand = more.stand }

-- where the next statement of a block isn't there, no block is
pub no_block : (indent text left behind : List ℕ) (read : tree.Block) → text ≡ block_text indent read ++ left → IsBlock read → left ≡ indent ++ behind → ((x : tree.Form) (rest : List ℕ) → NodeStands indent behind x rest → ⊥) → (b : tree.Block) (rest : List ℕ) → BlockStands indent text b rest → ⊥
no_block indent text left behind read e each front none b rest s = let l = left_of indent read b left rest each s.is s.all (sym e ∙ s.spelled) in go l.more l.is l.stand
  where
    go : (more : tree.Block) → IsBlock more → left ≡ block_text indent more ++ rest → ⊥
    go tree.Stop is stand = s.all behind (sym stand ∙ front)
    go (tree.Follow x r) is stand = none x (block_text indent r ++ rest) (record {
      head = is.0;
      tail = is.1;
      spelled = same_rest indent behind (before (head_pieces x) (before (tail_pieces indent x) (block_text indent r ++ rest))) (sym front ∙ stand ∙ follow_is indent x r rest);
    })

-- one statement more
pub append_text : (indent : List ℕ) (read : tree.Block) (x : tree.Form) (rest : List ℕ) → block_text indent (tree.append read (tree.alone x)) ++ rest ≡ block_text indent read ++ form_line indent x rest
append_text indent tree.Stop x rest = follow_is indent x tree.Stop rest
append_text indent (tree.Follow f r) x rest =
    follow_is indent f (tree.append r (tree.alone x)) rest ∙ ap (form_line indent f) (append_text indent r x rest) ∙ sym (follow_is indent f r (form_line indent x rest))

pub append_is : (read : tree.Block) (x : tree.Form) → IsBlock read → IsHead x → IsTail x → IsBlock (tree.append read (tree.alone x))
append_is tree.Stop x p h t = (h, t, tt)
append_is (tree.Follow f r) x p h t = (p.0, p.1, append_is r x p.2 h t)

pub next_node : (indent text left behind rest : List ℕ) (read new : tree.Block) (x : tree.Form) → text ≡ block_text indent read ++ left → left ≡ indent ++ behind → NodeStands indent behind x rest → new ≡ tree.append read (tree.alone x) → text ≡ block_text indent new ++ rest
next_node indent text left behind rest read new x e front s more =
    e ∙ ap (λ l. block_text indent read ++ l) (front ∙ ap (λ l. indent ++ l) s.spelled) ∙ sym (append_text indent read x rest) ∙ ap (λ b. block_text indent b ++ rest) (sym more)

-- closed blocks
closed_block : (indent word text : List ℕ) (b : tree.Block) (rest : List ℕ) → begins_word word ≡ true → ClosedStands indent word text b rest → BlockStands (inner indent) text b (indent ++ (word ++ rest))
closed_block indent word text b rest begins s = record { is = s.is; spelled = s.spelled; all = word_ends indent word rest begins }

pub no_closed : (indent word text : List ℕ) → begins_word word ≡ true → ((b : tree.Block) (rest : List ℕ) → BlockStands (inner indent) text b rest → ⊥) → (b : tree.Block) (rest : List ℕ) → ClosedStands indent word text b rest → ⊥
no_closed indent word text begins none b rest s = none b (indent ++ (word ++ rest)) (closed_block indent word text b rest begins s)

pub closed_behind : (indent word text behind : List ℕ) (a b : tree.Block) (rest : List ℕ) → begins_word word ≡ true → BlockStands (inner indent) text a behind → ClosedStands indent word text b rest → (a ≡ b) × (behind ≡ indent ++ (word ++ rest))
closed_behind indent word text behind a b rest begins r s =
    let t = closed_block indent word text b rest begins s in
    block_both (inner indent) a b behind (indent ++ (word ++ rest)) r.is t.is r.all t.all (sym r.spelled ∙ t.spelled)

pub closed_word : (indent word text behind last : List ℕ) (a b : tree.Block) (rest : List ℕ) → begins_word word ≡ true → BlockStands (inner indent) text a behind → behind ≡ indent ++ last → ClosedStands indent word text b rest → (a ≡ b) × (last ≡ word ++ rest)
closed_word indent word text behind last a b rest begins r e s =
    let both = closed_behind indent word text behind a b rest begins r s in
    (both.0, same_rest indent last (word ++ rest) (sym e ∙ both.1))

pub closed_of : (indent word text behind last : List ℕ) (a : tree.Block) (rest : List ℕ) → BlockStands (inner indent) text a behind → behind ≡ indent ++ last → last ≡ word ++ rest → ClosedStands indent word text a rest
closed_of indent word text behind last a rest r e f = record { is = r.is; spelled = r.spelled ∙ ap (λ l. block_text (inner indent) a ++ l) (e ∙ ap (λ l. indent ++ l) f) }

pub closed_both : (indent word text : List ℕ) (a b : tree.Block) (x y : List ℕ) → begins_word word ≡ true → ClosedStands indent word text a x → ClosedStands indent word text b y → (a ≡ b) × (x ≡ y)
closed_both indent word text a b x y begins s t =
    let both = closed_word indent word text (indent ++ (word ++ x)) (word ++ x) a b y begins (closed_block indent word text a x begins s) refl t in
    (both.0, same_rest word x y both.1)

-- two blocks
two_first : (indent word text : List ℕ) (a b : tree.Block) (rest : List ℕ) → TwoStand indent word text a b rest → ClosedStands indent word text a (before (block_text (inner indent) b ∷ indent ∷ codes "end\n" ∷ []) rest)
two_first indent word text a b rest s = record { is = s.first; spelled = s.spelled }

pub no_first : (indent word text : List ℕ) → ((b : tree.Block) (rest : List ℕ) → ClosedStands indent word text b rest → ⊥) → (a b : tree.Block) (rest : List ℕ) → TwoStand indent word text a b rest → ⊥
no_first indent word text none a b rest s = none a (before (block_text (inner indent) b ∷ indent ∷ codes "end\n" ∷ []) rest) (two_first indent word text a b rest s)

pub two_second : (indent word text behind : List ℕ) (r a b : tree.Block) (rest : List ℕ) → begins_word word ≡ true → ClosedStands indent word text r behind → TwoStand indent word text a b rest → (r ≡ a) × ClosedStands indent (codes "end\n") behind b rest
two_second indent word text behind r a b rest begins c s =
    let both = closed_both indent word text r a behind (before (block_text (inner indent) b ∷ indent ∷ codes "end\n" ∷ []) rest) begins c (two_first indent word text a b rest s) in
    (both.0, record { is = s.second; spelled = both.1 })

pub two_of : (indent word text behind : List ℕ) (a b : tree.Block) (rest : List ℕ) → ClosedStands indent word text a behind → ClosedStands indent (codes "end\n") behind b rest → TwoStand indent word text a b rest
two_of indent word text behind a b rest c d = record { first = c.is; second = d.is; spelled = c.spelled ∙ ap (before (block_text (inner indent) a ∷ indent ∷ word ∷ [])) d.spelled }

-- statements by their first lines
node_head : (indent text : List ℕ) (x : tree.Form) (rest : List ℕ) → NodeStands indent text x rest → HeadStands text x (before (tail_pieces indent x) rest)
node_head indent text x rest s = record { is = s.head; spelled = s.spelled }

pub simple_of : (indent text : List ℕ) (x : tree.Form) (rest : List ℕ) → IsSimple x → HeadStands text x rest → NodeStands indent text x rest
simple_of indent text x rest simple h = record { head = h.is; tail = simple_tail x simple; spelled = h.spelled ∙ ap (before (head_pieces x)) (sym (tail_none indent x rest simple)) }
  where
    simple_tail : (x : tree.Form) → IsSimple x → IsTail x
    simple_tail (tree.If test y n) h = absurd h
    simple_tail (tree.Loop body) h = absurd h
    simple_tail (tree.Catch to body handler) h = absurd h
    simple_tail x h = h

pub if_of : (indent text behind : List ℕ) (test : Operand) (a b : tree.Block) (rest : List ℕ) → ValuedStands (codes "if ") text test behind → TwoStand indent (codes "else\n") behind a b rest → NodeStands indent text (tree.If test a b) rest
if_of indent text behind test a b rest v t = record { head = v.is; tail = (t.first, t.second); spelled = v.spelled ∙ ap (before (head_pieces (tree.If test a b))) t.spelled }

pub if_two : (indent text behind : List ℕ) (test : Operand) → ValuedStands (codes "if ") text test behind → ((a b : tree.Block) (rest : List ℕ) → TwoStand indent (codes "else\n") behind a b rest → ⊥) → (x : tree.Form) (rest : List ℕ) → NodeStands indent text x rest → ⊥
if_two indent text behind test v none x rest s =
    let first : HeadStands text (tree.If test tree.Stop tree.Stop) behind = record { is = v.is; spelled = v.spelled } in
    let both = head_both text (tree.If test tree.Stop tree.Stop) x behind (before (tail_pieces indent x) rest) first (node_head indent text x rest s) in
    let its = as_if test x both.0 in
    let tails = subst IsTail its.2 s.tail in
    none its.0 its.1 rest (record { first = tails.0; second = tails.1; spelled = both.1 ∙ ap (λ x. before (tail_pieces indent x) rest) its.2 })

pub catch_of : (indent text behind : List ℕ) (to : ℕ) (a b : tree.Block) (rest : List ℕ) → FieldStands (2 ^ 64) (codes "catch t") (codes "\n") text to behind → TwoStand indent (codes "handler\n") behind a b rest → NodeStands indent text (tree.Catch to a b) rest
catch_of indent text behind to a b rest v t = record { head = v.fits; tail = (t.first, t.second); spelled = v.spelled ∙ ap (before (head_pieces (tree.Catch to a b))) t.spelled }

pub catch_two : (indent text behind : List ℕ) (to : ℕ) → FieldStands (2 ^ 64) (codes "catch t") (codes "\n") text to behind → ((a b : tree.Block) (rest : List ℕ) → TwoStand indent (codes "handler\n") behind a b rest → ⊥) → (x : tree.Form) (rest : List ℕ) → NodeStands indent text x rest → ⊥
catch_two indent text behind to v none x rest s =
    let first : HeadStands text (tree.Catch to tree.Stop tree.Stop) behind = record { is = v.fits; spelled = v.spelled } in
    let both = head_both text (tree.Catch to tree.Stop tree.Stop) x behind (before (tail_pieces indent x) rest) first (node_head indent text x rest s) in
    let its = as_catch to x both.0 in
    let tails = subst IsTail its.2 s.tail in
    none its.0 its.1 rest (record { first = tails.0; second = tails.1; spelled = both.1 ∙ ap (λ x. before (tail_pieces indent x) rest) its.2 })

pub loop_of : (indent text behind : List ℕ) (a : tree.Block) (rest : List ℕ) → text ≡ codes "loop\n" ++ behind → ClosedStands indent (codes "end\n") behind a rest → NodeStands indent text (tree.Loop a) rest
loop_of indent text behind a rest e t = record { head = tt; tail = t.is; spelled = e ∙ ap (λ l. codes "loop\n" ++ l) t.spelled }

pub loop_one : (indent text behind : List ℕ) → text ≡ codes "loop\n" ++ behind → ((a : tree.Block) (rest : List ℕ) → ClosedStands indent (codes "end\n") behind a rest → ⊥) → (x : tree.Form) (rest : List ℕ) → NodeStands indent text x rest → ⊥
loop_one indent text behind e none x rest s =
    let first : HeadStands text (tree.Loop tree.Stop) behind = record { is = tt; spelled = e } in
    let both = head_both text (tree.Loop tree.Stop) x behind (before (tail_pieces indent x) rest) first (node_head indent text x rest s) in
    let its = as_loop x both.0 in
    none its.0 rest (record { is = subst IsTail its.1 s.tail; spelled = both.1 ∙ ap (λ x. before (tail_pieces indent x) rest) its.1 })

pub no_node : (indent text : List ℕ) → ((x : tree.Form) (rest : List ℕ) → IsSimple x → HeadStands text x rest → ⊥) → ((a : Operand) (rest : List ℕ) → ValuedStands (codes "if ") text a rest → ⊥) → IsNotFront (codes "loop\n") text
    → ((n : ℕ) (rest : List ℕ) → FieldStands (2 ^ 64) (codes "catch t") (codes "\n") text n rest → ⊥) → (x : tree.Form) (rest : List ℕ) → NodeStands indent text x rest → ⊥
no_node indent text simple choice loop guard x rest s = go x (before (tail_pieces indent x) rest) (node_head indent text x rest s)
  where
    go : (x : tree.Form) (a : List ℕ) → HeadStands text x a → ⊥
    go (tree.If test y n) a h = choice test a (record { is = h.is; spelled = h.spelled })
    go (tree.Loop body) a h = loop a h.spelled
    go (tree.Catch to body handler) a h = guard to a (record { fits = h.is; spelled = h.spelled })
    go (tree.Constant to c) a h = simple (tree.Constant to c) a tt h
    go (tree.Copy to from) a h = simple (tree.Copy to from) a tt h
    go (tree.Do to line o args) a h = simple (tree.Do to line o args) a tt h
    go (tree.Call to line v args) a h = simple (tree.Call to line v args) a tt h
    go (tree.Yield to line v) a h = simple (tree.Yield to line v) a tt h
    go (tree.Leave levels) a h = simple (tree.Leave levels) a tt h
    go (tree.Return v) a h = simple (tree.Return v) a tt h
    go (tree.Raise v) a h = simple (tree.Raise v) a tt h
    go (tree.Unset to) a h = simple (tree.Unset to) a tt h
