-- What is left of a text is shorter.
use Rattle.std.proofs.Common.{◌≡◌, ℕ, ◌+◌, ◌*◌, ◌<◌, ◌≤◌, ◌^◌, List, [], ◌∷◌, ◌++◌, length, ap, arith, length-append}
use Rattle.std.specs.Prelude.{codes}
use Rattle.nu_text.specs.Pieces.{before}
use Rattle.code_forms.specs.declared.operand.Operand.{Operand}
use Rattle.c_reader.specs.Pieces.{FieldStands}
use Rattle.node_tree.specs.Blocks as tree
use Rattle.node_text.specs.Text.{head_pieces, inner, tail_pieces, block_text}
use Rattle.node_reader.specs.Lines.{ValuedStands}
use Rattle.node_reader.specs.Nodes.{NodeStands, ClosedStands}

before_long : (pieces : List (List ℕ)) (rest : List ℕ) → length rest ≤ length (before pieces rest)
before_long [] rest = omega arith
before_long (piece ∷ pieces) rest =
    let more = before_long pieces rest in
    let sum = length-append piece (before pieces rest) in
    omega (arith, more, sum)

abbrev first : List (List ℕ) → List ℕ
first [] = []
first (piece ∷ pieces) = piece

first_long : (pieces : List (List ℕ)) (rest : List ℕ) → 0 < length (first pieces) → length rest < length (before pieces rest)
first_long [] rest some = omega (arith, some)
first_long (piece ∷ pieces) rest some =
    let more = before_long pieces rest in
    let sum = length-append piece (before pieces rest) in
    omega (arith, more, sum, some)

head_long : (x : tree.Form) (rest : List ℕ) → length rest < length (before (head_pieces x) rest)
head_long (tree.Constant to c) rest = first_long (head_pieces (tree.Constant to c)) rest (omega arith)
head_long (tree.Copy to from) rest = first_long (head_pieces (tree.Copy to from)) rest (omega arith)
head_long (tree.Do to line o args) rest = first_long (head_pieces (tree.Do to line o args)) rest (omega arith)
head_long (tree.Call to line function args) rest = first_long (head_pieces (tree.Call to line function args)) rest (omega arith)
head_long (tree.Yield to line a) rest = first_long (head_pieces (tree.Yield to line a)) rest (omega arith)
head_long (tree.If test y n) rest = first_long (head_pieces (tree.If test y n)) rest (omega arith)
head_long (tree.Loop body) rest = first_long (head_pieces (tree.Loop body)) rest (omega arith)
head_long (tree.Leave levels) rest = first_long (head_pieces (tree.Leave levels)) rest (omega arith)
head_long (tree.Catch to body handler) rest = first_long (head_pieces (tree.Catch to body handler)) rest (omega arith)
head_long (tree.Return a) rest = first_long (head_pieces (tree.Return a)) rest (omega arith)
head_long (tree.Raise a) rest = first_long (head_pieces (tree.Raise a)) rest (omega arith)
head_long (tree.Unset to) rest = first_long (head_pieces (tree.Unset to)) rest (omega arith)

pub node_shorter : (indent left behind : List ℕ) (x : tree.Form) (rest : List ℕ) → left ≡ indent ++ behind → NodeStands indent behind x rest → length rest < length left
node_shorter indent left behind x rest e s =
    let sum = length-append indent behind in
    let all : length left ≡ length (indent ++ behind) = ap length e in
    let head = head_long x (before (tail_pieces indent x) rest) in
    let tail = before_long (tail_pieces indent x) rest in
    let same : length behind ≡ length (before (head_pieces x) (before (tail_pieces indent x) rest)) = ap length s.spelled in
    omega (arith, sum, all, head, tail, same)

pub behind_within : (text front left indent behind : List ℕ) → text ≡ front ++ left → left ≡ indent ++ behind → 4 * length behind + 2 < 4 * length text + 3
behind_within text front left indent behind e f =
    let sum = length-append front left in
    let more = length-append indent behind in
    let one : length text ≡ length (front ++ left) = ap length e in
    let two : length left ≡ length (indent ++ behind) = ap length f in
    omega (arith, sum, more, one, two)

pub valued_shorter : (text behind : List ℕ) (a : Operand) → ValuedStands (codes "if ") text a behind → 4 * length behind + 5 < 4 * length text + 2
valued_shorter text behind a s =
    let long = head_long (tree.If a tree.Stop tree.Stop) behind in
    let same : length text ≡ length (before (head_pieces (tree.If a tree.Stop tree.Stop)) behind) = ap length s.spelled in
    omega (arith, long, same)

pub catch_shorter : (text behind : List ℕ) (to : ℕ) → FieldStands (2 ^ 64) (codes "catch t") (codes "\n") text to behind → 4 * length behind + 5 < 4 * length text + 2
catch_shorter text behind to s =
    let long = head_long (tree.Catch to tree.Stop tree.Stop) behind in
    let same : length text ≡ length (before (head_pieces (tree.Catch to tree.Stop tree.Stop)) behind) = ap length s.spelled in
    omega (arith, long, same)

pub loop_shorter : (text behind : List ℕ) → text ≡ codes "loop\n" ++ behind → 4 * length behind + 4 < 4 * length text + 2
loop_shorter text behind e =
    let same : length text ≡ length (codes "loop\n" ++ behind) = ap length e in
    omega (arith, same)

pub closed_within : (indent word text : List ℕ) (b : tree.Block) (behind : List ℕ) → ClosedStands indent word text b behind → 4 * length behind + 4 < 4 * length text + 5
closed_within indent word text b behind s =
    let long = before_long (block_text (inner indent) b ∷ indent ∷ word ∷ []) behind in
    let same : length text ≡ length (before (block_text (inner indent) b ∷ indent ∷ word ∷ []) behind) = ap length s.spelled in
    omega (arith, long, same)
