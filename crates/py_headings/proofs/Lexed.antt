-- The tokens of a script have lines, and names where they are names.
use Rattle.std.proofs.Common.{ℕ, zero, suc, ◌+◌, ◌-◌, ◌<◌, Bool, true, false, if◌then◌else◌, List, [], ◌∷◌, ◌++◌, length, take, drop, replicate, Option, Some, None, Result, Ok, Err, chars, subst, arith}
use Rattle.std.specs.List.{AllByRecursion}
use Rattle.std.specs.Str.{bytes_eq}
use Rattle.py_ast.specs.declared.spelled.Sign.{Sign}
use Rattle.py_ast.specs.declared.token.Token.{Token}
use Rattle.py_ast.specs.declared.token.TokenKind.{TokenKind}
use Rattle.py_ast.specs.declared.token.TokenKind.TheVariants as kind
use Rattle.py_lexer.specs.declared.brackets.Bracket.{Bracket}
use Rattle.py_lexer.specs.declared.refusals.LexEnd.{LexEnd}
use Rattle.py_lexer.specs.declared.runs.Class.TheVariants as class
use Rattle.py_lexer.specs.Characters.{run_length}
use Rattle.py_lexer.specs.PhysicalLines.{line_ends}
use Rattle.py_lexer.specs.Words.{word_token}
use Rattle.py_lexer.specs.Strings.{Part, literal}
use Rattle.py_lexer.specs.Numerals.{numeral}
use Rattle.py_lexer.specs.Signs.{sign_at}
use Rattle.py_lexer.specs.Pieces as piece
use Rattle.py_lexer.specs.Pieces.{Piece, Placed, Found, piece_at, joint_at, word_at, word_by, literal_by, literal_found, numeral_at, numeral_by, pieces, past_mark, end_line}
use Rattle.py_lexer.specs.Brackets.{role_of, turn}
use Rattle.py_lexer.specs.Indentation.{at, Start, Entered, enter, popped, kept, top, is_front}
use Rattle.py_lexer.specs.LogicalLines.{◌>>=◌, behind, role_of_piece, deeper, Cut, put, at_end, cut_by, cut, is_space, is_empty, first_line, start_of, Stepped, sign_by, step, closed, tokens_of, last_line, newline_and, laid, lines, listed}
use Rattle.py_lexer.specs.Script.{Tokens}
use Rattle.py_headings.proofs.Tokens.{IsSound, Sound}
use Rattle.py_headings.proofs.Surveyed.{all_joined}
use Rattle.py_headings.proofs.Names.{SoundKind, MaySound, word_sound}

-- Pieces

abbrev PieceSound : Piece → Type 0
PieceSound (piece.Token k) = SoundKind k
PieceSound _ = Unit {0}

abbrev PlacedSound : Placed → Type 0
PlacedSound p = (0 < p.line) × PieceSound p.piece

-- a piece with its length, as a record so that it stands for itself alone
record FoundSound (x : Found) : Type 0 where
  sound : PieceSound x.0

passed : (q : Piece) (n : ℕ) → PieceSound q → FoundSound (q, n)
passed q n v = record { sound = v }

either_sound : (b : Bool) (x y : Found) → FoundSound x → FoundSound y → FoundSound (if b then x else y)
either_sound true x y p q = p
either_sound false x y p q = q

joint_sound : (s : List ℕ) → FoundSound (joint_at s)
unfolding joint_at
joint_sound s = either_sound _ _ _ (passed piece.Joint _ tt) (passed (piece.Bad _ _) _ tt)

token_by : (o : Option TokenKind) (n : ℕ) → MaySound o → FoundSound (word_by o n)
token_by None n p = record { sound = tt }
token_by (Some k) n p = record { sound = p }

literal_sound_by : (prefix : ℕ) (o : Option ℕ) (p : Part) (s : List ℕ) → FoundSound (literal_by prefix o p s)
literal_sound_by prefix None p s = record { sound = λ name is. absurd (cc) }
literal_sound_by prefix (Some k) p s = record { sound = tt }

literal_sound : (prefix : ℕ) (o : Option Part) (s : List ℕ) → FoundSound (literal_found prefix o s)
literal_sound prefix None s = record { sound = tt }
literal_sound prefix (Some p) s = literal_sound_by prefix p.refused p s

word_at_sound : (s : List ℕ) → FoundSound (word_at s)
unfolding word_at
word_at_sound s =
    let n = run_length class.Word s in
    either_sound _ _ _ (literal_sound n (literal true (drop n s)) (drop n s)) (token_by (word_token (take n s)) n (word_sound (take n s)))

numeral_sound_by : (o : Option ℕ) (n : ℕ) → FoundSound (numeral_by o n)
numeral_sound_by None n = record { sound = tt }
numeral_sound_by (Some v) n = record { sound = λ name is. absurd (cc) }

numeral_sound : (s : List ℕ) → FoundSound (numeral_at s)
unfolding numeral_at
numeral_sound s = numeral_sound_by (numeral (take (run_length class.Numeral s) s)) (run_length class.Numeral s)

sign_sound : (o : Option Sign) → FoundSound (piece.sign_by o)
sign_sound None = record { sound = tt }
sign_sound (Some s) = record { sound = λ name is. absurd (cc) }

piece_sound : (s : List ℕ) → FoundSound (piece_at s)
unfolding piece_at
piece_sound [] = record { sound = tt }
piece_sound (c ∷ s) =
    either_sound _ _ _ (passed piece.LineEnd _ tt) (either_sound _ _ _ (passed piece.Comment _ tt) (either_sound _ _ _ (joint_sound s) (either_sound _ _ _ (passed (piece.Blank _) _ tt)
    (either_sound _ _ _ (word_at_sound (c ∷ s)) (either_sound _ _ _ (literal_sound 0 (literal false (c ∷ s)) (c ∷ s)) (either_sound _ _ _ (numeral_sound (c ∷ s)) (sign_sound (sign_at (c ∷ s)))))))))

pieces_sound : (line skip : ℕ) (s : List ℕ) → 0 < line → AllByRecursion PlacedSound (pieces line skip s)
pieces_sound line skip [] h = tt
pieces_sound line (suc skip) (c ∷ s) h = pieces_sound line skip s h
pieces_sound line zero (c ∷ s) h =
    let n = (piece_at (c ∷ s)).1 - 1 in
    ((h, (piece_sound (c ∷ s)).sound), pieces_sound (line + line_ends (c ∷ take n s)) n s (omega (arith, h)))

-- Logical lines

record CutSound (c : Cut) : Type 0 where
  first : AllByRecursion PlacedSound c.first
  others : AllByRecursion (AllByRecursion PlacedSound) c.others

put_sound : (p : Placed) (c : Cut) → PlacedSound p → CutSound c → CutSound (put p c)
put_sound p c v w = record { first = (v, w.first); others = w.others }

end_sound : (depth : ℕ) (p : Placed) (c : Cut) → PlacedSound p → CutSound c → CutSound (at_end depth p c)
end_sound zero p c v w = record { first = tt; others = (w.first, w.others) }
end_sound (suc depth) p c v w = put_sound p c v w

cut_sound_by : (q : Piece) (p : Placed) (depth : ℕ) (c : Cut) → PlacedSound p → CutSound c → CutSound (cut_by q p depth c)
cut_sound_by piece.LineEnd p depth c v w = end_sound depth p c v w
cut_sound_by (piece.Blank text) p depth c v w = put_sound p c v w
cut_sound_by piece.Comment p depth c v w = put_sound p c v w
cut_sound_by piece.Joint p depth c v w = put_sound p c v w
cut_sound_by (piece.Token k) p depth c v w = put_sound p c v w
cut_sound_by (piece.Bad f n) p depth c v w = put_sound p c v w

cut_sound : (depth : ℕ) (ps : List Placed) → AllByRecursion PlacedSound ps → CutSound (cut depth ps)
cut_sound depth [] v = record { first = tt; others = tt }
cut_sound depth (p ∷ ps) v = cut_sound_by p.piece p depth _ v.0 (cut_sound (deeper (role_of_piece p.piece) depth) ps v.1)

-- Tokens

abbrev OnOk : {A : Type 0} → (A → Type 0) → Result A LexEnd → Type 0
OnOk P (Ok x) = P x
OnOk P (Err e) = Unit {0}

bind_sound : {A B : Type 0} (P : A → Type 0) (Q : B → Type 0) (r : Result A LexEnd) (f : A → Result B LexEnd) → OnOk P r → ((x : A) → P x → OnOk Q (f x)) → OnOk Q (r >>= f)
bind_sound P Q (Ok x) f v w = w x v
bind_sound P Q (Err e) f v w = tt

behind_sound : (ts : List Token) (r : Result (List Token) LexEnd) → Sound ts → OnOk Sound r → OnOk Sound (behind ts r)
behind_sound ts r v w = bind_sound Sound Sound r (λ us. Ok (ts ++ us)) w (λ us u. all_joined IsSound ts us v u)

token_sound : (line : ℕ) (k : TokenKind) → 0 < line → SoundKind k → IsSound (at line k)
token_sound line k h v = record { from_one = h; named = v }

copies_sound : (n : ℕ) (t : Token) → IsSound t → Sound (replicate n t)
copies_sound zero t v = tt
copies_sound (suc n) t v = (v, copies_sound n t v)

abbrev StepSound : Stepped → Type 0
StepSound s = Sound s.tokens

turned_sound : (s : Sign) (line : ℕ) (o : Option (List Bracket)) → 0 < line → OnOk StepSound (sign_by s line o)
turned_sound s line None h = tt
turned_sound s line (Some open_) h = (token_sound line (kind.Sign s) h (λ name is. absurd (cc)), tt)

kind_sound : (k : TokenKind) (line : ℕ) (open_ : List Bracket) → 0 < line → SoundKind k → OnOk StepSound (step (piece.Token k) line open_)
kind_sound (kind.Sign s) line open_ h v = turned_sound s line (turn (role_of s) open_) h
kind_sound (kind.Name x) line open_ h v = (token_sound line (kind.Name x) h v, tt)
kind_sound (kind.Number x) line open_ h v = (token_sound line (kind.Number x) h v, tt)
kind_sound (kind.Text x) line open_ h v = (token_sound line (kind.Text x) h v, tt)
kind_sound (kind.Keyword x) line open_ h v = (token_sound line (kind.Keyword x) h v, tt)
kind_sound kind.Newline line open_ h v = (token_sound line kind.Newline h v, tt)
kind_sound kind.Indent line open_ h v = (token_sound line kind.Indent h v, tt)
kind_sound kind.Dedent line open_ h v = (token_sound line kind.Dedent h v, tt)

step_sound : (q : Piece) (line : ℕ) (open_ : List Bracket) → 0 < line → PieceSound q → OnOk StepSound (step q line open_)
step_sound (piece.Token k) line open_ h v = kind_sound k line open_ h v
step_sound piece.LineEnd line open_ h v = tt
step_sound (piece.Blank text) line open_ h v = tt
step_sound piece.Comment line open_ h v = tt
step_sound piece.Joint line open_ h v = tt
step_sound (piece.Bad f n) line open_ h v = tt

closed_sound : (end_ : ℕ) (open_ : List Bracket) → OnOk Sound (closed end_ open_)
closed_sound end_ [] = tt
closed_sound end_ (o ∷ open_) = tt

tokens_sound : (end_ : ℕ) (open_ : List Bracket) (ps : List Placed) → AllByRecursion PlacedSound ps → OnOk Sound (tokens_of end_ open_ ps)
tokens_sound end_ open_ [] v = closed_sound end_ open_
tokens_sound end_ open_ (p ∷ ps) v =
    bind_sound StepSound Sound (step p.piece p.line open_) (λ s. behind s.tokens (tokens_of end_ s.open_ ps)) (step_sound p.piece p.line open_ v.0.0 v.0.1)
    (λ s w. behind_sound s.tokens (tokens_of end_ s.open_ ps) w (tokens_sound end_ s.open_ ps v.1))

-- All lines

first_sound_by : (b : Bool) (m n : ℕ) → 0 < m → 0 < n → 0 < (if b then m else n)
first_sound_by true m n p q = p
first_sound_by false m n p q = q

first_sound : (ps : List Placed) → AllByRecursion PlacedSound ps → 0 < first_line ps
first_sound [] v = omega arith
first_sound (p ∷ ps) v = first_sound_by (is_space p.piece) (first_line ps) p.line (first_sound ps v.1) v.0.0

last_sound : (line : ℕ) (ts : List Token) → 0 < line → Sound ts → 0 < last_line line ts
last_sound line [] h v = h
last_sound line (t ∷ ts) h v = last_sound t.line ts v.0.from_one v.1

abbrev EnteredSound : Entered → Type 0
EnteredSound e = Sound e.tokens

either_entered : (b : Bool) (r q : Result Entered LexEnd) → OnOk EnteredSound r → OnOk EnteredSound q → OnOk EnteredSound (if b then r else q)
either_entered true r q v w = v
either_entered false r q v w = w

popped_sound : (levels : List (List ℕ)) (line first : ℕ) (o : Option ℕ) → 0 < first → OnOk EnteredSound (popped levels line first o)
popped_sound levels line first None h = tt
popped_sound levels line first (Some n) h = copies_sound (length levels - n) (at first kind.Dedent) (token_sound first kind.Dedent h (λ name is. absurd (cc)))

enter_sound : (levels : List (List ℕ)) (start : Start) (first : ℕ) → 0 < first → OnOk EnteredSound (enter levels start first)
unfolding enter
enter_sound levels start first h =
    let out = popped levels start.line first (kept levels start.blank) in
    let inner : Result Entered LexEnd = Ok (record { levels = levels ++ start.blank ∷ []; tokens = at first kind.Indent ∷ [] }) in
    let same : Result Entered LexEnd = Ok (record { levels = levels; tokens = [] }) in
    either_entered (bytes_eq start.blank (top levels)) same (if is_front (top levels) start.blank then inner else out) tt
    (either_entered (is_front (top levels) start.blank) inner out (token_sound first kind.Indent h (λ name is. absurd (cc)), tt) (popped_sound levels start.line first (kept levels start.blank) h))

newline_sound : (last : ℕ) (more : ℕ → Result (List Token) LexEnd) (ts : List Token) → 0 < last → Sound ts → ((n : ℕ) → 0 < n → OnOk Sound (more n)) → OnOk Sound (newline_and last more ts)
newline_sound last more ts h v w =
    let n = last_line last ts in let from_one = last_sound last ts h v in
    behind_sound (ts ++ at n kind.Newline ∷ []) (more n) (all_joined IsSound ts (at n kind.Newline ∷ []) v (token_sound n kind.Newline from_one (λ name is. absurd (cc)), tt)) (w n from_one)

either_tokens : (b : Bool) (r q : Result (List Token) LexEnd) → OnOk Sound r → OnOk Sound q → OnOk Sound (if b then r else q)
either_tokens true r q v w = v
either_tokens false r q v w = w

laid_sound : (end_ : ℕ) (start : Start) (last : ℕ) (levels : List (List ℕ)) (ps : List Placed) (more : ℕ → List (List ℕ) → Result (List Token) LexEnd)
    → 0 < last → AllByRecursion PlacedSound ps → ((n : ℕ) (e : List (List ℕ)) → 0 < n → OnOk Sound (more n e)) → OnOk Sound (laid end_ start last levels ps more)
laid_sound end_ start last levels ps more h v w =
    either_tokens (is_empty ps) (more last levels) _ (w last levels h)
    (bind_sound EnteredSound Sound (enter levels start (first_line ps)) (λ e. behind e.tokens (tokens_of end_ [] ps >>= newline_and last (λ n. more n e.levels))) (enter_sound levels start (first_line ps) (first_sound ps v))
    (λ e u. behind_sound e.tokens (tokens_of end_ [] ps >>= newline_and last (λ n. more n e.levels)) u
    (bind_sound Sound Sound (tokens_of end_ [] ps) (newline_and last (λ n. more n e.levels)) (tokens_sound end_ [] ps v) (λ ts t. newline_sound last (λ n. more n e.levels) ts h t (λ n. w n e.levels)))))

lines_sound : (end_ last : ℕ) (levels : List (List ℕ)) (ls : List (List Placed)) → 0 < last → AllByRecursion (AllByRecursion PlacedSound) ls → OnOk Sound (lines end_ last levels ls)
lines_sound end_ last levels [] h v = copies_sound (length levels) (at last kind.Dedent) (token_sound last kind.Dedent h (λ name is. absurd (cc)))
lines_sound end_ last levels (l ∷ ls) h v = laid_sound end_ (start_of l) last levels l (λ n e. lines end_ n e ls) h v.0 (λ n e g. lines_sound end_ n e ls g v.1)

listed_sound : (ps : List Placed) → AllByRecursion PlacedSound ps → OnOk Sound (listed ps)
listed_sound ps v = let c = cut 0 ps in let w = cut_sound 0 ps v in lines_sound (end_line 1 ps) 1 [] (c.first ∷ c.others) (omega arith) (w.first, w.others)

pub lexed_sound : (bytes : List ℕ) (tokens : List Token) → Tokens bytes tokens → Sound tokens
lexed_sound bytes tokens t = subst (OnOk Sound) t.lexed_ (listed_sound (piece.cut (chars bytes)) (pieces_sound 1 0 (past_mark (chars bytes)) (omega arith)))
