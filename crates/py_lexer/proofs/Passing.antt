-- One pass over the pieces of a text, piece by piece.
use Rattle.std.proofs.Common.{◌≡◌, ℕ, suc, ◌+◌, ◌<◌, List, [], ◌∷◌, length, take, drop, true, false, nat_eq, Result, Ok, Err, MatchResult, refl, ap, subst, sym, ◌∙◌, arith}
use Rattle.std.specs.Str.{IsUtf8, chars}
use Rattle.std.proofs.lemmas.Bool.Decides.{nat_tests}
use Rattle.py_ast.specs.declared.token.Token.{Token}
use Rattle.py_lexer.specs.declared.refusals.LexEnd.{LexEnd}
use Rattle.py_lexer.specs.declared.refusals.LexEnd.TheVariants as end
use Rattle.py_lexer.specs.declared.refusals.Fault.{Fault}
use Rattle.py_lexer.specs.declared.refusals.Fault.TheVariants as fault
use Rattle.py_lexer.specs.PhysicalLines.{line_ends}
use Rattle.py_lexer.specs.Pieces.{Piece, Bad, piece_at, pieces, end_line, past_mark}
use Rattle.py_lexer.specs.LogicalLines.{◌>>=◌, listed, refusal}
use Rattle.py_lexer.specs.Machine.{State, entered, accept, pass, finish, initial}
use Rattle.py_lexer.specs.Script.{Tokens, Refuses, lexed}
use Rattle.py_lexer.specs.Seen.{Refused, Gives}
use Rattle.py_lexer.proofs.Cutting.{pieces_step}
use Rattle.py_lexer.proofs.Law.{pass_is_listed}

-- the piece is taken
pub pass_on : (end_ line n : ℕ) (s : List ℕ) (p : Piece) (old new : State) → 0 < length s → 0 < n → piece_at s ≡ (p, n) → accept p line old ≡ Ok new
    → pass end_ (pieces line 0 s) old ≡ pass end_ (pieces (line + line_ends (take n s)) 0 (drop n s)) new
pass_on end_ line n s p old new there positive e is = rw (pieces_step line n s p there positive e, is) refl

-- the text ends where it ended
pub end_on : (line n : ℕ) (s : List ℕ) (p : Piece) → 0 < length s → 0 < n → piece_at s ≡ (p, n)
    → end_line line (pieces line 0 s) ≡ end_line (line + line_ends (take n s)) (pieces (line + line_ends (take n s)) 0 (drop n s))
end_on line n s p there positive e = rw (pieces_step line n s p there positive e) refl

refused_more : {A B : Type 0} (e : LexEnd) (given : Result A LexEnd) (more : A → Result B LexEnd) → Refused e given → Refused e (given >>= more)
refused_more end.Memory given more is = tt
refused_more end.Utf8 given more is = is
refused_more (end.Token line) given more is = rw is refl
refused_more (end.Indent line) given more is = rw is refl
refused_more (end.Number line) given more is = rw is refl

-- the piece is refused
pub pass_stops : (end_ line n : ℕ) (s : List ℕ) (p : Piece) (old : State) (e : LexEnd) → 0 < length s → 0 < n → piece_at s ≡ (p, n) → Refused e (accept p line old)
    → Refused e (pass end_ (pieces line 0 s) old)
pass_stops end_ line n s p old e there positive is given =
    rw (pieces_step line n s p there positive is) (refused_more e (accept p line old) (pass end_ (pieces (line + line_ends (take n s)) 0 (drop n s))) given)

-- no piece stands there, behind a line's indentation that fits
pub bad_after : (end_ line below : ℕ) (s : List ℕ) (f : Fault) (old new : State) → 0 < length s → piece_at s ≡ (Bad f below, 1) → entered line old ≡ Ok new → pass end_ (pieces line 0 s) old ≡ Err (refusal f (line + below))
bad_after end_ line below s f old new there is given = let positive : 0 < 1 = omega arith in rw (pieces_step line 1 s (Bad f below) there positive is, given) refl

-- no piece stands there, behind a line's indentation that fits none
pub bad_before : (end_ line below : ℕ) (s : List ℕ) (f : Fault) (old : State) (e : LexEnd) → 0 < length s → piece_at s ≡ (Bad f below, 1) → Refused e (entered line old) → Refused e (pass end_ (pieces line 0 s) old)
bad_before end_ line below s f old e there is given = pass_stops end_ line 1 s (Bad f below) old e there (omega arith) is (refused_more e (entered line old) _ given)

-- what is left gives what the whole text gives
pub whole : (line : ℕ) (s text : List ℕ) (now : State) → let end_ = end_line 1 (pieces 1 0 text) in pass end_ (pieces line 0 s) now ≡ pass end_ (pieces 1 0 text) initial
    → pass end_ (pieces line 0 s) now ≡ listed (pieces 1 0 text)
whole line s text now inv = inv ∙ pass_is_listed (end_line 1 (pieces 1 0 text)) (pieces 1 0 text)

refused_fault : (A : Type 0) (f : Fault) (line : ℕ) → Refused {A = A} (refusal f line) (Err (refusal f line))
refused_fault A fault.Token line = refl
refused_fault A fault.Number line = refl

pub refused_as : {A : Type 0} (e : LexEnd) (f' f : Fault) (below' below line : ℕ) (given : Result A LexEnd) → f' ≡ f → below' ≡ below → e ≡ refusal f' (line + below') → given ≡ Err (refusal f (line + below)) → Refused e given
refused_as {A = A} e f' f below' below line given same near is was = rw (is, was, same, near) (refused_fault A f (line + below))

not_zero : (n : ℕ) → nat_eq (suc n) 0 ≡ true → ⊥
not_zero n h = grind (arith, nat_tests)

pub pass_ends : (end_ line : ℕ) (s : List ℕ) (now : State) → nat_eq (length s) 0 ≡ true → end_line line (pieces line 0 s) ≡ end_ → pass end_ (pieces line 0 s) now ≡ finish line now
pass_ends end_ line [] now h e = ap (λ n. finish n now) (sym e)
pass_ends end_ line (c ∷ s) now h e = absurd (not_zero (length s) h)

pub is_there : (n : ℕ) → nat_eq n 0 ≡ false → 0 < n
is_there n h = grind (arith, nat_tests)

refuses : (e : LexEnd) (text : List ℕ) → IsUtf8 text → Refused e (lexed text) → Refuses text e
refuses end.Memory text u g = tt
refuses end.Utf8 text u g = absurd g
refuses (end.Token line) text u g = (u, g)
refuses (end.Indent line) text u g = (u, g)
refuses (end.Number line) text u g = (u, g)

pub answered : {V : Type 0} (seen : V → List Token) (r : Result V LexEnd) (text body : List ℕ) → body ≡ past_mark (chars text) → IsUtf8 text → Gives seen r (listed (pieces 1 0 body))
    → MatchResult r (λ v. Tokens text (seen v)) (λ e. Refuses text e)
answered seen (Ok v) text body e u g = record { utf8 = u; lexed_ = ap (λ b. listed (pieces 1 0 b)) (sym e) ∙ g }
answered seen (Err end_) text body e u g = refuses end_ text u (subst (λ b. Refused end_ (listed (pieces 1 0 b))) e g)
