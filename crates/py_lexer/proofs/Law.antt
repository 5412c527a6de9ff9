-- One pass over the pieces, with stacks, gives what the logical lines give.
use Rattle.std.proofs.Common.{◌≡◌, ℕ, suc, ◌-◌, Bool, true, false, cond, List, [], ◌∷◌, ◌++◌, length, Result, Ok, Err, Option, Some, None, replicate, refl, ap, ◌∙◌, sym, append_assoc, arith}
use Rattle.py_lexer.specs.declared.brackets.Bracket.{Bracket}
use Rattle.py_lexer.specs.declared.brackets.Role.{Role}
use Rattle.py_lexer.specs.declared.brackets.Role.TheVariants as role
use Rattle.py_ast.specs.declared.spelled.Sign.{Sign}
use Rattle.py_ast.specs.declared.token.Token.{Token}
use Rattle.py_ast.specs.declared.token.TokenKind.TheVariants as kind
use Rattle.py_lexer.specs.declared.refusals.LexEnd.{LexEnd}
use Rattle.py_lexer.specs.Pieces.{Piece, Placed}
use Rattle.py_lexer.specs.Pieces as piece
use Rattle.py_lexer.specs.Brackets.{role_of, same_bracket, turn}
use Rattle.py_lexer.specs.Indentation.{at, Start, Entered, enter}
use Rattle.py_lexer.specs.LogicalLines.{◌>>=◌, behind, Cut, put, deeper, cut_by, cut, role_of_piece, is_space, start_of, blank_of, Stepped, sign_by, step, tokens_of, last_line, newline_and, laid, lines, listed_to}
use Rattle.py_lexer.specs.Machine.{State, start_or, start_at, with_token, accept, pass, initial}

abbrev pub start_from : Option Start → List Placed → Start
start_from None line = start_of line
start_from (Some start) line = start

-- what the lines give from a state on
abbrev pub resume_by : Bool → ℕ → State → List Placed → Result (List Token) LexEnd
resume_by true end s ps = let c = cut 0 ps in laid end (start_from s.start c.first) s.last s.levels c.first (λ n e. lines end n e c.others)
resume_by false end s ps = let c = cut (length s.open_) ps in tokens_of end s.open_ c.first >>= newline_and s.last (λ n. lines end n s.levels c.others)

abbrev pub resume : ℕ → State → List Placed → Result (List Token) LexEnd
resume end s ps = behind s.tokens (resume_by s.fresh end s ps)

abbrev pub st : List Token → ℕ → List (List ℕ) → List Bracket → Bool → Option Start → State
st out last levels open_ fresh start = record { tokens = out; last = last; levels = levels; open_ = open_; fresh = fresh; start = start }

abbrev pub placed : Piece → ℕ → List ℕ → Placed
placed q line span = record { line = line; span = span; piece = q }

behind-nothing : (r : Result (List Token) LexEnd) → behind [] r ≡ r
behind-nothing (Ok ts) = refl
behind-nothing (Err e) = refl

behind-behind : (a b : List Token) (r : Result (List Token) LexEnd) → behind a (behind b r) ≡ behind (a ++ b) r
behind-behind a b (Ok ts) = ap Ok (sym (append_assoc a b ts))
behind-behind a b (Err e) = refl

last-append : (line : ℕ) (a b : List Token) → last_line line (a ++ b) ≡ last_line (last_line line a) b
last-append line [] b = refl
last-append line (x ∷ a) b = last-append x.line a b

joins : (last : ℕ) (front : List Token) (r : Result (List Token) LexEnd) (more : ℕ → Result (List Token) LexEnd) → (behind front r >>= newline_and last more) ≡ behind front (r >>= newline_and (last_line last front) more)
joins last front (Ok us) more =
    rw (last-append last front us, append_assoc front us (at (last_line (last_line last front) us) kind.Newline ∷ [])) (sym (behind-behind front (us ++ at (last_line (last_line last front) us) kind.Newline ∷ []) (more (last_line (last_line last front) us))))
joins last front (Err e) more = refl

abbrev pub Law : ℕ → List Placed → Type 0
Law end ps = (out : List Token) (last : ℕ) (levels : List (List ℕ)) (open_ : List Bracket) (fresh : Bool) (start : Option Start) → (fresh ≡ true → open_ ≡ []) → pass end ps (st out last levels open_ fresh start) ≡ resume end (st out last levels open_ fresh start) ps

-- a sign turns the stack as deep as the cut into lines says
deep_turn : (r : Role) (s : Sign) (line : ℕ) (open_ : List Bracket) (x : Stepped) → sign_by s line (turn r open_) ≡ Ok x → deeper r (length open_) ≡ length x.open_
deep_turn role.Plain s line open_ x e = cc
deep_turn (role.Opens b) s line open_ x e = cc
deep_turn (role.Closes b) s line [] x e = cc
deep_turn (role.Closes b) s line (o ∷ open_) x e = go (same_bracket b o) e
  where
    go : (same : Bool) → sign_by s line (cond same (Some open_) None) ≡ Ok x → suc (length open_) - 1 ≡ length x.open_
    go true h = let same_length : length open_ ≡ length x.open_ = cc in omega arith
    go false h = cc

pub record IsToken (q : Piece) : Type 0 where
  pub space : is_space q ≡ false
  pub blank : blank_of q ≡ []
  pub cuts : (p : Placed) (n : ℕ) (c : Cut) → cut_by q p n c ≡ put p c
  pub accepts : (line : ℕ) (s : State) → accept q line s ≡ with_token q line s
  pub deep : (line : ℕ) (open_ : List Bracket) (x : Stepped) → step q line open_ ≡ Ok x → deeper (role_of_piece q) (length open_) ≡ length x.open_

-- a token on a line that has begun
on_line : (end : ℕ) (q : Piece) (line : ℕ) (span : List ℕ) (ps : List Placed) → IsToken q → Law end ps → (out : List Token) (last : ℕ) (levels : List (List ℕ)) (open_ : List Bracket) (start : Option Start)
    → ((step q line open_ >>= λ r. Ok (st (out ++ r.tokens) (last_line last r.tokens) levels r.open_ false start)) >>= pass end ps)
    ≡ behind out (tokens_of end open_ (placed q line span ∷ (cut (deeper (role_of_piece q) (length open_)) ps).first) >>= newline_and last (λ n. lines end n levels (cut (deeper (role_of_piece q) (length open_)) ps).others))
on_line end q line span ps is law out last levels open_ start = go (step q line open_) (is.deep line open_)
  where
    go : (r : Result Stepped LexEnd) → ((x : Stepped) → r ≡ Ok x → deeper (role_of_piece q) (length open_) ≡ length x.open_)
        → ((r >>= λ r. Ok (st (out ++ r.tokens) (last_line last r.tokens) levels r.open_ false start)) >>= pass end ps)
        ≡ behind out ((r >>= λ s. behind s.tokens (tokens_of end s.open_ (cut (deeper (role_of_piece q) (length open_)) ps).first)) >>= newline_and last (λ n. lines end n levels (cut (deeper (role_of_piece q) (length open_)) ps).others))
    go (Ok x) deep = rw (deep x refl) (law (out ++ x.tokens) (last_line last x.tokens) levels x.open_ false start (λ e. cc)
        ∙ sym (behind-behind out x.tokens _) ∙ ap (behind out) (sym (joins last x.tokens (tokens_of end x.open_ (cut (length x.open_) ps).first) (λ n. lines end n levels (cut (length x.open_) ps).others))))
    go (Err e) deep = refl

law_token : (end : ℕ) (q : Piece) (line : ℕ) (span : List ℕ) (ps : List Placed) → IsToken q → Law end ps → Law end (placed q line span ∷ ps)
law_token end q line span ps is law out last levels open_ false start ok =
    rw (is.accepts line (st out last levels open_ false start), is.cuts (placed q line span) (length open_) (cut (deeper (role_of_piece q) (length open_)) ps)) (on_line end q line span ps is law out last levels open_ start)
law_token end q line span ps is law out last levels (o ∷ open_) true start ok = cc (ok refl)
law_token end q line span ps is law out last levels [] true start ok = fresh start
  where
    go : (start : Option Start) (r : Result Entered LexEnd)
        → (((r >>= λ e. Ok (st (out ++ e.tokens) last e.levels [] false start)) >>= λ u. step q line u.open_ >>= λ r. Ok (record u { tokens = u.tokens ++ r.tokens; last = last_line u.last r.tokens; open_ = r.open_ })) >>= pass end ps)
        ≡ behind out (r >>= λ e. behind e.tokens (tokens_of end [] (placed q line span ∷ (cut (deeper (role_of_piece q) 0) ps).first) >>= newline_and last (λ n. lines end n e.levels (cut (deeper (role_of_piece q) 0) ps).others)))
    go start (Ok e) = on_line end q line span ps is law (out ++ e.tokens) last e.levels [] start ∙ sym (behind-behind out e.tokens _)
    go start (Err e) = refl

    fresh : (start : Option Start) → pass end (placed q line span ∷ ps) (st out last levels [] true start) ≡ resume end (st out last levels [] true start) (placed q line span ∷ ps)
    fresh None = rw (is.accepts line (st out last levels [] true None), is.cuts (placed q line span) 0 (cut (deeper (role_of_piece q) 0) ps), is.space, is.blank) (go None (enter levels (start_at line []) line))
    fresh (Some s) = rw (is.accepts line (st out last levels [] true (Some s)), is.cuts (placed q line span) 0 (cut (deeper (role_of_piece q) 0) ps), is.space) (go (Some s) (enter levels s line))

-- a piece that gives no token, on a line that has begun
skips : (end : ℕ) (ps : List Placed) (out : List Token) (last : ℕ) (levels : List (List ℕ)) (open_ : List Bracket) →
    behind out (tokens_of end open_ (cut (length open_) ps).first >>= newline_and last (λ n. lines end n levels (cut (length open_) ps).others))
    ≡ behind out (behind [] (tokens_of end open_ (cut (length open_) ps).first) >>= newline_and last (λ n. lines end n levels (cut (length open_) ps).others))
skips end ps out last levels open_ = rw (behind-nothing (tokens_of end open_ (cut (length open_) ps).first)) refl

-- the same on a line that has not
skips_fresh : (end : ℕ) (q : Piece) (line : ℕ) (span : List ℕ) (c : Cut) (out : List Token) (start : Start) (last : ℕ) (levels : List (List ℕ)) → is_space q ≡ true → ((open_ : List Bracket) → step q line open_ ≡ Ok (record { tokens = []; open_ = open_ })) →
    behind out (laid end start last levels c.first (λ n e. lines end n e c.others)) ≡ behind out (laid end start last levels (placed q line span ∷ c.first) (λ n e. lines end n e c.others))
skips_fresh end q line span c out start last levels space steps = rw (space, steps [], behind-nothing (tokens_of end [] c.first)) refl

-- a piece that gives no token and ends no line
pub record IsNothing (q : Piece) : Type 0 where
  pub space : is_space q ≡ true
  pub cuts : (p : Placed) (n : ℕ) (c : Cut) → cut_by q p n c ≡ put p c
  pub accepts : (line : ℕ) (s : State) → accept q line s ≡ Ok (record s { start = Some (start_or s.start (start_at line (blank_of q))) })
  pub role : role_of_piece q ≡ role.Plain
  pub steps : (line : ℕ) (open_ : List Bracket) → step q line open_ ≡ Ok (record { tokens = []; open_ = open_ })

law_nothing : (end : ℕ) (q : Piece) (line : ℕ) (span : List ℕ) (ps : List Placed) → IsNothing q → Law end ps → Law end (placed q line span ∷ ps)
law_nothing end q line span ps is law out last levels open_ false start ok =
    rw (is.accepts line (st out last levels open_ false start), is.role, is.cuts (placed q line span) (length open_) (cut (length open_) ps), is.steps line open_)
    (law out last levels open_ false (Some (start_or start (start_at line (blank_of q)))) (λ e. cc) ∙ skips end ps out last levels open_)
law_nothing end q line span ps is law out last levels (o ∷ open_) true start ok = cc (ok refl)
law_nothing end q line span ps is law out last levels [] true None ok =
    rw (is.accepts line (st out last levels [] true None), is.role, is.cuts (placed q line span) 0 (cut 0 ps))
    (law out last levels [] true (Some (start_at line (blank_of q))) ok ∙ skips_fresh end q line span (cut 0 ps) out (start_at line (blank_of q)) last levels is.space (is.steps line))
law_nothing end q line span ps is law out last levels [] true (Some old) ok =
    rw (is.accepts line (st out last levels [] true (Some old)), is.role, is.cuts (placed q line span) 0 (cut 0 ps))
    (law out last levels [] true (Some old) ok ∙ skips_fresh end q line span (cut 0 ps) out old last levels is.space (is.steps line))

law_line_end : (end : ℕ) (line : ℕ) (span : List ℕ) (ps : List Placed) → Law end ps → Law end (placed piece.LineEnd line span ∷ ps)
law_line_end end line span ps law out last levels [] true None ok = law out last levels [] true None (λ e. refl)
law_line_end end line span ps law out last levels [] true (Some old) ok = law out last levels [] true None (λ e. refl)
law_line_end end line span ps law out last levels [] false start ok = law (out ++ at last kind.Newline ∷ []) last levels [] true None (λ e. refl) ∙ sym (behind-behind out (at last kind.Newline ∷ []) _)
law_line_end end line span ps law out last levels (o ∷ open_) true start ok = cc (ok refl)
law_line_end end line span ps law out last levels (o ∷ open_) false start ok = law out last levels (o ∷ open_) false start (λ e. cc) ∙ skips end ps out last levels (o ∷ open_)

law_end : (end : ℕ) → Law end []
law_end end out last levels (o ∷ open_) true start ok = cc (ok refl)
law_end end out last levels [] true None ok = refl
law_end end out last levels [] true (Some old) ok = refl
law_end end out last levels [] false start ok = ap Ok (append_assoc out (at last kind.Newline ∷ []) (replicate (length levels) (at last kind.Dedent)))
law_end end out last levels (o ∷ open_) false start ok = refl

law_by : (end : ℕ) (q : Piece) (line : ℕ) (span : List ℕ) (ps : List Placed) → Law end ps → Law end (placed q line span ∷ ps)
law_by end (piece.Blank text) line span ps law = law_nothing end (piece.Blank text) line span ps (record { space = refl; cuts = λ p n c. refl; accepts = λ l s. refl; role = refl; steps = λ l o. refl }) law
law_by end piece.Comment line span ps law = law_nothing end piece.Comment line span ps (record { space = refl; cuts = λ p n c. refl; accepts = λ l s. refl; role = refl; steps = λ l o. refl }) law
law_by end piece.Joint line span ps law = law_nothing end piece.Joint line span ps (record { space = refl; cuts = λ p n c. refl; accepts = λ l s. refl; role = refl; steps = λ l o. refl }) law
law_by end piece.LineEnd line span ps law = law_line_end end line span ps law
law_by end (piece.Bad f below) line span ps law = law_token end (piece.Bad f below) line span ps (record { space = refl; blank = refl; cuts = λ p n c. refl; accepts = λ l s. refl; deep = λ l o x e. cc }) law
law_by end (piece.Token (kind.Sign s)) line span ps law = law_token end (piece.Token (kind.Sign s)) line span ps (record { space = refl; blank = refl; cuts = λ p n c. refl; accepts = λ l s. refl; deep = λ l o x e. deep_turn (role_of s) s l o x e }) law
law_by end (piece.Token k) line span ps law = law_token end (piece.Token k) line span ps (record { space = refl; blank = refl; cuts = λ p n c. refl; accepts = λ l s. refl; deep = λ l o x e. cc }) law

pub one_pass : (end : ℕ) (ps : List Placed) → Law end ps
one_pass end [] = law_end end
one_pass end (p ∷ ps) = law_by end p.piece p.line p.span ps (one_pass end ps)

-- what the code computes is the definition
pub pass_is_listed : (end : ℕ) (ps : List Placed) → pass end ps initial ≡ listed_to end ps
pass_is_listed end ps = one_pass end ps [] 1 [] [] true None (λ e. refl) ∙ behind-nothing (listed_to end ps)
