-- Every character of a text stands in a piece, and no token is lost on the way to the list.
use Rattle.std.proofs.Common.{◌≡◌, ℕ, zero, suc, ◌+◌, ◌-◌, Bool, true, false, not, cond, List, [], ◌∷◌, ◌++◌, length, take, drop, replicate, Option, Some, None, Result, Ok, Err, refl, ap, sym, ◌∙◌, append_assoc, append-nil}
use Rattle.std.specs.List.{flat_map, list_all}
use Rattle.std.specs.Str.{chars}
use Rattle.std.proofs.lemmas.List.{take-append-drop}
use Rattle.py_ast.specs.declared.spelled.Sign.{Sign}
use Rattle.py_ast.specs.declared.token.Token.{Token}
use Rattle.py_ast.specs.declared.token.TokenKind.TheVariants as kind
use Rattle.py_lexer.specs.declared.refusals.LexEnd.{LexEnd}
use Rattle.py_lexer.specs.declared.brackets.Bracket.{Bracket}
use Rattle.py_lexer.specs.PhysicalLines.{line_ends}
use Rattle.py_lexer.specs.Pieces.{Piece, Placed, Found, piece_at, pieces, cut, past_mark, end_line}
use Rattle.py_lexer.specs.Pieces as piece
use Rattle.py_lexer.specs.Brackets.{role_of, turn}
use Rattle.py_lexer.specs.Indentation.{at, Start, Entered, enter, popped, kept, top, is_front}
use Rattle.py_lexer.specs.LogicalLines.{◌>>=◌, Stepped, sign_by, step, last_line}
use Rattle.py_lexer.specs.Machine.{State, start_or, start_at, entered, with_token, at_line_end, accept, dedents, finish_by, finish, pass, initial}
use Rattle.py_lexer.specs.Script.{Tokens}
use Rattle.py_lexer.specs.Laws.{is_layout, written, token_in, is_bad, EveryCharacterStands}
use Rattle.std.specs.Str.{bytes_eq}
use Rattle.py_lexer.proofs.Law.{pass_is_listed}

pub spans : (line k : ℕ) (s : List ℕ) → flat_map (λ p. p.span) (pieces line k s) ≡ drop k s
spans line zero [] = refl
spans line (suc k) [] = refl
spans line (suc k) (c ∷ s) = spans line k s
spans line zero (c ∷ s) =
    let n : ℕ = (piece_at (c ∷ s)).1 - 1 in
    ap (λ t. c ∷ take n s ++ t) (spans (line + line_ends (c ∷ take n s)) n s) ∙ ap (λ t. c ∷ t) (take-append-drop n s)

abbrev pub given : {A : Type 0} → A → Result A LexEnd
given x = Ok x

abbrev pub tokens_in : List Placed → List Token
tokens_in ps = flat_map (λ p. token_in p.piece p.line) ps

abbrev pub no_bad : List Placed → Bool
no_bad ps = list_all (λ p. not (is_bad p.piece)) ps

written-append : (a b : List Token) → written (a ++ b) ≡ written a ++ written b
written-append [] b = refl
written-append (t ∷ a) b = go (is_layout t.kind) (written-append a b)
  where
    go : (l : Bool) → written (a ++ b) ≡ written a ++ written b → cond l (written (a ++ b)) (t ∷ written (a ++ b)) ≡ cond l (written a) (t ∷ written a) ++ written b
    go true h = h
    go false h = ap (λ ts. t ∷ ts) h

written-dedents : (n line : ℕ) → written (replicate n (at line kind.Dedent)) ≡ []
written-dedents zero line = refl
written-dedents (suc n) line = written-dedents n line

nothing_more : (a b : List Token) → written b ≡ [] → written (a ++ b) ≡ written a
nothing_more a b e = written-append a b ∙ ap (λ t. written a ++ t) e ∙ append-nil (written a)

-- an indentation gives no written token
entering : (levels : List (List ℕ)) (start : Start) (first : ℕ) (e : Entered) → enter levels start first ≡ Ok e → written e.tokens ≡ []
unfolding enter
entering levels start first e is = go (bytes_eq start.blank (top levels)) (is_front (top levels) start.blank) (kept levels start.blank) is
  where
    went : (n : Option ℕ) → popped levels start.line first n ≡ Ok e → written e.tokens ≡ []
    went None h = cc
    went (Some n) h = let same : record { levels = take n levels; tokens = replicate (length levels - n) (at first kind.Dedent) } ≡ e = cc in ap (λ x. written x.tokens) (sym same) ∙ written-dedents (length levels - n) first

    plain : (f g : Entered) → given f ≡ Ok g → written f.tokens ≡ [] → written g.tokens ≡ []
    plain f g h none = let same : f ≡ g = cc in ap (λ x. written x.tokens) (sym same) ∙ none

    go : (a b : Bool) (n : Option ℕ) → cond a (Ok (record { levels = levels; tokens = [] })) (cond b (Ok (record { levels = levels ++ start.blank ∷ []; tokens = at first kind.Indent ∷ [] })) (popped levels start.line first n)) ≡ Ok e → written e.tokens ≡ []
    go true b n h = plain _ e h refl
    go false true n h = plain _ e h refl
    go false false n h = went n h

-- the written tokens behind a piece
pub record Kept (p : Piece) (line : ℕ) (old new : State) : Type 0 where
  pub good : is_bad p ≡ false
  pub more : written new.tokens ≡ written old.tokens ++ written (token_in p line)

begun : (line : ℕ) (old new : State) → entered line old ≡ Ok new → written new.tokens ≡ written old.tokens
begun line old new e = go old.fresh (enter old.levels (start_or old.start (start_at line [])) line) refl e
  where
    same : (a b : State) → given a ≡ Ok b → a ≡ b
    same a b h = cc

    go : (fresh : Bool) (r : Result Entered LexEnd) → enter old.levels (start_or old.start (start_at line [])) line ≡ r
        → cond fresh (r >>= (λ e. Ok (record old { tokens = old.tokens ++ e.tokens; levels = e.levels; fresh = false }))) (Ok old) ≡ Ok new → written new.tokens ≡ written old.tokens
    go true (Ok x) is h = ap (λ s. written s.tokens) (sym (same _ new h)) ∙ nothing_more old.tokens x.tokens (entering old.levels (start_or old.start (start_at line [])) line x is)
    go true (Err x) is h = cc
    go false r is h = ap (λ s. written s.tokens) (sym (same old new h))

same_step : (a b : Stepped) → given a ≡ Ok b → a ≡ b
same_step a b h = cc

same_state : (a b : State) → given a ≡ Ok b → a ≡ b
same_state a b h = cc

signed : (s : Sign) (line : ℕ) (open_ : Option (List Bracket)) (r : Stepped) → sign_by s line open_ ≡ Ok r → r.tokens ≡ at line (kind.Sign s) ∷ []
signed s line None r e = cc
signed s line (Some open_) r e = ap (λ x. x.tokens) (sym (same_step _ r e))

stepping : (p : Piece) (line : ℕ) (open_ : List Bracket) (r : Stepped) → step p line open_ ≡ Ok r → (is_bad p ≡ false) × (r.tokens ≡ token_in p line)
stepping (piece.Token (kind.Sign s)) line open_ r e = (refl, signed s line (turn (role_of s) open_) r e)
stepping (piece.Token k) line open_ r e = (refl, ap (λ x. x.tokens) (sym (same_step _ r e)))
stepping (piece.Bad f below) line open_ r e = cc
stepping p line open_ r e = (refl, ap (λ x. x.tokens) (sym (same_step _ r e)))

taken : (p : Piece) (line : ℕ) (old new : State) → with_token p line old ≡ Ok new → Kept p line old new
taken p line old new e = go (entered line old) refl e
  where
    then : (u : State) → written u.tokens ≡ written old.tokens → (r : Result Stepped LexEnd) → step p line u.open_ ≡ r
        → (r >>= λ r. Ok (record u { tokens = u.tokens ++ r.tokens; last = last_line u.last r.tokens; open_ = r.open_ })) ≡ Ok new → Kept p line old new
    then u is (Ok r) steps h = let st = stepping p line u.open_ r steps in record {
      good = st.0;
      more = ap (λ s. written s.tokens) (sym (same_state _ new h)) ∙ written-append u.tokens r.tokens ∙ rw (is, st.1) refl;
    }
    then u is (Err x) steps h = cc

    go : (u : Result State LexEnd) → entered line old ≡ u
        → (u >>= λ u. step p line u.open_ >>= λ r. Ok (record u { tokens = u.tokens ++ r.tokens; last = last_line u.last r.tokens; open_ = r.open_ })) ≡ Ok new → Kept p line old new
    go (Ok u) is h = then u (begun line old u is) (step p line u.open_) refl h
    go (Err x) is h = cc

unchanged : (p : Piece) (line : ℕ) (old mid new : State) → is_bad p ≡ false → token_in p line ≡ [] → written mid.tokens ≡ written old.tokens → given mid ≡ Ok new → Kept p line old new
unchanged p line old mid new good none is h = record {
  good = good;
  more = ap (λ s. written s.tokens) (sym (same_state mid new h)) ∙ is ∙ sym (append-nil (written old.tokens)) ∙ ap (λ ts. written old.tokens ++ written ts) (sym none);
}

line_ended : (open_ : List Bracket) (s : State) → written (at_line_end open_ s).tokens ≡ written s.tokens
line_ended (o ∷ open_) s = refl
line_ended [] s = go s.fresh
  where
    go : (fresh : Bool) → written (cond fresh (record s { start = None }) (record s { tokens = s.tokens ++ at s.last kind.Newline ∷ []; fresh = true; start = None })).tokens ≡ written s.tokens
    go true = refl
    go false = nothing_more s.tokens (at s.last kind.Newline ∷ []) refl

accepting : (p : Piece) (line : ℕ) (old new : State) → accept p line old ≡ Ok new → Kept p line old new
accepting (piece.Blank text) line old new e = unchanged (piece.Blank text) line old _ new refl refl refl e
accepting piece.Comment line old new e = unchanged piece.Comment line old _ new refl refl refl e
accepting piece.Joint line old new e = unchanged piece.Joint line old _ new refl refl refl e
accepting piece.LineEnd line old new e = unchanged piece.LineEnd line old _ new refl refl (line_ended old.open_ old) e
accepting p line old new e = taken p line old new e

pub record Passed (ps : List Placed) (s : State) (ts : List Token) : Type 0 where
  pub good : no_bad ps ≡ true
  pub all : written ts ≡ written s.tokens ++ written (tokens_in ps)

same_list : (a b : List Token) → given a ≡ Ok b → a ≡ b
same_list a b h = cc

finishing : (line : ℕ) (s : State) (ts : List Token) → finish line s ≡ Ok ts → written ts ≡ written s.tokens
finishing line s ts e = go s.fresh s.open_ e
  where
    go : (fresh : Bool) (open_ : List Bracket) → cond fresh (Ok (s.tokens ++ dedents s)) (finish_by open_ line s) ≡ Ok ts → written ts ≡ written s.tokens
    go true open_ h = ap written (sym (same_list _ ts h)) ∙ nothing_more s.tokens (dedents s) (written-dedents (length s.levels) s.last)
    go false [] h = ap written (sym (same_list _ ts h)) ∙ nothing_more (s.tokens ++ at s.last kind.Newline ∷ []) (dedents s) (written-dedents (length s.levels) s.last) ∙ nothing_more s.tokens (at s.last kind.Newline ∷ []) refl
    go false (o ∷ open_) h = cc

passing : (end_ : ℕ) (ps : List Placed) (s : State) (ts : List Token) → pass end_ ps s ≡ Ok ts → Passed ps s ts
passing end_ [] s ts e = record { good = refl; all = finishing end_ s ts e ∙ sym (append-nil (written s.tokens)) }
passing end_ (p ∷ ps) s ts e = go (λ new h. passing end_ ps new ts h) (accept p.piece p.line s) refl e
  where
    go : ((new : State) → pass end_ ps new ≡ Ok ts → Passed ps new ts) → (r : Result State LexEnd) → accept p.piece p.line s ≡ r → (r >>= pass end_ ps) ≡ Ok ts → Passed (p ∷ ps) s ts
    go more (Ok new) is h =
        let kept = accepting p.piece p.line s new is in
        let rest = more new h in
        record {
          good = rw kept.good rest.good;
          all = rest.all ∙ ap (λ ws. ws ++ written (tokens_in ps)) kept.more ∙ append_assoc (written s.tokens) (written (token_in p.piece p.line)) (written (tokens_in ps))
              ∙ ap (λ ws. written s.tokens ++ ws) (sym (written-append (token_in p.piece p.line) (tokens_in ps)));
        }
    go more (Err x) is h = cc

passed : (bytes : List ℕ) (ts : List Token) → Tokens bytes ts → Passed (cut (chars bytes)) initial ts
passed bytes ts t = passing (end_line 1 (cut (chars bytes))) (cut (chars bytes)) initial ts (pass_is_listed (end_line 1 (cut (chars bytes))) (cut (chars bytes)) ∙ t.lexed_)

pub every_character : (bytes : List ℕ) → EveryCharacterStands bytes
every_character bytes = record {
  spans = spans 1 0 (past_mark (chars bytes));
  tokens = λ ts t. (passed bytes ts t).all;
  no_bad = λ ts t. (passed bytes ts t).good;
}
