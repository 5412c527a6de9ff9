-- Positions among the values that a function sees, and an indentation that goes back to a level.
use Rattle.std.proofs.Common.{◌≡◌, ℕ, ◌+◌, ◌-◌, Bool, false, cond, not, nat_lt, List, [], ◌∷◌, ◌++◌, length, map, take, replicate, Some, None, Ok, refl, ap, ◌∙◌}
use Rattle.std.specs.List.{prefix_len, position}
use Rattle.std.proofs.lemmas.List.{length-map}
use Rattle.std.specs.Str.{bytes_eq}
use Rattle.py_ast.specs.declared.token.Token.{Token}
use Rattle.py_ast.specs.declared.token.TokenKind.TheVariants.{Dedent}
use Rattle.py_lexer.specs.Indentation.{at, top, is_front, kept, enter, Start}
use Rattle.py_lexer.specs.Seen.{lay}

pub prefix_len_map : {X Y : Type 0} (p : Y → Bool) (f : X → Y) (xs : List X) → prefix_len p (map f xs) ≡ prefix_len (λ x. p (f x)) xs
prefix_len_map p f [] = refl
prefix_len_map p f (x ∷ xs) = ap (λ n. cond (p (f x)) (1 + n) 0) (prefix_len_map p f xs)

pub position_map : {X Y : Type 0} (p : Y → Bool) (f : X → Y) (xs : List X) → position p (map f xs) ≡ position (λ x. p (f x)) xs
position_map p f xs =
    ap (λ n. cond (nat_lt n (length (map f xs))) (Some n) None) (prefix_len_map (λ y. not (p y)) f xs)
    ∙ ap (λ m. cond (nat_lt (prefix_len (λ x. not (p (f x))) xs) m) (Some (prefix_len (λ x. not (p (f x))) xs)) None) (length-map xs f)

-- back to a level
pub lay_back : (levels : List (List ℕ)) (tokens : List Token) (start : Start) (first keep : ℕ) → bytes_eq start.blank (top levels) ≡ false → is_front (top levels) start.blank ≡ false → Some keep ≡ kept levels start.blank
    → lay levels tokens start first ≡ Ok (take keep levels, tokens ++ replicate (length levels - keep) (at first Dedent))
unfolding enter
lay_back levels tokens start first keep other differs is = rw (other, differs, ← is) refl
