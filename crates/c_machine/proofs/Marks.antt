-- Labels found among marks, and statements and functions taken from the last to the first.
use Rattle.std.proofs.Common.{◌≡◌, ℕ, ◌+◌, ◌<◌, List, [], ◌∷◌, ◌++◌, map, reverse, length, drop, get_or, refl, sym, ◌∙◌, ap, append_assoc, append-nil, Option, Some, None}
use Rattle.std.specs.Option.{option_and_then}
use Rattle.std.proofs.lemmas.List.{map-append, reverse-append, drop_more}
use Rattle.c_meaning.specs.declared.program.Line.{Line}
use Rattle.c_meaning.specs.declared.program.Line.TheVariants as line
use Rattle.c_meaning.specs.declared.program.Statement.{Statement}
use Rattle.c_meaning.specs.declared.code.Placed.{Placed}
use Rattle.c_meaning.specs.Code.{statements_of, goal_in, label_of, cases_of, placed}
use Rattle.c_machine.specs.Starting.{placed_by}

-- the image of one item more
pub image_more : {A B : Type 0} (f : A → B) (xs : List A) (i : ℕ) (d : A) (done new all : List B) → i < length xs → new ≡ done ++ f (get_or xs i d) ∷ [] → done ++ map f (drop i xs) ≡ all → new ++ map f (drop (i + 1) xs) ≡ all
image_more f xs i d done new all h e before =
    ap (λ l. l ++ map f (drop (i + 1) xs)) e ∙ append_assoc done (f (get_or xs i d) ∷ []) (map f (drop (i + 1) xs)) ∙ ap (λ l. done ++ map f l) (sym (drop_more xs i d h)) ∙ before

module _ (goals : ℕ → Option ℕ) (body : List Line) (same : (q : ℕ) → goals q ≡ goal_in 0 body q) where
  goals_same : (labels : List ℕ) → map goals labels ≡ map (goal_in 0 body) labels
  goals_same [] = refl
  goals_same (label ∷ labels) = ap (λ o. o ∷ map goals labels) (same label) ∙ ap (λ l. goal_in 0 body label ∷ l) (goals_same labels)

  one_same : (o : Option ℕ) → option_and_then goals o ≡ option_and_then (goal_in 0 body) o
  one_same None = refl
  one_same (Some label) = same label

  statement_same : (s : Statement) → placed_by goals s ≡ placed body s
  statement_same s =
      ap (λ o. record { statement = s; goal = o; cases = map goals (cases_of s) }) (one_same (label_of s))
      ∙ ap (λ l. record { statement = s; goal = option_and_then (goal_in 0 body) (label_of s); cases = l }) (goals_same (cases_of s))

  pub placed_same : (xs : List Statement) → map (placed_by goals) xs ≡ map (placed body) xs
  placed_same [] = refl
  placed_same (s ∷ xs) = ap (λ p. p ∷ map (placed_by goals) xs) (statement_same s) ∙ ap (λ l. placed body s ∷ l) (placed_same xs)

statements_append : (xs ys : List Line) → statements_of (xs ++ ys) ≡ statements_of xs ++ statements_of ys
statements_append [] ys = refl
statements_append (line.Do s ∷ xs) ys = ap (λ l. s ∷ l) (statements_append xs ys)
statements_append (line.Label n ∷ xs) ys = statements_append xs ys

-- one item of a list more, from the last to the first
pub one_more : {A B : Type 0} (f : A → B) (all xs : List A) (x : A) (ys zs : List B) → all ≡ xs ++ x ∷ [] → zs ≡ ys ++ f x ∷ [] → map f xs ++ reverse zs ≡ map f all ++ reverse ys
one_more f all xs x ys zs e z =
    ap (λ l. map f xs ++ reverse l) z ∙ ap (λ l. map f xs ++ l) (reverse-append ys (f x ∷ [])) ∙ sym (append_assoc (map f xs) (f x ∷ []) (reverse ys))
    ∙ ap (λ l. l ++ reverse ys) (sym (map-append f xs (x ∷ []))) ∙ ap (λ l. map f l ++ reverse ys) (sym e)

pub statements_do : (f : Statement → Placed) (all xs : List Line) (s : Statement) (l : Line) (ys zs : List Placed) → all ≡ xs ++ l ∷ [] → l ≡ line.Do s → zs ≡ ys ++ f s ∷ []
    → map f (statements_of xs) ++ reverse zs ≡ map f (statements_of all) ++ reverse ys
statements_do f all xs s l ys zs e is z =
    one_more f (statements_of all) (statements_of xs) s ys zs (ap statements_of e ∙ ap (λ l. statements_of (xs ++ l ∷ [])) is ∙ statements_append xs (line.Do s ∷ [])) z

pub statements_label : (f : Statement → Placed) (all xs : List Line) (n : ℕ) (l : Line) (ys : List Placed) → all ≡ xs ++ l ∷ [] → l ≡ line.Label n → map f (statements_of xs) ++ reverse ys ≡ map f (statements_of all) ++ reverse ys
statements_label f all xs n l ys e is =
    ap (λ l. map f l ++ reverse ys) (sym (append-nil (statements_of xs)) ∙ sym (statements_append xs (line.Label n ∷ [])) ∙ ap (λ l. statements_of (xs ++ l ∷ [])) (sym is) ∙ ap statements_of (sym e))
