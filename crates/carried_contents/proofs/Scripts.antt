-- In the nodes of accepted scripts operations take what they are given, since their codes are lawful.
use Rattle.std.proofs.Common.{◌≡◌, ℕ, suc, ◌<◌, true, List, [], ◌∷◌, map, length, Some, refl, ◌∙◌, ap, subst, arith}
use Rattle.std.specs.Prelude.{slice_get, nat_lt}
use Rattle.std.proofs.lemmas.Bool.{lt-ltb}
use Rattle.std.proofs.lemmas.Option.{slice_get_within}
use Rattle.std.proofs.lemmas.List.{length-map}
use Rattle.std.specs.List.{AllByRecursion}
use Rattle.node_tree.specs.declared.script.NodeCode.{NodeCode}
use Rattle.py_meaning.specs.Syntax as syntax
use Rattle.py_safe.specs.Rosters.{Role, Roster, roster_of, IsCode}
use Rattle.py_safe.specs.Constructs.{LawfulCode, LawfulCodes}
use Rattle.py_accepted.specs.Laws.{AcceptedScriptsAreLawful}
use Rattle.carried_codes.specs.Laws.{AreMadeOf}
use Rattle.carried_contents.specs.Taking.{refused, unnumbered}
use Rattle.carried_contents.specs.Laws.{IsTaken, AcceptedScriptsAreTaken}
use Rattle.carried_contents.proofs.Codes.{code_taken}

-- a code of a roster has a number below their count
there : (role : ℕ → Role) (codes : List syntax.Code) (n : ℕ) (r : Role) → IsCode (roster_of role codes) n r → nat_lt n (length codes) ≡ true
there role codes n r i =
    let headers = map (λ (code : syntax.Code). code.header) codes in
    let l : n < length headers = slice_get_within headers n i.header i.at in
    let e : length headers ≡ length codes = length-map codes (λ (code : syntax.Code). code.header) in
    lt-ltb n (length codes) (omega (arith, l, e))

as_many : (codes : List syntax.Code) (nodes : List NodeCode) → AreMadeOf codes nodes → length codes ≡ length nodes
as_many [] [] m = refl
as_many [] (k ∷ ks) m = absurd m
as_many (x ∷ xs) [] m = absurd m
as_many (x ∷ xs) (k ∷ ks) m = let e = as_many xs ks m.1 in omega (arith, e)

each_taken : (c : Roster) (count : ℕ) (all : (n : ℕ) (role : Role) → IsCode c n role → nat_lt n count ≡ true) (roles : ℕ → Role) (codes : List syntax.Code) (nodes : List NodeCode)
    → ((n : ℕ) (code : syntax.Code) → slice_get codes n ≡ Some code → LawfulCode c (roles n) code) → AreMadeOf codes nodes → AllByRecursion (IsTaken count) nodes
each_taken c count all roles [] [] l m = tt
each_taken c count all roles [] (k ∷ ks) l m = absurd m
each_taken c count all roles (x ∷ xs) [] l m = absurd m
each_taken c count all roles (x ∷ xs) (k ∷ ks) l m =
    let t = code_taken c (roles 0) x (l 0 x refl) (λ n. nat_lt n count) all in
    ((ap refused m.0.body ∙ t.taken, ap (unnumbered (λ n. nat_lt n count)) m.0.body ∙ t.numbered), each_taken c count all (λ n. roles (suc n)) xs ks (λ n code e. l (suc n) code e) m.1)

all_taken : (role : ℕ → Role) (scripts : ℕ) (codes : List syntax.Code) (nodes : List NodeCode) → LawfulCodes role scripts codes → AreMadeOf codes nodes → AllByRecursion (IsTaken (length nodes)) nodes
all_taken role scripts codes nodes l m =
    each_taken (roster_of role codes) (length nodes) (λ n r i. subst (λ count. nat_lt n count ≡ true) (as_many codes nodes m) (there role codes n r i)) role codes nodes l.each m

pub accepted_taken : AcceptedScriptsAreLawful → AcceptedScriptsAreTaken
accepted_taken lawful = record {
  alone = λ script scoped nodes a m. all_taken _ _ _ nodes (lawful.alone script scoped a) m;
  with_text = λ script scoped text behind nodes a b m. all_taken _ _ _ nodes (lawful.with_text script scoped text behind a b) m;
}
