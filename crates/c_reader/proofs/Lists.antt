-- Options, and what stands at the front of a text.
use Rattle.std.proofs.Common.{◌≡◌, ℕ, ◌+◌, Bool, not, arith, true, false, length, take, drop, Bor, List, ◌++◌, Option, Some, None, IfSome, IfNone, MatchOption}
use Rattle.std.specs.Option.{is_some}
use Rattle.std.specs.Str.{bytes_eq}
use Rattle.std.proofs.lemmas.Bool.Decides.{Decides-eqb}
use Rattle.std.proofs.lemmas.Slice.Eq.{strip_prefix_is}

-- what `strip_prefix` says of its result
abbrev Strips : List ℕ → List ℕ → Option (Bor (List ℕ)) → Type 0
Strips text literal r =
    MatchOption r (bytes_eq (take (length literal) text) literal ≡ false)
    (λ x. (bytes_eq (take (length literal) text) literal ≡ true) × (x.now ≡ drop (length literal) text) × (length x.now + length literal ≡ length text))

pub stripped_some : (text literal : List ℕ) (r : Option (Bor (List ℕ))) → Strips text literal r → IfSome r (λ x. text ≡ literal ++ x.now)
stripped_some text literal None h = tt
stripped_some text literal (Some x) h = strip_prefix_is Decides-eqb text literal (Some x) h

pub stripped_none : (text literal : List ℕ) (r : Option (Bor (List ℕ))) → Strips text literal r → IfNone r ((rest : List ℕ) → text ≡ literal ++ rest → ⊥)
stripped_none text literal None h = strip_prefix_is Decides-eqb text literal None h
stripped_none text literal (Some x) h = tt

pub when_is_none : {A : Type 0} (o : Option A) (P : Type 0) (b : Bool) → is_some o ≡ not b → b ≡ true → IfNone o P → P
when_is_none None P b e h p = p
when_is_none (Some x) P b e h p = grind (arith, e, h)

pub when_is_some : {A : Type 0} (o : Option A) (Q : A → Type 0) (b : Bool) → is_some o ≡ not b → b ≡ false → IfSome o Q → (x : A) × Q x
when_is_some None Q b e h p = grind (arith, e, h)
when_is_some (Some x) Q b e h p = (x, p)

-- the text begins with a piece, or it doesn't, as a test says
pub begins_not : (text literal : List ℕ) (o : Option (Bor (List ℕ))) (b : Bool) → is_some o ≡ not b → b ≡ true → IfNone o ((rest : List ℕ) → text ≡ literal ++ rest → ⊥) → (rest : List ℕ) → text ≡ literal ++ rest → ⊥
begins_not text literal o b e h p = when_is_none o ((rest : List ℕ) → text ≡ literal ++ rest → ⊥) b e h p

pub begins : (text literal : List ℕ) (o : Option (Bor (List ℕ))) (b : Bool) → is_some o ≡ not b → b ≡ false → IfSome o (λ rest. text ≡ literal ++ rest.now) → (rest : List ℕ) × (text ≡ literal ++ rest)
begins text literal o b e h p = let found = when_is_some o (λ rest. text ≡ literal ++ rest.now) b e h p in (found.0.now, found.1)
