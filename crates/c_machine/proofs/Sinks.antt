-- What outputs hold after several pieces.
use Rattle.std.proofs.Common.{◌≡◌, ℕ, List, [], ◌++◌, refl, sym, ◌∙◌, ap, subst, append_assoc, append-nil, Option, Some, None}
use Rattle.nu_base.specs.Outside.{Adds, AddsFront}
use Rattle.nu_run.specs.Runs.{IsPrefix}

pub adds_nothing : (held : Option (List ℕ)) → Adds held held []
adds_nothing None = tt
adds_nothing (Some bytes) = ap Some (sym (append-nil bytes))

pub adds_more : (a b c : Option (List ℕ)) (p q : List ℕ) → Adds a b p → Adds b c q → Adds a c (p ++ q)
adds_more None b c p q h k = tt
adds_more (Some xs) b c p q h k = subst (λ o. Adds o c q → c ≡ Some (xs ++ (p ++ q))) (sym h) (λ e. e ∙ ap Some (append_assoc xs p q)) k

pub adds_no_front : (a b : Option (List ℕ)) (piece : List ℕ) → b ≡ a → AddsFront a b piece
adds_no_front a b piece e = ([], piece, refl, subst (λ o. Adds a o []) (sym e) (adds_nothing a))

-- some pieces and then a front of one
pub adds_front : (a b c : Option (List ℕ)) (p q all : List ℕ) → Adds a b p → AddsFront b c q → IsPrefix (p ++ q) all → AddsFront a c all
adds_front a b c p q all h k whole = (
  p ++ k.0,
  k.1 ++ whole.rest,
  whole.is ∙ ap (λ l. p ++ l ++ whole.rest) k.2 ∙ ap (λ l. l ++ whole.rest) (sym (append_assoc p k.0 k.1)) ∙ append_assoc (p ++ k.0) k.1 whole.rest,
  adds_more a b c p k.0 h k.3,
)
