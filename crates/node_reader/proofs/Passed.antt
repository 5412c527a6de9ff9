-- Ends that are passed on.
use Rattle.std.proofs.Common.{◌≡◌, sym, subst, Result, Ok, Err, IfErr}
use Rattle.std.specs.Result.{IsErrAnd}
use Rattle.node_reader.specs.declared.end.Miss.{Miss}
use Rattle.node_reader.specs.declared.end.Miss.TheVariants as miss
use Rattle.node_reader.specs.Answers.{OnMiss}

pub passed : {A : Type 0} (r : Result A Miss) (e : Miss) (P Q : Type 0) → IsErrAnd r (λ x. x ≡ e) → (P → Q) → OnMiss e P → IfErr r (λ end. OnMiss end Q)
passed (Ok x) e P Q same f p = tt
passed (Err x) e P Q same f p = subst (λ y. OnMiss y Q) (sym same) (go e p)
  where
    go : (e : Miss) → OnMiss e P → OnMiss e Q
    go (miss.NotNodes left) p = f p
    go miss.Memory p = tt
