-- Arguments that are missing.
use Rattle.std.proofs.Common.{◌≡◌, ℕ, ◌<◌, List, [], ◌∷◌, length, drop, ap, arith, Bool, false, Option, Some, None, nat_eq}
use Rattle.std.proofs.Math.Seq.{drop-cons}
use Rattle.std.proofs.lemmas.Bool.Decides.{nat_tests}
use Rattle.op_forms.specs.declared.signature.ArgumentKind.{ArgumentKind}
use Rattle.op_forms.specs.declared.signature.ArgumentKind.TheVariants as kind
use Rattle.code_forms.specs.declared.operand.Argument.{Argument}
use Rattle.code_forms.specs.Taking.{all_taken}

pub missing : (kinds : List ArgumentKind) (more : Option ArgumentKind) (i : ℕ) (left : List Argument) → i < length kinds → length left < 1 → all_taken (drop i kinds) more left ≡ false
missing kinds more i [] h short = ap (λ l. all_taken l more []) (drop-cons kinds i kind.Name h)
missing kinds more i (a ∷ left) h short = absurd (omega (arith, short))

pub none_taken : (more : Option ArgumentKind) (given : List Argument) (b : Bool) → more ≡ None → b ≡ nat_eq (length given) 0 → b ≡ all_taken [] more given
none_taken None [] b e h = h
none_taken None (a ∷ given) b e h = grind (arith, nat_tests, h)
none_taken (Some k) given b e h = absurd (grind (arith, e))
