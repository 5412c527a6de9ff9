-- Operations take what lawful operands give.
use Rattle.std.proofs.Common.{◌≡◌, ℕ, Bool, true, false, not, ◌&&◌, if◌then◌else◌, List, [], ◌∷◌, map, Option, Some, None, refl, sym, ap, ◌∙◌, subst}
use Rattle.nu_value.specs.declared.value.Value.TheVariants as value
use Rattle.op_forms.specs.declared.op.Op.{Op}
use Rattle.op_forms.specs.declared.op.Op.TheVariants as op
use Rattle.op_forms.specs.declared.signature.ArgumentKind.{ArgumentKind}
use Rattle.op_forms.specs.declared.signature.ArgumentKind.TheVariants as kind
use Rattle.op_forms.specs.Signature.{arguments, further}
use Rattle.code_forms.specs.declared.operand.Argument.{Argument}
use Rattle.code_forms.specs.declared.operand.Argument.TheVariants as argument
use Rattle.code_forms.specs.declared.operand.Operand.{Operand}
use Rattle.code_forms.specs.Taking.{takes, all_taken, is_taken}
use Rattle.node_tree.specs.Blocks as tree
use Rattle.py_meaning.specs.Syntax as syntax
use Rattle.py_safe.specs.Rosters.{Roster}
use Rattle.py_safe.specs.Constructs.{Room, Serves, TakesTwo, LawfulOperands}
use Rattle.carries_base.specs.Frames.{Homes}
use Rattle.carries_base.specs.Carries.{Carrier}
use Rattle.carried_codes.specs.Operations.{is_name, argument_of, given, is_call, called, does}
use Rattle.carried_codes.specs.Nodes.{value, values}
use Rattle.carried_contents.specs.Taking.{is_function, has_number}
use Rattle.carried_contents.proofs.Held.{Held, done}

abbrev operands : List Carrier → List Operand
operands ps = map (λ (p : Carrier). p.value) ps

both_true : (a b : Bool) → a ≡ true → b ≡ true → (a && b) ≡ true
both_true true b p q = q
both_true false b p q = cc

-- what an expression gives, where it serves
serves : (h : Homes) (t : ℕ) (k : ArgumentKind) (x : syntax.Expression) → Serves k x → takes k (argument_of (is_name k) (value h t x).part.value) ≡ true
serves h t kind.Name (syntax.Constant (value.Str s)) u = refl
serves h t kind.Name x u = absurd u
serves h t kind.BuiltinName (syntax.Constant (value.Str s)) u = u
serves h t kind.BuiltinName (syntax.Constant v) u = cc
serves h t kind.BuiltinName x u = absurd u
serves h t kind.Value x u = refl
serves h t kind.Bool x u = refl
serves h t k x u = absurd u

-- further arguments are no names
abbrev IsPlain : Option ArgumentKind → Type 0
IsPlain None = Unit {0}
IsPlain (Some k) = is_name k ≡ false

further_plain : (o : Op) → IsPlain (further o)
further_plain op.Func = refl
further_plain op.Tuple = refl
further_plain op.List = refl
further_plain op.Call = refl
further_plain other = tt

serves_plain : (h : Homes) (t : ℕ) (k : ArgumentKind) (x : syntax.Expression) → is_name k ≡ false → Serves k x → takes k (argument.Value (value h t x).part.value) ≡ true
serves_plain h t k x e u =
    subst (λ b. takes k (argument_of b (value h t x).part.value) ≡ true) e (serves h t k x u)

module _ (c : Roster) (r : Room) (h : Homes) where
  all_given : (t : ℕ) (ks : List ArgumentKind) (more : Option ArgumentKind) (xs : syntax.Expressions) → IsPlain more → LawfulOperands c r ks more xs → all_taken ks more (given ks (operands (values h t xs).parts)) ≡ true
  all_given t [] more syntax.NoMore p l = refl
  all_given t [] None (syntax.More x xs) p l = absurd l
  all_given t [] (Some k) (syntax.More x xs) p l =
      both_true _ _ (serves_plain h t k x p l.0) (all_given (value h t x).next [] (Some k) xs p l.2)
  all_given t (k ∷ ks) more syntax.NoMore p l = absurd l
  all_given t (k ∷ ks) more (syntax.More x xs) p l =
      both_true _ _ (serves h t k x l.0) (all_given (value h t x).next ks more xs p l.2)

  no_function : (o : Op) (xs : syntax.Expressions) → LawfulOperands c r (arguments o) (further o) xs → is_function o ≡ false
  no_function op.Func syntax.NoMore l = absurd l
  no_function op.Func (syntax.More x xs) l = absurd l.0
  no_function other xs l = refl

values_taken : (os : List Operand) → all_taken [] (Some kind.Value) (map argument.Value os) ≡ true
values_taken [] = refl
values_taken (o ∷ os) = values_taken os

is_op_call : (o : Op) → is_call o ≡ true → o ≡ op.Call
is_op_call op.Call e = refl
is_op_call other e = cc

-- a statement of an operation, where it takes what it is given and is no function
pub given_held : {inside : ℕ → Bool} (t line : ℕ) (o : Op) (args : List Argument) → is_taken o args ≡ true → is_function o ≡ false → Held inside (tree.Do t line o args)
given_held {inside} t line o args e f =
    done (ap (λ b. if not b then 1 else 0) e) (ap (λ b. if not (if b then has_number inside args else true) then 1 else 0) f)

called_held : {inside : ℕ → Bool} (t line : ℕ) (os : List Operand) → is_taken op.Call (given (arguments op.Call) os) ≡ true → Held inside (called t line os)
called_held t line [] e = cc
called_held t line (f ∷ os) e = done (ap (λ b. if not b then 1 else 0) (values_taken os)) refl

does_by : {inside : ℕ → Bool} (t line : ℕ) (o : Op) (os : List Operand) (b : Bool) → is_call o ≡ b → is_taken o (given (arguments o) os) ≡ true → is_function o ≡ false → Held inside (does t line o os)
does_by {inside} t line o os true e taken f =
    subst (λ o. Held inside (does t line o os)) (sym (is_op_call o e)) (called_held t line os (subst (λ o. is_taken o (given (arguments o) os) ≡ true) (is_op_call o e) taken))
does_by {inside} t line o os false e taken f =
    subst (λ b. Held inside (if b then called t line os else tree.Do t line o (given (arguments o) os))) (sym e) (given_held t line o (given (arguments o) os) taken f)

pub does_held : {inside : ℕ → Bool} (c : Roster) (r : Room) (h : Homes) (t to line : ℕ) (o : Op) (xs : syntax.Expressions) → LawfulOperands c r (arguments o) (further o) xs → Held inside (does to line o (operands (values h t xs).parts))
does_held c r h t to line o xs l =
    does_by to line o (operands (values h t xs).parts) (is_call o) refl (all_given c r h t (arguments o) (further o) xs (further_plain o) l) (no_function c r h o xs l)

-- an operation on two values
function_no_two : (o : Op) → arguments o ≡ kind.Value ∷ kind.Value ∷ [] → is_function o ≡ false
function_no_two op.Func e = cc
function_no_two other e = refl

pub two_held : {inside : ℕ → Bool} (t line : ℕ) (o : Op) (a b : Operand) → TakesTwo o → Held inside (tree.Do t line o (argument.Value a ∷ argument.Value b ∷ []))
two_held t line o a b w =
    let args : List Argument = argument.Value a ∷ argument.Value b ∷ [] in
    let e : is_taken o args ≡ true =
    ap (λ ks. all_taken ks (further o) args) w.two ∙ ap (λ more. all_taken (kind.Value ∷ kind.Value ∷ []) more args) w.only in
    given_held t line o args e (function_no_two o w.two)
