-- What begins once a function is bound is what asking it does.
use Rattle.std.proofs.Common.{◌≡◌, ℕ, List, [], ◌∷◌, ◌++◌, Option, Some, None, refl, sym, ap, ◌∙◌, arith, length, length-append}
use Rattle.std.specs.Prelude.{slice_get}
use Rattle.std.proofs.lemmas.List.{append-nil, append_assoc}
use Rattle.nu_value.specs.declared.header.Header.{Header}
use Rattle.nu_value.specs.declared.object.GenState.TheVariants as gen
use Rattle.nu_value.specs.declared.object.Object.{Object}
use Rattle.nu_value.specs.declared.object.Object.TheVariants as object
use Rattle.nu_value.specs.declared.value.Value.{Value}
use Rattle.nu_value.specs.declared.value.Value.TheVariants as value
use Rattle.nu_value.specs.Names.{NameList}
use Rattle.op_forms.specs.declared.end.After.{After}
use Rattle.op_forms.specs.declared.end.OpEnd.{OpEnd}
use Rattle.op_forms.specs.Doing.{Did}
use Rattle.op_forms.proofs.Grown.{grown_is}
use Rattle.op_rules.specs.declared.binding.Bound.{Bound}
use Rattle.op_rules.specs.declared.binding.Bound.TheVariants.{Ready, Raise, Stop}
use Rattle.op_rules.specs.Binding.{Call, made_by, bound_code, bound_object, bound_function, generator_of, begun}
use Rattle.op_rules.specs.Finish.{value_after}
use Rattle.runtime_table.specs.Begun.{Begun}

-- what makes objects is ready
abbrev Makes : Bound → List Object → Type 0
Makes (Ready values) made = Unit {0}
Makes other made = made ≡ []

made_makes : (b : Bound) (c : Call) → Makes b (made_by b c)
made_makes (Ready values) c = tt
made_makes (Raise n args) c = refl
made_makes (Stop kind) c = refl

code_makes : (n : ℕ) (defaults : List Value) (keywords : NameList) (args : List Value) (names : NameList) (h : Option Header) → Makes (bound_code n defaults keywords args names h).bound (bound_code n defaults keywords args names h).made
code_makes n defaults keywords args names None = refl
code_makes n defaults keywords args names (Some h) = made_makes _ _

object_makes : (headers : List Header) (n : ℕ) (args : List Value) (names : NameList) (o : Option Object) → Makes (bound_object headers n args names o).bound (bound_object headers n args names o).made
object_makes headers n args names (Some (object.Function code defaults keywords cells)) = code_makes n defaults keywords args names (slice_get headers code)
object_makes headers n args names o = refl

did_by : (h : List Object) (f : ℕ) (a : After) (g : Option (ℕ × List Value)) (b : Bound) (made : List Object) (e : OpEnd) (new : List Object) → Makes b made → Begun f a g b (h ++ made) e new → Did (begun f a (length h) g b made) h new e
did_by h f a g (Raise n args) made e new m p = (p.0, p.1 ∙ ap (λ x. h ++ x) m ∙ append-nil h)
did_by h f a g (Stop kind) made e new m p = (p.0, p.1 ∙ ap (λ x. h ++ x) m ∙ append-nil h)
did_by h f a None (Ready values) made e new m p = (p.0, p.1 ∙ sym (grown_is h made))
did_by h f a (Some g) (Ready values) made e new m p =
    let o : Object = object.Generator g.0 gen.Fresh values g.1 in (
      p.0 ∙ ap (λ n. value_after a (value.Obj n)) (omega (arith, length-append h made)),
      p.1 ∙ append_assoc h made (o ∷ []) ∙ sym (grown_is h (made ++ o ∷ [])),
    )

pub begun_did : (h : List Object) (headers : List Header) (f : ℕ) (args : List Value) (names : NameList) (a : After) (e : OpEnd) (new : List Object)
    → Begun f a (generator_of headers (slice_get h f)) (bound_function h headers f args names).bound (h ++ (bound_function h headers f args names).made) e new
    → Did (begun f a (length h) (generator_of headers (slice_get h f)) (bound_function h headers f args names).bound (bound_function h headers f args names).made) h new e
begun_did h headers f args names a e new p =
    did_by h f a (generator_of headers (slice_get h f)) _ _ e new (object_makes headers (length h) args names (slice_get h f)) p
