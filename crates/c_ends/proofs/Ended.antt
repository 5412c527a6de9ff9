-- Ways of ending and beginning that are the same in every scene of a world.
use Rattle.std.proofs.Common.{◌≡◌, ℕ, List, Bool, true, false, refl, sym, ap, ◌∙◌, [], ◌∷◌}
use Rattle.std.specs.Prelude.{codes}
use Rattle.op_forms.specs.declared.world.World.{World}
use Rattle.nu_value.specs.declared.value.Value.{Value}
use Rattle.nu_value.specs.declared.value.Value.TheVariants as value
use Rattle.op_forms.specs.declared.end.How.TheVariants as how
use Rattle.nu_calls.specs.Surroundings.{Scene}
use Rattle.nu_calls.specs.Exceptions.{is_kind}
use Rattle.nu_calls.specs.Ends.{Began, Ending, over, left_body, raises, raises_text, returned, runtime_error, stop_iteration, type_error, fresh_resumed}
use Rattle.c_ends.specs.declared.outcome.Begun.{Begun}
use Rattle.c_ends.specs.declared.outcome.Begun.TheVariants as begun
use Rattle.c_ends.specs.declared.outcome.Outcome.{Outcome}
use Rattle.c_ends.specs.Outcomes.{BeginsAs, EndsAs, in_world, is_none}

pub ends_by : (f g : Scene → Ending) (old new : World) (o : Outcome) → ((input : List ℕ) (frames : ℕ) → g (in_world old input frames) ≡ f (in_world old input frames))
    → EndsAs f old new o → EndsAs g old new o
ends_by f g old new o e h = λ input frames. e input frames ∙ h input frames

pub begins_by : (f g : Scene → Began) (full : Bool) (old new : World) (b : Begun) → ((input : List ℕ) (frames : ℕ) → g (in_world old input frames) ≡ f (in_world old input frames))
    → BeginsAs f full old new b → BeginsAs g full old new b
begins_by f g full old new b e h = λ input frames is. e input frames ∙ h input frames is

pub over_by : (f : Scene → Ending) (g : Scene → Began) (full : Bool) (old new : World) (o : Outcome) → ((input : List ℕ) (frames : ℕ) → g (in_world old input frames) ≡ over (f (in_world old input frames)))
    → EndsAs f old new o → BeginsAs g full old new (begun.Over o)
over_by f g full old new o e h = λ input frames is. e input frames ∙ ap over (h input frames)

-- after a change of the scene
pub ends_after : (f : Scene → Ending) (g : Scene → Scene) (old mid new : World) (o : Outcome) → ((input : List ℕ) (frames : ℕ) → g (in_world old input frames) ≡ in_world mid input frames)
    → EndsAs f mid new o → EndsAs (λ a. f (g a)) old new o
ends_after f g old mid new o e h = λ input frames. ap f (e input frames) ∙ h input frames

pub left_stopped : (a : Scene) (closing : Bool) (e : ℕ) → is_kind a.world.heap e stop_iteration ≡ true → left_body a closing e ≡ raises_text a runtime_error (codes "generator raised StopIteration")
left_stopped a closing e h = rw h refl

pub returned_none : (a : Scene) (v : Value) → is_none v ≡ true → returned a v ≡ raises a stop_iteration []
returned_none a value.None h = refl
returned_none a other h = absurd (cc)

pub returned_some : (a : Scene) (v : Value) → is_none v ≡ false → returned a v ≡ raises a stop_iteration (v ∷ [])
returned_some a value.None h = absurd (cc)
returned_some a other h = refl

pub none_is : (v : Value) → is_none v ≡ true → v ≡ value.None
none_is value.None h = refl
none_is other h = absurd (cc)

pub sent_some : (scripts : ℕ) (a : Scene) (g code : ℕ) (given cells : List Value) (v : Value) → is_none v ≡ false
    → fresh_resumed scripts a g code given cells (how.Send v) ≡ over (raises_text a type_error (codes "can't send non-None value to a just-started generator"))
sent_some scripts a g code given cells value.None h = absurd (cc)
sent_some scripts a g code given cells other h = refl

pub raises_same : (class : ℕ) (args args' : List Value) (old new : World) (o : Outcome) → args ≡ args' → EndsAs (λ a. raises a class args) old new o → EndsAs (λ a. raises a class args') old new o
raises_same class args args' old new o e h = λ input frames. ap (λ l. raises (in_world old input frames) class l) (sym e) ∙ h input frames
