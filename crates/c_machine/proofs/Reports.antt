-- The text of an exception that leaves a module.
use Rattle.std.proofs.Common.{◌≡◌, ℕ, ◌+◌, ◌-◌, List, [], ◌∷◌, Option, Some, None, true, false, refl, sym, ap, subst, ◌∙◌, append-nil, length, slice_get}
use Rattle.nu_run.specs.Steps.{Stepped, Halt}
use Rattle.nu_value.specs.declared.object.Object.{Object}
use Rattle.nu_value.specs.declared.object.Object.TheVariants as object
use Rattle.nu_value.specs.declared.value.Value.{Value}
use Rattle.nu_value.specs.declared.value.Value.TheVariants as value
use Rattle.op_forms.specs.declared.end.After.{After}
use Rattle.op_forms.specs.declared.end.After.TheVariants as after
use Rattle.op_forms.specs.declared.end.OpEnd.{OpEnd}
use Rattle.op_forms.specs.declared.world.World.{World}
use Rattle.op_forms.specs.Doing.{DidIn}
use Rattle.op_rules.specs.Binding.{bind}
use Rattle.op_rules.specs.TableRules.{table_rules}
use Rattle.nu_rows.specs.Rows.{End}
use Rattle.nu_calls.specs.Ends.{Gives, Over, Result, begun, call_ended, world_of}
use Rattle.c_meaning.specs.declared.code.Code.{Code}
use Rattle.c_meaning.specs.declared.state.Purpose.{Purpose}
use Rattle.c_meaning.specs.declared.state.Purpose.TheVariants as purpose
use Rattle.c_meaning.specs.declared.state.Uncaught.{Uncaught}
use Rattle.c_meaning.specs.State.{State, halted, undefined}
use Rattle.c_meaning.specs.Step.{asks_function, asks_report, body_ended, ended, report_begins, report_began, report_ended, reported}
use Rattle.c_stack.specs.declared.execution.Execution.{Execution}
use Rattle.c_ends.specs.declared.outcome.Begun.{Begun}
use Rattle.c_ends.specs.declared.outcome.Outcome.{Outcome}
use Rattle.c_ends.specs.Outcomes.{BeginsAs, EndsAs, begun_of, in_world, result_of}
use Rattle.c_machine.specs.Effects.{function_if, function_in, is_module, left_alone}
use Rattle.c_stack.specs.Standing.{Outside, state_of}
use Rattle.c_machine.specs.Effects.{is_function}

function_none : (c : Code) (s : State) (u : Uncaught) (f : ℕ) (o : Option Object) → function_if f o ≡ None → asks_function table_rules c s u f o ≡ halted s (reported table_rules c u (Gives value.None))
function_none c s u f (Some (object.Function code defaults keywords cells)) h = absurd (cc)
function_none c s u f other h = refl

-- there is no such function
pub asks_none : (c : Code) (s : State) (u : Uncaught) (o : Option Value) → function_in s.around.world.heap o ≡ None → asks_report table_rules c s u o ≡ halted s (reported table_rules c u (Gives value.None))
asks_none c s u (Some (value.Obj f)) h = function_none c s u f (slice_get s.around.world.heap f) h
asks_none c s u other h = refl

if_function : (n f : ℕ) (o : Option Object) → function_if n o ≡ Some f → (n ≡ f) × (is_function o ≡ true)
if_function n f (Some (object.Function code defaults keywords cells)) h = (cc, refl)
if_function n f other h = absurd (cc)

-- there is one
pub asks_some : (c : Code) (s : State) (u : Uncaught) (o : Option Value) (f : ℕ) → function_in s.around.world.heap o ≡ Some f
    → asks_report table_rules c s u o ≡ asks_function table_rules c s u f (slice_get s.around.world.heap f)
asks_some c s u (Some (value.Obj n)) f h = ap (λ m. asks_function table_rules c s u m (slice_get s.around.world.heap m)) (if_function n f (slice_get s.around.world.heap n) h).0
asks_some c s u other f h = absurd (cc)

pub is_one : (heap : List Object) (o : Option Value) (f : ℕ) → function_in heap o ≡ Some f → is_function (slice_get heap f) ≡ true
is_one heap (Some (value.Obj n)) f h =
    let both = if_function n f (slice_get heap n) h in
    subst (λ m. is_function (slice_get heap m) ≡ true) both.0 both.1
is_one heap other f h = absurd (cc)

asked_by : (c : Code) (s : State) (u : Uncaught) (f : ℕ) (o : Option Object) → is_function o ≡ true → asks_function table_rules c s u f o
    ≡ asks_function table_rules c s u f (Some (object.Function 0 [] [] []))
asked_by c s u f (Some (object.Function code defaults keywords cells)) h = refl
asked_by c s u f other h = absurd (cc)

-- it is bound, and what it begins begins with no function below it
pub report_asked : (c : Code) (x : Execution) (mid new : World) (w : Outside) (u : Uncaught) (f : ℕ) (e : OpEnd) (b : Begun) (to : Stepped State)
    → is_function (slice_get x.world.heap f) ≡ true → DidIn (bind x.world f (value.Obj u.exception ∷ []) [] after.Plain) x.world mid e
    → BeginsAs (λ a. begun c.scripts a e) false mid new b
    → report_begins table_rules c (left_alone (state_of (record x { world = new }) w) u) u (begun_of b) ≡ to
    → asks_function table_rules c (left_alone (state_of x w) u) u f (slice_get x.world.heap f) ≡ to
report_asked c x mid new w u f e b to is did h go =
    let s = left_alone (state_of x w) u in
    asked_by c s u f (slice_get x.world.heap f) is
    ∙ ap (λ z. report_began table_rules c s u (begun c.scripts (in_world z w.input 0) (bind x.world f (value.Obj u.exception ∷ []) [] after.Plain).end)) (sym did.1)
    ∙ ap (λ z. report_began table_rules c s u (begun c.scripts (in_world mid w.input 0) z)) (sym did.0)
    ∙ ap (λ z. report_began table_rules c s u z) (h w.input 0 refl) ∙ go

-- what is over at once prints nothing
pub report_over : (c : Code) (s : State) (u : Uncaught) (r : Result) → report_begins table_rules c s u (Over [] r) ≡ Halt s.printed (reported table_rules c u r)
report_over c s u r = ap (λ l. Halt l (reported table_rules c u r)) (append-nil s.printed)

ended_alone : (c : Code) (s : State) (e : End) (p : Purpose) (u : Option Uncaught) → is_module p ≡ false → s.uncaught ≡ u → u ≡ None → ended table_rules c s e p [] ≡ undefined s
ended_alone c s e purpose.Module u h k n = absurd (cc)
ended_alone c s e (purpose.Call a) u h k n = ap (λ o. report_ended table_rules c s a e o) (k ∙ n)
ended_alone c s e (purpose.Resume g what closing number) u h k n = refl

-- the function for the text ends
pub report_over_by : (c : Code) (x : Execution) (new : World) (w : Outside) (e : End) (a : After) (u : Uncaught) (o : Outcome) → x.below ≡ [] → x.running.purpose ≡ purpose.Call a → x.uncaught ≡ Some u
    → EndsAs (λ s. call_ended table_rules a s e) (world_of table_rules c.scripts x.world u.function) new o
    → body_ended table_rules c (state_of x w) e ≡ Halt w.printed (reported table_rules c u (result_of o))
report_over_by c x new w e a u o alone call some h =
    ap (λ l. ended table_rules c (state_of x w) e x.running.purpose l) alone
    ∙ ap (λ p. ended table_rules c (state_of x w) e p []) call
    ∙ ap (λ v. report_ended table_rules c (state_of x w) a e v) some
    ∙ ap (λ r. Halt w.printed (reported table_rules c u r.result)) (h w.input (length x.below + 1 - 1))
