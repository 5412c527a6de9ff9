-- How functions begin, and how they end for those that wait.
use Rattle.std.proofs.Common.{◌≡◌, ℕ, ◌+◌, ◌-◌, List, [], ◌∷◌, Option, Some, None, Bool, false, refl, sym, ap, ◌∙◌, append-nil, arith, length}
use Rattle.std.specs.Prelude.{nat_le}
use Rattle.nu_run.specs.Steps.{Stepped, More}
use Rattle.nu_value.specs.declared.value.Value.{Value}
use Rattle.op_rules.specs.TableRules.{table_rules}
use Rattle.op_forms.specs.declared.world.World.{World}
use Rattle.nu_rows.specs.Rows.{End}
use Rattle.nu_calls.specs.Surroundings.{Scene, keep_at, scene}
use Rattle.nu_calls.specs.Ends.{Began, Ending, Over, Result, ending, generator_paused, outside, world_of}
use Rattle.c_meaning.specs.declared.code.Body.{Body}
use Rattle.c_meaning.specs.declared.code.Code.{Code}
use Rattle.c_meaning.specs.declared.state.Activation.{Activation}
use Rattle.c_meaning.specs.declared.state.Kept.{Kept}
use Rattle.c_meaning.specs.declared.state.Purpose.{Purpose}
use Rattle.c_meaning.specs.declared.state.Purpose.TheVariants as purpose
use Rattle.c_meaning.specs.State.{State, fresh, keeping, undefined}
use Rattle.c_meaning.specs.Step.{Site, back, began, begins, begins_body, body_ended, ended, pauses, placed_at, settles, settles_at, site_in}
use Rattle.c_stack.specs.declared.execution.Execution.{Execution}
use Rattle.c_ends.specs.declared.outcome.Begun.{Begun}
use Rattle.c_ends.specs.declared.outcome.Outcome.{Outcome}
use Rattle.c_ends.specs.Outcomes.{BeginsAs, EndsAs, begun_of, result_of}
use Rattle.c_stack.specs.Frames.{GoesBack}
use Rattle.c_machine.specs.Effects.{ending_by, is_module, kept_by, resumer_of}
use Rattle.c_stack.specs.Standing.{Outside, scene_of, state_of}

-- what is over at once prints nothing
pub over_settles : (c : Code) (s : State) (x : Site) (r : Result) → begins table_rules c s x (Over [] r) ≡ settles table_rules c s x r
over_settles c s x r =
    ap (λ l. settles table_rules c (record { running = s.running; below = s.below; around = s.around; uncaught = s.uncaught; printed = l }) x r) (append-nil s.printed)

-- what an operation begins, in the world that it left
pub began_as : (c : Code) (x y : Execution) (at : Site) (f : Scene → Began) (full : Bool) (b : Begun) (w : Outside) (to : Stepped State)
    → nat_le 1000 (length x.below + 1) ≡ full → BeginsAs f full x.world y.world b → y ≡ record x { world = y.world }
    → begins table_rules c (state_of y w) at (begun_of b) ≡ to → began table_rules c (state_of x w) at (f (scene_of x w)) ≡ to
began_as c x y at f full b w to is h e go =
    ap (λ a. began table_rules c (state_of x w) at a) (h w.input (length x.below + 1) is)
    ∙ sym (ap (λ z. begins table_rules c (state_of z w) at (begun_of b)) e) ∙ go

-- a function that begins is one live frame more
pub entered : (c : Code) (x y : Execution) (w : Outside) (number : ℕ) (given cells : List Value) (slots : List (Option Value)) (p : Purpose) (body : Body)
    → y ≡ record x { running = fresh number body given cells slots p; below = x.running ∷ x.below; world = world_of table_rules c.scripts x.world number }
    → begins_body table_rules c (state_of x w) number given cells slots p (x.running ∷ x.below) (Some body) ≡ More (state_of y w)
entered c x y w number given cells slots p body e =
    let more : length x.below + 1 + 1 ≡ length (x.running ∷ x.below) + 1 = omega arith in
    ap (λ n. More (record {
      running = fresh number body given cells slots p;
      below = x.running ∷ x.below;
      around = record { world = world_of table_rules c.scripts x.world number; kept = x.kept; input = w.input; frames = n };
      uncaught = x.uncaught;
      printed = w.printed;
    })) more ∙ sym (ap (λ z. More (state_of z w)) e)

-- the function that waited has one live frame less around it
outside_is : (c : Code) (x y : Execution) (w : Outside) → GoesBack c x y → outside table_rules c.scripts (scene_of x w) y.running.function ≡ scene_of y w
outside_is c x y w g =
    let less : length (y.running ∷ y.below) + 1 - 1 ≡ length y.below + 1 = omega arith in
    ap (λ n. record { world = world_of table_rules c.scripts x.world y.running.function; input = w.input; frames = n }) (ap (λ l. length l + 1 - 1) g.below ∙ less)
    ∙ ap (λ v. record { world = v; input = w.input; frames = length y.below + 1 }) (sym g.world)

settled_back : (c : Code) (x y : Execution) (v : World) (w : Outside) (r : Ending) (o : Result) (to : Stepped State) → x.kept ≡ y.kept → x.uncaught ≡ y.uncaught
    → r ≡ ending (scene_of (record y { world = v }) w) o
    → settles_at table_rules c (state_of (record y { world = v }) w) (site_in (placed_at c y.running)) o ≡ to
    → back table_rules c (state_of x w) y.running y.below r ≡ to
settled_back c x y v w r o to k u e go = rw (e, k, u) go

ended_by : (c : Code) (s : State) (e : End) (p : Purpose) (a : Activation) (below : List Activation) → is_module p ≡ false
    → ended table_rules c s e p (a ∷ below) ≡ back table_rules c s a below (ending_by p (outside table_rules c.scripts (scene s.around) a.function) e)
ended_by c s e purpose.Module a below h = absurd (cc)
ended_by c s e (purpose.Call after) a below h = refl
ended_by c s e (purpose.Resume g what closing number) a below h = refl

-- a body ends for the function that waits
pub body_back : (c : Code) (x y z : Execution) (w : Outside) (e : End) (o : Outcome) (to : Stepped State) → is_module x.running.purpose ≡ false → GoesBack c x y
    → EndsAs (λ a. ending_by x.running.purpose a e) y.world z.world o → z ≡ record y { world = z.world }
    → settles_at table_rules c (state_of z w) (site_in (placed_at c z.running)) (result_of o) ≡ to
    → body_ended table_rules c (state_of x w) e ≡ to
body_back c x y z w e o to other g h is go =
    let r = ending_by x.running.purpose (outside table_rules c.scripts (scene_of x w) y.running.function) e in
    let ends : r ≡ ending (scene_of (record y { world = z.world }) w) (result_of o) =
    ap (λ a. ending_by x.running.purpose a e) (outside_is c x y w g) ∙ h w.input (length y.below + 1) in
    ap (λ l. ended table_rules c (state_of x w) e x.running.purpose l) g.below
    ∙ ended_by c (state_of x w) e x.running.purpose y.running y.below other
    ∙ settled_back c x y z.world w r (result_of o) to (sym g.kept) (sym g.uncaught) ends
    (sym (ap (λ k. settles_at table_rules c (state_of k w) (site_in (placed_at c k.running)) (result_of o)) is) ∙ go)

pub pauses_none : (c : Code) (s : State) (number : ℕ) (v : Option Value) (p : Purpose) (below : List Activation) → resumer_of p ≡ None → pauses table_rules c s number v p below ≡ undefined s
pauses_none c s number None p below h = refl
pauses_none c s number (Some v) purpose.Module below h = refl
pauses_none c s number (Some v) (purpose.Call after) below h = refl
pauses_none c s number (Some v) (purpose.Resume g what closing old) below h = absurd (cc)

pub pauses_alone : (c : Code) (s : State) (number : ℕ) (v : Option Value) (p : Purpose) → pauses table_rules c s number v p [] ≡ undefined s
pauses_alone c s number None p = refl
pauses_alone c s number (Some v) purpose.Module = refl
pauses_alone c s number (Some v) (purpose.Call after) = refl
pauses_alone c s number (Some v) (purpose.Resume g what closing old) = refl

abbrev number_in : Option (ℕ × Bool) → ℕ
number_in None = 0
number_in (Some p) = p.0

abbrev closing_in : Option (ℕ × Bool) → Bool
closing_in None = false
closing_in (Some p) = p.1

pauses_by : (c : Code) (s : State) (number : ℕ) (v : Value) (p : Purpose) (a : Activation) (below : List Activation) (g : ℕ) (closing : Bool) → resumer_of p ≡ Some (g, closing)
    → pauses table_rules c s number (Some v) p (a ∷ below)
    ≡ back table_rules c (keeping s g (Some (kept_by s.running number))) a below (generator_paused (outside table_rules c.scripts (scene s.around) a.function) g closing v)
pauses_by c s number v purpose.Module a below g closing h = absurd (cc)
pauses_by c s number v (purpose.Call after) a below g closing h = absurd (cc)
pauses_by c s number v (purpose.Resume g' what closing' old) a below g closing h =
    let one : g' ≡ g = ap number_in h in
    let two : closing' ≡ closing = ap closing_in h in
    rw (one, two) refl

-- a generator pauses for the function that waits
pub paused_back : (c : Code) (x y z : Execution) (w : Outside) (number g : ℕ) (closing : Bool) (v : Value) (o : Outcome) (to : Stepped State)
    → resumer_of x.running.purpose ≡ Some (g, closing) → GoesBack c x y
    → EndsAs (λ a. generator_paused a g closing v) y.world z.world o
    → z ≡ record y { kept = keep_at y.kept g (Some (kept_by x.running number)); world = z.world }
    → settles_at table_rules c (state_of z w) (site_in (placed_at c z.running)) (result_of o) ≡ to
    → pauses table_rules c (state_of x w) number (Some v) x.running.purpose x.below ≡ to
paused_back c x y z w number g closing v o to p b h is go =
    let r = generator_paused (outside table_rules c.scripts (scene_of x w) y.running.function) g closing v in
    let kept = λ (l : List (Option Kept)). keep_at l g (Some (kept_by x.running number)) in
    let ends : r ≡ ending (scene_of (record y { world = z.world }) w) (result_of o) =
    ap (λ a. generator_paused a g closing v) (outside_is c x y w b) ∙ h w.input (length y.below + 1) in
    ap (λ l. pauses table_rules c (state_of x w) number (Some v) x.running.purpose l) b.below
    ∙ pauses_by c (state_of x w) number v x.running.purpose y.running y.below g closing p
    ∙ settled_back c (record x { kept = kept x.kept }) (record y { kept = kept y.kept }) z.world w r (result_of o) to (ap kept (sym b.kept)) (sym b.uncaught) ends
    (sym (ap (λ k. settles_at table_rules c (state_of k w) (site_in (placed_at c k.running)) (result_of o)) is) ∙ go)
