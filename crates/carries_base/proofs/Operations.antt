-- Operations, pauses and bodies: what both sides do alike.
use Rattle.std.proofs.Common.{◌≡◌, ℕ, zero, suc, ◌≤◌, Bool, true, false, if◌then◌else◌, List, [], ◌∷◌, Option, Some, None, refl, sym, ap, ◌∙◌, subst}
use Rattle.nu_value.specs.declared.value.Value.{Value}
use Rattle.nu_value.specs.declared.value.Value.TheVariants as value
use Rattle.op_forms.specs.declared.end.After.{After}
use Rattle.op_forms.specs.declared.op.Op.{Op}
use Rattle.nu_rows.specs.Rows.{End, Next, Leave, Raised, Return, Stopped, Undefined, Step, How, Send, Throw, Back, Act, Sub, AtPause, AtEnd, Entry, Instead, sent}
use Rattle.nu_rows.specs.Words.{on_raised}
use Rattle.nu_rows.specs.Sim.{Ends}
use Rattle.nu_rows.specs.Matching.{Acts, Enters, Corresponding}
use Rattle.nu_rows.proofs.Congruence.{sub_both}
use Rattle.nu_calls.specs.Surroundings.{Surroundings, Scene, scene, kept_at, keep_at, with_kept}
use Rattle.nu_calls.specs.Ends.{Result, Gives, Raises, Stops, Unsaid, Ending, Begun, Over, Calls, Starts, Wakes, Began, begun_by, generator_paused, generator_ended, call_ended, inside, outside, at_line}
use Rattle.nu_calls.specs.Calls.{Pause, state_of, in_scene, end_of, effect_of, unsaid, given_back, back_in, leave_call, leave_generator, enters, calls, starts, goes_on, entry, began, operates, enlisted, on_line, operate, yields}
use Rattle.code_forms.specs.declared.operand.Argument.{Argument}
use Rattle.code_forms.specs.declared.operand.Operand.TheVariants as operand
use Rattle.node_tree.specs.Nodes as nodes
use Rattle.py_meaning.specs.Frames as python
use Rattle.carries_base.specs.Frames.{Homes, begun, behind, Holds, Facts, Fits, FramesAs}
use Rattle.carries_base.specs.Carries.{Setting, source, target, rows, columns, S, T, Tables, KeptAs, AroundAs, Outer, Correspond, At, EndsAs, BodyEnds, BegunAs, Agree, CarriedBy, CarriedTo, Carried}
use Rattle.carries_base.proofs.Facts.{Off, written, fresh}
use Rattle.carries_base.proofs.Carry.{States, AllEnds, nowhere, none_at, Settles, none_by, act_by, then_by, tidy_by, pause_by}

-- what a generator keeps changes on both sides
pub kept_as : (z : Setting) (tabs : Tables) (g : ℕ) (a : List (Option (Pause python.Frame))) (b : List (Option (Pause nodes.Frame))) (x : Option (Pause python.Frame)) (y : Option (Pause nodes.Frame)) → ((n : ℕ) → KeptAs z tabs (kept_at a n) (kept_at b n)) → KeptAs z tabs x y → (n : ℕ) → KeptAs z tabs (kept_at (keep_at a g x) n) (kept_at (keep_at b g y) n)
kept_as z tabs zero [] [] x y h k zero = k
kept_as z tabs zero [] [] x y h k (suc n) = tt
kept_as z tabs zero [] (b ∷ bs) x y h k zero = k
kept_as z tabs zero [] (b ∷ bs) x y h k (suc n) = h (suc n)
kept_as z tabs zero (a ∷ as_) [] x y h k zero = k
kept_as z tabs zero (a ∷ as_) [] x y h k (suc n) = h (suc n)
kept_as z tabs zero (a ∷ as_) (b ∷ bs) x y h k zero = k
kept_as z tabs zero (a ∷ as_) (b ∷ bs) x y h k (suc n) = h (suc n)
kept_as z tabs (suc g) [] [] x y h k zero = tt
kept_as z tabs (suc g) [] [] x y h k (suc n) = kept_as z tabs g [] [] x y (λ m. tt) k n
kept_as z tabs (suc g) [] (b ∷ bs) x y h k zero = h zero
kept_as z tabs (suc g) [] (b ∷ bs) x y h k (suc n) = kept_as z tabs g [] bs x y (λ m. h (suc m)) k n
kept_as z tabs (suc g) (a ∷ as_) [] x y h k zero = h zero
kept_as z tabs (suc g) (a ∷ as_) [] x y h k (suc n) = kept_as z tabs g as_ [] x y (λ m. h (suc m)) k n
kept_as z tabs (suc g) (a ∷ as_) (b ∷ bs) x y h k zero = h zero
kept_as z tabs (suc g) (a ∷ as_) (b ∷ bs) x y h k (suc n) = kept_as z tabs g as_ bs x y (λ m. h (suc m)) k n

-- the ends of an operation, where the states of its code correspond in this way: a value, an exception, a stop
abbrev pub OpEndsBy : (S → T → Type 0) → Ends S T
OpEndsBy C (Next v) s (Next w) t = (v ≡ w) × C s t
OpEndsBy C (Raised x) s (Raised y) t = (x ≡ y) × C s t
OpEndsBy C (Stopped i) s (Stopped j) t = i ≡ j
OpEndsBy C Undefined s Undefined t = Unit {0}
OpEndsBy C e s e' t = ⊥

-- with what is known then
abbrev pub OpEnds : Setting → Homes → Facts → AllEnds
OpEnds z h fs tabs = OpEndsBy (Correspond z h tabs fs)

-- what bodies end with corresponds, for what began them too
pub given_as : (z : Setting) (tabs : Tables) (e : End) (s : S) (e' : End) (t : T) → BodyEnds z tabs e s e' t → BodyEnds z tabs (given_back e) s (given_back e') t
given_as z tabs (Return v) s (Return w) t x = subst (λ u. BodyEnds z tabs (given_back (Return v)) s (given_back (Return u)) t) x.0 (go v)
  where
    go : (v : Value) → BodyEnds z tabs (given_back (Return v)) s (given_back (Return v)) t
    go value.Unset = tt
    go value.None = (refl, x.1)
    go (value.Bool b) = (refl, x.1)
    go (value.Int i) = (refl, x.1)
    go (value.Str i) = (refl, x.1)
    go (value.Obj i) = (refl, x.1)
given_as z tabs (Next v) s (Next w) t x = x
given_as z tabs (Leave i) s (Leave j) t x = x
given_as z tabs (Raised i) s (Raised j) t x = x
given_as z tabs (Stopped i) s (Stopped j) t x = x
given_as z tabs Undefined s Undefined t x = x
given_as z tabs e s e' t x = absurd x

-- the states of the code that does an operation correspond: it is one code, in corresponding surroundings, whichever these are
module _ (z : Setting) (tabs : Tables) (C : S → T → Type 0) (outer : (s : S) (t : T) → C s t → Outer z tabs s t) (caller : (s : S) (t : T) (a : Surroundings (Pause python.Frame)) (b : Surroundings (Pause nodes.Frame)) → C s t → AroundAs z tabs a b → C (state_of s.frame a) (state_of t.frame b)) where
  -- both go to one scene
  pub scene_as : (s : S) (t : T) (a b : Scene) → a ≡ b → C s t → C (in_scene s a) (in_scene t b)
  scene_as s t a b e x = caller s t _ _ x (record { scenes = e; kept = (outer s t x).around.kept })

  pub result_as : (s : S) (t : T) (r : Result) → C s t → OpEndsBy C (end_of r) s (end_of r) t
  result_as s t (Gives v) x = (refl, x)
  result_as s t (Raises e) x = (refl, x)
  result_as s t (Stops kind) x = refl
  result_as s t Unsaid x = tt

  effect_as : (s : S) (t : T) (x : Ending) → C s t → Acts (OpEndsBy C) (effect_of s [] x) (effect_of t [] x)
  effect_as s t x c = record { outs = refl; ends = result_as (in_scene s x.scene) (in_scene t x.scene) x.result (scene_as s t x.scene x.scene refl c) }

  call_as : (s : S) (t : T) (after : After) (a b : Scene) → a ≡ b → (e : End) (u : S) (e' : End) (v : T) → C s t → BodyEnds z tabs e u e' v → Acts (OpEndsBy C) (effect_of (state_of s.frame u.around) [] (call_ended z.rules after a e)) (effect_of (state_of t.frame v.around) [] (call_ended z.rules after b e'))
  call_as s t after a b ab (Next x) u (Next y) v c k = subst (λ o. Acts (OpEndsBy C) (effect_of (state_of s.frame u.around) [] (call_ended z.rules after a (Next x))) (effect_of (state_of t.frame v.around) [] (call_ended z.rules after o (Next y)))) ab (effect_as _ _ (call_ended z.rules after a (Next x)) (caller s t u.around v.around c k.around))
  call_as s t after a b ab (Leave i) u (Leave j) v c k = record { outs = refl; ends = tt }
  call_as s t after a b ab (Raised x) u (Raised y) v c k = record { outs = refl; ends = (k.0, scene_as _ _ a b ab (caller s t u.around v.around c k.1.around)) }
  call_as s t after a b ab (Return x) u (Return y) v c k = subst (λ o. Acts (OpEndsBy C) (effect_of (state_of s.frame u.around) [] (call_ended z.rules after a (Return x))) (effect_of (state_of t.frame v.around) [] (call_ended z.rules after o (Return y)))) ab
      (subst (λ w. Acts (OpEndsBy C) (effect_of (state_of s.frame u.around) [] (call_ended z.rules after a (Return x))) (effect_of (state_of t.frame v.around) [] (call_ended z.rules after a (Return w)))) k.0 (effect_as _ _ (call_ended z.rules after a (Return x)) (caller s t u.around v.around c k.1.around)))
  call_as s t after a b ab (Stopped i) u (Stopped j) v c k = record { outs = refl; ends = k }
  call_as s t after a b ab Undefined u Undefined v c k = record { outs = refl; ends = tt }
  call_as s t after a b ab e u e' v c k = absurd k

  generator_as : (s : S) (t : T) (g : ℕ) (closing : Bool) (a b : Scene) → a ≡ b → (e : End) (u : S) (e' : End) (v : T) → C s t → BodyEnds z tabs e u e' v → Acts (OpEndsBy C) (effect_of (state_of s.frame u.around) [] (generator_ended a g closing e)) (effect_of (state_of t.frame v.around) [] (generator_ended b g closing e'))
  generator_as s t g closing a b ab (Next x) u (Next y) v c k = subst (λ o. Acts (OpEndsBy C) (effect_of (state_of s.frame u.around) [] (generator_ended a g closing (Next x))) (effect_of (state_of t.frame v.around) [] (generator_ended o g closing (Next y)))) ab (effect_as _ _ (generator_ended a g closing (Next x)) (caller s t u.around v.around c k.around))
  generator_as s t g closing a b ab (Leave i) u (Leave j) v c k = record { outs = refl; ends = tt }
  generator_as s t g closing a b ab (Raised x) u (Raised y) v c k = subst (λ o. Acts (OpEndsBy C) (effect_of (state_of s.frame u.around) [] (generator_ended a g closing (Raised x))) (effect_of (state_of t.frame v.around) [] (generator_ended o g closing (Raised y)))) ab
      (subst (λ w. Acts (OpEndsBy C) (effect_of (state_of s.frame u.around) [] (generator_ended a g closing (Raised x))) (effect_of (state_of t.frame v.around) [] (generator_ended a g closing (Raised w)))) k.0 (effect_as _ _ (generator_ended a g closing (Raised x)) (caller s t u.around v.around c k.1.around)))
  generator_as s t g closing a b ab (Return x) u (Return y) v c k = subst (λ o. Acts (OpEndsBy C) (effect_of (state_of s.frame u.around) [] (generator_ended a g closing (Return x))) (effect_of (state_of t.frame v.around) [] (generator_ended o g closing (Return y)))) ab
      (subst (λ w. Acts (OpEndsBy C) (effect_of (state_of s.frame u.around) [] (generator_ended a g closing (Return x))) (effect_of (state_of t.frame v.around) [] (generator_ended a g closing (Return w)))) k.0 (effect_as _ _ (generator_ended a g closing (Return x)) (caller s t u.around v.around c k.1.around)))
  generator_as s t g closing a b ab (Stopped i) u (Stopped j) v c k = record { outs = refl; ends = k }
  generator_as s t g closing a b ab Undefined u Undefined v c k = record { outs = refl; ends = tt }
  generator_as s t g closing a b ab e u e' v c k = absurd k

  module _ (L : ℕ) (agree : Agree z tabs L) (s : S) (t : T) (x : C s t) where
    both : Outer z tabs s t
    both = outer s t x

    back_as : (a : Surroundings (Pause python.Frame)) (b : Surroundings (Pause nodes.Frame)) → AroundAs z tabs a b → back_in (source z) s.frame a ≡ back_in (target z) t.frame b
    back_as a b y = ap (λ u. outside z.rules z.script.scripts u s.frame.code) y.scenes ∙ ap (λ n. outside z.rules z.script.scripts (scene b) n) both.code

    abbrev pub Meets : Entry S python.Item → Entry T nodes.Item → Type 1
    Meets = Corresponding (rows z) (columns z) L (OpEndsBy C)

    pub nothing_as : Meets (Instead (unsaid s)) (Instead (unsaid t))
    nothing_as = record { places = λ p s q t. ⊥; ends = λ e s e' t. ⊥; entries = record { outs = refl; ends = tt } }

    -- the states in which a body begins
    entered_as : (a : Surroundings (Pause python.Frame)) (b : Surroundings (Pause nodes.Frame)) (code : ℕ) (hs : Homes) (gs : Facts) (f : python.Frame) (g : nodes.Frame) → AroundAs z tabs a b → FramesAs hs gs f g → Correspond z hs tabs gs (enters (source z) a code f) (enters (target z) b code g)
    entered_as a b code hs gs f g y w = record { frames = w; around = record { scenes = ap (λ u. inside z.rules z.script.scripts u code) y.scenes; kept = y.kept } }

    pub calls_as : (code : ℕ) (after : After) (f : Option python.Frame) (g : Option nodes.Frame) → BegunAs (z.homes code) f g → Meets (calls (source z) s code after f) (calls (target z) t code after g)
    calls_as code after None None b = nothing_as
    calls_as code after None (Some g) b = absurd b
    calls_as code after (Some f) None b = absurd b
    calls_as code after (Some f) (Some g) b = record {
      places = At z (z.homes code) tabs (tabs code);
      ends = BodyEnds z tabs;
      entries = record {
        both = (agree.bodies code).begins _ _ (entered_as s.around t.around code (begun (z.homes code)) [] f g both.around b);
        at_pause = λ p s q t v y. record { outs = refl; ends = tt };
        at_end = λ e u e' v y. ended e u e' v y;
      };
    }
      where
        ended : (e : End) (u : S) (e' : End) (v : T) → BodyEnds z tabs e u e' v → Acts (OpEndsBy C) (leave_call (source z) s.frame after (AtEnd u e)) (leave_call (target z) t.frame after (AtEnd v e'))
        ended (Next i) u (Next j) v y = call_as s t after _ _ (back_as u.around v.around y.around) (Next i) u (Next j) v x y
        ended (Leave i) u (Leave j) v y = record { outs = refl; ends = tt }
        ended (Raised i) u (Raised j) v y = call_as s t after _ _ (back_as u.around v.around y.1.around) (Raised i) u (Raised j) v x y
        ended (Return i) u (Return j) v y = call_as s t after _ _ (back_as u.around v.around y.1.around) (given_back (Return i)) u (given_back (Return j)) v x (given_as z tabs (Return i) u (Return j) v y)
        ended (Stopped i) u (Stopped j) v y = record { outs = refl; ends = y }
        ended Undefined u Undefined v y = record { outs = refl; ends = tt }
        ended e u e' v y = absurd y

    resumed : (g code : ℕ) (closing : Bool) (e : End) (u : S) (e' : End) (v : T) → BodyEnds z tabs e u e' v → Acts (OpEndsBy C) (leave_generator (source z) s.frame g code closing (AtEnd u e)) (leave_generator (target z) t.frame g code closing (AtEnd v e'))
    resumed g code closing (Next i) u (Next j) v y = generator_as s t g closing _ _ (back_as u.around v.around y.around) (Next i) u (Next j) v x y
    resumed g code closing (Leave i) u (Leave j) v y = record { outs = refl; ends = tt }
    resumed g code closing (Raised i) u (Raised j) v y = generator_as s t g closing _ _ (back_as u.around v.around y.1.around) (Raised i) u (Raised j) v x y
    resumed g code closing (Return i) u (Return j) v y = generator_as s t g closing _ _ (back_as u.around v.around y.1.around) (given_back (Return i)) u (given_back (Return j)) v x (given_as z tabs (Return i) u (Return j) v y)
    resumed g code closing (Stopped i) u (Stopped j) v y = record { outs = refl; ends = y }
    resumed g code closing Undefined u Undefined v y = record { outs = refl; ends = tt }
    resumed g code closing e u e' v y = absurd y

    paused : (g code : ℕ) (closing : Bool) (p : List Step) (u : S) (q : List Step) (v : T) (w : Value) → At z (z.homes code) tabs (tabs code) p u q v → Acts (OpEndsBy C) (leave_generator (source z) s.frame g code closing (AtPause u w p)) (leave_generator (target z) t.frame g code closing (AtPause v w q))
    paused g code closing p u q v w y =
        let keeps : AroundAs z tabs (with_kept u.around g (Some (record { code = code; frame = u.frame; place = p }))) (with_kept v.around g (Some (record { code = code; frame = v.frame; place = q }))) = record { scenes = y.around.scenes; kept = kept_as z tabs g u.around.kept v.around.kept (Some (record { code = code; frame = u.frame; place = p })) (Some (record { code = code; frame = v.frame; place = q })) y.around.kept (refl, y.frames) } in
        subst (λ o. Acts (OpEndsBy C) (leave_generator (source z) s.frame g code closing (AtPause u w p)) (effect_of (state_of t.frame (with_kept v.around g (Some (record { code = code; frame = v.frame; place = q })))) [] (generator_paused o g closing w))) (back_as u.around v.around y.around)
        (effect_as _ _ (generator_paused (back_in (source z) s.frame u.around) g closing w) (caller s t _ _ x keeps))

    starts_as : (g code : ℕ) (f : Option python.Frame) (k : Option nodes.Frame) → BegunAs (z.homes code) f k → Meets (starts (source z) s g code f) (starts (target z) t g code k)
    starts_as g code None None b = nothing_as
    starts_as g code None (Some k) b = absurd b
    starts_as g code (Some f) None b = absurd b
    starts_as g code (Some f) (Some k) b = record {
      places = At z (z.homes code) tabs (tabs code);
      ends = BodyEnds z tabs;
      entries = record {
        both = (agree.bodies code).begins _ _ (entered_as s.around t.around code (begun (z.homes code)) [] f k both.around b);
        at_pause = λ p u q v w y. paused g code false p u q v w y;
        at_end = λ e u e' v y. resumed g code false e u e' v y;
      };
    }

    wakes_as : (g : ℕ) (how : How) (closing : Bool) (a : Option (Pause python.Frame)) (b : Option (Pause nodes.Frame)) → KeptAs z tabs a b → Meets (goes_on (source z) s g how closing a) (goes_on (target z) t g how closing b)
    wakes_as g how closing None None k = nothing_as
    wakes_as g how closing None (Some b) k = absurd k
    wakes_as g how closing (Some a) None k = absurd k
    wakes_as g how closing (Some a) (Some b) k =
        let none : AroundAs z tabs (with_kept s.around g None) (with_kept t.around g None) = record { scenes = both.around.scenes; kept = kept_as z tabs g s.around.kept t.around.kept None None both.around.kept tt } in
        record {
          places = At z (z.homes a.code) tabs (tabs a.code);
          ends = BodyEnds z tabs;
          entries = subst (λ n. Enters (rows z) (columns z) L (OpEndsBy C) (At z (z.homes a.code) tabs (tabs a.code)) (BodyEnds z tabs) (python.OfCode a.code) (Back a.place how) (enters (source z) (with_kept s.around g None) a.code a.frame) (leave_generator (source z) s.frame g a.code closing) (nodes.OfCode n) (Back b.place how) (enters (target z) (with_kept t.around g None) n b.frame) (leave_generator (target z) t.frame g n closing)) k.0
              (record {
                both = (agree.bodies a.code).goes_on a.place b.place how _ _ (entered_as (with_kept s.around g None) (with_kept t.around g None) a.code (z.homes a.code) (tabs a.code a.place b.place) a.frame b.frame none k.1);
                at_pause = λ p u q v w y. paused g a.code closing p u q v w y;
                at_end = λ e u e' v y. resumed g a.code closing e u e' v y;
              });
        }

    entry_as : (b : Begun) → Meets (entry (source z) s b) (entry (target z) t b)
    entry_as (Over o r) = record { places = λ p s q t. ⊥; ends = λ e s e' t. ⊥; entries = record { outs = refl; ends = result_as s t r x } }
    entry_as (Calls code given cells after) = calls_as code after _ _ (agree.begins false code given cells)
    entry_as (Starts g code given cells) = starts_as g code _ _ (agree.begins true code given cells)
    entry_as (Wakes g how closing) = wakes_as g how closing _ _ (both.around.kept g)

  module _ (L : ℕ) (agree : Agree z tabs L) where
    pub began_as : (s : S) (t : T) (b : Began) → C s t → Corresponding (rows z) (columns z) L (OpEndsBy C) (began (source z) s b) (began (target z) t b)
    began_as s t b x = entry_as L agree (in_scene s b.scene) (in_scene t b.scene) (scene_as s t b.scene b.scene refl x) b.begun

    -- an operation on values
    pub operates_as : (o : Op) (args : List Value) (s : S) (t : T) → C s t → Corresponding (rows z) (columns z) L (OpEndsBy C) (operates (source z) o args s) (operates (target z) o args t)
    operates_as o args s t x = subst (λ a. Corresponding (rows z) (columns z) L (OpEndsBy C) (operates (source z) o args s) (if z.rules.fits o a.world args then began (target z) t (begun_by z.script.scripts a (z.rules.apply o a.world args)) else Instead (unsaid t))) (outer s t x).around.scenes
        (go (z.rules.fits o s.around.world args))
      where
        go : (fits : Bool) → Corresponding (rows z) (columns z) L (OpEndsBy C) (if fits then began (source z) s (begun_by z.script.scripts (scene s.around) (z.rules.apply o s.around.world args)) else Instead (unsaid s)) (if fits then began (target z) t (begun_by z.script.scripts (scene s.around) (z.rules.apply o s.around.world args)) else Instead (unsaid t))
        go true = began_as s t (begun_by z.script.scripts (scene s.around) (z.rules.apply o s.around.world args)) x
        go false = record { places = λ p s q t. ⊥; ends = λ e s e' t. ⊥; entries = record { outs = refl; ends = tt } }

module _ (z : Setting) (h : Homes) where
  outer_of : (tabs : Tables) (fs : Facts) (s : S) (t : T) → Correspond z h tabs fs s t → Outer z tabs s t
  outer_of tabs fs s t x = record { code = x.frames.code; around = x.around }

  caller_of : (tabs : Tables) (fs : Facts) (s : S) (t : T) (a : Surroundings (Pause python.Frame)) (b : Surroundings (Pause nodes.Frame)) → Correspond z h tabs fs s t → AroundAs z tabs a b → Correspond z h tabs fs (state_of s.frame a) (state_of t.frame b)
  caller_of tabs fs s t a b x y = record { frames = x.frames; around = y }

  -- an operation, whose arguments have these values
  pub operation_by : (fs : Facts) (o : Op) (vs : python.Frame → List Value) (args : List Argument) → ((tabs : Tables) (s : S) (t : T) → Correspond z h tabs fs s t → nodes.values t.frame args ≡ Some (vs s.frame)) → CarriedTo z h (OpEnds z h fs) fs (Sub (λ s. operates (source z) o (vs s.frame) s)) (Sub (λ t. nodes.operates_on (target z) o t (nodes.values t.frame args)))
  operation_by fs o vs args known = record {
    places = nowhere;
    sim = λ tabs L agree. sub_both (rows z) (columns z) L (At z h tabs nowhere) (Correspond z h tabs fs) (OpEnds z h fs tabs) _ _ (none_at z h tabs)
        (λ s t x. subst (λ u. Corresponding (rows z) (columns z) L (OpEnds z h fs tabs) (operates (source z) o (vs s.frame) s) (nodes.operates_on (target z) o t u)) (sym (known tabs s t x)) (operates_as z tabs (Correspond z h tabs fs) (outer_of tabs fs) (caller_of tabs fs) L agree o (vs s.frame) s t x));
  }

  -- an exception gets an entry
  pub line_by : (Pre : States) (fs : Facts) (line : ℕ) (r : python.R) (c : nodes.R) → CarriedBy z h Pre (OpEnds z h fs) r c → CarriedBy z h Pre (OpEnds z h fs) (on_line (source z) line r) (on_line (target z) line c)
  line_by Pre fs line r c x = then_by z h Pre (OpEnds z h fs) (OpEnds z h fs) r c _ _ x next
    where
      next : (e e' : End) → CarriedBy z h (λ tabs s t. OpEnds z h fs tabs e s e' t) (OpEnds z h fs) (on_raised (λ e. Act (λ s. record { out = []; state = enlisted (source z) line e s; end = Raised e })) e) (on_raised (λ e. Act (λ s. record { out = []; state = enlisted (target z) line e s; end = Raised e })) e')
      next (Next v) (Next w) = act_by z h _ (OpEnds z h fs) _ _ (λ tabs s t y. (refl, y))
      next (Raised v) (Raised w) = act_by z h _ (OpEnds z h fs) _ _ (λ tabs s t y. (refl, (y.0, scene_as z tabs (Correspond z h tabs fs) (outer_of tabs fs) (caller_of tabs fs) s t _ _ (ap (λ a. at_line z.script.scripts a s.frame.code line v) y.1.around.scenes ∙ ap (λ n. at_line z.script.scripts (scene t.around) n line v) y.1.frames.code ∙ ap (λ e. at_line z.script.scripts (scene t.around) t.frame.code line e) y.0) y.1)))
      next (Stopped v) (Stopped w) = act_by z h _ (OpEnds z h fs) _ _ (λ tabs s t y. (refl, y))
      next Undefined Undefined = act_by z h _ (OpEnds z h fs) _ _ (λ tabs s t y. (refl, y))
      next e e' = none_by z h _ (OpEnds z h fs) _ _ (λ tabs s t y. y)

  -- and the value goes to a temporary
  stored_done : (n : ℕ) (fs : Facts) (d : ℕ) → behind h ≤ d → Off d fs → Settles z h (OpEnds z h fs) (EndsAs z h n (λ v. Holds (operand.Temp d) v ∷ fs) fs) (nodes.stored d)
  stored_done n fs d le off tabs (Next v) s (Next w) t x = (Next value.None, nodes.writes t d w, record { bound = 0; by = refl }, fresh z h tabs fs d v w s t (sym x.0) le off x.1)
  stored_done n fs d le off tabs (Raised v) s (Raised w) t x = (Raised w, nodes.writes t d value.Unset, record { bound = 0; by = refl }, (x.0, written z h tabs fs d value.Unset s t le off x.1))
  stored_done n fs d le off tabs (Stopped v) s (Stopped w) t x = (Stopped w, t, record { bound = 0; by = refl }, x)
  stored_done n fs d le off tabs Undefined s Undefined t x = (Undefined, t, record { bound = 0; by = refl }, x)
  stored_done n fs d le off tabs e s e' t x = absurd x

  pub storing_by : (n : ℕ) (Pre : States) (fs : Facts) (d : ℕ) (r : python.R) (c : nodes.R) → behind h ≤ d → Off d fs → CarriedBy z h Pre (OpEnds z h fs) r c → CarriedBy z h Pre (EndsAs z h n (λ v. Holds (operand.Temp d) v ∷ fs) fs) r (nodes.storing d c)
  storing_by n Pre fs d r c le off x = tidy_by z h Pre (OpEnds z h fs) (EndsAs z h n (λ v. Holds (operand.Temp d) v ∷ fs) fs) r c (nodes.stored d) (stored_done n fs d le off) x

  -- an operation of a line is carried by one statement
  pub do_carried : (n : ℕ) (fs : Facts) (line : ℕ) (o : Op) (vs : python.Frame → List Value) (d : ℕ) (args : List Argument) → behind h ≤ d → Off d fs → ((tabs : Tables) (s : S) (t : T) → Correspond z h tabs fs s t → nodes.values t.frame args ≡ Some (vs s.frame)) → Carried z h n (λ v. Holds (operand.Temp d) v ∷ fs) fs (on_line (source z) line (Sub (λ s. operates (source z) o (vs s.frame) s))) (nodes.do_row (target z) d line o args)
  do_carried n fs line o vs d args le off known = storing_by n _ fs d _ _ le off (line_by _ fs line _ _ (operation_by fs o vs args known))

  -- with values that don't come from the frame
  pub operate_carried : (n : ℕ) (fs : Facts) (line : ℕ) (o : Op) (vs : List Value) (d : ℕ) (args : List Argument) → behind h ≤ d → Off d fs → ((c : Value) (g : nodes.Frame) → Fits fs c g → nodes.values g args ≡ Some vs) → Carried z h n (λ v. Holds (operand.Temp d) v ∷ fs) fs (operate (source z) line o vs) (nodes.do_row (target z) d line o args)
  operate_carried n fs line o vs d args le off known = do_carried n fs line o (λ f. vs) d args le off (λ tabs s t x. known s.frame.carried t.frame x.frames.facts)

  -- a pause
  sent_as : (fs : Facts) (tabs : Tables) (how : How) (s : S) (t : T) → Correspond z h tabs fs s t → OpEnds z h fs tabs (sent how) s (sent how) t
  sent_as fs tabs (Send v) s t x = (refl, x)
  sent_as fs tabs (Throw e) s t x = (refl, x)

  pub yields_by : (fs : Facts) (line : ℕ) (v : Value) → CarriedTo z h (OpEnds z h fs) fs (yields (source z) line v) (yields (target z) line v)
  yields_by fs line v = line_by _ fs line _ _ (pause_by z h fs (OpEnds z h fs) v (sent_as fs))
