-- A rewritten block does what the block did, from every start, and its ends are kept.
use Rattle.std.proofs.Common.{◌≡◌, ℕ, zero, suc, Bool, true, false, if◌then◌else◌, map, List, [], ◌∷◌, ◌++◌, Option, Some, None, refl, sym, ap, ◌∙◌}
use Rattle.std.specs.Prelude.{slice_get}
use Rattle.nu_value.specs.declared.object.Object.{Object}
use Rattle.nu_value.specs.declared.object.Object.TheVariants as object
use Rattle.nu_value.specs.declared.value.Value.{Value}
use Rattle.nu_value.specs.declared.value.Value.TheVariants as value
use Rattle.op_forms.specs.declared.end.After.{After}
use Rattle.op_forms.specs.declared.op.Op.{Op}
use Rattle.op_forms.specs.declared.op.Op.TheVariants as op
use Rattle.nu_rows.specs.Rows.{End, Next, Leave, Raised, Return, Stopped, Undefined, Step, First, Second, How, Send, Throw, Start, Begin, Back, Res, Spent, Paused, Ended, Effect, Act, Yld, Then, Loop, Sub, Left, AtPause, AtEnd, Entry, Into, Instead, shift, after, before, turned, left_by, entered, interp, run, does}
use Rattle.nu_rows.specs.Words.{ends_with, on_next, on_raised, choose}
use Rattle.nu_calls.specs.Surroundings.{scene}
use Rattle.nu_calls.specs.Ends.{Result, Gives, Raises, Stops, Unsaid, Begun, Over, Calls, Starts, Wakes, begun_by}
use Rattle.nu_calls.specs.Calls.{Pause, end_of, unsaid, leave_call, leave_generator, calls, starts, goes_on, entry, began, enlisted, on_line}
use Rattle.code_forms.specs.declared.operand.Argument.{Argument}
use Rattle.code_forms.specs.declared.operand.Argument.TheVariants as argument
use Rattle.code_forms.specs.declared.operand.Operand.{Operand}
use Rattle.code_forms.specs.declared.operand.Operand.TheVariants as operand
use Rattle.node_tree.specs.Blocks as tree
use Rattle.node_tree.specs.Nodes as nodes
use Rattle.node_redirect.specs.Redirect.{outward, leaves_by, leaves, return_flags, return_stores, leave_stores, redirect_form, redirect}
use Rattle.node_redirect.specs.Shown.{T, at_leave, nearest, shown_end, left_state, shown_state, shown, Exits, Redirected}

-- an end that shows as itself
abbrev IsStill : End → Type 0
IsStill (Leave j) = ⊥
IsStill (Return v) = ⊥
IsStill e = Unit {0}

module _ (l : nodes.L) (blocks : ℕ → tree.Block) (k : ℕ) where
  abbrev cols : nodes.Item → nodes.R
  cols = nodes.item_row l blocks

  abbrev Same : ℕ → nodes.R → nodes.R → Type 0
  Same d r c = Redirected l blocks k d r c

  module _ (d : ℕ) where
    shown_shift : (o : List ℕ) (x : Step) (r : Res T) → shown k d (shift o x r) ≡ shift o x (shown k d r)
    shown_shift o x (Spent p) = refl
    shown_shift o x (Paused p t v q) = refl
    shown_shift o x (Ended p t e) = refl

    shown_before : (o : List ℕ) (r : Res T) → shown k d (before o r) ≡ before o (shown k d r)
    shown_before o (Spent p) = refl
    shown_before o (Paused p t v q) = refl
    shown_before o (Ended p t e) = refl

    still : (o : List ℕ) (t : T) (e : End) → IsStill e → shown k d (Ended o t e) ≡ Ended o t e
    still o t (Next v) x = refl
    still o t (Leave j) x = absurd x
    still o t (Raised v) x = refl
    still o t (Return v) x = absurd x
    still o t (Stopped v) x = refl
    still o t Undefined x = refl

    act_same : (f : T → Effect T) → ((t : T) → IsStill (f t).end) → Same d (Act f) (Act f)
    act_same f x = record { same = go }
      where
        go : (start : Start) (t : T) (n : ℕ) → shown k d (does cols (Act f) start t n) ≡ does cols (Act f) start t n
        go Begin t n = still (f t).out (f t).state (f t).end (x t)
        go (Back p how) t n = refl

    ends_same : (e : End) → IsStill e → Same d (ends_with e) (ends_with e)
    ends_same e x = act_same (λ t. record { out = []; state = t; end = e }) (λ t. x)

    yld_same : (v : Value) → Same d (Yld v) (Yld v)
    yld_same v = record { same = go }
      where
        go : (start : Start) (t : T) (n : ℕ) → shown k d (does cols (Yld v) start t n) ≡ does cols (Yld v) start t n
        go Begin t n = refl
        go (Back [] (Send u)) t n = refl
        go (Back [] (Throw u)) t n = refl
        go (Back (x ∷ p) how) t n = refl

    -- a row and what follows its values and its exceptions
    module _ (r c : nodes.R) (K D : End → nodes.R) (first : Same d r c) (next : (v : Value) → Same d (K (Next v)) (D (Next v))) (raised : (x : ℕ) → Same d (K (Raised x)) (D (Raised x))) (exits : (e : End) → Exits e → K e ≡ ends_with e) (exits' : (e : End) → Exits e → D e ≡ ends_with e) where
      abbrev G : ℕ → End → T → Res T
      G n e t = interp (run cols n) (K e) Begin t

      abbrev H : ℕ → End → T → Res T
      H n e t = interp (run cols n) (D e) Begin t

      out : (n : ℕ) (o : List ℕ) (t : T) (e : End) → Exits e → Exits (shown_end d e) → shown k d (after (Ended o t e) (G n)) ≡ after (shown k d (Ended o t e)) (H n)
      out n o t e x y =
          ap (λ u. shown k d (shift o (Second e) (interp (run cols n) u Begin t))) (exits e x)
          ∙ sym (ap (λ u. shift o (Second (shown_end d e)) (interp (run cols n) u Begin (shown_state k d e t))) (exits' (shown_end d e) y))

      after_shown : (n : ℕ) (a : Res T) → shown k d (after a (G n)) ≡ after (shown k d a) (H n)
      after_shown n (Spent o) = refl
      after_shown n (Paused o t v p) = refl
      after_shown n (Ended o t (Next v)) = shown_shift o (Second (Next v)) (G n (Next v) t) ∙ ap (λ u. shift o (Second (Next v)) u) ((next v).same Begin t n)
      after_shown n (Ended o t (Raised v)) = shown_shift o (Second (Raised v)) (G n (Raised v) t) ∙ ap (λ u. shift o (Second (Raised v)) u) ((raised v).same Begin t n)
      after_shown n (Ended o t (Leave j)) = out n o t (Leave j) tt tt
      after_shown n (Ended o t (Return v)) = out n o t (Return v) tt tt
      after_shown n (Ended o t (Stopped v)) = out n o t (Stopped v) tt tt
      after_shown n (Ended o t Undefined) = out n o t Undefined tt tt

      back_out : (e : End) (p : List Step) (how : How) (t : T) (n : ℕ) → Exits e → shown k d (shift [] (Second e) (interp (run cols n) (K e) (Back p how) t)) ≡ shift [] (Second e) (interp (run cols n) (D e) (Back p how) t)
      back_out e p how t n x =
          ap (λ u. shown k d (shift [] (Second e) (interp (run cols n) u (Back p how) t))) (exits e x)
          ∙ sym (ap (λ u. shift [] (Second e) (interp (run cols n) u (Back p how) t)) (exits' e x))

      from : (start : Start) (t : T) (n : ℕ) → shown k d (does cols (Then r K) start t n) ≡ does cols (Then c D) start t n
      from Begin t n = after_shown n (does cols r Begin t n) ∙ ap (λ u. after u (H n)) (first.same Begin t n)
      from (Back [] how) t n = refl
      from (Back (First ∷ p) how) t n = after_shown n (does cols r (Back p how) t n) ∙ ap (λ u. after u (H n)) (first.same (Back p how) t n)
      from (Back (Second (Next v) ∷ p) how) t n = shown_shift [] (Second (Next v)) (does cols (K (Next v)) (Back p how) t n) ∙ ap (λ u. shift [] (Second (Next v)) u) ((next v).same (Back p how) t n)
      from (Back (Second (Raised v) ∷ p) how) t n = shown_shift [] (Second (Raised v)) (does cols (K (Raised v)) (Back p how) t n) ∙ ap (λ u. shift [] (Second (Raised v)) u) ((raised v).same (Back p how) t n)
      from (Back (Second (Leave j) ∷ p) how) t n = back_out (Leave j) p how t n tt
      from (Back (Second (Return v) ∷ p) how) t n = back_out (Return v) p how t n tt
      from (Back (Second (Stopped v) ∷ p) how) t n = back_out (Stopped v) p how t n tt
      from (Back (Second Undefined ∷ p) how) t n = back_out Undefined p how t n tt

      then_same : Same d (Then r K) (Then c D)
      then_same = record { same = from }

    next_exits : (K : Value → nodes.R) (e : End) → Exits e → on_next K e ≡ ends_with e
    next_exits K (Next v) x = absurd x
    next_exits K (Raised v) x = absurd x
    next_exits K (Leave v) x = refl
    next_exits K (Return v) x = refl
    next_exits K (Stopped v) x = refl
    next_exits K Undefined x = refl

    raised_exits : (K : ℕ → nodes.R) (e : End) → Exits e → on_raised K e ≡ ends_with e
    raised_exits K (Next v) x = absurd x
    raised_exits K (Raised v) x = absurd x
    raised_exits K (Leave v) x = refl
    raised_exits K (Return v) x = refl
    raised_exits K (Stopped v) x = refl
    raised_exits K Undefined x = refl

    stored_exits : (to : ℕ) (e : End) → Exits e → nodes.stored to e ≡ ends_with e
    stored_exits to (Next v) x = absurd x
    stored_exits to (Raised v) x = absurd x
    stored_exits to (Leave v) x = refl
    stored_exits to (Return v) x = refl
    stored_exits to (Stopped v) x = refl
    stored_exits to Undefined x = refl

    next_same : (r c : nodes.R) (K D : Value → nodes.R) → Same d r c → ((v : Value) → Same d (K v) (D v)) → Same d (Then r (on_next K)) (Then c (on_next D))
    next_same r c K D same next = then_same r c (on_next K) (on_next D) same next (λ x. ends_same (Raised x) tt) (next_exits K) (next_exits D)

    raised_same : (r c : nodes.R) (K D : ℕ → nodes.R) → Same d r c → ((x : ℕ) → Same d (K x) (D x)) → Same d (Then r (on_raised K)) (Then c (on_raised D))
    raised_same r c K D same raised = then_same r c (on_raised K) (on_raised D) same (λ v. ends_same (Next v) tt) raised (raised_exits K) (raised_exits D)

    storing_same : (to : ℕ) (line : ℕ) (r : nodes.R) → Same d r r → Same d (nodes.storing to (on_line l line r)) (nodes.storing to (on_line l line r))
    storing_same to line r same =
        let entries : ℕ → nodes.R = λ e. Act (λ s. record { out = []; state = enlisted l line e s; end = Raised e }) in
        then_same (on_line l line r) (on_line l line r) (nodes.stored to) (nodes.stored to)
        (raised_same r r entries entries same (λ x. act_same _ (λ t. tt)))
        (λ v. act_same _ (λ t. tt)) (λ x. act_same _ (λ t. tt)) (stored_exits to) (stored_exits to)

    -- Bodies, which end for their caller by values, exceptions and stops alone
    result_still : (r : Result) → IsStill (end_of r)
    result_still (Gives v) = tt
    result_still (Raises x) = tt
    result_still (Stops kind) = tt
    result_still Unsaid = tt

    abbrev StillEntry : Entry T nodes.Item → Type 0
    StillEntry (Into item start s leave) = (x : Left T) → IsStill (leave x).end
    StillEntry (Instead f) = IsStill f.end

    call_still : (f : nodes.Frame) (a : After) (x : Left T) → IsStill (leave_call l f a x).end
    call_still f a (AtPause s v p) = tt
    call_still f a (AtEnd s e) = result_still _

    generator_still : (f : nodes.Frame) (g code : ℕ) (closing : Bool) (x : Left T) → IsStill (leave_generator l f g code closing x).end
    generator_still f g code closing (AtPause s v p) = result_still _
    generator_still f g code closing (AtEnd s e) = result_still _

    calls_still : (s : T) (code : ℕ) (a : After) (f : Option nodes.Frame) → StillEntry (calls l s code a f)
    calls_still s code a None = tt
    calls_still s code a (Some f) = call_still s.frame a

    starts_still : (s : T) (g code : ℕ) (f : Option nodes.Frame) → StillEntry (starts l s g code f)
    starts_still s g code None = tt
    starts_still s g code (Some f) = generator_still s.frame g code false

    wakes_still : (s : T) (g : ℕ) (how : How) (closing : Bool) (a : Option (Pause nodes.Frame)) → StillEntry (goes_on l s g how closing a)
    wakes_still s g how closing None = tt
    wakes_still s g how closing (Some a) = generator_still s.frame g a.code closing

    entry_still : (s : T) (b : Begun) → StillEntry (entry l s b)
    entry_still s (Over o r) = result_still r
    entry_still s (Calls code given cells a) = calls_still s code a _
    entry_still s (Starts g code given cells) = starts_still s g code _
    entry_still s (Wakes g how closing) = wakes_still s g how closing _

    operates_still : (o : Op) (s : T) (args : Option (List Value)) → StillEntry (nodes.operates_on l o s args)
    operates_still o s None = tt
    operates_still o s (Some args) = go (l.rules.fits o s.around.world args)
      where
        go : (fits : Bool) → StillEntry (if fits then began l s (begun_by l.scripts (scene s.around) (l.rules.apply o s.around.world args)) else Instead (unsaid s))
        go true = entry_still _ (begun_by l.scripts (scene s.around) (l.rules.apply o s.around.world args)).begun
        go false = tt

    left_shown : (a : Res T) (leave : Left T → Effect T) → ((x : Left T) → IsStill (leave x).end) → shown k d (left_by a leave) ≡ left_by a leave
    left_shown (Spent o) leave x = refl
    left_shown (Paused o s v p) leave x = still (o ++ (leave (AtPause s v p)).out) (leave (AtPause s v p)).state (leave (AtPause s v p)).end (x (AtPause s v p))
    left_shown (Ended o s e) leave x = still (o ++ (leave (AtEnd s e)).out) (leave (AtEnd s e)).state (leave (AtEnd s e)).end (x (AtEnd s e))

    entered_shown : (n : ℕ) (a : Entry T nodes.Item) → StillEntry a → shown k d (entered (run cols n) a) ≡ entered (run cols n) a
    entered_shown n (Into item start s leave) x = left_shown (run cols n item start s) leave x
    entered_shown n (Instead f) x = still ([] ++ f.out) f.state f.end x

    sub_same : (f : T → Entry T nodes.Item) → ((t : T) → StillEntry (f t)) → Same d (Sub f) (Sub f)
    sub_same f x = record { same = go }
      where
        go : (start : Start) (t : T) (n : ℕ) → shown k d (does cols (Sub f) start t n) ≡ does cols (Sub f) start t n
        go Begin t n = entered_shown n (f t) (x t)
        go (Back p how) t n = refl

    do_same : (to line : ℕ) (o : Op) (args : List Argument) → Same d (nodes.do_row l to line o args) (nodes.do_row l to line o args)
    do_same to line o args = storing_same to line (Sub (λ s. nodes.operates_on l o s (nodes.values s.frame args))) (sub_same _ (λ t. operates_still o t (nodes.values t.frame args)))

    -- Operands
    used_still : (o : Option Value) → IsStill (nodes.used o)
    used_still None = tt
    used_still (Some value.Unset) = tt
    used_still (Some value.None) = tt
    used_still (Some (value.Bool b)) = tt
    used_still (Some (value.Int i)) = tt
    used_still (Some (value.Str i)) = tt
    used_still (Some (value.Obj i)) = tt

    reading_same : (a : Operand) (K D : Value → nodes.R) → ((v : Value) → Same d (K v) (D v)) → Same d (nodes.reading a K) (nodes.reading a D)
    reading_same a K D next = next_same _ _ K D (act_same _ (λ t. used_still (nodes.operand_value t.frame a))) next

    choose_same : (v : Value) (r q r' q' : nodes.R) → Same d r r' → Same d q q' → Same d (choose v r q) (choose v r' q')
    choose_same (value.Bool true) r q r' q' x y = x
    choose_same (value.Bool false) r q r' q' x y = y
    choose_same value.Unset r q r' q' x y = ends_same Undefined tt
    choose_same value.None r q r' q' x y = ends_same Undefined tt
    choose_same (value.Int i) r q r' q' x y = ends_same Undefined tt
    choose_same (value.Str i) r q r' q' x y = ends_same Undefined tt
    choose_same (value.Obj i) r q r' q' x y = ends_same Undefined tt

    exception_still : (x : ℕ) (o : Option Object) → IsStill (nodes.exception_end x o)
    exception_still x None = tt
    exception_still x (Some (object.Tuple a)) = tt
    exception_still x (Some (object.List a)) = tt
    exception_still x (Some (object.Dict a)) = tt
    exception_still x (Some (object.Range a b c)) = tt
    exception_still x (Some (object.Function a b c d)) = tt
    exception_still x (Some (object.Method a b)) = tt
    exception_still x (Some (object.Class a b c d)) = tt
    exception_still x (Some (object.Instance a b)) = tt
    exception_still x (Some (object.Generator a b c d)) = tt
    exception_still x (Some (object.Iterator a b c d)) = tt
    exception_still x (Some (object.View a b)) = tt
    exception_still x (Some (object.Cell a)) = tt
    exception_still x (Some (object.Space a)) = tt
    exception_still x (Some (object.Exception a b c d e)) = tt
    exception_still x (Some (object.Builtin a b)) = tt
    exception_still x (Some (object.Trace a)) = tt

    raise_still : (h : List Object) (v : Value) → IsStill (nodes.raise_end h v)
    raise_still h (value.Obj n) = exception_still n (slice_get h n)
    raise_still h value.Unset = tt
    raise_still h value.None = tt
    raise_still h (value.Bool b) = tt
    raise_still h (value.Int i) = tt
    raise_still h (value.Str i) = tt

    copied_still : (s : T) (to : ℕ) (o : Option Value) → IsStill (nodes.copied s to o).end
    copied_still s to None = tt
    copied_still s to (Some v) = tt

    -- Loops
    turned_shown : (a : Res T) (g g' : T → Res T) → ((t : T) → shown k d (g t) ≡ g' t) → shown k d (turned a g) ≡ turned (shown k (suc d) a) g'
    turned_shown (Spent o) g g' x = refl
    turned_shown (Paused o t v p) g g' x = refl
    turned_shown (Ended o t (Next v)) g g' x = shown_before o (g t) ∙ ap (λ u. before o u) (x t)
    turned_shown (Ended o t (Leave zero)) g g' x = refl
    turned_shown (Ended o t (Leave (suc j))) g g' x = refl
    turned_shown (Ended o t (Raised v)) g g' x = refl
    turned_shown (Ended o t (Return v)) g g' x = refl
    turned_shown (Ended o t (Stopped v)) g g' x = refl
    turned_shown (Ended o t Undefined) g g' x = refl

    module _ (body new : tree.Block) (inner : Same (suc d) (nodes.block_row l body) (nodes.block_row l new)) where
      again_same : (n : ℕ) (t : T) → shown k d (run cols n (nodes.OfLoop body) Begin t) ≡ run cols n (nodes.OfLoop new) Begin t
      again_same zero t = refl
      again_same (suc n) t =
          turned_shown (does cols (nodes.block_row l body) Begin t n) _ (λ u. run cols n (nodes.OfLoop new) Begin u) (again_same n)
          ∙ ap (λ u. turned u (λ v. run cols n (nodes.OfLoop new) Begin v)) (inner.same Begin t n)

      loop_same : Same d (nodes.form_row l (tree.Loop body)) (nodes.form_row l (tree.Loop new))
      loop_same = record {
        same = λ start t n. turned_shown (does cols (nodes.block_row l body) start t n) _ (λ u. run cols n (nodes.OfLoop new) Begin u) (again_same n)
            ∙ ap (λ u. turned u (λ v. run cols n (nodes.OfLoop new) Begin v)) (inner.same start t n);
      }

    -- Rows that never pause, from the places of pauses
    record IsMute (r : nodes.R) : Type 0 where
      back : (p : List Step) (how : How) (t : T) (n : ℕ) → does cols r (Back p how) t n ≡ Ended [] t Undefined

    mute_next : (r : nodes.R) (K : Value → nodes.R) → IsMute r → ((v : Value) → IsMute (K v)) → IsMute (Then r (on_next K))
    mute_next r K x y = record { back = go }
      where
        go : (p : List Step) (how : How) (t : T) (n : ℕ) → does cols (Then r (on_next K)) (Back p how) t n ≡ Ended [] t Undefined
        go [] how t n = refl
        go (First ∷ p) how t n = ap (λ u. after u (λ e v. interp (run cols n) (on_next K e) Begin v)) (x.back p how t n)
        go (Second (Next v) ∷ p) how t n = ap (λ u. shift [] (Second (Next v)) u) ((y v).back p how t n)
        go (Second (Leave v) ∷ p) how t n = refl
        go (Second (Raised v) ∷ p) how t n = refl
        go (Second (Return v) ∷ p) how t n = refl
        go (Second (Stopped v) ∷ p) how t n = refl
        go (Second Undefined ∷ p) how t n = refl

    mute_act : (f : T → Effect T) → IsMute (Act f)
    mute_act f = record { back = λ p how t n. refl }

    -- a node that runs at once
    mute_follow : (f : T → Effect T) (r : nodes.R) → IsMute r → IsMute (nodes.followed (Act f) r)
    mute_follow f r x = mute_next (Act f) (λ v. r) (mute_act f) (λ v. x)

    mute_loop : (b : tree.Block) → IsMute (nodes.block_row l b) → IsMute (nodes.form_row l (tree.Loop b))
    mute_loop b x = record { back = λ p how t n. ap (λ u. turned u (λ v. run cols n (nodes.OfLoop b) Begin v)) (x.back p how t n) }

    mute_same : (r c : nodes.R) → ((t : T) (n : ℕ) → shown k d (does cols r Begin t n) ≡ does cols c Begin t n) → IsMute r → IsMute c → Same d r c
    mute_same r c e x y = record { same = go }
      where
        go : (start : Start) (t : T) (n : ℕ) → shown k d (does cols r start t n) ≡ does cols c start t n
        go Begin t n = e t n
        go (Back p how) t n = ap (λ u. shown k d u) (x.back p how t n) ∙ sym (y.back p how t n)

    -- a value that is given back, if the operand has one, is kept
    return_begins : (a : Operand) (t : T) (n : ℕ) → shown k d (does cols (nodes.form_row l (tree.Return a)) Begin t n) ≡ does cols (nodes.form_row l (tree.Loop (return_stores k a d))) Begin t n
    return_begins (operand.Temp from) t n = go (t.frame.temps from)
      where
        go : (o : Option Value) → shown k d (Ended [] t (nodes.given o)) ≡ does cols (Loop (nodes.followed (Act (λ u. nodes.copied u k o)) (nodes.block_row l (return_flags k d))) (nodes.OfLoop (return_stores k (operand.Temp from) d))) Begin t n
        go None = refl
        go (Some v) = refl
    return_begins (operand.Const c) t n = refl

    return_mute : (a : Operand) → IsMute (nodes.block_row l (return_stores k a d))
    return_mute (operand.Temp from) = mute_follow _ _ (mute_follow _ _ (mute_follow _ _ (mute_follow _ _ (mute_follow _ _ (mute_act _)))))
    return_mute (operand.Const c) = mute_follow _ _ (mute_follow _ _ (mute_follow _ _ (mute_follow _ _ (mute_follow _ _ (mute_act _)))))

    return_same : (a : Operand) → Same d (nodes.form_row l (tree.Return a)) (nodes.form_row l (tree.Loop (return_stores k a d)))
    return_same a = mute_same _ _ (return_begins a) (mute_act _) (mute_loop (return_stores k a d) (return_mute a))

    -- how a leave of so many loops shows, by where it leads
    abbrev Leads : ℕ → Option ℕ → Type 0
    Leads j None = (nearest d j ≡ j) × ((t : T) → left_state k d j t ≡ t)
    Leads j (Some i) = (nearest d j ≡ d) × ((t : T) → left_state k d j t ≡ at_leave k i t)

    leave_same : (j : ℕ) (o : Option ℕ) → Leads j o → Same d (ends_with (Leave j)) (nodes.form_row l (leaves_by k d j o))
    leave_same j None x = mute_same _ _ (λ t n. ap (λ u. Ended [] u (Leave (nearest d j))) (x.1 t) ∙ ap (λ u. Ended [] t (Leave u)) x.0) (mute_act _) (mute_act _)
    leave_same j (Some i) x = mute_same _ _ (λ t n. ap (λ u. Ended [] u (Leave (nearest d j))) (x.1 t) ∙ ap (λ u. Ended [] (at_leave k i t) (Leave u)) x.0) (mute_act _)
        (mute_loop (leave_stores k i d) (mute_follow _ _ (mute_follow _ _ (mute_follow _ _ (mute_follow _ _ (mute_follow _ _ (mute_act _)))))))

  deeper : (d j : ℕ) (o : Option ℕ) → Leads d j o → Leads (suc d) (suc j) o
  deeper d j None x = (ap (λ u. suc u) x.0, x.1)
  deeper d j (Some i) x = (ap (λ u. suc u) x.0, x.1)

  leads : (d j : ℕ) → Leads d j (outward d j)
  leads zero j = (refl, λ t. refl)
  leads (suc d) zero = (refl, λ t. refl)
  leads (suc d) (suc j) = deeper d j (outward d j) (leads d j)

  leaves_same : (d levels : ℕ) → Same d (nodes.form_row l (tree.Leave levels)) (nodes.form_row l (leaves k d levels))
  leaves_same d zero = ends_same d Undefined tt
  leaves_same d (suc j) = leave_same d j (outward d j) (leads d j)

  mutual
    form_same : (x : tree.Form) (d : ℕ) → Same d (nodes.form_row l x) (nodes.form_row l (redirect_form k x d))
    form_same (tree.Constant to c) d = act_same d _ (λ t. tt)
    form_same (tree.Copy to from) d = act_same d _ (λ t. copied_still d t to (t.frame.temps from))
    form_same (tree.Do to line o args) d = do_same d to line o args
    form_same (tree.Call to line function args) d = do_same d to line op.Call (argument.Value function ∷ map argument.Value args)
    form_same (tree.Yield to line a) d = reading_same d a _ _ (λ v. storing_same d to line (Yld v) (yld_same d v))
    form_same (tree.If test b c) d = reading_same d test _ _ (λ v. choose_same d v _ _ _ _ (block_same b d) (block_same c d))
    form_same (tree.Loop body) d = loop_same d body (redirect k body (suc d)) (block_same body (suc d))
    form_same (tree.Leave levels) d = leaves_same d levels
    form_same (tree.Catch to body handler) d =
        raised_same d _ _ (nodes.handled to (nodes.block_row l handler)) (nodes.handled to (nodes.block_row l (redirect k handler d))) (block_same body d)
        (λ x. next_same d _ _ (λ v. nodes.block_row l handler) (λ v. nodes.block_row l (redirect k handler d)) (act_same d _ (λ t. tt)) (λ v. block_same handler d))
    form_same (tree.Return a) d = return_same d a
    form_same (tree.Raise a) d = reading_same d a _ _ (λ v. act_same d _ (λ t. raise_still d t.around.world.heap v))
    form_same (tree.Unset to) d = act_same d _ (λ t. tt)

    pub block_same : (b : tree.Block) (d : ℕ) → Same d (nodes.block_row l b) (nodes.block_row l (redirect k b d))
    block_same tree.Stop d = ends_same d (Next value.None) tt
    block_same (tree.Follow x r) d = next_same d _ _ (λ v. nodes.block_row l r) (λ v. nodes.block_row l (redirect k r d)) (form_same x d) (λ v. block_same r d)
