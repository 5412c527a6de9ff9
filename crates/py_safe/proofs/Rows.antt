-- How rows that go right are put together.
use Rattle.std.proofs.Common.{◌≡◌, ℕ, zero, suc, ◌≤◌, List, [], ◌∷◌, Bool, true, false, refl, sym, subst, arith}
use Rattle.std.specs.Prelude.{IsTrue}
use Rattle.nu_value.specs.declared.value.Value.{Value}
use Rattle.nu_value.specs.declared.value.Value.TheVariants as value
use Rattle.nu_rows.specs.Rows.{End, Next, Leave, Raised, Return, Stopped, Undefined, Step, First, Second, How, Send, Throw, Begin, Back, Res, Spent, Paused, Ended, Effect, Act, Yld, Then, Loop, shift, after, before, turned, sent, run, does}
use Rattle.nu_rows.specs.Words.{ends_with, on_next, then_value, choose}
use Rattle.py_meaning.specs.Frames.{Frame, Item, R as Rw, reads, changes}
use Rattle.py_safe.specs.Heaps.{Mark, View, Grows, IsThere}
use Rattle.py_safe.specs.Rules.{IsTruth}
use Rattle.py_safe.specs.Constructs.{Room}
use Rattle.py_safe.proofs.Right.{S, Program, rows, seen, FrameLaw, Table, Tables, nowhere, Lawful, Kind, EndIs, HowIs, Goes, Pauses, Met, Right, Anything, Finished, Done, Agree, RightBy, BodyBy}
use Rattle.py_safe.proofs.Growth.{grows_refl, grows_trans, there_more, thrown_more}

-- ---- ends

pub end_map : (n m : ℕ) (K J : Kind) (v : View) (e : End) → n ≤ m → ((x : Value) → K v x → J v x) → EndIs n K v e → EndIs m J v e
end_map n m K J v (Next x) le f y = f x y
end_map n m K J v (Leave i) le f y = omega arith
end_map n m K J v (Raised x) le f y = y
end_map n m K J v (Return x) le f y = y
end_map n m K J v (Stopped kind) le f y = tt
end_map n m K J v Undefined le f y = y

-- an end stays one in a greater view
pub end_more : (n : ℕ) (K : Kind) (v more : View) (e : End) → ((x : Value) → K v x → K more x) → Grows v more → EndIs n K v e → EndIs n K more e
end_more n K v more (Next x) f g y = f x y
end_more n K v more (Leave i) f g y = y
end_more n K v more (Raised x) f g y = thrown_more v more g x y
end_more n K v more (Return x) f g y = there_more v more g x y
end_more n K v more (Stopped kind) f g y = tt
end_more n K v more Undefined f g y = y

-- ---- outcomes

module _ (z : Program) (tabs : Tables) where
  -- from an earlier view, with more loops to leave and less known
  pub met_map : (R : Room) (n m : ℕ) (K J : Kind) (T U : Table) (v more : View) (x : Res S) → n ≤ m → Grows v more → ((g : View) (y : Value) → Grows more g → K g y → J g y) → ((p : List Step) (u : View) → Grows more u → T p u → U p u) → Met z tabs R n K T more x → Met z tabs R m J U v x
  met_map R n m K J T U v more (Spent o) le w f t x = tt
  met_map R n m K J T U v more (Paused o s y p) le w f t x =
      record { yields = x.yields; marks = x.marks; lawful = x.lawful; grows = grows_trans v more (seen x.marks s) w x.grows; value = x.value; place = t p (seen x.marks s) x.grows x.place }
  met_map R n m K J T U v more (Ended o s e) le w f t x =
      record { marks = x.marks; lawful = x.lawful; grows = grows_trans v more (seen x.marks s) w x.grows; end = end_map n m K J (seen x.marks s) e le (λ y. f (seen x.marks s) y x.grows) x.end }

  -- from an earlier view
  pub met_down : (R : Room) (n : ℕ) (K : Kind) (T : Table) (v more : View) (x : Res S) → Grows v more → Met z tabs R n K T more x → Met z tabs R n K T v x
  met_down R n K T v more x w y = met_map R n n K K T T v more x (omega arith) w (λ g a b k. k) (λ p u b q. q) y

  pub met_shift : (R : Room) (n : ℕ) (K : Kind) (T U : Table) (v : View) (o : List ℕ) (y : Step) (x : Res S) → ((p : List Step) (u : View) → Grows v u → T p u → U (y ∷ p) u) → Met z tabs R n K T v x → Met z tabs R n K U v (shift o y x)
  met_shift R n K T U v o y (Spent a) t x = tt
  met_shift R n K T U v o y (Paused a s w p) t x = record { yields = x.yields; marks = x.marks; lawful = x.lawful; grows = x.grows; value = x.value; place = t p (seen x.marks s) x.grows x.place }
  met_shift R n K T U v o y (Ended a s e) t x = x

  met_before : (R : Room) (n : ℕ) (K : Kind) (T : Table) (v : View) (o : List ℕ) (x : Res S) → Met z tabs R n K T v x → Met z tabs R n K T v (before o x)
  met_before R n K T v o (Spent a) x = tt
  met_before R n K T v o (Paused a s w p) x = x
  met_before R n K T v o (Ended a s e) x = x

  -- an outcome, and what follows its end
  pub met_after : (Q R : Room) (n m : ℕ) (K J : Kind) (T U : Table) (v : View) (x : Res S) (f : End → S → Res S) → ((s : S) (y : Value) (p : List Step) → Pauses z tabs Q T v s y p → Pauses z tabs R U v s y (First ∷ p)) → ((e : End) (t : S) → Goes z tabs Q n K v e t → Met z tabs R m J (λ p u. U (Second e ∷ p) u) v (f e t)) → Met z tabs Q n K T v x → Met z tabs R m J U v (after x f)
  met_after Q R n m K J T U v (Spent o) f a b x = tt
  met_after Q R n m K J T U v (Paused o s y p) f a b x = a s y p x
  met_after Q R n m K J T U v (Ended o s e) f a b x = met_shift R m J (λ p u. U (Second e ∷ p) u) U v o (Second e) (f e s) (λ p u w q. q) (b e s x)

  -- a turn may leave its loop
  met_turned : (R : Room) (n : ℕ) (K J : Kind) (T : Table) (v : View) (x : Res S) (f : S → Res S) → ((g : View) → J g value.None) → ((marks : ℕ → Mark) (t : S) → Lawful z tabs R marks t → Grows v (seen marks t) → Met z tabs R n J T (seen marks t) (f t)) → Met z tabs R (suc n) K T v x → Met z tabs R n J T v (turned x f)
  met_turned R n K J T v (Spent o) f j a x = tt
  met_turned R n K J T v (Paused o s y p) f j a x = x
  met_turned R n K J T v (Ended o s (Next y)) f j a x =
      met_before R n J T v o (f s) (met_down R n J T v (seen x.marks s) (f s) x.grows (a x.marks s x.lawful x.grows))
  met_turned R n K J T v (Ended o s (Leave zero)) f j a x = record { marks = x.marks; lawful = x.lawful; grows = x.grows; end = j (seen x.marks s) }
  met_turned R n K J T v (Ended o s (Leave (suc i))) f j a x = record { marks = x.marks; lawful = x.lawful; grows = x.grows; end = omega (arith, x.end) }
  met_turned R n K J T v (Ended o s (Raised y)) f j a x = record { marks = x.marks; lawful = x.lawful; grows = x.grows; end = x.end }
  met_turned R n K J T v (Ended o s (Return y)) f j a x = record { marks = x.marks; lawful = x.lawful; grows = x.grows; end = x.end }
  met_turned R n K J T v (Ended o s (Stopped kind)) f j a x = record { marks = x.marks; lawful = x.lawful; grows = x.grows; end = tt }
  met_turned R n K J T v (Ended o s Undefined) f j a x = absurd x.end

  -- a state of one room, in another that asks less of frames
  pub lawful_room : (r q : Room) → ((v : View) (f : Frame) → FrameLaw r v f → FrameLaw q v f) → (marks : ℕ → Mark) (s : S) → Lawful z tabs r marks s → Lawful z tabs q marks s
  lawful_room r q a marks s x = record { world = x.world; since = x.since; frame = a (seen marks s) s.frame x.frame; kept = x.kept }

  met_room : (R Q : Room) → ((v : View) (f : Frame) → FrameLaw R v f → FrameLaw Q v f) → (IsTrue R.yields → IsTrue Q.yields) → (n : ℕ) (K : Kind) (T : Table) (v : View) (x : Res S) → Met z tabs R n K T v x → Met z tabs Q n K T v x
  met_room R Q a b n K T v (Spent o) x = tt
  met_room R Q a b n K T v (Paused o s y p) x = record { yields = b x.yields; marks = x.marks; lawful = lawful_room R Q a x.marks s x.lawful; grows = x.grows; value = x.value; place = x.place }
  met_room R Q a b n K T v (Ended o s e) x = record { marks = x.marks; lawful = lawful_room R Q a x.marks s x.lawful; grows = x.grows; end = x.end }

-- ---- rows by themselves

-- a value that is None
abbrev pub IsNone : Kind
IsNone v x = x ≡ value.None

module _ (z : Program) where
  -- an act
  pub act_right : (r R : Room) (n : ℕ) (K : Kind) (v : View) (f : S → Effect S) → ((tabs : Tables) (marks : ℕ → Mark) (s : S) → Lawful z tabs r marks s → Grows v (seen marks s) → Goes z tabs R n K (seen marks s) (f s).end (f s).state) → RightBy z r R n K v (Act f)
  act_right r R n K v f a = record {
    table = nowhere;
    right = λ tabs M agree. record { begins = λ marks s law w m le. a tabs marks s law w; goes_on = λ p u q w how marks s law w' h m le. absurd q };
  }

  -- an act that leaves the state alone
  pub tells_right : (r : Room) (n : ℕ) (K : Kind) (v : View) (e : S → End) → ((tabs : Tables) (marks : ℕ → Mark) (s : S) → Lawful z tabs r marks s → Grows v (seen marks s) → EndIs n K (seen marks s) (e s)) → RightBy z r r n K v (Act (λ s. record { out = []; state = s; end = e s }))
  tells_right r n K v e a = act_right r r n K v _ (λ tabs marks s law w. record { marks = marks; lawful = law; grows = grows_refl (seen marks s); end = a tabs marks s law w })

  pub ends_right : (r : Room) (n : ℕ) (K : Kind) (v : View) (e : End) → ((more : View) → Grows v more → EndIs n K more e) → RightBy z r r n K v (ends_with e)
  ends_right r n K v e a = tells_right r n K v (λ s. e) (λ tabs marks s law w. a (seen marks s) w)

  pub reads_right : (r : Room) (n : ℕ) (K : Kind) (v : View) (f : Frame → Value) → ((more : View) (x : Frame) → Grows v more → FrameLaw r more x → K more (f x)) → RightBy z r r n K v (reads f)
  reads_right r n K v f a = tells_right r n K v (λ s. Next (f s.frame)) (λ tabs marks s law w. a (seen marks s) s.frame w law.frame)

  pub changes_right : (r R : Room) (n : ℕ) (v : View) (f : Frame → Frame) → ((more : View) (x : Frame) → Grows v more → FrameLaw r more x → FrameLaw R more (f x)) → RightBy z r R n IsNone v (changes f)
  changes_right r R n v f a = act_right r R n IsNone v _ (λ tabs marks s law w. record {
    marks = marks;
    lawful = record { world = law.world; since = law.since; frame = a (seen marks s) s.frame w law.frame; kept = law.kept };
    grows = grows_refl (seen marks s);
    end = refl;
  })

  -- a pause: its only place is its own
  abbrev pub pause_table : Table
  pause_table [] u = Unit {0}
  pause_table (x ∷ p) u = ⊥

  pub yield_right : (r : Room) (n : ℕ) (v : View) (x : Value) → IsTrue r.yields → IsThere v x → RightBy z r r n IsThere v (Yld x)
  yield_right r n v x y t = record { table = pause_table; right = λ tabs M agree. yielded tabs M }
    where
      woken : (tabs : Tables) (how : How) (marks : ℕ → Mark) (s : S) → Lawful z tabs r marks s → HowIs (seen marks s) how → Goes z tabs r n IsThere (seen marks s) (sent how) s
      woken tabs (Send a) marks s law h = record { marks = marks; lawful = law; grows = grows_refl (seen marks s); end = h }
      woken tabs (Throw a) marks s law h = record { marks = marks; lawful = law; grows = grows_refl (seen marks s); end = h }

      on : (tabs : Tables) (p : List Step) (u : View) → pause_table p u → (how : How) (marks : ℕ → Mark) (s : S) → Lawful z tabs r marks s → HowIs (seen marks s) how → (m : ℕ) → Met z tabs r n IsThere pause_table (seen marks s) (does (rows z) (Yld x) (Back p how) s m)
      on tabs [] u q how marks s law h m = woken tabs how marks s law h
      on tabs (a ∷ p) u q how marks s law h m = absurd q

      yielded : (tabs : Tables) (M : ℕ) → Right z tabs M r r n IsThere pause_table v (Yld x)
      yielded tabs M = record {
        begins = λ marks s law w m le. record { yields = y; marks = marks; lawful = law; grows = grows_refl (seen marks s); value = there_more v (seen marks s) w x t; place = tt };
        goes_on = λ p u q w how marks s law w' h m le. on tabs p u q how marks s law h m;
      }

  -- ---- from what is known of a row

  pub right_map : (r R : Room) (n m : ℕ) (K J : Kind) (v : View) (row : Rw) → n ≤ m → ((g : View) (x : Value) → Grows v g → K g x → J g x) → RightBy z r R n K v row → RightBy z r R m J v row
  right_map r R n m K J v row le f x = record { table = x.table; right = λ tabs M agree. mapped tabs M (x.right tabs M agree) }
    where
      from : (tabs : Tables) (g : View) (res : Res S) → Grows v g → Met z tabs R n K x.table g res → Met z tabs R m J x.table g res
      from tabs g res w y = met_map z tabs R n m K J x.table x.table g g res le (grows_refl g) (λ a b c k. f a b (grows_trans v g a w c) k) (λ p u c q. q) y

      mapped : (tabs : Tables) (M : ℕ) → Right z tabs M r R n K x.table v row → Right z tabs M r R m J x.table v row
      mapped tabs M y = record {
        begins = λ marks s law w b lb. from tabs (seen marks s) _ w (y.begins marks s law w b lb);
        goes_on = λ p u q w how marks s law w' h b lb. from tabs (seen marks s) _ (grows_trans v u (seen marks s) w w') (y.goes_on p u q w how marks s law w' h b lb);
      }

  -- in other rooms: of the frame at the beginning and where it goes on as much is known, and at its end no more is asked for
  pub right_room : (r R q Q : Room) (n : ℕ) (K : Kind) (v : View) (row : Rw) → ((g : View) (f : Frame) → FrameLaw q g f → FrameLaw r g f) → ((g : View) (f : Frame) → FrameLaw R g f → FrameLaw Q g f) → ((g : View) (f : Frame) → FrameLaw Q g f → FrameLaw R g f) → (IsTrue R.yields → IsTrue Q.yields) → RightBy z r R n K v row → RightBy z q Q n K v row
  right_room r R q Q n K v row a b c d x = record {
    table = x.table;
    right = λ tabs M agree. let y = x.right tabs M agree in record {
      begins = λ marks s law w m le. met_room z tabs R Q b d n K x.table (seen marks s) _ (y.begins marks s (lawful_room z tabs q r a marks s law) w m le);
      goes_on = λ p u t w how marks s law w' h m le. met_room z tabs R Q b d n K x.table (seen marks s) _ (y.goes_on p u t w how marks s (lawful_room z tabs Q R c marks s law) w' h m le);
    };
  }

  -- one of two rows
  pub choose_right : (r R : Room) (n : ℕ) (K : Kind) (v : View) (x : Value) (row other : Rw) → IsTruth x → RightBy z r R n K v row → RightBy z r R n K v other → RightBy z r R n K v (choose x row other)
  choose_right r R n K v (value.Bool true) row other t x y = x
  choose_right r R n K v (value.Bool false) row other t x y = y
  choose_right r R n K v value.Unset row other t x y = absurd t
  choose_right r R n K v value.None row other t x y = absurd t
  choose_right r R n K v (value.Int i) row other t x y = absurd t
  choose_right r R n K v (value.Str text) row other t x y = absurd t
  choose_right r R n K v (value.Obj i) row other t x y = absurd t
  -- ---- a row and what follows each of its ends

-- the places of what follows an end, in a view in which the row ended so, and of which the present one grew
pub record Behind (n : ℕ) (K : Kind) (v : View) (U : (e : End) (g : View) → Grows v g → EndIs n K g e → Table) (e : End) (p : List Step) (u : View) : Type 0 where
  pub from : View
  pub grows : Grows v from
  pub end : EndIs n K from e
  pub since : Grows from u
  pub place : U e from grows end p u

abbrev pub then_table : (n : ℕ) (K : Kind) (v : View) → Table → ((e : End) (g : View) → Grows v g → EndIs n K g e → Table) → Table
then_table n K v T U [] u = ⊥
then_table n K v T U (First ∷ p) u = T p u
then_table n K v T U (Second e ∷ p) u = Behind n K v U e p u

abbrev pub first_table : Table → Table
first_table T [] u = ⊥
first_table T (First ∷ p) u = T p u
first_table T (Second e ∷ p) u = ⊥

-- a room whose codes never pause
abbrev pub still : Room → Room
still r = record r { yields = false }

pub into_still : (r : Room) (v : View) (f : Frame) → FrameLaw r v f → FrameLaw (still r) v f
into_still r v f x = record { locals = x.locals; count = x.count; bound = x.bound; names = x.names; owns = x.owns; made = x.made; frees = x.frees; given = x.given; carried = x.carried }

pub out_of_still : (r : Room) (v : View) (f : Frame) → FrameLaw (still r) v f → FrameLaw r v f
out_of_still r v f x = record { locals = x.locals; count = x.count; bound = x.bound; names = x.names; owns = x.owns; made = x.made; frees = x.frees; given = x.given; carried = x.carried }

abbrev pub in_handler : Bool → Room → Room
in_handler b r = record r { handler = b }

pub into_clause : (b : Bool) (r : Room) (v : View) (f : Frame) → FrameLaw r v f → FrameLaw (in_handler b r) v f
into_clause b r v f x = record { locals = x.locals; count = x.count; bound = x.bound; names = x.names; owns = x.owns; made = x.made; frees = x.frees; given = x.given; carried = x.carried }

pub out_of_clause : (b : Bool) (r : Room) (v : View) (f : Frame) → FrameLaw (in_handler b r) v f → FrameLaw r v f
out_of_clause b r v f x = record { locals = x.locals; count = x.count; bound = x.bound; names = x.names; owns = x.owns; made = x.made; frees = x.frees; given = x.given; carried = x.carried }

module _ (z : Program) where
  -- inside an `except` clause, or outside, nothing else is another
  pub clause_right : (r : Room) (b : Bool) (n : ℕ) (K : Kind) (v : View) (row : Rw) → RightBy z (in_handler b r) (in_handler b r) n K v row → RightBy z r r n K v row
  clause_right r b n K v row x = right_room z (in_handler b r) (in_handler b r) r r n K v row (into_clause b r) (out_of_clause b r) (into_clause b r) (λ y. y) x

  -- what follows goes on in the room in which the row ended, or may have paused
  module _ (r R : Room) (n m : ℕ) (K J : Kind) (v : View) (row : Rw) (k : End → Rw) (x : RightBy z r R n K v row) (f : (e : End) (g : View) → Grows v g → EndIs n K g e → RightBy z R R m J g (k e)) where
    abbrev then_places : Table
    then_places = then_table n K v x.table (λ e g w y. (f e g w y).table)

    module _ (tabs : Tables) (M : ℕ) (agree : Agree z tabs M) where
      then_ended : (h : View) → Grows v h → (b : ℕ) → b ≤ M → (e : End) (t : S) → Goes z tabs R n K h e t → Met z tabs R m J (λ p u. then_places (Second e ∷ p) u) h (does (rows z) (k e) Begin t b)
      then_ended h w b le e t y =
          let g = seen y.marks t in
          let w' : Grows v g = grows_trans v h g w y.grows in
          met_map z tabs R m m J J (f e g w' y.end).table (λ p u. then_places (Second e ∷ p) u) h g (does (rows z) (k e) Begin t b) (omega arith) y.grows (λ a b c d. d)
          (λ p u c q. record { from = g; grows = w'; end = y.end; since = c; place = q })
          (((f e g w' y.end).right tabs M agree).begins y.marks t y.lawful (grows_refl g) b le)

      then_met : (h : View) → Grows v h → (b : ℕ) → b ≤ M → (res : Res S) → Met z tabs R n K x.table h res → Met z tabs R m J then_places h (after res (λ e t. does (rows z) (k e) Begin t b))
      then_met h w b le res y =
          met_after z tabs R R n m K J x.table then_places h res (λ e t. does (rows z) (k e) Begin t b)
          (λ s a p q. record { yields = q.yields; marks = q.marks; lawful = q.lawful; grows = q.grows; value = q.value; place = q.place })
          (then_ended h w b le) y

      then_on : (p : List Step) (u : View) → then_places p u → Grows v u → (how : How) (marks : ℕ → Mark) (s : S) → Lawful z tabs R marks s → Grows u (seen marks s) → HowIs (seen marks s) how → (b : ℕ) → b ≤ M → Met z tabs R m J then_places (seen marks s) (does (rows z) (Then row k) (Back p how) s b)
      then_on [] u q w how marks s law w' h b le = absurd q
      then_on (First ∷ p) u q w how marks s law w' h b le =
          then_met (seen marks s) (grows_trans v u (seen marks s) w w') b le (does (rows z) row (Back p how) s b) ((x.right tabs M agree).goes_on p u q w how marks s law w' h b le)
      then_on (Second e ∷ p) u q w how marks s law w' h b le =
          met_shift z tabs R m J (f e q.from q.grows q.end).table then_places (seen marks s) [] (Second e) (does (rows z) (k e) (Back p how) s b)
          (λ a c d y. record { from = q.from; grows = q.grows; end = q.end; since = grows_trans q.from u c q.since (grows_trans u (seen marks s) c w' d); place = y })
          (((f e q.from q.grows q.end).right tabs M agree).goes_on p u q.place q.since how marks s law w' h b le)

    pub then_right : RightBy z r R m J v (Then row k)
    then_right = record {
      table = then_places;
      right = λ tabs M agree. record {
        begins = λ marks s law w b le. then_met tabs M agree (seen marks s) w b le (does (rows z) row Begin s b) ((x.right tabs M agree).begins marks s law w b le);
        goes_on = λ p u q w how marks s law w' h b le. then_on tabs M agree p u q w how marks s law w' h b le;
      };
    }

  -- what follows never pauses: all that is asked is how it goes from where the row ended
  module _ (r R : Room) (n m : ℕ) (K J : Kind) (v : View) (row : Rw) (k : End → Rw) (x : RightBy z r R n K v row) (f : (tabs : Tables) (M : ℕ) → Agree z tabs M → (e : End) (g : View) (t : S) → Goes z tabs R n K g e t → (b : ℕ) → b ≤ M → Met z tabs R m J nowhere g (does (rows z) (k e) Begin t b)) where
    abbrev ends_places : Table
    ends_places = first_table x.table

    module _ (tabs : Tables) (M : ℕ) (agree : Agree z tabs M) where
      ends_met : (h : View) (b : ℕ) → b ≤ M → (res : Res S) → Met z tabs R n K x.table h res → Met z tabs R m J ends_places h (after res (λ e t. does (rows z) (k e) Begin t b))
      ends_met h b le res y =
          met_after z tabs R R n m K J x.table ends_places h res (λ e t. does (rows z) (k e) Begin t b)
          (λ s a p q. record { yields = q.yields; marks = q.marks; lawful = q.lawful; grows = q.grows; value = q.value; place = q.place })
          (λ e t y. met_map z tabs R m m J J nowhere (λ p u. ends_places (Second e ∷ p) u) h h (does (rows z) (k e) Begin t b) (omega arith) (grows_refl h) (λ a b c d. d) (λ p u c q. absurd q) (f tabs M agree e h t y b le))
          y

      ends_on : (p : List Step) (u : View) → ends_places p u → Grows v u → (how : How) (marks : ℕ → Mark) (s : S) → Lawful z tabs R marks s → Grows u (seen marks s) → HowIs (seen marks s) how → (b : ℕ) → b ≤ M → Met z tabs R m J ends_places (seen marks s) (does (rows z) (Then row k) (Back p how) s b)
      ends_on [] u q w how marks s law w' h b le = absurd q
      ends_on (First ∷ p) u q w how marks s law w' h b le =
          ends_met (seen marks s) b le (does (rows z) row (Back p how) s b) ((x.right tabs M agree).goes_on p u q w how marks s law w' h b le)
      ends_on (Second e ∷ p) u q w how marks s law w' h b le = absurd q

    pub then_ends : RightBy z r R m J v (Then row k)
    then_ends = record {
      table = ends_places;
      right = λ tabs M agree. record {
        begins = λ marks s law w b le. ends_met tabs M agree (seen marks s) b le (does (rows z) row Begin s b) ((x.right tabs M agree).begins marks s law w b le);
        goes_on = λ p u q w how marks s law w' h b le. ends_on tabs M agree p u q w how marks s law w' h b le;
      };
    }

  -- ---- what follows a value; any other end passes

  pub passed : (r : Room) (n m : ℕ) (K J : Kind) (k : Value → Rw) (e : End) (g : View) → n ≤ m → ((x : Value) → K g x → RightBy z r r m J g (k x)) → EndIs n K g e → RightBy z r r m J g (on_next k e)
  passed r n m K J k (Next x) g le f y = f x y
  passed r n m K J k (Leave i) g le f y = ends_right z r m J g (Leave i) (λ more w. omega (arith, y))
  passed r n m K J k (Raised x) g le f y = ends_right z r m J g (Raised x) (λ more w. thrown_more g more w x y)
  passed r n m K J k (Return x) g le f y = ends_right z r m J g (Return x) (λ more w. there_more g more w x y)
  passed r n m K J k (Stopped kind) g le f y = ends_right z r m J g (Stopped kind) (λ more w. tt)
  passed r n m K J k Undefined g le f y = absurd y

  pub value_right : (r : Room) (n m : ℕ) (K J : Kind) (v : View) (row : Rw) (k : Value → Rw) → n ≤ m → RightBy z r r n K v row → ((x : Value) (g : View) → Grows v g → K g x → RightBy z r r m J g (k x)) → RightBy z r r m J v (then_value row k)
  value_right r n m K J v row k le x f = then_right r r n m K J v row (on_next k) x (λ e g w y. passed r n m K J k e g le (λ a b. f a g w b) y)

  -- ---- a loop: its further turns are those of an item, and have the places of the first

  module _ (r : Room) (n : ℕ) (K J : Kind) (v : View) (i : Item) (row : Rw) (is : rows z i ≡ Loop row i) (j : (g : View) → J g value.None) (x : RightBy z r r (suc n) K v row) (tabs : Tables) (M : ℕ) (agree : Agree z tabs M) where
    loop_turned : (h : View) → Grows v h → (b : ℕ) → ((marks : ℕ → Mark) (s : S) → Lawful z tabs r marks s → Grows v (seen marks s) → Met z tabs r n J x.table (seen marks s) (run (rows z) b i Begin s)) → (res : Res S) → Met z tabs r (suc n) K x.table h res → Met z tabs r n J x.table h (turned res (λ t. run (rows z) b i Begin t))
    loop_turned h w b f res y = met_turned z tabs r n K J x.table h res (λ t. run (rows z) b i Begin t) j (λ marks t law w'. f marks t law (grows_trans v h (seen marks t) w w')) y

    loop_at : (b : ℕ) → b ≤ M → (marks : ℕ → Mark) (s : S) → Lawful z tabs r marks s → Grows v (seen marks s) → Met z tabs r n J x.table (seen marks s) (run (rows z) b i Begin s)
    loop_at zero le marks s law w = tt
    loop_at (suc b) le marks s law w =
        subst (λ u. Met z tabs r n J x.table (seen marks s) (does (rows z) u Begin s b)) (sym is)
        (loop_turned (seen marks s) w b (λ more t l g. loop_at b (omega arith) more t l g) (does (rows z) row Begin s b) ((x.right tabs M agree).begins marks s law w b (omega arith)))

    loop_by : Right z tabs M r r n J x.table v (Loop row i)
    loop_by = record {
      begins = λ marks s law w b le. loop_turned (seen marks s) w b (λ more t l g. loop_at b le more t l g) (does (rows z) row Begin s b) ((x.right tabs M agree).begins marks s law w b le);
      goes_on = λ p u q w how marks s law w' h b le. loop_turned (seen marks s) (grows_trans v u (seen marks s) w w') b (λ more t l g. loop_at b le more t l g) (does (rows z) row (Back p how) s b) ((x.right tabs M agree).goes_on p u q w how marks s law w' h b le);
    }

  pub loop_right : (r : Room) (n : ℕ) (K J : Kind) (v : View) (i : Item) (row : Rw) → rows z i ≡ Loop row i → ((g : View) → J g value.None) → RightBy z r r (suc n) K v row → RightBy z r r n J v (Loop row i)
  loop_right r n K J v i row is j x = record { table = x.table; right = λ tabs M agree. loop_by r n K J v i row is j x tabs M agree }

  -- ---- bodies

  pub finished : (tabs : Tables) (R : Room) (n : ℕ) (K : Kind) (v : View) (e : End) (s : S) → n ≤ 0 → Goes z tabs R n K v e s → Finished z tabs v e s
  finished tabs R n K v e s le x = record {
    marks = x.marks;
    world = x.lawful.world;
    since = x.lawful.since;
    kept = x.lawful.kept;
    grows = x.grows;
    end = end_map n 0 K Anything (seen x.marks s) e le (λ y k. tt) x.end;
  }

  done_met : (tabs : Tables) (R : Room) (K : Kind) (T : Table) (v : View) (res : Res S) → Met z tabs R 0 K T v res → Done z tabs R T v res
  done_met tabs R K T v (Spent o) x = tt
  done_met tabs R K T v (Paused o s y p) x = x
  done_met tabs R K T v (Ended o s e) x = finished tabs R 0 K v e s (omega arith) x

  -- a row that goes right is a body
  pub body_right : (r R : Room) (K : Kind) (v : View) (row : Rw) → RightBy z r R 0 K v row → BodyBy z r R v row
  body_right r R K v row x = record {
    table = x.table;
    body = λ tabs M agree. let y = x.right tabs M agree in record {
      begins = λ marks s law w b le. done_met tabs R K x.table (seen marks s) _ (y.begins marks s law w b le);
      goes_on = λ p u q w how marks s law w' h b le. done_met tabs R K x.table (seen marks s) _ (y.goes_on p u q w how marks s law w' h b le);
    };
  }

  -- it may end at once, whatever its frame
  pub body_ends : (r R : Room) (v : View) (e : End) → ((more : View) → Grows v more → EndIs 0 Anything more e) → BodyBy z r R v (ends_with e)
  body_ends r R v e a = record {
    table = nowhere;
    body = λ tabs M agree. record {
      begins = λ marks s law w b le. finished tabs r 0 Anything (seen marks s) e s (omega arith) (record { marks = marks; lawful = law; grows = grows_refl (seen marks s); end = a (seen marks s) w });
      goes_on = λ p u q w how marks s law w' h b le. absurd q;
    };
  }

  done_map : (tabs : Tables) (R : Room) (T U : Table) (v more : View) (o : List ℕ) (y : Step) (res : Res S) → Grows v more → ((p : List Step) (u : View) → Grows more u → T p u → U (y ∷ p) u) → Done z tabs R T more res → Done z tabs R U v (shift o y res)
  done_map tabs R T U v more o y (Spent a) w t x = tt
  done_map tabs R T U v more o y (Paused a s b p) w t x =
      record { yields = x.yields; marks = x.marks; lawful = x.lawful; grows = grows_trans v more (seen x.marks s) w x.grows; value = x.value; place = t p (seen x.marks s) x.grows x.place }
  done_map tabs R T U v more o y (Ended a s e) w t x =
      record { marks = x.marks; world = x.world; since = x.since; kept = x.kept; grows = grows_trans v more (seen x.marks s) w x.grows; end = x.end }

  -- a row that never pauses, and a body that follows, in the room in which the row ended
  module _ (r q R : Room) (n : ℕ) (K : Kind) (v : View) (row : Rw) (k : End → Rw) (x : RightBy z (still r) (still q) n K v row) (f : (e : End) (g : View) → Grows v g → EndIs n K g e → BodyBy z q R g (k e)) where
    abbrev across_places : Table
    across_places = then_table n K v nowhere (λ e g w y. (f e g w y).table)

    module _ (tabs : Tables) (M : ℕ) (agree : Agree z tabs M) where
      across_met : (h : View) → Grows v h → (b : ℕ) → b ≤ M → (res : Res S) → Met z tabs (still q) n K x.table h res → Done z tabs R across_places h (after res (λ e t. does (rows z) (k e) Begin t b))
      across_met h w b le (Spent o) y = tt
      across_met h w b le (Paused o s a p) y = let e : false ≡ true = y.yields in absurd (cc)
      across_met h w b le (Ended o t e) y =
          let g = seen y.marks t in
          let w' : Grows v g = grows_trans v h g w y.grows in
          done_map tabs R (f e g w' y.end).table across_places h g o (Second e) (does (rows z) (k e) Begin t b) y.grows
          (λ p u c d. record { from = g; grows = w'; end = y.end; since = c; place = d })
          (((f e g w' y.end).body tabs M agree).begins y.marks t (lawful_room z tabs (still q) q (out_of_still q) y.marks t y.lawful) (grows_refl g) b le)

      across_on : (p : List Step) (u : View) → across_places p u → Grows v u → (how : How) (marks : ℕ → Mark) (s : S) → Lawful z tabs R marks s → Grows u (seen marks s) → HowIs (seen marks s) how → (b : ℕ) → b ≤ M → Done z tabs R across_places (seen marks s) (does (rows z) (Then row k) (Back p how) s b)
      across_on [] u a w how marks s law w' h b le = absurd a
      across_on (First ∷ p) u a w how marks s law w' h b le = absurd a
      across_on (Second e ∷ p) u a w how marks s law w' h b le =
          done_map tabs R (f e a.from a.grows a.end).table across_places (seen marks s) (seen marks s) [] (Second e) (does (rows z) (k e) (Back p how) s b) (grows_refl (seen marks s))
          (λ i c d y. record { from = a.from; grows = a.grows; end = a.end; since = grows_trans a.from u c a.since (grows_trans u (seen marks s) c w' d); place = y })
          (((f e a.from a.grows a.end).body tabs M agree).goes_on p u a.place a.since how marks s law w' h b le)

    pub body_then : BodyBy z r R v (Then row k)
    body_then = record {
      table = across_places;
      body = λ tabs M agree. record {
        begins = λ marks s law w b le. across_met tabs M agree (seen marks s) w b le (does (rows z) row Begin s b)
            ((x.right tabs M agree).begins marks s (lawful_room z tabs r (still r) (into_still r) marks s law) w b le);
        goes_on = λ p u q w how marks s law w' h b le. across_on tabs M agree p u q w how marks s law w' h b le;
      };
    }

  body_passed : (q R : Room) (K : Kind) (k : Value → Rw) (e : End) (g : View) → ((x : Value) → K g x → BodyBy z q R g (k x)) → EndIs 0 K g e → BodyBy z q R g (on_next k e)
  body_passed q R K k (Next x) g f y = f x y
  body_passed q R K k (Leave i) g f y = absurd (omega (arith, y))
  body_passed q R K k (Raised x) g f y = body_ends q R g (Raised x) (λ more w. thrown_more g more w x y)
  body_passed q R K k (Return x) g f y = body_ends q R g (Return x) (λ more w. there_more g more w x y)
  body_passed q R K k (Stopped kind) g f y = body_ends q R g (Stopped kind) (λ more w. tt)
  body_passed q R K k Undefined g f y = absurd y

  pub body_value : (r q R : Room) (K : Kind) (v : View) (row : Rw) (k : Value → Rw) → RightBy z (still r) (still q) 0 K v row → ((x : Value) (g : View) → Grows v g → K g x → BodyBy z q R g (k x)) → BodyBy z r R v (then_value row k)
  body_value r q R K v row k x f = body_then r q R 0 K v row (on_next k) x (λ e g w y. body_passed q R K k e g (λ a b. f a g w b) y)

  -- it begins where less is known of its frame
  pub body_room : (r q R : Room) (v : View) (row : Rw) → ((g : View) (f : Frame) → FrameLaw q g f → FrameLaw r g f) → BodyBy z r R v row → BodyBy z q R v row
  body_room r q R v row a x = record {
    table = x.table;
    body = λ tabs M agree. let y = x.body tabs M agree in record {
      begins = λ marks s law w b le. y.begins marks s (lawful_room z tabs q r a marks s law) w b le;
      goes_on = λ p u t w how marks s law w' h b le. y.goes_on p u t w how marks s law w' h b le;
    };
  }
