-- What a run drew from its input, whether that tells its bytes or not.
use Rattle.std.proofs.Common.{◌≡◌, ℕ, zero, suc, inl, inr, List, [], ◌++◌, refl, sym, ◌∙◌, ap, subst, arith, Option, Some, None, IfSome, Result, Err, true, false}
use Rattle.std.specs.Prelude.{◌⊎◌}
use Rattle.nu_base.specs.Outside.{Adds}
use Rattle.nu_run.specs.Runs.{Going}
use Rattle.nu_run.specs.Steps.{Stepped, More, Halt, on_step, run}
use Rattle.op_rules.specs.TableRules.{table_rules}
use Rattle.c_meaning.specs.declared.program.CProgram.{CProgram}
use Rattle.c_meaning.specs.Code.{code_of}
use Rattle.c_meaning.specs.State.{printed_in}
use Rattle.c_meaning.specs.Step.{step}
use Rattle.c_meaning.specs.Run.{start, c_run}
use Rattle.c_meaning.specs.Written.{IsText}
use Rattle.c_reader.proofs.Programs.{one_program}
use Rattle.c_stack.specs.Standing.{state_of, stands}
use Rattle.c_input.specs.declared.input.Buffer.{Buffer}
use Rattle.c_input.specs.Lines.{Drained}
use Rattle.c_machine.specs.declared.ending.Stepped.{Stepped as Answer}
use Rattle.c_machine.specs.declared.ending.Trouble.{Trouble}
use Rattle.c_machine.specs.declared.ending.Trouble.TheVariants as trouble
use Rattle.c_machine.specs.Calls.{Ran, Runs}
use Rattle.c_machine.specs.Inputs.{Follows, LastAsk, asks, over}
use Rattle.c_machine.specs.Machines.{IsFresh, Seen, run_from}
use Rattle.c_machine.specs.Walks.{gone}
use Rattle.nuit_lib.specs.Asking.{AsksLast, AsksLine, TakesFew}
use Rattle.nuit_lib.specs.Ends.{RunTakes, TakesFront}

-- the input that is told, or some input: what was taken and what is left
pub record Drawn (before after : Option (List ℕ)) (taken : List ℕ) (lines : Buffer) : Type 0 where
  pub left : List ℕ
  pub given : IfSome before (λ told. told ≡ left)
  pub rest : List ℕ
  pub is : left ≡ taken ++ rest
  pub is_left : IfSome before (λ told. after ≡ Some rest)
  pub follows : Follows lines rest

same_rest : (a b : List ℕ) → Some a ≡ Some b → a ≡ b
same_rest a b e = cc

drawn : (before after : Option (List ℕ)) (taken : List ℕ) (old new : Buffer) → old.ended ≡ false → Drained before after old new taken → Drawn before after taken new
drawn None after taken old new fresh d = record { left = taken ++ []; given = tt; rest = []; is = refl; is_left = tt; follows = λ is. refl }
drawn (Some told) after taken old new fresh d = record {
  left = told;
  given = refl;
  rest = d.drains.0;
  is = d.drains.1;
  is_left = d.drains.2;
  follows = λ is. same_rest d.drains.0 [] (sym d.drains.2 ∙ d.ended is (λ was. absurd (let e : true ≡ false = sym was ∙ fresh in cc)));
}

-- nothing was taken
pub takes_none : (a : Option (List ℕ)) → TakesFront a a
takes_none None = ([], tt)
takes_none (Some bytes) = ([], (bytes, refl, refl))

pub takes_nothing : {A : Type 0} (bytes : List ℕ) (steps : ℕ) (i : A) (before after : Option (List ℕ)) → RunTakes bytes steps i i before after
takes_nothing bytes steps i before after left p told text = inl refl

-- where steps lead, the run has printed what that state has
run_gone : {S : Type 0} (step : S → Stepped S) (printed : S → List ℕ) (k : ℕ) (x : Stepped S) (s : S) → gone step k x ≡ More s → on_step x (run step printed k) ≡ Going (printed s)
run_gone step printed zero x s e = ap (λ y. on_step y (run step printed zero)) e
run_gone step printed (suc k) (More t) s e = run_gone step printed k (step t) s e
run_gone step printed (suc k) (Halt o end) s e = absurd (let h : Halt o end ≡ More s = e in cc)

module _ {A : Type 0} (n : ℕ) (i j : A) (before after held held' : Option (List ℕ)) (old new : Seen) (r : Result Answer Trouble) (p : CProgram) (fresh : IsFresh old p) (ran : Ran n i j before after held held' old new r) where
  pub input_of : Drawn before after ran.taken new.lines
  input_of = drawn before after ran.taken old.lines new.lines (ap (λ l. l.ended) fresh.lines) ran.drained

  whole : old.lines.left ++ (ran.taken ++ input_of.rest) ≡ input_of.left
  whole = ap (λ l. l.left ++ (ran.taken ++ input_of.rest)) fresh.lines ∙ sym input_of.is

  -- the run is that of the program over this input
  pub ran_over : Runs (c_run table_rules p input_of.left n) held held' new.standing.end r
  ran_over = subst (λ x. Runs x held held' new.standing.end r) (ap (λ l. run_from old l n) whole ∙ fresh.runs input_of.left n) (ran.runs input_of.rest input_of.follows)

  asks_line : (ask : LastAsk old.code n old.standing old.lines new.lines ran.taken) → AsksLine p input_of.left n ask.printed (ask.front ++ (ask.chunk ++ input_of.rest))
  asks_line ask =
      let there = state_of ask.asking (over ask.printed (ask.front ++ (ask.chunk ++ input_of.rest))) in
      let begin = ap (λ l. stands old.standing (over [] l)) whole ∙ fresh.first input_of.left in
      let leads : gone (step table_rules old.code) ask.before (start table_rules p input_of.left) ≡ More there =
      subst (λ x. gone (step table_rules old.code) ask.before x ≡ More there) begin (ask.leads input_of.rest input_of.follows) in
      let stands : gone (step table_rules (code_of p)) ask.before (start table_rules p input_of.left) ≡ More there =
      subst (λ c. gone (step table_rules c) ask.before (start table_rules p input_of.left) ≡ More there) fresh.holds leads in
      record {
        behind = ask.before;
        fewer = ask.within;
        runs = run_gone (step table_rules (code_of p)) printed_in ask.before (start table_rules p input_of.left) there stands;
        asking = ask.asking;
        asked = subst (λ c. asks c ask.asking ≡ true) fresh.holds ask.asked;
        stands = stands;
      }

  -- what it took
  few_told : (left : List ℕ) → before ≡ Some left → TakesFew p left n i j after
  few_told left told = go ran.few
    where
      same : input_of.left ≡ left
      same = sym (subst (λ o. IfSome o (λ told. told ≡ input_of.left)) told input_of.given)

      is_left : after ≡ Some input_of.rest
      is_left = subst (λ o. IfSome o (λ told. after ≡ Some input_of.rest)) told input_of.is_left

      go : ((j ≡ i) × (ran.taken ≡ [])) ⊎ LastAsk old.code n old.standing old.lines new.lines ran.taken → TakesFew p left n i j after
      go (inl h) = inl h.0
      go (inr ask) = inr (record {
        printed = ask.printed;
        front = ask.front;
        chunk = ask.chunk;
        rest = input_of.rest;
        is_left = is_left;
        last = record { part = ask.part; few = ask.few; asks = subst (λ l. AsksLine p l n ask.printed (ask.front ++ (ask.chunk ++ input_of.rest))) same (asks_line ask) };
      })

  pub few_of : (bytes : List ℕ) → IsText bytes p → RunTakes bytes n i j before after
  few_of bytes text left q told other = subst (λ z. TakesFew z left n i j after) (one_program bytes p q text other) (few_told left told)

  -- where the input failed
  pub record Halted : Type 0 where
    pub printed : List ℕ
    pub front : List ℕ
    pub last : AsksLast p input_of.left n printed front [] input_of.rest
    pub adds : Adds held held' printed

  pub halted : r ≡ Err trouble.ReadFault → Halted
  halted e =
      let f = ran.fault e in
      record {
        printed = f.0.printed;
        front = f.0.front;
        last = record { part = f.0.part; few = omega arith; asks = subst (λ l. AsksLine p input_of.left n f.0.printed (f.0.front ++ (l ++ input_of.rest))) f.1 (asks_line f.0) };
        adds = f.2;
      }
