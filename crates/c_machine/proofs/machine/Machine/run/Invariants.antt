use Rattle.std.proofs.Common.{◌≡◌, ◌≤◌, ◌-◌, List, ℕ, None}
use Rattle.op_rules.specs.TableRules.{table_rules}
use Rattle.c_meaning.specs.Step.{step}
use Rattle.c_stack.specs.Standing.{Outside, stands, printing}
use Rattle.c_machine.specs.Calls.{counted}
use Rattle.c_machine.specs.Light.{IsLightFor}
use Rattle.c_machine.specs.Machines.{answer_at_rest}
use Rattle.c_machine.specs.Walks.{gone}
use Rattle.c_machine.proofs.Progress.{SoFar}
use Rattle.c_machine.proofs.machine.Machine.run.Given as goal

-- each step so far was taken, and none was the last; where all take no memory they do the same whatever is outside
abbrev pub invariant-loop-taken : goal.invariant-loop-taken
invariant-loop-taken g l = record {
  few : l.taken ≤ l.steps;
  code : l.self.code ≡ l.fn.self.code;
  works : answer_at_rest l.self ≡ None;
  steps : l.self.steps ≡ counted l.fn.self.steps l.taken;
  faults : g.O.Sink.faults l.out ≡ g.O.Sink.faults l.fn.out;
  input_faults : g.I.Source.faults l.input ≡ g.I.Source.faults l.fn.input;
  so_far : SoFar l.fn.input l.input (g.I.Source.left l.fn.input) (g.I.Source.left l.input) (g.O.Sink.held l.fn.out) (g.O.Sink.held l.out) l.fn.self.code l.steps l.taken l.fn.self.standing l.self.standing l.fn.self.lines l.self.lines;
  light : IsLightFor l.fn.self.code l.steps l.fn.self.standing → (piece : List ℕ) × ((w : Outside) → gone (step table_rules l.fn.self.code) l.taken (stands l.fn.self.standing w) ≡ stands l.self.standing (printing w piece));
}

abbrev pub decreases-loop-taken : goal.decreases-loop-taken
decreases-loop-taken g l = l.steps - l.taken
