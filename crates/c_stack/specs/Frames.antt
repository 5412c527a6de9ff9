-- Functions that wait and go on.
use Rattle.std.specs.Prelude.{◌≡◌, List, [], ◌∷◌, None}
use Rattle.nu_value.specs.declared.header.Header.{Header}
use Rattle.op_rules.specs.Start.{start_world}
use Rattle.op_rules.specs.TableRules.{table_rules}
use Rattle.nu_calls.specs.Ends.{world_of}
use Rattle.c_meaning.specs.declared.code.Code.{Code}
use Rattle.c_meaning.specs.declared.state.Purpose.TheVariants as purpose
use Rattle.c_meaning.specs.Step as meaning
use Rattle.c_stack.specs.declared.execution.Execution.{Execution}
use Rattle.c_stack.specs.declared.frames.Site.{Site}

abbrev pub site : Site → meaning.Site
site x = record { to = x.to; line = x.line; goal = x.goal }

-- the function that waited runs, in the names of its module
pub record GoesBack (c : Code) (x y : Execution) : Type 0 where
  pub below : x.below ≡ y.running ∷ y.below
  pub world : y.world ≡ world_of table_rules c.scripts x.world y.running.function
  pub kept : y.kept ≡ x.kept
  pub uncaught : y.uncaught ≡ x.uncaught

-- before any function has begun
abbrev pub first_execution : List Header → Execution
first_execution headers = record {
  running = record { function = 0; place = 0; registers = []; slots = []; arguments = []; cells = []; pending = None; purpose = purpose.Module };
  below = [];
  kept = [];
  world = start_world headers;
  uncaught = None;
}
