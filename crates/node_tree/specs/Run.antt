-- The runs of node trees.
use Rattle.std.specs.Prelude.{ℕ, Bool, List, [], ◌++◌, map, take, length, Option, Some, None, ◌&&◌, nat_le, if◌then◌else◌, slice_get}
use Rattle.nu_run.specs.Runs.{Run}
use Rattle.nu_value.specs.declared.header.Header.{Header}
use Rattle.nu_value.specs.declared.value.Value.{Value}
use Rattle.nu_calls.specs.Calls.{of_kind}
use Rattle.op_forms.specs.Rules.{Rules}
use Rattle.nu_calls.specs.Scripts.{Program, program_run}
use Rattle.node_tree.specs.declared.script.NodeCode.{NodeCode}
use Rattle.node_tree.specs.declared.script.NodeScript.{NodeScript}
use Rattle.node_tree.specs.Tree.{code_block}
use Rattle.node_tree.specs.Nodes.{Frame, Item, OfCode, L, block_row, item_row}

-- the parameters and the free cells are the first temporaries; a code begins where there is a value for each
abbrev pub begun_frame : Bool → ℕ → List Value → List Value → Option NodeCode → Option Frame
begun_frame kind code given cells None = None
begun_frame kind code given cells (Some c) =
    if of_kind kind c.header.generator && (nat_le (length c.header.params) (length given) && nat_le c.free (length cells)) then Some (record { code = code; given = given; cells = cells; temps = slice_get (take (length c.header.params) given ++ take c.free cells) }) else None

-- what stands before the body of a code
abbrev pub header : NodeCode → Header
header c = c.header

abbrev pub language : Rules → NodeScript → L
language rules script = record {
  rules = rules;
  scripts = script.scripts;
  body = OfCode;
  frame = λ kind code given cells. begun_frame kind code given cells (slice_get script.codes code);
  code = λ f. f.code;
}

abbrev pub blank : Frame
blank = record { code = 0; given = []; cells = []; temps = λ t. None }

abbrev pub program : Rules → NodeScript → Program Frame Item
program rules script = record {
  language = language rules script;
  rows = item_row (language rules script) (code_block script.codes);
  body = λ code. block_row (language rules script) (code_block script.codes code);
  blank = blank;
  headers = map header script.codes;
}

-- the run of a node tree over an input
abbrev pub node_run : Rules → NodeScript → List ℕ → ℕ → Run
node_run rules script input = program_run (program rules script) script.name input
